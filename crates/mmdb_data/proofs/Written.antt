-- A container is written once its head and its parts are.
use Rattle.std.proofs.Common.{◌≡◌, ℕ, List, ◌++◌, Result, Ok, Err, ap, ◌∙◌, append_assoc}
use Rattle.std.specs.Prelude.{OnOk}
use Rattle.mmdb_data.specs.ValueTree.{Members, Items, map, list, members_len, items_len}
use Rattle.mmdb_data.specs.Spelling.{head, spelling, members_spelling, items_spelling}

pub map_written : {T E : Type 0} (r : Result T E) (new mid old : List ℕ) (len : ℕ) (pairs : Members)
    → len ≡ members_len pairs → mid ≡ old ++ head 7 len
    → OnOk r (new ≡ mid ++ members_spelling pairs) → OnOk r (new ≡ old ++ spelling (map pairs))
map_written (Ok x) new mid old len pairs is_len first second =
    second ∙ ap (λ (m : List ℕ). m ++ members_spelling pairs)
    (first ∙ ap (λ (k : ℕ). old ++ head 7 k) is_len)
    ∙ append_assoc old (head 7 (members_len pairs)) (members_spelling pairs)
map_written (Err e) new mid old len pairs is_len first second = tt

pub list_written : {T E : Type 0} (r : Result T E) (new mid old : List ℕ) (len : ℕ) (items : Items)
    → len ≡ items_len items → mid ≡ old ++ head 11 len
    → OnOk r (new ≡ mid ++ items_spelling items) → OnOk r (new ≡ old ++ spelling (list items))
list_written (Ok x) new mid old len items is_len first second =
    second ∙ ap (λ (m : List ℕ). m ++ items_spelling items)
    (first ∙ ap (λ (k : ℕ). old ++ head 11 k) is_len)
    ∙ append_assoc old (head 11 (items_len items)) (items_spelling items)
list_written (Err e) new mid old len items is_len first second = tt
