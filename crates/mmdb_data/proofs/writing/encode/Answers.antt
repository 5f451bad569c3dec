use Rattle.std.proofs.Common.{◌≡◌, List, ℕ, ◌++◌, length, ap, ◌∙◌, append_assoc}
use Rattle.mmdb_data.specs.Spelling.{spelling}
use Rattle.mmdb_data.specs.Reading.{reads}
use Rattle.mmdb_data.specs.View.{value_tree}
use Rattle.mmdb_data.proofs.ReadsBack.{is_read_again}
use Rattle.mmdb_data.proofs.writing.encode.Goals as goal

pub returns-clause-read_back : goal.returns-clause-read_back
returns-clause-read_back c =
    λ within after.
    let value = value_tree c.args.value.now in
    let before = c.args.out.now.items in
    let whole = c.in_ok-extend_from_slice.ensures.items in
    let from = c.deref.ensures.value in
    let spelled = c.in_ok-put_value.ensures.spelled in
    let empty = c.in_ok-spelled.ensures.items in
    let typed = c.in_ok-put_value.ensures.typed in
    let is : c.extend_from_slice.new.self.items ≡ before ++ spelling value =
    whole ∙ ap (λ (x : List ℕ). before ++ x)
    (from ∙ spelled ∙ ap (λ (x : List ℕ). x ++ spelling value) empty) in
    ap (λ (x : List ℕ). reads (x ++ after) (length before)) is
    ∙ ap (λ (s : List ℕ). reads s (length before)) (append_assoc before (spelling value) after)
    ∙ is_read_again value before after c.requires typed within
