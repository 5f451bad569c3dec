-- Items that are taken one by one.
use Rattle.std.proofs.Common.{◌≡◌, ℕ, ◌+◌, ◌<◌, List, ◌∷◌, ◌++◌, length, get_or, drop, sym, ap, ◌∙◌}
use Rattle.std.proofs.lemmas.List.{append_assoc, drop_more}
use Rattle.std.specs.List.{flat_map}
use Rattle.rpsl_reader.specs.declared.item.Item.{Item}

-- what was found with one item more, and what the others say
pub taken : {B : Type 0} (f : Item → List B) (items : List Item) (before after all : List B)
    (item : Item) (index : ℕ) → index < length items → item ≡ get_or items index item
    → after ≡ before ++ f item → before ++ flat_map f (drop index items) ≡ all
    → after ++ flat_map f (drop (index + 1) items) ≡ all
taken f items before after all item index inside same found is =
    let rest = drop (index + 1) items in
    let left : drop index items ≡ item ∷ rest =
    drop_more items index item inside ∙ ap (λ x. x ∷ rest) (sym same) in
    ap (λ t. t ++ flat_map f rest) found
    ∙ append_assoc before (f item) (flat_map f rest)
    ∙ ap (λ t. before ++ flat_map f t) (sym left)
    ∙ is
