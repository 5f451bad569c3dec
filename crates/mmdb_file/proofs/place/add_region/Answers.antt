use Rattle.std.proofs.Common.{◌≡◌, ◌∙◌, ◌==◌, ℕ, false, List, [], ◌∷◌, ◌++◌, length, OnOk, codes}
use Rattle.std.proofs.Common.{sym, refl, ap, subst}
use Rattle.std.proofs.Common.{map as map_list}
use Rattle.mmdb_data.specs.ValueTree.{ValueTree}
use Rattle.mmdb_data.specs.View.{pair_view}
use Rattle.mmdb_file.specs.PlaceValue.{unless_empty}
use Rattle.mmdb_file.proofs.place.add_region.Goals as goal

member_is : (text key : List ℕ) (value : ValueTree) → (length text == 0) ≡ false
    → (key, value) ∷ [] ≡ unless_empty text key value
member_is [] key value some = cc
member_is (b ∷ bytes) key value some = refl

pub returns : goal.returns
returns c =
    let same =
    ap (λ (t : ValueTree). (codes "subdivisions", t) ∷ []) c.in_ok-subdivisions.ensures ∙ member_is
    c.args.region.now (codes "subdivisions") _ (sym c.is_empty.ensures ∙ c.if-is_empty.false) in
    subst (λ (m : List (List ℕ × ValueTree)). OnOk c.add.result
    (map_list pair_view c.add.new.members.items ≡ map_list pair_view c.args.members.now.items ++ m))
    same c.add.ensures
