use Rattle.std.proofs.Common.{◌≡◌, ◌∙◌, ◌==◌, ℕ, false, List, [], ◌∷◌, ◌++◌, length, sym, refl, ap}
use Rattle.std.proofs.Common.{map as map_list}
use Rattle.std.proofs.lemmas.List.{map-append}
use Rattle.mmdb_data.specs.ValueTree.{ValueTree}
use Rattle.mmdb_data.specs.Member.{member_pair, nested}
use Rattle.mmdb_file.specs.PlaceValue.{unless_empty}
use Rattle.mmdb_file.proofs.place_members.add_member.Goals as goal

member_is : (told key : List ℕ) (value : ValueTree) → (length told == 0) ≡ false
    → (key, value) ∷ [] ≡ unless_empty told key value
member_is [] key value some = cc
member_is (b ∷ bytes) key value some = refl

pub returns : goal.returns
returns c =
    ap (map_list member_pair) c.in_ok-push.ensures.items
    ∙ map-append member_pair c.args.members.now.items (_ ∷ [])
    ∙ ap (λ (m : List (List ℕ × ValueTree)). map_list member_pair c.args.members.now.items ++ m)
    (member_is c.args.told.now c.args.key.now (nested c.args.around.now c.args.text.now)
    (sym c.is_empty.ensures ∙ c.if-is_empty.false))
