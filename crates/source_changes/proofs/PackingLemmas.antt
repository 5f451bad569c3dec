-- Packed grounds, one behind the other.
use Rattle.std.proofs.Common.{◌≡◌, ◌∙◌, ℕ, ◌+◌, ◌<◌, ◌≤◌, Bool, true, false, cond, List, []}
use Rattle.std.proofs.Common.{◌∷◌, ◌++◌, length, refl, sym, ap, arith, take, Option, None, Some}
use Rattle.std.specs.Bool.{◌==◌}
use Rattle.std.specs.List.{filter}
use Rattle.std.specs.Option.{option_to_list}
use Rattle.std.specs.Prelude.{IsSome, IsTrue}
use Rattle.std.proofs.lemmas.List.{append-nil, length-append, take-append-le}
use Rattle.std.proofs.lemmas.Bool.Decides.{nat_tests}
use Rattle.std.proofs.lemmas.List.Elements.{filter-append}
use Rattle.geo_addr.specs.Ranges.{Ends}
use Rattle.source_changes.specs.Packing.{ArePlaced, ends_of, is_place, unpacked}
use Rattle.source_changes.specs.declared.ground_list.Packed.{Packed}

-- the places among one more pair
counted : (p : Packed) (ps : List Packed) (b : Bool) → is_place p ≡ b
    → length (filter is_place (p ∷ ps))
    ≡ length (cond b (p ∷ filter is_place ps) (filter is_place ps))
counted p ps b is =
    ap (λ (x : Bool). length (cond x (p ∷ filter is_place ps) (filter is_place ps))) is

-- what one more pair unpacks to
place_first : (p : Packed) (ps : List Packed) (r : Ends) (rs : List Ends) → is_place p ≡ true
    → unpacked (p ∷ ps) (r ∷ rs) ≡ r ∷ unpacked ps rs
unfolding unpacked
place_first p ps r rs is =
    ap (λ (b : Bool). cond b (r ∷ unpacked ps rs) (ends_of p ∷ unpacked ps (r ∷ rs))) is

ground_first : (p : Packed) (ps : List Packed) (rs : List Ends) → is_place p ≡ false
    → unpacked (p ∷ ps) rs ≡ ends_of p ∷ unpacked ps rs
unfolding unpacked
ground_first p ps [] is = ap (λ (b : Bool). cond b [] (ends_of p ∷ unpacked ps [])) is
ground_first p ps (r ∷ rs) is =
    ap (λ (b : Bool). cond b (r ∷ unpacked ps rs) (ends_of p ∷ unpacked ps (r ∷ rs))) is

-- the grounds of two lists that are packed one behind the other
both_by : (p : Packed) (ps qs : List Packed) (ss : List Ends)
    → ((rs : List Ends) → ArePlaced ps rs
    → unpacked (ps ++ qs) (rs ++ ss) ≡ unpacked ps rs ++ unpacked qs ss)
    → (b : Bool) → is_place p ≡ b → (rs : List Ends) → ArePlaced (p ∷ ps) rs
    → unpacked (p ∷ (ps ++ qs)) (rs ++ ss) ≡ unpacked (p ∷ ps) rs ++ unpacked qs ss
both_by p ps qs ss later true is [] are = absurd (omega (arith, counted p ps true is, are))
both_by p ps qs ss later true is (r ∷ rs) are =
    place_first p (ps ++ qs) r (rs ++ ss) is
    ∙ ap (λ (gs : List Ends). r ∷ gs) (later rs (omega (arith, counted p ps true is, are)))
    ∙ ap (λ (gs : List Ends). gs ++ unpacked qs ss) (sym (place_first p ps r rs is))
both_by p ps qs ss later false is rs are =
    ground_first p (ps ++ qs) (rs ++ ss) is
    ∙ ap (λ (gs : List Ends). ends_of p ∷ gs)
    (later rs (omega (arith, counted p ps false is, are)))
    ∙ ap (λ (gs : List Ends). gs ++ unpacked qs ss) (sym (ground_first p ps rs is))

pub both_packed : (ps qs : List Packed) (rs ss : List Ends) → ArePlaced ps rs
    → unpacked (ps ++ qs) (rs ++ ss) ≡ unpacked ps rs ++ unpacked qs ss
unfolding unpacked
both_packed [] qs [] ss are = refl
both_packed [] qs (r ∷ rs) ss are = absurd (omega (arith, are))
both_packed (p ∷ ps) qs rs ss are =
    both_by p ps qs ss (λ xs. both_packed ps qs xs ss) (is_place p) refl rs are

-- there are as many grounds as pairs
length_by : (p : Packed) (ps : List Packed)
    → ((rs : List Ends) → ArePlaced ps rs → length (unpacked ps rs) ≡ length ps)
    → (b : Bool) → is_place p ≡ b → (rs : List Ends) → ArePlaced (p ∷ ps) rs
    → length (unpacked (p ∷ ps) rs) ≡ length (p ∷ ps)
length_by p ps later true is [] are = absurd (omega (arith, counted p ps true is, are))
length_by p ps later true is (r ∷ rs) are =
    ap length (place_first p ps r rs is)
    ∙ omega (arith, later rs (omega (arith, counted p ps true is, are)))
length_by p ps later false is rs are =
    ap length (ground_first p ps rs is)
    ∙ omega (arith, later rs (omega (arith, counted p ps false is, are)))

pub length_unpacked : (ps : List Packed) (rs : List Ends) → ArePlaced ps rs
    → length (unpacked ps rs) ≡ length ps
unfolding unpacked
length_unpacked [] rs are = refl
length_unpacked (p ∷ ps) rs are = length_by p ps (length_unpacked ps) (is_place p) refl rs are

-- one more pair that is a ground
pub push_ground : (ps : List Packed) (rs : List Ends) (p : Packed) → ArePlaced ps rs
    → p.first ≤ p.last → unpacked (ps ++ p ∷ []) rs ≡ unpacked ps rs ++ ends_of p ∷ []
unfolding unpacked
push_ground ps rs p are le =
    ap (λ (xs : List Ends). unpacked (ps ++ p ∷ []) xs) (sym (append-nil rs))
    ∙ both_packed ps (p ∷ []) rs [] are
    ∙ ap (λ (xs : List Ends). unpacked ps rs ++ xs) (one (grind (arith, nat_tests)))
  where
    one : is_place p ≡ false → unpacked (p ∷ []) [] ≡ ends_of p ∷ []
    one is = ground_first p [] [] is

-- one more pair that is the place of one more ground
pub push_other : (ps : List Packed) (rs : List Ends) (p : Packed) (r : Ends) → ArePlaced ps rs
    → p.last < p.first
    → unpacked (ps ++ p ∷ []) (rs ++ r ∷ []) ≡ unpacked ps rs ++ r ∷ []
unfolding unpacked
push_other ps rs p r are lt =
    both_packed ps (p ∷ []) rs (r ∷ []) are
    ∙ ap (λ (xs : List Ends). unpacked ps rs ++ xs) (one (grind (arith, nat_tests)))
  where
    one : is_place p ≡ true → unpacked (p ∷ []) (r ∷ []) ≡ r ∷ []
    one is = place_first p [] r [] is

-- the places among one pair more at the end
counted_last : (ps : List Packed) (p : Packed)
    → length (filter is_place (ps ++ p ∷ []))
    ≡ length (filter is_place ps) + length (filter is_place (p ∷ []))
counted_last ps p =
    ap length (filter-append is_place ps (p ∷ []))
    ∙ length-append (filter is_place ps) (filter is_place (p ∷ []))

-- the places without the last pair
pub placed_before : (all ps : List Packed) (rs : List Ends) (p : Packed) → ArePlaced all rs
    → all ≡ ps ++ p ∷ [] → p.first ≤ p.last → ArePlaced ps rs
placed_before all ps rs p are is le =
    omega (
      arith,
      are,
      ap (λ (xs : List Packed). length (filter is_place xs)) is,
      counted_last ps p,
      counted p [] false (grind (arith, nat_tests)),
    )

-- the last pair is taken off, and with it the ground beside whose place it is
pub drop_ground : (all ps : List Packed) (rs : List Ends) (p : Packed) → ArePlaced all rs
    → all ≡ ps ++ p ∷ [] → p.first ≤ p.last → unpacked all rs ≡ unpacked ps rs ++ ends_of p ∷ []
drop_ground all ps rs p are is le =
    ap (λ (xs : List Packed). unpacked xs rs) is
    ∙ push_ground ps rs p (placed_before all ps rs p are is le) le

pub placed_without : (all ps : List Packed) (rs rest : List Ends) (p : Packed) (o : Option Ends)
    → ArePlaced all rs → all ≡ ps ++ p ∷ [] → p.last < p.first → rs ≡ rest ++ option_to_list o
    → (0 < length rs → IsSome o) → ArePlaced ps rest
placed_without all ps rs rest p (Some r) are is lt beside some =
    omega (
      arith,
      are,
      ap (λ (xs : List Packed). length (filter is_place xs)) is,
      counted_last ps p,
      counted p [] true (grind (arith, nat_tests)),
      ap length beside,
      length-append rest (r ∷ []),
    )
placed_without all ps rs rest p None are is lt beside some =
    absurd (let f : false ≡ true = some (omega (
      arith,
      are,
      ap (λ (xs : List Packed). length (filter is_place xs)) is,
      counted_last ps p,
      counted p [] true (grind (arith, nat_tests)),
    )) in cc)

pub drop_other : (all ps : List Packed) (rs rest : List Ends) (p : Packed) (o : Option Ends)
    → ArePlaced all rs → all ≡ ps ++ p ∷ [] → p.last < p.first → rs ≡ rest ++ option_to_list o
    → (0 < length rs → IsSome o) → (g : Ends) × (unpacked all rs ≡ unpacked ps rest ++ g ∷ [])
drop_other all ps rs rest p (Some r) are is lt beside some = (
  r,
  (λ i. unpacked (is i) (beside i))
      ∙ push_other ps rest p r (placed_without all ps rs rest p (Some r) are is lt beside some) lt,
)
drop_other all ps rs rest p None are is lt beside some =
    absurd (let f : false ≡ true = some (omega (
      arith,
      are,
      ap (λ (xs : List Packed). length (filter is_place xs)) is,
      counted_last ps p,
      counted p [] true (grind (arith, nat_tests)),
    )) in cc)

-- no pair is no ground
pub none_packed : (ps : List Packed) (rs : List Ends) → length ps ≡ 0 → unpacked ps rs ≡ []
unfolding unpacked
none_packed [] rs none = refl
none_packed (p ∷ ps) rs none = absurd (omega (arith, none))

-- a list is empty where its length is tested to be zero
pub tested_empty : (xs : List Ends) (n : ℕ) → n ≡ length xs
    → (IsTrue (n == 0) → xs ≡ []) × (xs ≡ [] → IsTrue (n == 0))
tested_empty [] n is = ((λ e. refl), (λ e. grind (arith, nat_tests)))
tested_empty (x ∷ xs) n is = (
  (λ e. absurd (grind (arith, nat_tests))),
  (λ e. absurd (omega (arith, ap length e))),
)

-- the first of the pairs is taken
pub take_ground : (all ps : List Packed) (rs : List Ends) (p : Packed) → all ≡ p ∷ ps
    → p.first ≤ p.last → unpacked all rs ≡ ends_of p ∷ unpacked ps rs
take_ground all ps rs p is le =
    ap (λ (xs : List Packed). unpacked xs rs) is ∙ ground_first p ps rs (grind (arith, nat_tests))

pub take_other : (all ps : List Packed) (every rs : List Ends) (p : Packed) (r : Ends)
    → all ≡ p ∷ ps → every ≡ r ∷ rs → p.last < p.first
    → unpacked all every ≡ r ∷ unpacked ps rs
take_other all ps every rs p r is beside lt =
    (λ i. unpacked (is i) (beside i)) ∙ place_first p ps r rs (grind (arith, nat_tests))

-- of a list with one more at its end the first ones are the same
pub take_before : (n : ℕ) (all rest : List Ends) (r : Ends) → all ≡ rest ++ r ∷ []
    → n < length all → take n rest ≡ take n all
take_before n all rest r is lt =
    sym (ap (take n) is ∙ take-append-le n rest (r ∷ [])
    (omega (arith, ap length is, length-append rest (r ∷ []), lt)))
