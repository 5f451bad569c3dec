-- Numbers that stand for places: in a list that grows, in the table of
-- a run and in that of a session.
use Rattle.std.proofs.Common.{◌≡◌, ℕ, zero, suc, ◌+◌, ◌<◌, ◌≤◌, List, [], ◌∷◌, ◌++◌, length, map}
use Rattle.std.proofs.Common.{take, add-one}
use Rattle.std.proofs.Common.{get_or, Option, Some, refl, sym, ap, ap₂, ◌∙◌, subst, arith}
use Rattle.std.proofs.Common.{length-append}
use Rattle.std.specs.Prelude.{slice_get}
use Rattle.std.specs.List.{AllByRecursion}
use Rattle.geo_addr.specs.Ranges.{Ends}
use Rattle.geo_terms.specs.Precedence.{spoken_at}
use Rattle.geo_terms.specs.Sources.{InForce}
use Rattle.std.proofs.lemmas.List.{length-map, map-append}
use Rattle.std.proofs.Math.Seq.{take-suc}
use Rattle.std.proofs.Math.ListN.{get_or-map}
use Rattle.geo_terms.specs.Numbers.{place_at}
use Rattle.geo_terms.specs.PlaceForm.{PlaceParts}
use Rattle.update_session.specs.Build.{IsChosen, IsKnown, StandFor, renamed}
use Rattle.update_session.specs.Kept.{GrowsBy}
use Rattle.update_session.proofs.BuildLemmas.{place_at-grown}
use Rattle.update_session.specs.declared.choosing.Chosen.{Chosen}

-- ---- what numbers stand for

abbrev Known : List PlaceParts → List ℕ → Type 0
Known places leaves = AllByRecursion (λ leaf. leaf ≤ length places) leaves

known_longer : (before more : List PlaceParts) (leaves : List ℕ) → Known before leaves
    → Known (before ++ more) leaves
known_longer before more [] known = tt
known_longer before more (leaf ∷ leaves) known =
    (omega (arith, known.0, length-append before more), known_longer before more leaves known.1)

same_longer : (before more : List PlaceParts) (leaves : List ℕ) → Known before leaves
    → map (place_at (before ++ more)) leaves ≡ map (place_at before) leaves
same_longer before more [] known = refl
same_longer before more (leaf ∷ leaves) known =
    ap₂ (λ (x : Option PlaceParts) (xs : List (Option PlaceParts)). x ∷ xs)
    (place_at-grown before more leaf known.0) (same_longer before more leaves known.1)

-- they stand for the same where the list grows
pub StandFor-grown : (before after : List PlaceParts) (n : ℕ) (leaves : List ℕ)
    (said : List (Option PlaceParts)) → GrowsBy before after n → StandFor before leaves said
    → StandFor after leaves said
StandFor-grown before after n leaves said (more, after-is, few) h =
    subst (λ (places : List PlaceParts). StandFor places leaves said) (sym after-is)
    (record {
      known = known_longer before more leaves h.known;
      means = same_longer before more leaves h.known ∙ h.means;
    })

known_both : (places : List PlaceParts) (xs ys : List ℕ) → Known places xs → Known places ys
    → Known places (xs ++ ys)
known_both places [] ys h k = k
known_both places (x ∷ xs) ys h k = (h.0, known_both places xs ys h.1 k)

-- numbers behind numbers stand for what both do
pub StandFor-both : (places : List PlaceParts) (xs ys : List ℕ)
    (said more : List (Option PlaceParts))
    → StandFor places xs said → StandFor places ys more → StandFor places (xs ++ ys) (said ++ more)
StandFor-both places xs ys said more h k = record {
  known = known_both places xs ys h.known k.known;
  means =
      map-append (place_at places) xs ys
      ∙ ap₂ (λ (us vs : List (Option PlaceParts)). us ++ vs) h.means k.means;
}

-- one number does for what it stands for
pub StandFor-one : (places : List PlaceParts) (leaf : ℕ) (said : Option PlaceParts)
    → leaf ≤ length places → place_at places leaf ≡ said → StandFor places (leaf ∷ []) (said ∷ [])
StandFor-one places leaf said few is =
    record { known = (few, tt); means = ap (λ (x : Option PlaceParts). x ∷ []) is }

-- ---- a run's numbers by those of its places

named_at : (places local : List PlaceParts) (names : List ℕ) (i : ℕ) → Known places names
    → map (place_at places) names ≡ map Some local → i < length local
    → (get_or names i 0 ≤ length places) × (place_at places (get_or names i 0) ≡ slice_get local i)
named_at places [] names i known said below = absurd (omega arith)
named_at places (p ∷ ps) [] i known said below =
    absurd (let e : [] ≡ Some p ∷ map Some ps = said in cc)
named_at places (p ∷ ps) (n ∷ ns) zero known said below =
    let e : place_at places n ∷ map (place_at places) ns ≡ Some p ∷ map Some ps = said in
    let first : place_at places n ≡ Some p = cc in
    (known.0, first)
named_at places (p ∷ ps) (n ∷ ns) (suc i) known said below =
    let e : place_at places n ∷ map (place_at places) ns ≡ Some p ∷ map Some ps = said in
    let rest : map (place_at places) ns ≡ map Some ps = cc in
    named_at places ps ns i known.1 rest (omega arith)

renamed_one : (places local : List PlaceParts) (names : List ℕ) (leaf : ℕ)
    → StandFor places names (map Some local) → leaf ≤ length local
    → (renamed names leaf ≤ length places)
    × (place_at places (renamed names leaf) ≡ place_at local leaf)
renamed_one places local names zero h few = (omega arith, refl)
renamed_one places local names (suc i) h few =
    named_at places local names i h.known h.means (omega arith)

-- renamed numbers stand in the session's table for what they did in the run's
pub StandFor-renamed : (places local : List PlaceParts) (names leaves : List ℕ)
    → StandFor places names (map Some local) → Known local leaves
    → StandFor places (map (renamed names) leaves) (map (place_at local) leaves)
StandFor-renamed places local names [] h known = record { known = tt; means = refl }
StandFor-renamed places local names (leaf ∷ leaves) h known =
    let one = renamed_one places local names leaf h known.0 in
    let rest = StandFor-renamed places local names leaves h known.1 in
    record {
      known = (one.0, rest.known);
      means =
          ap₂ (λ (x : Option PlaceParts) (xs : List (Option PlaceParts)). x ∷ xs) one.1 rest.means;
    }

-- ---- one member more

-- a number behind the others, for what is said behind the rest
pub StandFor-push : (before after : List PlaceParts) (n : ℕ) (leaves more : List ℕ)
    (said : List (Option PlaceParts)) (leaf : ℕ) (x : Option PlaceParts) → GrowsBy before after n
    → StandFor before leaves said → leaf ≤ length after → place_at after leaf ≡ x
    → more ≡ leaves ++ leaf ∷ [] → StandFor after more (said ++ x ∷ [])
StandFor-push before after n leaves more said leaf x grown h few is pushed =
    subst (λ (ls : List ℕ). StandFor after ls (said ++ x ∷ [])) (sym pushed)
    (StandFor-both after leaves (leaf ∷ []) said (x ∷ [])
    (StandFor-grown before after n leaves said grown h) (StandFor-one after leaf x few is))

-- one number more, for one more thing that is said
pub StandFor-more : (before after : List PlaceParts) (n : ℕ) (leaves more : List ℕ)
    (said : List (Option PlaceParts)) (i leaf : ℕ) (x : Option PlaceParts) → GrowsBy before after n
    → StandFor before leaves (take i said) → leaf ≤ length after → place_at after leaf ≡ x
    → i < length said → x ≡ get_or said i x → more ≡ leaves ++ leaf ∷ []
    → StandFor after more (take (i + 1) said)
StandFor-more before after n leaves more said i leaf x grown h few is below at pushed =
    let longer : take (i + 1) said ≡ take i said ++ x ∷ [] =
    ap (λ n. take n said) (add-one i) ∙ take-suc said i x below
    ∙ ap (λ y. take i said ++ y ∷ []) (sym at) in
    subst (StandFor after more) (sym longer)
    (StandFor-push before after n leaves more (take i said) leaf x grown h few is pushed)

-- what a function gives for a member stands where the member does
pub mapped_at : {A B : Type 0} (f : A → B) (xs : List A) (i : ℕ) (x : A) → x ≡ get_or xs i x
    → f x ≡ get_or (map f xs) i (f x)
mapped_at {A} {B} f xs i x is = ap f is ∙ sym (get_or-map f xs i x)

pub some_at : (xs : List PlaceParts) (i : ℕ) → i < length xs
    → slice_get xs i ≡ get_or (map Some xs) i (slice_get xs i)
some_at [] i below = absurd (omega arith)
some_at (x ∷ xs) zero below = refl
some_at (x ∷ xs) (suc i) below = some_at xs i (omega arith)

-- ---- all of them

pub take_whole : {X : Type 0} (xs : List X) (n : ℕ) → length xs ≤ n → take n xs ≡ xs
take_whole [] zero few = refl
take_whole [] (suc n) few = refl
take_whole (x ∷ xs) zero few = absurd (omega arith)
take_whole (x ∷ xs) (suc n) few = ap (λ (ys : List _). x ∷ ys) (take_whole xs n (omega arith))

-- what is said of segments is known, and as long as they are
pub IsKnown-from_chosen : (s : InForce) (c : Chosen) → IsChosen s c → IsKnown c
IsKnown-from_chosen s c h =
    let said = λ (r : Ends). spoken_at s r.first in (
      h.stands.known,
      sym (length-map c.leaves.items (place_at c.places)) ∙ ap length h.stands.means
          ∙ length-map c.segments.items said,
    )
