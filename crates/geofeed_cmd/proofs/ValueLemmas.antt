-- The values of places, told apart by a test; and the least tree where trees carry values.
use Rattle.std.proofs.Common.{◌≡◌, ℕ, ◌^◌, ◌<◌, inl, inr, Bool, true, false, ◌&&◌, List, [], ◌∷◌}
use Rattle.std.proofs.Common.{◌++◌, refl, sym, ◌∙◌, ap, ap₂}
use Rattle.std.specs.Cmp.Lexicographic.{bytes_decides}
use Rattle.std.specs.Prelude.{Option, Some, None, option_map, unwrap_or, codes, if◌then◌else◌}
use Rattle.geo_addr.specs.Bits.{bits_of}
use Rattle.geo_terms.specs.PlaceForm.{PlaceParts, same_text}
use Rattle.geo_terms.specs.Precedence.{record_at}
use Rattle.geo_terms.specs.Sources.{InForce}
use Rattle.trie_core.specs.Tree.{Tree, leaf, node, look, HasLeaf, tree}
use Rattle.trie_core.proofs.TreeLemmas.{TreeOfFunction-holds}
use Rattle.mmdb_data.specs.ValueTree.{ValueTree as Value, Members, Items, map as map_value}
use Rattle.mmdb_data.specs.ValueTree.{list as list_value, text as text_value, bytes as bytes_value}
use Rattle.mmdb_data.specs.ValueTree.{u16}
use Rattle.mmdb_data.specs.ValueTree.{u32, i32, u64, u128, bool, double, float, no_members, member}
use Rattle.mmdb_data.specs.ValueTree.{no_items, item}
use Rattle.mmdb_data.specs.View.{members_of}
use Rattle.mmdb_file.specs.FileImage.{same_answer, record_tree}
use Rattle.mmdb_file.specs.PlaceValue.{place_value, one, unless_empty, subdivision}
use Rattle.mmdb_file.specs.PlaceValue.{subdivision_list, city_member, country_member, postal_member}
use Rattle.mmdb_file.specs.PlaceValue.{region_member}
use Rattle.mmdb_file.proofs.PlaceTreeLemmas.{answer_equality}
use Rattle.job_run.specs.Published.{AreDistinct}
use Rattle.update_session.specs.State.{State}

both : (a b : Bool) → a && b ≡ true → (a ≡ true) × (b ≡ true)
both true b h = (refl, h)
both false b h = absurd (cc)

abbrev if_map : Value → (Members → Bool) → Bool
if_map (map_value ms) test = test ms
if_map _ test = false

abbrev if_list : Value → (Items → Bool) → Bool
if_list (list_value items) test = test items
if_list _ test = false

abbrev if_text : Value → (List ℕ → Bool) → Bool
if_text (text_value content) test = test content
if_text _ test = false

-- whether a value of maps, lists and texts is this one
abbrev mutual
  same_value : Value → Value → Bool
  same_value (map_value ms) v = if_map v (same_members ms)
  same_value (list_value items) v = if_list v (same_items items)
  same_value (text_value content) v = if_text v (same_text content)
  same_value (bytes_value content) v = false
  same_value (u16 n) v = false
  same_value (u32 n) v = false
  same_value (i32 n) v = false
  same_value (u64 n) v = false
  same_value (u128 n) v = false
  same_value (bool b) v = false
  same_value (double content) v = false
  same_value (float content) v = false

  same_members : Members → Members → Bool
  same_members no_members no_members = true
  same_members no_members (member key value ms) = false
  same_members (member key value ms) no_members = false
  same_members (member key value ms) (member other v ns) =
      same_text key other && (same_value value v && same_members ms ns)

  same_items : Items → Items → Bool
  same_items no_items no_items = true
  same_items no_items (item value items) = false
  same_items (item value items) no_items = false
  same_items (item value items) (item v vs) = same_value value v && same_items items vs

is-map : (v : Value) (test : Members → Bool) → if_map v test ≡ true
    → (ms : Members) × (v ≡ map_value ms) × (test ms ≡ true)
is-map (map_value ms) test h = (ms, refl, h)
is-map _ test h = absurd (cc)

is-list : (v : Value) (test : Items → Bool) → if_list v test ≡ true
    → (items : Items) × (v ≡ list_value items) × (test items ≡ true)
is-list (list_value items) test h = (items, refl, h)
is-list _ test h = absurd (cc)

is-text : (v : Value) (test : List ℕ → Bool) → if_text v test ≡ true
    → (content : List ℕ) × (v ≡ text_value content) × (test content ≡ true)
is-text (text_value content) test h = (content, refl, h)
is-text _ test h = absurd (cc)

mutual
  sound : (u v : Value) → same_value u v ≡ true → u ≡ v
  sound (map_value ms) v h =
      let found = is-map v (same_members ms) h in
      ap map_value (sound-members ms found.0 found.2) ∙ sym found.1
  sound (list_value items) v h =
      let found = is-list v (same_items items) h in
      ap list_value (sound-items items found.0 found.2) ∙ sym found.1
  sound (text_value content) v h =
      let found = is-text v (same_text content) h in
      ap text_value ((bytes_decides content found.0).0 found.2) ∙ sym found.1
  sound (bytes_value content) v h = absurd (cc)
  sound (u16 n) v h = absurd (cc)
  sound (u32 n) v h = absurd (cc)
  sound (i32 n) v h = absurd (cc)
  sound (u64 n) v h = absurd (cc)
  sound (u128 n) v h = absurd (cc)
  sound (bool b) v h = absurd (cc)
  sound (double content) v h = absurd (cc)
  sound (float content) v h = absurd (cc)

  sound-members : (ms ns : Members) → same_members ms ns ≡ true → ms ≡ ns
  sound-members no_members no_members h = refl
  sound-members no_members (member key value ns) h = absurd (cc)
  sound-members (member key value ms) no_members h = absurd (cc)
  sound-members (member key value ms) (member other v ns) h =
      let outer = both (same_text key other) (same_value value v && same_members ms ns) h in
      let inner = both (same_value value v) (same_members ms ns) outer.1 in
      let keys : key ≡ other = (bytes_decides key other).0 outer.0 in
      let values : value ≡ v = sound value v inner.0 in
      let rest : ms ≡ ns = sound-members ms ns inner.1 in
      ap (λ k. member k value ms) keys ∙ ap (λ w. member other w ms) values
      ∙ ap (λ n. member other v n) rest

  sound-items : (is js : Items) → same_items is js ≡ true → is ≡ js
  sound-items no_items no_items h = refl
  sound-items no_items (item value js) h = absurd (cc)
  sound-items (item value is) no_items h = absurd (cc)
  sound-items (item value is) (item v js) h =
      let parts = both (same_value value v) (same_items is js) h in
      let values : value ≡ v = sound value v parts.0 in
      let rest : is ≡ js = sound-items is js parts.1 in
      ap (λ w. item w is) values ∙ ap (λ n. item v n) rest

-- a list of pairs that are each like themselves makes members like themselves
abbrev Alike : List (List ℕ × Value) → Type 0
Alike [] = Unit {0}
Alike (pair ∷ pairs) = (same_value pair.1 pair.1 ≡ true) × Alike pairs

alike-append : (xs ys : List (List ℕ × Value)) → Alike xs → Alike ys → Alike (xs ++ ys)
alike-append [] ys a b = b
alike-append (x ∷ xs) ys a b = (a.0, alike-append xs ys a.1 b)

same-text : (x : List ℕ) → same_text x x ≡ true
same-text x = (bytes_decides x x).1 refl

and-true : {a b : Bool} → a ≡ true → b ≡ true → a && b ≡ true
and-true {a} {b} pa pb = ap₂ ◌&&◌ pa pb

alike-members : (pairs : List (List ℕ × Value)) → Alike pairs
    → same_members (members_of pairs) (members_of pairs) ≡ true
alike-members [] a = refl
alike-members (pair ∷ pairs) a =
    and-true (same-text pair.0) (and-true a.0 (alike-members pairs a.1))

alike-unless : (content key : List ℕ) (value : Value) → same_value value value ≡ true
    → Alike (unless_empty content key value)
alike-unless [] key value a = tt
alike-unless (b ∷ content) key value a = (a, tt)

one-alike : (key : List ℕ) (value : Value) → same_value value value ≡ true
    → same_value (one key value) (one key value) ≡ true
one-alike key value a = alike-members ((key, value) ∷ []) (a, tt)

subdivisions-alike : (region : List ℕ)
    → same_value (one (codes "iso_code") (text_value (subdivision region)))
    (one (codes "iso_code") (text_value (subdivision region))) ≡ true
    → same_value (subdivision_list region) (subdivision_list region) ≡ true
subdivisions-alike region part = and-true part refl

-- the value of a place is like itself
place-alike : (p : PlaceParts) → same_value (place_value p) (place_value p) ≡ true
unfolding place_value
place-alike p =
    let inner_city = one-alike (codes "en") (text_value p.city) (same-text p.city) in
    let names = one-alike (codes "names") (one (codes "en") (text_value p.city)) inner_city in
    let city = alike-unless p.city (codes "city")
    (one (codes "names") (one (codes "en") (text_value p.city))) names in
    let country =
    alike-unless p.country (codes "country") (one (codes "iso_code") (text_value p.country))
    (one-alike (codes "iso_code") (text_value p.country) (same-text p.country)) in
    let postal = alike-unless p.postal (codes "postal") (one (codes "code") (text_value p.postal))
    (one-alike (codes "code") (text_value p.postal) (same-text p.postal)) in
    let part = one-alike (codes "iso_code") (text_value (subdivision p.region))
    (same-text (subdivision p.region)) in
    let region = alike-unless p.region (codes "subdivisions") (subdivision_list p.region)
    (subdivisions-alike p.region part) in
    alike-members (city_member p.city
    ++ (country_member p.country ++ (postal_member p.postal ++ region_member p.region)))
    (alike-append (city_member p.city)
    (country_member p.country ++ (postal_member p.postal ++ region_member p.region)) city
    (alike-append (country_member p.country)
    (postal_member p.postal ++ region_member p.region) country
    (alike-append (postal_member p.postal) (region_member p.region) postal region)))

-- whether an answer has this value
abbrev has_value : Option Value → Option PlaceParts → Bool
has_value None None = true
has_value None (Some p) = false
has_value (Some v) None = false
has_value (Some v) (Some p) = same_value (place_value p) v

has-own : (r : Option PlaceParts) → has_value (option_map place_value r) r ≡ true
has-own None = refl
has-own (Some p) = place-alike p

has-same : (v : Option Value) (r : Option PlaceParts) → has_value v r ≡ true
    → option_map place_value r ≡ v
has-same None None h = refl
has-same None (Some p) h = absurd (cc)
has-same (Some v) None h = absurd (cc)
has-same (Some v) (Some p) h = ap Some (sound (place_value p) v h)

-- the first leaf that passes a test
abbrev or_else : {A : Type 0} → Option A → Option A → Option A
or_else (Some a) other = Some a
or_else None other = other

abbrev leaf_that : {A : Type 0} → (A → Bool) → Tree A → Option A
leaf_that test (leaf a) = if test a then Some a else None
leaf_that test (node l r) = or_else (leaf_that test l) (leaf_that test r)

module _ {A : Type 0} (test : A → Bool) where
  that-sound : (t : Tree A) (a : A) → leaf_that test t ≡ Some a → (test a ≡ true) × HasLeaf t a
  that-sound (leaf x) a is =
      let go : (b : Bool) → test x ≡ b → (if b then Some x else None) ≡ Some a
      → (test a ≡ true) × HasLeaf (leaf x) a =
      λ b. elim b as (λ (b : Bool). test x ≡ b → (if b then Some x else None) ≡ Some a
      → (test a ≡ true) × HasLeaf (leaf x) a) [
        | true ↦ λ passes same. let this : x ≡ a = cc in (ap test (sym this) ∙ passes, this)
        | false ↦ λ fails same. absurd (cc)
      ] in
      go (test x) refl is
  that-sound (node l r) a is =
      let go : (x : Option A) → leaf_that test l ≡ x → or_else x (leaf_that test r) ≡ Some a
      → (test a ≡ true) × HasLeaf (node l r) a =
      λ x. elim x as (λ (x : Option A). leaf_that test l ≡ x → or_else x (leaf_that test r) ≡ Some a
      → (test a ≡ true) × HasLeaf (node l r) a) [
        | None ↦ λ none same. let right = that-sound r a same in (right.0, inr right.1)
        | Some b ↦ λ found same. let left = that-sound l a (found ∙ same) in (left.0, inl left.1)
      ] in
      go (leaf_that test l) refl is

  that-some : (t : Tree A) (a : A) → HasLeaf t a → test a ≡ true
      → (b : A) × (leaf_that test t ≡ Some b)
  that-some (leaf x) a same passes =
      (x, ap (λ (b : Bool). if b then Some x else None) (ap test same ∙ passes))
  that-some (node l r) a (inl left) passes =
      let found = that-some l a left passes in
      (found.0, ap (λ x. or_else x (leaf_that test r)) found.1)
  that-some (node l r) a (inr right) passes =
      let found = that-some r a right passes in
      let go : (x : Option A) → leaf_that test l ≡ x
      → (b : A) × (or_else x (leaf_that test r) ≡ Some b) =
      λ x. elim x as (λ (x : Option A). leaf_that test l ≡ x
      → (b : A) × (or_else x (leaf_that test r) ≡ Some b)) [
        | None ↦ λ none. (found.0, found.1)
        | Some b ↦ λ some. (b, refl)
      ] in
      go (leaf_that test l) refl

look-leaf : {A : Type 0} (t : Tree A) (w : List Bool) (a : A) → look t w ≡ Some a → HasLeaf t a
look-leaf (leaf x) w a is = cc
look-leaf (node l r) [] a is = absurd (cc)
look-leaf (node l r) (false ∷ w) a is = inl (look-leaf l w a is)
look-leaf (node l r) (true ∷ w) a is = inr (look-leaf r w a is)

-- the record of each address stands in the tree of the records
record-stands : (s : InForce) (a : ℕ) → a < 2 ^ 128 → HasLeaf (record_tree s) (record_at s a)
unfolding record_tree
record-stands s a low =
    look-leaf (tree same_answer (record_at s) 128 0) (bits_of 128 a) (record_at s a)
    ((TreeOfFunction-holds same_answer answer_equality (record_at s) 128).1 a low)

same-record : (state : State) → AreDistinct state → (r q : Option PlaceParts)
    → HasLeaf (record_tree state.sources) r → HasLeaf (record_tree state.sources) q
    → option_map place_value r ≡ option_map place_value q → r ≡ q
same-record state distinct None None here there same = refl
same-record state distinct None (Some q) here there same = absurd (cc)
same-record state distinct (Some p) None here there same = absurd (cc)
same-record state distinct (Some p) (Some q) here there same =
    ap Some (distinct p q here there (cc))

-- the record of a value
pub record_of : State → Option Value → Option PlaceParts
record_of state v = unwrap_or (leaf_that (has_value v) (record_tree state.sources)) None

-- where values tell places apart, each record is got back from its value
pub record_back : (state : State) → AreDistinct state → (a : ℕ) → a < 2 ^ 128 → record_of state
    (option_map place_value (record_at state.sources a)) ≡ record_at state.sources a
unfolding record_of
record_back state distinct a low =
    let r = record_at state.sources a in
    let v = option_map place_value r in
    let t = record_tree state.sources in
    let stands = record-stands state.sources a low in
    let some = that-some (has_value v) t r stands (has-own r) in
    let found = that-sound (has_value v) t some.0 some.1 in
    ap (λ x. unwrap_or x None) some.1
    ∙ same-record state distinct some.0 r found.1 stands (has-same v some.0 found.0)
