-- The longest entry that holds an address lies within a range, or none that holds it does.
use Rattle.std.proofs.Common.{◌≡◌, ℕ, ◌+◌, ◌-◌, ◌%◌, ◌^◌, ◌≤◌, Bool, true, false, cond, ◌&&◌, leb}
use Rattle.std.proofs.Common.{List, [], ◌∷◌, fold, Option, Some, None, refl, sym, ap, ◌∙◌, inl, inr}
use Rattle.std.proofs.Common.{◌<◌, slice_get, arith}
use Rattle.std.specs.List.{AllByRecursion}
use Rattle.std.proofs.lemmas.Bool.{cases_lt}
use Rattle.std.proofs.lemmas.Bool.Decides.{nat_tests}
use Rattle.std.proofs.lemmas.Nat.{pow_pos}
use Rattle.geo_addr.specs.Ranges.{Ends, Prefix, IsBlock, ground_first, holds, range_of_block}
use Rattle.geo_terms.specs.First.{better, first_at, first_of, holders}
use Rattle.geo_terms.specs.Precedence.{entries_within, entry_before, entry_cmp, lies_within}
use Rattle.geo_terms.specs.declared.statement.Entry.{Entry}
use Rattle.first_index.specs.Boundaries.{told}
use Rattle.geo_terms.specs.SourceForm.{FeedParts}
use Rattle.std.proofs.lemmas.List.Elements.{recursion_from_All}
use Rattle.std.specs.Option.{option_and_then}
use Rattle.authority.specs.Kinds.{IsReady}
use Rattle.authority.specs.declared.kind_index.KindIndex.{KindIndex}
use Rattle.split_core.proofs.Multiples.{multiple_apart, multiple_lower, multiple_next}

-- the entry, if it lies within a range
abbrev pub kept : Ends → Option Entry → Option Entry
kept r None = None
kept r (Some e) = cond (lies_within e.block r) (Some e) None

-- of two blocks that hold one address the shorter one holds all of the longer one
nested : (b c : Prefix) (a : ℕ) → IsBlock b → IsBlock c → b.len ≤ c.len → b.first ≤ a
    → a ≤ b.first + (2 ^ (128 - b.len) - 1) → c.first ≤ a → a ≤ c.first + (2 ^ (128 - c.len) - 1)
    → (b.first ≤ c.first) × (c.first + (2 ^ (128 - c.len) - 1) ≤ b.first + (2 ^ (128 - b.len) - 1))
nested b c a is_b is_c shorter b_from b_to c_from c_to =
    let some_b = pow_pos (128 - b.len) in
    let some_c = pow_pos (128 - c.len) in
    let start : b.first % 2 ^ (128 - c.len) ≡ 0 =
    multiple_lower b.first (128 - b.len) (128 - c.len) (omega arith) is_b.aligned in
    let end : (b.first + 2 ^ (128 - b.len)) % 2 ^ (128 - c.len) ≡ 0 =
    multiple_lower (b.first + 2 ^ (128 - b.len)) (128 - b.len) (128 - c.len) (omega arith)
    (multiple_next b.first (2 ^ (128 - b.len)) is_b.aligned) in
    let last : c.first + 2 ^ (128 - c.len) ≤ b.first + 2 ^ (128 - b.len) =
    multiple_apart (2 ^ (128 - c.len)) c.first (b.first + 2 ^ (128 - b.len)) is_c.aligned end
    (omega (arith, some_b)) in
    let from : b.first ≤ c.first = elim (cases_lt c.first b.first) [
      | inl less ↦ omega (
        arith,
        multiple_apart (2 ^ (128 - c.len)) c.first b.first is_c.aligned start less,
        some_c,
      )
      | inr more ↦ more
    ] in
    (from, omega (arith, some_b, some_c))

and_both : (x y : Bool) → (x && y) ≡ true → (x ≡ true) × (y ≡ true)
and_both true y e = (refl, e)
and_both false y e = absurd (let f : false ≡ true = e in cc)

held_from : (r : Ends) (a : ℕ) → holds r a ≡ true → (r.first ≤ a) × (a ≤ r.last)
unfolding holds ground_first
held_from r a h = (grind (arith, nat_tests), grind (arith, nat_tests))

-- where the shorter block lies within a range, so does the longer one
within_too : (b c : Prefix) (r : Ends) (a : ℕ) → IsBlock b → IsBlock c → b.len ≤ c.len
    → holds (range_of_block b) a ≡ true → holds (range_of_block c) a ≡ true → lies_within b r ≡ true
    → lies_within c r ≡ true
within_too b c r a is_b is_c shorter holds_b holds_c within =
    let in_b = held_from (range_of_block b) a holds_b in
    let in_c = held_from (range_of_block c) a holds_c in
    let inside = nested b c a is_b is_c shorter in_b.0 in_b.1 in_c.0 in_c.1 in
    let both =
    and_both (leb r.first b.first) (leb (b.first + (2 ^ (128 - b.len) - 1)) r.last) within in
    let from : leb r.first c.first ≡ true =
    (let h : r.first ≤ b.first = grind (arith, nat_tests) in grind (arith, nat_tests)) in
    let to : leb (c.first + (2 ^ (128 - c.len) - 1)) r.last ≡ true =
    (let h : b.first + (2 ^ (128 - b.len) - 1) ≤ r.last = grind (
      arith,
      nat_tests,
    ) in grind (arith, nat_tests)) in
    rw (from, to) refl

longer : (x e : Entry) → entry_before x e ≡ true → e.block.len ≤ x.block.len
unfolding entry_cmp
longer x e h = grind (arith, nat_tests)

not_longer : (x e : Entry) → entry_before x e ≡ false → x.block.len ≤ e.block.len
unfolding entry_cmp
not_longer x e h = grind (arith, nat_tests)

module _ (r : Ends) (a : ℕ) where
  abbrev Holds : Entry → Type 0
  Holds e = IsBlock e.block × (holds (range_of_block e.block) a ≡ true)

  abbrev Found : Option Entry → Type 0
  Found None = Unit {0}
  Found (Some e) = Holds e

  clash : (e x : Entry) → Holds e → Holds x → e.block.len ≤ x.block.len
      → lies_within e.block r ≡ true → lies_within x.block r ≡ false → ⊥
  clash e x he hx shorter is not =
      let f : true ≡ false =
      sym (within_too e.block x.block r a he.0 hx.0 shorter he.1 hx.1 is) ∙ not in cc

  one_more : (found : Option Entry) (x : Entry)
      → Found found → Holds x → kept r (better entry_before found x)
      ≡ cond (lies_within x.block r) (better entry_before (kept r found) x) (kept r found)
  one_more None x good hx = refl
  one_more (Some e) x good hx =
      cases (entry_before x e) (lies_within e.block r) (lies_within x.block r) refl refl refl
    where
      cases : (p we wx : Bool) → entry_before x e ≡ p → lies_within e.block r ≡ we
          → lies_within x.block r ≡ wx
          → kept r (Some (cond p x e))
          ≡ cond wx (better entry_before (cond we (Some e) None) x) (cond we (Some e) None)
      cases true true true p we wx = rw (wx, p) refl
      cases true true false p we wx = absurd (clash e x good hx (longer x e p) we wx)
      cases true false true p we wx = rw wx refl
      cases true false false p we wx = rw wx refl
      cases false true true p we wx = rw (we, p) refl
      cases false true false p we wx = rw we refl
      cases false false true p we wx = absurd (clash x e hx good (not_longer x e p) wx we)
      cases false false false p we wx = rw we refl

  found_more : (found : Option Entry) (x : Entry) → Found found → Holds x
      → Found (better entry_before found x)
  found_more None x good hx = hx
  found_more (Some e) x good hx =
      elim (entry_before x e) as (λ b. Holds (cond b x e)) [ true ↦ hx | false ↦ good ]

  abbrev More : List Entry → Option Entry → Type 0
  More es found =
      fold (better entry_before) (kept r found) (entries_within es r a)
      ≡ kept r (fold (better entry_before) found (holders (λ e. range_of_block e.block) es a))

  longest_from : (es : List Entry) (found : Option Entry) → AllByRecursion (λ e. IsBlock e.block) es
      → Found found → More es found
  longest_from [] found blocks good = refl
  longest_from (x ∷ es) found blocks good =
      cases (holds (range_of_block x.block) a) refl (longest_from es found blocks.1 good)
      (λ hx. longest_from es (better entry_before found x) blocks.1 (found_more found x good hx))
    where
      step : (w : Bool) → lies_within x.block r ≡ w → Holds x
          → More es (better entry_before found x)
          → fold (better entry_before) (kept r found)
          (cond w (x ∷ entries_within es r a) (entries_within es r a))
          ≡ kept r (fold (better entry_before) (better entry_before found x)
          (holders (λ e. range_of_block e.block) es a))
      step true is hx more =
          ap (λ o. fold (better entry_before) o (entries_within es r a))
          (sym (one_more found x good hx ∙ (rw is refl))) ∙ more
      step false is hx more =
          ap (λ o. fold (better entry_before) o (entries_within es r a))
          (sym (one_more found x good hx ∙ (rw is refl))) ∙ more

      cases : (b : Bool) → holds (range_of_block x.block) a ≡ b → More es found
          → (Holds x → More es (better entry_before found x))
          → fold (better entry_before) (kept r found)
          (cond (b && lies_within x.block r) (x ∷ entries_within es r a) (entries_within es r a))
          ≡ kept r
          (fold (better entry_before) found (cond b (x ∷ holders (λ e. range_of_block e.block) es a)
          (holders (λ e. range_of_block e.block) es a)))
      cases false e same more = same
      cases true e same more = step (lies_within x.block r) refl (blocks.0, e) (more (blocks.0, e))

  -- the longest entry within the range that holds the address is the longest one that holds it,
  -- if that lies within
  pub longest_within : (es : List Entry)
      → AllByRecursion (λ e. IsBlock e.block) es → first_of entry_before (entries_within es r a)
      ≡ kept r (first_at entry_before (λ e. range_of_block e.block) es a)
  longest_within es blocks = longest_from es None blocks tt

-- the longest entry within a range, by what the index of the feed tells
pub by_index : (f : FeedParts) (index : KindIndex) (r : Ends) (a : ℕ) → IsReady f index
    → a < 2 ^ 128 → kept r (option_and_then (slice_get f.entries) (told None index.firsts a))
    ≡ first_of entry_before (entries_within f.entries r a)
by_index f index r a ready lt =
    ap (kept r) (ready.entries.firsts a lt)
    ∙ sym (longest_within r a f.entries
    (recursion_from_All (λ (e : Entry). IsBlock e.block) f.entries ready.blocks))
