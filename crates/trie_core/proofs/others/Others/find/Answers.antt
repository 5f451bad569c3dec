use Rattle.std.proofs.Common.{◌≡◌, ◌<◌, ℕ, List, length, slice_get, Option, Some, None, refl, sym}
use Rattle.std.proofs.Common.{◌∙◌, subst, rules}
use Rattle.trie_core.specs.Pairs.{Stands, first_slot, crowded_at}
use Rattle.trie_core.proofs.FoundLemmas.{absent_from_others}
use Rattle.trie_core.proofs.others.Others.find.Goals as goal

pub returns-in-Missing : goal.returns-in-Missing
returns-in-Missing c = record {
  found =
      let s = c.args.self.now in
      let p = c.args.pair in
      let some : 0 < length s.slots.items = search rules in
      let missing = subst (λ (xs : List ℕ). (k : ℕ) (rest : Option ℕ)
      → slice_get c.args.pairs.now k ≡ Some p → Stands xs (first_slot p (length xs)) 8 rest k → ⊥)
      c.as_slice.ensures.value (c.in-Missing.ensures.missing refl) in
      absent_from_others c.args.pairs.now c.args.firsts.now s.slots.items s.crowded
      c.requires.found p some c.requires.no_first
      (λ k at. missing k (crowded_at s.crowded p) at);
}

pub returns-in-Some : goal.returns-in-Some
returns-in-Some c = record {
  found =
      let s = c.args.self.now in
      let some : 0 < length s.slots.items = search rules in
      c.requires.found.only some c.in-Some.number.now c.args.pair (sym c.in-Some.ensures.value);
}

pub returns-in-None : goal.returns-in-None
returns-in-None c = record {
  found =
      let s = c.args.self.now in
      let p = c.args.pair in
      let some : 0 < length s.slots.items = search rules in
      let unknown = subst (λ (xs : List ℕ). (k : ℕ) (rest : Option ℕ)
      → slice_get c.args.pairs.now k ≡ Some p → Stands xs (first_slot p (length xs)) 8 rest k
      → rest ≡ Some k) c.as_slice.ensures.value (c.in-Unknown.ensures.unknown refl) in
      absent_from_others c.args.pairs.now c.args.firsts.now s.slots.items s.crowded
      c.requires.found p some c.requires.no_first
      (λ k at stands.
      let e : None ≡ Some k =
      c.in-None.ensures.value ∙ unknown k (crowded_at s.crowded p) at stands in
      absurd (cc));
}
