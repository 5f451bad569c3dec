use Rattle.std.proofs.Common.{◌≡◌, ◌∙◌, ℕ, ◌^◌, ◌<◌, ◌≤◌, inl, inr, sym, arith}
use Rattle.std.specs.Prelude.{Option, Some, Result, Ok, Err, IfOk}
use Rattle.geo_addr.specs.Ranges.{Ends, IsWithin}
use Rattle.trie_core.specs.Store.{leaf_at}
use Rattle.trie_core.specs.declared.fault.StoreFault.{StoreFault}
use Rattle.trie_core.specs.declared.node.Root.{Root}
use Rattle.trie_core.proofs.RootLemmas.{IsWithin-cases}
use Rattle.test_file.proofs.tests.files.with_range.Goals as goal

-- two answers of one address are the same leaf
same_leaf : (answer : Option ℕ) (j k : ℕ) → answer ≡ Some j → answer ≡ Some k → j ≡ k
same_leaf answer j k one two = cc

-- no leaf is above this one, on the range or elsewhere
stays_low : (was : ℕ → Option ℕ) (is : Root → ℕ → Option ℕ) (range : Ends) (leaf : ℕ)
    (result : Result Root StoreFault)
    → IfOk result (λ r. (a : ℕ) → a < 2 ^ 128 → IsWithin range a → is r a ≡ Some leaf)
    → IfOk result (λ r. (a : ℕ) → a < 2 ^ 128 → (IsWithin range a → ⊥) → is r a ≡ was a)
    → ((a k : ℕ) → a < 2 ^ 128 → was a ≡ Some k → k ≤ leaf)
    → IfOk result (λ r. (a k : ℕ) → a < 2 ^ 128 → is r a ≡ Some k → k ≤ leaf)
stays_low was is range leaf (Err fault) inside outside low = tt
stays_low was is range leaf (Ok r) inside outside low = λ a k below found.
    elim (IsWithin-cases range a) [
      | inl on ↦ let same : leaf ≡ k = same_leaf (is r a) leaf k (inside a below on) found in
          omega arith
      | inr off ↦ low a k below (sym (outside a below off) ∙ found)
    ]

pub returns-clause-low : goal.returns-clause-low
returns-clause-low g c =
    stays_low (leaf_at c.args.store.now c.args.root) (leaf_at c.paint.new.self) c.args.range
    c.args.leaf c.paint.result c.paint.ensures.on_range c.paint.ensures.elsewhere c.requires.low
