use Rattle.std.proofs.Common.{◌≡◌, ◌∙◌, ◌+◌, ◌^◌, List, length, Contains, Ok, Err, sym, subst}
use Rattle.trie_core.specs.declared.fault.StoreFault.TheVariants.{Full}
use Rattle.trie_core.specs.declared.node.Pair.{Pair}
use Rattle.trie_core.specs.Store.{IsSound, GrowsBy, IsKept}
use Rattle.trie_core.proofs.StoreLemmas.{AddedUnder-same, IsMade, IsMade-from_added, join_of_leaf}
use Rattle.trie_core.proofs.StoreLemmas.{join_of_node, GrowsBy-same, IsKept-same}
use Rattle.trie_core.proofs.BlockLemmas.{ok_not_err}
use Rattle.trie_core.proofs.store.Store.mk.Goals as goal

pub returns-in-Some-clause-meaning : goal.returns-in-Some-clause-meaning
returns-in-Some-clause-meaning g c =
    join_of_leaf c.args.self.now c.args.left c.args.right c.in-Some.leaf c.in-Some.ensures.0
    c.in-Some.ensures.1

-- the store after the pair went in
made : (g : Rattle.trie_core.proofs.store.Store.mk.Given.Over) (c : goal.In_ok-number g)
    → IsMade c.args.self.now c.add.new.self c.args.left c.args.right c.in_ok-number.number
made g c =
    let old = c.self.inside.pairs in
    rw (← c.self.view_is)
    (IsMade-from_added old c.add.new.self c.args.left c.args.right c.in_ok-number.number
    c.self.invariant c.in_ok-number.ensures.ok c.in_ok-number.ensures.at c.in_ok-number.ensures.few
    (rw c.self.view_is c.requires.left_of)
    (rw c.self.view_is c.requires.right_of) (rw c.self.view_is c.requires.left_low)
    (rw c.self.view_is c.requires.right_low) c.in_default.ensures)

pub invariant_of-self-2 : goal.invariant_of-self-2
invariant_of-self-2 g c = (made g c).sound

pub returns-clause-of : goal.returns-clause-of
returns-clause-of g c = (made g c).of

pub returns-clause-meaning : goal.returns-clause-meaning
returns-clause-meaning g c =
    (made g c).means
    ∙ sym (join_of_node c.args.self.now (subst IsSound c.self.view_is c.self.invariant) c.args.left
    c.args.right c.requires.left_of c.requires.right_of c.in_default.ensures)

pub returns-clause-kept : goal.returns-clause-kept
returns-clause-kept g c = (made g c).kept

pub returns-clause-sound : goal.returns-clause-sound
returns-clause-sound g c = (made g c).sound

pub returns-in-Some-clause-under : goal.returns-in-Some-clause-under
returns-in-Some-clause-under g c = AddedUnder-same c.args.self.now _

pub returns-clause-under : goal.returns-clause-under
returns-clause-under g c = (made g c).under

-- ---- one leaf takes no node

pub returns-in-Some-clause-grows : goal.returns-in-Some-clause-grows
returns-in-Some-clause-grows g c = GrowsBy-same c.args.self.now 1

pub returns-in-Some-clause-kept : goal.returns-in-Some-clause-kept
returns-in-Some-clause-kept g c = IsKept-same c.args.self.now

pub returns-in-Some-clause-full : goal.returns-in-Some-clause-full
returns-in-Some-clause-full g c = (
  λ e. absurd (ok_not_err _ _ e),
  λ p. absurd (p.1.0 c.in-Some.leaf c.in-Some.ensures.0 c.in-Some.ensures.1),
)

-- ---- a refusal leaves the store as it was

pub returns-in_err-number-clause-grows : goal.returns-in_err-number-clause-grows
returns-in_err-number-clause-grows g c =
    subst (λ (ps : List Pair). GrowsBy c.args.self.now ps 1)
    (sym (c.in_err-number.ensures.err ∙ c.self.view_is)) (GrowsBy-same c.args.self.now 1)

pub returns-in_err-number-clause-kept : goal.returns-in_err-number-clause-kept
returns-in_err-number-clause-kept g c =
    subst (IsKept c.args.self.now) (sym (c.in_err-number.ensures.err ∙ c.self.view_is))
    (IsKept-same c.args.self.now)

pub returns-in_err-number-clause-sound : goal.returns-in_err-number-clause-sound
returns-in_err-number-clause-sound g c =
    subst IsSound (sym c.in_err-number.ensures.err) c.self.invariant

-- ---- a node that was made or held

pub returns-clause-grows : goal.returns-clause-grows
returns-clause-grows g c = (made g c).grows

pub returns-clause-full : goal.returns-clause-full
returns-clause-full g c = (
  λ e. absurd (ok_not_err _ _ e),
  λ p.
      let no : Ok c.in_ok-number.number ≡ Err Full = c.in_ok-number.ensures.full.1
      (subst (λ (ps : List Pair). (length ps + 1 ≡ 2 ^ 32)
      × (Contains ps (record { left = c.args.left; right = c.args.right }) → ⊥))
      (sym c.self.view_is) (p.0, p.1.1)) in
      absurd (ok_not_err _ _ no),
)
