use Rattle.std.proofs.Common.{◌∙◌, ap₂, slice_get, inl, refl}
use Rattle.trie_core.proofs.StoreLemmas.{slice_get_last, Contains-slice_get}
use Rattle.trie_core.proofs.BlockLemmas.{ok_not_err}
use Rattle.trie_core.proofs.pairs.Pairs.add.Goals as goal

pub returns-in-Ok-clause-at : goal.returns-in-Ok-clause-at
returns-in-Ok-clause-at c =
    ap₂ (λ ps k. slice_get ps k) c.in-Ok.ensures.pushed c.in-Ok.ensures.number
    ∙ slice_get_last c.args.self.now c.args.pair

pub returns-in-Some-clause-ok : goal.returns-in-Some-clause-ok
returns-in-Some-clause-ok c =
    inl (
      Contains-slice_get c.args.self.now c.in-Some.number c.args.pair c.in-Some.ensures.found,
      refl,
    )

pub returns-in-Some-clause-full : goal.returns-in-Some-clause-full
returns-in-Some-clause-full c = (
  λ e. absurd (ok_not_err _ _ e),
  λ p. absurd (p.1 (Contains-slice_get c.args.self.now c.in-Some.number c.args.pair
      c.in-Some.ensures.found)),
)
