use Rattle.std.proofs.Common.{◌≡◌, ◌∙◌, sym, ap, subst, arith, inl, inr, Err}
use Rattle.std.proofs.lemmas.Result.{err_from_is_err_and}
use Rattle.trie_core.specs.declared.fault.StoreFault.TheVariants.{Full}
use Rattle.trie_core.specs.Store.{meaning, tree_of}
use Rattle.trie_core.specs.Paint.{IsPainted, HoldsPainted, paint_cost}
use Rattle.trie_core.proofs.CostLemmas.{paint_cost-le}
use Rattle.trie_core.proofs.PaintLemmas.{IsOf-settled, IsPainted-settled}
use Rattle.trie_core.proofs.RootLemmas.{leaves_of_painted, HoldsPainted-from_root, fault_cases}
use Rattle.trie_core.proofs.store.Store.paint_all.Goals as goal

-- the record of a whole space that no part cuts is the painted tree of the root
settled : (g : Rattle.trie_core.proofs.store.Store.paint_all.Given.Over) (c : goal.In-Some g)
    → IsPainted (tree_of c.args.self.now c.args.root) (meaning c.args.self.now c.in-Some.rec) 128 0
    c.args.parts.now
settled g c =
    subst (λ t. IsPainted t (meaning c.args.self.now c.in-Some.rec) 128 0 c.args.parts.now)
    (ap (meaning c.args.self.now) c.rec_of-rec.ensures.same)
    (IsPainted-settled c.args.self.now c.rec_of-rec.result c.in-Some.rec 128 0 _ c.args.parts.now
    (c.rec_of-rec.ensures.sound.low c.rec_of-rec.result c.rec_of-rec.ensures.of) (omega arith)
    c.in-Some.ensures.0)

pub returns-in-Some-clause-lookups : goal.returns-in-Some-clause-lookups
returns-in-Some-clause-lookups g c = leaves_of_painted 128 _ _ c.args.parts.now (settled g c)

pub returns-in-Some-clause-full : goal.returns-in-Some-clause-full
returns-in-Some-clause-full g c = (
  λ e. absurd (cc),
  λ h. absurd (h.1 (
    record { 0 = c.in-Some.rec },
    IsOf-settled c.args.self.now c.rec_of-rec.result c.in-Some.rec 0 _ c.args.parts.now
        c.rec_of-rec.ensures.of c.in-Some.ensures.0,
    leaves_of_painted 128 _ _ c.args.parts.now (settled g c),
  )),
)

pub returns-in_err-rec-clause-few_ticks : goal.returns-in_err-rec-clause-few_ticks
returns-in_err-rec-clause-few_ticks g c =
    omega (
      arith,
      c.in_err-rec.ensures.cost,
      ap (paint_cost 128 0) c.in_default.ensures.1,
      paint_cost-le c.args.parts.now c.requires.ascending,
    )

pub returns-in_err-rec-clause-full : goal.returns-in_err-rec-clause-full
returns-in_err-rec-clause-full g c =
    let p = err_from_is_err_and c.from_residual.result c.from_residual.ensures.1 in
    let root-is = ap (meaning c.args.self.now) c.rec_of-rec.ensures.same in (
      λ e.
          let fault : c.in_err-rec.field-0.0 ≡ Full = cc (p.1, p.2, e) in
          let said = c.in_err-rec.ensures.full (ap Err fault) in (
            said.0,
            λ held. said.1 (subst
                (HoldsPainted c.paint_block.new.self (meaning c.args.self.now c.rec_of-rec.result)
                128 0) (sym c.in_default.ensures.1) (subst
                (λ t. HoldsPainted c.paint_block.new.self t 128 0 c.args.parts.now) (sym root-is)
                (HoldsPainted-from_root c.paint_block.new.self c.in_err-rec.ensures.sound
                (tree_of c.args.self.now c.args.root) c.args.parts.now held))),
          ),
      λ h. elim (fault_cases c.in_err-rec.field-0.0) [
        | inl full ↦ p.1 ∙ ap Err (p.2 ∙ full)
        | inr memory ↦ absurd (omega (arith, c.in_err-rec.ensures.memory (ap Err memory), h.0))
      ],
    )

-- the new record is the painted tree of the root
painted : (g : Rattle.trie_core.proofs.store.Store.paint_all.Given.Over) (c : goal.In_ok-rec g)
    → IsPainted (tree_of c.args.self.now c.args.root)
    (meaning c.paint_block.new.self c.in_ok-rec.rec) 128 0 c.args.parts.now
painted g c =
    subst (λ t. IsPainted t (meaning c.paint_block.new.self c.in_ok-rec.rec) 128 0 c.args.parts.now)
    (ap (meaning c.args.self.now) c.rec_of-rec.ensures.same)
    (subst (IsPainted (meaning c.args.self.now c.rec_of-rec.result)
    (meaning c.paint_block.new.self c.in_ok-rec.rec) 128 0) c.in_default.ensures.1
    c.in_ok-rec.ensures.painted)

pub returns-clause-lookups : goal.returns-clause-lookups
returns-clause-lookups g c = leaves_of_painted 128 _ _ c.args.parts.now (painted g c)

pub returns-clause-few_ticks : goal.returns-clause-few_ticks
returns-clause-few_ticks g c =
    omega (
      arith,
      c.in_ok-rec.ensures.cost,
      ap (paint_cost 128 0) c.in_default.ensures.1,
      paint_cost-le c.args.parts.now c.requires.ascending,
    )

pub returns-clause-full : goal.returns-clause-full
returns-clause-full g c = (
  λ e. absurd (cc),
  λ h. absurd (h.1 (
    record { 0 = c.in_ok-rec.rec },
    c.in_ok-rec.ensures.of,
    leaves_of_painted 128 _ _ c.args.parts.now (painted g c),
  )),
)
