-- The segments are those of the touched grounds, or the pieces of which something is said.
use Rattle.std.proofs.Common.{◌≡◌, ◌∙◌, true, false, sym, subst}
use Rattle.precedence.specs.Chunks.{ArePieces, AreSegmentsIn, none_spared}
use Rattle.update_session.proofs.BlankLemmas.{segments_kept}
use Rattle.update_session.proofs.choosing.ChoosingWorkRangeChosen.done.Goals as goal
use Rattle.update_session.proofs.choosing.ChoosingWorkRangeChosen.done.Goals.{then-self+in_ok-segments}
use Rattle.update_session.proofs.choosing.ChoosingWorkRangeChosen.done.Goals.{else-self+in_ok-segments-2}

pub returns : goal.returns
returns c all =
    let work = c.args.self.now in
    let s = work.sources.now in
    let given = c.if-self.segments.items in
    let out = c.in_ok-chosen.chosen.segments.items in
    record {
      cut = segments_kept s work.touched.now work.blank c.args.item.now given out
          c.in_ok-chosen.ensures.segments all
          (λ yes. elim c.if-self.branch [
            | then-self+in_ok-segments w ↦ (
              subst (λ v. ArePieces s c.args.item.now v.items) (sym w.segments-is)
                  w.in_ok-segments.ensures.pieces,
              w.in_ok-segments.ensures.within,
            )
            | else-self+in_ok-segments-2 w ↦
                absurd (let e : true ≡ false = sym yes ∙ w.if-self.false in cc)
          ])
          (λ no. elim c.if-self.branch [
            | then-self+in_ok-segments w ↦
                absurd (let e : true ≡ false = sym w.if-self.true ∙ no in cc)
            | else-self+in_ok-segments-2 w ↦
                subst (λ v. AreSegmentsIn s work.touched.now none_spared c.args.item.now v.items)
                (sym w.segments-is) w.in_ok-segments-2.ensures
          ]);
      chosen = c.in_ok-chosen.ensures.chosen;
    }
