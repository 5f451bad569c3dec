-- One more line is kept in front, or not.
use Rattle.std.proofs.Common.{sym, ap, ◌≡◌, ◌∙◌, ◌<◌, length, rules, arith}
use Rattle.std.proofs.lemmas.List.Edits.{length-swap}
use Rattle.csv_lines.proofs.PlaceLemmas.{keep_no, keep_yes}
use Rattle.csv_lines.proofs.fate.keep.Goals as goal
use Rattle.csv_lines.proofs.fate.keep.Goals.{then-is_kept, else-is_kept}

pub loop-at-preserved : goal.loop-at-preserved
loop-at-preserved g c =
    let within : c.loop-at.at < length c.loop-at.rows.items = search rules in
    elim c.if-is_kept.branch [
      | then-is_kept w ↦ let long : length w.swap.new.self.items ≡ length c.loop-at.rows.items =
          ap length w.swap.ensures.items
          ∙ length-swap c.loop-at.rows.items c.loop-at.count c.loop-at.at in
          rw (w.rows-is, w.count-is) (
            omega arith,
            long ∙ c.loop-at.invariant.1,
            λ f p is e others.
                let (so_far, at) = c.loop-at.invariant.2 f p is e others in
                keep_yes p f c.args.rows.now.items c.loop-at.rows.items c.args.places.now
                c.args.fates.now c.loop-at.count c.loop-at.next c.loop-at.at so_far at others
                within w.swap.new.self.items c.next_fate.result c.next_fate.new.next
                c.next_fate.ensures.told c.next_fate.ensures.passed
                (sym c.is_kept.ensures ∙ w.if-is_kept.true) w.swap.ensures.by_index,
          )
      | else-is_kept w ↦ rw (w.rows-is, w.count-is) (
        omega arith,
        c.loop-at.invariant.1,
        λ f p is e others.
            let (so_far, at) = c.loop-at.invariant.2 f p is e others in
            keep_no p f c.args.rows.now.items c.loop-at.rows.items c.args.places.now
            c.args.fates.now c.loop-at.count c.loop-at.next c.loop-at.at so_far at others within
            c.next_fate.result c.next_fate.new.next c.next_fate.ensures.told
            c.next_fate.ensures.passed (sym c.is_kept.ensures ∙ w.if-is_kept.false),
      )
    ]
