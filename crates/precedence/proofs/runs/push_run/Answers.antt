use Rattle.std.proofs.Common.{List, inl, inr}
use Rattle.geo_addr.specs.Ranges.{Ends, IsWithin}
use Rattle.cut_segments.proofs.CutLemmas.{any_one, one_any}
use Rattle.precedence.proofs.RunLemmas.{Run, front_has, pushed}
use Rattle.precedence.proofs.runs.push_run.Goals as goal

pub returns : goal.returns
returns c at =
    let run : Run = c.part_inside.result in
    let old : List Run = c.args.runs.now.items in
    let new : List Run = c.push.new.self.items in
    let more = front_has run old new at (pushed old new run c.in_ok-push.ensures.items) in
    let inside : Ends → Type 0 = λ r. IsWithin r at in (
      λ has.
          elim (more.0 has) [
            | inl there ↦ inl there
            | inr here ↦ let both = (c.part_inside.ensures at).0 here in
                inr (both.0, any_one inside c.args.range both.1)
          ],
      λ any.
          elim any [
            | inl there ↦ more.1 (inl there)
            | inr here ↦ more.1 (inr ((c.part_inside.ensures at).1
                (here.0, one_any inside c.args.range here.1)))
          ],
    )
