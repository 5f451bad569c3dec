use Rattle.cut_segments.proofs.segments.cut_mark.Goals as goal

pub returns : goal.returns
returns c = assumption
