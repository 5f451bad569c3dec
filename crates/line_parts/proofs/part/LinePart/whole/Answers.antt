-- Before the whole file no line stands.
use Rattle.std.proofs.Common.{refl}
use Rattle.line_parts.proofs.PartLemmas.{one_whole}
use Rattle.line_parts.proofs.part.LinePart.whole.Goals as goal

pub returns : goal.returns
returns c = one_whole _ c.args.file.now refl refl
