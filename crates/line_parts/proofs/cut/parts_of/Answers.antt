-- All lines of the file are those of a part before which nothing stands.
use Rattle.std.proofs.Common.{◌∙◌, refl}
use Rattle.std.proofs.lemmas.Result.{MatchResult-weaker}
use Rattle.line_parts.proofs.PartLemmas.{one_whole}
use Rattle.line_parts.proofs.cut.parts_of.Goals as goal

pub returns-clause-lines : goal.returns-clause-lines
returns-clause-lines c =
    MatchResult-weaker c.cut_part.result c.cut_part.ensures.lines
    (λ parts is. is ∙ one_whole _ c.args.file.now refl refl) (λ _ x. x)
