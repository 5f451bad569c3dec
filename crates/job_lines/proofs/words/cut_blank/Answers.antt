use Rattle.std.proofs.Common.{arith}
use Rattle.std.proofs.lemmas.List.{take_rest}
use Rattle.job_lines.proofs.WordLemmas.{pieces_at_blank}
use Rattle.job_lines.proofs.words.cut_blank.Goals as goal

pub returns-clause-pieces : goal.returns-clause-pieces
returns-clause-pieces c =
    rw take_rest (pieces_at_blank c.args.text.now c.blank_at-cut.result
    c.blank_at-cut.ensures.cut (omega arith))
