use Rattle.std.proofs.Common.{sym, ◌∙◌}
use Rattle.rpsl_reader.proofs.Sides.{named_rest, no_rest, other_rest, unnamed_rest}
use Rattle.rpsl_reader.proofs.attribute.sides_of.Goals as goal
use Rattle.rpsl_reader.proofs.attribute.sides_of.Goals.{then-stop-ne58-via-then-stop-ne58}
use Rattle.rpsl_reader.proofs.attribute.sides_of.Goals.{
  then-stop-ne58-via-else-stop-ne58+then-not-may_begin,
}

pub returns-in_default : goal.returns-in_default
returns-in_default c =
    no_rest c.args.line.now c.split_at.result.1.now c.name_end.result c.name_end.ensures.end
    c.split_at.ensures.back c.in_default.len_below

pub returns-then-stop-ne58 : goal.returns-then-stop-ne58
returns-then-stop-ne58 c = elim c.then-stop-ne58.branch [
  | then-stop-ne58-via-then-stop-ne58 w ↦ other_rest c.args.line.now c.split_at.result.1.now
      c.name_end.result _ c.name_end.ensures.end c.split_at.ensures.back w.if-stop-ne58.true
  | then-stop-ne58-via-else-stop-ne58+then-not-may_begin w ↦
      unnamed_rest c.args.line.now c.split_at.result.0.now c.split_at.result.1.now
      c.name_end.result _ c.name_end.ensures.end c.split_at.ensures.front c.split_at.ensures.back
      c.in-len1-up.len_at_least
      w.if-stop-ne58.false (sym w.may_begin.ensures ∙ w.if-not-may_begin.true)
]

pub returns : goal.returns
returns c =
    named_rest c.args.line.now c.split_at.result.0.now c.split_at.result.1.now
    c.name_end.result _ c.name_end.ensures.end c.split_at.ensures.front c.split_at.ensures.back
    c.in-len1-up.len_at_least
    c.if-stop-ne58.false (sym c.may_begin.ensures ∙ c.if-not-may_begin.false)
