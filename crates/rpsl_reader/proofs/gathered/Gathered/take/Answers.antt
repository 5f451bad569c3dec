use Rattle.std.proofs.Common.{◌++◌, sym, ap, ◌∙◌, append-nil}
use Rattle.std.proofs.lemmas.Result.{on_ok_weaker}
use Rattle.rpsl_reader.specs.Changes.{open_group}
use Rattle.rpsl_reader.proofs.Opens.{quiet_comment, quiet_other}
use Rattle.rpsl_reader.proofs.gathered.Gathered.take.Goals as goal

pub returns-then-is_comment-clause-found : goal.returns-then-is_comment-clause-found
returns-then-is_comment-clause-found c =
    sym (ap (λ t. c.args.found.now.items ++ t)
    (quiet_comment c.args.selection.now (open_group c.args.self.now)
    (c.args.number, c.args.text.now) (sym c.is_comment.ensures ∙ c.if-is_comment.true))
    ∙ append-nil c.args.found.now.items)

pub returns-clause-found : goal.returns-clause-found
returns-clause-found c =
    on_ok_weaker c.add.result (λ added. sym (ap (λ t. c.args.found.now.items ++ t)
    (quiet_other c.args.selection.now (open_group c.args.self.now) (c.args.number, c.args.text.now)
    (sym c.is_comment.ensures ∙ c.if-is_comment.false) (sym c.is_end.ensures ∙ c.if-is_end.false))
    ∙ append-nil c.args.found.now.items)) c.add.ensures.held
