-- A text that is not UTF-8 is refused, and any other is what the parser makes of it.
use Rattle.std.proofs.Common.{◌≡◌, None, ap, sym, subst, ◌∙◌}
use Rattle.std.specs.Result.{IfOk}
use Rattle.url.specs.Parser.{parse_url}
use Rattle.feed_refs.specs.Urls.{parsed_read}
use Rattle.feed_refs.proofs.UrlLemmas.{bytes_refused, text_read}
use Rattle.feed_refs.proofs.feed_url.read_url.Goals as goal

pub returns-in-Err : goal.returns-in-Err
returns-in-Err c = bytes_refused c.args.text.now (c.in-Err.ensures.cases.0)

pub returns-in-Ok : goal.returns-in-Ok
returns-in-Ok c =
    let is =
    text_read c.args.text.now c.in-Ok.ensures.cases.1
    ∙ ap (λ t. parsed_read (parse_url None t)) (sym c.in-Ok.ensures.cases.0) in
    subst (λ v. IfOk c.parsed.result (λ read. read ≡ v)) (sym is) c.parsed.ensures
