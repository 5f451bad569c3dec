use Rattle.std.proofs.Common.{◌∙◌, ap, Ok}
use Rattle.geo_addr.specs.Spans.{range_of_read}
use Rattle.geo_addr.proofs.SpanLemmas.{span_in-alone, span_in-hyphen}
use Rattle.geo_addr.proofs.span.parse_span.Goals as goal

pub returns-in-Ok : goal.returns-in-Ok
returns-in-Ok c =
    ap Ok c.range_of.ensures
    ∙ ap range_of_read c.in-Ok.ensures
    ∙ span_in-alone c.args.text.now c.cut_at.result.0.now c.cut_at.result.1 c.cut_at.ensures.free
    c.cut_at.ensures.joined c.in-None.is

pub returns-in-Err : goal.returns-in-Err
returns-in-Err c =
    ap range_of_read c.in-Err.ensures
    ∙ span_in-alone c.args.text.now c.cut_at.result.0.now c.cut_at.result.1 c.cut_at.ensures.free
    c.cut_at.ensures.joined c.in-None.is

pub returns-in-Some : goal.returns-in-Some
returns-in-Some c =
    c.range_between.ensures
    ∙ rw (
      c.trim_end.ensures,
      c.trim_start.ensures,
    ) (span_in-hyphen c.args.text.now c.cut_at.result.0.now c.cut_at.result.1 c.in-Some.right
    c.cut_at.ensures.free c.cut_at.ensures.joined c.in-Some.is)
