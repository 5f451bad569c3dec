-- One more line was written, and after the last all of them are.
use Rattle.std.proofs.Common.{◌<◌, ◌≤◌, ◌∙◌, ap, length, rules, arith}
use Rattle.std.specs.Option.{option_copied}
use Rattle.feed_csv.specs.File.{feed}
use Rattle.geo_terms.specs.Numbers.{place_at}
use Rattle.published.specs.Reread.{AreInForm}
use Rattle.published.proofs.FileLemmas.{form_more, one_more, whole}
use Rattle.published.proofs.LineReads.{feeds_read_back}
use Rattle.published.proofs.file.feed_text.Goals as goal

pub loop-line-preserved : goal.loop-line-preserved
loop-line-preserved c =
    let within : c.loop-line.line-index < length c.args.lines.now = search rules in
    let done = c.in_ok-push_line.ensures in
    record {
      written =
          one_more (place_at c.args.places.now)
          c.args.lines.now c.loop-line.line-index c.line-item.result
          (option_copied c.get.result) c.loop-line.text.items c.push_line.new.text.items within
          c.line-item.is c.get.ensures done.line c.loop-line.invariant.written;
      form =
          form_more (place_at c.args.places.now) c.args.lines.now c.loop-line.line-index
          c.line-item.result (option_copied c.get.result) within c.line-item.is c.get.ensures
          done.form c.loop-line.invariant.form;
    }

pub returns-clause-reads_back : goal.returns-clause-reads_back
returns-clause-reads_back c url apart clean =
    let past : length c.args.lines.now ≤ c.loop-line.line-index = search rules in
    let form : AreInForm (place_at c.args.places.now) c.args.lines.now =
    λ k d l. c.loop-line.invariant.form k d (omega arith) in
    ap (feed url) (whole (place_at c.args.places.now) c.args.lines.now c.loop-line.line-index
    c.loop-line.text.items past c.loop-line.invariant.written)
    ∙ (feeds_read_back url (place_at c.args.places.now) c.args.lines.now form apart clean).0
