-- What was written, and what the lines that are left make, is all; the lines so far are in form.
use Rattle.std.proofs.Common.{◌≡◌, ◌<◌, ◌++◌, ℕ, drop, get_or}
use Rattle.geo_terms.specs.Numbers.{place_at}
use Rattle.publish_least.specs.declared.line.Line.{Line}
use Rattle.published.specs.FeedText.{feed_text}
use Rattle.published.specs.Reread.{IsLineInForm}
use Rattle.published.proofs.file.feed_text.Given as goal

abbrev pub invariant-loop-line : goal.invariant-loop-line
invariant-loop-line l = record {
  written : l.text.items ++ feed_text (place_at l.places) (drop l.line-index l.lines)
      ≡ feed_text (place_at l.places) l.lines;
  form : (k : ℕ) (d : Line) → k < l.line-index
      → IsLineInForm (get_or l.lines k d).block (place_at l.places (get_or l.lines k d).leaf);
}
