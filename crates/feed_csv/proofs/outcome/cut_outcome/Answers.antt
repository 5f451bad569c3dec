-- A line with a block in front of a tail that is held is accepted.
use Rattle.std.proofs.Common.{◌≡◌, ◌∙◌, ap, sym}
use Rattle.std.specs.Prelude.{Ok}
use Rattle.geo_addr.specs.Prefixes.{block_in}
use Rattle.geo_terms.specs.PlaceForm.{PlaceParts}
use Rattle.geo_terms.specs.declared.place.Said.TheVariants.{At}
use Rattle.feed_csv.specs.declared.outcome.LineOutcome.TheVariants.{Accepted}
use Rattle.feed_csv.proofs.TailLemmas.{tail_outcome}
use Rattle.feed_csv.proofs.outcome.cut_outcome.Goals as goal

pub returns : goal.returns
returns c line cut =
    let first = c.args.cut.now.first in
    let says = c.in-Some.ensures line first cut in
    let is : block_in first ≡ Ok c.in-Ok.block =
    ap block_in (sym c.first.ensures) ∙ sym c.in-Ok.ensures in (
      ap (λ (p : PlaceParts). Accepted c.in-Ok.block (At p)) c.in_ok-place.ensures
          ∙ sym (tail_outcome line first c.args.cut.now.tail c.in-Ok.block c.in-Some.place.now cut
          says is),
      says.handed,
    )
