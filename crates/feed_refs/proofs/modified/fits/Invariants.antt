use Rattle.std.proofs.Common.{◌≡◌, length}
use Rattle.feed_refs.specs.Dates.{fits}
use Rattle.feed_refs.proofs.modified.fits.Given as goal

abbrev pub invariant-loop-shape_left : goal.invariant-loop-shape_left
invariant-loop-shape_left l = fits l.shape_left l.left ≡ fits l.shape l.text

abbrev pub decreases-loop-shape_left : goal.decreases-loop-shape_left
decreases-loop-shape_left l = length l.shape_left
