use Rattle.std.proofs.Common.{◌∙◌, sym}
use Rattle.mmdb_data.specs.View.{value_tree}
use Rattle.mmdb_data.proofs.Fine.{fits_means, fits_when}
use Rattle.mmdb_data.proofs.sizes.fits.Goals as goal

pub returns : goal.returns
returns c = (
  λ e. fits_means (value_tree c.args.value.now) (sym c.fits_within.ensures ∙ e),
  λ can. c.fits_within.ensures ∙ fits_when (value_tree c.args.value.now) can,
)
