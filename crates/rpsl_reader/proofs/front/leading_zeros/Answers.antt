use Rattle.rpsl_reader.proofs.Lanes.{lowest_after, lowest_within, mask_of, zero_all}
use Rattle.rpsl_reader.proofs.front.leading_zeros.Goals as goal

pub returns-then-others-eq0-clause-zeros : goal.returns-then-others-eq0-clause-zeros
returns-then-others-eq0-clause-zeros c k l =
    zero_all c.args.bytes _ k c.fits-bytes.0 (mask_of c.args.bytes c.fits-bytes.0)
    c.if-others-eq0.true l

pub returns-clause-within : goal.returns-clause-within
returns-clause-within c =
    lowest_within c.args.bytes _ c.fits-bytes.0 (mask_of c.args.bytes c.fits-bytes.0)
    c.if-others-eq0.false

pub returns-clause-zeros : goal.returns-clause-zeros
returns-clause-zeros c k l =
    lowest_after c.args.bytes _ k c.fits-bytes.0 (mask_of c.args.bytes c.fits-bytes.0)
    c.if-others-eq0.false l
