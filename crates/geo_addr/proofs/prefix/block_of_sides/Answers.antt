use Rattle.std.proofs.Common.{◌∙◌}
use Rattle.geo_addr.proofs.PrefixLemmas.{block_in-alone, block_in-slash}
use Rattle.geo_addr.proofs.prefix.block_of_sides.Goals as goal

pub returns-in-None : goal.returns-in-None
returns-in-None c =
    let cut = c.cut_near.ensures in
    let read = c.read_either-six.ensures in
    c.block_of.ensures
    ∙ block_in-alone c.args.text.now c.cut_near.result.0.now c.cut_near.result.1 _ _ _ cut.free
    cut.joined c.in-None.is read.family read.number c.address_length.ensures

pub returns-in-Some : goal.returns-in-Some
returns-in-Some c =
    let cut = c.cut_near.ensures in
    let read = c.read_either-six.ensures in
    c.block_of-in-Some.ensures
    ∙ block_in-slash c.args.text.now c.cut_near.result.0.now c.cut_near.result.1 c.in-Some.right _ _
    _ cut.free cut.joined c.in-Some.is read.family read.number c.length_of.ensures.value
