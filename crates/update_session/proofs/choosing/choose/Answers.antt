-- The chunks' segments, one chunk after another, are those of the touched grounds.
use Rattle.update_session.proofs.BlankLemmas.{all_chosen}
use Rattle.update_session.proofs.ChunkLemmas.{AreChosen-made}
use Rattle.update_session.proofs.choosing.choose.Goals as goal

pub returns : goal.returns
returns g c =
    AreChosen-made c.args.sources.now c.args.touched.now c.args.blank _ _ _ c.in_ok-chunks.ensures
    c.as_slice.ensures.value
    (all_chosen c.args.sources.now c.args.touched.now c.args.blank _ _ c.requires
    c.in_ok-chosen.ensures.related)
