-- The number stands for what is said of the segment.
use Rattle.update_session.proofs.NumberingLemmas.{StandFor-push}
use Rattle.update_session.proofs.choosing.note.Goals as goal

pub returns-clause-stands : goal.returns-clause-stands
returns-clause-stands c before h =
    StandFor-push c.args.places.now c.leaf_of.new.places 1 c.args.leaves.now.items _ before
    c.in-Ok.leaf _ c.in-Ok.ensures.places h c.in-Ok.ensures.few c.in-Ok.ensures.place
    c.in_ok-push.ensures.items
