use Rattle.update_session.proofs.WriteLemmas.{leaf_is}
use Rattle.update_session.proofs.session.Session.root.Goals as goal

pub means_records-requires-clause-numbers : goal.means_records-requires-clause-numbers
means_records-requires-clause-numbers c = λ address k below is.
    (leaf_is _ _ _ c.self.invariant.1.now.base.base address k
    (c.self.invariant.1.now.base.answers address below) is).0
