use Rattle.std.proofs.Common.{subst, sym}
use Rattle.geo_terms.specs.Sources.{InForce}
use Rattle.update_session.specs.Kept.{IsSession}
use Rattle.update_session.proofs.KeptLemmas.{IsSession-emitted, IsSession-grown}
use Rattle.update_session.proofs.session.Session.build_tree.Goals as goal

pub invariant_of-self : goal.invariant_of-self
invariant_of-self g c = (
  c.self.invariant.0,
  subst (λ (s : InForce). IsSession s c.repaint.new.store c.repaint.new.places c.self.inside.root
      c.self.inside.touched c.self.inside.marks.items) (sym c.repaint.ensures.same)
      (IsSession-grown _ _ _ _ _ _ _ _ _ _ c.repaint.ensures.grows c.repaint.ensures.places
      c.self.invariant.1),
)

pub invariant_of-self-2 : goal.invariant_of-self-2
invariant_of-self-2 g c = (
  (c.self.invariant.0.0, tt),
  subst (λ (s : InForce). IsSession s c.repaint.new.store c.repaint.new.places c.in_ok-root.root
      c.clear.new.self c.self.inside.marks.items) (sym c.repaint.ensures.same)
      (IsSession-emitted _ _ _ _ _ _ _ _ _ _ _ _ c.repaint.ensures.grows c.repaint.ensures.places
      c.self.invariant.1 c.in_ok-root.ensures.of c.in_ok-root.ensures.answers
      c.clear.ensures),
)
