use Rattle.std.proofs.Common.{◌≡◌, ◌<◌, ◌≤◌, ◌^◌, ℕ, List, length, Option, subst, sym}
use Rattle.std.specs.Prelude.{Ok, option_map}
use Rattle.geo_addr.specs.Bits.{bits_of}
use Rattle.geo_terms.specs.PlaceForm.{PlaceParts}
use Rattle.geo_terms.specs.Precedence.{record_at}
use Rattle.geo_terms.specs.Sources.{InForce}
use Rattle.least_nodes.specs.Laws.{Finds}
use Rattle.least_nodes.specs.NodeList.{Member}
use Rattle.mmdb_file.specs.PlaceValue.{place_value}
use Rattle.mmdb_file.specs.Walk.{walk}
use Rattle.update_session.specs.Kept.{Held, IsSession}
use Rattle.update_session.proofs.KeptLemmas.{IsSession-emitted, IsSession-grown}
use Rattle.update_session.proofs.WriteLemmas.{leaf_is}
use Rattle.update_session.proofs.session.Session.emit.Goals as goal

pub write-requires-clause-numbers : goal.write-requires-clause-numbers
write-requires-clause-numbers g c = λ address k below is.
    (leaf_is _ _ _ c.self.inside.sources address k
    (c.in_ok-root.ensures.answers address below) is).0

pub invariant_of-self : goal.invariant_of-self
invariant_of-self g c = (
  c.self.invariant.0,
  subst (λ (s : InForce). IsSession s c.repaint.new.store c.repaint.new.places c.self.inside.root
      c.self.inside.touched c.self.inside.marks.items) (sym c.repaint.ensures.same)
      (IsSession-grown _ _ _ _ _ _ _ _ _ _ c.repaint.ensures.grows c.repaint.ensures.places
      c.self.invariant.1),
)

pub invariant_of-self-in_err-file : goal.invariant_of-self-in_err-file
invariant_of-self-in_err-file g c = (
  c.self.invariant.0,
  subst (λ (s : InForce). IsSession s c.repaint.new.store c.repaint.new.places c.self.inside.root
      c.self.inside.touched c.self.inside.marks.items) (sym c.repaint.ensures.same)
      (IsSession-grown _ _ _ _ _ _ _ _ _ _ c.repaint.ensures.grows c.repaint.ensures.places
      c.self.invariant.1),
)

pub returns-clause-walked : goal.returns-clause-walked
returns-clause-walked g c =
    subst (λ (held : Held). (a : ℕ) → a < 2 ^ 128 → walk c.in_ok-file.file.bytes.items
    (bits_of 128 a) ≡ Ok (option_map place_value (record_at held.state.sources a))) c.self.view_is
    (c.in_ok-file.ensures.walked c.self.inside.sources c.in_ok-root.ensures.answers)

pub returns-clause-fewest : goal.returns-clause-fewest
returns-clause-fewest g c =
    subst (λ (held : Held). (nodes : List (Member (Option PlaceParts) × Member (Option PlaceParts)))
    → Finds 128 nodes (record_at held.state.sources) → c.in_ok-file.file.nodes ≤ length nodes)
    c.self.view_is
    (c.in_ok-file.ensures.fewest c.self.inside.sources c.in_ok-root.ensures.answers)

pub invariant_of-self-2 : goal.invariant_of-self-2
invariant_of-self-2 g c = (
  (c.self.invariant.0.0, tt),
  subst (λ (s : InForce). IsSession s c.repaint.new.store c.repaint.new.places c.in_ok-root.root
      c.clear.new.self c.self.inside.marks.items) (sym c.repaint.ensures.same)
      (IsSession-emitted _ _ _ _ _ _ _ _ _ _ _ _ c.repaint.ensures.grows c.repaint.ensures.places
      c.self.invariant.1 c.in_ok-root.ensures.of c.in_ok-root.ensures.answers
      c.clear.ensures),
)
