use Rattle.std.proofs.Common.{◌≡◌, ◌∙◌, List, [], ap, subst}
use Rattle.std.specs.List.Sorted.{IsPermutation}
use Rattle.geo_terms.specs.DelegationForm.{DelegationParts}
use Rattle.source_changes.specs.Changes.{DropStats, changes, delegations_in, named}
use Rattle.source_changes.specs.Changes.{delegation_changes}
use Rattle.update_session.specs.Calls.{HasChanged}
use Rattle.update_session.specs.Kept.{Held}
use Rattle.update_session.specs.contracts.session.Session.{the_view}
use Rattle.update_session.proofs.KeptLemmas.{HasChanged-made, IsSession-changed}
use Rattle.update_session.proofs.session.Session.drop_stats.Goals as goal
use Rattle.update_session.proofs.session.Session.drop_stats.Goals.{in-Ok, in-Err}

pub invariant_of-self-in-Ok : goal.invariant_of-self-in-Ok
invariant_of-self-in-Ok c =
    let old : c.delegations_of-old.result.now
    ≡ delegations_in (named (λ x. x.slot) c.args.slot.now c.self.inside.sources.stats) =
    c.delegations_of-old.ensures ∙ ap delegations_in c.in-Some.ensures in
    let same : IsPermutation
    (changes (DropStats c.args.slot.now) c.self.inside.sources) c.in_ok-before.ensures.added.0 =
    subst (λ (xs : List DelegationParts). IsPermutation (delegation_changes xs [])
    c.in_ok-before.ensures.added.0) old c.in_ok-before.ensures.added.2 in (
      (c.self.invariant.0.0, tt),
      IsSession-changed c.sources_stay.ensures c.kept_by_one_more.ensures c.self.inside.sources
          c.drop_stats.new.self (DropStats c.args.slot.now) _ _ _ c.self.inside.touched
          c.add_changed.new.touched c.in_ok-before.ensures.added.0 _
          c.self.invariant.1 tt c.in-Ok.ensures.sources
          c.in_ok-before.ensures.added.1 same,
    )

pub returns-clause-ok : goal.returns-clause-ok
returns-clause-ok c =
    let old : c.delegations_of-old.result.now
    ≡ delegations_in (named (λ x. x.slot) c.args.slot.now c.self.inside.sources.stats) =
    c.delegations_of-old.ensures ∙ ap delegations_in c.in-Some.ensures in
    let same : IsPermutation
    (changes (DropStats c.args.slot.now) c.self.inside.sources) c.in_ok-before.ensures.added.0 =
    subst (λ (xs : List DelegationParts). IsPermutation (delegation_changes xs [])
    c.in_ok-before.ensures.added.0) old c.in_ok-before.ensures.added.2 in
    elim c.match-drop_stats.branch [
      | in-Ok w ↦ rw (w.result-is, w.self-is) (
          subst (λ (held : Held). HasChanged (DropStats c.args.slot.now) held
          (the_view (record c.self.inside {
            sources = c.drop_stats.new.self;
            touched = c.add_changed.new.touched;
          }))) c.self.view_is
          (HasChanged-made (DropStats c.args.slot.now) (the_view c.self.inside)
          c.drop_stats.new.self
          c.add_changed.new.touched c.in_ok-before.ensures.added.0 w.in-Ok.ensures.sources
          c.in_ok-before.ensures.added.1 same))
      | in-Err w ↦ rw w.result-is tt
    ]
