use Rattle.std.proofs.Common.{◌≡◌, ◌∙◌, ap, subst}
use Rattle.geo_terms.specs.SourceForm.{StatsParts}
use Rattle.source_changes.specs.Changes.{SetStats, delegations_in, named}
use Rattle.source_changes.specs.Keeping.{AreDelegations}
use Rattle.update_session.specs.Calls.{HasChanged}
use Rattle.update_session.specs.Kept.{Held}
use Rattle.update_session.specs.contracts.session.Session.{the_view}
use Rattle.update_session.proofs.ChangeLemmas.{changes_by_stats}
use Rattle.update_session.proofs.KeptLemmas.{HasChanged-made, IsSession-changed}
use Rattle.update_session.proofs.session.Session.set_stats.Goals as goal
use Rattle.update_session.proofs.session.Session.set_stats.Goals.{in-Ok, in-Err}

pub invariant_of-self-in-Ok : goal.invariant_of-self-in-Ok
invariant_of-self-in-Ok c =
    let new : c.as_slice-new.result.now ≡ c.args.stats.rows =
    c.as_slice-new.ensures ∙ ap (λ (x : StatsParts). x.rows) c.stats.view_is in
    let name : c.as_str.result.now ≡ c.args.stats.slot =
    c.as_str.ensures ∙ ap (λ (x : StatsParts). x.slot) c.stats.view_is in
    let old : c.delegations_of-old.result.now
    ≡ delegations_in (named (λ x. x.slot) c.args.stats.slot c.self.inside.sources.stats) =
    c.delegations_of-old.ensures ∙ ap delegations_in c.stats_of.ensures
    ∙ (λ i. delegations_in (named (λ x. x.slot) (name i) c.self.inside.sources.stats)) in
    let sound : AreDelegations c.args.stats.rows =
    subst AreDelegations new (λ k d below. (c.keep_all.ensures k d below).place) in
    let same = changes_by_stats c.self.inside.sources c.args.stats _ _
    c.in_ok-before.ensures.added.0 old new c.in_ok-before.ensures.added.2 in (
      (c.self.invariant.0.0, tt),
      IsSession-changed c.sources_stay.ensures c.kept_by_one_more.ensures c.self.inside.sources
          c.set_stats.new.self (SetStats c.args.stats) _ _ _ c.self.inside.touched
          c.add_changed.new.touched c.in_ok-before.ensures.added.0 _
          c.self.invariant.1 sound c.in-Ok.ensures.sources
          c.in_ok-before.ensures.added.1 same,
    )

pub returns-clause-ok : goal.returns-clause-ok
returns-clause-ok c =
    let new : c.as_slice-new.result.now ≡ c.args.stats.rows =
    c.as_slice-new.ensures ∙ ap (λ (x : StatsParts). x.rows) c.stats.view_is in
    let name : c.as_str.result.now ≡ c.args.stats.slot =
    c.as_str.ensures ∙ ap (λ (x : StatsParts). x.slot) c.stats.view_is in
    let old : c.delegations_of-old.result.now
    ≡ delegations_in (named (λ x. x.slot) c.args.stats.slot c.self.inside.sources.stats) =
    c.delegations_of-old.ensures ∙ ap delegations_in c.stats_of.ensures
    ∙ (λ i. delegations_in (named (λ x. x.slot) (name i) c.self.inside.sources.stats)) in
    let same = changes_by_stats c.self.inside.sources c.args.stats _ _
    c.in_ok-before.ensures.added.0 old new c.in_ok-before.ensures.added.2 in
    elim c.match-set_stats.branch [
      | in-Ok w ↦ rw (w.result-is, w.self-is) (
          subst (λ (held : Held). HasChanged (SetStats c.args.stats) held
          (the_view (record c.self.inside {
            sources = c.set_stats.new.self;
            touched = c.add_changed.new.touched;
          }))) c.self.view_is
          (HasChanged-made (SetStats c.args.stats) (the_view c.self.inside) c.set_stats.new.self
          c.add_changed.new.touched c.in_ok-before.ensures.added.0 w.in-Ok.ensures.sources
          c.in_ok-before.ensures.added.1 same))
      | in-Err w ↦ rw w.result-is tt
    ]
