use Rattle.std.proofs.Common.{◌≡◌, ◌∙◌, ap, subst}
use Rattle.geo_terms.specs.SourceForm.{DumpParts}
use Rattle.source_changes.specs.Changes.{SetDump, references_in, named}
use Rattle.update_session.specs.Calls.{HasChanged}
use Rattle.update_session.specs.Kept.{Held}
use Rattle.update_session.specs.contracts.session.Session.{the_view}
use Rattle.update_session.proofs.ChangeLemmas.{changes_by_dump}
use Rattle.update_session.proofs.KeptLemmas.{HasChanged-made, IsSession-changed}
use Rattle.update_session.proofs.session.Session.set_rpsl.Goals as goal
use Rattle.update_session.proofs.session.Session.set_rpsl.Goals.{in-Ok, in-Err}

pub invariant_of-self-in-Ok : goal.invariant_of-self-in-Ok
invariant_of-self-in-Ok c =
    let new : c.as_slice-new.result.now ≡ c.args.dump.refs =
    c.as_slice-new.ensures ∙ ap (λ (x : DumpParts). x.refs) c.dump.view_is in
    let name : c.as_str.result.now ≡ c.args.dump.slot =
    c.as_str.ensures ∙ ap (λ (x : DumpParts). x.slot) c.dump.view_is in
    let old : c.references_of-old.result.now
    ≡ references_in (named (λ x. x.slot) c.args.dump.slot c.self.inside.sources.dumps) =
    c.references_of-old.ensures ∙ ap references_in c.dump_of.ensures
    ∙ (λ i. references_in (named (λ x. x.slot) (name i) c.self.inside.sources.dumps)) in
    let same = changes_by_dump c.self.inside.sources c.args.dump _ _
    c.in_ok-before.ensures.added.0 old new c.in_ok-before.ensures.added.2 in (
      (c.self.invariant.0.0, tt),
      IsSession-changed c.sources_stay.ensures c.kept_by_one_more.ensures c.self.inside.sources
          c.set_rpsl.new.self (SetDump c.args.dump) _ _ _ c.self.inside.touched
          c.add_changed.new.touched c.in_ok-before.ensures.added.0 _
          c.self.invariant.1 tt c.in-Ok.ensures.sources
          c.in_ok-before.ensures.added.1 same,
    )

pub returns-clause-ok : goal.returns-clause-ok
returns-clause-ok c =
    let new : c.as_slice-new.result.now ≡ c.args.dump.refs =
    c.as_slice-new.ensures ∙ ap (λ (x : DumpParts). x.refs) c.dump.view_is in
    let name : c.as_str.result.now ≡ c.args.dump.slot =
    c.as_str.ensures ∙ ap (λ (x : DumpParts). x.slot) c.dump.view_is in
    let old : c.references_of-old.result.now
    ≡ references_in (named (λ x. x.slot) c.args.dump.slot c.self.inside.sources.dumps) =
    c.references_of-old.ensures ∙ ap references_in c.dump_of.ensures
    ∙ (λ i. references_in (named (λ x. x.slot) (name i) c.self.inside.sources.dumps)) in
    let same = changes_by_dump c.self.inside.sources c.args.dump _ _
    c.in_ok-before.ensures.added.0 old new c.in_ok-before.ensures.added.2 in
    elim c.match-set_rpsl.branch [
      | in-Ok w ↦ rw (w.result-is, w.self-is) (
          subst (λ (held : Held). HasChanged (SetDump c.args.dump) held
          (the_view (record c.self.inside {
            sources = c.set_rpsl.new.self;
            touched = c.add_changed.new.touched;
          }))) c.self.view_is
          (HasChanged-made (SetDump c.args.dump) (the_view c.self.inside) c.set_rpsl.new.self
          c.add_changed.new.touched c.in_ok-before.ensures.added.0 w.in-Ok.ensures.sources
          c.in_ok-before.ensures.added.1 same))
      | in-Err w ↦ rw w.result-is tt
    ]
