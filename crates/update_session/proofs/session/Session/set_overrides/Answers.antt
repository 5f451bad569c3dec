use Rattle.std.proofs.Common.{◌≡◌, ◌∙◌, List, ap, subst}
use Rattle.std.specs.List.Sorted.{IsPermutation}
use Rattle.geo_terms.specs.declared.statement.Override.{Override}
use Rattle.geo_terms.specs.SourceForm.{OverridesParts}
use Rattle.geo_terms.specs.Sources.{override_rows, rows_in}
use Rattle.source_changes.specs.Changes.{SetOverrides, changes, override_changes}
use Rattle.source_changes.specs.Keeping.{AreOverrides}
use Rattle.update_session.specs.Calls.{HasChanged}
use Rattle.update_session.specs.Kept.{Held}
use Rattle.update_session.specs.contracts.session.Session.{the_view}
use Rattle.update_session.proofs.KeptLemmas.{HasChanged-made, IsSession-changed}
use Rattle.update_session.proofs.session.Session.set_overrides.Goals as goal
use Rattle.update_session.proofs.session.Session.set_overrides.Goals.{in-Ok, in-Err}

pub invariant_of-self-in-Ok : goal.invariant_of-self-in-Ok
invariant_of-self-in-Ok c =
    let rows = ap (λ (o : OverridesParts). o.rows) c.rows.view_is in
    let new : c.as_slice.result.now ≡ c.args.rows.rows = c.as_slice.ensures ∙ rows in
    let old : c.rows_of-old.result.now ≡ override_rows c.self.inside.sources =
    c.rows_of-old.ensures ∙ ap rows_in c.overrides.ensures in
    let sound : AreOverrides c.args.rows.rows = subst AreOverrides rows c.rows.invariant.distinct in
    let same : IsPermutation
    (changes (SetOverrides c.args.rows) c.self.inside.sources) c.in_ok-before.ensures.added.0 =
    subst (λ (xs : List Override). IsPermutation (override_changes xs c.args.rows.rows)
    c.in_ok-before.ensures.added.0) old
    (subst (λ (xs : List Override). IsPermutation (override_changes c.rows_of-old.result.now xs)
    c.in_ok-before.ensures.added.0) new c.in_ok-before.ensures.added.2) in (
      (c.self.invariant.0.0, tt),
      IsSession-changed c.sources_stay.ensures c.kept_by_one_more.ensures c.self.inside.sources
          c.set_overrides.new.self (SetOverrides c.args.rows) _ _ _ c.self.inside.touched
          c.add_changed.new.touched c.in_ok-before.ensures.added.0 _
          c.self.invariant.1 sound c.in-Ok.ensures.sources
          c.in_ok-before.ensures.added.1 same,
    )

pub returns-clause-ok : goal.returns-clause-ok
returns-clause-ok c =
    let rows = ap (λ (o : OverridesParts). o.rows) c.rows.view_is in
    let new : c.as_slice.result.now ≡ c.args.rows.rows = c.as_slice.ensures ∙ rows in
    let old : c.rows_of-old.result.now ≡ override_rows c.self.inside.sources =
    c.rows_of-old.ensures ∙ ap rows_in c.overrides.ensures in
    let same : IsPermutation
    (changes (SetOverrides c.args.rows) c.self.inside.sources) c.in_ok-before.ensures.added.0 =
    subst (λ (xs : List Override). IsPermutation (override_changes xs c.args.rows.rows)
    c.in_ok-before.ensures.added.0) old
    (subst (λ (xs : List Override). IsPermutation (override_changes c.rows_of-old.result.now xs)
    c.in_ok-before.ensures.added.0) new c.in_ok-before.ensures.added.2) in
    elim c.match-set_overrides.branch [
      | in-Ok w ↦ rw (w.result-is, w.self-is) (
          subst (λ (held : Held). HasChanged (SetOverrides c.args.rows) held
          (the_view (record c.self.inside {
            sources = c.set_overrides.new.self;
            touched = c.add_changed.new.touched;
          }))) c.self.view_is
          (HasChanged-made (SetOverrides c.args.rows) (the_view c.self.inside)
          c.set_overrides.new.self
          c.add_changed.new.touched c.in_ok-before.ensures.added.0 w.in-Ok.ensures.sources
          c.in_ok-before.ensures.added.1 same))
      | in-Err w ↦ rw w.result-is tt
    ]
