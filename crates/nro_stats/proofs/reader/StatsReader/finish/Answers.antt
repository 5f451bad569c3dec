-- The lines that are left end the file.
use Rattle.std.proofs.Common.{◌<◌, ◌∙◌, List, length, refl, rules, subst, sym, ap}
use Rattle.geo_terms.specs.DelegationForm.{DelegationParts}
use Rattle.nro_stats.specs.File.{most}
use Rattle.nro_stats.specs.Reading.{Kept, WasFed}
use Rattle.nro_stats.proofs.FileLemmas.{stats_in_form}
use Rattle.nro_stats.proofs.ReadingLemmas.{ended_notes, ended_rows}
use Rattle.nro_stats.proofs.reader.StatsReader.finish.Goals as goal

pub invariant_of-result : goal.invariant_of-result
invariant_of-result g c =
    let k : Kept =
    record {
      slot = c.self.inside.slot;
      fed = c.self.inside.fed;
      before = c.self.inside.before;
      rows = c.self.inside.all.rows.items;
      notes = c.self.inside.all.notes.items;
      left = c.self.inside.left.items;
    } in
    let h = c.self.invariant in
    stats_in_form k.slot h.text _ _ _ refl
    (c.of.ensures ∙ ended_rows k.slot h.text c.as_str.result.now k _ h.was c.as_str.ensures refl
    c.as_slice.ensures.value _ c.in_ok-ended.ensures.rows)
    (c.of-2.ensures ∙ ended_notes k.slot h.text c.as_str.result.now k _ h.was c.as_str.ensures refl
    c.as_slice.ensures.value _ c.in_ok-ended.ensures.notes)

pub returns-then-len-gt-MOST-clause-too_many : goal.returns-then-len-gt-MOST-clause-too_many
returns-then-len-gt-MOST-clause-too_many g c = λ slot text fed refused.
    let k : Kept =
    record {
      slot = c.self.inside.slot;
      fed = c.self.inside.fed;
      before = c.self.inside.before;
      rows = c.self.inside.all.rows.items;
      notes = c.self.inside.all.notes.items;
      left = c.self.inside.left.items;
    } in
    let was = subst (WasFed slot text) (sym c.self.view_is) fed in
    subst (λ (ds : List DelegationParts). most < length ds)
    (ended_rows slot text c.as_str.result.now k _ was c.as_str.ensures refl c.as_slice.ensures.value
    _ c.in_ok-ended.ensures.rows) (search rules)

pub returns-clause-read : goal.returns-clause-read
returns-clause-read g c = λ slot text fed.
    let k : Kept =
    record {
      slot = c.self.inside.slot;
      fed = c.self.inside.fed;
      before = c.self.inside.before;
      rows = c.self.inside.all.rows.items;
      notes = c.self.inside.all.notes.items;
      left = c.self.inside.left.items;
    } in
    let was = subst (WasFed slot text) (sym c.self.view_is) fed in
    let rows =
    c.of.ensures ∙ ended_rows slot text c.as_str.result.now k _ was c.as_str.ensures refl
    c.as_slice.ensures.value _ c.in_ok-ended.ensures.rows in
    let notes =
    c.of-2.ensures ∙ ended_notes slot text c.as_str.result.now k _ was c.as_str.ensures refl
    c.as_slice.ensures.value _ c.in_ok-ended.ensures.notes in
    let its = was.its in
    λ i. record { slot = its i; rows = rows i; notes = notes i }
