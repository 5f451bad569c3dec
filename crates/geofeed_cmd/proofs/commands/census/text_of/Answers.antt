-- The counts under the root of a session that answers the records are those of the records.
use Rattle.std.proofs.Common.{◌≡◌, List, ◌∙◌, ap, ap₂, subst}
use Rattle.std.specs.Prelude.{IfOk}
use Rattle.check_census.specs.declared.count.Count.{Count}
use Rattle.check_census.specs.Census.{census, country_at}
use Rattle.check_census.specs.Texts.{count_lines}
use Rattle.geofeed_cmd.proofs.CountryLemmas.{counts_of_records}
use Rattle.geofeed_cmd.proofs.commands.census.text_of.Goals as goal

pub returns : goal.returns
returns c s means =
    let held = c.args.session.now in
    let same = c.as_slice.ensures.value ∙ c.in_ok-counts.ensures
    ∙ ap₂ (λ pairs places. census (country_at pairs c.root-root.result places)) c.store.ensures
    c.places.ensures
    ∙ ap (λ root. census (country_at held.store root held.places)) c.root-root.ensures.same
    ∙ counts_of_records held.store held.root held.places s means.answers in
    subst (λ (counts : List Count). IfOk c.census_text.result (λ text. text ≡ count_lines counts))
    same c.census_text.ensures
