use Rattle.std.proofs.Common.{◌≡◌, ◌∙◌, List, ap, sym, subst}
use Rattle.std.specs.List.{All}
use Rattle.geo_addr.specs.Ranges.{Ends, IsRange, range_of_block}
use Rattle.geo_terms.specs.Covering.{covering}
use Rattle.geo_terms.specs.declared.statement.Reference.{Reference}
use Rattle.first_index.specs.Links.{AreShelved}
use Rattle.first_index.specs.Shelf.{family}
use Rattle.first_index.proofs.CoverLemmas.{covering_by}
use Rattle.first_index.proofs.ShelfLemmas.{ends_at}
use Rattle.first_index.proofs.inetnums.index.Index.covering.Goals as goal

pub first_reaching-requires-clause-grouped : goal.first_reaching-requires-clause-grouped
first_reaching-requires-clause-grouped c =
    let up : AreShelved c.as_slice-refs.result.now =
    subst (λ (rs : List Reference). AreShelved rs)
    (sym c.as_slice-refs.ensures.value) c.self.invariant.shelved in
    ends_at c.as_slice-refs.result.now
    (record {
      url = c.args.url.now;
      family = c.family-family.result;
      first =
          c.range.inside.first;
    }) c.end_of-end.result up c.end_of-end.ensures.end

pub returns : goal.returns
returns c =
    let block : record { first = c.range.inside.first; last = c.range.inside.last }
    ≡ range_of_block c.args.block = c.range.view_is ∙ c.range_of-range.ensures in
    let ranges : All (λ (r : Reference). IsRange r.range) c.as_slice-refs.result.now =
    subst (λ (rs : List Reference). All (λ r. IsRange r.range) rs)
    (sym c.as_slice-refs.ensures.value) c.self.invariant.ranges in
    covering_by c.as_slice-refs.result.now c.args.url.now c.args.block c.end_of-end.result
    c.family-family.result c.range.inside.first c.range.inside.last
    (c.family-family.ensures ∙ ap family c.range_of-range.ensures)
    (ap (λ (r : Ends). r.first) block)
    (ap (λ (r : Ends). r.last) block) _ c.end_of-end.ensures.end ranges c.first_reaching.ensures
    ∙ ap (λ (rs : List Reference). covering rs c.args.url.now c.args.block)
    (c.as_slice-refs.ensures.value ∙ c.self.view_is)
