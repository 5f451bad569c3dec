use Rattle.std.proofs.Common.{◌≡◌, ◌∙◌, List, length, ap, sym, subst, rules}
use Rattle.std.specs.List.{All}
use Rattle.std.specs.List.Sorted.{IsSortedBy}
use Rattle.std.specs.Ordering.{is_lt}
use Rattle.std.proofs.lemmas.List.Sorted.{answers_always, ranks_by}
use Rattle.geo_addr.specs.Ranges.{IsRange}
use Rattle.first_index.specs.FirstIndex.{TellsFirst}
use Rattle.geo_terms.specs.Precedence.{reference_cmp}
use Rattle.geo_terms.specs.declared.statement.Reference.{Reference}
use Rattle.first_index.specs.Links.{AreLinks, AreShelved}
use Rattle.first_index.specs.Shelf.{shelf_cmp}
use Rattle.first_index.proofs.CoverLemmas.{alike}
use Rattle.first_index.proofs.ShelfLemmas.{shelf_total, shelved}
use Rattle.first_index.proofs.inetnums.index.Index.build.Goals as goal

pub links_of-requires : goal.links_of-requires
links_of-requires c =
    let sorted : IsSortedBy (λ (x y : Reference). is_lt (shelf_cmp x y))
    c.sort_unstable_by.new.self.items =
    c.sort_unstable_by.ensures.sorted (λ x y. is_lt (shelf_cmp x y))
    (ranks_by shelf_total (λ (r : Reference). r))
    (answers_always _ _ _ (λ f a r q k. let e : r ≡ shelf_cmp a.0.now a.1.0.now = search rules in
    ap is_lt e)) in
    subst (λ (rs : List Reference). AreShelved rs) (sym c.as_slice-2.ensures.value)
    (shelved c.sort_unstable_by.new.self.items sorted)

pub invariant_of-result : goal.invariant_of-result
invariant_of-result c =
    let sorted : IsSortedBy (λ (x y : Reference). is_lt (shelf_cmp x y))
    c.sort_unstable_by.new.self.items =
    c.sort_unstable_by.ensures.sorted (λ x y. is_lt (shelf_cmp x y))
    (ranks_by shelf_total (λ (r : Reference). r))
    (answers_always _ _ _ (λ f a r q k. let e : r ≡ shelf_cmp a.0.now a.1.0.now = search rules in
    ap is_lt e)) in
    record {
      ranges = subst (λ (rs : List Reference). All (λ r. IsRange r.range) rs)
          c.as_slice.ensures.value c.in_ok-firsts.ensures.ranges;
      first = subst (λ (rs : List Reference). TellsFirst reference_cmp
          (λ (r : Reference). r.range) rs c.in_ok-firsts.firsts) c.as_slice.ensures.value
          c.in_ok-firsts.ensures.first;
      shelved = shelved c.sort_unstable_by.new.self.items sorted;
      linked = c.in_ok-links.ensures.linked ∙ ap length c.as_slice-2.ensures.value;
      links = subst (λ (rs : List Reference). AreLinks rs c.in_ok-links.links.items)
          c.as_slice-2.ensures.value c.in_ok-links.ensures.links;
    }

pub returns : goal.returns
returns c =
    alike c.args.refs.items c.sort_unstable_by.new.self.items c.sort_unstable_by.ensures.permutation
    (subst (λ (rs : List Reference). All (λ r. IsRange r.range) rs) c.as_slice.ensures.value
    c.in_ok-firsts.ensures.ranges)
