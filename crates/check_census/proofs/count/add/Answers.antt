-- The count at the index that a halving found is that of the country.
use Rattle.std.proofs.Common.{◌≡◌, ◌+◌, ◌<◌, ◌≤◌, List, length, Ok, Err, ap, subst, ◌∙◌, set, arith}
use Rattle.std.specs.List.{insert}
use Rattle.std.specs.List.Sorted.{IsBinarySearchResult}
use Rattle.std.proofs.lemmas.Map.Lookups.{exact_bytes}
use Rattle.geo_terms.specs.Precedence.{text_cmp}
use Rattle.check_census.specs.Census.{count_of, v4_in, v6_in}
use Rattle.check_census.specs.declared.count.Count.{Count}
use Rattle.check_census.proofs.CountLemmas.{old_count, set_is_added, insert_is_added}
use Rattle.check_census.proofs.JudgingLemmas.{read_at}
use Rattle.check_census.proofs.count.add.Goals as goal

pub overflow_add-v4 : goal.overflow_add-v4
overflow_add-v4 c =
    let ns = c.args.counts.now.items in
    let country = c.args.country.now in
    let within : c.in-Ok.index < length ns =
    subst (λ (ys : List Count). c.in-Ok.index < length ys) c.as_slice.ensures.value
    c.in-Ok.ensures.within in
    let found : IsBinarySearchResult (λ n. text_cmp n.country country) ns (Ok c.in-Ok.index) =
    subst (λ (ys : List Count). IsBinarySearchResult
    (λ n. text_cmp n.country country) ys (Ok c.in-Ok.index))
    c.as_slice.ensures.value c.in-Ok.ensures.found in
    let old = old_count country c.index-old.result.now ns c.in-Ok.index c.requires.order
    within found (read_at ns c.in-Ok.index c.index-old.result.now within c.index-old.ensures) in
    let is : v4_in (count_of country ns) ≡ c.index-old.result.now.v4 = ap v4_in old in
    let room = c.requires.room_v4 country in
    omega arith

pub overflow_add-v6 : goal.overflow_add-v6
overflow_add-v6 c =
    let ns = c.args.counts.now.items in
    let country = c.args.country.now in
    let within : c.in-Ok.index < length ns =
    subst (λ (ys : List Count). c.in-Ok.index < length ys) c.as_slice.ensures.value
    c.in-Ok.ensures.within in
    let found : IsBinarySearchResult (λ n. text_cmp n.country country) ns (Ok c.in-Ok.index) =
    subst (λ (ys : List Count). IsBinarySearchResult
    (λ n. text_cmp n.country country) ys (Ok c.in-Ok.index))
    c.as_slice.ensures.value c.in-Ok.ensures.found in
    let old = old_count country c.index-old.result.now ns c.in-Ok.index c.requires.order
    within found (read_at ns c.in-Ok.index c.index-old.result.now within c.index-old.ensures) in
    let is : v6_in (count_of country ns) ≡ c.index-old.result.now.v6 = ap v6_in old in
    let room = c.requires.room_v6 country in
    omega arith

pub returns-in_ok-country-in-Ok : goal.returns-in_ok-country-in-Ok
returns-in_ok-country-in-Ok c =
    let ns = c.args.counts.now.items in
    let country = c.args.country.now in
    let within : c.in-Ok.index < length ns =
    subst (λ (ys : List Count). c.in-Ok.index < length ys) c.as_slice.ensures.value
    c.in-Ok.ensures.within in
    let found : IsBinarySearchResult (λ n. text_cmp n.country country) ns (Ok c.in-Ok.index) =
    subst (λ (ys : List Count). IsBinarySearchResult
    (λ n. text_cmp n.country country) ys (Ok c.in-Ok.index))
    c.as_slice.ensures.value c.in-Ok.ensures.found in
    let old = c.index-old.result.now in
    let own : old.country ≡ country =
    exact_bytes old.country country
    (ap (λ (n : Count). text_cmp n.country country) c.index-old.ensures ∙ found old) in
    ap (λ t. set ns c.in-Ok.index
    (record { country = t; v4 = old.v4 + c.args.v4; v6 = old.v6 + c.args.v6 }))
    (c.in_ok-country-in-Ok.ensures ∙ own)
    ∙ set_is_added country c.args.v4 c.args.v6 old ns c.in-Ok.index c.requires.order
    within found (read_at ns c.in-Ok.index c.index-old.result.now within c.index-old.ensures)

pub returns-in_ok-insert-in-Err : goal.returns-in_ok-insert-in-Err
returns-in_ok-insert-in-Err c =
    let ns = c.args.counts.now.items in
    let country = c.args.country.now in
    let within : c.in-Err.index ≤ length ns =
    subst (λ (ys : List Count). c.in-Err.index ≤ length ys) c.as_slice.ensures.value
    c.in-Err.ensures.within in
    let found : IsBinarySearchResult (λ n. text_cmp n.country country) ns (Err c.in-Err.index) =
    subst (λ (ys : List Count). IsBinarySearchResult
    (λ n. text_cmp n.country country) ys (Err c.in-Err.index))
    c.as_slice.ensures.value c.in-Err.ensures.found in
    c.in_ok-insert-in-Err.ensures.items
    ∙ ap (λ t. insert ns c.in-Err.index
    (record { country = t; v4 = c.args.v4; v6 = c.args.v6 })) c.in_ok-country-in-Err.ensures
    ∙ insert_is_added country c.args.v4 c.args.v6 ns c.in-Err.index c.requires.order within found
