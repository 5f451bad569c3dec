-- One chunk after another, and the blocks that carry IPv4 addresses after all.
use Rattle.std.proofs.Common.{◌≡◌, ◌∙◌, ℕ, List, None, ap, arith, length, map, rules, subst, sym}
use Rattle.std.proofs.Common.{true}
use Rattle.std.proofs.lemmas.Iterator.Adapters.{YieldsList-from_vec}
use Rattle.std.proofs.lemmas.List.{length-map}
use Rattle.std.proofs.lemmas.List.Sums.{sum_by_push}
use Rattle.trie_core.specs.declared.paint.Part.{Part}
use Rattle.trie_core.proofs.StoreLemmas.{GrowsBy-trans as StoreGrowsBy-trans}
use Rattle.update_session.specs.declared.choosing.Chosen.{Chosen}
use Rattle.geo_terms.specs.Alias.{is_alias}
use Rattle.geo_terms.specs.Precedence.{spoken_at}
use Rattle.geo_terms.specs.Sources.{InForce}
use Rattle.update_session.specs.Build.{IsAllTouched}
use Rattle.update_session.proofs.AliasLemmas.{AnswersAll-made}
use Rattle.update_session.proofs.BlankLemmas.{all_touched, answers_none}
use Rattle.update_session.proofs.BuildLemmas.{AnswersSpoken-painted, GrowsBy-trans}
use Rattle.update_session.proofs.BuildLemmas.{IsAscending-from_segments}
use Rattle.update_session.proofs.BuildLemmas.{few_places_of, painted_more}
use Rattle.update_session.proofs.BuildLemmas.{some_touched, within_bound}
use Rattle.update_session.proofs.ChunkLemmas.{all_in, next_in}
use Rattle.update_session.proofs.KeptLemmas.{spoken_elsewhere}
use Rattle.update_session.proofs.NumberingLemmas.{IsKnown-from_chosen}
use Rattle.update_session.proofs.build.repaint.Goals as goal

pub choose-requires : goal.choose-requires
choose-requires g c = (
  c.type_bounds.sync-R,
  (
    c.type_bounds.sync-G,
    λ is.
        let s = c.args.sources.now in
        subst (λ (t : InForce). IsAllTouched t c.args.touched.now) (sym c.make_ready.ensures)
        (all_touched s c.args.store.now c.args.places.now c.args.root c.args.touched.now
        c.requires.base (c.in_ok-blank.ensures.root is)
        (subst (λ (t : InForce). (a : ℕ) → is_alias a ≡ true → spoken_at t a ≡ None)
        c.make_ready.ensures (c.in_ok-blank.ensures.silent is))),
  ),
)

pub parts_of-requires : goal.parts_of-requires
parts_of-requires g c =
    let yields = YieldsList-from_vec {s = c.into_iter-one-iterator.result}
    c.in_ok-chosen.chosen.items (search rules) (search rules) in
    let next = next_in c.make_ready.new.self c.args.sources.now c.args.touched.now
    c.in_ok-blank.blank c.in_ok-chosen.chosen.items c.loop-one.yielded c.loop-one.one-iterator
    c.next.new.self c.next.result c.in-Some.one c.make_ready.ensures c.in_ok-chosen.ensures yields
    c.loop-one.yielded_by c.in-Some.is c.next.ensures.steps in
    IsKnown-from_chosen c.args.sources.now c.in-Some.one next.is.chosen

pub paint-requires-clause-ascending : goal.paint-requires-clause-ascending
paint-requires-clause-ascending g c =
    let yields = YieldsList-from_vec {s = c.into_iter-one-iterator.result}
    c.in_ok-chosen.chosen.items (search rules) (search rules) in
    let next = next_in c.make_ready.new.self c.args.sources.now c.args.touched.now
    c.in_ok-blank.blank c.in_ok-chosen.chosen.items c.loop-one.yielded c.loop-one.one-iterator
    c.next.new.self c.next.result c.in-Some.one c.make_ready.ensures c.in_ok-chosen.ensures yields
    c.loop-one.yielded_by c.in-Some.is c.next.ensures.steps in
    IsAscending-from_segments c.in-Some.one.segments.items c.as_slice.result.now
    next.is.cut.ranges next.is.cut.apart
    (ap (map (λ (p : Part). p.range)) c.as_slice.ensures.value ∙ c.in_ok-parts.ensures.ranges)

pub loop-one-preserved : goal.loop-one-preserved
loop-one-preserved g c =
    let yields = YieldsList-from_vec {s = c.into_iter-one-iterator.result}
    c.in_ok-chosen.chosen.items (search rules) (search rules) in
    let next = next_in c.make_ready.new.self c.args.sources.now c.args.touched.now
    c.in_ok-blank.blank c.in_ok-chosen.chosen.items c.loop-one.yielded c.loop-one.one-iterator
    c.next.new.self c.next.result c.in-Some.one c.make_ready.ensures c.in_ok-chosen.ensures yields
    c.loop-one.yielded_by c.in-Some.is c.next.ensures.steps in
    let one = c.in-Some.one in
    let before = c.loop-one.yielded in
    let as_many : length c.as_slice.result.now ≡ length one.segments.items =
    sym (length-map c.as_slice.result.now (λ (p : Part). p.range))
    ∙ ap (λ (ps : List Part). length (map (λ (p : Part). p.range) ps)) c.as_slice.ensures.value
    ∙ ap length c.in_ok-parts.ensures.ranges in
    record {
      of = c.in_ok-painted.ensures.of;
      painted = painted_more c.args.sources.now c.args.touched.now c.in_ok-blank.blank next.chunk
          before one
          c.in_ok-parts.parts.items c.as_slice.result.now c.args.store.now c.loop-one.store
          c.paint.new.store c.loop-one.places c.parts_of.new.places _ c.args.root
          c.loop-one.painted c.in_ok-painted.painted c.loop-one.invariant.painted next.is
          c.in_ok-parts.ensures.places c.as_slice.ensures.value c.in_ok-parts.ensures.ranges
          c.in_ok-parts.ensures.leaves c.in_ok-painted.ensures.lookups;
      ticks = omega (arith, c.loop-one.invariant.ticks, c.in_ok-painted.ensures.ticks);
      few_ticks = omega (
        arith,
        c.loop-one.invariant.few_ticks,
        c.in_ok-painted.ensures.few_ticks,
        sum_by_push (λ (x : Chosen). length x.segments.items) before one,
        as_many,
      );
      grows = StoreGrowsBy-trans _ _ _ _ _ _ c.loop-one.invariant.grows
          c.in_ok-painted.ensures.grows
          (omega (arith, c.loop-one.invariant.ticks, c.in_ok-painted.ensures.ticks));
      places = GrowsBy-trans _ _ _ _ _ _ c.loop-one.invariant.places
          c.in_ok-parts.ensures.places
          (omega (arith, sum_by_push (λ (x : Chosen). length x.places) before one));
    }

pub returns-in_err-parts-clause-few_ticks : goal.returns-in_err-parts-clause-few_ticks
returns-in_err-parts-clause-few_ticks g c =
    let yields = YieldsList-from_vec {s = c.into_iter-one-iterator.result}
    c.in_ok-chosen.chosen.items (search rules) (search rules) in
    let next = next_in c.make_ready.new.self c.args.sources.now c.args.touched.now
    c.in_ok-blank.blank c.in_ok-chosen.chosen.items c.loop-one.yielded c.loop-one.one-iterator
    c.next.new.self c.next.result c.in-Some.one c.make_ready.ensures c.in_ok-chosen.ensures yields
    c.loop-one.yielded_by c.in-Some.is c.next.ensures.steps in
    omega (
      arith,
      within_bound c.args.sources.now c.args.touched.now _
          (some_touched c.args.touched.now c.is_empty.result c.is_empty.ensures.1
          c.if-is_empty.false) next.segments,
      c.loop-one.invariant.few_ticks,
    )

pub returns-in_err-parts-clause-places : goal.returns-in_err-parts-clause-places
returns-in_err-parts-clause-places g c =
    let yields = YieldsList-from_vec {s = c.into_iter-one-iterator.result}
    c.in_ok-chosen.chosen.items (search rules) (search rules) in
    let next = next_in c.make_ready.new.self c.args.sources.now c.args.touched.now
    c.in_ok-blank.blank c.in_ok-chosen.chosen.items c.loop-one.yielded c.loop-one.one-iterator
    c.next.new.self c.next.result c.in-Some.one c.make_ready.ensures c.in_ok-chosen.ensures yields
    c.loop-one.yielded_by c.in-Some.is c.next.ensures.steps in
    few_places_of c.args.sources.now c.args.touched.now _ _ _
    (some_touched c.args.touched.now c.is_empty.result c.is_empty.ensures.1
    c.if-is_empty.false) next.places
    (GrowsBy-trans _ _ _ _ _ _ c.loop-one.invariant.places c.parts_of.ensures.places
    (omega arith))

pub returns-in_err-painted-clause-few_ticks : goal.returns-in_err-painted-clause-few_ticks
returns-in_err-painted-clause-few_ticks g c =
    let yields = YieldsList-from_vec {s = c.into_iter-one-iterator.result}
    c.in_ok-chosen.chosen.items (search rules) (search rules) in
    let next = next_in c.make_ready.new.self c.args.sources.now c.args.touched.now
    c.in_ok-blank.blank c.in_ok-chosen.chosen.items c.loop-one.yielded c.loop-one.one-iterator
    c.next.new.self c.next.result c.in-Some.one c.make_ready.ensures c.in_ok-chosen.ensures yields
    c.loop-one.yielded_by c.in-Some.is c.next.ensures.steps in
    let as_many : length c.as_slice.result.now ≡ length c.in-Some.one.segments.items =
    sym (length-map c.as_slice.result.now (λ (p : Part). p.range))
    ∙ ap (λ (ps : List Part). length (map (λ (p : Part). p.range) ps)) c.as_slice.ensures.value
    ∙ ap length c.in_ok-parts.ensures.ranges in
    omega (
      arith,
      within_bound c.args.sources.now c.args.touched.now _
          (some_touched c.args.touched.now c.is_empty.result c.is_empty.ensures.1
          c.if-is_empty.false) next.segments,
      c.loop-one.invariant.few_ticks,
      c.paint.ensures.few_ticks,
      as_many,
    )

pub returns-in_err-painted-clause-grows : goal.returns-in_err-painted-clause-grows
returns-in_err-painted-clause-grows g c =
    StoreGrowsBy-trans _ _ _ _ _ _ c.loop-one.invariant.grows c.paint.ensures.grows
    (omega (arith, c.loop-one.invariant.ticks, c.paint.ensures.ticks))

pub returns-in_err-painted-clause-places : goal.returns-in_err-painted-clause-places
returns-in_err-painted-clause-places g c =
    let yields = YieldsList-from_vec {s = c.into_iter-one-iterator.result}
    c.in_ok-chosen.chosen.items (search rules) (search rules) in
    let next = next_in c.make_ready.new.self c.args.sources.now c.args.touched.now
    c.in_ok-blank.blank c.in_ok-chosen.chosen.items c.loop-one.yielded c.loop-one.one-iterator
    c.next.new.self c.next.result c.in-Some.one c.make_ready.ensures c.in_ok-chosen.ensures yields
    c.loop-one.yielded_by c.in-Some.is c.next.ensures.steps in
    few_places_of c.args.sources.now c.args.touched.now _ _ _
    (some_touched c.args.touched.now c.is_empty.result c.is_empty.ensures.1
    c.if-is_empty.false) next.places
    (GrowsBy-trans _ _ _ _ _ _ c.loop-one.invariant.places c.in_ok-parts.ensures.places
    (omega arith))

pub returns-clause-few_ticks : goal.returns-clause-few_ticks
returns-clause-few_ticks g c =
    let yields = YieldsList-from_vec {s = c.into_iter-one-iterator.result}
    c.in_ok-chosen.chosen.items (search rules) (search rules) in
    let are = all_in c.make_ready.new.self c.args.sources.now c.args.touched.now
    c.in_ok-blank.blank c.in_ok-chosen.chosen.items c.loop-one.yielded c.loop-one.one-iterator
    c.next.new.self c.next.result c.make_ready.ensures c.in_ok-chosen.ensures yields
    c.loop-one.yielded_by c.in-None.is c.next.ensures.steps in
    omega (
      arith,
      within_bound c.args.sources.now c.args.touched.now _
          (some_touched c.args.touched.now c.is_empty.result c.is_empty.ensures.1
          c.if-is_empty.false) are.segments,
      c.loop-one.invariant.few_ticks,
      c.with_aliases.ensures.few_ticks,
    )

pub returns-clause-places : goal.returns-clause-places
returns-clause-places g c =
    let yields = YieldsList-from_vec {s = c.into_iter-one-iterator.result}
    c.in_ok-chosen.chosen.items (search rules) (search rules) in
    let are = all_in c.make_ready.new.self c.args.sources.now c.args.touched.now
    c.in_ok-blank.blank c.in_ok-chosen.chosen.items c.loop-one.yielded c.loop-one.one-iterator
    c.next.new.self c.next.result c.make_ready.ensures c.in_ok-chosen.ensures yields
    c.loop-one.yielded_by c.in-None.is c.next.ensures.steps in
    few_places_of c.args.sources.now c.args.touched.now _ _ _
    (some_touched c.args.touched.now c.is_empty.result c.is_empty.ensures.1
    c.if-is_empty.false) are.places
    c.loop-one.invariant.places

pub returns-clause-answers : goal.returns-clause-answers
returns-clause-answers g c =
    let yields = YieldsList-from_vec {s = c.into_iter-one-iterator.result}
    c.in_ok-chosen.chosen.items (search rules) (search rules) in
    let are = all_in c.make_ready.new.self c.args.sources.now c.args.touched.now
    c.in_ok-blank.blank c.in_ok-chosen.chosen.items c.loop-one.yielded c.loop-one.one-iterator
    c.next.new.self c.next.result c.make_ready.ensures c.in_ok-chosen.ensures yields
    c.loop-one.yielded_by c.in-None.is c.next.ensures.steps in
    let s = c.args.sources.now in
    AnswersAll-made s c.loop-one.store c.with_aliases.new.store c.loop-one.places
    c.loop-one.painted c.with_aliases.result
    (AnswersSpoken-painted s c.args.touched.now c.in_ok-blank.blank c.loop-one.yielded
    c.args.store.now
    c.loop-one.store c.args.places.now c.loop-one.places _ c.args.root c.loop-one.painted are
    c.loop-one.invariant.painted c.loop-one.invariant.places
    (spoken_elsewhere s c.args.store.now c.args.places.now c.args.root c.args.touched.now
    c.requires.base)
    (λ a below spared. answers_none s c.args.store.now c.args.places.now c.args.root a
    (c.in_ok-blank.ensures.root spared.0) spared.1))
    c.with_aliases.ensures.homes
