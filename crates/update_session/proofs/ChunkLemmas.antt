-- The segments of chunks, one chunk after another, are the segments of the whole address space.
use Rattle.std.proofs.Common.{◌≡◌, ℕ, suc, ◌+◌, ◌^◌, ◌<◌, ◌≤◌, ◌⊎◌, max, List, []}
use Rattle.std.proofs.Common.{◌∷◌, ◌++◌, length, map, map-id, get_or, take, Contains, sum_by, sym}
use Rattle.std.proofs.Common.{Option, Some, None, ap, ◌∙◌, subst, inl, inr, arith, eqb}
use Rattle.std.proofs.Common.{Bool, length-append}
use Rattle.std.specs.List.{All, Any, AllAdjacentBelow, AllByRecursion, AllZip, filter, flat_map}
use Rattle.std.specs.Iterator.{Yields}
use Rattle.std.specs.Prelude.{IsTrue}
use Rattle.std.proofs.lemmas.Bool.{cases_lt}
use Rattle.std.proofs.lemmas.Bool.Decides.{Decides-eqb}
use Rattle.std.proofs.lemmas.Iterator.{YieldsList}
use Rattle.std.proofs.lemmas.Iterator.Consumers.{YieldsList-end, YieldsList-so_far, YieldsList-turn}
use Rattle.std.proofs.lemmas.List.{length-map}
use Rattle.std.proofs.lemmas.List.Concat.{length-flat_map}
use Rattle.std.proofs.lemmas.List.Sums.{sum_by-cons, sum_by-take-le, sum_by_more}
use Rattle.std.proofs.lemmas.List.Elements.{All-append, All-contains_itself, All-from_recursion}
use Rattle.std.proofs.lemmas.List.Elements.{All-get_or, recursion_from_All}
use Rattle.geo_addr.specs.Ranges.{Ends, IsCut, IsRange, IsWithin, edges_of, ground_first}
use Rattle.geo_terms.proofs.Ascending.{Up, up_weaker}
use Rattle.geo_terms.proofs.Members.{Among, among_filter, among_from_contains}
use Rattle.geo_terms.specs.Cuts.{statement_ranges}
use Rattle.geo_terms.specs.Sources.{InForce}
use Rattle.cut_segments.proofs.CutLemmas.{any_cases, any_left, any_right}
use Rattle.cut_segments.proofs.SegmentLemmas.{Ascending}
use Rattle.cut_segments.specs.Segments.{starts_in}
use Rattle.least_nodes.proofs.Elements.{In-each_once-new}
use Rattle.precedence.specs.Chunks.{AreChunks, IsMark, Tiles}
use Rattle.source_changes.specs.Touched.{is_touched}
use Rattle.update_session.specs.Build.{AreChosen, IsChosenIn, IsSpared, segments_of}
use Rattle.update_session.specs.Touch.{edges, touch}
use Rattle.update_session.specs.declared.choosing.Chosen.{Chosen}
use Rattle.update_session.proofs.TouchLemmas.{among_edges, among_from_in, different_are_few}
use Rattle.update_session.proofs.TouchLemmas.{in_from_among}

-- ---- ascending ranges behind ascending ranges

pub ascending_weaker : (low high : ℕ) (rs : List Ends) → low ≤ high → Ascending high rs
    → Ascending low rs
ascending_weaker low high [] le h = tt
ascending_weaker low high (r ∷ rs) le h = (omega (arith, h.0), h.1, h.2)

ascending_both : (low mid : ℕ) (xs ys : List Ends) → low ≤ mid → Ascending low xs
    → AllByRecursion (λ r. r.last < mid) xs → Ascending mid ys → Ascending low (xs ++ ys)
ascending_both low mid [] ys le up below later = ascending_weaker low mid ys le later
ascending_both low mid (x ∷ xs) ys le up below later =
    (up.0, up.1, ascending_both (x.last + 1) mid xs ys (omega (arith, below.0)) up.2 below.1 later)

-- what follows a range in a list
tail_apart : (x : Ends) (xs : List Ends)
    → AllAdjacentBelow (λ r t. r.last < t.first) (x ∷ xs) (length (x ∷ xs))
    → AllAdjacentBelow (λ r t. r.last < t.first) xs (length xs)
tail_apart x xs h k d below =
    let e : suc k + 1 ≡ suc (k + 1) = omega arith in
    subst (λ (n : ℕ). (get_or (x ∷ xs) (suc k) d).last < (get_or (x ∷ xs) n d).first) e
    (h (suc k) d (omega (arith, below)))

-- ranges that are apart ascend from where the first begins
ascending_from : (low : ℕ) (rs : List Ends) → AllByRecursion IsRange rs
    → AllAdjacentBelow (λ r t. r.last < t.first) rs (length rs)
    → AllByRecursion (λ r. low ≤ r.first) rs → Ascending low rs
ascending_from low [] are h low_all = tt
ascending_from low (r ∷ []) are h low_all = (low_all.0, are.0.ordered, tt)
ascending_from low (r ∷ t ∷ rs) are h low_all = (
  low_all.0,
  are.0.ordered,
  ascending_from (r.last + 1) (t ∷ rs) are.1 (tail_apart r (t ∷ rs) h)
      (behind (t ∷ rs) are.1 (tail_apart r (t ∷ rs) h)
      (let lt : r.last < t.first = h 0 r (omega arith) in omega (arith, lt))),
)
  where
    behind : (xs : List Ends) → AllByRecursion IsRange xs
        → AllAdjacentBelow (λ r t. r.last < t.first) xs (length xs)
        → r.last + 1 ≤ (get_or xs 0 r).first → AllByRecursion (λ x. r.last + 1 ≤ x.first) xs
    behind [] are h le = tt
    behind (x ∷ []) are h le = (le, tt)
    behind (x ∷ y ∷ xs) are h le =
        let lt : x.last < y.first = h 0 r (omega arith) in
        let up : x.first ≤ x.last = are.0.ordered in
        (le, behind (y ∷ xs) are.1 (tail_apart x (y ∷ xs) h) (omega (arith, le, lt, up)))

ranges_up : (low : ℕ) (rs : List Ends) → Ascending low rs → Up low (map (λ r. r.first) rs)
ranges_up low [] h = tt
ranges_up low (r ∷ rs) h = (
  h.0,
  up_weaker (r.first + 1) (r.last + 1) (map (λ r. r.first) rs) (omega (arith, h.1))
      (ranges_up (r.last + 1) rs h.2),
)

-- a range of a list has its first and its last address
ends_within : (out : List Ends) → All IsRange out
    → AllByRecursion (λ r. Any (λ t. IsWithin t r.first) out × Any (λ t. IsWithin t r.last) out) out
ends_within out are =
    recursion_from_All (λ (r : Ends). Any (λ t. IsWithin t r.first) out
    × Any (λ t. IsWithin t r.last) out) out (λ k d below.
    let one : IsRange (get_or out k d) = are k d below in
    let le : (get_or out k d).first ≤ (get_or out k d).last = one.ordered in
    let here = All-get_or (Contains out) out k d below (All-contains_itself out) in (
      (here.0, get_or out k d, here.1, here.2, (omega arith, le)),
      (here.0, get_or out k d, here.1, here.2, (le, omega arith)),
    ))

module _ (s : InForce) (touched : List Ends) (blank : Bool) where
  any_flat : (a : ℕ) (chunks : List Ends) (chosen : List Chosen)
      → AllZip (λ chunk one. IsChosenIn s touched blank chunk one) chunks chosen
      → Any (λ r. IsWithin r a) (flat_map segments_of chosen) → IsTrue (is_touched touched a)
  any_flat a [] [] h is = absurd (omega (arith, is.2))
  any_flat a [] (c ∷ cs) h is = absurd h
  any_flat a (r ∷ rs) [] h is = absurd h
  any_flat a (r ∷ rs) (c ∷ cs) h is =
      elim (any_cases (λ (x : Ends). IsWithin x a) (segments_of c) (flat_map segments_of cs) is) [
        | inl here ↦ (h.0.cut.inside a here).0
        | inr later ↦ any_flat a rs cs h.1 later
      ]

  flat_any : (a low high : ℕ) (chunks : List Ends) (chosen : List Chosen) → Tiles low chunks high
      → AllZip (λ chunk one. IsChosenIn s touched blank chunk one) chunks chosen
      → low ≤ a → a < high → IsTrue (is_touched touched a)
      → Any (λ r. IsWithin r a) (flat_map segments_of chosen) ⊎ IsSpared s blank a
  flat_any a low high [] [] tiles h le lt is = absurd (omega (arith, tiles))
  flat_any a low high [] (c ∷ cs) tiles h le lt is = absurd h
  flat_any a low high (r ∷ rs) [] tiles h le lt is = absurd h
  flat_any a low high (r ∷ rs) (c ∷ cs) tiles h le lt is =
      elim (cases_lt r.last a) [
        | inl later ↦
            elim (flat_any a (r.last + 1) high rs cs tiles.2 h.1 (omega (arith, later)) lt is) [
              | inl any ↦ inl (any_right (λ (x : Ends). IsWithin x a) (segments_of c)
                  (flat_map segments_of cs) any)
              | inr spared ↦ inr spared
            ]
        | inr here ↦
            elim (h.0.cut.covered a is (omega (arith, tiles.0, le), here)) [
              | inl any ↦ inl (any_left (λ (x : Ends). IsWithin x a) (segments_of c)
                  (flat_map segments_of cs) any)
              | inr spared ↦ inr spared
            ]
      ]

  flat_ascends : (low high : ℕ) (chunks : List Ends) (chosen : List Chosen) → Tiles low chunks high
      → AllZip (λ chunk one. IsChosenIn s touched blank chunk one) chunks chosen
      → Ascending low (flat_map segments_of chosen)
  flat_ascends low high [] [] tiles h = tt
  flat_ascends low high [] (c ∷ cs) tiles h = absurd h
  flat_ascends low high (r ∷ rs) [] tiles h = absurd h
  flat_ascends low high (r ∷ rs) (c ∷ cs) tiles h =
      let cut = h.0.cut in
      let out = segments_of c in
      ascending_both low (r.last + 1) out (flat_map segments_of cs) (omega (arith, tiles.1))
      (ascending_from low out (recursion_from_All IsRange out cut.ranges) cut.apart
      (lows out (ends_within out cut.ranges)))
      (highs out (ends_within out cut.ranges))
      (flat_ascends (r.last + 1) high rs cs tiles.2 h.1)
    where
      Ends-in : Ends → Type 0
      Ends-in x =
          Any (λ t. IsWithin t x.first) (segments_of c)
          × Any (λ t. IsWithin t x.last) (segments_of c)

      lows : (xs : List Ends) → AllByRecursion Ends-in xs → AllByRecursion (λ x. low ≤ x.first) xs
      lows [] all = tt
      lows (x ∷ xs) all =
          let in_chunk : IsWithin r x.first = (h.0.cut.inside x.first all.0.0).1 in
          (omega (arith, tiles.0, in_chunk.0), lows xs all.1)

      highs : (xs : List Ends) → AllByRecursion Ends-in xs
          → AllByRecursion (λ x. x.last < r.last + 1) xs
      highs [] all = tt
      highs (x ∷ xs) all =
          let in_chunk : IsWithin r x.last = (h.0.cut.inside x.last all.0.1).1 in
          (omega (arith, in_chunk.1), highs xs all.1)

  -- ---- where segments begin

  -- where touched grounds begin, and the touched edges of statements
  marks : List ℕ
  marks =
      map (λ r. ground_first r) touched ++ filter (is_touched touched) (edges (statement_ranges s))

  among_left : (c : ℕ) (xs ys : List ℕ) → Among c xs → Among c (xs ++ ys)
  among_left c [] ys is = absurd is
  among_left c (x ∷ xs) ys (inl e) = inl e
  among_left c (x ∷ xs) ys (inr later) = inr (among_left c xs ys later)

  among_right : (c : ℕ) (xs ys : List ℕ) → Among c ys → Among c (xs ++ ys)
  among_right c [] ys is = is
  among_right c (x ∷ xs) ys is = inr (among_right c xs ys is)

  begin_mark : (c : ℕ) → Among c (map (λ r. ground_first r) touched) → Among c marks
  unfolding marks
  begin_mark c is =
      among_left c (map (λ r. ground_first r) touched)
      (filter (is_touched touched) (edges (statement_ranges s))) is

  cut_mark : (c : ℕ) → IsTrue (is_touched touched c) → IsCut (statement_ranges s) c → Among c marks
  unfolding marks
  cut_mark c on cut =
      let rs = statement_ranges s in
      among_right c (map (λ r. ground_first r) touched) (filter (is_touched touched) (edges rs))
      (among_filter (is_touched touched) c (edges rs) (among_from_in c (edges rs)
      (In-each_once-new eqb Decides-eqb c [] (flat_map edges_of rs)
      (in_from_among c (flat_map edges_of rs) (among_edges c rs cut)))) on)

  start_cases : (c first : ℕ) (rs : List Ends)
      → Among c (map (λ r. max (ground_first r) first) rs)
      → Among c (map (λ r. ground_first r) rs) ⊎ ((c ≡ first) × (0 < first))
  start_cases c first [] is = absurd is
  start_cases c first (r ∷ rs) (inl e) =
      elim (cases_lt (ground_first r) first) [
        | inl lt ↦ inr (omega (arith, e, lt), omega (arith, lt))
        | inr le ↦ inl (inl (omega (arith, e, le)))
      ]
  start_cases c first (r ∷ rs) (inr later) =
      elim (start_cases c first rs later) [
        | inl is ↦ inl (inr is)
        | inr is ↦ inr is
      ]

  abbrev Begun : Ends → Type 0
  Begun chunk = (chunk.first ≡ 0) ⊎ IsMark s touched chunk.first

  segment_begins : (chunk : Ends) (c : ℕ) → Begun chunk → IsTrue (is_touched touched c)
      → Contains (starts_in touched chunk) c ⊎ IsCut (statement_ranges s) c → Among c marks
  segment_begins chunk c begun on (inr cut) = cut_mark c on cut
  segment_begins chunk c begun on (inl start) =
      by begun (start_cases c chunk.first touched (among_from_contains c _ start))
    where
      by : Begun chunk
          → Among c (map (λ r. ground_first r) touched) ⊎ ((c ≡ chunk.first) × (0 < chunk.first))
          → Among c marks
      by begun (inl is) = begin_mark c is
      by (inl none) (inr is) = absurd (omega (arith, none, is.1))
      by (inr (inl has)) (inr is) =
          begin_mark c (subst (λ (x : ℕ). Among x (map (λ r. ground_first r) touched)) (sym is.0)
          (among_from_contains chunk.first _ has))
      by (inr (inr cut)) (inr is) =
          cut_mark c on (subst (IsCut (statement_ranges s)) (sym is.0) cut)

  begun_in : (chunk : Ends) (one : Chosen) → Begun chunk → IsChosenIn s touched blank chunk one
      → All (λ r. Among r.first marks) (segments_of one)
  begun_in chunk one begun h k d below =
      let out = segments_of one in
      let here = All-get_or (Contains out) out k d below (All-contains_itself out) in
      let r : Ends = get_or out k d in
      let le : r.first ≤ r.last = (h.cut.ranges k d below).ordered in
      let on : IsTrue (is_touched touched r.first) =
      (h.cut.inside r.first (here.0, r, here.1, here.2, (omega arith, le))).0 in
      segment_begins chunk r.first begun on (h.cut.begun k d below)

  all_begun : (chunks : List Ends) (chosen : List Chosen) → AllByRecursion Begun chunks
      → AllZip (λ chunk one. IsChosenIn s touched blank chunk one) chunks chosen
      → All (λ r. Among r.first marks) (flat_map segments_of chosen)
  all_begun [] [] begun h = All-from_recursion (λ r. Among r.first marks) [] tt
  all_begun [] (c ∷ cs) begun h = absurd h
  all_begun (r ∷ rs) [] begun h = absurd h
  all_begun (r ∷ rs) (c ∷ cs) begun h =
      All-append (λ (x : Ends). Among x.first marks) (segments_of c) (flat_map segments_of cs)
      (begun_in r c begun.0 h.0) (all_begun rs cs begun.1 h.1)

  among_map : (c : ℕ) (rs : List Ends) → AllByRecursion (λ r. Among r.first marks) rs
      → Among c (map (λ r. r.first) rs) → Among c marks
  among_map c [] all is = absurd is
  among_map c (r ∷ rs) all (inl e) = subst (λ (x : ℕ). Among x marks) e all.0
  among_map c (r ∷ rs) all (inr later) = among_map c rs all.1 later

  length-marks : length marks ≡ touch touched (statement_ranges s)
  unfolding marks touch
  length-marks =
      omega (
        arith,
        length-append (map (λ (r : Ends). ground_first r) touched)
            (filter (is_touched touched) (edges (statement_ranges s))),
        length-map touched (λ (r : Ends). ground_first r),
      )

  -- ---- what all chunks say

  abbrev InChunk : Chosen → Type 0
  InChunk one = (chunk : Ends) × IsChosenIn s touched blank chunk one

  each_in : (chunks : List Ends) (chosen : List Chosen)
      → AllZip (λ chunk one. IsChosenIn s touched blank chunk one) chunks chosen
      → AllByRecursion InChunk chosen
  each_in [] [] h = tt
  each_in [] (c ∷ cs) h = absurd h
  each_in (r ∷ rs) [] h = absurd h
  each_in (r ∷ rs) (c ∷ cs) h = ((r, h.0), each_in rs cs h.1)

  -- they have no more places than segments
  fewer_places : (chosen : List Chosen) → AllByRecursion InChunk chosen
      → sum_by (λ c. length c.places) chosen ≤ sum_by (λ c. length c.segments.items) chosen
  fewer_places [] h = omega arith
  fewer_places (c ∷ cs) h =
      omega (
        arith,
        sum_by-cons (λ (x : Chosen). length x.places) c cs,
        sum_by-cons (λ (x : Chosen). length x.segments.items) c cs,
        h.0.1.chosen.few,
        fewer_places cs h.1,
      )

  -- what is said in all chunks of the address space
  pub AreChosen-made : (chunks chunks' : List Ends) (chosen : List Chosen)
      → AreChunks s touched chunks → chunks' ≡ chunks
      → AllZip (λ chunk one. IsChosenIn s touched blank chunk one) chunks' chosen
      → AreChosen s touched blank chosen
  AreChosen-made chunks chunks' chosen whole same h =
      let are = subst (AreChunks s touched) (sym same) whole in
      let out = flat_map segments_of chosen in
      let order = flat_ascends 0 (2 ^ 128) chunks' chosen are.tiles h in
      let begun = all_begun chunks' chosen (recursion_from_All Begun chunks' are.begun) h in
      let few : length (map (λ (r : Ends). r.first) out) ≤ length marks =
      different_are_few 0 (map (λ (r : Ends). r.first) out) marks (ranges_up 0 out order)
      (λ c is. among_map c out
      (recursion_from_All (λ (r : Ends). Among r.first marks) out begun) is) in
      let segments : sum_by (λ (c : Chosen). length c.segments.items) chosen
      ≤ touch touched (statement_ranges s) =
      omega (
        arith,
        few,
        length-marks,
        length-map out (λ (r : Ends). r.first),
        length-flat_map segments_of chosen,
      ) in
      let each = each_in chunks' chosen h in
      record {
        each = All-from_recursion InChunk chosen each;
        inside = λ a is. any_flat a chunks' chosen h is;
        covered = λ a below is.
            flat_any a 0 (2 ^ 128) chunks' chosen are.tiles h (omega arith) below is;
        segments = segments;
        places = omega (arith, fewer_places chosen each, segments);
      }

-- ---- a loop over the chunks

-- a chunk that a loop comes to behind others: with these it has no more segments than the touch,
-- and no more places
pub record IsNext (s : InForce) (touched : List Ends) (blank : Bool) (before : List Chosen)
    (one : Chosen) : Type 0 where
  pub chunk : Ends
  pub is : IsChosenIn s touched blank chunk one
  pub segments : sum_by (λ c. length c.segments.items) before + length one.segments.items
      ≤ touch touched (statement_ranges s)
  pub places : sum_by (λ c. length c.places) before + length one.places
      ≤ touch touched (statement_ranges s)

so_far_within : (f : Chosen → ℕ) (chosen before : List Chosen) (i : ℕ) (one : Chosen)
    → before ≡ take i chosen → i < length chosen → one ≡ get_or chosen i one
    → sum_by f before + f one ≤ sum_by f chosen
so_far_within f chosen before i one same below is =
    omega (
      arith,
      ap (sum_by f) same,
      ap f is,
      sum_by_more f chosen i one below,
      sum_by-take-le f chosen (i + 1),
    )

pub next_in : {S : Type 0} {steps : S → Option Chosen → S → Type 0} {start : S} (ready s : InForce)
    (touched : List Ends) (blank : Bool) (chosen before : List Chosen) (now after : S)
    (given : Option Chosen) (one : Chosen) → ready ≡ s → AreChosen ready touched blank chosen
    → YieldsList steps (λ c. c) start chosen → Yields steps start before now
    → given ≡ Some one → steps now given after → IsNext s touched blank before one
next_in ready s touched blank chosen before now after given one same_sources are_ready yields
    so_far is step =
    let are = subst (λ (t : InForce). AreChosen t touched blank chosen) same_sources are_ready in
    let turn = YieldsList-turn yields before now so_far given after one is step in
    let i = length before in
    let same : before ≡ take i chosen =
    sym (map-id before) ∙ YieldsList-so_far yields before now so_far in
    let this = subst (λ (c : Chosen). (chunk : Ends) × IsChosenIn s touched blank chunk c)
    (sym turn.1) (are.each i one turn.0) in
    record {
      chunk = this.0;
      is = this.1;
      segments = omega (
        arith,
        so_far_within (λ c. length c.segments.items) chosen before i one same turn.0 turn.1,
        are.segments,
      );
      places = omega (
        arith,
        so_far_within (λ c. length c.places) chosen before i one same turn.0 turn.1,
        are.places,
      );
    }

-- where the loop ends it came to all of them
pub all_in : {S : Type 0} {steps : S → Option Chosen → S → Type 0} {start : S} (ready s : InForce)
    (touched : List Ends) (blank : Bool) (chosen before : List Chosen) (now after : S)
    (given : Option Chosen) → ready ≡ s → AreChosen ready touched blank chosen
    → YieldsList steps (λ c. c) start chosen → Yields steps start before now
    → given ≡ None → steps now given after → AreChosen s touched blank before
all_in ready s touched blank chosen before now after given same_sources are_ready yields so_far is
    step =
    subst (AreChosen s touched blank)
    (sym (YieldsList-end yields before now so_far given after is step).0 ∙ map-id before)
    (subst (λ (t : InForce). AreChosen t touched blank chosen) same_sources are_ready)
