-- What the generated job writes is never too large, and there are numbers for all nodes.
use Rattle.std.proofs.Common.{◌≡◌, ℕ, suc, ◌+◌, ◌-◌, ◌*◌, ◌^◌, ◌<◌, ◌≤◌, ◌⊎◌, inl, inr, Bool, true}
use Rattle.std.proofs.Common.{false, nat_le, List, [], ◌∷◌, ◌++◌, length, map, refl, sym, ap, subst}
use Rattle.std.proofs.Common.{◌∙◌, arith, lit≤, lit<, length-append}
use Rattle.std.proofs.Math.Nat.{mul-le-mul_right}
use Rattle.std.proofs.lemmas.Bool.{lt-leb}
use Rattle.std.proofs.lemmas.List.{length-map}
use Rattle.std.specs.Prelude.{if◌then◌else◌, None, OnOk, Result, Ok, Err, codes}
use Rattle.geo_addr.specs.Lines.{numbered_lines}
use Rattle.geo_addr.specs.Ranges.{range_of_block}
use Rattle.geo_terms.specs.Cuts.{statement_ranges}
use Rattle.geo_terms.specs.DelegationForm.{DelegationParts}
use Rattle.geo_terms.specs.PlaceForm.{PlaceParts}
use Rattle.geo_terms.specs.Sources.{InForce, delegations, entries, no_sources, override_rows}
use Rattle.geo_terms.specs.Sources.{references}
use Rattle.geo_terms.specs.declared.statement.Entry.{Entry}
use Rattle.geo_terms.specs.declared.statement.Override.{Override}
use Rattle.geo_terms.specs.declared.statement.Reference.{Reference}
use Rattle.geo_terms.proofs.Members.{Among}
use Rattle.source_changes.specs.Changed.{changed as changed_list, take_out, without}
use Rattle.source_changes.specs.Changes.{Change, SetDump, SetFeed, SetStats, after as after_change}
use Rattle.source_changes.specs.Changes.{changes}
use Rattle.source_changes.specs.SameStatement.{same_delegation, same_entry, same_reference}
use Rattle.source_changes.specs.Touched.{ground_of}
use Rattle.feed_csv.specs.File.{accepted, entries as entries_of_file, entry_line, entry_of}
use Rattle.feed_csv.specs.File.{entry_range, entry_said}
use Rattle.csv_lines.specs.Repeats.{fate, is_kept_by}
use Rattle.mmdb_data.specs.Spelling.{spelling}
use Rattle.mmdb_file.specs.FileImage.{file_nodes, file_section, record_tree}
use Rattle.mmdb_file.specs.PlaceValue.{place_value}
use Rattle.update_session.specs.Standing.{Standing, changed, emitted}
use Rattle.update_session.specs.State.{State, is_too_large, node_count, section_length}
use Rattle.update_session.specs.Touch.{bound}
use Rattle.update_session.proofs.TouchLemmas.{bound_by_statements}
use Rattle.generated.specs.Feeds.{feed}
use Rattle.generated.proofs.SizeLemmas.{feed_has, few_lines}
use Rattle.generated_job.specs.Job.{begun, first_set, second_set, stats_text, the_dump, the_feed}
use Rattle.generated_job.specs.Job.{the_stats}
use Rattle.generated_job.specs.Laws.{IsEmittable}
use Rattle.generated_job.proofs.FitLemmas.{few_dump, stats_few, taken}
use Rattle.generated_job.proofs.PlaceSizes.{place_takes}
use Rattle.generated_job.proofs.RecordPeers.{few_peers, peers}
use Rattle.generated_job.proofs.ShortPlaces.{entries_short, kept_few}
use Rattle.generated_job.proofs.ShortRows.{among-append, peers_short, rows_short}
use Rattle.generated_job.proofs.SpotSizes.{few_file_bytes, few_file_nodes}

-- ---- statements that changed are few

take_out_few : {X : Type 0} (same : X → X → Bool) (x : X) (ys : List X)
    → length (take_out same x ys) ≤ length ys
take_out_few same x [] = lit≤ tt
take_out_few same x (y ∷ ys) = by (same x y) (take_out_few same x ys)
  where
    by : (b : Bool) → length (take_out same x ys) ≤ length ys
        → length (if b then ys else y ∷ take_out same x ys) ≤ suc (length ys)
    by true rest = omega arith
    by false rest = omega arith

without_few : {X : Type 0} (same : X → X → Bool) (xs ys : List X)
    → length (without same xs ys) ≤ length xs
without_few same xs [] = omega arith
without_few same xs (y ∷ ys) =
    omega (arith, without_few same (take_out same y xs) ys, take_out_few same y xs)

changed_few : {X : Type 0} (same : X → X → Bool) (old new : List X)
    → length (changed_list same old new) ≤ length old + length new
changed_few same old new =
    omega (
      arith,
      length-append (without same old new) (without same new old),
      without_few same old new,
      without_few same new old,
    )

-- ---- where a session stands, in numbers

record Stage (w : Standing) (sources : InForce) (pending nodes numbered : ℕ) : Type 0 where
  same : w.state.sources ≡ sources
  waiting : length w.pending ≤ pending
  made : w.nodes ≤ nodes
  counted : w.numbered ≤ numbered

set_stage : (change : Change) (w : Standing) (sources : InForce) (p n m c : ℕ)
    → Stage w sources p n m → length (changes change sources) ≤ c
    → Stage (changed change w) (after_change change sources) (p + c) n m
set_stage change w sources p n m c stage few =
    let now : length (changes change w.state.sources) ≤ c =
    subst (λ s. length (changes change s) ≤ c) (sym stage.same) few in
    let before = stage.waiting in
    record {
      same = ap (after_change change) stage.same;
      waiting = omega (arith, length-append w.pending (changes change w.state.sources));
      made = stage.made;
      counted = stage.counted;
    }

emit_stage : (w : Standing) (sources : InForce) (p n m r : ℕ) → Stage w sources p n m
    → length (statement_ranges sources) ≤ r
    → Stage (emitted w) sources 0 (n + 256 * (p + 2 * r + 1)) (m + (p + 2 * r + 1))
unfolding bound
emit_stage w sources p n m r stage few =
    let now : length (statement_ranges w.state.sources) ≤ r =
    subst (λ s. length (statement_ranges s) ≤ r) (sym stage.same) few in
    let most = bound_by_statements w.pending w.state.sources in
    let before = stage.waiting in
    let made = stage.made in
    let counted = stage.counted in
    record {
      same = stage.same;
      waiting = lit≤ tt;
      made = omega (arith, most);
      counted = omega (arith, most);
    }

-- ---- the sources of the generated job

abbrev with_dump : InForce
with_dump = record { dumps = the_dump ∷ []; feeds = []; stats = []; overrides = None }

abbrev with_stats : InForce
with_stats = record { dumps = the_dump ∷ []; feeds = []; stats = the_stats ∷ []; overrides = None }

abbrev with_feed : Bool → ℕ → InForce
with_feed second lines =
    record {
      dumps = the_dump ∷ [];
      feeds = the_feed second lines ∷ [];
      stats = the_stats ∷ [];
      overrides = None;
    }

entries_count : (second : Bool) (lines : ℕ) → lines ≤ 1000000
    → length (the_feed second lines).entries ≤ 1000001
entries_count second lines few =
    let text = feed second lines in
    let ends = (feed_has second lines few).same in
    omega (
      arith,
      kept_few (λ x. is_kept_by (fate entry_line entry_range entry_said (accepted text) x))
          (accepted text),
      taken entry_of (numbered_lines text),
      few_lines text,
    )

ranges_count : (s : InForce)
    → length (statement_ranges s)
    ≡ length (references s) + (length
    (entries s) + (length (delegations s) + length (override_rows s)))
ranges_count s =
    let rs = map (λ (r : Reference). r.range) (references s) in
    let es = map (λ (e : Entry). range_of_block e.block) (entries s) in
    let ds = map (λ (d : DelegationParts). d.range) (delegations s) in
    let os = map (λ (o : Override). o.range) (override_rows s) in
    omega (
      arith,
      length-append rs (es ++ (ds ++ os)),
      length-append es (ds ++ os),
      length-append ds os,
      length-map (references s) (λ (r : Reference). r.range),
      length-map (entries s) (λ (e : Entry). range_of_block e.block),
      length-map (delegations s) (λ (d : DelegationParts). d.range),
      length-map (override_rows s) (λ (o : Override). o.range),
    )

few_entries : (second : Bool) (lines : ℕ) → lines ≤ 1000000
    → length (entries (with_feed second lines)) ≤ 1000001
few_entries second lines few =
    omega (arith, length-append (the_feed second lines).entries [], entries_count second lines few)

few_rows : (second : Bool) (lines : ℕ) → length (delegations (with_feed second lines)) ≤ 2
few_rows second lines = omega (arith, length-append the_stats.rows [], stats_few (codes "gen"))

few_ranges : (second : Bool) (lines : ℕ) → lines ≤ 1000000
    → length (statement_ranges (with_feed second lines)) ≤ 1000013
few_ranges second lines few =
    let s = with_feed second lines in
    omega (
      arith,
      ranges_count s,
      few_entries second lines few,
      few_rows second lines,
      length-append the_dump.refs [],
      few_dump (codes "gen"),
    )

only : {X : Type 0} (x : X) (xs : List X) → Among x (xs ++ []) → Among x xs
only x xs there = elim (among-append x xs [] there) [ inl here ↦ here | inr none ↦ absurd none ]

-- ---- a file of them is not too large

short_here : (second : Bool) (lines : ℕ) (p : PlaceParts) → Among p (peers (with_feed second lines))
    → length (spelling (place_value p)) ≤ 2356
short_here second lines p there =
    let text = feed second lines in
    let short = peers_short (with_feed second lines)
    (λ e at. entries_short text e (only e (entries_of_file text) at))
    (λ d at. rows_short (codes "gen") (numbered_lines stats_text) d
    (only d the_stats.rows at)) p there in
    let a = short.country in
    let b = short.region in
    let c = short.city in
    let e = short.postal in
    omega (arith, place_takes p)

few_here : (second : Bool) (lines : ℕ) → lines ≤ 1000000
    → length (peers (with_feed second lines)) ≤ 1000003
few_here second lines few =
    omega (
      arith,
      few_peers (with_feed second lines),
      few_entries second lines few,
      few_rows second lines,
    )

small : (second : Bool) (lines : ℕ) → lines ≤ 1000000
    → file_nodes (record_tree (with_feed second lines)) + 16 + length
    (file_section (record_tree (with_feed second lines))) < 2 ^ 32
small second lines few =
    let s = with_feed second lines in
    let nodes = few_file_nodes s refl in
    let bytes = few_file_bytes s refl 2356 (short_here second lines) in
    let most : length (peers s) * 2356 ≤ 1000003 * 2356 =
    mul-le-mul_right 2356 (few_here second lines few) in
    omega (arith, nodes, bytes, most, few_ranges second lines few)

fits : (second : Bool) (lines : ℕ) → lines ≤ 1000000 → (state : State)
    → state.sources ≡ with_feed second lines → is_too_large state ≡ false
unfolding is_too_large node_count section_length
fits second lines few state same =
    ap (λ (s : InForce). nat_le (2 ^ 32)
    (file_nodes (record_tree s) + 16 + length (file_section (record_tree s)))) same
    ∙ lt-leb (2 ^ 32) (file_nodes (record_tree (with_feed second lines)) + 16 + length
    (file_section (record_tree (with_feed second lines)))) (small second lines few)

-- ---- where the session stands, one after another

abbrev registered : Standing
registered = changed (SetStats the_stats) (changed (SetDump the_dump) begun)

module _ (lines : ℕ) (few : lines ≤ 1000000) where
  dump_stage : Stage (changed (SetDump the_dump) begun) with_dump 10 0 0
  dump_stage =
      let at : Stage begun no_sources 0 0 0 =
      record { same = refl; waiting = lit≤ tt; made = lit≤ tt; counted = lit≤ tt } in
      let fresh : length (changes (SetDump the_dump) no_sources) ≤ 10 =
      omega (
        arith,
        length-map (changed_list same_reference [] the_dump.refs) (λ r. ground_of r.range),
        changed_few same_reference [] the_dump.refs,
        few_dump (codes "gen"),
      ) in
      set_stage (SetDump the_dump) begun no_sources 0 0 0 10 at fresh

  stats_stage : Stage registered with_stats 12 0 0
  stats_stage =
      let fresh : length (changes (SetStats the_stats) with_dump) ≤ 2 =
      omega (
        arith,
        length-map (changed_list same_delegation [] the_stats.rows) (λ d. ground_of d.range),
        changed_few same_delegation [] the_stats.rows,
        stats_few (codes "gen"),
      ) in
      set_stage (SetStats the_stats) (changed (SetDump the_dump) begun) with_dump 10 0 0 2
      dump_stage fresh

  first_stage : Stage (first_set lines) (with_feed false lines) 1000013 0 0
  first_stage =
      let f = the_feed false lines in
      let fresh : length (changes (SetFeed f) with_stats) ≤ 1000001 =
      omega (
        arith,
        length-map (changed_list same_entry [] f.entries)
            (λ e. ground_of (range_of_block e.block)),
        changed_few same_entry [] f.entries,
        entries_count false lines few,
      ) in
      set_stage (SetFeed f) registered with_stats 12 0 0 1000001 stats_stage fresh

  wrote_stage : Stage (emitted (first_set lines)) (with_feed false lines) 0 768010240 3000040
  wrote_stage =
      emit_stage (first_set lines) (with_feed false lines) 1000013 0 0 1000013 first_stage
      (few_ranges false lines few)

  second_stage : Stage (second_set lines) (with_feed true lines) 2000002 768010240 3000040
  second_stage =
      let f = the_feed true lines in
      let old = the_feed false lines in
      let fresh : length (changes (SetFeed f) (with_feed false lines)) ≤ 2000002 =
      omega (
        arith,
        length-map (changed_list same_entry old.entries f.entries)
            (λ e. ground_of (range_of_block e.block)),
        changed_few same_entry old.entries f.entries,
        entries_count false lines few,
        entries_count true lines few,
      ) in
      set_stage (SetFeed f) (emitted (first_set lines)) (with_feed false lines) 0 768010240 3000040
      2000002 wrote_stage fresh

  too_many : (nodes numbered : ℕ) → nodes < 2 ^ 32 - 1 → numbered < 2 ^ 32 - 1 → (w : Standing)
      → w.nodes ≤ nodes → w.numbered ≤ numbered
      → (2 ^ 32 - 1 ≤ w.nodes) ⊎ (2 ^ 32 - 1 ≤ w.numbered) → ⊥
  too_many nodes numbered few_nodes few_numbers w made counted (inl many) = omega arith
  too_many nodes numbered few_nodes few_numbers w made counted (inr many) = omega arith

  first_emits : IsEmittable (first_set lines)
  first_emits = record {
    fits = fits false lines few (first_set lines).state first_stage.same;
    numbered = λ many.
        too_many 768010240 3000040 (lit< tt) (lit< tt) (emitted (first_set lines)) wrote_stage.made
        wrote_stage.counted many;
  }

  second_emits : IsEmittable (second_set lines)
  second_emits =
      let stage = emit_stage (second_set lines) (with_feed true lines) 2000002 768010240 3000040
      1000013 second_stage (few_ranges true lines few) in
      record {
        fits = fits true lines few (second_set lines).state second_stage.same;
        numbered = λ many.
            too_many 1792017664 7000069 (lit< tt) (lit< tt) (emitted (second_set lines)) stage.made
            stage.counted many;
      }

  pub emits_freely : IsEmittable (first_set lines) × IsEmittable (second_set lines)
  emits_freely = (first_emits, second_emits)

-- what holds where a call ends well
pub for_ok : {X E : Type 0} (result : Result X E) (P Q : Type 0) → OnOk result P → (P → Q)
    → OnOk result Q
for_ok (Ok done) P Q holds give = give holds
for_ok (Err why) P Q holds give = tt
