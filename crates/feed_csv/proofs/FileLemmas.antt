-- The lists of a file keep what a `Feed` promises.
use Rattle.std.proofs.Common.{◌≡◌, ◌≢◌, ℕ, All, List, map, Option, Some, None, refl, sym}
use Rattle.std.proofs.Common.{ap, ◌∙◌, subst, arith}
use Rattle.std.specs.List.{enumerate_from}
use Rattle.std.proofs.lemmas.List.Elements.{All-map}
use Rattle.geo_addr.specs.Lines.{lines_of, without_mark}
use Rattle.geo_addr.specs.Ranges.{range_of_block}
use Rattle.geo_terms.specs.SourceForm.{IsFeed}
use Rattle.geo_terms.specs.declared.note.LineNote.{LineNote}
use Rattle.geo_terms.specs.declared.statement.Entry.{Entry}
use Rattle.csv_lines.specs.Repeats.{Rises, fate, fault_by, is_kept_by, merged, repeat_faults}
use Rattle.csv_lines.specs.declared.fate.Fate.{Fate}
use Rattle.csv_lines.specs.declared.fate.Fate.TheVariants.{Kept}
use Rattle.csv_lines.proofs.FateLemmas.{Member}
use Rattle.csv_lines.proofs.OrderLemmas.{acc_rises, all_members, either, fault_line}
use Rattle.csv_lines.proofs.OrderLemmas.{filter_map_agree, increasing, kept_apart, kept_from}
use Rattle.csv_lines.proofs.OrderLemmas.{kept_is, member_filter, merged_is, rises_filter}
use Rattle.csv_lines.proofs.OrderLemmas.{rises_lower, same_number}
use Rattle.feed_csv.specs.File.{accepted, entries, entry_by, entry_line, entry_of, entry_range}
use Rattle.feed_csv.specs.File.{entry_said, fault_alone, fault_among, fault_of, faults, feed}
use Rattle.feed_csv.specs.File.{refused, repeat_rules}
use Rattle.feed_csv.specs.Outcomes.{outcome}
use Rattle.feed_csv.specs.declared.outcome.LineOutcome.{LineOutcome}
use Rattle.feed_csv.specs.declared.outcome.LineOutcome.TheVariants.{Silent, Broken, Accepted}

entry_number : (line : ℕ) (v : LineOutcome) (e : Entry) → entry_by line v ≡ Some e
    → entry_line e ≡ line
entry_number line Silent e h = absurd cc
entry_number line (Broken rule) e h = absurd cc
entry_number line (Accepted block said) e h = cc

fault_number : (line : ℕ) (v : LineOutcome) (f : LineNote) → fault_alone line v ≡ Some f
    → f.line ≡ line
fault_number line Silent f h = absurd cc
fault_number line (Broken rule) f h = cc
fault_number line (Accepted block said) f h = absurd cc

-- a line that has an entry breaks no rule by itself
one_thing : (line : ℕ) (v : LineOutcome) (e : Entry) → entry_by line v ≡ Some e
    → fault_alone line v ≡ None
one_thing line Silent e h = absurd cc
one_thing line (Broken rule) e h = absurd cc
one_thing line (Accepted block said) e h = refl

module _ (file : List ℕ) where
  abbrev all : List Entry
  all = accepted file

  abbrev lines : List (List ℕ)
  lines = lines_of (without_mark file)

  abbrev fate_of : Entry → Fate
  fate_of e = fate entry_line entry_range entry_said all e

  abbrev late : Entry → Option LineNote
  late e = fault_by repeat_rules (entry_line e) (fate_of e)

  acc_line : (p : ℕ × List ℕ) (e : Entry) → entry_of p ≡ Some e → entry_line e ≡ p.0
  acc_line p e h = entry_number p.0 (outcome p.1) e h

  bad_line : (p : ℕ × List ℕ) (f : LineNote) → fault_of p ≡ Some f → f.line ≡ p.0
  bad_line p f h = fault_number p.0 (outcome p.1) f h

  late_line : (e : Entry) (f : LineNote) → late e ≡ Some f → f.line ≡ entry_line e
  late_line e f h = fault_line repeat_rules (entry_line e) (fate_of e) f h

  among_is : (line : ℕ) (v : LineOutcome)
      → either entry_of fault_of entry_line acc_line bad_line late
      late_line (entry_by line v) (fault_alone line v) ≡ fault_among all line v
  among_is line Silent = refl
  among_is line (Broken rule) = refl
  among_is line (Accepted block said) = refl

  pub faults_are : merged (repeat_faults entry_line entry_range entry_said repeat_rules all)
      (refused file) ≡ faults file
  faults_are =
      merged_is entry_of fault_of entry_line acc_line bad_line late late_line
      (λ p e h. one_thing p.0 (outcome p.1) e h) 1 lines
      ∙ filter_map_agree (λ p. either entry_of fault_of entry_line acc_line bad_line late late_line
      (entry_of p) (fault_of p)) (λ p. fault_among all p.0 (outcome p.1))
      (λ p. among_is p.0 (outcome p.1)) (enumerate_from 1 lines)

  pub all_rise : Rises 0 (map entry_line all)
  all_rise =
      rises_lower 0 1 (map entry_line all) (omega arith)
      (acc_rises entry_of fault_of entry_line acc_line bad_line 1 lines)

  among_number : (line : ℕ) (v : LineOutcome) (f : LineNote) → fault_among all line v ≡ Some f
      → f.line ≡ line
  among_number line Silent f h = absurd cc
  among_number line (Broken rule) f h = cc
  among_number line (Accepted block said) f h =
      fault_line repeat_rules line
      (fate_of (record { line = line; block = block; said = said })) f h

  among_line : (p : ℕ × List ℕ) (f : LineNote) → fault_among all p.0 (outcome p.1) ≡ Some f
      → f.line ≡ p.0
  among_line p f h = among_number p.0 (outcome p.1) f h

  faults_rise : Rises 1 (map (λ f. f.line) (faults file))
  faults_rise =
      acc_rises (λ p. fault_among all p.0 (outcome p.1)) fault_of
      (λ f. f.line) among_line bad_line 1 lines

  -- an entry that is kept has no fault
  kept_silent : (line : ℕ) (v : LineOutcome) (e : Entry) → entry_by line v ≡ Some e
      → fate_of e ≡ Kept
      → fault_among all line v ≡ None
  kept_silent line Silent e h k = absurd cc
  kept_silent line (Broken rule) e h k = absurd cc
  kept_silent line (Accepted block said) e h k =
      let is : record { line = line; block = block; said = said } ≡ e = cc in
      ap (fault_by repeat_rules line) (ap fate_of is ∙ k)

  apart_lines : (e : Entry) (f : LineNote) → Member (entries file) e → Member (faults file) f
      → entry_line e ≢ f.line
  apart_lines e f m n same =
      let (in_all, speaks) = member_filter (λ x. is_kept_by (fate_of x)) all e m in
      let (p, p_in, p_is) = kept_from entry_of (enumerate_from 1 lines) e in_all in
      let (q, q_in, q_is) =
      kept_from (λ p. fault_among all p.0 (outcome p.1)) (enumerate_from 1 lines) f n in
      let one =
      same_number 1 lines p q p_in q_in (sym (acc_line p e p_is) ∙ same ∙ among_line q f q_is) in
      let silent = kept_silent p.0 (outcome p.1) e p_is (kept_is (fate_of e) speaks) in
      let other : fault_among all p.0 (outcome p.1) ≡ Some f =
      subst (λ (r : ℕ × List ℕ). fault_among all r.0 (outcome r.1) ≡ Some f) (sym one) q_is in
      let clash : None ≡ Some f = sym silent ∙ other in cc

  in_form : (url : List ℕ) → IsFeed (feed url file)
  in_form url = record {
    distinct =
        λ i j d before within same. kept_apart entry_line entry_range entry_said 0 all all_rise i j
        d before within (ap range_of_block same);
    ordered =
        increasing 0 (map entry_line (entries file))
        (rises_filter entry_line (λ x. is_kept_by (fate_of x)) 0 all all_rise);
    notes = increasing 1 (map (λ f. f.line) (faults file)) faults_rise;
    apart =
        All-map (λ x. All (λ y. x ≢ y) (map (λ n. n.line) (faults file))) entry_line (entries file)
        (all_members (λ e. All (λ y. entry_line e ≢ y) (map (λ n. n.line) (faults file)))
        (entries file) (λ e m. All-map (λ y. entry_line e ≢ y) (λ (f : LineNote). f.line)
        (faults file)
        (all_members (λ f. entry_line e ≢ f.line) (faults file) (λ f n. apart_lines e f m n))));
  }

  -- the lists that were read are those of the file
  pub feed_in_form : (url u : List ℕ) (es : List Entry) (ns : List LineNote) → u ≡ url
      → es ≡ entries file → ns ≡ faults file
      → IsFeed (record { url = u; entries = es; notes = ns })
  feed_in_form url u es ns e f g =
      let same : record { url = u; entries = es; notes = ns } ≡ feed url file =
      λ i. record { url = e i; entries = f i; notes = g i } in
      subst IsFeed (sym same) (in_form url)
