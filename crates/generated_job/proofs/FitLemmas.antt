-- The generated job's sources are within their limits, so nothing is in the way of setting them.
use Rattle.std.proofs.Common.{◌≡◌, ℕ, suc, ◌≤◌, ◌<◌, Bool, List, [], ◌∷◌, length, refl, ap}
use Rattle.std.proofs.Common.{◌∙◌, ◌++◌, sym, arith, lit≤, length-append}
use Rattle.std.proofs.lemmas.Bool.{le-ltb}
use Rattle.std.specs.Prelude.{◌↔◌, codes, nat_lt, Option, Some, None, Result, Ok, Err}
use Rattle.std.specs.Prelude.{if◌then◌else◌}
use Rattle.std.specs.List.{cons_option, count_by, filter_map}
use Rattle.geo_addr.specs.Lines.{numbered_lines}
use Rattle.geo_terms.specs.SourceForm.{DumpParts}
use Rattle.geo_terms.specs.declared.source.SourceFault.{SourceFault}
use Rattle.geo_terms.specs.declared.source.SourceFault.TheVariants as faults
use Rattle.geo_terms.specs.declared.statement.Reference.{Reference}
use Rattle.rpsl_reader.specs.Attributes.{is_attribute}
use Rattle.rpsl_reader.specs.Objects.{group_items, items, objects}
use Rattle.rpsl_reader.specs.declared.item.Item.{Item}
use Rattle.rpsl_reader.specs.declared.item.Item.TheVariants.{Whole, Passed}
use Rattle.feed_refs.specs.Dumps.{dump, dump_parts, judged, longest as longest_dump, so_far}
use Rattle.feed_refs.specs.Dumps.{most as most_references, reference_in, references, references_of}
use Rattle.feed_refs.specs.Readings.{Reading, reading}
use Rattle.feed_refs.specs.References.{found}
use Rattle.feed_refs.specs.declared.reference.What.{What}
use Rattle.feed_refs.specs.declared.reference.What.TheVariants.{NotInet, Nothing, One, Void}
use Rattle.feed_csv.specs.File.{accepted, entry_of, longest as longest_feed, most as most_entries}
use Rattle.nro_stats.specs.File.{row_of, rows, longest as longest_stats, most as most_delegations}
use Rattle.feed_refs.proofs.ReadingLemmas.{end_fault}
use Rattle.generated.specs.Feeds.{feed}
use Rattle.generated.proofs.SizeLemmas.{feed_has, few_lines, is_line_feed}
use Rattle.generated_job.specs.Job.{dump_text, stats_text, the_dump}

-- what is taken out of a list is no longer
pub taken : {X Y : Type 0} (f : X → Option Y) (xs : List X) → length (filter_map f xs) ≤ length xs
taken f [] = lit≤ tt
taken {Y = Y} f (x ∷ xs) = by (f x) (taken f xs)
  where
    by : (y : Option Y) → length (filter_map f xs) ≤ length xs
        → length (cons_option y (filter_map f xs)) ≤ suc (length xs)
    by None rest = omega arith
    by (Some y) rest = omega arith

-- a generated feed is within its limits
entries_few : (second : Bool) (lines : ℕ) → lines ≤ 1000000
    → length (accepted (feed second lines)) ≤ most_entries
entries_few second lines few =
    let text = feed second lines in
    let ends = (feed_has second lines few).same in
    omega (arith, taken entry_of (numbered_lines text), few_lines text)

-- what is wrong with a source that is within its limits is want of memory
memory_left : (fault : SourceFault) → (fault ≡ faults.TooLong → ⊥) → (fault ≡ faults.TooMany → ⊥)
    → fault ≡ faults.Memory
memory_left faults.TooLong long many = absurd (long refl)
memory_left faults.TooMany long many = absurd (many refl)
memory_left faults.Memory long many = refl

pub feed_memory : {X : Type 0} (second : Bool) (lines : ℕ) → lines ≤ 1000000
    → (text : List ℕ) → text ≡ feed second lines
    → (result : Result X SourceFault) (fault : SourceFault) → result ≡ Err fault
    → (result ≡ Err faults.TooLong) ↔ (longest_feed < length text)
    → (result ≡ Err faults.TooMany → most_entries < length (accepted text))
    → fault ≡ faults.Memory
feed_memory second lines few text same result fault is long many =
    memory_left fault
    (λ over.
    let more : longest_feed < length text = long.0 (is ∙ ap Err over) in
    let size = ap length same in
    let short = (feed_has second lines few).short in omega (arith, more, size, short))
    (λ over.
    let more : most_entries < length (accepted text) = many (is ∙ ap Err over) in
    let size = ap (λ t. length (accepted t)) same in
    omega (arith, more, size, entries_few second lines few))

-- so are the statistics
pub stats_few : (slot : List ℕ) → length (rows slot stats_text) ≤ 2
unfolding stats_text
stats_few slot =
    let text = stats_text in
    let ends : count_by is_line_feed text ≤ 1 = lit≤ tt in
    omega (arith, taken (row_of slot) (numbered_lines text), few_lines text, ends)

stats_short : length stats_text ≤ 100
unfolding stats_text
stats_short = lit≤ tt

pub stats_memory : {X : Type 0} (slot text : List ℕ) → text ≡ stats_text
    → (result : Result X SourceFault) (fault : SourceFault) → result ≡ Err fault
    → (result ≡ Err faults.TooLong) ↔ (longest_stats < length text)
    → (result ≡ Err faults.TooMany → most_delegations < length (rows slot text))
    → fault ≡ faults.Memory
stats_memory slot text same result fault is long many =
    memory_left fault
    (λ over.
    let more : longest_stats < length text = long.0 (is ∙ ap Err over) in
    let size = ap length same in omega (arith, more, size, stats_short))
    (λ over.
    let more : most_delegations < length (rows slot text) = many (is ∙ ap Err over) in
    let size = ap (λ t. length (rows slot t)) same in
    omega (arith, more, size, stats_few slot))

-- and the dump
one_reference : (what : What) → length (reference_in what) ≤ 1
one_reference NotInet = lit≤ tt
one_reference Nothing = lit≤ tt
one_reference (One reference) = lit≤ tt
one_reference Void = lit≤ tt

of_item : (slot : List ℕ) (item : Item) → length (references_of slot item) ≤ 1
of_item slot (Whole object) = one_reference (found slot object).what
of_item slot (Passed line rule) = lit≤ tt

few_references : (slot : List ℕ) (its : List Item) → length (references slot its) ≤ length its
unfolding references
few_references slot [] = lit≤ tt
few_references slot (item ∷ its) =
    omega (
      arith,
      of_item slot item,
      few_references slot its,
      length-append (references_of slot item) (references slot its),
    )

few_objects : length (objects dump_text) ≤ 10
unfolding dump_text objects group_items items is_attribute
few_objects = lit≤ tt

judged_fits : {T : Type 0} (refs : List Reference) (text : List ℕ) (x : T)
    → length refs ≤ most_references
    → length text ≤ longest_dump → judged refs text x ≡ Ok x
judged_fits refs text x few short =
    ap (λ b. if b then Err faults.TooMany else
    (if nat_lt longest_dump (length text) then Err faults.TooLong else Ok x))
    (le-ltb most_references (length refs) few)
    ∙ ap (λ b. if b then Err faults.TooLong else Ok x) (le-ltb longest_dump (length text) short)

pub dump_is : (slot : List ℕ) → dump slot dump_text ≡ Ok (dump_parts slot dump_text)
unfolding dump dump_text
dump_is slot =
    let text = dump_text in
    judged_fits (references slot (objects text)) text (dump_parts slot text)
    (omega (arith, few_references slot (objects text), few_objects)) (lit≤ tt)

-- few statements are in either
pub few_dump : (slot : List ℕ) → length (dump_parts slot dump_text).refs ≤ 10
few_dump slot = omega (arith, few_references slot (objects dump_text), few_objects)

-- a reader of the dump answers all of it, and stops for want of memory alone
pub at_slot : (slot text : List ℕ) (r : Reading) → r ≡ reading slot text → r ≡ reading r.slot text
at_slot slot text r is = is ∙ ap (λ s. reading s text) (sym (ap (λ q. q.slot) is))

pub fed_memory : (slot text : List ℕ) (reader : Reading) (fault : SourceFault) → text ≡ dump_text
    → reader ≡ reading slot []
    → ((fault ≡ faults.Memory → ⊥) → (before : List ℕ) → reader ≡ reading reader.slot before
    → Err fault ≡ so_far reader.slot (before ++ text)) → fault ≡ faults.Memory
fed_memory slot text reader fault same is answer =
    memory_left fault (λ over. refused (λ out. cc)) (λ over. refused (λ out. cc))
  where
    refused : (fault ≡ faults.Memory → ⊥) → ⊥
    refused other =
        let so = answer other [] (at_slot slot [] reader is) in
        let here = ap (so_far reader.slot) same in
        let whole = end_fault reader.slot dump_text fault (sym (so ∙ here)) in
        let fine = dump_is reader.slot in cc

pub whole_memory : (slot text : List ℕ) (reader : Reading) (fault : SourceFault)
    → text ≡ dump_text → reader ≡ reading slot text
    → ((fault ≡ faults.Memory → ⊥) → (all : List ℕ) → reader ≡ reading reader.slot all
    → Err fault ≡ dump reader.slot all) → fault ≡ faults.Memory
whole_memory slot text reader fault same is answer =
    memory_left fault (λ over. refused (λ out. cc)) (λ over. refused (λ out. cc))
  where
    refused : (fault ≡ faults.Memory → ⊥) → ⊥
    refused other =
        let so = answer other text (at_slot slot text reader is) in
        let here = ap (dump reader.slot) same in
        let fine = dump_is reader.slot in cc

-- what it has read is the dump
pub whole_dump : (slot text : List ℕ) (reader : Reading) (found : DumpParts) → text ≡ dump_text
    → slot ≡ codes "gen" → reader ≡ reading slot text
    → ((all : List ℕ) → reader ≡ reading reader.slot all → Ok found ≡ dump reader.slot all)
    → found ≡ the_dump
whole_dump slot text reader found same named is answer =
    let so = answer text (at_slot slot text reader is) in
    let here : dump reader.slot text ≡ dump (codes "gen") text =
    ap (λ s. dump s text) (ap (λ q. q.slot) is ∙ named) in
    let fine = ap (dump (codes "gen")) same ∙ dump_is (codes "gen") in
    let both : Ok found ≡ Ok the_dump = so ∙ here ∙ fine in cc

-- the texts in code
pub dump_text_is :
    codes "inetnum: 10.0.0.0 - 10.255.255.255\ngeofeed: https://gen.example/feed.csv\n"
    ≡ dump_text
unfolding dump_text
dump_text_is = refl

pub stats_text_is : codes "gen|US|ipv4|10.0.0.0|16777216|20200101|allocated\n" ≡ stats_text
unfolding stats_text
stats_text_is = refl
