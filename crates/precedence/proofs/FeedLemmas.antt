-- The entries of one feed more.
use Rattle.std.proofs.Common.{◌≡◌, ℕ, ◌+◌, ◌<◌, List, [], ◌∷◌, ◌++◌, length, get_or, map, take, sym}
use Rattle.std.proofs.Common.{ap, ◌∙◌, append_assoc}
use Rattle.std.specs.List.{flat_map}
use Rattle.std.proofs.lemmas.List.{flat_map_more, map-append, take_more}
use Rattle.geo_addr.specs.Ranges.{Ends, range_of_block}
use Rattle.geo_terms.specs.SourceForm.{FeedParts}
use Rattle.geo_terms.specs.declared.statement.Entry.{Entry}

abbrev pub entry_ranges : List Entry → List Ends
entry_ranges es = map (λ (e : Entry). range_of_block e.block) es

abbrev pub all_entries : List FeedParts → List Entry
all_entries fs = flat_map (λ (f : FeedParts). f.entries) fs

pub entry_more : (before : List Ends) (fs : List FeedParts) (i : ℕ) (f : FeedParts)
    → i < length fs → f ≡ get_or fs i f
    → (before ++ entry_ranges (all_entries (take i fs))) ++ entry_ranges f.entries
    ≡ before ++ entry_ranges (all_entries (take (i + 1) fs))
entry_more before fs i f below is =
    let more : take i fs ++ f ∷ [] ≡ take (i + 1) fs =
    ap (λ (x : FeedParts). take i fs ++ x ∷ []) is ∙ sym (take_more fs i f below) in
    append_assoc before (entry_ranges (all_entries (take i fs))) (entry_ranges f.entries)
    ∙ ap (λ (rs : List Ends). before ++ rs)
    (sym (map-append (λ (e : Entry). range_of_block e.block) (all_entries (take i fs)) f.entries)
    ∙ ap entry_ranges (flat_map_more (λ (f : FeedParts). f.entries) [] (take i fs) f)
    ∙ ap (λ (gs : List FeedParts). entry_ranges (all_entries gs)) more)
