-- What a call that sets or drops a source leaves: the grounds that it finds by comparing statements
-- are those of its change.
use Rattle.std.proofs.Common.{◌≡◌, ◌∙◌, ◌++◌, ℕ, List, Option, ap, length, subst, take}
use Rattle.std.proofs.Math.Seq.{take-append_seam}
use Rattle.std.specs.List.Sorted.{IsPermutation}
use Rattle.geo_addr.specs.Ranges.{Ends}
use Rattle.geo_terms.specs.DelegationForm.{DelegationParts}
use Rattle.geo_terms.specs.SourceForm.{DumpParts, FeedParts, StatsParts}
use Rattle.geo_terms.specs.Sources.{InForce, entries_in}
use Rattle.geo_terms.specs.declared.statement.Entry.{Entry}
use Rattle.geo_terms.specs.declared.statement.Reference.{Reference}
use Rattle.source_changes.specs.Changes.{SetDump, SetFeed, SetStats, changes, named}
use Rattle.source_changes.specs.Changes.{delegation_changes, delegations_in, entry_changes}
use Rattle.source_changes.specs.Changes.{reference_changes, references_in}

-- grounds that were added go again where the list is cut to its length before
pub without_more : (old new more : List Ends) (n : ℕ) → n ≡ length old → new ≡ old ++ more
    → take n new ≡ old
without_more old new more n len is =
    (λ i. take (len i) (is i)) ∙ take-append_seam old more

-- delegations compared with those of the file in the same slot
pub changes_by_stats : (s : InForce) (stats : StatsParts) (old new : List DelegationParts)
    (grounds : List Ends)
    → old ≡ delegations_in (named (λ x. x.slot) stats.slot s.stats) → new ≡ stats.rows
    → IsPermutation (delegation_changes old new) grounds
    → IsPermutation (changes (SetStats stats) s) grounds
changes_by_stats s stats old new grounds of rows found =
    subst (λ xs. IsPermutation (delegation_changes xs stats.rows) grounds) of
    (subst (λ xs. IsPermutation (delegation_changes old xs) grounds) rows found)

-- references compared with those of the dump in the same slot
pub changes_by_dump : (s : InForce) (dump : DumpParts) (old new : List Reference)
    (grounds : List Ends)
    → old ≡ references_in (named (λ x. x.slot) dump.slot s.dumps) → new ≡ dump.refs
    → IsPermutation (reference_changes old new) grounds
    → IsPermutation (changes (SetDump dump) s) grounds
changes_by_dump s dump old new grounds of refs found =
    subst (λ xs. IsPermutation (reference_changes xs dump.refs) grounds) of
    (subst (λ xs. IsPermutation (reference_changes old xs) grounds) refs found)

-- entries compared with those of the feed of the same URL, found by the URL of the feed that is set
pub changes_by_feed : (s : InForce) (ready feed : FeedParts) (url : List ℕ)
    (there : Option FeedParts) (old new : List Entry) (grounds : List Ends)
    → feed ≡ ready → url ≡ feed.url → new ≡ feed.entries
    → there ≡ named (λ x. x.url) url s.feeds → old ≡ entries_in there
    → IsPermutation (entry_changes old new) grounds
    → IsPermutation (changes (SetFeed ready) s) grounds
changes_by_feed s ready feed url there old new grounds is name entries found of same =
    subst (λ xs. IsPermutation (entry_changes xs ready.entries) grounds)
    (of ∙ ap entries_in found ∙ ap (λ n. entries_in (named (λ x. x.url) n s.feeds))
    (name ∙ ap (λ (f : FeedParts). f.url) is))
    (subst (λ xs. IsPermutation (entry_changes old xs) grounds)
    (entries ∙ ap (λ (f : FeedParts). f.entries) is) same)
