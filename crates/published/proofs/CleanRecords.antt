-- The record of clean sources is clean.
use Rattle.std.proofs.Common.{ℕ, zero, suc, ◌+◌, ◌^◌, Bool, true, false, cond, List, []}
use Rattle.std.proofs.Common.{◌∷◌, find, fold, Option, None, Some}
use Rattle.std.specs.List.{AllByRecursion as Each}
use Rattle.geo_addr.specs.Ranges.{holds}
use Rattle.geo_terms.specs.Alias.{home}
use Rattle.geo_terms.specs.DelegationForm.{DelegationParts}
use Rattle.geo_terms.specs.First.{better, first_of}
use Rattle.geo_terms.specs.PlaceForm.{same_text}
use Rattle.geo_terms.specs.Precedence.{chosen, delegation_before, entries_within, entry_before}
use Rattle.geo_terms.specs.Precedence.{entry_of, first_delegation, first_override}
use Rattle.geo_terms.specs.Precedence.{override_before, record_at, speaker, speaking_entry}
use Rattle.geo_terms.specs.Precedence.{spoken_at}
use Rattle.geo_terms.specs.SourceForm.{FeedParts}
use Rattle.geo_terms.specs.Sources.{InForce, delegations, entries_in, feed_of, override_rows}
use Rattle.geo_terms.specs.declared.place.Said.{Said}
use Rattle.geo_terms.specs.declared.place.Said.TheVariants.{Nothing, At}
use Rattle.geo_terms.specs.declared.statement.Entry.{Entry}
use Rattle.geo_terms.specs.declared.statement.Override.{Override}
use Rattle.geo_terms.specs.declared.statement.Reference.{Reference}
use Rattle.trie_core.specs.Tree.{Tree, leaf, node, AllLeaves, join, tree}
use Rattle.csv_lines.specs.Clean.{IsCleanPlace, IsCleanSaid}
use Rattle.mmdb_file.specs.FileImage.{record_tree, same_answer}
use Rattle.published.specs.CleanSources.{AreCleanSources, CleanSourcesMakeCleanRecords}
use Rattle.published.specs.Reread.{IsCleanAt}
use Rattle.published.proofs.EachLemmas.{IfAny, each_filter, each_flat}

-- the first of members that pass passes
module _ {X : Type 0} (P : X → Type 0) (before : X → X → Bool) where
  better_passes : (o : Option X) (x : X) → IfAny P o → P x → IfAny P (better before o x)
  better_passes None x some one = one
  better_passes (Some y) x some one = by (before x y)
    where
      by : (b : Bool) → P (cond b x y)
      by true = one
      by false = some

  fold_passes : (xs : List X) (o : Option X) → IfAny P o → Each P xs
      → IfAny P (fold (better before) o xs)
  fold_passes [] o some all = some
  fold_passes (x ∷ xs) o some all =
      fold_passes xs (better before o x) (better_passes o x some all.0) all.1

  first_passes : (xs : List X) → Each P xs → IfAny P (first_of before xs)
  first_passes xs all = fold_passes xs None tt all

found_entries : (P : Entry → Type 0) (q : FeedParts → Bool) (fs : List FeedParts)
    → Each (λ f. Each P f.entries) fs → Each P (entries_in (find q fs))
found_entries P q [] all = tt
found_entries P q (f ∷ fs) all = by (q f) (found_entries P q fs all.1)
  where
    by : (b : Bool)
        → Each P (entries_in (find q fs)) → Each P (entries_in (cond b (Some f) (find q fs)))
    by true more = all.0
    by false more = more

-- ---- an address

chosen_clean : (o : Option Override) (e : Option Entry) (d : Option DelegationParts)
    → IfAny (λ x. IsCleanSaid x.said) o → IfAny (λ x. IsCleanSaid x.said) e
    → IfAny (λ x. IsCleanPlace x.place) d → IsCleanAt (chosen o e d)
chosen_clean (Some o) e d row entry place = said o.said row
  where
    said : (s : Said) → IsCleanSaid s
        → IsCleanAt (chosen (Some (record { line = o.line; range = o.range; said = s })) e d)
    said Nothing c = tt
    said (At p) c = c
chosen_clean None (Some e) d row entry place = said e.said entry
  where
    said : (s : Said) → IsCleanSaid s
        → IsCleanAt (chosen None (Some (record { line = e.line; block = e.block; said = s })) d)
    said Nothing c = tt
    said (At p) c = c
chosen_clean None None (Some d) row entry place = place
chosen_clean None None None row entry place = tt

module _ (s : InForce) (clean : AreCleanSources s) where
  abbrev IsCleanEntry : Entry → Type 0
  IsCleanEntry e = IsCleanSaid e.said

  entry_clean : (r : Option Reference) (a : ℕ) → IfAny IsCleanEntry (entry_of s r a)
  entry_clean None a = tt
  entry_clean (Some r) a =
      let es = entries_in (feed_of s r.url) in
      first_passes IsCleanEntry entry_before (entries_within es r.range a)
      (each_filter IsCleanEntry (λ e. _) es
      (found_entries IsCleanEntry (λ f. same_text f.url r.url) s.feeds clean.feeds))

  spoken_clean : (a : ℕ) → IsCleanAt (spoken_at s a)
  unfolding spoken_at speaking_entry first_override first_delegation
  spoken_clean a =
      chosen_clean (first_override s a) (speaking_entry s a) (first_delegation s a)
      (first_passes (λ o. IsCleanSaid o.said) override_before _
      (each_filter (λ o. IsCleanSaid o.said) (λ o. holds o.range a) (override_rows s) clean.rows))
      (entry_clean (speaker s a) a)
      (first_passes (λ d. IsCleanPlace d.place) delegation_before _
      (each_filter (λ d. IsCleanPlace d.place) (λ d. holds d.range a) (delegations s)
      (each_flat (λ d. IsCleanPlace d.place) (λ t. t.rows) s.stats clean.stats)))

-- ---- all of them

joined_leaves : {A : Type 0} (P : A → Type 0) (eq : A → A → Bool) (l r : Tree A) → AllLeaves P l
    → AllLeaves P r → AllLeaves P (join eq l r)
joined_leaves P eq (leaf a) (leaf b) x y = by (eq a b)
  where
    by : (p : Bool) → AllLeaves P (cond p (leaf a) (node (leaf a) (leaf b)))
    by true = x
    by false = (x, y)
joined_leaves P eq (leaf a) (node l r) x y = (x, y)
joined_leaves P eq (node l r) t x y = (x, y)

tree_leaves : {A : Type 0} (P : A → Type 0) (eq : A → A → Bool) (f : ℕ → A) (n first : ℕ)
    → ((a : ℕ) → P (f a)) → AllLeaves P (tree eq f n first)
unfolding tree
tree_leaves P eq f zero first all = all first
tree_leaves P eq f (suc n) first all =
    joined_leaves P eq (tree eq f n first) (tree eq f n (first + 2 ^ n))
    (tree_leaves P eq f n first all) (tree_leaves P eq f n (first + 2 ^ n) all)

pub clean_records : CleanSourcesMakeCleanRecords
unfolding record_tree
clean_records s clean =
    tree_leaves IsCleanAt same_answer (record_at s) 128 0 (λ a. spoken_clean s clean (home a))
