-- Between two cut points of the sources every statement holds the same addresses,
-- so nothing that is chosen by it changes.
use Rattle.std.proofs.Common.{◌≡◌, ℕ, suc, ◌+◌, ◌<◌, ◌≤◌, Bool, true, false, cond, ◌&&◌, List, []}
use Rattle.std.proofs.Common.{◌∷◌, ◌++◌, map, Option, Some, None, refl, sym, ap, ◌∙◌, subst, inl}
use Rattle.std.proofs.Common.{inr, arith, append_assoc, append-nil}
use Rattle.std.specs.List.{AllByRecursion, filter, flat_map, find}
use Rattle.std.proofs.lemmas.Bool.Decides.{nat_tests}
use Rattle.std.proofs.lemmas.List.{map-append}
use Rattle.geo_addr.specs.Ranges.{Ends, ground_first, holds, IsEdge, IsCut, NoCut, range_of_block}
use Rattle.geo_terms.specs.Cuts.{ConstantBetweenCuts}
use Rattle.geo_terms.specs.DelegationForm.{DelegationParts}
use Rattle.geo_terms.specs.First.{first_at, first_of}
use Rattle.geo_terms.specs.PlaceForm.{same_text}
use Rattle.geo_terms.specs.Precedence.{reference_before, delegation_before, override_before}
use Rattle.geo_terms.specs.Precedence.{entry_before, speaker, speaking_entry, entry_of}
use Rattle.geo_terms.specs.Precedence.{entries_within, lies_within, first_delegation}
use Rattle.geo_terms.specs.Precedence.{first_override, spoken_at}
use Rattle.geo_terms.specs.SourceForm.{FeedParts}
use Rattle.geo_terms.specs.Sources.{InForce, references, entries_in, entries, delegations}
use Rattle.geo_terms.specs.Sources.{override_rows}
use Rattle.geo_terms.specs.declared.statement.Entry.{Entry}
use Rattle.geo_terms.specs.declared.statement.Override.{Override}
use Rattle.geo_terms.specs.declared.statement.Reference.{Reference}

-- a range whose edges do not lie between two addresses holds both or neither
same_holds : (r : Ends) (a b : ℕ) → a ≤ b
    → ((c : ℕ) → a < c → c ≤ b → IsEdge c r → ⊥) → holds r a ≡ holds r b
unfolding holds
same_holds r a b le none =
    let g : ℕ = ground_first r in
    let no_start : a < ground_first r → ground_first r ≤ b → ⊥ =
    λ h k. none (ground_first r) h k (inl refl) in
    let no_end : a < r.last + 1 → r.last + 1 ≤ b → ⊥ = λ h k. none (r.last + 1) h k (inr refl) in
    grind (arith, nat_tests, no_start, no_end)

cut_here : (r : Ends) (rs : List Ends) (c : ℕ) → IsEdge c r → IsCut (r ∷ rs) c
cut_here r rs c e = (0, r, omega arith, refl, e)

cut_later : (r : Ends) (rs : List Ends) (c : ℕ) → IsCut rs c → IsCut (r ∷ rs) c
cut_later r rs c (k, x, below, is, e) = (suc k, x, omega (arith, below), is, e)

-- every member of a list holds both addresses or neither, where its edges are among the cut points;
-- the rest has none between them either
pub each_same : {X : Type 0} (f : X → Ends) (xs : List X) (rest : List Ends) (a b : ℕ) → a ≤ b
    → NoCut (map f xs ++ rest) a b
    → AllByRecursion (λ x. holds (f x) a ≡ holds (f x) b) xs × NoCut rest a b
each_same f [] rest a b le none = (tt, none)
each_same f (x ∷ xs) rest a b le none =
    let later =
    each_same f xs rest a b le (λ c h k e. none c h k (cut_later (f x) (map f xs ++ rest) c e)) in (
      (
        same_holds (f x) a b le (λ c h k e. none c h k (cut_here (f x) (map f xs ++ rest) c e)),
        later.0,
      ),
      later.1,
    )

-- a filter by two tests that agree on each member
pub same_filter : {X : Type 0} (p q : X → Bool) (xs : List X) → AllByRecursion (λ x. p x ≡ q x) xs
    → filter p xs ≡ filter q xs
same_filter p q [] h = refl
same_filter p q (x ∷ xs) h = rw (h.0, same_filter p q xs h.1) refl

both_same : {X : Type 0} (p q r : X → Bool) (xs : List X) → AllByRecursion (λ x. p x ≡ q x) xs
    → AllByRecursion (λ x. (p x && r x) ≡ (q x && r x)) xs
both_same p q r [] h = tt
both_same p q r (x ∷ xs) h = (ap (λ t. t && r x) h.0, both_same p q r xs h.1)

-- the ranges of the entries of one list and then of another
entry_ranges : List Entry → List Ends
entry_ranges es = map (λ e. range_of_block e.block) es

split_cuts : (es more : List Entry) (rest : List Ends) (a b : ℕ)
    → NoCut (entry_ranges (es ++ more) ++ rest) a b
    → NoCut (entry_ranges es ++ (entry_ranges more ++ rest)) a b
unfolding entry_ranges
split_cuts es more rest a b none =
    let e : entry_ranges (es ++ more) ++ rest ≡ entry_ranges es ++ (entry_ranges more ++ rest) =
    ap (λ t. t ++ rest) (map-append (λ e. range_of_block e.block) es more)
    ∙ append_assoc (entry_ranges es) (entry_ranges more) rest in
    subst (λ (rs : List Ends). NoCut rs a b) e none

-- of the feed of a URL, the entries that lie within a range and hold an address
same_entries : (fs : List FeedParts) (rest : List Ends) (url : List ℕ) (r : Ends) (a b : ℕ) → a ≤ b
    → NoCut (entry_ranges (flat_map (λ f. f.entries) fs) ++ rest) a b
    → (entries_within (entries_in (find (λ f. same_text f.url url) fs)) r a
    ≡ entries_within (entries_in (find (λ f. same_text f.url url) fs)) r b) × NoCut rest a b
unfolding entry_ranges
same_entries [] rest url r a b le none = (refl, none)
same_entries (f ∷ fs) rest url r a b le none =
    let here = each_same (λ (e : Entry). range_of_block e.block) f.entries
    (entry_ranges (flat_map (λ g. g.entries) fs) ++ rest) a b le
    (split_cuts f.entries (flat_map (λ g. g.entries) fs) rest a b none) in
    let later = same_entries fs rest url r a b le here.1 in
    let within : entries_within f.entries r a ≡ entries_within f.entries r b =
    same_filter _ _ f.entries (both_same (λ (e : Entry). holds (range_of_block e.block) a)
    (λ e. holds (range_of_block e.block) b) (λ e. lies_within e.block r) f.entries here.0) in (
      elim (same_text f.url url) as (λ t.
          entries_within (entries_in (cond t (Some f) (find (λ g. same_text g.url url) fs))) r a
          ≡ entries_within (entries_in (cond t (Some f) (find (λ g. same_text g.url url) fs))) r
          b) [ true ↦ within | false ↦ later.0 ],
      later.1,
    )

-- the speaking entry of a speaker
same_entry : (s : InForce) (o : Option Reference) (rest : List Ends) (a b : ℕ) → a ≤ b
    → NoCut (entry_ranges (entries s) ++ rest) a b
    → (entry_of s o a ≡ entry_of s o b) × NoCut rest a b
same_entry s None rest a b le none =
    (refl, (same_entries s.feeds rest [] (record { first = 0; last = 0 }) a b le none).1)
same_entry s (Some r) rest a b le none =
    let same = same_entries s.feeds rest r.url r.range a b le none in
    (ap (λ es. first_of entry_before es) same.0, same.1)

-- the first in an order among those that hold an address
same_first : {X : Type 0} (before : X → X → Bool) (f : X → Ends) (xs : List X) (a b : ℕ)
    → AllByRecursion (λ x. holds (f x) a ≡ holds (f x) b) xs
    → first_at before f xs a ≡ first_at before f xs b
same_first before f xs a b h =
    ap (λ ys. first_of before ys) (same_filter (λ x. holds (f x) a) (λ x. holds (f x) b) xs h)

pub constant_between_cuts : ConstantBetweenCuts
unfolding spoken_at speaker speaking_entry first_delegation first_override entry_ranges
constant_between_cuts s a b le none =
    let refs = each_same (λ (r : Reference). r.range) (references s) _ a b le none in
    let speakers : speaker s a ≡ speaker s b =
    same_first reference_before (λ r. r.range) (references s) a b refs.0 in
    let ents = same_entry s (speaker s a) _ a b le refs.1 in
    let entries_same : speaking_entry s a ≡ speaking_entry s b =
    ents.0 ∙ ap (λ o. entry_of s o b) speakers in
    let dels = each_same (λ (d : DelegationParts). d.range) (delegations s) _ a b le ents.1 in
    let delegated : first_delegation s a ≡ first_delegation s b =
    same_first delegation_before (λ d. d.range) (delegations s) a b dels.0 in
    let rows : NoCut (map (λ (o : Override). o.range) (override_rows s) ++ []) a b =
    subst (λ (rs : List Ends). NoCut rs a b)
    (sym (append-nil (map (λ (o : Override). o.range) (override_rows s)))) dels.1 in
    let overs = each_same (λ (o : Override). o.range) (override_rows s) [] a b le rows in
    let overridden : first_override s a ≡ first_override s b =
    same_first override_before (λ o. o.range) (override_rows s) a b overs.0 in
    rw (overridden, entries_same, delegated) refl
