-- The place of a record is one that an entry or a delegation says, where there are no overrides.
use Rattle.std.proofs.Common.{◌≡◌, ℕ, suc, ◌+◌, ◌<◌, ◌≤◌, ◌⊎◌, inl, inr, Bool, true, false, ◌&&◌}
use Rattle.std.proofs.Common.{cond, List, [], ◌∷◌, ◌++◌, length, map, refl, sym, ap, subst, ◌∙◌}
use Rattle.std.proofs.Common.{arith, lit≤, length-append}
use Rattle.std.proofs.lemmas.List.{length-map}
use Rattle.std.specs.Prelude.{filter, find, flat_map, fold, if◌then◌else◌, Option, Some, None}
use Rattle.std.specs.Prelude.{slice_get}
use Rattle.std.specs.List.{cons_option}
use Rattle.geo_addr.specs.Ranges.{holds, range_of_block}
use Rattle.geo_terms.specs.Alias.{home}
use Rattle.geo_terms.specs.DelegationForm.{DelegationParts}
use Rattle.geo_terms.specs.First.{better, first_of}
use Rattle.geo_terms.specs.PlaceForm.{PlaceParts, same_text}
use Rattle.geo_terms.specs.Precedence.{chosen, delegation_before, entry_before, entries_within}
use Rattle.geo_terms.specs.Precedence.{entry_of, first_delegation, first_override, lies_within}
use Rattle.geo_terms.specs.Precedence.{override_before, record_at, said_place, speaker}
use Rattle.geo_terms.specs.Precedence.{speaking_entry, spoken_at}
use Rattle.geo_terms.specs.SourceForm.{FeedParts}
use Rattle.geo_terms.specs.Sources.{InForce, delegations, entries, entries_in, feed_of}
use Rattle.geo_terms.specs.Sources.{override_rows}
use Rattle.geo_terms.specs.declared.statement.Entry.{Entry}
use Rattle.geo_terms.specs.declared.statement.Override.{Override}
use Rattle.geo_terms.specs.declared.statement.Reference.{Reference}
use Rattle.geo_terms.proofs.Members.{Among}

pub unfiltered : {X : Type 0} (test : X → Bool) (x : X) (xs : List X) → Among x (filter test xs)
    → Among x xs
unfiltered test x [] there = there
unfiltered test x (y ∷ ys) there = by (test y) there (unfiltered test x ys)
  where
    by : (b : Bool) → Among x (cond b (y ∷ filter test ys) (filter test ys))
        → (Among x (filter test ys) → Among x ys) → (y ≡ x) ⊎ Among x ys
    by true (inl is) later = inl is
    by true (inr rest) later = inr (later rest)
    by false rest later = inr (later rest)

among-left : {X : Type 0} (x : X) (xs ys : List X) → Among x xs → Among x (xs ++ ys)
among-left x [] ys there = absurd there
among-left x (y ∷ xs) ys (inl is) = inl is
among-left x (y ∷ xs) ys (inr there) = inr (among-left x xs ys there)

among-right : {X : Type 0} (x : X) (xs ys : List X) → Among x ys → Among x (xs ++ ys)
among-right x [] ys there = there
among-right x (y ∷ xs) ys there = inr (among-right x xs ys there)

among-map : {X Y : Type 0} (f : X → Y) (x : X) (xs : List X) → Among x xs → Among (f x) (map f xs)
among-map f x [] there = absurd there
among-map f x (y ∷ xs) (inl is) = inl (ap f is)
among-map f x (y ∷ xs) (inr there) = inr (among-map f x xs there)

module _ {X : Type 0} (before : X → X → Bool) where
  first_from : (y x : X) (xs : List X) → fold (better before) (Some y) xs ≡ Some x
      → (y ≡ x) ⊎ Among x xs
  first_from y x [] is = inl (cc)
  first_from y x (z ∷ zs) is = by (before z y) is (first_from z x zs) (first_from y x zs)
    where
      by : (b : Bool) → fold (better before) (Some (if b then z else y)) zs ≡ Some x
          → (fold (better before) (Some z) zs ≡ Some x → (z ≡ x) ⊎ Among x zs)
          → (fold (better before) (Some y) zs ≡ Some x → (y ≡ x) ⊎ Among x zs)
          → (y ≡ x) ⊎ ((z ≡ x) ⊎ Among x zs)
      by true found one other = inr (one found)
      by false found one other =
          elim (other found) [ inl same ↦ inl same | inr there ↦ inr (inr there) ]

  -- the first in an order is a member
  first_among : (x : X) (xs : List X) → first_of before xs ≡ Some x → Among x xs
  first_among x [] is = absurd (cc)
  first_among x (y ∷ ys) is = first_from y x ys is

-- the entries of one feed are entries of all
feed_among : (url : List ℕ) (fs : List FeedParts) (e : Entry)
    → Among e (entries_in (find (λ f. same_text f.url url) fs))
    → Among e (flat_map (λ f. f.entries) fs)
feed_among url [] e there = there
feed_among url (f ∷ fs) e there = by (same_text f.url url) there (feed_among url fs e)
  where
    by : (b : Bool) → Among e (entries_in (cond b (Some f) (find (λ g. same_text g.url url) fs)))
        → (Among e (entries_in (find (λ g. same_text g.url url) fs))
        → Among e (flat_map (λ g. g.entries) fs))
        → Among e (f.entries ++ flat_map (λ g. g.entries) fs)
    by true here later = among-left e f.entries (flat_map (λ g. g.entries) fs) here
    by false here later = among-right e f.entries (flat_map (λ g. g.entries) fs) (later here)

entry_among : (s : InForce) (r : Option Reference) (a : ℕ) (e : Entry) → entry_of s r a ≡ Some e
    → Among e (entries s)
entry_among s None a e is = absurd (cc)
entry_among s (Some r) a e is =
    feed_among r.url s.feeds e
    (unfiltered (λ x. holds (range_of_block x.block) a && lies_within x.block r.range) e
    (entries_in (feed_of s r.url))
    (first_among entry_before e (entries_within (entries_in (feed_of s r.url)) r.range a) is))

-- the places that entries say
abbrev pub said : List Entry → List PlaceParts
said [] = []
said (e ∷ es) = cons_option (said_place e.said) (said es)

said_among : (es : List Entry) (e : Entry) (p : PlaceParts) → Among e es
    → said_place e.said ≡ Some p → Among p (said es)
said_among [] e p there is = absurd there
said_among (x ∷ es) e p (inl same) is =
    let here : said_place x.said ≡ Some p = ap (λ (y : Entry). said_place y.said) same ∙ is in
    subst (λ o. Among p (cons_option o (said es))) (sym here) (inl refl)
said_among (x ∷ es) e p (inr there) is = by (said_place x.said) (said_among es e p there is)
  where
    by : (o : Option PlaceParts) → Among p (said es) → Among p (cons_option o (said es))
    by None later = later
    by (Some q) later = inr later

-- the places of entries and of delegations
abbrev pub peers : InForce → List PlaceParts
peers s = said (entries s) ++ map (λ (d : DelegationParts). d.place) (delegations s)

few_said : (es : List Entry) → length (said es) ≤ length es
few_said [] = lit≤ tt
few_said (e ∷ es) = by (said_place e.said) (few_said es)
  where
    by : (o : Option PlaceParts) → length (said es) ≤ length es
        → length (cons_option o (said es)) ≤ suc (length es)
    by None rest = omega arith
    by (Some p) rest = omega arith

pub few_peers : (s : InForce) → length (peers s) ≤ length (entries s) + length (delegations s)
few_peers s =
    omega (
      arith,
      few_said (entries s),
      length-append (said (entries s)) (map (λ (d : DelegationParts). d.place) (delegations s)),
      length-map (delegations s) (λ (d : DelegationParts). d.place),
    )

chosen_among : (s : InForce) (o : Option Override) (e : Option Entry) (d : Option DelegationParts)
    (p : PlaceParts) → o ≡ None
    → ((x : Entry) → e ≡ Some x → Among x (entries s))
    → ((x : DelegationParts) → d ≡ Some x → Among x (delegations s))
    → chosen o e d ≡ Some p → Among p (peers s)
chosen_among s (Some o) e d p bare one other is = absurd (cc)
chosen_among s None (Some e) d p bare one other is =
    among-left p (said (entries s)) _ (said_among (entries s) e p (one e refl) is)
chosen_among s None None (Some d) p bare one other is =
    among-right p (said (entries s)) _
    (let same : d.place ≡ p = cc in
    subst (λ q. Among q (map (λ (x : DelegationParts). x.place) (delegations s))) same
    (among-map (λ (x : DelegationParts). x.place) d (delegations s) (other d refl)))
chosen_among s None None None p bare one other is = absurd (cc)

pub record_among : (s : InForce) (a : ℕ) (p : PlaceParts) → override_rows s ≡ []
    → record_at s a ≡ Some p → Among p (peers s)
unfolding spoken_at first_override speaking_entry first_delegation
record_among s a p bare is =
    chosen_among s (first_override s (home a)) (speaking_entry s (home a))
    (first_delegation s (home a)) p
    (ap (λ (rows : List Override).
    first_of override_before (filter (λ o. holds o.range (home a)) rows)) bare)
    (λ e found. entry_among s (speaker s (home a)) (home a) e found)
    (λ d found. unfiltered (λ x. holds x.range (home a)) d (delegations s)
    (first_among delegation_before d _ found)) is

-- where a place stands in a list
pub stands : (p : PlaceParts) (ps : List PlaceParts) → Among p ps
    → (i : ℕ) × (Some p ≡ slice_get ps i) × (i < length ps)
stands p [] there = absurd there
stands p (q ∷ qs) (inl is) = (0, ap Some (sym is), omega arith)
stands p (q ∷ qs) (inr there) = let at = stands p qs there in (suc at.0, at.1, omega (arith, at.2))
