-- There are no more segments than the touch.
use Rattle.std.proofs.Common.{◌≡◌, ℕ, ◌*◌, zero, suc, ◌+◌, ◌≤◌, Bool, true, false, cond, eqb, List}
use Rattle.std.proofs.Common.{[], ◌∷◌, length, refl, sym, ap, ◌∙◌, inl, inr, arith}
use Rattle.std.specs.List.{filter, flat_map, count_by}
use Rattle.std.specs.List.Sorted.{IsPermutation}
use Rattle.std.proofs.lemmas.Bool.Decides.{Decides-eqb}
use Rattle.std.proofs.lemmas.List.Sums.{length-filter, count_by-le-length}
use Rattle.geo_addr.specs.Ranges.{Ends, IsCut, ground_first, edges_of}
use Rattle.geo_terms.specs.Cuts.{statement_ranges}
use Rattle.geo_terms.specs.Sources.{InForce}
use Rattle.mmdb_file.proofs.WritingLemmas.{length-each_once}
use Rattle.least_nodes.proofs.Elements.{In}
use Rattle.geo_terms.proofs.Members.{Among}
use Rattle.geo_terms.proofs.Ascending.{Up, up_above}
use Rattle.source_changes.specs.Laws.{OrderDoesNotMatter}
use Rattle.source_changes.specs.Touched.{is_touched}
use Rattle.update_session.specs.Touch.{edges, touch, few_places, bound}

-- a list with a member taken out, where it first stands
abbrev taken : ℕ → List ℕ → List ℕ
taken x [] = []
taken x (y ∷ ys) = cond (eqb x y) ys (y ∷ taken x ys)

length-taken : (x : ℕ) (ys : List ℕ) → Among x ys → length ys ≡ suc (length (taken x ys))
length-taken x [] is = absurd is
length-taken x (y ∷ ys) (inl e) =
    let same : eqb x y ≡ true = (Decides-eqb x y).1 (sym e) in
    rw same refl
length-taken x (y ∷ ys) (inr later) =
    elim (eqb x y) as (λ b. suc (length ys) ≡ suc (length (cond b ys (y ∷ taken x ys)))) [
      | true ↦ refl
      | false ↦ ap suc (length-taken x ys later)
    ]

among-taken : (x z : ℕ) (ys : List ℕ) → Among z ys → (x ≡ z → ⊥) → Among z (taken x ys)
among-taken x z [] is other = absurd is
among-taken x z (y ∷ ys) (inl e) other = by (eqb x y) refl
  where
    by : (b : Bool) → eqb x y ≡ b → Among z (cond b ys (y ∷ taken x ys))
    by true same = absurd (other ((Decides-eqb x y).0 same ∙ e))
    by false apart = inl e
among-taken x z (y ∷ ys) (inr later) other =
    elim (eqb x y) as (λ b. Among z (cond b ys (y ∷ taken x ys))) [
      | true ↦ later
      | false ↦ inr (among-taken x z ys later other)
    ]

-- different members of a list are no more than the list has
pub different_are_few : (low : ℕ) (xs ys : List ℕ) → Up low xs
    → ((c : ℕ) → Among c xs → Among c ys) → length xs ≤ length ys
different_are_few low [] ys up all = omega arith
different_are_few low (x ∷ xs) ys up all =
    let one : length ys ≡ suc (length (taken x ys)) = length-taken x ys (all x (inl refl)) in
    let rest : length xs ≤ length (taken x ys) =
    different_are_few (x + 1) xs (taken x ys) up.1 (λ c is. among-taken x c ys (all c (inr is))
    (λ e. let above : x + 1 ≤ c = up_above (x + 1) c xs up.1 is in omega arith)) in
    omega arith

pub in_from_among : (c : ℕ) (xs : List ℕ) → Among c xs → In c xs
in_from_among c [] is = absurd is
in_from_among c (x ∷ xs) (inl e) = inl (sym e)
in_from_among c (x ∷ xs) (inr later) = inr (in_from_among c xs later)

pub among_from_in : (c : ℕ) (xs : List ℕ) → In c xs → Among c xs
among_from_in c [] is = absurd is
among_from_in c (x ∷ xs) (inl e) = inl (sym e)
among_from_in c (x ∷ xs) (inr later) = inr (among_from_in c xs later)

-- a cut point is an edge of a range
pub among_edges : (c : ℕ) (rs : List Ends) → IsCut rs c → Among c (flat_map edges_of rs)
among_edges c [] (k, x, below, is, e) = absurd (omega (arith, below))
among_edges c (r ∷ rs) (zero, x, below, is, inl e) = inl (ap ground_first is ∙ sym e)
among_edges c (r ∷ rs) (zero, x, below, is, inr e) =
    inr (inl (ap (λ (y : Ends). y.last + 1) is ∙ sym e))
among_edges c (r ∷ rs) (suc k, x, below, is, e) =
    inr (inr (among_edges c rs (k, x, omega (arith, below), is, e)))

length-edges : (rs : List Ends) → length (flat_map edges_of rs) ≡ 2 * length rs
length-edges [] = refl
length-edges (r ∷ rs) = omega (arith, length-edges rs)

-- the bound grows with the numbers of changed statements and of those in force alone
pub bound_by_statements : (touched : List Ends) (s : InForce)
    → bound touched s ≤ 256 * (length touched + 2 * length (statement_ranges s) + 1)
unfolding bound few_places touch
bound_by_statements [] s = omega arith
bound_by_statements (r ∷ more) s =
    let touched : List Ends = r ∷ more in
    let rs : List Ends = statement_ranges s in
    let kept_are : length (filter (is_touched touched) (edges rs))
    ≡ count_by (is_touched touched) (edges rs) = length-filter (is_touched touched) (edges rs) in
    let few_kept : count_by (is_touched touched) (edges rs) ≤ length (edges rs) =
    count_by-le-length (is_touched touched) (edges rs) in
    let few_edges : length (edges rs) ≤ length (flat_map edges_of rs) =
    omega (arith, length-each_once eqb [] (flat_map edges_of rs)) in
    let two_each : length (flat_map edges_of rs) ≡ 2 * length rs = length-edges rs in
    omega arith

-- the touch is the same in whatever order the grounds stand
filter-same : (p q : ℕ → Bool) → ((c : ℕ) → p c ≡ q c) → (xs : List ℕ) → filter p xs ≡ filter q xs
filter-same p q same [] = refl
filter-same p q same (x ∷ xs) = rw (same x, filter-same p q same xs) refl

touch-moved : OrderDoesNotMatter → (xs ys all : List Ends) → IsPermutation xs ys
    → touch ys all ≡ touch xs all
unfolding touch
touch-moved order xs ys all moved =
    let both = order xs ys moved in
    let kept : filter (is_touched ys) (edges all) ≡ filter (is_touched xs) (edges all) =
    filter-same (is_touched ys) (is_touched xs) (λ c. sym (both.1 c)) (edges all) in
    omega (arith, both.0, ap length kept)

pub few_places-moved : OrderDoesNotMatter → (xs ys : List Ends) (s : InForce) → IsPermutation xs ys
    → few_places ys s ≡ few_places xs s
unfolding few_places
few_places-moved order [] [] s moved = refl
few_places-moved order [] (y ∷ ys) s moved =
    let alike : suc (length ys) ≡ 0 = (order [] (y ∷ ys) moved).0 in absurd (omega (arith, alike))
few_places-moved order (x ∷ xs) [] s moved =
    let alike : 0 ≡ suc (length xs) = (order (x ∷ xs) [] moved).0 in absurd (omega (arith, alike))
few_places-moved order (x ∷ xs) (y ∷ ys) s moved =
    ap (λ n. n + 1) (touch-moved order (x ∷ xs) (y ∷ ys) (statement_ranges s) moved)

pub bound-moved : OrderDoesNotMatter → (xs ys : List Ends) (s : InForce) → IsPermutation xs ys
    → bound ys s ≡ bound xs s
unfolding bound
bound-moved order xs ys s moved = ap (λ n. 256 * n) (few_places-moved order xs ys s moved)
