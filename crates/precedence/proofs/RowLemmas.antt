-- The row at an index among those of several files, by where the rows of each file start.
use Rattle.std.proofs.Common.{◌≡◌, ◌∙◌, ℕ, zero, suc, ◌+◌, ◌-◌, ◌<◌, ◌≤◌, ◌++◌, List}
use Rattle.std.proofs.Common.{[], ◌∷◌, append-nil, append_assoc, get_or, length}
use Rattle.std.proofs.Common.{refl, sym, ap, arith}
use Rattle.std.proofs.Common.{slice_get, subst}
use Rattle.std.specs.List.{flat_map}
use Rattle.std.specs.List.Sorted.{IsNonDecreasing, IsPartitionPoint}
use Rattle.std.specs.Option.{option_and_then}
use Rattle.geo_terms.specs.DelegationForm.{DelegationParts}
use Rattle.geo_terms.specs.SourceForm.{StatsParts}
use Rattle.precedence.specs.Delegations.{starts_from}

get_here : {N : Type 0} (xs ys : List N) (n : ℕ) → n < length xs
    → slice_get (xs ++ ys) n ≡ slice_get xs n
get_here [] ys n below = absurd (omega arith)
get_here (x ∷ xs) ys zero below = refl
get_here (x ∷ xs) ys (suc n) below = get_here xs ys n (omega arith)

get_there : {N : Type 0} (xs ys : List N) (n : ℕ) → length xs ≤ n
    → slice_get (xs ++ ys) n ≡ slice_get ys (n - length xs)
get_there [] ys n past = let e : n - 0 ≡ n = omega arith in rw e refl
get_there (x ∷ xs) ys zero past = absurd (omega arith)
get_there (x ∷ xs) ys (suc n) past =
    let e : suc n - length (x ∷ xs) ≡ n - length xs = omega arith in
    rw e (get_there xs ys n (omega arith))

abbrev pub all_rows : List StatsParts → List DelegationParts
all_rows ts = flat_map (λ (t : StatsParts). t.rows) ts

-- no file starts before the one at hand
starts_above : (ts : List StatsParts) (n k d : ℕ) → k < length (starts_from n ts)
    → n ≤ get_or (starts_from n ts) k d
starts_above [] n k d below = absurd (omega arith)
starts_above (t ∷ ts) n zero d below = omega arith
starts_above (t ∷ ts) n (suc k) d below =
    let later = starts_above ts (n + length t.rows) k d (omega arith) in omega arith

pub starts_rise : (ts : List StatsParts) (n : ℕ)
    → IsNonDecreasing (starts_from n ts)
starts_rise [] n i j d le below = absurd (omega arith)
starts_rise (t ∷ ts) n zero j d le below = starts_above (t ∷ ts) n j d below
starts_rise (t ∷ ts) n (suc i) zero d le below = absurd (omega arith)
starts_rise (t ∷ ts) n (suc i) (suc j) d le below =
    starts_rise ts (n + length t.rows) i j d (omega arith) (omega arith)

-- this many files start at or before an index
abbrev pub HaveBegun : ℕ → List ℕ → ℕ → Type 0
HaveBegun index starts begun =
    IsPartitionPoint (λ (start : ℕ). start ≤ index) (λ (start : ℕ). index < start) starts begun

-- the row is in the last file that has begun
row_found_from : (ts : List StatsParts) (n at index : ℕ) → suc at ≤ length (starts_from n ts)
    → HaveBegun index (starts_from n ts) (suc at)
    → option_and_then
    (λ (t : StatsParts). slice_get t.rows (index - get_or (starts_from n ts) at 0))
    (slice_get ts at) ≡ slice_get (all_rows ts) (index - n)
row_found_from [] n at index within have = absurd (omega arith)
row_found_from (t ∷ []) n zero index within have =
    ap (λ (ds : List DelegationParts). slice_get ds (index - n)) (sym (append-nil t.rows))
row_found_from (t ∷ u ∷ ts) n zero index within have =
    let start : n ≤ index =
    have.0 zero 0 (omega arith) (omega arith) in
    let end : index < n + length t.rows =
    have.1 1 0 (omega arith) (omega arith) in
    sym (get_here t.rows (all_rows (u ∷ ts)) (index - n) (omega arith))
row_found_from (t ∷ []) n (suc at) index within have = absurd (omega arith)
row_found_from (t ∷ u ∷ ts) n (suc at) index within have =
    let behind : n + length t.rows ≤ index =
    have.0 1 0 (omega arith) (omega arith) in
    let same : index - n - length t.rows ≡ index - (n + length t.rows) = omega arith in
    row_found_from (u ∷ ts) (n + length t.rows) at index (omega arith) (
      λ k d lt below. have.0 (suc k) d (omega arith) (omega arith),
      λ k d ge below. have.1 (suc k) d (omega arith) (omega arith),
    )
    ∙ ap (slice_get (all_rows (u ∷ ts))) (sym same)
    ∙ sym (get_there t.rows (all_rows (u ∷ ts)) (index - n) (omega arith))

pub row_found : (ts : List StatsParts) (starts : List ℕ) (begun at index : ℕ)
    → starts ≡ starts_from 0 ts → begun ≡ suc at → begun ≤ length starts
    → HaveBegun index starts begun
    → option_and_then (λ (t : StatsParts). slice_get t.rows (index - get_or starts at 0))
    (slice_get ts at) ≡ slice_get (all_rows ts) index
row_found ts starts begun at index are last within have =
    let zero : index - 0 ≡ index = omega arith in
    ap (λ (ns : List ℕ).
    option_and_then (λ (t : StatsParts). slice_get t.rows (index - get_or ns at 0))
    (slice_get ts at)) are
    ∙ row_found_from ts 0 at index
    (subst (λ (ns : List ℕ). suc at ≤ length ns) are
    (subst (λ (n : ℕ). n ≤ length starts) last within))
    (subst (λ (ns : List ℕ). HaveBegun index ns (suc at)) are
    (subst (HaveBegun index starts) last have))
    ∙ ap (slice_get (all_rows ts)) zero

-- where no file starts at or before an index there is no file, since the first one starts at 0
pub none_found : (ts : List StatsParts) (index : ℕ) → HaveBegun index (starts_from 0 ts) 0
    → ts ≡ []
none_found [] index have = refl
none_found (t ∷ ts) index have =
    let none : index < 0 = have.1 0 0 (omega arith) (omega arith) in absurd (omega arith)

-- the start of one file more
pub one_more_start : (starts new all : List ℕ) (n m : ℕ) (t : StatsParts)
    (left ts : List StatsParts) → left ≡ t ∷ ts → m ≡ n + length t.rows
    → starts ++ starts_from n left ≡ all
    → new ≡ starts ++ n ∷ [] → new ++ starts_from m ts ≡ all
one_more_start starts new all n m t left ts here is before put =
    ap (λ (ns : List ℕ). ns ++ starts_from m ts) put
    ∙ append_assoc starts (n ∷ []) (starts_from m ts)
    ∙ ap (λ (k : ℕ). starts ++ n ∷ starts_from k ts) is
    ∙ ap (λ (us : List StatsParts). starts ++ starts_from n us) (sym here) ∙ before
