-- One pass over the cut points finds the lowest address of each line.
use Rattle.std.proofs.Common.{◌≡◌, ◌≢◌, ◌⊎◌, inl, inr, ℕ, zero, suc, ◌+◌, ◌-◌, ◌^◌, ◌<◌, ◌≤◌, Bool}
use Rattle.std.proofs.Common.{List, [], ◌∷◌, ◌++◌, length, map, get_or, set, drop, Option, Some}
use Rattle.std.proofs.Common.{None, Ok, Err, slice_get, refl, sym, ap, ap₂, subst, ◌∙◌, arith}
use Rattle.std.specs.List.Sorted.{IsBinarySearchResult, IsStrictlyIncreasing}
use Rattle.std.specs.Ordering.{nat_cmp}
use Rattle.std.proofs.lemmas.List.Sorted.{searched}
use Rattle.std.proofs.lemmas.Bool.{cases_eq, cases_lt, eq-eqb, ne_eqb}
use Rattle.geo_addr.specs.Ranges.{AreCuts, Ends, IsCut, NoCut, ground_first, range_of_block}
use Rattle.geo_terms.specs.SourceForm.{FeedParts}
use Rattle.geo_terms.specs.Sources.{InForce, feed_of, references}
use Rattle.geo_terms.specs.declared.statement.Entry.{Entry}
use Rattle.geo_terms.specs.declared.statement.Reference.{Reference}
use Rattle.trie_core.proofs.StoreLemmas.{Contains-slice_get, slice_get-Contains}
use Rattle.check_census.specs.Sweep.{all_addresses, v4_range, fixed_ranges, hearing_ranges, marked}
use Rattle.check_census.specs.Sweep.{sweep, swept}
use Rattle.check_census.specs.Verdicts.{first_heard, heard_line, is_heard, is_line, lowest, or_else}
use Rattle.check_census.specs.Verdicts.{some_if}
use Rattle.check_census.proofs.HearingLemmas.{heard_cases}
use Rattle.check_census.proofs.LowestLemmas.{lowest-up_to}

-- a member, by recursion
Mem : ℕ → List ℕ → Type 0
Mem c [] = ⊥
Mem c (x ∷ xs) = (c ≡ x) ⊎ Mem c xs

mem_at : (xs : List ℕ) (k c : ℕ) → slice_get xs k ≡ Some c → Mem c xs
unfolding Mem
mem_at [] k c is = absurd cc
mem_at (x ∷ xs) zero c is = inl (let e : Some x ≡ Some c = is in cc)
mem_at (x ∷ xs) (suc k) c is = inr (mem_at xs k c is)

at_mem : (xs : List ℕ) (c : ℕ) → Mem c xs → (k : ℕ) × (slice_get xs k ≡ Some c)
unfolding Mem
at_mem [] c m = absurd m
at_mem (x ∷ xs) c (inl e) = (0, ap Some (sym e))
at_mem (x ∷ xs) c (inr m) = let rest = at_mem xs c m in (suc rest.0, rest.1)

-- the points rise, from low on, below 2 ^ 128
Rises : ℕ → List ℕ → Type 0
Rises low [] = Unit {0}
Rises low (p ∷ ps) = (low ≤ p) × (p < 2 ^ 128) × Rises (p + 1) ps

rises_from : (low : ℕ) (ps : List ℕ) → IsStrictlyIncreasing ps → ((c : ℕ) → Mem c ps → c < 2 ^ 128)
    → ((p : ℕ) → slice_get ps 0 ≡ Some p → low ≤ p) → Rises low ps
unfolding Rises Mem
rises_from low [] up within head = tt
rises_from low (p ∷ []) up within head = (head p refl, within p (inl refl), tt)
rises_from low (p ∷ q ∷ qs) up within head =
    let step : p < q = up 0 (omega arith) in (
      head p refl,
      within p (inl refl),
      rises_from (p + 1) (q ∷ qs) (λ k below.
          (let next_index : suc k + 1 ≡ suc (k + 1) = omega arith in
          subst (λ j. get_or (q ∷ qs) k 0 < get_or (p ∷ q ∷ qs) j 0) next_index
          (up (suc k) (omega arith)))) (λ c m. within c (inr m))
          (λ r is. let e : Some q ≡ Some r = is in let same : q ≡ r = cc in omega arith),
    )

-- the point that comes next, or the end
abbrev next : List ℕ → ℕ
next [] = 2 ^ 128
next (p ∷ ps) = p

mem_above : (low : ℕ) (ps : List ℕ) (c : ℕ) → Rises low ps → Mem c ps → low ≤ c
unfolding Rises Mem
mem_above low [] c up m = absurd m
mem_above low (p ∷ ps) c up (inl e) = omega (arith, up.0)
mem_above low (p ∷ ps) c up (inr m) = let rest = mem_above (p + 1) ps c up.2 m in
    omega (arith, up.0)

next_above : (low : ℕ) (ps : List ℕ) → Rises low ps → low ≤ 2 ^ 128 → low ≤ next ps
unfolding Rises
next_above low [] up le = le
next_above low (p ∷ ps) up le = up.0

next_least : (low : ℕ) (ps : List ℕ) (c : ℕ) → Rises low ps → Mem c ps → next ps ≤ c
unfolding Rises Mem
next_least low [] c up m = absurd m
next_least low (p ∷ ps) c up (inl e) = omega arith
next_least low (p ∷ ps) c up (inr m) = let rest = mem_above (p + 1) ps c up.2 m in omega arith

next_within : (low : ℕ) (ps : List ℕ) → Rises low ps → next ps ≤ 2 ^ 128
unfolding Rises
next_within low [] up = omega arith
next_within low (p ∷ ps) up = omega (arith, up.1)

module _ (ranges : List Ends) where
  -- the cut points from low on are among the points
  Covers : ℕ → List ℕ → Type 0
  Covers low ps = (c : ℕ) → low ≤ c → c < 2 ^ 128 → IsCut ranges c → Mem c ps

  -- no cut point lies between a point and the next
  Tight : List ℕ → Type 0
  Tight [] = Unit {0}
  Tight (p ∷ ps) = (p < next ps) × ((a : ℕ) → p < a → a < next ps → NoCut ranges p a) × Tight ps

  tight : (low : ℕ) (ps : List ℕ) → Rises low ps → Covers low ps → Tight ps
  unfolding Rises Covers Tight Mem
  tight low [] up covers = tt
  tight low (p ∷ ps) up covers =
      let above = next_above (p + 1) ps up.2 (omega (arith, up.1)) in
      let within = next_within (p + 1) ps up.2 in
      let first : low ≤ p = up.0 in
      let later : (c : ℕ) → p < c → c < 2 ^ 128 → IsCut ranges c → Mem c ps =
      λ c lt small cut. elim (covers c (omega arith) small cut)
      [ inl e ↦ absurd (omega arith) | inr m ↦ m ] in (
        omega arith,
        λ a lt below c low_c high_c cut.
            (let least = next_least (p + 1) ps c up.2 (later c low_c (omega arith) cut) in
            absurd (omega arith)),
        tight (p + 1) ps up.2 (λ c le small cut. later c (omega arith) small cut),
      )

map_same : {A B : Type 0} (f g : A → B) (xs : List A) → ((x : A) → f x ≡ g x) → map f xs ≡ map g xs
map_same f g [] same = refl
map_same f g (x ∷ xs) same = ap₂ (λ y ys. y ∷ ys) (same x) (map_same f g xs same)

marked_map : (heard : Option ℕ) (at : ℕ) (h : ℕ → Option ℕ) (ls : List ℕ)
    → marked heard at ls (map h ls) ≡ map (λ l. or_else (h l) (some_if (is_line l heard) at)) ls
marked_map heard at h [] = refl
marked_map heard at h (l ∷ ls) =
    ap (λ rest. or_else (h l) (some_if (is_line l heard) at) ∷ rest) (marked_map heard at h ls)

module _ (s : InForce) (f : FeedParts) (there : feed_of s f.url ≡ Some f) (ls : List ℕ) where
  firsts_at : ℕ → List (Option ℕ)
  firsts_at n = map (λ l. lowest (is_heard s f.url l) n) ls

  one_step : (p q : ℕ) → p < q → ((a : ℕ) → p < a → a < q → NoCut (hearing_ranges s f.entries) p a)
      → marked (heard_line s f.url p) p ls (firsts_at p) ≡ firsts_at q
  unfolding firsts_at
  one_step p q lt none =
      marked_map (heard_line s f.url p) p (λ l. lowest (is_heard s f.url l) p) ls
      ∙ map_same (λ l. or_else (lowest (is_heard s f.url l) p) (some_if (is_heard s f.url l p) p))
      (λ l. lowest (is_heard s f.url l) q) ls
      (λ l. sym (lowest-up_to (is_heard s f.url l) p q lt (λ a low high.
      elim (heard_cases s f there p a low (none a low high)) [
        | inl same ↦ inl (ap (is_line l) same)
        | inr lower ↦ inr (lower.0, lower.1, ap (is_line l) lower.2)
      ])))

  all_steps : (ps : List ℕ) (fs : List (Option ℕ)) → Tight (hearing_ranges s f.entries) ps
      → fs ≡ firsts_at (next ps) → sweep s f.url ls fs ps ≡ firsts_at (2 ^ 128)
  unfolding Tight
  all_steps [] fs h is = is
  all_steps (p ∷ ps) fs h is =
      all_steps ps (marked (heard_line s f.url p) p ls fs) h.2
      (ap (marked (heard_line s f.url p) p ls) is ∙ one_step p (next ps) h.0 h.1)

cut_later : (r : Ends) (rs : List Ends) (c : ℕ) → IsCut rs c → IsCut (r ∷ rs) c
cut_later r rs c (k, x, below, is, e) = (suc k, x, omega (arith, below), is, e)

cut_behind : (rs more : List Ends) (c : ℕ) → IsCut more c → IsCut (rs ++ more) c
cut_behind [] more c cut = cut
cut_behind (r ∷ rs) more c cut = cut_later r (rs ++ more) c (cut_behind rs more c cut)

start_is_cut : IsCut fixed_ranges 0
unfolding ground_first
start_is_cut = (0, v4_range, omega arith, refl, inl refl)

head_is : (ps : List ℕ) → Rises 0 ps → Mem 0 ps → 0 ≡ next ps
head_is ps up m = let least = next_least 0 ps 0 up m in omega arith

-- no line has an address yet
abbrev no_address : ℕ → Option ℕ
no_address l = None

none_yet : (g : ℕ → ℕ → Bool) (ls : List ℕ) (n : ℕ) → 0 ≡ n
    → map no_address ls ≡ map (λ l. lowest (g l) n) ls
unfolding lowest
none_yet g ls n e = map_same no_address (λ l. lowest (g l) n) ls
    (λ l. sym (ap (lowest (g l)) (sym e) ∙ none (g l)))
  where
    none : (h : ℕ → Bool) → lowest h 0 ≡ None
    none h = refl

-- the pass over all cut points
pub swept_all : (s : InForce) (f : FeedParts) → feed_of s f.url ≡ Some f → (ls ps : List ℕ)
    → AreCuts (hearing_ranges s f.entries) all_addresses ps → IsStrictlyIncreasing ps
    → swept s f.url ls ps ≡ map (first_heard s f.url) ls
unfolding Covers firsts_at
swept_all s f there ls ps cuts up =
    let small : (c : ℕ) → Mem c ps → c < 2 ^ 128 =
    λ c m. (let at = at_mem ps c m in let w =
    ((cuts c).0 (Contains-slice_get ps at.0 c at.1)).1.1 in omega arith) in
    let rises : Rises 0 ps = rises_from 0 ps up small (λ p is. omega arith) in
    let covers : Covers (hearing_ranges s f.entries) 0 ps =
    λ c le lt cut. (let at = slice_get-Contains ps c ((cuts c).1 (cut, (le, omega arith))) in
    mem_at ps at.0 c at.1) in
    let start : IsCut (hearing_ranges s f.entries) 0 =
    cut_behind (map (λ (r : Reference). r.range) (references s))
    (map (λ (e : Entry). range_of_block e.block) f.entries ++ fixed_ranges) 0
    (cut_behind (map (λ (e : Entry). range_of_block e.block) f.entries) fixed_ranges 0 start_is_cut)
    in
    all_steps s f there ls ps (map no_address ls)
    (tight (hearing_ranges s f.entries) 0 ps rises covers)
    (none_yet (is_heard s f.url) ls (next ps)
    (head_is ps rises (covers 0 (omega arith) (omega arith) start)))

pub map_map : {A B C : Type 0} (g : B → C) (h : A → B) (xs : List A)
    → map g (map h xs) ≡ map (λ x. g (h x)) xs
map_map g h [] = refl
map_map g h (x ∷ xs) = ap (λ ys. g (h x) ∷ ys) (map_map g h xs)

-- marking by a halving

pub length-marked : (heard : Option ℕ) (at : ℕ) (ls : List ℕ) (fs : List (Option ℕ))
    → length fs ≡ length ls → length (marked heard at ls fs) ≡ length ls
length-marked heard at [] fs long = refl
length-marked heard at (l ∷ ls) [] long = absurd (omega arith)
length-marked heard at (l ∷ ls) (x ∷ fs) long = ap suc (length-marked heard at ls fs (omega arith))

or_else-none : (x : Option ℕ) → or_else x None ≡ x
or_else-none None = refl
or_else-none (Some z) = refl

pub marked_none : (at : ℕ) (ls : List ℕ) (fs : List (Option ℕ)) → length fs ≡ length ls
    → marked None at ls fs ≡ fs
marked_none at [] [] long = refl
marked_none at [] (x ∷ fs) long = absurd (omega arith)
marked_none at (l ∷ ls) [] long = absurd (omega arith)
marked_none at (l ∷ ls) (x ∷ fs) long =
    ap₂ (λ y ys. y ∷ ys) (or_else-none x) (marked_none at ls fs (omega arith))

unmarked : (x : Option ℕ) (l line at : ℕ) → (line ≡ l → ⊥)
    → or_else x (some_if (is_line l (Some line)) at) ≡ x
unmarked x l line at ne = ap (λ b. or_else x (some_if b at)) (ne_eqb line l ne) ∙ or_else-none x

pub marked_absent : (line at : ℕ) (ls : List ℕ) (fs : List (Option ℕ)) → length fs ≡ length ls
    → ((k : ℕ) → k < length ls → line ≡ get_or ls k 0 → ⊥) → marked (Some line) at ls fs ≡ fs
marked_absent line at [] [] long none = refl
marked_absent line at [] (x ∷ fs) long none = absurd (omega arith)
marked_absent line at (l ∷ ls) [] long none = absurd (omega arith)
marked_absent line at (l ∷ ls) (x ∷ fs) long none =
    ap₂ (λ y ys. y ∷ ys) (unmarked x l line at (none 0 (omega arith)))
    (marked_absent line at ls fs (omega arith) (λ k lt. none (suc k) (omega arith)))

pub marked_found : (line at : ℕ) (ls : List ℕ) (fs : List (Option ℕ)) (i : ℕ)
    → length fs ≡ length ls → i < length ls → get_or ls i 0 ≡ line
    → ((k : ℕ) → k < length ls → k ≢ i → line ≡ get_or ls k 0 → ⊥)
    → marked (Some line) at ls fs ≡ set fs i (or_else (get_or fs i None) (Some at))
marked_found line at [] fs i long lt is other = absurd (omega arith)
marked_found line at (l ∷ ls) [] i long lt is other = absurd (omega arith)
marked_found line at (l ∷ ls) (x ∷ fs) zero long lt is other =
    ap₂ (λ y ys. y ∷ ys) (ap (λ b. or_else x (some_if b at)) (eq-eqb line l (sym is)))
    (marked_absent line at ls fs (omega arith)
    (λ k below. other (suc k) (omega arith) (omega arith)))
marked_found line at (l ∷ ls) (x ∷ fs) (suc i) long lt is other =
    ap₂ (λ y ys. y ∷ ys) (unmarked x l line at (other 0 (omega arith) (omega arith)))
    (marked_found line at ls fs i (omega arith) (omega arith) is
    (λ k below ne. other (suc k) (omega arith) (omega arith)))

increasing_far : (xs : List ℕ) → IsStrictlyIncreasing xs → (i n : ℕ) → i + suc n < length xs
    → get_or xs i 0 < get_or xs (i + suc n) 0
increasing_far xs up i zero below = up i below
increasing_far xs up i (suc n) below =
    let rest = increasing_far xs up i n (omega arith) in
    let next_index : (i + suc n) + 1 ≡ i + suc (suc n) = omega arith in
    let step = up (i + suc n) (omega arith) in
    let same : get_or xs ((i + suc n) + 1) 0 ≡ get_or xs (i + suc (suc n)) 0 =
    ap (λ k. get_or xs k 0) next_index in
    omega arith

-- rising numbers at two indexes
pub increasing_less : (xs : List ℕ) → IsStrictlyIncreasing xs → (i j : ℕ) → i < j → j < length xs
    → get_or xs i 0 < get_or xs j 0
increasing_less xs up i j lt below =
    let sum : i + suc (j - i - 1) ≡ j = omega arith in
    let far = increasing_far xs up i (j - i - 1) (omega arith) in
    let same : get_or xs (i + suc (j - i - 1)) 0 ≡ get_or xs j 0 = ap (λ k. get_or xs k 0) sum in
    omega arith

increasing_le : (xs : List ℕ) → IsStrictlyIncreasing xs → (i j : ℕ) → i ≤ j → j < length xs
    → get_or xs i 0 ≤ get_or xs j 0
increasing_le xs up i j le below =
    elim (cases_eq i j) [
      | inl e ↦ let same : get_or xs i 0 ≡ get_or xs j 0 = ap (λ k. get_or xs k 0) e in omega arith
      | inr ne ↦ let less = increasing_less xs up i j (omega arith) below in omega arith
    ]

pub absent_by : (ls : List ℕ) → IsStrictlyIncreasing ls → (line i : ℕ)
    → IsBinarySearchResult (λ y. nat_cmp y line) ls (Err i) → (k : ℕ) → k < length ls
    → line ≡ get_or ls k 0 → ⊥
absent_by ls up line i found k below is =
    let at = searched ls line (Err i) found (increasing_le ls up) in
    elim (cases_lt k i) [
      | inl lt ↦ let less = at.1 k lt in omega arith
      | inr ge ↦ let more = at.2 k ge below in omega arith
    ]

pub found_by : (ls : List ℕ) → IsStrictlyIncreasing ls → (line i : ℕ)
    → IsBinarySearchResult (λ y. nat_cmp y line) ls (Ok i)
    → (i < length ls) × (get_or ls i 0 ≡ line)
found_by ls up line i found = searched ls line (Ok i) found (increasing_le ls up)

other_lines : (ls : List ℕ) → IsStrictlyIncreasing ls → (line i : ℕ) → i < length ls
    → get_or ls i 0 ≡ line → (k : ℕ) → k < length ls → k ≢ i → line ≡ get_or ls k 0 → ⊥
other_lines ls up line i lt is k below ne same =
    elim (cases_lt k i) [
      | inl low ↦ let less = increasing_less ls up k i low lt in omega arith
      | inr high ↦ let less = increasing_less ls up i k (omega arith) below in omega arith
    ]

pub get_of : (xs : List (Option ℕ)) (i : ℕ) (x : Option ℕ) → slice_get xs i ≡ Some x
    → get_or xs i None ≡ x
get_of [] i x is = absurd cc
get_of (y ∷ ys) zero x is = let e : Some y ≡ Some x = is in cc
get_of (y ∷ ys) (suc i) x is = get_of ys i x is

pub marked_by : (heard : Option ℕ) (line at i : ℕ) (ls : List ℕ) (fs : List (Option ℕ))
    (first new : Option ℕ) → IsStrictlyIncreasing ls → length fs ≡ length ls → heard ≡ Some line
    → IsBinarySearchResult (λ y. nat_cmp y line) ls (Ok i) → slice_get fs i ≡ Some first
    → new ≡ or_else first (Some at) → set fs i new ≡ marked heard at ls fs
marked_by heard line at i ls fs first new up long is found old new_is =
    let own = found_by ls up line i found in
    ap (set fs i) (new_is ∙ ap (λ x. or_else x (Some at)) (sym (get_of fs i first old)))
    ∙ sym (marked_found line at ls fs i long own.0 own.1
    (other_lines ls up line i own.0 own.1)) ∙ ap (λ h. marked h at ls fs) (sym is)

pub unmarked_by : (heard : Option ℕ) (line at i : ℕ) (ls : List ℕ) (fs : List (Option ℕ))
    → IsStrictlyIncreasing ls → length fs ≡ length ls → heard ≡ Some line
    → IsBinarySearchResult (λ y. nat_cmp y line) ls (Err i) → fs ≡ marked heard at ls fs
unmarked_by heard line at i ls fs up long is found =
    sym (marked_absent line at ls fs long (absent_by ls up line i found))
    ∙ ap (λ h. marked h at ls fs) (sym is)

drop_here : (xs : List ℕ) (i : ℕ) → i < length xs → drop i xs ≡ get_or xs i 0 ∷ drop (i + 1) xs
drop_here [] i lt = absurd (omega arith)
drop_here (x ∷ xs) zero lt = refl
drop_here (x ∷ xs) (suc i) lt =
    let next : suc i + 1 ≡ suc (i + 1) = omega arith in
    drop_here xs i (omega arith) ∙ ap (λ k. get_or xs i 0 ∷ drop k (x ∷ xs)) (sym next)

pub sweep_step : (s : InForce) (url ls ps : List ℕ) (i : ℕ) (fs new : List (Option ℕ))
    (heard : Option ℕ) (whole_is : List (Option ℕ)) → i < length ps
    → heard ≡ heard_line s url (get_or ps i 0)
    → new ≡ marked heard (get_or ps i 0) ls fs
    → (length fs ≡ length ls) × (sweep s url ls fs (drop i ps) ≡ whole_is)
    → (length new ≡ length ls) × (sweep s url ls new (drop (i + 1) ps) ≡ whole_is)
sweep_step s url ls ps i fs new heard whole_is lt heard_is new_is so_far = (
  ap length new_is ∙ length-marked heard (get_or ps i 0) ls fs so_far.0,
  ap (λ xs. sweep s url ls xs (drop (i + 1) ps))
      (new_is ∙ ap (λ h. marked h (get_or ps i 0) ls fs) heard_is)
      ∙ ap (sweep s url ls fs) (sym (drop_here ps i lt)) ∙ so_far.1,
)
