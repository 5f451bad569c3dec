-- What is kept of numbered lines, when each line gives a statement, a fault or nothing:
-- it is in line order, and no line gives two things.
use Rattle.std.proofs.Common.{inl, inr, ◌≡◌, ◌≢◌, ℕ, zero, suc, ◌+◌, ◌<◌, ◌≤◌, ltb, Bool, true}
use Rattle.std.proofs.Common.{false, cond, ◌&&◌, All, AllPairs, List, [], ◌∷◌, ◌++◌, length, map}
use Rattle.std.proofs.Common.{filter, filter_map, get_or, Option, Some, None, refl, sym, ap, ◌∙◌}
use Rattle.std.proofs.Common.{subst, arith}
use Rattle.std.specs.Prelude.{option_to_list}
use Rattle.std.proofs.lemmas.List.{append-nil, append_assoc}
use Rattle.std.specs.List.{cons_option, enumerate_from, prefix_len}
use Rattle.std.specs.List.Sorted.{IsStrictlyIncreasing}
use Rattle.std.proofs.lemmas.Bool.{lt-ltb, le-ltb}
use Rattle.std.proofs.lemmas.List.Elements.{All-nil, All-cons}
use Rattle.geo_addr.specs.Ranges.{Ends}
use Rattle.geo_terms.specs.declared.place.Said.{Said}
use Rattle.csv_lines.specs.Repeats.{Rises, fate, fault_by, is_before, is_kept_by, kept}
use Rattle.csv_lines.specs.Repeats.{is_contradicted, is_repetition, merged, same_range}
use Rattle.csv_lines.specs.declared.fate.Fate.{Fate}
use Rattle.csv_lines.specs.declared.fate.Fate.TheVariants.{Kept, Repeats, Differs}
use Rattle.csv_lines.specs.declared.fate.RepeatRules.{RepeatRules}
use Rattle.geo_terms.specs.declared.note.LineNote.{LineNote}
use Rattle.csv_lines.proofs.FateLemmas.{Member, any_from, both, ends_itself, member_at}

pub rises_lower : (low high : ℕ) (xs : List ℕ) → low ≤ high → Rises high xs → Rises low xs
rises_lower low high [] le r = tt
rises_lower low high (x ∷ xs) le r = (omega (arith, r.0), r.1)

pub increasing : (low : ℕ) (xs : List ℕ) → Rises low xs → IsStrictlyIncreasing xs
increasing low [] r k below = absurd (omega arith)
increasing low (x ∷ []) r k below = absurd (omega arith)
increasing low (x ∷ y ∷ ys) r zero below = omega (arith, r.1.0)
increasing low (x ∷ y ∷ ys) r (suc k) below =
    let later = increasing (x + 1) (y ∷ ys) r.1 k (omega arith) in
    let adds : suc k + 1 ≡ suc (k + 1) = omega arith in
    rw adds later

module _ {X : Type 0} (line : X → ℕ) where
  pub rises_filter : (p : X → Bool) (low : ℕ) (xs : List X)
      → Rises low (map line xs) → Rises low (map line (filter p xs))
  rises_filter p low [] r = tt
  rises_filter p low (x ∷ xs) r = by (p x) (rises_filter p (line x + 1) xs r.1)
    where
      by : (b : Bool) → Rises (line x + 1) (map line (filter p xs))
          → Rises low (map line (cond b (x ∷ filter p xs) (filter p xs)))
      by true later = (r.0, later)
      by false later =
          rises_lower low (line x + 1) (map line (filter p xs)) (omega (arith, r.0)) later

  rises_at : (low : ℕ) (xs : List X) → Rises low (map line xs) → (j : ℕ) (d : X) → j < length xs
      → low ≤ line (get_or xs j d)
  rises_at low [] r j d l = absurd (omega arith)
  rises_at low (x ∷ xs) r zero d l = r.0
  rises_at low (x ∷ xs) r (suc j) d l =
      let later = rises_at (line x + 1) xs r.1 j d (omega arith) in
      omega (arith, r.0)

  pub rises_between : (low : ℕ) (xs : List X) → Rises low (map line xs) → (i j : ℕ) (d : X) → i < j
      → j < length xs → line (get_or xs i d) < line (get_or xs j d)
  rises_between low [] r i j d b l = absurd (omega arith)
  rises_between low (x ∷ xs) r i zero d b l = absurd (omega arith)
  rises_between low (x ∷ xs) r zero (suc j) d b l =
      let later = rises_at (line x + 1) xs r.1 j d (omega arith) in omega arith
  rises_between low (x ∷ xs) r (suc i) (suc j) d b l =
      rises_between (line x + 1) xs r.1 i j d (omega arith) (omega arith)

pub member_filter : {X : Type 0} (p : X → Bool) (xs : List X) (x : X) → Member (filter p xs) x
    → Member xs x × (p x ≡ true)
member_filter p [] x m = absurd m
member_filter p (y ∷ ys) x m = by (p y) refl m (member_filter p ys x)
  where
    by : (b : Bool) → p y ≡ b → Member (cond b (y ∷ filter p ys) (filter p ys)) x
        → (Member (filter p ys) x → Member ys x × (p x ≡ true)) → Member (y ∷ ys) x × (p x ≡ true)
    by true e (inl is) more = (inl is, sym (ap p is) ∙ e)
    by true e (inr m) more = let (n, f) = more m in (inr n, f)
    by false e m more = let (n, f) = more m in (inr n, f)

pub kept_is : (f : Fate) → is_kept_by f ≡ true → f ≡ Kept
kept_is Kept e = refl
kept_is Repeats e = absurd cc
kept_is Differs e = absurd cc

module _ {X : Type 0} (line : X → ℕ) (range : X → Ends) (said : X → Said) where
  repeats_not_kept : (all : List X) (x : X) → is_repetition line range said all x ≡ true
      → fate line range said all x ≡ Kept → ⊥
  unfolding fate
  repeats_not_kept all x again e = by (is_contradicted line range said all x) (rw again at e)
    where
      by : (b : Bool) → cond b Differs Repeats ≡ Kept → ⊥
      by true e = absurd cc
      by false e = absurd cc

  -- the lines that speak have distinct ranges
  pub kept_apart : (low : ℕ) (all : List X)
      → Rises low (map line all) → AllPairs (λ x y. range x ≢ range y) (kept line range said all)
  kept_apart low all r i j d before within same =
      let ks = kept line range said all in
      let x = get_or ks i d in
      let y = get_or ks j d in
      let (x_in, x_kept) = member_filter (λ x. is_kept_by (fate line range said all x)) all x
      (member_at ks i x (omega arith) (get_or_at ks i d (omega arith))) in
      let (y_in, y_kept) = member_filter (λ x. is_kept_by (fate line range said all x)) all y
      (member_at ks j y within (get_or_at ks j d within)) in
      let lower = rises_between line low ks (rises_filter line
      (λ x. is_kept_by (fate line range said all x)) low all r) i j d before within in
      let ranges : same_range line range said x y ≡ true = rw same (ends_itself (range y)) in
      repeats_not_kept all y
      (any_from (λ z. same_range line range said z y && ltb (line z) (line y)) all x x_in
      (both (same_range line range said x y) (ltb (line x) (line y)) ranges
      (lt-ltb (line x) (line y) lower))) (kept_is (fate line range said all y) y_kept)
    where
      get_or_at : {Y : Type 0} (ys : List Y) (i : ℕ) (d : Y) → i < length ys
          → get_or ys i d ≡ get_or ys i (get_or ys i d)
      get_or_at [] i d l = absurd (omega arith)
      get_or_at (y ∷ ys) zero d l = refl
      get_or_at (y ∷ ys) (suc i) d l = get_or_at ys i d (omega arith)

-- each numbered line gives a statement (`acc`), or else may give a fault (`bad`)
module _ {A X : Type 0} (acc : ℕ × A → Option X) (bad : ℕ × A → Option LineNote)
    (line : X → ℕ) (acc_line : (p : ℕ × A) (x : X) → acc p ≡ Some x → line x ≡ p.0)
    (bad_line : (p : ℕ × A) (f : LineNote) → bad p ≡ Some f → f.line ≡ p.0) where
  acc_one : (n : ℕ) (a : A) (more : List X) (o : Option X) → acc (n, a) ≡ o
      → Rises (n + 1) (map line more) → Rises n (map line (cons_option o more))
  acc_one n a more None e r = rises_lower n (n + 1) (map line more) (omega arith) r
  acc_one n a more (Some x) e r =
      let is : line x ≡ n = acc_line (n, a) x e in
      (omega arith, subst (λ (m : ℕ). Rises (m + 1) (map line more)) (sym is) r)

  -- the statements are in line order
  pub acc_rises : (n : ℕ) (xs : List A) → Rises n (map line (filter_map acc (enumerate_from n xs)))
  acc_rises n [] = tt
  acc_rises n (a ∷ xs) =
      acc_one n a (filter_map acc (enumerate_from (n + 1) xs)) (acc (n, a)) refl
      (acc_rises (n + 1) xs)

  bad_one : (n : ℕ) (a : A) (more : List LineNote) (o : Option LineNote) → bad (n, a) ≡ o
      → Rises (n + 1) (map (λ f. f.line) more) → Rises n (map (λ f. f.line) (cons_option o more))
  bad_one n a more None e r = rises_lower n (n + 1) (map (λ f. f.line) more) (omega arith) r
  bad_one n a more (Some f) e r =
      let is : f.line ≡ n = bad_line (n, a) f e in
      (omega arith, subst (λ (m : ℕ). Rises (m + 1) (map (λ f. f.line) more)) (sym is) r)

  bad_rises : (n : ℕ) (xs : List A)
      → Rises n (map (λ f. f.line) (filter_map bad (enumerate_from n xs)))
  bad_rises n [] = tt
  bad_rises n (a ∷ xs) =
      bad_one n a (filter_map bad (enumerate_from (n + 1) xs)) (bad (n, a)) refl
      (bad_rises (n + 1) xs)

  module _ (late : X → Option LineNote)
      (late_line : (x : X) (f : LineNote) → late x ≡ Some f → f.line ≡ line x) where
    -- the fault of a line: that of its statement, or its own
    abbrev pub either : Option X → Option LineNote → Option LineNote
    either None own = own
    either (Some x) own = late x

    abbrev lates : List X → List LineNote
    lates xs = filter_map late xs

    late_one : (low : ℕ) (x : X) (more : List LineNote) (o : Option LineNote)
        → low ≤ line x → late x ≡ o → Rises (line x + 1) (map (λ f. f.line) more)
        → Rises low (map (λ f. f.line) (cons_option o more))
    late_one low x more None le e r =
        rises_lower low (line x + 1) (map (λ f. f.line) more) (omega arith) r
    late_one low x more (Some f) le e r =
        let is : f.line ≡ line x = late_line x f e in
        (omega arith, subst (λ (m : ℕ). Rises (m + 1) (map (λ f. f.line) more)) (sym is) r)

    late_rises : (low : ℕ) (xs : List X)
        → Rises low (map line xs) → Rises low (map (λ f. f.line) (lates xs))
    late_rises low [] r = tt
    late_rises low (x ∷ xs) r =
        late_one low x (lates xs) (late x) r.0 refl (late_rises (line x + 1) xs r.1)

    -- an early fault goes first where the late ones come after it
    early_first : (n : ℕ) (f : LineNote) (later early : List LineNote)
        → f.line ≡ n → Rises (n + 1) (map (λ f. f.line) later)
        → merged later (f ∷ early) ≡ f ∷ merged later early
    early_first n f [] early is r = refl
    early_first n f (g ∷ later) early is r =
        let count = prefix_len (is_before g.line) early in
        let next : 1 + count ≡ suc count = omega arith in
        rw (lt-ltb f.line g.line (omega (arith, r.0))) (rw next refl)

    -- a late fault goes first where the early ones come after it
    late_first : (n : ℕ) (g : LineNote) (later early : List LineNote)
        → g.line ≡ n → Rises (n + 1) (map (λ f. f.line) early)
        → merged (g ∷ later) early ≡ g ∷ merged later early
    late_first n g later [] is r = refl
    late_first n g later (f ∷ early) is r = rw (le-ltb f.line g.line (omega (arith, r.0))) refl

    merged_one : (n : ℕ) (a : A) (accs : List X) (bads whole : List LineNote) → (o : Option X)
        → acc (n, a) ≡ o → (b : Option LineNote) → bad (n, a) ≡ b
        → ((x : X) → o ≡ Some x → b ≡ None)
        → Rises (n + 1) (map line accs)
        → Rises (n + 1) (map (λ f. f.line) bads) → merged (lates accs) bads ≡ whole
        → merged (lates (cons_option o accs)) (cons_option b bads) ≡ cons_option (either o b) whole
    merged_one n a accs bads whole None e None k apart ra rb is = is
    merged_one n a accs bads whole None e (Some f) k apart ra rb is =
        early_first n f (lates accs) bads (bad_line (n, a) f k) (late_rises (n + 1) accs ra)
        ∙ ap (λ t. f ∷ t) is
    merged_one n a accs bads whole (Some x) e (Some f) k apart ra rb is =
        absurd (let g = apart x refl in cc)
    merged_one n a accs bads whole (Some x) e None k apart ra rb is = by (late x) refl
      where
        by : (l : Option LineNote) → late x ≡ l
            → merged (cons_option l (lates accs)) bads ≡ cons_option l whole
        by None t = is
        by (Some g) t =
            late_first n g (lates accs) bads (late_line x g t ∙ acc_line (n, a) x e) rb
            ∙ ap (λ t. g ∷ t) is

    -- the faults of statements and the others, merged, are those of the lines
    pub merged_is : ((p : ℕ × A) (x : X) → acc p ≡ Some x → bad p ≡ None) → (n : ℕ) (xs : List A)
        → merged (lates (filter_map acc (enumerate_from n xs))) (filter_map bad
        (enumerate_from n xs)) ≡ filter_map (λ p. either (acc p) (bad p)) (enumerate_from n xs)
    merged_is apart n [] = refl
    merged_is apart n (a ∷ xs) =
        merged_one n a
        (filter_map acc (enumerate_from (n + 1) xs)) (filter_map bad (enumerate_from (n + 1) xs))
        (filter_map (λ p. either (acc p) (bad p)) (enumerate_from (n + 1) xs))
        (acc (n, a)) refl (bad (n, a)) refl (apart (n, a)) (acc_rises (n + 1) xs)
        (bad_rises (n + 1) xs) (merged_is apart (n + 1) xs)

-- what a list of kept things was kept from
pub kept_from : {P Y : Type 0} (h : P → Option Y) (ps : List P) (y : Y) → Member (filter_map h ps) y
    → (p : P) × Member ps p × (h p ≡ Some y)
kept_from h [] y m = absurd m
kept_from h (p ∷ ps) y m = by (h p) refl m (kept_from h ps y)
  where
    by : (o : Option _) → h p ≡ o → Member (cons_option o (filter_map h ps)) y
        → (Member (filter_map h ps) y → (q : _) × Member ps q × (h q ≡ Some y))
        → (q : _) × Member (p ∷ ps) q × (h q ≡ Some y)
    by None e m more = let (q, n, f) = more m in (q, inr n, f)
    by (Some z) e (inl is) more = (p, inl refl, e ∙ ap Some is)
    by (Some z) e (inr m) more = let (q, n, f) = more m in (q, inr n, f)

from_number : {A : Type 0} (n : ℕ) (xs : List A) (p : ℕ × A)
    → Member (enumerate_from n xs) p → n ≤ p.0
from_number n [] p m = absurd m
from_number n (a ∷ xs) p (inl is) = let e : n ≡ p.0 = ap (λ q. q.0) is in omega arith
from_number n (a ∷ xs) p (inr m) = let later = from_number (n + 1) xs p m in omega arith

-- two numbered lines with one number are one line
pub same_number : {A : Type 0} (n : ℕ) (xs : List A) (p q : ℕ × A) → Member (enumerate_from n xs) p
    → Member (enumerate_from n xs) q → p.0 ≡ q.0 → p ≡ q
same_number n [] p q m k e = absurd m
same_number n (a ∷ xs) p q (inl is) (inl it) e = sym is ∙ it
same_number n (a ∷ xs) p q (inl is) (inr k) e =
    absurd (let at : n ≡ p.0 = ap (λ q. q.0) is in let later = from_number (n + 1) xs q k in
    omega arith)
same_number n (a ∷ xs) p q (inr m) (inl it) e =
    absurd (let at : n ≡ q.0 = ap (λ q. q.0) it in let later = from_number (n + 1) xs p m in
    omega arith)
same_number n (a ∷ xs) p q (inr m) (inr k) e = same_number (n + 1) xs p q m k e

pub fault_line : (rules : RepeatRules) (at : ℕ) (t : Fate) (f : LineNote)
    → fault_by rules at t ≡ Some f → f.line ≡ at
fault_line rules at Kept f e = absurd cc
fault_line rules at Repeats f e = cc
fault_line rules at Differs f e = cc

pub filter_map_agree : {X Y : Type 0} (h k : X → Option Y)
    → ((x : X) → h x ≡ k x) → (xs : List X) → filter_map h xs ≡ filter_map k xs
filter_map_agree h k same [] = refl
filter_map_agree h k same (x ∷ xs) = rw (same x, filter_map_agree h k same xs) refl

pub all_members : {X : Type 0} (P : X → Type 0) (xs : List X)
    → ((x : X) → Member xs x → P x) → All P xs
all_members P [] f = All-nil P
all_members P (x ∷ xs) f = All-cons P x xs (f x (inl refl)) (all_members P xs (λ y m. f y (inr m)))

-- one more thing of a line, and those of the lines after it
pub one_more : {X : Type 0} (done : List X) (o : Option X) (later : List X)
    → (done ++ option_to_list o) ++ later ≡ done ++ cons_option o later
one_more done None later = ap (λ t. t ++ later) (append-nil done)
one_more done (Some x) later = append_assoc done (x ∷ []) later
