-- Texts that are compared eight bytes at a time, and places by their texts in one.
use Rattle.std.proofs.Common.{◌≡◌, ℕ, ◌+◌, ◌-◌, ◌≤◌, ◌<◌, List, [], ◌∷◌, ◌++◌, length, take, drop}
use Rattle.std.proofs.Common.{◌&&◌, true, false, refl, ap, sym, ◌∙◌, arith, get_or, nat_eq, Bool}
use Rattle.std.proofs.Common.{subst, zero, suc}
use Rattle.std.proofs.lemmas.Bool.Decides.{nat_tests}
use Rattle.std.proofs.lemmas.List.{drop-drop, take-append-drop, length-take-le, length-drop}
use Rattle.std.proofs.lemmas.List.{get_or-drop}
use Rattle.std.proofs.lemmas.Nat.{le_bytes_8}
use Rattle.std.specs.Cmp.{nat_eq_equiv, both_ways, first_so, second_so}
use Rattle.std.specs.Int.{w64, from_le_bytes, to_le_bytes}
use Rattle.std.specs.Ordering.{is_eq}
use Rattle.std.specs.declared.cmp.Ordering.{Ordering}
use Rattle.std.specs.declared.cmp.Ordering.TheVariants.{Less, Equal, Greater}
use Rattle.geo_terms.proofs.NumberLemmas.{place_is_itself, text_told}
use Rattle.geo_terms.specs.JoinedTexts.{IsCutAt, parts_at}
use Rattle.geo_terms.specs.Numbers.{same_place}
use Rattle.geo_terms.specs.PlaceEquality.{same_parts}
use Rattle.geo_terms.specs.PlaceForm.{PlaceParts, same_text}

-- what both begin with makes no difference
same_past : (front x y : List ℕ) → same_text (front ++ x) (front ++ y) ≡ same_text x y
same_past [] x y = refl
same_past (b ∷ bs) x y =
    ap (λ (same : Bool). same && same_text (bs ++ x) (bs ++ y)) (nat_eq_equiv.refl b)
    ∙ same_past bs x y

abbrev pub AreBytes : List ℕ → Type 0
AreBytes text = (i : ℕ) → get_or text i 0 < 256

front_bytes : (n : ℕ) (text : List ℕ) → AreBytes text → AreBytes (take n text)
front_bytes zero text small i = omega arith
front_bytes (suc n) [] small i = omega arith
front_bytes (suc n) (b ∷ bs) small zero = small zero
front_bytes (suc n) (b ∷ bs) small (suc i) = front_bytes n bs (λ k. small (suc k)) i

pub later_bytes : (text rest : List ℕ) → AreBytes text → rest ≡ drop 8 text → AreBytes rest
later_bytes text rest small is =
    subst AreBytes (sym is)
    (λ i. subst (λ (b : ℕ). b < 256) (sym (get_or-drop 8 text i 0)) (small (8 + i)))

-- the first eight bytes, as their number tells them
told_front : (text front rest : List ℕ) (n : ℕ) → AreBytes text → front ≡ take 8 text
    → length rest + 8 ≡ length text → n ≡ from_le_bytes w64 front → to_le_bytes w64 n ≡ front
told_front text front rest n small is long read =
    le_bytes_8 front n
    (ap length is ∙ length-take-le 8 text (omega (arith, long)))
    (subst AreBytes (sym is) (front_bytes 8 text small)) read

-- nor does one number that the first eight bytes of both are
pub same_past_word : (x y front other rest others : List ℕ) (n m : ℕ)
    → AreBytes x → AreBytes y
    → (front ≡ take 8 x) × (rest ≡ drop 8 x) × (length rest + 8 ≡ length x)
    → (other ≡ take 8 y) × (others ≡ drop 8 y) × (length others + 8 ≡ length y)
    → n ≡ from_le_bytes w64 front → m ≡ from_le_bytes w64 other → n ≡ m
    → same_text rest others ≡ same_text x y
same_past_word x y front other rest others n m small tiny one two read said alike =
    let fronts : front ≡ other =
    sym (told_front x front rest n small one.0 one.2 read)
    ∙ ap (to_le_bytes w64) alike ∙ told_front y other others m tiny two.0 two.2 said in
    let first : front ++ rest ≡ x = rw (one.0, one.1) (take-append-drop 8 x) in
    let second : front ++ others ≡ y = rw (fronts, two.0, two.1) (take-append-drop 8 y) in
    sym (same_past front rest others)
    ∙ ap (λ (s : List ℕ). same_text s (front ++ others)) first
    ∙ ap (same_text x) second

-- the four texts one behind the other
joined : PlaceParts → List ℕ
joined p = p.country ++ (p.region ++ (p.city ++ p.postal))

rejoined : (text : List ℕ) (i j : ℕ) → i ≤ j
    → take (j - i) (drop i text) ++ drop j text ≡ drop i text
rejoined text i j below =
    let n : j ≡ i + (j - i) = omega (arith, below) in
    ap (λ (k : ℕ). take (j - i) (drop i text) ++ drop k text) n
    ∙ ap (λ (s : List ℕ). take (j - i) (drop i text) ++ s) (sym (drop-drop (j - i) i text))
    ∙ take-append-drop (j - i) (drop i text)

whole : (text : List ℕ) (r c p : ℕ) → IsCutAt text r c p → joined (parts_at text r c p) ≡ text
unfolding joined
whole text r c p cut =
    ap (λ (s : List ℕ). take r text ++ (take (c - r) (drop r text) ++ s))
    (rejoined text c p cut.city_postal)
    ∙ ap (λ (s : List ℕ). take r text ++ s) (rejoined text r c cut.region_city)
    ∙ take-append-drop r text

-- the lengths of three parts tell where the text was cut
cut_by : (text : List ℕ) (r c p : ℕ) → IsCutAt text r c p
    → (length (take r text) ≡ r) × (r + length (take (c - r) (drop r text)) ≡ c)
    × (c + length (take (p - c) (drop c text)) ≡ p)
cut_by text r c p cut =
    let second = length-take-le (c - r) (drop r text)
    (omega (arith, length-drop r text, cut.city.0)) in
    let third = length-take-le (p - c) (drop c text)
    (omega (arith, length-drop c text, cut.postal.0)) in (
      length-take-le r text cut.region.0,
      omega (arith, second, cut.region_city),
      omega (arith, third, cut.city_postal),
    )

same_number : (m n : ℕ) → nat_eq m n ≡ true → m ≡ n
same_number m n h = grind (arith, nat_tests)

is_itself : (m n : ℕ) → m ≡ n → nat_eq m n ≡ true
is_itself m n e = ap (nat_eq m) (sym e) ∙ nat_eq_equiv.refl m

-- places are the same where the same text is cut alike
same_cut : (t u : List ℕ) (r c p r' c' p' : ℕ) → IsCutAt t r c p → IsCutAt u r' c' p'
    → same_place (parts_at t r c p) (parts_at u r' c' p')
    ≡ ((nat_eq r r' && nat_eq c c' && nat_eq p p') && same_text t u)
same_cut t u r c p r' c' p' one two =
    both_ways _ _
    (λ same.
    let parts = same_parts (parts_at t r c p) (parts_at u r' c' p') same in
    let text : t ≡ u = sym (whole t r c p one) ∙ ap joined parts ∙ whole u r' c' p' two in
    let here = cut_by t r c p one in
    let there = cut_by u r' c' p' two in
    let r-is : r ≡ r' =
    sym here.0 ∙ ap (λ (q : PlaceParts). length q.country) parts ∙ there.0 in
    let c-is : c ≡ c' =
    omega (arith, here.1, there.1, r-is, ap (λ (q : PlaceParts). length q.region) parts) in
    let p-is : p ≡ p' =
    omega (arith, here.2, there.2, c-is, ap (λ (q : PlaceParts). length q.city) parts) in
    rw (is_itself r r' r-is, is_itself c c' c-is, is_itself p p' p-is, (text_told t u).1 text) refl)
    (λ same.
    let cuts = first_so (nat_eq r r' && nat_eq c c' && nat_eq p p') (same_text t u) same in
    let front = first_so (nat_eq r r' && nat_eq c c') (nat_eq p p') cuts in
    let text = (text_told t u).0
    (second_so (nat_eq r r' && nat_eq c c' && nat_eq p p') (same_text t u) same) in
    let r-is = same_number r r' (first_so (nat_eq r r') (nat_eq c c') front) in
    let c-is = same_number c c' (second_so (nat_eq r r') (nat_eq c c') front) in
    let p-is = same_number p p' (second_so (nat_eq r r' && nat_eq c c') (nat_eq p p') cuts) in
    place_is_itself (parts_at t r c p) (parts_at u r' c' p')
    (λ i. parts_at (text i) (r-is i) (c-is i) (p-is i)))

pub same_joined : (t u : List ℕ) (r c p r' c' p' : ℕ) (x y : PlaceParts)
    → IsCutAt t r c p → IsCutAt u r' c' p' → parts_at t r c p ≡ x → parts_at u r' c' p' ≡ y
    → ((nat_eq r r' && nat_eq c c' && nat_eq p p') && same_text t u) ≡ same_place x y
same_joined t u r c p r' c' p' x y one two x-is y-is =
    sym (same_cut t u r c p r' c' p' one two)
    ∙ ap (λ (q : PlaceParts). same_place q (parts_at u r' c' p')) x-is
    ∙ ap (same_place x) y-is

pub equal_where : (o : Ordering) → is_eq o ≡ true → Equal ≡ o
equal_where Less is = absurd (let e : false ≡ true = is in cc)
equal_where Equal is = refl
equal_where Greater is = absurd (let e : false ≡ true = is in cc)
