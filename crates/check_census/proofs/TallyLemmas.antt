-- What a tally of a tree has to do with the addresses that lead to its leaves.
use Rattle.std.proofs.Common.{◌≡◌, ℕ, zero, suc, ◌+◌, ◌-◌, ◌*◌, ◌/◌, ◌^◌, ◌<◌, ◌≤◌, Bool, true}
use Rattle.std.proofs.Common.{false, cond, List, ◌∷◌, refl, sym, ap, ap₂, ◌∙◌, arith}
use Rattle.std.proofs.lemmas.Nat.{pow-add}
use Rattle.std.proofs.Math.Nat.{two-pow-succ, mul_assoc}
use Rattle.std.proofs.Math.Pow.{pow_mono}
use Rattle.geo_addr.specs.Bits.{bits_of}
use Rattle.geo_addr.proofs.BitsLemmas.{bits_of-lower, bits_of-upper}
use Rattle.trie_core.specs.Tree.{Tree, leaf, node, height, look}
use Rattle.trie_core.specs.Graft.{half}
use Rattle.check_census.specs.Tally.{count_below, passes, tally, IsEven, low_part, tally_beyond}
use Rattle.check_census.specs.Spread.{every}

-- an even number of addresses is twice its half, and the half is even below
pub even_half : (h w : ℕ) → IsEven (suc h) w → (q : ℕ) × (w ≡ q + q) × IsEven h q
even_half h w even =
    let double : 2 ^ suc h * even.0 ≡ (2 ^ h + 2 ^ h) * even.0 =
    ap (λ p. p * even.0) (two-pow-succ h) in
    let whole : w ≡ 2 ^ h * even.0 + 2 ^ h * even.0 = even.1 ∙ double ∙ omega arith in
    (2 ^ h * even.0, whole, (even.0, refl))

pub IsEven-half : (h w : ℕ) → IsEven (suc h) w → IsEven h (w / 2)
IsEven-half h w even =
    let e = even_half h w even in
    let double = e.1 in
    let same : w / 2 ≡ e.0 = omega arith in
    (e.2.0, same ∙ e.2.1)

pub halves_make_whole : (h w : ℕ) → IsEven (suc h) w → w / 2 + w / 2 ≡ w
halves_make_whole h w even = let e = even_half h w even in let double = e.1 in omega arith

-- what can be halved so often can be halved less often
pub IsEven-lower : (k h w : ℕ) → k ≤ h → IsEven h w → IsEven k w
IsEven-lower k h w le even =
    let sum : k + (h - k) ≡ h = omega arith in (
      2 ^ (h - k) * even.0,
      even.1 ∙ ap (λ e. 2 ^ e * even.0) (sym sum)
          ∙ ap (λ p. p * even.0) (pow-add 2 k (h - k)) ∙ mul_assoc (2 ^ k) (2 ^ (h - k)) even.0,
    )

pub IsEven-zero : (h : ℕ) → IsEven h 0
IsEven-zero h = (0, omega arith)

pub IsEven-power : (h n : ℕ) → h ≤ n → IsEven h (2 ^ n)
IsEven-power h n le = let sum : h + (n - h) ≡ n = omega arith in
    (2 ^ (n - h), ap (λ e. 2 ^ e) (sym sum) ∙ pow-add 2 h (n - h))

pub IsEven-add : (h a b : ℕ) → IsEven h a → IsEven h b → IsEven h (a + b)
IsEven-add h a b ea eb = (ea.0 + eb.0, ap₂ ◌+◌ ea.1 eb.1 ∙ omega arith)

cond_add : (b : Bool) (x y : ℕ) → cond b (x + y) 0 ≡ cond b x 0 + cond b y 0
cond_add true x y = refl
cond_add false x y = refl

-- two numbers of addresses are told apart
pub tally-add : (test : ℕ → Bool) (t : Tree ℕ) (h a b : ℕ) → height t ≤ h → IsEven h a → IsEven h b
    → tally test (a + b) t ≡ tally test a t + tally test b t
tally-add test (leaf x) h a b low ea eb = cond_add (test x) a b
tally-add test (node l r) zero a b low ea eb = absurd (omega arith)
tally-add test (node l r) (suc h) a b low ea eb =
    let da = even_half h a ea in
    let db = even_half h b eb in
    let ta = da.1 in
    let tb = db.1 in
    let both : (a + b) / 2 ≡ da.0 + db.0 = omega arith in
    let one : a / 2 ≡ da.0 = omega arith in
    let two : b / 2 ≡ db.0 = omega arith in
    let left = tally-add test l h da.0 db.0 (omega arith) da.2 db.2 in
    let right = tally-add test r h da.0 db.0 (omega arith) da.2 db.2 in
    let at : tally test ((a + b) / 2) l + tally test ((a + b) / 2) r ≡ tally test
    (da.0 + db.0) l + tally test (da.0 + db.0) r =
    ap (λ w. tally test w l + tally test w r) both in
    let at_a : tally test (a / 2) l + tally test (a / 2) r ≡ tally test da.0 l + tally test da.0 r =
    ap (λ w. tally test w l + tally test w r) one in
    let at_b : tally test (b / 2) l + tally test (b / 2) r ≡ tally test db.0 l + tally test db.0 r =
    ap (λ w. tally test w l + tally test w r) two in
    omega arith

cond_zero : (b : Bool) → ◌≡◌ {A = ℕ} (cond b 0 0) 0
cond_zero true = refl
cond_zero false = refl

pub tally-zero : (test : ℕ → Bool) (t : Tree ℕ) → tally test 0 t ≡ 0
tally-zero test (leaf x) = cond_zero (test x)
tally-zero test (node l r) = let a = tally-zero test l in let b = tally-zero test r in omega arith

-- no address is lost
pub tally-every : (t : Tree ℕ) (h w : ℕ) → height t ≤ h → IsEven h w → tally every w t ≡ w
tally-every (leaf x) h w low even = refl
tally-every (node l r) zero w low even = absurd (omega arith)
tally-every (node l r) (suc h) w low even =
    let e = even_half h w even in
    let double = e.1 in
    let one : w / 2 ≡ e.0 = omega arith in
    let left = tally-every l h e.0 (omega arith) e.2 in
    let right = tally-every r h e.0 (omega arith) e.2 in
    let at : tally every (w / 2) l + tally every (w / 2) r ≡ tally every e.0 l + tally every e.0 r =
    ap (λ v. tally every v l + tally every v r) one in
    omega arith

-- counts of numbers that pass a test

pub count_below-same : (p q : ℕ → Bool) (n : ℕ) → ((a : ℕ) → a < n → p a ≡ q a)
    → count_below p n ≡ count_below q n
unfolding count_below
count_below-same p q zero same = refl
count_below-same p q (suc n) same =
    ap₂ ◌+◌ (count_below-same p q n (λ a lt. same a (omega arith)))
    (ap (λ b. cond b 1 0) (same n (omega arith)))

pub count_below-split : (p : ℕ → Bool) (m k : ℕ)
    → count_below p (m + k) ≡ count_below p m + count_below (λ i. p (m + i)) k
unfolding count_below
count_below-split p m zero = let none : m + 0 ≡ m = omega arith in
    ap (count_below p) none ∙ omega arith
count_below-split p m (suc k) =
    let next : m + suc k ≡ suc (m + k) = omega arith in
    let rest = count_below-split p m k in
    ap (count_below p) next ∙ ap (λ c. c + cond (p (m + k)) 1 0) rest ∙ omega arith

cond_suc : (b : Bool) (n : ℕ) → cond b n 0 + cond b 1 0 ≡ cond b (suc n) 0
cond_suc true n = omega arith
cond_suc false n = refl

pub count_below-constant : (b : Bool) (n : ℕ) → count_below (λ a. b) n ≡ cond b n 0
unfolding count_below
count_below-constant b zero = sym (cond_zero b)
count_below-constant b (suc n) = ap (λ c. c + cond b 1 0) (count_below-constant b n) ∙ cond_suc b n

-- the first bit leads to a half
pub look-half : (b : Bool) (t : Tree ℕ) (w : List Bool) → look t (b ∷ w) ≡ look (half b t) w
look-half b (leaf x) w = refl
look-half false (node l r) w = refl
look-half true (node l r) w = refl

pub height-half : (b : Bool) (t : Tree ℕ) (n : ℕ) → height t ≤ suc n → height (half b t) ≤ n
height-half b (leaf x) n low = omega arith
height-half false (node l r) n low = omega arith
height-half true (node l r) n low = omega arith

-- a tally is the number of the addresses that lead to leaves that pass
pub tally-counts : (test : ℕ → Bool) (n : ℕ) (t : Tree ℕ) → height t ≤ n
    → tally test (2 ^ n) t ≡ count_below (λ a. passes test (look t (bits_of n a))) (2 ^ n)
tally-counts test n (leaf x) low = sym (count_below-constant (test x) (2 ^ n))
tally-counts test zero (node l r) low = absurd (omega arith)
tally-counts test (suc n) (node l r) low =
    let p : ℕ → Bool = λ a. passes test (look (node l r) (bits_of (suc n) a)) in
    let double = two-pow-succ n in
    let one : 2 ^ suc n / 2 ≡ 2 ^ n = omega arith in
    let left : count_below p (2 ^ n) ≡ tally test (2 ^ n) l =
    count_below-same p (λ a. passes test (look l (bits_of n a))) (2 ^ n)
    (λ a lt. ap (λ w. passes test (look (node l r) w)) (bits_of-lower n a lt))
    ∙ sym (tally-counts test n l (omega arith)) in
    let right : count_below (λ i. p (2 ^ n + i)) (2 ^ n) ≡ tally test (2 ^ n) r =
    count_below-same (λ i. p (2 ^ n + i)) (λ a. passes test (look r (bits_of n a))) (2 ^ n)
    (λ a lt. ap (λ w. passes test (look (node l r) w)) (bits_of-upper n a lt))
    ∙ sym (tally-counts test n r (omega arith)) in
    let whole : count_below p (2 ^ suc n) ≡ count_below p (2 ^ n) + count_below (λ i. p (2 ^ n + i))
    (2 ^ n) = ap (count_below p) double ∙ count_below-split p (2 ^ n) (2 ^ n) in
    let at : tally test (2 ^ suc n / 2) l + tally test (2 ^ suc n / 2) r ≡ tally test
    (2 ^ n) l + tally test (2 ^ n) r = ap (λ w. tally test w l + tally test w r) one in
    at ∙ sym (whole ∙ ap₂ ◌+◌ left right)

-- the addresses that begin with k zeros
pub low_part-counts : (test : ℕ → Bool) (n k : ℕ) (t : Tree ℕ)
    → count_below (λ a. passes test (look t (bits_of (n + k) a))) (2 ^ n) ≡ count_below
    (λ a. passes test (look (low_part k t) (bits_of n a))) (2 ^ n)
unfolding low_part
low_part-counts test n zero t = let none : n + 0 ≡ n = omega arith in
    ap (λ m. count_below (λ a. passes test (look t (bits_of m a))) (2 ^ n)) none
low_part-counts test n (suc k) t =
    let next : n + suc k ≡ suc (n + k) = omega arith in
    let wide : 2 ^ n ≤ 2 ^ (n + k) = pow_mono (omega arith) in
    ap (λ m. count_below (λ a. passes test (look t (bits_of m a))) (2 ^ n)) next
    ∙ count_below-same (λ a. passes test (look t (bits_of (suc (n + k)) a)))
    (λ a. passes test (look (half false t) (bits_of (n + k) a))) (2 ^ n)
    (λ a lt. ap (λ w. passes test (look t w)) (bits_of-lower (n + k) a (omega arith))
    ∙ ap (passes test) (look-half false t (bits_of (n + k) a)))
    ∙ low_part-counts test n k (half false t)

pub height-low_part : (n k : ℕ) (t : Tree ℕ) → height t ≤ n + k → height (low_part k t) ≤ n
unfolding low_part
height-low_part n zero t low = omega arith
height-low_part n (suc k) t low =
    height-low_part n k (half false t) (height-half false t (n + k) (omega arith))

-- the addresses that do not
pub tally_beyond-counts : (test : ℕ → Bool) (n k : ℕ) (t : Tree ℕ) → height t ≤ n + k
    → tally_beyond test n k t ≡ count_below
    (λ i. passes test (look t (bits_of (n + k) (2 ^ n + i)))) (2 ^ (n + k) - 2 ^ n)
unfolding tally_beyond count_below
tally_beyond-counts test n zero t low =
    let none : n + 0 ≡ n = omega arith in
    let size : 2 ^ (n + 0) ≡ 2 ^ n = ap (λ e. 2 ^ e) none in
    let empty : 2 ^ (n + 0) - 2 ^ n ≡ 0 = omega arith in
    sym (ap (count_below (λ i. passes test (look t (bits_of (n + 0) (2 ^ n + i))))) empty)
tally_beyond-counts test n (suc k) t low =
    let m : ℕ = n + k in
    let p : ℕ → Bool = λ i. passes test (look t (bits_of (n + suc k) (2 ^ n + i))) in
    let next : n + suc k ≡ suc (n + k) = omega arith in
    let wide : 2 ^ n ≤ 2 ^ (n + k) = pow_mono (omega arith) in
    let double : 2 ^ (n + suc k) ≡ 2 ^ (n + k) + 2 ^ (n + k) =
    ap (λ e. 2 ^ e) next ∙ two-pow-succ (n + k) in
    let size : 2 ^ (n + suc k) - 2 ^ n ≡ (2 ^ (n + k) - 2 ^ n) + 2 ^ (n + k) = omega arith in
    let first : count_below p (2 ^ (n + k) - 2 ^ n) ≡ tally_beyond test n k (half false t) =
    count_below-same p (λ i. passes test (look (half false t) (bits_of (n + k) (2 ^ n + i))))
    (2 ^ (n + k) - 2 ^ n)
    (λ i lt. ap (λ e. passes test (look t (bits_of e (2 ^ n + i)))) next
    ∙ ap (λ w. passes test (look t w)) (bits_of-lower (n + k) (2 ^ n + i) (omega arith))
    ∙ ap (passes test) (look-half false t (bits_of (n + k) (2 ^ n + i))))
    ∙ sym (tally_beyond-counts test n k (half false t) (height-half false t (n + k) (omega arith)))
    in
    let second : count_below (λ i. p ((2 ^ (n + k) - 2 ^ n) + i)) (2 ^ (n + k)) ≡ tally test
    (2 ^ (n + k)) (half true t) =
    count_below-same (λ i. p ((2 ^ (n + k) - 2 ^ n) + i))
    (λ i. passes test (look (half true t) (bits_of (n + k) i))) (2 ^ (n + k))
    (λ i lt. let moved : 2 ^ n + ((2 ^ (n + k) - 2 ^ n) + i) ≡ 2 ^ (n + k) + i = omega arith in
    ap (λ e. passes test (look t (bits_of e (2 ^ n + ((2 ^ (n + k) - 2 ^ n) + i))))) next
    ∙ ap (λ a. passes test (look t (bits_of (suc (n + k)) a))) moved
    ∙ ap (λ w. passes test (look t w)) (bits_of-upper (n + k) i lt)
    ∙ ap (passes test) (look-half true t (bits_of (n + k) i)))
    ∙ sym (tally-counts test (n + k) (half true t) (height-half true t (n + k) (omega arith))) in
    sym (ap (count_below p) size ∙ count_below-split p (2 ^ (n + k) - 2 ^ n) (2 ^ (n + k))
    ∙ ap₂ ◌+◌ first second)
