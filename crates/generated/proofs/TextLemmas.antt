-- What a short number and a generated block are printed as, part by part.
use Rattle.std.proofs.Common.{◌≡◌, ℕ, ◌+◌, ◌*◌, ◌/◌, ◌%◌, ◌^◌, ◌<◌, ◌≤◌, not, List, [], ◌∷◌, ◌++◌}
use Rattle.std.proofs.Common.{codes, decimal, ap, ◌∙◌, arith, lit≤, lit<}
use Rattle.std.proofs.lemmas.Fmt.{decimal_digit, decimal_step}
use Rattle.std.specs.Net.Text.{dotted_text}
use Rattle.geo_addr.specs.Printing.{block_text, four_octets, number_text, printed_length, text4}
use Rattle.generated.proofs.SizeLemmas.{block_at, is_low, length_is}
use mathlib.Core.List.{append_assoc}

pub one_digit : (n : ℕ) → n < 10 → decimal n ≡ (48 + n % 10) ∷ []
one_digit n below =
    let ones : n ≡ n % 10 = omega arith in
    decimal_digit n below ∙ ap (λ d. (48 + d) ∷ []) ones

pub two_digits : (n : ℕ) → 10 ≤ n → n < 100 → decimal n ≡ (48 + n / 10 % 10) ∷ (48 + n % 10) ∷ []
two_digits n least below =
    decimal_step n least (omega arith)
    ∙ ap (λ ds. ds ++ ((48 + n % 10) ∷ [])) (one_digit (n / 10) (omega arith))

pub three_digits : (n : ℕ) → 100 ≤ n → n < 1000
    → decimal n ≡ (48 + n / 100) ∷ (48 + n / 10 % 10) ∷ (48 + n % 10) ∷ []
three_digits n least below =
    let hundreds : n / 10 / 10 % 10 ≡ n / 100 = omega arith in
    decimal_step n (omega arith) (omega arith)
    ∙ ap (λ ds. ds ++ ((48 + n % 10) ∷ [])) (two_digits (n / 10) (omega arith) (omega arith))
    ∙ ap (λ d. (48 + d) ∷ (48 + n / 10 % 10) ∷ (48 + n % 10) ∷ []) hundreds

-- an address of 10.0.0.0/8, by its three other octets
address : (i : ℕ) → i < 1000000
    → text4 (10 * 2 ^ 24 + 16 * i)
    ≡ dotted_text 10 (16 * i / 65536) (16 * i / 256 % 256) (16 * i % 256)
unfolding text4 four_octets
address i small =
    let first : (10 * 2 ^ 24 + 16 * i) / 2 ^ 24 % 256 ≡ 10 = omega arith in
    let second : (10 * 2 ^ 24 + 16 * i) / 2 ^ 16 % 256 ≡ 16 * i / 65536 = omega arith in
    let third : (10 * 2 ^ 24 + 16 * i) / 2 ^ 8 % 256 ≡ 16 * i / 256 % 256 = omega arith in
    let fourth : (10 * 2 ^ 24 + 16 * i) % 256 ≡ 16 * i % 256 = omega arith in
    cc

-- a block of 10.0.0.0/8, by the three other octets of its first address
block : (i : ℕ) → i < 1000000
    → block_text (block_at i)
    ≡ dotted_text 10 (16 * i / 65536) (16 * i / 256 % 256) (16 * i % 256) ++ codes "/" ++ decimal 28
block i small =
    let first : ℕ = 10 * 2 ^ 24 + 16 * i in
    ap (λ v4. number_text (not v4) first ++ codes "/" ++ decimal (printed_length (block_at i)))
    (is_low i small)
    ∙ ap (λ n. text4 first ++ codes "/" ++ decimal n) (length_is i small)
    ∙ ap (λ ds. ds ++ codes "/" ++ decimal 28) (address i small)

joined : (text ten dot b c d slash bits : List ℕ)
    → text ++ (ten ++ dot) ++ b ++ dot ++ c ++ dot ++ d ++ (slash ++ bits)
    ≡ text ++ (ten ++ dot ++ b ++ dot ++ c ++ dot ++ d ++ slash ++ bits)
joined text ten dot b c d slash bits = simp append_assoc

-- the block at i, added to a text part by part
pub block_after : (text : List ℕ) (i : ℕ) → i < 1000000
    → text ++ codes "10." ++ decimal (16 * i / 65536) ++ codes "." ++ decimal (16 * i / 256 % 256)
    ++ codes "." ++ decimal (16 * i % 256) ++ codes "/28"
    ≡ text ++ block_text (block_at i)
block_after text i small =
    rw (block i small, two_digits 10 (lit≤ tt) (lit< tt), two_digits 28 (lit≤ tt) (lit< tt))
    (joined text (codes "10") (codes ".") (decimal (16 * i / 65536)) (decimal (16 * i / 256 % 256))
    (decimal (16 * i % 256)) (codes "/") (codes "28"))
