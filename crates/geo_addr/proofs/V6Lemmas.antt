-- The two sides of `::`, and the number of their groups.
use Rattle.std.proofs.Common.{◌≡◌, ℕ, zero, suc, ◌+◌, ◌-◌, ◌*◌, ◌^◌, ◌<◌, ◌≤◌, Bool, true, false}
use Rattle.std.proofs.Common.{◌&&◌, ◌||◌, Option, Some, None, nat_eq, get_or, drop, add-one, List}
use Rattle.std.proofs.Common.{[], ◌∷◌, ◌++◌, length, replicate, Ok, Err, refl, sym, ap, ap₂, ◌∙◌}
use Rattle.std.proofs.Common.{lit<, arith}
use Rattle.std.specs.Option.{option_map}
use Rattle.std.specs.List.{list_any, starts_with}
use Rattle.std.specs.Int.Digits.{number_from_digits_after}
use Rattle.std.proofs.lemmas.Bool.{and_parts, lt-leb, le-leb, ne_eqb, eq-eqb, false≢true}
use Rattle.std.proofs.lemmas.Int.Digits.{number_after_append}
use Rattle.std.proofs.lemmas.Nat.{pow-add}
use Rattle.std.proofs.Math.Nat.{pow-le-pow_right, pow-suc, mul-le-mul_right}
use Rattle.std.proofs.Math.Seq.{drop-cons}
use Rattle.geo_addr.specs.declared.fault.AddrFault.{AddrFault}
use Rattle.geo_addr.specs.declared.fault.AddrFault.TheVariants.{Form, Octet, Groups}
use Rattle.geo_addr.specs.declared.side.Side.{Side}
use Rattle.geo_addr.specs.Ipv6Texts.{is_group, has_bad_octet, double_at, are_members, members}
use Rattle.geo_addr.specs.Ipv6Texts.{groups_in, groups_number, filled, whole_address}
use Rattle.geo_addr.specs.Ipv6Texts.{elided_address}
use Rattle.geo_addr.specs.Sides.{ReadsSide}
use Rattle.geo_addr.proofs.SideLemmas.{group_not_bad}

-- where dots are not allowed there is no bad octet
plain_members : (parts : List (List ℕ)) → are_members false parts ≡ true
    → list_any has_bad_octet parts ≡ false
plain_members [] h = refl
plain_members (part ∷ []) h = rw (group_not_bad part (plain_last (is_group part) h)) refl
  where
    plain_last : (g : Bool) → (g || (false && false)) ≡ true → g ≡ true
    plain_last true h = refl
    plain_last false h = h
plain_members (part ∷ next ∷ more) h =
    let both = and_parts (is_group part) (are_members false (next ∷ more)) h in
    rw (group_not_bad part both.0) (plain_members (next ∷ more) both.1)

-- the answers for a text without `::`
pub whole-fault : (text : List ℕ) (fault : AddrFault)
    → ReadsSide true text (Err fault) → Err fault ≡ whole_address text
unfolding whole_address
whole-fault text Form reads = rw reads refl
whole-fault text Octet reads = rw (reads.0, reads.1) refl
whole-fault text Groups reads = absurd reads

pub whole-groups : (text : List ℕ) (side : Side)
    → ReadsSide true text (Ok side) → (side.groups ≡ 8 → ⊥) → Err Groups ≡ whole_address text
unfolding whole_address
whole-groups text side reads other =
    let count : length (groups_in text) ≡ 8 → ⊥ = λ e. other (omega (arith, reads.2.count)) in
    rw (reads.0, reads.1, ne_eqb _ _ count) refl

pub whole-value : (text : List ℕ) (side : Side) → ReadsSide true text (Ok side) → side.groups ≡ 8
    → Ok side.number ≡ whole_address text
unfolding whole_address
whole-value text side reads eight =
    let count : length (groups_in text) ≡ 8 = omega (arith, reads.2.count) in
    rw (reads.0, reads.1, eq-eqb _ _ count) (ap Ok (reads.2.value (omega arith)))

-- the answers for the two sides of `::`
pub elided-left : (left right : List ℕ) (fault : AddrFault)
    → ReadsSide false left (Err fault) → Err fault ≡ elided_address left right
unfolding elided_address
elided-left left right Form reads = rw reads refl
elided-left left right Octet reads =
    absurd (false≢true (sym (plain_members (members left) reads.0) ∙ reads.1))
elided-left left right Groups reads = absurd reads

pub elided-right : (left right : List ℕ) (head : Side) (fault : AddrFault)
    → ReadsSide false left (Ok head) → ReadsSide true right (Err fault)
    → Err fault ≡ elided_address left right
unfolding elided_address
elided-right left right head Form before reads = rw (before.0, reads) refl
elided-right left right head Octet before reads = rw (before.0, reads.0, reads.1) refl
elided-right left right head Groups before reads = absurd reads

pub elided-groups : (left right : List ℕ) (head tail : Side) → ReadsSide false left (Ok head)
    → ReadsSide true right (Ok tail) → 7 < head.groups + tail.groups
    → Err Groups ≡ elided_address left right
unfolding elided_address
elided-groups left right head tail before after many =
    let count : 7 < length (groups_in left) + length (groups_in right) =
    omega (arith, before.2.count, after.2.count) in
    rw (before.0, after.0, after.1, lt-leb _ _ count) refl

shifted : (n group power rest : ℕ) → (n * 65536 + group) * power + rest
    ≡ n * (power * 65536) + ((0 * 65536 + group) * power + rest)
shifted n group power rest = grind arith

shifted_zero : (n power : ℕ) → (n * 65536 + 0) * power ≡ n * (power * 65536)
shifted_zero n power = grind arith

-- zeros behind a number shift it
after_zeros : (n k : ℕ) → number_from_digits_after 65536 n (replicate k 0) ≡ n * 65536 ^ k
after_zeros n zero = omega arith
after_zeros n (suc k) =
    after_zeros (n * 65536 + 0) k ∙ shifted_zero n (65536 ^ k)
    ∙ ap (λ p. n * p) (sym (pow-suc 65536 k))

-- groups behind a number shift it and add theirs
after_groups : (n : ℕ) (groups : List ℕ)
    → number_from_digits_after 65536 n groups ≡ n * 65536 ^ length groups + groups_number groups
after_groups n [] = omega arith
after_groups n (g ∷ gs) =
    after_groups (n * 65536 + g) gs
    ∙ shifted n g (65536 ^ length gs) (groups_number gs)
    ∙ ap (λ p. n * p + ((0 * 65536 + g) * 65536 ^ length gs + groups_number gs))
    (sym (pow-suc 65536 (length gs)))
    ∙ ap (λ m. n * 65536 ^ suc (length gs) + m) (sym (after_groups (0 * 65536 + g) gs))

regrouped : (n p q r s : ℕ) → s ≡ p * q → n * p * q + r ≡ n * s + r
regrouped n p q r s is = rw is (grind arith)

-- the groups of the one side, zeros, and the groups of the other as one number
filled_number : (left right : List ℕ) → length left + length right ≤ 7 → groups_number
    (filled left right) ≡ groups_number left * 65536 ^ (8 - length left) + groups_number right
filled_number left right room =
    let k : ℕ = 8 - length left - length right in
    let counted : 8 - length left ≡ k + length right = omega arith in
    let sum : 65536 ^ (8 - length left) ≡ 65536 ^ k * 65536 ^ length right =
    ap (λ e. 65536 ^ e) counted ∙ pow-add 65536 k (length right) in
    number_after_append 65536 0 (left ++ replicate k 0) right
    ∙ ap (λ n. number_from_digits_after 65536 n right)
    (number_after_append 65536 0 left (replicate k 0) ∙ after_zeros (groups_number left) k)
    ∙ after_groups (groups_number left * 65536 ^ k) right
    ∙ regrouped (groups_number left) (65536 ^ k) (65536 ^ length right) (groups_number right)
    (65536 ^ (8 - length left)) sum

pub elided-value : (left right : List ℕ) (head tail : Side) (n : ℕ) → ReadsSide false left (Ok head)
    → ReadsSide true right (Ok tail) → head.groups + tail.groups ≤ 7
    → n ≡ head.number * 65536 ^ (8 - head.groups) + tail.number → Ok n ≡ elided_address left right
unfolding elided_address
elided-value left right head tail n before after few is =
    let count : length (groups_in left) + length (groups_in right) ≤ 7 =
    omega (arith, before.2.count, after.2.count) in
    let all = filled_number (groups_in left) (groups_in right) count in
    let heads : head.groups ≡ length (groups_in left) =
    omega (arith, before.2.count, after.2.count) in
    let same : head.number * 65536 ^ (8 - head.groups) + tail.number ≡ groups_number
    (groups_in left) * 65536 ^ (8 - length (groups_in left)) + groups_number (groups_in right) =
    ap₂ (λ h t. h * 65536 ^ (8 - head.groups) + t) (before.2.value (omega arith))
    (after.2.value (omega arith))
    ∙ ap (λ g. groups_number (groups_in left) * 65536 ^ (8 - g) + groups_number (groups_in right))
    heads in
    rw (before.0, after.0, after.1, le-leb _ _ count) (ap Ok (is ∙ same ∙ sym all))

-- the numbers of the two sides fit into one
pub joined_fits : (head tail g k : ℕ) → head < 65536 ^ g → tail < 65536 ^ k → 0 < g → g + k ≤ 7
    → (65536 ^ (8 - g) < 2 ^ 128) × (head * 65536 ^ (8 - g) + tail < 2 ^ 128)
joined_fits head tail g k small_head small_tail some room =
    let shift : 65536 ^ (8 - g) ≤ 65536 ^ 7 =
    pow-le-pow_right {n = 65536} (lit< tt) {i = 8 - g} {j = 7} (omega arith) in
    let tails : 65536 ^ k ≤ 65536 ^ (8 - g) =
    pow-le-pow_right {n = 65536} (lit< tt) {i = k} {j = 8 - g} (omega arith) in
    let counted : 8 ≡ g + (8 - g) = omega arith in
    let whole : 65536 ^ 8 ≡ 65536 ^ g * 65536 ^ (8 - g) =
    ap (λ e. 65536 ^ e) counted ∙ pow-add 65536 g (8 - g) in
    let heads : (head + 1) * 65536 ^ (8 - g) ≤ 65536 ^ g * 65536 ^ (8 - g) =
    mul-le-mul_right (65536 ^ (8 - g)) (omega arith) in
    (omega arith, omega arith)

moved : (at : ℕ) (found : Option ℕ)
    → option_map (λ k. at + k) (option_map suc found) ≡ option_map (λ k. at + 1 + k) found
moved at None = refl
moved at (Some k) = ap Some (omega arith)

-- where `::` does not stand here, it is sought from the next offset on
pub double_at-past : (text : List ℕ) (at : ℕ) → at < length text
    → starts_with nat_eq (drop at text) (58 ∷ 58 ∷ []) ≡ false → option_map (λ k. at + k)
    (double_at (drop at text)) ≡ option_map (λ k. at + 1 + k) (double_at (drop (at + 1) text))
double_at-past text at l other =
    let cut : drop at text ≡ get_or text at 0 ∷ drop (at + 1) text =
    rw add-one (drop-cons text at 0 l) in
    let here = rw cut at other in
    rw (cut, here) (moved at (double_at (drop (at + 1) text)))
