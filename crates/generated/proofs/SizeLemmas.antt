-- How long a generated feed is, and how many line feeds are in it.
use Rattle.std.proofs.Common.{◌≡◌, ℕ, zero, suc, ◌+◌, ◌-◌, ◌*◌, ◌/◌, ◌%◌, ◌^◌, ◌<◌, ◌≤◌, ◌==◌, Bool}
use Rattle.std.proofs.Common.{true, false, not, ◌&&◌, nat_eq, List, [], ◌∷◌, ◌++◌, length, drop}
use Rattle.std.proofs.Common.{codes, decimal, refl, sym, ap, subst, arith, lit≤, lit<, cond}
use Rattle.std.proofs.Common.{length-append}
use Rattle.std.proofs.lemmas.Bool.{lt-ltb, ne_eqb}
use Rattle.std.proofs.lemmas.Fmt.{decimal_is_IsNumeral, length-decimal-le}
use Rattle.std.proofs.lemmas.List.Sums.{sum_by-append, sum_by-cons, sum_by-take-drop}
use Rattle.std.specs.Prelude.{if◌then◌else◌}
use Rattle.std.specs.List.{count_by, starts_with}
use Rattle.std.proofs.lemmas.List.FromFn.{length-enumerate_from}
use Rattle.std.proofs.lemmas.List.Splits.{length-slice_split}
use Rattle.geo_addr.specs.Lines.{byte_order_mark, last_line, lines_of, lines_of_pieces}
use Rattle.geo_addr.specs.Lines.{numbered_lines, pieces, without_mark}
use Rattle.std.specs.Char.{digit_value}
use Rattle.std.specs.Str.Parse.{AllDigits}
use Rattle.std.specs.Net.Text.{dotted_text}
use Rattle.geo_addr.specs.Printing.{block_text, four_octets, number_text, printed_length, text4}
use Rattle.geo_addr.specs.Ranges.{Prefix, is_v4, range_of_block}
use Rattle.generated.specs.Feeds.{country_of, feed, line_of}

abbrev pub is_line_feed : ℕ → Bool
is_line_feed b = b == 10

-- a text of so many bytes at most, with so many line feeds
pub record Has (text : List ℕ) (most ends : ℕ) : Type 0 where
  pub short : length text ≤ most
  pub same : count_by is_line_feed text ≡ ends

both : (a b : List ℕ) (m n i j : ℕ) → Has a m i → Has b n j → Has (a ++ b) (m + n) (i + j)
both a b m n i j p q = record {
  short = let x = p.short in let y = q.short in omega (arith, length-append a b);
  same =
      let x = p.same in let y = q.same in
      omega (arith, sum_by-append (λ c. cond {A = ℕ} (is_line_feed c) 1 0) a b);
}

no_line_feed : (b : ℕ) → digit_value b < 10 → is_line_feed b ≡ false
no_line_feed b below =
    ne_eqb b 10 (λ is. let high : digit_value 10 < 10 = subst (λ x. digit_value x < 10) is below in
    omega arith)

no_line_feeds : (text : List ℕ) → AllDigits 10 text → count_by is_line_feed text ≡ 0
no_line_feeds [] digits = refl
no_line_feeds (b ∷ bs) digits =
    let none : cond {A = ℕ} (is_line_feed b) 1 0 ≡ 0 =
    ap (λ (t : Bool). cond {A = ℕ} t 1 0) (no_line_feed b digits.0) in
    let rest = no_line_feeds bs digits.1 in
    omega (arith, sum_by-cons (λ c. cond {A = ℕ} (is_line_feed c) 1 0) b bs)

number : (n : ℕ) → n < 1000 → Has (decimal n) 3 0
number n small = record {
  short = length-decimal-le 3 n (lit< tt) (omega arith) (omega arith);
  same = no_line_feeds (decimal n) (decimal_is_IsNumeral n (omega arith)).0.1;
}

dotted : (a b c d : ℕ) → a < 256 → b < 256 → c < 256 → d < 256 → Has (dotted_text a b c d) 15 0
dotted a b c d fit_a fit_b fit_c fit_d =
    let dot : Has (codes ".") 1 0 = record { short = lit≤ tt; same = refl } in
    both _ _ 12 3 0 0
    (both _ _ 11 1 0 0 (both _ _ 8 3 0 0 (both _ _ 7 1 0 0 (both _ _ 4 3 0 0 (both _ _ 3 1 0 0
    (number a (omega arith)) dot) (number b (omega arith))) dot) (number c (omega arith))) dot)
    (number d (omega arith))

address : (n : ℕ) → Has (text4 n) 15 0
unfolding text4 four_octets
address n =
    dotted (n / 2 ^ 24 % 256) (n / 2 ^ 16 % 256) (n / 2 ^ 8 % 256) (n % 256) (omega arith)
    (omega arith) (omega arith) (omega arith)

abbrev pub block_at : ℕ → Prefix
block_at i = record { first = 10 * 2 ^ 24 + 16 * i; len = 124 }

pub is_low : (i : ℕ) → i < 1000000 → is_v4 (range_of_block (block_at i)) ≡ true
is_low i small = lt-ltb (10 * 2 ^ 24 + 16 * i + 15) (2 ^ 32) (omega arith)

pub length_is : (i : ℕ) → i < 1000000 → printed_length (block_at i) ≡ 28
unfolding printed_length
length_is i small = ap (λ b. if b then 124 - 96 else 124) (is_low i small)

block : (i : ℕ) → i < 1000000 → Has (block_text (block_at i)) 19 0
block i small =
    let slash : Has (codes "/") 1 0 = record { short = lit≤ tt; same = refl } in
    let its = subst (λ b. Has (number_text (not b) (10 * 2 ^ 24 + 16 * i)) 15 0)
    (sym (is_low i small)) (address (10 * 2 ^ 24 + 16 * i)) in
    let bits = subst (λ n. Has (decimal n) 3 0) (sym (length_is i small)) (number 28 (lit< tt)) in
    both _ _ 16 3 0 0 (both _ _ 15 1 0 0 its slash) bits

country : (second : Bool) (i : ℕ) → Has (country_of second i) 2 0
unfolding country_of
country second i = by (second && nat_eq i 0) (nat_eq (i % 3) 0) (nat_eq (i % 3) 1)
  where
    by : (a b c : Bool) → Has (if a
        then codes "CH" else (if b then codes "DE" else (if c then codes "FR" else codes "IT"))) 2 0
    by true b c = record { short = lit≤ tt; same = refl }
    by false true c = record { short = lit≤ tt; same = refl }
    by false false true = record { short = lit≤ tt; same = refl }
    by false false false = record { short = lit≤ tt; same = refl }

line : (second : Bool) (i : ℕ) → i < 1000000 → Has (line_of second i) 34 1
unfolding line_of
line second i small =
    let comma : Has (codes ",") 1 0 = record { short = lit≤ tt; same = refl } in
    let city : Has (codes ",,City ") 7 0 = record { short = lit≤ tt; same = refl } in
    let end : Has (codes ",\n") 2 1 = record { short = lit≤ tt; same = refl } in
    both _ _ 19 15 0 1 (block i small)
    (both _ _ 1 14 0 1 comma (both _ _ 2 12 0 1 (country second i)
    (both _ _ 7 5 0 1 city (both _ _ 3 2 0 1 (number (i % 1000) (omega arith)) end))))

-- a feed has no more than 34 bytes for each line, and a line feed for each
pub feed_has : (second : Bool) (n : ℕ) → n ≤ 1000000 → Has (feed second n) (34 * n) n
feed_has second zero few = record { short = lit≤ tt; same = refl }
feed_has second (suc n) few =
    let all =
    both _ _ (34 * n) 34 n 1 (feed_has second n (omega arith)) (line second n (omega arith)) in
    let short = all.short in
    let same = all.same in
    record { short = omega arith; same = omega arith }

-- a text has no more lines than line feeds, and one
few_pieces : (ps : List (List ℕ)) → length (lines_of_pieces ps) ≤ length ps
few_pieces [] = lit≤ tt
few_pieces (p ∷ []) = one p
  where
    one : (text : List ℕ) → length (last_line text) ≤ 1
    one [] = lit≤ tt
    one (b ∷ bs) = lit≤ tt
few_pieces (p ∷ next ∷ more) = let rest = few_pieces (next ∷ more) in omega arith

no_more_without_mark : (file : List ℕ)
    → count_by is_line_feed (without_mark file) ≤ count_by is_line_feed file
no_more_without_mark file = by (starts_with nat_eq file byte_order_mark)
  where
    by : (b : Bool)
        → count_by is_line_feed (if b then drop 3 file else file) ≤ count_by is_line_feed file
    by true = omega (arith, sum_by-take-drop (λ c. cond {A = ℕ} (is_line_feed c) 1 0) file 3)
    by false = omega arith

pub few_lines : (file : List ℕ) → length (numbered_lines file) ≤ count_by is_line_feed file + 1
few_lines file =
    let text = without_mark file in
    omega (
      arith,
      length-enumerate_from 1 (lines_of text),
      few_pieces (pieces 10 text),
      length-slice_split is_line_feed text,
      no_more_without_mark file,
    )
