-- A byte that is looked for among some of the first and of the last bytes of a text.
use Rattle.std.proofs.Common.{◌≡◌, ◌≢◌, ℕ, ◌+◌, ◌-◌, ◌<◌, ◌≤◌, false, eqb, List, length}
use Rattle.std.proofs.Common.{drop, get_or, inl, inr, map, sym, ap, ◌∙◌, arith, zero-add}
use Rattle.std.proofs.lemmas.Bool.{cases_lt, ne_eqb}
use Rattle.std.proofs.lemmas.Bool.Decides.{nat_tests}
use Rattle.std.proofs.lemmas.List.{get_or-drop}
use Rattle.std.proofs.lemmas.List.Elements.{All-from_get_or}
use Rattle.std.proofs.lemmas.List.Folds.{list_any_none}
use Rattle.std.proofs.lemmas.List.Sums.{fails_before_first}
use Rattle.std.proofs.lemmas.Simd.{get_or-chunk, leading_from_mask_l, length-chunk}
use Rattle.std.specs.List.{list_any, position_or_len}
use Rattle.std.specs.Simd.Lanes.{chunk, mask_l}

-- where no bit is set, none of the bytes is the one that is looked for
pub none_there : (n byte : ℕ) (text : List ℕ) (mask k : ℕ) → n ≤ length text
    → mask ≡ mask_l (map (λ b. eqb b byte) (chunk 0 n text)) → mask ≡ 0 → k < n
    → get_or text k 0 ≢ byte
none_there n byte text mask k long is none l =
    let before : k < position_or_len (λ b. eqb b byte) (chunk 0 n text) = omega (
      arith,
      leading_from_mask_l (λ b. eqb b byte) (chunk 0 n text) (sym is ∙ none),
      length-chunk 0 n text (omega arith),
    ) in
    let test : eqb (get_or (chunk 0 n text) k 0) byte ≡ false =
    fails_before_first (λ b. eqb b byte) (chunk 0 n text) k 0 before in
    let same : get_or (chunk 0 n text) k 0 ≡ get_or text k 0 =
    get_or-chunk 0 n text k 0 l ∙ ap (λ i. get_or text i 0) (zero-add k) in
    grind (arith, nat_tests)

-- a byte of a text is among the first ones or among the last ones
among : (n byte : ℕ) (text end : List ℕ) (k : ℕ) → n ≤ length text → length text ≤ n + n
    → end ≡ drop (length text - n) text
    → ((i : ℕ) → i < n → get_or text i 0 ≢ byte) → ((i : ℕ) → i < n → get_or end i 0 ≢ byte)
    → k < length text → get_or text k 0 ≢ byte
among n byte text end k long short is first last l =
    elim (cases_lt k n) [
      | inl inside ↦ first k inside
      | inr behind ↦
          let back : length text - n + (k - (length text - n)) ≡ k = omega arith in
          let there : get_or end (k - (length text - n)) 0 ≡ get_or text k 0 =
          ap (λ t. get_or t (k - (length text - n)) 0) is
          ∙ get_or-drop (length text - n) text (k - (length text - n)) 0
          ∙ ap (λ i. get_or text i 0) back in
          λ e. last (k - (length text - n)) (omega arith) (there ∙ e)
    ]

pub lacking : (n byte : ℕ) (text end : List ℕ) → n ≤ length text → length text ≤ n + n
    → end ≡ drop (length text - n) text
    → ((i : ℕ) → i < n → get_or text i 0 ≢ byte) → ((i : ℕ) → i < n → get_or end i 0 ≢ byte)
    → list_any (λ b. eqb b byte) text ≡ false
lacking n byte text end long short is first last =
    list_any_none (λ b. eqb b byte) text
    (All-from_get_or (λ b. eqb b byte ≡ false) text 0
    (λ k l. ne_eqb (get_or text k 0) byte (among n byte text end k long short is first last l)))
