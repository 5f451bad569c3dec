-- A text that neither begins nor ends with a blank is trimmed already.
use Rattle.std.proofs.Common.{◌≡◌, ℕ, ◌+◌, ◌-◌, ◌<◌, ◌≤◌, Bool, true, false, cond, List, [], ◌∷◌}
use Rattle.std.proofs.Common.{ap, arith, drop, eqb, get_or, length, refl, reverse, suc, sym, take}
use Rattle.std.proofs.Common.{zero, ◌∙◌}
use Rattle.std.proofs.lemmas.List.{length-reverse, reverse-append, take_all}
use Rattle.std.proofs.lemmas.List.Folds.{prefix_len-append}
use Rattle.std.proofs.lemmas.List.Sums.{prefix_len-drop_no, prefix_len-le-length}
use Rattle.std.proofs.lemmas.List.Sums.{suffix_len-take_no}
use Rattle.std.specs.List.{prefix_len, suffix_len}
use Rattle.geo_addr.specs.Lines.{is_blank, trimmed, trimmed_end, trimmed_start}
use Rattle.geo_terms.specs.PlaceForm.{is_empty}

-- a text that does not begin with a blank
module _ (text : List ℕ) (some : 0 < length text)
    (first : is_blank (get_or text 0 0) ≡ false) where
  start_stays : trimmed_start text ≡ text
  start_stays = ap (λ n. drop n text) (prefix_len-drop_no is_blank text 0 0 some first)

  pub stays : is_blank (get_or text (length text - 1) 0) ≡ false → trimmed text ≡ text
  stays last =
      let whole : take (length text) text ≡ text = take_all (length text) text (omega arith) in
      let none : suffix_len is_blank text ≡ 0 =
      sym (ap (suffix_len is_blank) whole)
      ∙ suffix_len-take_no is_blank text (length text) 0 some (omega arith) last in
      ap trimmed_end start_stays ∙ ap (λ n. take (length text - n) text) none
      ∙ take_all (length text - 0) text (omega arith)

-- the first bytes of a text are some
kept : (n b : ℕ) (bs : List ℕ) → 0 < n → is_empty (take n (b ∷ bs)) ≡ false
kept zero b bs some = absurd (omega (arith, some))
kept (suc n) b bs some = refl

-- a count that goes on by nothing where it came to the end
no_more : (on : Bool) (n m k : ℕ) → n ≤ m → k ≡ 0 → cond on (m + k) n ≤ m
no_more true n m k le e = omega (arith, e)
no_more false n m k le e = le

-- the first byte is none of the blanks at the end
fewer : (b : ℕ) (bs : List ℕ) → is_blank b ≡ false
    → suffix_len is_blank (b ∷ bs) < length (b ∷ bs)
fewer b bs e =
    let back = reverse bs in
    let n = prefix_len is_blank back in
    let k = prefix_len is_blank (b ∷ []) in
    let counted : suffix_len is_blank (b ∷ bs)
    ≡ cond (eqb n (length back)) (length back + k) n =
    ap (prefix_len is_blank) (reverse-append (b ∷ []) bs)
    ∙ prefix_len-append is_blank back (b ∷ []) in
    let first : k ≡ 0 = ap (λ (on : Bool). cond on (1 + prefix_len is_blank []) 0) e in
    omega (
      arith,
      counted,
      length-reverse bs,
      no_more (eqb n (length back)) n (length back) k
          (prefix_len-le-length is_blank back) first,
    )

pub begun : (b : ℕ) (bs : List ℕ) → is_blank b ≡ false → is_empty (trimmed (b ∷ bs)) ≡ false
begun b bs e =
    ap (λ t. is_empty (trimmed_end t)) (start_stays (b ∷ bs) (omega arith) e)
    ∙ kept (length (b ∷ bs) - suffix_len is_blank (b ∷ bs)) b bs (omega (arith, fewer b bs e))
