-- The lines of a text of which more follows.
use Rattle.std.proofs.Common.{◌≡◌, ℕ, ◌+◌, ◌≤◌, ◌⊎◌, inl, inr, false, cond, List}
use Rattle.std.proofs.Common.{[], ◌∷◌, ◌++◌, length, drop, sym, ap, ap₂, ◌∙◌, arith}
use Rattle.std.proofs.lemmas.List.{append_assoc}
use Rattle.std.specs.List.{starts_with}
use Rattle.std.specs.Prelude.{nat_eq}
use Rattle.geo_addr.specs.Lines.{byte_order_mark, numbered_lines, without_mark}
use Rattle.line_parts.specs.Parts.{EndsWithFeed, behind, feeds}
use Rattle.line_parts.proofs.GatherLemmas.{behind_none}
use Rattle.line_parts.proofs.PartLemmas.{parted}

-- what begins with three bytes that are no mark begins with none, whatever follows
unmarked_more : (left more : List ℕ) → 3 ≤ length left
    → starts_with nat_eq left byte_order_mark ≡ false → without_mark (left ++ more) ≡ left ++ more
unmarked_more [] more long free = absurd (omega arith)
unmarked_more (a ∷ []) more long free = absurd (omega arith)
unmarked_more (a ∷ b ∷ []) more long free = absurd (omega arith)
unmarked_more (a ∷ b ∷ c ∷ xs) more long free =
    ap (λ t. cond t (drop 3 (a ∷ b ∷ c ∷ xs ++ more)) (a ∷ b ∷ c ∷ xs ++ more)) free

-- no lines, and then all
pub none_whole : (text more : List ℕ) → numbered_lines (text ++ more)
    ≡ numbered_lines [] ++ behind (feeds []) (numbered_lines (text ++ more))
none_whole text more = sym (behind_none (numbered_lines (text ++ more)))

module _ (lines left text : List ℕ) where
  pub whole_split : lines ++ left ≡ text → (lines ≡ []) ⊎ EndsWithFeed lines → 3 ≤ length left
      → starts_with nat_eq left byte_order_mark ≡ false → (more : List ℕ)
      → numbered_lines (text ++ more)
      ≡ numbered_lines lines ++ behind (feeds lines) (numbered_lines (left ++ more))
  whole_split joined (inl none) long free more =
      ap (λ t. numbered_lines (t ++ more)) (sym joined ∙ ap (λ l. l ++ left) none)
      ∙ none_whole left more
      ∙ ap (λ l. numbered_lines l ++ behind (feeds l) (numbered_lines (left ++ more))) (sym none)
  whole_split joined (inr end) long free more =
      let all : lines ++ (left ++ more) ≡ text ++ more =
      sym (append_assoc lines left more) ∙ ap (λ t. t ++ more) joined in
      let none_more : 0 + feeds lines ≡ feeds lines = omega arith in
      sym (behind_none (numbered_lines (text ++ more)))
      ∙ parted 0 lines (left ++ more) (text ++ more) all (inr end)
      (unmarked_more left more long free)
      ∙ ap₂ (λ t n. t ++ behind n (numbered_lines (left ++ more)))
      (behind_none (numbered_lines lines)) none_more
