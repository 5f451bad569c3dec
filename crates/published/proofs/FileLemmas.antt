-- What was written of lines so far, with one line more.
use Rattle.std.proofs.Common.{inl, inr, ◌≡◌, ℕ, zero, suc, ◌+◌, ◌<◌, ◌≤◌, List, [], ◌∷◌, ◌++◌}
use Rattle.std.proofs.Common.{length, drop, get_or, Option, refl, sym, ap, ◌∙◌, subst, arith}
use Rattle.std.proofs.lemmas.Bool.{cases_eq}
use Rattle.std.proofs.lemmas.List.{append_assoc, append-nil}
use Rattle.geo_terms.specs.PlaceForm.{PlaceParts}
use Rattle.publish_least.specs.declared.line.Line.{Line}
use Rattle.published.specs.FeedText.{feed_text, line_text}
use Rattle.published.specs.Reread.{IsLineInForm}

same_or : (xs : List Line) (i : ℕ) (d e : Line) → i < length xs → get_or xs i d ≡ get_or xs i e
same_or [] i d e l = absurd (omega arith)
same_or (x ∷ xs) zero d e l = refl
same_or (x ∷ xs) (suc i) d e l = same_or xs i d e (omega arith)

drop_past : (i : ℕ) (xs : List Line) → length xs ≤ i → drop i xs ≡ []
drop_past zero [] l = refl
drop_past zero (x ∷ xs) l = absurd (omega arith)
drop_past (suc i) [] l = refl
drop_past (suc i) (x ∷ xs) l = drop_past i xs (omega arith)

module _ (p : ℕ → Option PlaceParts) where
  next_line : (xs : List Line) (i : ℕ) (x : Line) → i < length xs → x ≡ get_or xs i x
      → feed_text p (drop i xs)
      ≡ (line_text x.block (p x.leaf) ++ (10 ∷ [])) ++ feed_text p (drop (i + 1) xs)
  next_line [] i x l is = absurd (omega arith)
  next_line (y ∷ ys) zero x l is =
      ap (λ (z : Line). (line_text z.block (p z.leaf) ++ (10 ∷ [])) ++ feed_text p ys) (sym is)
  next_line (y ∷ ys) (suc i) x l is =
      let adds : suc i + 1 ≡ suc (i + 1) = omega arith in
      rw adds (next_line ys i x (omega arith) is)

  pub one_more : (xs : List Line) (i : ℕ) (x : Line) (o : Option PlaceParts) (before after : List ℕ)
      → i < length xs → x ≡ get_or xs i x → o ≡ p x.leaf
      → after ≡ before ++ (line_text x.block o ++ (10 ∷ []))
      → before ++ feed_text p (drop i xs) ≡ feed_text p xs
      → after ++ feed_text p (drop (i + 1) xs) ≡ feed_text p xs
  one_more xs i x o before after l is place written done =
      ap (λ t. t ++ feed_text p (drop (i + 1) xs))
      (written ∙ ap (λ q. before ++ (line_text x.block q ++ (10 ∷ []))) place)
      ∙ append_assoc before (line_text x.block (p x.leaf) ++ (10 ∷ []))
      (feed_text p (drop (i + 1) xs))
      ∙ ap (λ t. before ++ t) (sym (next_line xs i x l is))
      ∙ done

  pub form_more : (xs : List Line) (i : ℕ) (x : Line) (o : Option PlaceParts) → i < length xs
      → x ≡ get_or xs i x → o ≡ p x.leaf → IsLineInForm x.block o
      → ((k : ℕ) (d : Line) → k < i → IsLineInForm (get_or xs k d).block (p (get_or xs k d).leaf))
      → (k : ℕ) (d : Line) → k < i + 1 → IsLineInForm (get_or xs k d).block (p (get_or xs k d).leaf)
  form_more xs i x o l is place form done k d less = elim (cases_eq k i) [
    | inl same ↦
        let here : x ≡ get_or xs i d = is ∙ same_or xs i x d l in
        rw same (subst (λ (z : Line). IsLineInForm z.block (p z.leaf)) here
        (subst (IsLineInForm x.block) place form))
    | inr other ↦ done k d (omega arith)
  ]

  pub whole : (xs : List Line) (i : ℕ) (text : List ℕ) → length xs ≤ i
      → text ++ feed_text p (drop i xs) ≡ feed_text p xs → text ≡ feed_text p xs
  whole xs i text l done =
      sym (append-nil text) ∙ ap (λ ys. text ++ feed_text p ys) (sym (drop_past i xs l)) ∙ done
