-- A text that is cut at its first separator.
use Rattle.std.proofs.Common.{◌≡◌, ◌≢◌, ℕ, List, ◌∷◌, ◌++◌, Option, Some, None, All, Bor}
use Rattle.std.proofs.Common.{MatchOption, sym, ap, subst, ◌∙◌}

-- the side before a cut, and what the text is
pub all_before : (text before : List ℕ) (after : Option (Bor (List ℕ))) (separator : ℕ)
    → MatchOption after (text ≡ before) (λ rest. text ≡ before ++ separator ∷ rest.now)
    → after ≡ None → All (λ b. b ≢ separator) before → All (λ b. b ≢ separator) text
all_before text before None separator sides e free =
    subst (λ (t : List ℕ). All (λ b. b ≢ separator) t) (sym sides) free
all_before text before (Some rest) separator sides e free =
    absurd (let f : Some rest ≡ None = e in cc)

pub cut_is : (text before : List ℕ)
    (after : Option (Bor (List ℕ))) (rest : Bor (List ℕ)) (separator : ℕ)
    → MatchOption after (text ≡ before) (λ rest. text ≡ before ++ separator ∷ rest.now)
    → after ≡ Some rest → text ≡ before ++ separator ∷ rest.now
cut_is text before None rest separator sides e = absurd (let f : None ≡ Some rest = e in cc)
cut_is text before (Some other) rest separator sides e =
    let f : Some other ≡ Some rest = e in let same : other ≡ rest = cc in
    sides ∙ ap (λ r. before ++ separator ∷ r.now) same
