-- The range of the two sides of a hyphen.
use Rattle.std.proofs.Common.{◌≡◌, ◌≢◌, ℕ, List, ◌∷◌, ◌++◌, Option, Some, None, All, Bor}
use Rattle.std.proofs.Common.{MatchOption, sym, ap, ◌∙◌}
use Rattle.geo_addr.specs.Lines.{trimmed_start, trimmed_end}
use Rattle.geo_addr.specs.Prefixes.{block_in}
use Rattle.geo_addr.specs.Spans.{range_between, range_of_read, range_of_sides, span_in}
use Rattle.geo_addr.proofs.PrefixLemmas.{cut_first-is}

-- the range of a text with no hyphen
pub span_in-alone : (text before : List ℕ) (after : Option (Bor (List ℕ)))
    → All (λ b. b ≢ 45) before
    → MatchOption after (text ≡ before) (λ rest. text ≡ before ++ 45 ∷ rest.now) → after ≡ None
    → range_of_read (block_in text) ≡ span_in text
span_in-alone text before after free joined none =
    let cut = cut_first-is 45 text before after free joined in
    ap (λ t. range_of_read (block_in t)) (rw none at joined)
    ∙ sym (ap range_of_sides (rw none at cut))

-- the range of a text with a hyphen
pub span_in-hyphen : (text before : List ℕ) (after : Option (Bor (List ℕ))) (right : Bor (List ℕ))
    → All (λ b. b ≢ 45) before
    → MatchOption after (text ≡ before) (λ rest. text ≡ before ++ 45 ∷ rest.now)
    → after ≡ Some right
    → range_between (trimmed_end before) (trimmed_start right.now) ≡ span_in text
span_in-hyphen text before after right free joined some =
    let cut = cut_first-is 45 text before after free joined in
    sym (ap range_of_sides (rw some at cut))
