-- What an index answers is what the references that it was made of say, in whatever order they
-- stand.
use Rattle.std.specs.Prelude.{◌≡◌, ℕ, List}
use Rattle.std.specs.List.Sorted.{IsPermutation}
use Rattle.geo_addr.specs.Ranges.{Prefix}
use Rattle.geo_terms.specs.Covering.{covering}
use Rattle.geo_terms.specs.First.{first_at}
use Rattle.geo_terms.specs.Precedence.{reference_before}
use Rattle.geo_terms.specs.Report.{is_covered}
use Rattle.geo_terms.specs.declared.statement.Reference.{Reference}

-- two lists of references that answer alike
pub record AnswerAlike (given held : List Reference) : Type 0 where
  pub same : IsPermutation given held
  pub best : (a : ℕ) → first_at reference_before (λ r. r.range) given a ≡ first_at reference_before
      (λ r. r.range) held a
  pub covering : (url : List ℕ) (b : Prefix) → covering given url b ≡ covering held url b
  pub covered : (url : List ℕ) (b : Prefix) → is_covered given url b ≡ is_covered held url b
