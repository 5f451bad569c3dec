-- The reference that covers a block: the first in the order of references
-- among those of a URL that cover it.
use Rattle.std.specs.Prelude.{ℕ, ◌&&◌, List, Option, filter}
use Rattle.geo_addr.specs.Ranges.{Prefix}
use Rattle.geo_terms.specs.First.{first_of}
use Rattle.geo_terms.specs.PlaceForm.{same_text}
use Rattle.geo_terms.specs.Precedence.{reference_before}
use Rattle.geo_terms.specs.Report.{covers}
use Rattle.geo_terms.specs.declared.statement.Reference.{Reference}

-- the first reference of a URL whose range is of the block's family and contains the block
abbrev pub covering : List Reference → List ℕ → Prefix → Option Reference
covering rs url b = first_of reference_before (filter (λ r. same_text r.url url && covers r b) rs)
