-- What the first in an order is, said of a whole list.
use Rattle.std.specs.Prelude.{List}
use Rattle.geo_terms.specs.DelegationForm.{DelegationParts}
use Rattle.geo_terms.specs.First.{IsFirst, first_of}
use Rattle.geo_terms.specs.Precedence.{delegation_before, entry_before, override_before}
use Rattle.geo_terms.specs.Precedence.{reference_before}
use Rattle.geo_terms.specs.declared.statement.Entry.{Entry}
use Rattle.geo_terms.specs.declared.statement.Override.{Override}
use Rattle.geo_terms.specs.declared.statement.Reference.{Reference}

-- in each of the four orders, the first of a list is a member that no other goes before
pub record FirstsAreFirst : Type 0 where
  pub references : (rs : List Reference)
      → IsFirst reference_before rs (first_of reference_before rs)
  pub entries : (es : List Entry) → IsFirst entry_before es (first_of entry_before es)
  pub delegations : (ds : List DelegationParts)
      → IsFirst delegation_before ds (first_of delegation_before ds)
  pub overrides : (os : List Override) → IsFirst override_before os (first_of override_before os)
