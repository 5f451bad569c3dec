-- What is kept of the statements of one kind: the first one at each address, and their cut points.
use Rattle.std.specs.Prelude.{List, All}
use Rattle.std.specs.declared.cmp.Ordering.{Ordering}
use Rattle.geo_addr.specs.Ranges.{Ends, IsBlock, range_of_block}
use Rattle.first_index.specs.FirstIndex.{StandAtCuts, TellsFirst}
use Rattle.geo_terms.specs.Precedence.{entry_cmp}
use Rattle.geo_terms.specs.SourceForm.{FeedParts}
use Rattle.authority.specs.declared.kind_index.KindIndex.{KindIndex}

module _ {X : Type 0} (order : X → X → Ordering) (range_of : X → Ends) (xs : List X) where
  -- an index of these statements
  pub record IsKindIndex (index : KindIndex) : Type 0 where
    pub firsts : TellsFirst order range_of xs index.firsts
    pub cuts : StandAtCuts range_of xs index.firsts

-- a feed and the index of its entries, by which the longest one that holds an address is told
pub record IsReady (f : FeedParts) (index : KindIndex) : Type 0 where
  pub blocks : All (λ e. IsBlock e.block) f.entries
  pub entries : IsKindIndex entry_cmp (λ e. range_of_block e.block) f.entries index
