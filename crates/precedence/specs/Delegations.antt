-- What is kept of the delegations of several files.
use Rattle.std.specs.Prelude.{◌≡◌, ℕ, ◌+◌, ⊤, List, [], ◌∷◌, Option}
use Rattle.std.specs.Prelude.{Some, None, flat_map, length, map}
use Rattle.std.specs.Arc.{arc_value}
use Rattle.std.specs.declared.sync.Arc.{Arc}
use Rattle.geo_terms.specs.Precedence.{delegation_cmp}
use Rattle.geo_terms.specs.SlotOrder.{AreInOrder}
use Rattle.geo_terms.specs.SourceForm.{StatsParts}
use Rattle.authority.specs.Kinds.{IsKindIndex}
use Rattle.precedence.specs.declared.delegations.Delegations.{Delegations}

-- where the rows of each of these files start among those of all, behind so many others
abbrev pub starts_from : ℕ → List StatsParts → List ℕ
starts_from n [] = []
starts_from n (t ∷ ts) = n ∷ starts_from (n + length t.rows) ts

-- an index of the delegations of these files, file by file
pub record IsIndex (stats : List StatsParts) (made : Delegations) : Type 0 where
  pub index : IsKindIndex delegation_cmp (λ d. d.range) (flat_map (λ t. t.rows) stats) made.index
  pub starts : made.starts.items ≡ starts_from 0 stats

module _ {Z : Type 0} where
  abbrev pub slot_of : Arc StatsParts Z → List ℕ
  slot_of t = (arc_value t).slot

  -- the index of these files, where it is made
  abbrev pub AreIndexed : List StatsParts → Option (Arc Delegations Z) → Type 0
  AreIndexed stats None = ⊤
  AreIndexed stats (Some made) = IsIndex stats (arc_value made)

  -- what is kept where these files are in force
  pub record AreFiles (files : List (Arc StatsParts Z)) (kept : Option (Arc Delegations Z))
      : Type 0 where
    pub slots : AreInOrder slot_of files
    pub made : AreIndexed (map arc_value files) kept
