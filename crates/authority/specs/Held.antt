-- What an authority keeps: dumps and feeds, and the index of all references where it is made.
use Rattle.std.specs.Prelude.{◌≡◌, ℕ, ⊤, List, [], map, flat_map, Option, Some, None, option_map}
use Rattle.std.specs.Prelude.{IfSome}
use Rattle.std.specs.Arc.{arc_value}
use Rattle.std.specs.declared.sync.Arc.{Arc}
use Rattle.geo_terms.specs.SlotOrder.{AreInOrder}
use Rattle.geo_terms.specs.SourceForm.{DumpParts, FeedParts}
use Rattle.geo_terms.specs.Sources.{InForce}
use Rattle.geo_terms.specs.declared.statement.Reference.{Reference}
use Rattle.first_index.specs.Answers.{AnswerAlike}
use Rattle.geo_terms.specs.Precedence.{reference_cmp}
use Rattle.source_changes.specs.CutPoints.{AreCutsOf}
use Rattle.authority.specs.declared.speakers.Speakers.{Speakers}
use Rattle.authority.specs.declared.voices.Voices.{Voices}
use Rattle.authority.specs.Kinds.{IsKindIndex}
use Rattle.authority.specs.Voices.{voice_of}

-- the sources in force where there are dumps and feeds alone
abbrev pub in_force : List DumpParts → List FeedParts → InForce
in_force dumps feeds = record { dumps = dumps; feeds = feeds; stats = []; overrides = None }

-- the references of several dumps
abbrev pub references_in : List DumpParts → List Reference
references_in = flat_map (λ d. d.refs)

-- an index of these references, and their cut points
pub record AreSpeakers (rs : List Reference) (made : Speakers) : Type 0 where
  pub index : AnswerAlike rs made.index
  pub cuts : AreCutsOf (map (λ r. r.range) rs) made.cuts.items
  pub kind : IfSome made.kind (IsKindIndex reference_cmp (λ r. r.range) made.index)

abbrev pub url_of : FeedParts → List ℕ
url_of f = f.url

-- the voices of these references by these feeds, where they are made
abbrev pub IsHeard : List FeedParts → List Reference → Option Voices → Type 0
IsHeard feeds rs None = ⊤
IsHeard feeds rs (Some made) = made.list.items ≡ map (voice_of feeds) rs

-- the voices of the references that an index keeps, where both are made
abbrev pub AreHeard : List FeedParts → Option Voices → Option Speakers → Type 0
AreHeard feeds None speakers = ⊤
AreHeard feeds (Some made) None = ⊤
AreHeard feeds (Some made) (Some speakers) = IsHeard feeds speakers.index (Some made)

module _ {Z : Type 0} where
  abbrev pub slot_of : Arc DumpParts Z → List ℕ
  slot_of d = (arc_value d).slot

  -- the index of these references, where it is made
  abbrev pub AreMade : List Reference → Option (Arc Speakers Z) → Type 0
  AreMade rs None = ⊤
  AreMade rs (Some made) = AreSpeakers rs (arc_value made)

  -- what an authority keeps
  pub record IsHeld (dumps : List (Arc DumpParts Z)) (speakers : Option (Arc Speakers Z))
      (feeds : List FeedParts) (voices : Option (Arc Voices Z)) : Type 0 where
    pub slots : AreInOrder slot_of dumps
    pub urls : AreInOrder url_of feeds
    pub made : AreMade (references_in (map arc_value dumps)) speakers
    pub heard : AreHeard feeds (option_map arc_value voices) (option_map arc_value speakers)
