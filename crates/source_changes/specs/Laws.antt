-- What the sources say changes only on the grounds of the statements that changed.
use Rattle.std.specs.Prelude.{◌≡◌, ◌↔◌, ℕ, true, false, List, ◌++◌, All, length}
use Rattle.std.specs.List.Sorted.{IsPermutation}
use Rattle.geo_addr.specs.Ranges.{Ends, holds}
use Rattle.geo_terms.specs.DelegationForm.{DelegationParts}
use Rattle.geo_terms.specs.Precedence.{spoken_at}
use Rattle.geo_terms.specs.Sources.{InForce}
use Rattle.geo_terms.specs.declared.statement.Entry.{Entry}
use Rattle.geo_terms.specs.declared.statement.Override.{Override}
use Rattle.geo_terms.specs.declared.statement.Reference.{Reference}
use Rattle.source_changes.specs.Changes.{Change, after, after_all, all_changes, changes}
use Rattle.source_changes.specs.Keeping.{AreSources, IsSound}
use Rattle.source_changes.specs.SameStatement.{same_delegation, same_entry, same_override}
use Rattle.source_changes.specs.SameStatement.{same_reference}
use Rattle.source_changes.specs.Touched.{ground_of, is_touched}

-- statements are compared by all that they have but their lines
pub record LinesDoNotCount : Type 0 where
  pub references : (x y : Reference)
      → (same_reference x y ≡ true) ↔ (record x { line = y.line } ≡ y)
  pub entries : (x y : Entry) → (same_entry x y ≡ true) ↔ (record x { line = y.line } ≡ y)
  pub delegations : (x y : DelegationParts)
      → (same_delegation x y ≡ true) ↔ (record x { line = y.line } ≡ y)
  pub overrides : (x y : Override) → (same_override x y ≡ true) ↔ (record x { line = y.line } ≡ y)

-- a range and its ground hold the same addresses
abbrev pub GroundsHoldTheSame : Type 0
GroundsHoldTheSame = (r : Ends) (a : ℕ) → holds (ground_of r) a ≡ holds r a

-- one call changes what is said only of addresses that it touches
abbrev pub OneChange : Type 0
OneChange =
    (s : InForce) (c : Change) (a : ℕ) → AreSources s
    → AreSources (after c s) → is_touched (changes c s) a ≡ false
    → spoken_at s a ≡ spoken_at (after c s) a

-- sources stay sources when a sound one is set or one is dropped
abbrev pub SourcesStay : Type 0
SourcesStay = (s : InForce) (c : Change) → AreSources s → IsSound c → AreSources (after c s)

-- off the touched grounds these sources say what those before them said
abbrev pub IsKeptOutside : (touched : List Ends) → (before now : InForce) → Type 0
IsKeptOutside touched before now =
    (a : ℕ) → is_touched touched a ≡ false → spoken_at before a ≡ spoken_at now a

-- so it stays with one more call, where what it touches is added in any order
abbrev pub KeptByOneMore : Type 0
KeptByOneMore =
    (before s : InForce) (c : Change) (touched more : List Ends) → AreSources s → IsSound c
    → IsPermutation (changes c s) more
    → IsKeptOutside touched before s → IsKeptOutside (touched ++ more) before (after c s)

-- and with all calls of a list
abbrev pub KeptByAll : Type 0
KeptByAll =
    (s : InForce) (cs : List Change) → AreSources s → All IsSound cs
    → IsKeptOutside (all_changes cs s) s (after_all cs s)

-- in whatever order touched grounds stand, they are as many and hold the same addresses
abbrev pub OrderDoesNotMatter : Type 0
OrderDoesNotMatter =
    (xs ys : List Ends) → IsPermutation xs ys
    → (length ys ≡ length xs) × ((a : ℕ) → is_touched xs a ≡ is_touched ys a)
