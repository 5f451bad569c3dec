-- What is kept of each reference in an index: how far those of its group reach,
-- and where to go on from it.
use Rattle.std.specs.Prelude.{◌≡◌, ℕ, ◌+◌, ◌<◌, ◌≤◌, ◌&&◌, Bool, true, false, nat_le, List, Some}
use Rattle.std.specs.Prelude.{length, slice_get, All, MatchOption, Option}
use Rattle.std.specs.Ordering.{is_lt}
use Rattle.geo_addr.specs.Ranges.{IsRange}
use Rattle.first_index.specs.FirstIndex.{TellsFirst}
use Rattle.geo_terms.specs.Precedence.{reference_cmp, reference_before}
use Rattle.first_index.specs.declared.boundaries.Boundary.{Boundary}
use Rattle.geo_terms.specs.declared.statement.Reference.{Reference}
use Rattle.first_index.specs.Shelf.{Key, key_of, key_cmp, is_of, same_group, shelf_cmp}
use Rattle.first_index.specs.declared.inetnums.links.Link.{Link}

-- the references stand in their order on the shelf
abbrev pub AreShelved : List Reference → Type 0
AreShelved rs = (i j : ℕ) (x y : Reference) → i ≤ j → slice_get rs i ≡ Some x
    → slice_get rs j ≡ Some y → is_lt (shelf_cmp y x) ≡ false

-- no reference of the group of x from this index on, up to k, reaches farther than x
abbrev pub IsOuter : List Reference → Reference → ℕ → ℕ → Type 0
IsOuter rs x k outer = (j : ℕ) (y : Reference) → slice_get rs j ≡ Some y → outer ≤ j → j < k
    → same_group y x ≡ true → y.range.last ≤ x.range.last

-- this is the last address that a reference of the group of x has, of those up to k
pub record IsReach (rs : List Reference) (x : Reference) (k reach : ℕ) : Type 0 where
  pub most : (j : ℕ) (y : Reference) → slice_get rs j ≡ Some y → j ≤ k → same_group y x ≡ true
      → y.range.last ≤ reach
  pub some : (j : ℕ) × ((y : Reference)
      × ((slice_get rs j ≡ Some y) ×
      ((j ≤ k) × ((same_group y x ≡ true) × (y.range.last ≡ reach)))))

pub record IsLink (rs : List Reference) (x : Reference) (k : ℕ) (link : Link) : Type 0 where
  pub outer : IsOuter rs x k link.outer
  pub reach : IsReach rs x k link.reach

-- a link for each of these references
abbrev pub AreLinks : List Reference → List Link → Type 0
AreLinks rs links = (k : ℕ) (x : Reference) (link : Link) → slice_get rs k ≡ Some x
    → slice_get links k ≡ Some link → IsLink rs x k link

-- what an index keeps
pub record IsIndex (rs : List Reference) (bs : List Boundary) (ls : List Link) : Type 0 where
  pub ranges : All (λ r. IsRange r.range) rs
  pub first : TellsFirst reference_cmp (λ r. r.range) rs bs
  pub shelved : AreShelved rs
  pub linked : length ls ≡ length rs
  pub links : AreLinks rs ls

-- whether a reference is of a URL and a family and reaches an address
abbrev pub reaches : List ℕ → ℕ → ℕ → Reference → Bool
reaches url f last r = is_of url f r && nat_le last r.range.last

-- of the indexes below this one, those of the URL and the family end at it
abbrev pub EndsAt : List ℕ → ℕ → List Reference → ℕ → Type 0
EndsAt url f rs end = (i j : ℕ) (x y : Reference) → i ≤ j → j < end → slice_get rs i ≡ Some x
    → slice_get rs j ≡ Some y → is_of url f y ≡ false → is_of url f x ≡ false

-- no reference from this index on, up to the end, reaches the address
abbrev pub NoneReaches : List ℕ → ℕ → ℕ → List Reference → ℕ → ℕ → Type 0
NoneReaches url f last rs from end = (j : ℕ) (y : Reference) → from ≤ j → j < end
    → slice_get rs j ≡ Some y → reaches url f last y ≡ false

-- the last index below the end at which a reference reaches the address
abbrev pub IsNearest : List ℕ → ℕ → ℕ → List Reference → ℕ → Option ℕ → Type 0
IsNearest url f last rs end found =
    MatchOption found (NoneReaches url f last rs 0 end)
    (λ p. (p < end) × (((x : Reference) → slice_get rs p ≡ Some x → reaches url f last x ≡ true)
    × NoneReaches url f last rs (p + 1) end))

-- the first in the order of references of those from this index on, up to the end, that reach the
-- address
abbrev pub IsFirstReaching : List ℕ → ℕ → ℕ → List Reference → ℕ → ℕ → Option Reference → Type 0
IsFirstReaching url f last rs from end first =
    MatchOption first (NoneReaches url f last rs from end)
    (λ x. ((k : ℕ) × ((slice_get rs k ≡ Some x) × ((k < end) × (reaches url f last x ≡ true))))
    × ((j : ℕ) (y : Reference) → from ≤ j → j < end → slice_get rs j ≡ Some y
    → reaches url f last y ≡ true → reference_before y x ≡ false))

-- the end of the references that stand at or before a key
abbrev pub IsEnd : Key → List Reference → ℕ → Type 0
IsEnd key rs end =
    ((j : ℕ) (y : Reference) → j < end → slice_get rs j ≡ Some y
    → is_lt (key_cmp key (key_of y)) ≡ false)
    × ((j : ℕ) (y : Reference) → end ≤ j → slice_get rs j ≡ Some y
    → is_lt (key_cmp key (key_of y)) ≡ true)

-- whether one of the references before the end reaches the address
pub record TellsSome (url : List ℕ) (f last : ℕ) (rs : List Reference) (end : ℕ)
    (found : Bool) : Type 0 where
  pub some : found ≡ true → (j : ℕ)
      × ((y : Reference) × ((slice_get rs j ≡ Some y)
      × ((j < end) × (reaches url f last y ≡ true))))
  pub none : found ≡ false → NoneReaches url f last rs 0 end
