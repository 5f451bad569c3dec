-- How the values that stand in full are found: at two slots of their spellings, by a second number
-- of theirs, or in an ordered map.
use Rattle.std.specs.Prelude.{◌≡◌, ◌≢◌, ◌⊎◌, ℕ, zero, suc, ◌+◌, ◌-◌, ◌*◌, ◌%◌, ◌^◌, ◌<◌, ◌≤◌}
use Rattle.std.specs.Prelude.{cond, nat_eq, List, [], ◌∷◌, length, get_or, slice_get, take, drop}
use Rattle.std.specs.Prelude.{Option, Some, None}
use Rattle.std.specs.BTreeMap.{BTreeMap, get, get_by}
use Rattle.std.specs.Cmp.Lexicographic.{pointwise, slice_cmp}
use Rattle.std.specs.Global.{Vec}
use Rattle.std.specs.Hash.FoldHasher as folding
use Rattle.std.specs.Int.{w64, to_le_bytes}
use Rattle.std.specs.Map.{lookup}
use Rattle.std.specs.Option.{unwrap_or}
use Rattle.std.specs.Ordering.{nat_cmp}
use Rattle.mmdb_data.specs.declared.full_values.Table.{Table}
use Rattle.mmdb_data.specs.declared.spelled_list.Spelled.{Spelled}

-- spellings with their offsets
abbrev pub Entries : Type 0
Entries = List (List ℕ × ℕ)

-- a spelling stands among these bytes
pub record IsWithin (texts : List ℕ) (spelled : Spelled) : Type 0 where
  pub start : spelled.start ≤ spelled.end
  pub end : spelled.end ≤ length texts

-- the spelling that stands there, with its offset
abbrev pub spelled_in : List ℕ → Spelled → List ℕ × ℕ
spelled_in texts spelled =
    (take (spelled.end - spelled.start) (drop spelled.start texts), spelled.at)

-- what a map says of a spelling
abbrev pub get_by_bytes : List ℕ → BTreeMap (Vec ℕ) ℕ → Option ℕ
get_by_bytes x others = get_by (λ (key : Vec ℕ). slice_cmp nat_cmp x key.items) others

-- what a spelling is mixed to
unfoldable pub mixed : List ℕ → ℕ
mixed spelled = folding.finish (folding.write folding.initial spelled)

-- what it is mixed to once more, behind what it was mixed to, and below that what it is mixed to
-- behind this
unfoldable pub mixed_again : List ℕ → ℕ
mixed_again spelled =
    let again =
    folding.write (folding.write folding.initial (to_le_bytes w64 (mixed spelled))) spelled in
    folding.finish again * 2 ^ 64 + folding.finish (folding.write again spelled)

-- the first of the two slots that follow from a number, of so many; the second is the next one
abbrev pub slot_by : ℕ → ℕ → ℕ
slot_by first len = first % (len - 1)

-- where the number of a spelling can be held
pub data Spot : Type 0 where
  slot : ℕ → Spot
  ranked : ℕ → Spot

-- what is held there: 0 that no spelling with this slot or rank has come, and k + 1 to look at
-- entry k first
abbrev pub held : Table → Spot → ℕ
held table (slot p) = get_or table.slots.items p 0
held table (ranked r) = unwrap_or (get nat_cmp table.ranks r) 0

-- two slots, and behind them a rank
abbrev pub spots_of : List ℕ → ℕ → List Spot
spots_of spelled len =
    slot (slot_by (mixed spelled) len) ∷ slot (slot_by (mixed spelled) len + 1)
    ∷ ranked (mixed_again spelled) ∷ []

-- what an entry says of a spelling, where it is not another's
abbrev pub said_or : List ℕ → Option (List ℕ × ℕ) → Option ℕ → Option ℕ
said_or spelled None rest = rest
said_or spelled (Some entry) rest = cond (pointwise nat_eq spelled entry.0) (Some entry.1) rest

-- what it says of a spelling that this is held at a spot of it
abbrev pub told : Entries → List ℕ → ℕ → Option ℕ → Option ℕ
told entries spelled zero rest = None
told entries spelled (suc k) rest = said_or spelled (slice_get entries k) rest

-- what is held at the spots says one after the other, and then the others
abbrev pub look : Entries → Table → Option ℕ → List ℕ → List Spot → Option ℕ
look entries table other spelled [] = other
look entries table other spelled (p ∷ ps) =
    told entries spelled (held table p) (look entries table other spelled ps)

-- each spelling came once
abbrev pub AreNew : Entries → Type 0
AreNew entries = (i : ℕ) (entry : List ℕ × ℕ) → slice_get entries i ≡ Some entry
    → lookup (pointwise nat_eq entry.0) (take i entries) ≡ None

-- the table finds each entry
pub record IsTable (entries : Entries) (table : Table) : Type 0 where
  pub some : 1 < length table.slots.items
  pub within : (p : Spot) (k : ℕ) → held table p ≡ suc k → k < length entries
  pub of : (x : List ℕ) (at : ℕ) → get_by_bytes x table.others ≡ Some at
      → lookup (pointwise nat_eq x) entries ≡ Some at
  pub finds : (x : List ℕ) → look entries table (get_by_bytes x table.others) x
      (spots_of x (length table.slots.items)) ≡ lookup (pointwise nat_eq x) entries

-- a spelling with its offset went to the others
abbrev pub IsOther : List ℕ → ℕ → BTreeMap (Vec ℕ) ℕ → BTreeMap (Vec ℕ) ℕ → Type 0
IsOther x at old new = (y : List ℕ) → get_by_bytes y new
    ≡ cond (pointwise nat_eq x y) (Some at) (get_by_bytes y old)

-- the number went to this spot, and nothing else changed
pub record IsHeld (old new : Table) (n : ℕ) (p : Spot) : Type 0 where
  pub here : held new p ≡ suc n
  pub elsewhere : (q : Spot) → q ≢ p → held new q ≡ held old q
  pub others : (y : List ℕ) → get_by_bytes y new.others ≡ get_by_bytes y old.others

-- the number went to the first free one of these spots, or the spelling to the others
abbrev pub IsPutAt : Table → Table → ℕ → List ℕ → ℕ → List Spot → Type 0
IsPutAt old new n x at [] =
    ((q : Spot) → held new q ≡ held old q) × IsOther x at old.others new.others
IsPutAt old new n x at (p ∷ ps) =
    ((held old p ≡ 0) × IsHeld old new n p) ⊎ ((held old p ≢ 0) × IsPutAt old new n x at ps)

-- the same of the spelling's spots
pub record IsPut (old new : Table) (n : ℕ) (x : List ℕ) (at : ℕ) : Type 0 where
  pub len : length new.slots.items ≡ length old.slots.items
  pub put : IsPutAt old new n x at (spots_of x (length old.slots.items))

-- both hold the same
pub record IsAlike (old new : Table) : Type 0 where
  pub slots : new.slots.items ≡ old.slots.items
  pub ranks : new.ranks.entries ≡ old.ranks.entries
  pub others : new.others.entries ≡ old.others.entries
