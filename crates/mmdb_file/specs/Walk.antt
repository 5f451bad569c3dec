-- The walk of a file, from the public standard alone (MaxMind DB 2.0).
-- It shares nothing with the writer.
use Rattle.std.specs.Prelude.{ℕ, ◌+◌, ◌-◌, ◌*◌, ◌^◌, ◌==◌, ◌&&◌, ◌||◌, nat_lt, nat_le, nat_eq}
use Rattle.std.specs.Prelude.{if◌then◌else◌, Bool, List, [], ◌∷◌, length, take, drop, codes, Option}
use Rattle.std.specs.Prelude.{Some, None, Result, Ok, Err}
use Rattle.std.specs.Cmp.Lexicographic.{pointwise}
use Rattle.mmdb_data.specs.ValueTree.{ValueTree, Members, map, u16, u32, u64, u128, no_members}
use Rattle.mmdb_data.specs.ValueTree.{member}
use Rattle.mmdb_data.specs.Reading.{Fault, reads}
use Rattle.mmdb_tree.specs.declared.bits.Bits.{Bits}
use Rattle.mmdb_tree.specs.declared.bits.Bits.TheVariants.{B24, B28, B32}
use Rattle.mmdb_tree.specs.Nodes.{width, node_record}
use Rattle.mmdb_file.specs.declared.fault.OpenFault.{OpenFault}
use Rattle.mmdb_file.specs.declared.fault.OpenFault.TheVariants.{NoMarker, Metadata, Version}
use Rattle.mmdb_file.specs.declared.fault.OpenFault.TheVariants.{TreeCut}
use Rattle.mmdb_file.specs.declared.fault.WalkFault.{WalkFault}
use Rattle.mmdb_file.specs.declared.fault.WalkFault.TheVariants.{NotEnded, OutOfSection}
use Rattle.mmdb_file.specs.Marker.{marker, last_marker}

-- the value of a key: of equal keys the last counts
abbrev pub field : List ℕ → Members → Option ValueTree → Option ValueTree
field key no_members found = found
field key (member name value members) found =
    field key members (if pointwise nat_eq name key then Some value else found)

-- an unsigned number of any kind
abbrev pub unsigned_of : Option ValueTree → Option ℕ
unsigned_of (Some (u16 n)) = Some n
unsigned_of (Some (u32 n)) = Some n
unsigned_of (Some (u64 n)) = Some n
unsigned_of (Some (u128 n)) = Some n
unsigned_of _ = None

unfoldable pub number_field : List ℕ → Members → Option ℕ
number_field key members = unsigned_of (field key members None)

-- what the metadata must tell
pub record MetadataParts : Type 0 where
  pub nodes : ℕ
  pub bits : Bits
  pub major : ℕ
  pub ip : ℕ

-- there are node counts from 1 to 2^32 - 1
unfoldable pub count_of : ℕ → Option ℕ
count_of n = if nat_lt 0 n && nat_lt n (2 ^ 32) then Some n else None

-- records have 24, 28 or 32 bits
unfoldable pub bits_of_size : ℕ → Option Bits
bits_of_size n =
    if n == 24 then Some B24 else if n == 28 then Some B28 else if n == 32 then Some B32 else None

infixl 10 ◌>>=◌
abbrev pub ◌>>=◌ : {A B : Type 0} → Option A → (A → Option B) → Option B
None >>= f = None
(Some x) >>= f = f x

unfoldable pub told_of : Members → Option MetadataParts
told_of members = do
  nodes ← number_field (codes "node_count") members
  size ← number_field (codes "record_size") members
  major ← number_field (codes "binary_format_major_version") members
  ip ← number_field (codes "ip_version") members
  count ← count_of nodes
  bits ← bits_of_size size
  Some (record { nodes = count; bits = bits; major = major; ip = ip })

-- the metadata is a map
abbrev pub told_of_value : Result ValueTree Fault → Option MetadataParts
told_of_value (Ok (map members)) = told_of members
told_of_value _ = None

-- a file that was opened: its tree and its data section
pub record Opened : Type 0 where
  pub bits : Bits
  pub nodes : ℕ
  pub tree : List ℕ
  pub section : List ℕ

-- the format is version 2, and addresses have 128 bits
unfoldable pub is_known : MetadataParts → Bool
is_known told = told.major == 2 && told.ip == 6

-- the tree, 16 bytes and the data section stand before the marker
unfoldable pub cut : List ℕ → MetadataParts → Result Opened OpenFault
cut front told =
    if nat_lt (length front) (told.nodes * width told.bits + 16) then Err TreeCut
    else Ok (record {
      bits = told.bits;
      nodes = told.nodes;
      tree = take (told.nodes * width told.bits) front;
      section = drop (told.nodes * width told.bits + 16) front;
    })

abbrev pub opened_with : List ℕ → Option MetadataParts → Result Opened OpenFault
opened_with front None = Err Metadata
opened_with front (Some told) = if is_known told then cut front told else Err Version

-- the file is cut at this marker
abbrev pub opened_at : List ℕ → Option ℕ → Result Opened OpenFault
opened_at bytes None = Err NoMarker
opened_at bytes (Some offset) =
    opened_with (take offset bytes) (told_of_value (reads (drop (offset + length marker) bytes) 0))

-- the last marker counts
unfoldable pub opened : List ℕ → Result Opened OpenFault
opened bytes = opened_at bytes (last_marker bytes)

abbrev pub nodes_of : Result Opened OpenFault → Option ℕ
nodes_of (Ok file) = Some file.nodes
nodes_of (Err fault) = None

-- how many nodes these bytes tell whoever opens them that their file has
unfoldable pub nodes_told : List ℕ → Option ℕ
nodes_told bytes = nodes_of (opened bytes)

-- the record at which the way along these bits from a node ends, if it ends by then
abbrev pub seek : (ℕ → Bool → ℕ) → ℕ → ℕ → List Bool → Option ℕ
seek read nodes number [] = if nat_lt number nodes then None else Some number
seek read nodes number (b ∷ bits) =
    if nat_lt number nodes then seek read nodes (read number b) bits else Some number

-- the node count stands for no data, and above it a record leads to the data section;
-- 16 bytes stand before that
abbrev pub offset_of_record : Opened → Option ℕ → Result (Option ℕ) WalkFault
offset_of_record file None = Err NotEnded
offset_of_record file (Some r) =
    if r == file.nodes then Ok None
    else if nat_lt r (file.nodes + 16) || nat_le (length file.section) (r - (file.nodes + 16))
    then Err OutOfSection
    else Ok (Some (r - (file.nodes + 16)))

-- where the value of a way through the tree stands in the data section
unfoldable pub offset_at : Opened → List Bool → Result (Option ℕ) WalkFault
offset_at file path =
    offset_of_record file (seek (node_record file.bits file.tree) file.nodes 0 path)

-- what can stand in the way of an answer
pub data Barrier : Type 0 where
  not_opened : OpenFault → Barrier
  not_walked : WalkFault → Barrier
  not_read : Fault → Barrier

abbrev pub value_read : Result ValueTree Fault → Result (Option ValueTree) Barrier
value_read (Ok value) = Ok (Some value)
value_read (Err fault) = Err (not_read fault)

abbrev pub value_at : Opened → Result (Option ℕ) WalkFault → Result (Option ValueTree) Barrier
value_at file (Err fault) = Err (not_walked fault)
value_at file (Ok None) = Ok None
value_at file (Ok (Some offset)) = value_read (reads file.section offset)

abbrev pub walk_opened : Result Opened OpenFault → List Bool → Result (Option ValueTree) Barrier
walk_opened (Err fault) path = Err (not_opened fault)
walk_opened (Ok file) path = value_at file (offset_at file path)

-- the value that the bits of an address lead to, or none, or the first fault in the way
unfoldable pub walk : List ℕ → List Bool → Result (Option ValueTree) Barrier
walk bytes path = walk_opened (opened bytes) path
