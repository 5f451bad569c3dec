-- Reading the value at an offset of a data section (MaxMind DB 2.0, "Output Data Section"), from
-- left to right,
-- pointers followed, with the first fault that is met.
use Rattle.std.specs.Prelude.{◌≡◌, ℕ, zero, suc, ◌+◌, ◌-◌, ◌*◌, ◌/◌, ◌%◌, ◌^◌, nat_lt, ◌==◌, ◌||◌}
use Rattle.std.specs.Prelude.{if◌then◌else◌, Bool, true, false, List, length, take, drop}
use Rattle.std.specs.Prelude.{slice_index, Option, Some, None, Result, Ok, Err}
use Rattle.std.specs.Int.{w32, cast_signed}
use Rattle.std.specs.Str.{is_utf8}
use Rattle.byteorder.specs.Endian.{big_number}
use Rattle.mmdb_data.specs.declared.budget.TheConstants.{BYTES, VALUES}
use Rattle.mmdb_data.specs.declared.fault.DataCause.{DataCause}
use Rattle.mmdb_data.specs.declared.fault.DataCause.TheVariants.{Truncated, Kind, PointerToPointer}
use Rattle.mmdb_data.specs.declared.fault.DataCause.TheVariants.{OutOfSection, Utf8, Key, Deep}
use Rattle.mmdb_data.specs.declared.fault.DataCause.TheVariants.{Many, Size, Big}
use Rattle.mmdb_data.specs.declared.fault.DataFault.{DataFault}
use Rattle.mmdb_data.specs.declared.fault.DataFault.TheVariants as faults
use Rattle.mmdb_data.specs.declared.sizes.TheConstants.{LEVELS}
use Rattle.mmdb_data.specs.ValueTree.{ValueTree, Members, Items, map, list, text, bytes, u16, u32}
use Rattle.mmdb_data.specs.ValueTree.{i32, u64}
use Rattle.mmdb_data.specs.ValueTree.{u128, bool, double, float, no_members, member, no_items, item}

-- the offset of the control byte of the value at fault, and its cause
abbrev pub Fault : Type 0
Fault = ℕ × DataCause

-- what reading may still spend: values, and bytes of texts, keys and byte strings
pub record Budget : Type 0 where
  pub values : ℕ
  pub bytes : ℕ

abbrev pub left_of : ℕ → ℕ → Budget
left_of n m = record { values = n; bytes = m }

-- what was read, the offset after it, and what is left of the budget
abbrev pub Found : Type 0 → Type 0
Found A = Result (A × ℕ × Budget) Fault

infixl 10 ◌>>=◌
abbrev pub ◌>>=◌ : {A B : Type 0} → Result A Fault → (A → Result B Fault) → Result B Fault
(Ok x) >>= f = f x
(Err e) >>= f = Err e

unfoldable pub byte_from : List ℕ → ℕ → Fault → Result ℕ Fault
byte_from section offset fault =
    if nat_lt offset (length section) then Ok (slice_index section offset)
    else Err fault

unfoldable pub bytes_from : List ℕ → ℕ → ℕ → Fault → Result (List ℕ) Fault
bytes_from section offset size fault = if nat_lt (length section - offset) size then Err fault
    else Ok (take size (drop offset section))

unfoldable pub number_from : List ℕ → ℕ → ℕ → Fault → Result ℕ Fault
number_from section offset size fault =
    bytes_from section offset size fault >>= λ found. Ok (big_number size found)

-- one more value
unfoldable pub one_less : Budget → Fault → Result Budget Fault
one_less left fault = if nat_lt 0 left.values then Ok (left_of (left.values - 1) left.bytes)
    else Err fault

-- the type, and the offset after the byte that tells it: the top three bits, where 0 says that the
-- next byte plus 7 does
unfoldable pub kind_from : List ℕ → ℕ → ℕ → Result (ℕ × ℕ) Fault
kind_from section at control =
    if control / 32 == 0 then (byte_from section (at + 1) (at, Truncated) >>= λ extended. Ok
    (extended + 7, at + 2))
    else Ok (control / 32, at + 1)

-- the size, and the offset after its bytes, from the low five bits
unfoldable pub size_from : List ℕ → ℕ → ℕ → ℕ → Result (ℕ × ℕ) Fault
size_from section at code offset =
    if nat_lt code 29 then Ok (code, offset)
    else if code == 29 then (number_from section offset 1 (at, Truncated) >>= λ more. Ok
    (29 + more, offset + 1))
    else if code == 30 then (number_from section offset 2 (at, Truncated) >>= λ more. Ok
    (285 + more, offset + 2))
    else (number_from section offset 3 (at, Truncated) >>= λ more. Ok (65821 + more, offset + 3))

-- the type, the size and the offset of the content
unfoldable pub head_from : List ℕ → ℕ → Result (ℕ × ℕ × ℕ) Fault
head_from section at = do
  control ← byte_from section at (at, Truncated)
  kind ← kind_from section at control
  size ← size_from section at (control % 32) kind.1
  Ok (kind.0, size.0, size.1)

-- a scalar has from least to greatest bytes, and its value is a function of them
pub record Scalar : Type 0 where
  pub least : ℕ
  pub greatest : ℕ
  pub value : List ℕ → ValueTree

-- an unsigned number of at most so many bytes, the highest first
abbrev pub unsigned : ℕ → (ℕ → ValueTree) → Scalar
unsigned greatest value = record {
  least = 0;
  greatest = greatest;
  value =
      λ content. value (big_number (length content) content);
}

abbrev pub signed : Scalar
signed = record {
  least = 0;
  greatest = 4;
  value =
      λ content. i32 (cast_signed w32 (big_number (length content) content));
}

-- so many bytes, kept as they are
abbrev pub kept : ℕ → ℕ → (List ℕ → ValueTree) → Scalar
kept least greatest value = record { least = least; greatest = greatest; value = value }

-- the scalars of a bounded size; 12 and 13 stand in no section
unfoldable pub scalar_of : ℕ → Option Scalar
scalar_of kind =
    if kind == 3 then Some (kept 8 8 double)
    else if kind == 5 then Some (unsigned 2 u16)
    else if kind == 6 then Some (unsigned 4 u32)
    else if kind == 8 then Some signed
    else if kind == 9 then Some (unsigned 8 u64)
    else if kind == 10 then Some (unsigned 16 u128)
    else if kind == 15 then Some (kept 4 4 float)
    else None

abbrev pub is_pointer : ℕ → Bool
is_pointer control = control / 32 == 1

-- where a pointer leads, by its control byte and the number in its further bytes, and the offset
-- after it
unfoldable pub pointer_from : List ℕ → ℕ → ℕ → Result (ℕ × ℕ) Fault
pointer_from section at control =
    if control % 32 / 8 == 0 then
    (number_from section (at + 1) 1 (at, Truncated) >>= λ low. Ok
    (control % 8 * 2 ^ 8 + low, at + 2))
    else if control % 32 / 8 == 1 then
    (number_from section (at + 1) 2 (at, Truncated) >>= λ low. Ok
    (control % 8 * 2 ^ 16 + low + 2048, at + 3))
    else if control % 32 / 8 == 2 then
    (number_from section (at + 1) 3 (at, Truncated) >>= λ low. Ok
    (control % 8 * 2 ^ 24 + low + 526336, at + 4))
    else (number_from section (at + 1) 4 (at, Truncated) >>= λ low. Ok (low, at + 5))

-- how a value is read: as a key or not, from an offset, with a budget
abbrev pub Read : Type 0
Read = Bool → ℕ → Budget → Found ValueTree

-- only a text is a key
abbrev pub key_of : ℕ → ValueTree → Result (List ℕ) Fault
key_of at (text content) = Ok content
key_of at _ = Err (at, Key)

abbrev pub members_from : Read → ℕ → ℕ → Budget → Found Members
members_from read zero offset left = Ok (no_members, offset, left)
members_from read (suc n) offset left = do
  key ← read true offset left
  name ← key_of offset key.0
  value ← read false key.1 key.2
  rest ← members_from read n value.1 value.2
  Ok (member name value.0 rest.0, rest.1, rest.2)

abbrev pub items_from : Read → ℕ → ℕ → Budget → Found Items
items_from read zero offset left = Ok (no_items, offset, left)
items_from read (suc n) offset left = do
  value ← read false offset left
  rest ← items_from read n value.1 value.2
  Ok (item value.0 rest.0, rest.1, rest.2)

-- the bytes of a scalar; it is no key
unfoldable pub scalar_bytes_from : List ℕ → Bool → ℕ → ℕ → ℕ → ℕ → ℕ → Result (List ℕ) Fault
scalar_bytes_from section is_key at least greatest size offset =
    if nat_lt size least || nat_lt greatest size then Err (at, Size)
    else (bytes_from section offset size (at, Truncated) >>= λ content. if is_key then Err (at, Key)
    else Ok content)

abbrev pub scalar_value_from : List ℕ → Bool → ℕ → Option Scalar → ℕ → ℕ → Result ValueTree Fault
scalar_value_from section is_key at None size offset = Err (at, Kind)
scalar_value_from section is_key at (Some scalar) size offset =
    scalar_bytes_from section is_key at scalar.least scalar.greatest size offset >>= λ content. Ok
    (scalar.value content)

unfoldable pub scalar_from : List ℕ → Bool → ℕ → ℕ → ℕ → ℕ → Result ValueTree Fault
scalar_from section is_key at kind size offset =
    scalar_value_from section is_key at (scalar_of kind) size offset

-- content that spends bytes of the budget, each time that it is met
unfoldable pub content_bytes_from : List ℕ → ℕ → ℕ → ℕ → Budget → Result (List ℕ × Budget) Fault
content_bytes_from section at size offset left =
    bytes_from section offset size (at, Truncated) >>= λ content.
    if nat_lt left.bytes size then Err (at, Big)
    else Ok (content, left_of left.values (left.bytes - size))

unfoldable pub text_from : List ℕ → ℕ → ℕ → ℕ → Budget → Result (List ℕ × Budget) Fault
text_from section at size offset left =
    content_bytes_from section at size offset left >>= λ found. if is_utf8 found.0 then Ok found
    else Err (at, Utf8)

-- it is no key
unfoldable pub byte_string_from : List ℕ → Bool → ℕ → ℕ → ℕ → Budget
    → Result (List ℕ × Budget) Fault
byte_string_from section is_key at size offset left =
    content_bytes_from section at size offset left >>= λ found. if is_key then Err (at, Key)
    else Ok found

-- the size is the value
unfoldable pub bool_from : Bool → ℕ → ℕ → Result Bool Fault
bool_from is_key at size = if nat_lt 1 size then Err (at, Size) else if is_key then Err (at, Key)
    else Ok (size == 1)

-- a value without parts
unfoldable pub leaf_from : List ℕ → Bool → ℕ → ℕ → ℕ → ℕ → Budget → Found ValueTree
leaf_from section is_key at kind size offset left =
    if kind == 2 then (text_from section at size offset left >>= λ found. Ok
    (text found.0, offset + size, found.1))
    else if kind == 4 then (byte_string_from section is_key at size offset left >>= λ found. Ok
    (bytes found.0, offset + size, found.1))
    else if kind == 14 then (bool_from is_key at size >>= λ b. Ok (bool b, offset, left))
    else (scalar_from section is_key at kind size offset
    >>= λ value. Ok (value, offset + size, left))

-- the value at an offset by its type, its size and the offset of its content: 7 is a map, and 11 a
-- list
unfoldable pub content_from : Read → List ℕ → Bool → ℕ → ℕ → ℕ → ℕ → Budget → Found ValueTree
content_from read section is_key at kind size offset left =
    if kind == 7 then (if is_key then Err (at, Key)
    else (members_from read size offset left >>= λ found. Ok (map found.0, found.1, found.2)))
    else if kind == 11 then (if is_key then Err (at, Key)
    else (items_from read size offset left >>= λ found. Ok (list found.0, found.1, found.2)))
    else leaf_from section is_key at kind size offset left

-- the value at an offset that is no pointer
unfoldable pub plain_from : Read → List ℕ → Bool → ℕ → Budget → Found ValueTree
plain_from read section is_key at left = do
  head ← head_from section at
  content_from read section is_key at head.0 head.1 head.2 left

-- the value that a pointer leads to, and the offset after the pointer
unfoldable pub target_from : Read → List ℕ → Bool → ℕ → ℕ → Budget → Found ValueTree
target_from read section is_key at control left = do
  pointer ← pointer_from section at control
  first ← byte_from section pointer.0 (at, OutOfSection)
  if is_pointer first then Err (pointer.0, PointerToPointer)
      else (plain_from read section is_key pointer.0 left >>= λ found. Ok
      (found.0, pointer.1, found.2))

-- the value at an offset, with so many levels left; a pointer and its target are one value
unfoldable pub value_from : List ℕ → ℕ → Bool → ℕ → Budget → Found ValueTree
value_from section zero is_key at left = Err (at, Deep)
value_from section (suc levels) is_key at left = do
  rest ← one_less left (at, Many)
  control ← byte_from section at (at, Truncated)
  if is_pointer control then target_from (value_from section levels) section is_key at control rest
      else plain_from (value_from section levels) section is_key at rest

-- the value at an offset of a section: at most so many levels, so many values, keys counted, and
-- so many bytes of texts, keys and byte strings
unfoldable pub reads : List ℕ → ℕ → Result ValueTree Fault
reads section at =
    if nat_lt at (length section) then
    (value_from section LEVELS false at (left_of VALUES BYTES) >>= λ found. Ok found.0)
    else Err (at, OutOfSection)

-- What a function returned, seen by view, is what reading gives, unless memory ran out.
abbrev pub Fails : {Y : Type 0} → DataFault → Result Y Fault → Type 0
Fails faults.Memory read = Unit {0}
Fails (faults.Bad at cause) read = read ≡ Err (at, cause)

abbrev pub Gives : {X Y : Type 0} → (X → Y) → Result X DataFault → Result Y Fault → Type 0
Gives view (Ok x) read = read ≡ Ok (view x)
Gives view (Err fault) read = Fails fault read
