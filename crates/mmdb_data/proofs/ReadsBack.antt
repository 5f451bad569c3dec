-- What is written of a value is read again, whatever stands before and after it.
use Rattle.std.proofs.Common.{◌≡◌, ℕ, ◌+◌, ◌^◌, ◌<◌, ◌≤◌, Bool, true, false, eqb, ltb, List, []}
use Rattle.std.proofs.Common.{◌++◌, length, drop, Some, Result, Ok, Err, refl, sym, ap, ◌∙◌, subst}
use Rattle.std.proofs.Common.{append_assoc, arith, inl, inr, ◌-◌}
use Rattle.std.specs.Prelude.{ℤ, pos, negsuc, FitsSigned, slice_index}
use Rattle.std.specs.Int.{w32, bytes_high_first, cast_signed, cast_unsigned}
use Rattle.std.specs.Str.{IsUtf8}
use Rattle.std.proofs.lemmas.Bool.{lt-ltb, ltb-true}
use Rattle.std.proofs.lemmas.Int.{to_z-of_z, ints}
use Rattle.std.proofs.lemmas.List.{length-append, append-nil, drop_at}
use Rattle.byteorder.specs.Endian.{big_number}
use Rattle.mmdb_data.specs.ValueTree.{ValueTree, Members, Items, map, list, text, bytes, u16, u32}
use Rattle.mmdb_data.specs.ValueTree.{i32, u64}
use Rattle.mmdb_data.specs.ValueTree.{u128, bool, double, float, no_members, member, no_items, item}
use Rattle.mmdb_data.specs.ValueTree.{members_len, items_len, count, depth, bytes_in, most}
use Rattle.mmdb_data.specs.ValueTree.{CanBeSpelled}
use Rattle.mmdb_data.specs.ValueTree.{IsWithinLimits, IsNarrow, MembersAreNarrow, ItemsAreNarrow}
use Rattle.mmdb_data.specs.ValueTree.{IsTyped, MembersAreTyped, ItemsAreTyped}
use Rattle.mmdb_data.specs.Spelling.{head, sized, without_zeros, spelling, members_spelling}
use Rattle.mmdb_data.specs.Spelling.{items_spelling}
use Rattle.mmdb_data.specs.Reading.{Fault, Budget, byte_from, Scalar, unsigned, signed, kept}
use Rattle.mmdb_data.specs.Reading.{scalar_of, content_from, leaf_from, bool_from, reads}
use Rattle.mmdb_data.specs.declared.fault.DataCause.TheVariants.{Truncated}
use Rattle.mmdb_data.proofs.Bounds.{chosen}
use Rattle.mmdb_data.proofs.Offsets.{moved}
use Rattle.mmdb_data.proofs.Values.{IsPlain, IsScalar, StandsFull, stands, ends_at, some_values}
use Rattle.mmdb_data.proofs.Values.{alone, text_again, byte_string_again, scalar_again}
use Rattle.mmdb_data.proofs.Values.{number_again, few_bytes}
use Rattle.mmdb_data.proofs.Containers.{MembersStand, ItemsStand, no_more, none_left, member_stands}
use Rattle.mmdb_data.proofs.Containers.{item_stands, map_stands, list_stands}

-- wherever it is written it stands
abbrev pub Again : List ℕ → ValueTree → Type 0
Again section value = (at : ℕ) (y : List ℕ) → drop at section ≡ spelling value ++ y
    → StandsFull section value at (at + length (spelling value))

abbrev MembersAgain : List ℕ → Members → Type 0
MembersAgain section members = (at : ℕ) (y : List ℕ)
    → drop at section ≡ members_spelling members ++ y
    → MembersStand section members at (at + length (members_spelling members))

abbrev ItemsAgain : List ℕ → Items → Type 0
ItemsAgain section items = (at : ℕ) (y : List ℕ) → drop at section ≡ items_spelling items ++ y
    → ItemsStand section items at (at + length (items_spelling items))

map_again : (section : List ℕ) (members : Members) → members_len members ≤ most
    → MembersAgain section members → Again section (map members)
map_again section members fits inner at y here =
    let parts = here ∙ append_assoc (head 7 (members_len members)) (members_spelling members) y in
    let offset = at + length (head 7 (members_len members)) in
    let found = inner offset y (moved section at (head 7 (members_len members))
    (members_spelling members ++ y) offset parts refl) in
    ends_at (map_stands section members at (offset + length (members_spelling members))
    (members_spelling members ++ y) fits parts found)
    (omega (arith, length-append (head 7 (members_len members)) (members_spelling members)))

list_again : (section : List ℕ) (items : Items) → items_len items ≤ most → ItemsAgain section items
    → Again section (list items)
list_again section items fits inner at y here =
    let parts = here ∙ append_assoc (head 11 (items_len items)) (items_spelling items) y in
    let offset = at + length (head 11 (items_len items)) in
    let found = inner offset y (moved section at (head 11 (items_len items))
    (items_spelling items ++ y) offset parts refl) in
    ends_at (list_stands section items at (offset + length (items_spelling items))
    (items_spelling items ++ y) fits parts found)
    (omega (arith, length-append (head 11 (items_len items)) (items_spelling items)))

-- an unsigned number, in its fewest bytes
number_is : (section : List ℕ) (kind size n : ℕ) (value : ℕ → ValueTree)
    → ((k : ℕ) → IsPlain (value k))
    → spelling (value n) ≡ sized kind (without_zeros (bytes_high_first size n))
    → IsScalar kind (unsigned size value) → n < 256 ^ size → Again section (value n)
number_is section kind size n value plain spelled is fits at y here =
    let content = without_zeros (bytes_high_first size n) in
    let found = scalar_again section at kind (unsigned size value) content y is
    (plain (big_number (length content) content)) (omega arith) (few_bytes size n)
    (here ∙ ap (λ (x : List ℕ). x ++ y) spelled) in
    ends_at (subst (λ (k : ℕ). StandsFull section (value k) at (at + length (sized kind content)))
    (number_again size n fits) found) (ap (λ (x : List ℕ). at + length x) (sym spelled))

-- bytes that are their own value
bytes_are : (section : List ℕ) (kind size : ℕ) (content : List ℕ) (value : List ℕ → ValueTree)
    → IsPlain (value content) → spelling (value content) ≡ sized kind content
    → IsScalar kind (kept size size value) → length content ≡ size → Again section (value content)
bytes_are section kind size content value plain spelled is len at y here =
    ends_at (scalar_again section at kind (kept size size value) content y is plain
    (omega (arith, len)) (omega (arith, len)) (here ∙ ap (λ (x : List ℕ). x ++ y) spelled))
    (ap (λ (x : List ℕ). at + length x) (sym spelled))

unsigned_fits : (n : ℤ) → FitsSigned w32 n → cast_unsigned w32 n < 2 ^ 32
unsigned_fits (pos n) fits = omega (arith, ints)
unsigned_fits (negsuc n) fits = omega arith

-- the scalars of the format
scalar : {kind : ℕ} {s : Scalar} → eqb kind 7 ≡ false → eqb kind 11 ≡ false → eqb kind 2 ≡ false
    → eqb kind 4 ≡ false → eqb kind 14 ≡ false → scalar_of kind ≡ Some s → 2 ≤ kind
    → s.greatest ≤ most → IsScalar kind s
scalar no_map no_list no_text no_bytes no_bool known low narrow =
    record {
      no_map = no_map;
      no_list = no_list;
      no_text = no_text;
      no_bytes = no_bytes;
      no_bool =
          no_bool;
      known = known;
      low = low;
      narrow = narrow;
    }

u16_is : IsScalar 5 (unsigned 2 u16)
unfolding scalar_of
u16_is = scalar refl refl refl refl refl refl (omega arith) (omega arith)

u32_is : IsScalar 6 (unsigned 4 u32)
unfolding scalar_of
u32_is = scalar refl refl refl refl refl refl (omega arith) (omega arith)

u64_is : IsScalar 9 (unsigned 8 u64)
unfolding scalar_of
u64_is = scalar refl refl refl refl refl refl (omega arith) (omega arith)

u128_is : IsScalar 10 (unsigned 16 u128)
unfolding scalar_of
u128_is = scalar refl refl refl refl refl refl (omega arith) (omega arith)

double_kept : IsScalar 3 (kept 8 8 double)
unfolding scalar_of
double_kept = scalar refl refl refl refl refl refl (omega arith) (omega arith)

float_kept : IsScalar 15 (kept 4 4 float)
unfolding scalar_of
float_kept = scalar refl refl refl refl refl refl (omega arith) (omega arith)

integer_is : (section : List ℕ) (n : ℤ) → FitsSigned w32 n → Again section (i32 n)
unfolding scalar_of
integer_is section n fits at y here =
    let content = without_zeros (bytes_high_first 4 (cast_unsigned w32 n)) in
    let back : big_number (length content) content ≡ cast_unsigned w32 n =
    number_again 4 (cast_unsigned w32 n) (unsigned_fits n fits) in
    let is : IsScalar 8 signed = scalar refl refl refl refl refl refl (omega arith) (omega arith) in
    let found = scalar_again section at 8 signed content y is
    (record { one = refl; light = refl; no_key = λ may. may }) (omega arith)
    (few_bytes 4 (cast_unsigned w32 n)) here in
    let value_is : cast_signed w32 (big_number (length content) content) ≡ n =
    ap (cast_signed w32) back ∙ to_z-of_z w32 n fits in
    subst (λ (z : ℤ). StandsFull section (i32 z) at (at + length (sized 8 content))) value_is found

bool_is : (section : List ℕ) (b : Bool) → Again section (bool b)
unfolding content_from leaf_from bool_from
bool_is section true at y here =
    alone section (bool true) at 14 1 (at + length (head 14 1)) y
    (record { one = refl; light = refl; no_key = λ may. may }) (omega arith) (omega arith) here
    (λ levels n m. refl)
bool_is section false at y here =
    alone section (bool false) at 14 0 (at + length (head 14 0)) y
    (record { one = refl; light = refl; no_key = λ may. may }) (omega arith) (omega arith) here
    (λ levels n m. refl)

one_member : (section : List ℕ) (key : List ℕ) (value : ValueTree) (later : Members) → IsUtf8 key
    → length key ≤ most → Again section value → MembersAgain section later
    → MembersAgain section (member key value later)
one_member section key value later utf8 fits one others at y here =
    let whole_key = here ∙ append_assoc (sized 2 key)
    (spelling value ++ members_spelling later) y in
    let at_value = at + length (sized 2 key) in
    let behind_key = moved section at (sized 2 key)
    ((spelling value ++ members_spelling later) ++ y) at_value whole_key refl
    ∙ append_assoc (spelling value) (members_spelling later) y in
    let at_rest = at_value + length (spelling value) in
    let behind_value = moved section at_value (spelling value)
    (members_spelling later ++ y) at_rest behind_key refl in
    let whole = member_stands section key value later at
    (stands (text_again section at key
    ((spelling value ++ members_spelling later) ++ y) utf8 fits whole_key))
    (stands (one at_value (members_spelling later ++ y) behind_key))
    (others at_rest y behind_value) in
    let offset : at_rest + length (members_spelling later) ≡ at + length
    (sized 2 key ++ (spelling value ++ members_spelling later)) =
    omega (
      arith,
      length-append (sized 2 key) (spelling value ++ members_spelling later),
      length-append (spelling value) (members_spelling later),
    ) in
    subst (λ (k : ℕ). MembersStand section (member key value later) at k) offset whole

one_item : (section : List ℕ) (value : ValueTree) (items : Items) → Again section value
    → ItemsAgain section items → ItemsAgain section (item value items)
one_item section value items one others at y here =
    let behind_value = here ∙ append_assoc (spelling value) (items_spelling items) y in
    let at_rest = at + length (spelling value) in
    let behind = moved section at (spelling value)
    (items_spelling items ++ y) at_rest behind_value refl in
    let whole = item_stands section value items at
    (stands (one at (items_spelling items ++ y) behind_value)) (others at_rest y behind) in
    let offset : at_rest + length (items_spelling items) ≡ at + length
    (spelling value ++ items_spelling items) =
    omega (arith, length-append (spelling value) (items_spelling items)) in
    subst (λ (k : ℕ). ItemsStand section (item value items) at k) offset whole

no_member_again : (section : List ℕ) → MembersAgain section no_members
no_member_again section at y here =
    subst (λ (k : ℕ). MembersStand section no_members at k) (omega arith) (no_more section at)

no_item_again : (section : List ℕ) → ItemsAgain section no_items
no_item_again section at y here =
    subst (λ (k : ℕ). ItemsStand section no_items at k) (omega arith) (none_left section at)

mutual
  pub value_again : (section : List ℕ) (value : ValueTree) → IsNarrow value → IsTyped value
      → Again section value
  value_again section (map members) fits typed =
      map_again section members fits.0 (members_again section members fits.1 typed)
  value_again section (list items) fits typed =
      list_again section items fits.0 (items_again section items fits.1 typed)
  value_again section (text content) fits typed =
      λ at y here. text_again section at content y typed fits here
  value_again section (bytes content) fits typed =
      λ at y here. byte_string_again section at content y fits here
  value_again section (u16 n) fits typed =
      number_is section 5 2 n u16 (λ k. record { one = refl; light = refl; no_key = λ may. may })
      refl u16_is typed
  value_again section (u32 n) fits typed =
      number_is section 6 4 n u32 (λ k. record { one = refl; light = refl; no_key = λ may. may })
      refl u32_is typed
  value_again section (i32 n) fits typed = integer_is section n typed
  value_again section (u64 n) fits typed =
      number_is section 9 8 n u64 (λ k. record { one = refl; light = refl; no_key = λ may. may })
      refl u64_is typed
  value_again section (u128 n) fits typed =
      number_is section 10 16 n u128
      (λ k. record { one = refl; light = refl; no_key = λ may. may }) refl u128_is typed
  value_again section (bool b) fits typed = bool_is section b
  value_again section (double content) fits typed =
      bytes_are section 3 8 content double
      (record { one = refl; light = refl; no_key = λ may. may }) refl double_kept typed
  value_again section (float content) fits typed =
      bytes_are section 15 4 content float
      (record { one = refl; light = refl; no_key = λ may. may }) refl float_kept typed

  members_again : (section : List ℕ) (members : Members) → MembersAreNarrow members
      → MembersAreTyped members → MembersAgain section members
  members_again section no_members fits typed = no_member_again section
  members_again section (member key value members) fits typed =
      one_member section key value members typed.0 fits.0 (value_again section value fits.1 typed.1)
      (members_again section members fits.2 typed.2)

  items_again : (section : List ℕ) (items : Items) → ItemsAreNarrow items → ItemsAreTyped items
      → ItemsAgain section items
  items_again section no_items fits typed = no_item_again section
  items_again section (item value items) fits typed =
      one_item section value items (value_again section value fits.0 typed.0)
      (items_again section items fits.1 typed.1)

-- ---- equal spellings, equal values

value_or : ValueTree → Result (ValueTree × ℕ × Budget) Fault → ValueTree
value_or other (Ok found) = found.0
value_or other (Err fault) = other

-- one section that is read as both
pub spelled_apart : (a b : ValueTree) → IsNarrow a → IsNarrow b → IsTyped a → IsTyped b
    → spelling a ≡ spelling b → a ≡ b
unfolding value_or
spelled_apart a b narrow_a narrow_b typed_a typed_b same =
    let section = spelling a in
    let here = sym (append-nil section) in
    let first = value_again section a narrow_a typed_a 0 [] here in
    let second = value_again section b narrow_b typed_b 0 []
    (here ∙ ap (λ (x : List ℕ). x ++ []) same) in
    let levels = depth a + depth b in
    let values = count a + count b - 1 in
    let held = bytes_in a + bytes_in b in
    let one = first.read levels false (count b) (bytes_in b) values held tt (omega arith)
    (omega (arith, some_values a)) refl in
    let two = second.read levels false (count a) (bytes_in a) values held tt (omega arith)
    (omega (arith, some_values a)) (omega arith) in
    ap (value_or a) (sym one ∙ two)

-- ---- the value at an offset

inside_if : (section : List ℕ) (at control : ℕ) (fault : Fault)
    → byte_from section at fault ≡ Ok control → at < length section
unfolding byte_from
inside_if section at control fault e =
    elim (chosen (ltb at (length section)) (Ok (slice_index section at)) (Err fault)
    (Ok control) e) [
      | inl a ↦ ltb-true at (length section) a.0
      | inr a ↦ absurd cc
    ]

-- what stands at an offset is what reading gives there
pub reads_full : (section : List ℕ) (value : ValueTree) (at after : ℕ)
    → StandsFull section value at after → depth value ≤ 32 → IsWithinLimits value
    → reads section at ≡ Ok value
unfolding reads
reads_full section value at after h deep within =
    let found = stands h 32 false (100000 - count value)
    (67108864 - bytes_in value) 100000 67108864 tt deep (omega (arith, within.0))
    (omega (arith, within.1)) in
    let inside = inside_if section at h.control (at, Truncated) (h.first (at, Truncated)) in
    rw (lt-ltb at (length section) inside, found) refl

pub is_read_again : (value : ValueTree) (before after : List ℕ) → CanBeSpelled value → IsTyped value
    → IsWithinLimits value → reads (before ++ (spelling value ++ after)) (length before) ≡ Ok value
is_read_again value before after fits typed within =
    let section = before ++ (spelling value ++ after) in
    let here = drop_at before (spelling value ++ after) (length before) refl in
    reads_full section value (length before) (length before + length (spelling value))
    (value_again section value fits.0 typed (length before) after here) fits.1 within
