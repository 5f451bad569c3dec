-- A value that stands in full at an offset of a section, and how one without parts is read there.
use Rattle.std.proofs.Common.{◌≡◌, ℕ, zero, suc, ◌+◌, ◌^◌, ◌<◌, ◌≤◌, Bool, true, false, eqb, List}
use Rattle.std.proofs.Common.{[], ◌∷◌, ◌++◌, length, drop, Some, Ok, refl, sym, ap, ◌∙◌, subst}
use Rattle.std.proofs.Common.{append_assoc, arith}
use Rattle.std.specs.Int.{bytes_high_first}
use Rattle.std.specs.Str.{IsUtf8}
use Rattle.std.proofs.lemmas.Bool.{lt-ltb, le-ltb}
use Rattle.std.proofs.lemmas.Str.{is_utf8-from_IsUtf8}
use Rattle.std.proofs.lemmas.List.{length-append}
use Rattle.byteorder.specs.Endian.{big_number, big_from}
use Rattle.byteorder.specs.Numbers.{length-bytes_high_first, big_from-cons}
use Rattle.mmdb_data.specs.declared.fault.DataCause.TheVariants.{Truncated, Many}
use Rattle.mmdb_data.specs.ValueTree.{ValueTree, map, text, bytes, most, depth, count, bytes_in}
use Rattle.mmdb_data.specs.Spelling.{head, sized, without_zeros}
use Rattle.mmdb_data.specs.Reading.{Fault, Budget, Found, left_of, Read, Scalar, one_less}
use Rattle.mmdb_data.specs.Reading.{byte_from, is_pointer, scalar_of, scalar_from}
use Rattle.mmdb_data.specs.Reading.{scalar_bytes_from, content_bytes_from, text_from}
use Rattle.mmdb_data.specs.Reading.{byte_string_from, leaf_from, content_from, plain_from}
use Rattle.mmdb_data.specs.Reading.{value_from}
use Rattle.mmdb_data.proofs.Offsets.{moved, bytes_here, number_of_bytes}
use Rattle.mmdb_data.proofs.Heads.{HeadIs, head_here}

pub one_less_is : (n m : ℕ) (fault : Fault) → one_less (left_of (suc n) m) fault ≡ Ok (left_of n m)
unfolding one_less
one_less_is n m fault = rw (lt-ltb 0 (suc n) (omega arith))
    (ap (λ (k : ℕ). Ok (left_of k m)) (omega arith))

abbrev found_is : ValueTree → ℕ → ℕ → ℕ → Found ValueTree
found_is value after n m = Ok (value, after, left_of n m)

-- the same offset and the same budget in other terms
same_found : (value : ValueTree) {p q b n c m : ℕ} → p ≡ q → b ≡ n → c ≡ m
    → found_is value p b c ≡ found_is value q n m
same_found value p_is b_is c_is = rw (p_is, b_is, c_is) refl

-- every value is one at least, and at least one level deep
pub some_levels : (value : ValueTree) → 0 < depth value
some_levels (map pairs) = omega arith
some_levels _ = omega arith

pub some_values : (value : ValueTree) → 0 < count value
some_values (map pairs) = omega arith
some_values _ = omega arith

-- as a key only a text may stand
abbrev pub MayStand : Bool → ValueTree → Type 0
MayStand false value = Unit {0}
MayStand true (text content) = Unit {0}
MayStand true _ = ⊥

-- the value stands from `at` to `after`, as it is and through no pointer, and is read there
-- whatever may be spent beyond it
pub record StandsFull (section : List ℕ) (value : ValueTree) (at after : ℕ) : Type 0 where
  pub control : ℕ
  pub first : (fault : Fault) → byte_from section at fault ≡ Ok control
  pub no_pointer : is_pointer control ≡ false
  pub read : (levels : ℕ) (is_key : Bool) (n m b c : ℕ) → MayStand is_key value
      → depth value ≤ suc levels → suc b ≡ count value + n → c ≡ bytes_in value + m
      → plain_from (value_from section levels) section is_key at (left_of b c) ≡ Ok
      (value, after, left_of n m)

-- the value is read from `at` to `after`, where it stands or a pointer to it does
abbrev pub Stands : List ℕ → ValueTree → ℕ → ℕ → Type 0
Stands section value at after = (levels : ℕ) (is_key : Bool) (n m b c : ℕ) → MayStand is_key value
    → depth value ≤ levels → b ≡ count value + n → c ≡ bytes_in value + m
    → value_from section levels is_key at (left_of b c) ≡ Ok (value, after, left_of n m)

pub stands : {section : List ℕ} {value : ValueTree} {at after : ℕ}
    → StandsFull section value at after
    → Stands section value at after
unfolding value_from
stands {value = value} h zero is_key n m b c may deep few light =
    absurd (omega (arith, some_levels value, deep))
stands {value = value} h (suc levels) is_key n m zero c may deep few light =
    absurd (omega (arith, some_values value, few))
stands {at = at} h (suc levels) is_key n m (suc b) c may deep few light =
    rw (one_less_is b c (at, Many), h.first (at, Truncated), h.no_pointer)
    (h.read levels is_key n m b c may deep few light)

pub ends_at : {section : List ℕ} {value : ValueTree} {at p q : ℕ} → StandsFull section value at p
    → p ≡ q
    → StandsFull section value at q
ends_at {section = section} {value = value} {at = at} h e =
    subst (λ (k : ℕ). StandsFull section value at k) e h

plain_is : (read : Read) (section : List ℕ) (is_key : Bool) (at kind size : ℕ) (left : Budget)
    → HeadIs section at kind size
    → plain_from read section is_key at left ≡ content_from read section is_key at kind size
    (at + length (head kind size)) left
unfolding plain_from
plain_is read section is_key at kind size left h = rw h.read refl

-- what stands behind the head is read as the value
abbrev pub ContentStands : List ℕ → ValueTree → ℕ → ℕ → ℕ → ℕ → ℕ → Type 0
ContentStands section value at kind size offset after =
    (levels : ℕ) (is_key : Bool) (n m b c : ℕ) → MayStand is_key value → depth value ≤ suc levels
    → suc b ≡ count value + n → c ≡ bytes_in value + m
    → content_from (value_from section levels) section is_key at kind size offset (left_of b c) ≡ Ok
    (value, after, left_of n m)

pub full_from_head : (section : List ℕ) (value : ValueTree) (at kind size after : ℕ) (y : List ℕ)
    → 2 ≤ kind → size ≤ most → drop at section ≡ head kind size ++ y
    → ContentStands section value at kind size (at + length (head kind size)) after
    → StandsFull section value at after
full_from_head section value at kind size after y low fits here inner =
    let h = head_here section at kind size y low fits here in
    record {
      control = h.control;
      first = h.first;
      no_pointer = h.no_pointer;
      read = λ levels is_key n m b c may deep few light. plain_is
          (value_from section levels) section is_key at kind size (left_of b c) h
          ∙ inner levels is_key n m b c may deep few light;
    }

-- the offset behind a head and its content
pub behind : (at kind : ℕ) (content : List ℕ)
    → at + length (head kind (length content)) + length content ≡ at + length (sized kind content)
unfolding sized
behind at kind content = omega (arith, length-append (head kind (length content)) content)

pub sized_here : (section : List ℕ) (at kind : ℕ) (content y : List ℕ)
    → drop at section ≡ sized kind content ++ y
    → drop at section ≡ head kind (length content) ++ (content ++ y)
unfolding sized
sized_here section at kind content y here =
    here ∙ append_assoc (head kind (length content)) content y

-- a text, as a key too
pub text_again : (section : List ℕ) (at : ℕ) (content y : List ℕ) → IsUtf8 content
    → length content ≤ most → drop at section ≡ sized 2 content ++ y
    → StandsFull section (text content) at (at + length (sized 2 content))
unfolding content_from leaf_from text_from content_bytes_from
text_again section at content y utf8 fits here =
    let parts = sized_here section at 2 content y here in
    let offset = at + length (head 2 (length content)) in
    let found = bytes_here section offset (length content) content y (at, Truncated)
    (moved section at (head 2 (length content)) (content ++ y) offset parts refl) refl in
    full_from_head section (text content) at 2 (length content) (at + length (sized 2 content))
    (content ++ y) (omega arith) fits parts
    (λ levels is_key n m b c may deep few light.
    let enough = le-ltb c (length content) (omega (arith, light)) in
    rw (found, enough, is_utf8-from_IsUtf8 content utf8)
    (same_found (text content) (behind at 2 content) (omega (arith, few))
    (omega (arith, light))))

pub byte_string_again : (section : List ℕ) (at : ℕ) (content y : List ℕ) → length content ≤ most
    → drop at section ≡ sized 4 content ++ y
    → StandsFull section (bytes content) at (at + length (sized 4 content))
unfolding content_from leaf_from byte_string_from content_bytes_from
byte_string_again section at content y fits here =
    let parts = sized_here section at 4 content y here in
    let offset = at + length (head 4 (length content)) in
    let found = bytes_here section offset (length content) content y (at, Truncated)
    (moved section at (head 4 (length content)) (content ++ y) offset parts refl) refl in
    full_from_head section (bytes content) at 4 (length content) (at + length (sized 4 content))
    (content ++ y) (omega arith) fits parts
    (λ levels is_key. elim is_key as
    (λ (k : Bool). (n m b c : ℕ) → MayStand k (bytes content) → 1 ≤ suc levels → suc b ≡ 1 + n
    → c ≡ length content + m
    → content_from (value_from section levels) section k at 4 (length content) offset
    (left_of b c) ≡ Ok (bytes content, at + length (sized 4 content), left_of n m)) [
      | true ↦ λ n m b c may deep few light. absurd may
      | false ↦ λ n m b c may deep few light.
          let enough = le-ltb c (length content) (omega (arith, light)) in
          rw (found, enough) (same_found (bytes content) (behind at 4 content) (omega (arith, few))
          (omega (arith, light)))
    ])

-- one value with no bytes that count, and no key
pub record IsPlain (value : ValueTree) : Type 0 where
  pub one : count value ≡ 1
  pub light : bytes_in value ≡ 0
  pub no_key : MayStand true value → ⊥

-- what is read of such a value with any budget
abbrev pub ReadAlone : List ℕ → ValueTree → ℕ → ℕ → ℕ → ℕ → ℕ → Type 0
ReadAlone section value at kind size offset after =
    (levels n m : ℕ) → content_from (value_from section levels) section false at kind size offset
    (left_of n m) ≡ Ok (value, after, left_of n m)

alone_in : (section : List ℕ) (value : ValueTree) (at kind size offset after levels : ℕ)
    (is_key : Bool)
    → IsPlain value → ReadAlone section value at kind size offset after
    → (n m b c : ℕ) → MayStand is_key value → suc b ≡ count value + n → c ≡ bytes_in value + m
    → content_from (value_from section levels) section is_key at kind size offset (left_of b c) ≡ Ok
    (value, after, left_of n m)
alone_in section value at kind size offset after levels true plain inner n m b c may few light =
    absurd (plain.no_key may)
alone_in section value at kind size offset after levels false plain inner n m b c may few light =
    inner levels b c ∙ same_found value refl (omega (arith, few, plain.one))
    (omega (arith, light, plain.light))

pub alone : (section : List ℕ) (value : ValueTree) (at kind size after : ℕ) (y : List ℕ)
    → IsPlain value
    → 2 ≤ kind → size ≤ most → drop at section ≡ head kind size ++ y
    → ReadAlone section value at kind size (at + length (head kind size)) after
    → StandsFull section value at after
alone section value at kind size after y plain low fits here inner =
    full_from_head section value at kind size after y low fits here
    (λ levels is_key n m b c may deep few light. alone_in section value at kind size
    (at + length (head kind size)) after levels is_key plain inner n m b c may few light)

-- the type is no map, no list, no text, no byte string and no boolean, but this scalar
pub record IsScalar (kind : ℕ) (scalar : Scalar) : Type 0 where
  pub no_map : eqb kind 7 ≡ false
  pub no_list : eqb kind 11 ≡ false
  pub no_text : eqb kind 2 ≡ false
  pub no_bytes : eqb kind 4 ≡ false
  pub no_bool : eqb kind 14 ≡ false
  pub known : scalar_of kind ≡ Some scalar
  pub low : 2 ≤ kind
  pub narrow : scalar.greatest ≤ most

-- a scalar
pub scalar_again : (section : List ℕ) (at kind : ℕ) (scalar : Scalar) (content y : List ℕ)
    → IsScalar kind scalar → IsPlain (scalar.value content)
    → scalar.least ≤ length content → length content ≤ scalar.greatest
    → drop at section ≡ sized kind content ++ y
    → StandsFull section (scalar.value content) at (at + length (sized kind content))
unfolding content_from leaf_from scalar_from scalar_bytes_from
scalar_again section at kind scalar content y is plain above below here =
    let parts = sized_here section at kind content y here in
    let offset = at + length (head kind (length content)) in
    let found = bytes_here section offset (length content) content y (at, Truncated)
    (moved section at (head kind (length content)) (content ++ y) offset parts refl) refl in
    let short = le-ltb (length content) scalar.least above in
    let long = le-ltb scalar.greatest (length content) below in
    alone section (scalar.value content) at kind (length content) (at + length (sized kind content))
    (content ++ y) plain is.low (omega (arith, is.narrow)) parts
    (λ levels n m. rw (
      is.no_map,
      is.no_list,
      is.no_text,
      is.no_bytes,
      is.no_bool,
      is.known,
      short,
      long,
      found,
    ) (same_found (scalar.value content) (behind at kind content) refl refl))

-- zeros in front change no number
pub without_zeros-number : (content : List ℕ)
    → big_number (length (without_zeros content)) (without_zeros content) ≡ big_number
    (length content) content
without_zeros-number [] = refl
without_zeros-number (zero ∷ content) =
    let rest : big_number (length (without_zeros content)) (without_zeros content) ≡ big_from 1
    (length content) (0 ∷ content) =
    without_zeros-number content ∙ sym (big_from-cons 0 (length content) 0 content) in
    omega (arith, rest)
without_zeros-number (suc b ∷ content) = refl

pub length-without_zeros : (content : List ℕ) → length (without_zeros content) ≤ length content
length-without_zeros [] = omega arith
length-without_zeros (zero ∷ content) = omega (arith, length-without_zeros content)
length-without_zeros (suc b ∷ content) = omega arith

pub number_again : (size n : ℕ) → n < 256 ^ size
    → big_number (length (without_zeros (bytes_high_first size n)))
    (without_zeros (bytes_high_first size n)) ≡ n
number_again size n fits =
    without_zeros-number (bytes_high_first size n)
    ∙ ap (λ (k : ℕ). big_number k (bytes_high_first size n)) (length-bytes_high_first size n)
    ∙ number_of_bytes size n fits

pub few_bytes : (size n : ℕ) → length (without_zeros (bytes_high_first size n)) ≤ size
few_bytes size n = omega (
  arith,
  length-without_zeros (bytes_high_first size n),
  length-bytes_high_first size n,
)
