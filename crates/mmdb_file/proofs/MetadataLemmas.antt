-- The metadata that the writer writes holds no marker. It is shown member by member, from the last
-- one on: what stands before a member is a number of few bytes, a text, or bytes that are known.
use Rattle.std.proofs.Common.{◌≡◌, ℕ, zero, suc, ◌+◌, ◌-◌, ◌*◌, ◌%◌, ◌<◌, ◌≤◌, ◌==◌, true, false}
use Rattle.std.proofs.Common.{List, [], ◌∷◌, ◌++◌, length, Some, None, refl, ap, ◌∙◌, inl, inr}
use Rattle.std.proofs.Common.{append_assoc, append-nil, add-zero, length-append, arith}
use Rattle.std.specs.Prelude.{codes}
use Rattle.std.specs.Int.{bytes_high_first}
use Rattle.std.specs.Str.{IsUtf8}
use Rattle.std.proofs.lemmas.Bool.{cases_lt, lt-ltb, le-ltb}
use Rattle.mmdb_data.specs.ValueTree.{ValueTree, Members, list, text, u16, u32, u64}
use Rattle.mmdb_data.specs.ValueTree.{no_members, member, item, no_items}
use Rattle.mmdb_data.specs.Spelling.{spelling, members_spelling, sized, head}
use Rattle.mmdb_data.specs.Spelling.{kind_bytes, size_code, size_bytes, without_zeros}
use Rattle.mmdb_tree.specs.declared.bits.Bits.{Bits}
use Rattle.mmdb_tree.specs.declared.bits.Bits.TheVariants.{B24, B28, B32}
use Rattle.mmdb_tree.specs.Nodes.{record_size}
use Rattle.mmdb_file.specs.Marker.{marker, last_marker}
use Rattle.mmdb_file.specs.Metadata.{english, told_members, metadata}
use Rattle.mmdb_file.specs.Laws.{LastMarkerIsTheWriters}
use Rattle.mmdb_file.proofs.MarkerLemmas.{lacks, lacks_pair, plain, short_then, short_then_pair}
use Rattle.mmdb_file.proofs.MarkerLemmas.{plain_then, parted_then, behind, marker_then}
use Rattle.mmdb_file.proofs.TextLemmas.{text_is_parted, unlike}

-- ---- numbers are spelled in few bytes

length-without_zeros : (x : List ℕ) → length (without_zeros x) ≤ length x
length-without_zeros [] = omega arith
length-without_zeros (zero ∷ x) = omega (arith, length-without_zeros x)
length-without_zeros (suc b ∷ x) = omega arith

-- the head of a value of fewer than 29 bytes
length-head : (kind n : ℕ) → n < 29 → length (head kind n) ≤ 2
unfolding head kind_bytes size_code size_bytes
length-head kind n few =
    elim (cases_lt kind 8) [
      | inl a ↦ rw (lt-ltb n 29 few, lt-ltb kind 8 a) (omega arith)
      | inr a ↦ rw (lt-ltb n 29 few, le-ltb kind 8 a) (omega arith)
    ]

length-number : (kind size n : ℕ) → size ≤ 8 → length (bytes_high_first size n) ≡ size
    → length (sized kind (without_zeros (bytes_high_first size n))) ≤ 2 + size
unfolding sized
length-number kind size n small long =
    let bytes = without_zeros (bytes_high_first size n) in
    let few : length bytes ≤ size =
    omega (arith, length-without_zeros (bytes_high_first size n)) in
    omega (
      arith,
      length-append (head kind (length bytes)) bytes,
      length-head kind (length bytes) (omega arith),
    )

-- ---- what stands before bytes that hold no marker

-- the head of a text is none of the marker's first bytes
plain-text_head : (n : ℕ) → n ≤ 64 → plain (head 2 n) ≡ true
unfolding head kind_bytes size_code size_bytes
plain-text_head n few =
    elim (cases_lt n 29) [
      | inl a ↦
          let apart = unlike 171 (2 * 32 + n) (omega arith) in
          rw (lt-ltb n 29 a, apart) refl
      | inr a ↦
          let less : n < 285 = omega arith in
          let apart = unlike 171 ((n - 29) % 256) (omega arith) in
          rw (le-ltb n 29 a, lt-ltb n 285 less, apart) refl
    ]

-- a text before a byte that is neither 205 nor 239
text_then : (name : List ℕ) (c : ℕ) (y : List ℕ) → IsUtf8 name → length name ≤ 64
    → (205 == c) ≡ false → (239 == c) ≡ false → last_marker (c ∷ y) ≡ None
    → last_marker (sized 2 name ++ c ∷ y) ≡ None
unfolding sized
text_then name c y utf8 few second third later =
    rw append_assoc (plain_then (head 2 (length name)) (name ++ c ∷ y)
    (plain-text_head (length name) few)
    (parted_then name c y (text_is_parted name utf8) second third later))

-- the same of a text before bytes of which the first is known
text_before : (name z : List ℕ) (c : ℕ) (y : List ℕ) → z ≡ c ∷ y → IsUtf8 name → length name ≤ 64
    → (205 == c) ≡ false → (239 == c) ≡ false → last_marker z ≡ None
    → last_marker (sized 2 name ++ z) ≡ None
text_before name z c y is utf8 few second third later =
    rw is (text_then name c y utf8 few second third (rw is at later))

-- at most 13 bytes before a byte that the marker lacks
number_before : (x z : List ℕ) (c : ℕ) (y : List ℕ) → z ≡ c ∷ y → length x ≤ 13
    → lacks c marker ≡ true → last_marker z ≡ None → last_marker (x ++ z) ≡ None
number_before x z c y is short none later = rw is (short_then x c y short none (rw is at later))

-- at most 12 bytes before two that are no neighbours in the marker
number_before_pair : (x z : List ℕ) (c d : ℕ) (y : List ℕ) → z ≡ c ∷ d ∷ y → length x ≤ 12
    → lacks_pair c d marker ≡ true → last_marker z ≡ None → last_marker (x ++ z) ≡ None
number_before_pair x z c d y is short none later =
    rw is (short_then_pair x c d y short none (rw is at later))

-- a key that is plain
key_before : (key : List ℕ) (value : ValueTree) (members : Members) → plain (sized 2 key) ≡ true
    → last_marker (spelling value ++ members_spelling members) ≡ None
    → last_marker (members_spelling (member key value members)) ≡ None
key_before key value members none later =
    plain_then (sized 2 key) (spelling value ++ members_spelling members) none later

-- a member that is plain, its key and its value
member_before : (key : List ℕ) (value : ValueTree) (members : Members)
    → plain (sized 2 key) ≡ true → plain (spelling value) ≡ true
    → last_marker (members_spelling members) ≡ None
    → last_marker (members_spelling (member key value members)) ≡ None
member_before key value members key_plain value_plain later =
    key_before key value members key_plain
    (plain_then (spelling value) (members_spelling members) value_plain later)

-- the bytes with which a member begins are those of its key
member_begins : (key : List ℕ) (value : ValueTree) (members : Members) (c : ℕ) (y : List ℕ)
    → sized 2 key ≡ c ∷ y
    → members_spelling (member key value members)
    ≡ c ∷ (y ++ (spelling value ++ members_spelling members))
member_begins key value _ c y is = rw is refl

-- ---- what is known of the metadata's keys and values

-- the spelled keys hold no first byte of a marker
plain-major_version : plain (sized 2 (codes "binary_format_major_version")) ≡ true
unfolding sized head kind_bytes size_code size_bytes
plain-major_version = refl

plain-minor_version : plain (sized 2 (codes "binary_format_minor_version")) ≡ true
unfolding sized head kind_bytes size_code size_bytes
plain-minor_version = refl

plain-build_epoch : plain (sized 2 (codes "build_epoch")) ≡ true
unfolding sized head kind_bytes size_code size_bytes
plain-build_epoch = refl

plain-database_type : plain (sized 2 (codes "database_type")) ≡ true
unfolding sized head kind_bytes size_code size_bytes
plain-database_type = refl

plain-description : plain (sized 2 (codes "description")) ≡ true
unfolding sized head kind_bytes size_code size_bytes
plain-description = refl

plain-ip_version : plain (sized 2 (codes "ip_version")) ≡ true
unfolding sized head kind_bytes size_code size_bytes
plain-ip_version = refl

plain-languages : plain (sized 2 (codes "languages")) ≡ true
unfolding sized head kind_bytes size_code size_bytes
plain-languages = refl

plain-node_count : plain (sized 2 (codes "node_count")) ≡ true
unfolding sized head kind_bytes size_code size_bytes
plain-node_count = refl

-- nor do the spelled values that are always the same
plain-map_of_nine : plain (head 7 9) ≡ true
unfolding head kind_bytes size_code size_bytes
plain-map_of_nine = refl

plain-major_two : plain (spelling (u16 2)) ≡ true
unfolding sized head kind_bytes size_code size_bytes
plain-major_two = refl

plain-minor_zero : plain (spelling (u16 0)) ≡ true
unfolding sized head kind_bytes size_code size_bytes
plain-minor_zero = refl

plain-ip_six : plain (spelling (u16 6)) ≡ true
unfolding sized head kind_bytes size_code size_bytes
plain-ip_six = refl

plain-list_of_en : plain (spelling (list (item (text (codes "en")) no_items))) ≡ true
unfolding sized head kind_bytes size_code size_bytes
plain-list_of_en = refl

plain-map_of_en : plain (head 7 1 ++ sized 2 (codes "en")) ≡ true
unfolding sized head kind_bytes size_code size_bytes
plain-map_of_en = refl

-- the head byte of a key that stands behind a number or a text: 64 and the key's length
record_size_begins : sized 2 (codes "record_size") ≡ 75 ∷ codes "record_size"
unfolding sized head kind_bytes size_code size_bytes
record_size_begins = refl

ip_version_begins : sized 2 (codes "ip_version") ≡ 74 ∷ codes "ip_version"
unfolding sized head kind_bytes size_code size_bytes
ip_version_begins = refl

description_begins : sized 2 (codes "description") ≡ 75 ∷ codes "description"
unfolding sized head kind_bytes size_code size_bytes
description_begins = refl

database_type_begins : sized 2 (codes "database_type") ≡ 77 ∷ codes "database_type"
unfolding sized head kind_bytes size_code size_bytes
database_type_begins = refl

-- byte 75, with which `record_size` begins, stands nowhere in the marker
lacks-record_size_head : lacks 75 marker ≡ true
unfolding marker
lacks-record_size_head = refl

-- byte 77 does, but never before 100, the `d` of `database_type`
lacks_pair-database_type_head : lacks_pair 77 100 marker ≡ true
unfolding marker
lacks_pair-database_type_head = refl

-- ---- the members from one of them on, last one first, hold no marker

from_record_size : Bits → Members
from_record_size bits = member (codes "record_size") (u16 (record_size bits)) no_members

from_node_count : ℕ → Bits → Members
from_node_count nodes bits = member (codes "node_count") (u32 nodes) (from_record_size bits)

from_languages : ℕ → Bits → Members
from_languages nodes bits =
    member (codes "languages") (list (item (text (codes "en")) no_items))
    (from_node_count nodes bits)

from_ip_version : ℕ → Bits → Members
from_ip_version nodes bits = member (codes "ip_version") (u16 6) (from_languages nodes bits)

from_description : List ℕ → ℕ → Bits → Members
from_description name nodes bits =
    member (codes "description") (english name) (from_ip_version nodes bits)

from_database_type : List ℕ → ℕ → Bits → Members
from_database_type name nodes bits =
    member (codes "database_type") (text name) (from_description name nodes bits)

from_build_epoch : ℕ → List ℕ → ℕ → Bits → Members
from_build_epoch epoch name nodes bits =
    member (codes "build_epoch") (u64 epoch) (from_database_type name nodes bits)

-- there are only three record sizes
none-from_record_size : (bits : Bits)
    → last_marker (members_spelling (from_record_size bits)) ≡ None
unfolding from_record_size marker sized head kind_bytes size_code size_bytes
none-from_record_size B24 = refl
none-from_record_size B28 = refl
none-from_record_size B32 = refl

-- the node count has at most 4 bytes behind its head
none-from_node_count : (nodes : ℕ) (bits : Bits)
    → last_marker (members_spelling (from_node_count nodes bits)) ≡ None
unfolding from_node_count from_record_size
none-from_node_count nodes bits =
    key_before (codes "node_count") (u32 nodes) (from_record_size bits) plain-node_count
    (number_before (sized 6 (without_zeros (bytes_high_first 4 nodes)))
    (members_spelling (from_record_size bits)) 75 _
    (member_begins (codes "record_size") (u16 (record_size bits)) no_members 75
    (codes "record_size") record_size_begins)
    (omega (arith, length-number 6 4 nodes (omega arith) refl))
    lacks-record_size_head (none-from_record_size bits))

-- the address version and the languages are always the same
none-from_ip_version : (nodes : ℕ) (bits : Bits)
    → last_marker (members_spelling (from_ip_version nodes bits)) ≡ None
unfolding from_ip_version from_languages
none-from_ip_version nodes bits =
    member_before (codes "ip_version") (u16 6) (from_languages nodes bits)
    plain-ip_version plain-ip_six
    (member_before (codes "languages") (list (item (text (codes "en")) no_items))
    (from_node_count nodes bits) plain-languages plain-list_of_en
    (none-from_node_count nodes bits))

-- the description's text stands behind a map's head and a key
english_is : (name z : List ℕ) → spelling (english name) ++ z
    ≡ (head 7 1 ++ sized 2 (codes "en")) ++ (sized 2 name ++ z)
unfolding english
english_is name z = grind (arith, append_assoc, append-nil)

-- the description is a text before the head of `ip_version`
none-from_description : (name : List ℕ) (nodes : ℕ) (bits : Bits)
    → IsUtf8 name → length name ≤ 64
    → last_marker (members_spelling (from_description name nodes bits)) ≡ None
unfolding from_description from_ip_version
none-from_description name nodes bits utf8 few =
    let rest : List ℕ = members_spelling (from_ip_version nodes bits) in
    let later : last_marker ((head 7 1 ++ sized 2 (codes "en")) ++ (sized 2 name ++ rest)) ≡ None =
    plain_then (head 7 1 ++ sized 2 (codes "en")) (sized 2 name ++ rest) plain-map_of_en
    (text_before name rest 74 _
    (member_begins (codes "ip_version") (u16 6) (from_languages nodes bits) 74
    (codes "ip_version") ip_version_begins) utf8 few refl refl
    (none-from_ip_version nodes bits)) in
    key_before (codes "description") (english name) (from_ip_version nodes bits)
    plain-description (rw english_is later)

-- the database type is a text before the head of `description`
none-from_database_type : (name : List ℕ) (nodes : ℕ) (bits : Bits)
    → IsUtf8 name → length name ≤ 64
    → last_marker (members_spelling (from_database_type name nodes bits)) ≡ None
unfolding from_database_type from_description
none-from_database_type name nodes bits utf8 few =
    key_before (codes "database_type") (text name) (from_description name nodes bits)
    plain-database_type
    (text_before name (members_spelling (from_description name nodes bits)) 75 _
    (member_begins (codes "description") (english name) (from_ip_version nodes bits) 75
    (codes "description") description_begins) utf8 few refl refl
    (none-from_description name nodes bits utf8 few))

-- the build epoch has at most 8 bytes behind its head
none-from_build_epoch : (epoch : ℕ) (name : List ℕ) (nodes : ℕ) (bits : Bits)
    → IsUtf8 name → length name ≤ 64
    → last_marker (members_spelling (from_build_epoch epoch name nodes bits)) ≡ None
unfolding from_build_epoch from_database_type
none-from_build_epoch epoch name nodes bits utf8 few =
    key_before (codes "build_epoch") (u64 epoch) (from_database_type name nodes bits)
    plain-build_epoch
    (number_before_pair (sized 9 (without_zeros (bytes_high_first 8 epoch)))
    (members_spelling (from_database_type name nodes bits)) 77 100 _
    (member_begins (codes "database_type") (text name) (from_description name nodes bits) 77
    (codes "database_type") database_type_begins)
    (omega (arith, length-number 9 8 epoch (omega arith) refl))
    lacks_pair-database_type_head (none-from_database_type name nodes bits utf8 few))

-- the versions of the format are always the same
none-in_metadata : (epoch : ℕ) (name : List ℕ) (nodes : ℕ) (bits : Bits)
    → IsUtf8 name → length name ≤ 64
    → last_marker (metadata epoch name nodes (record_size bits)) ≡ None
unfolding metadata told_members from_build_epoch from_database_type from_description from_ip_version
    from_languages from_node_count from_record_size
none-in_metadata epoch name nodes bits utf8 few =
    let rest : Members = from_build_epoch epoch name nodes bits in
    plain_then (head 7 9) _ plain-map_of_nine
    (member_before (codes "binary_format_major_version") (u16 2)
    (member (codes "binary_format_minor_version") (u16 0) rest)
    plain-major_version plain-major_two
    (member_before (codes "binary_format_minor_version") (u16 0) rest
    plain-minor_version plain-minor_zero
    (none-from_build_epoch epoch name nodes bits utf8 few)))

pub last_is_the_writers : LastMarkerIsTheWriters
last_is_the_writers front epoch name nodes bits utf8 few =
    let meta : List ℕ = metadata epoch name nodes (record_size bits) in
    behind front (marker ++ meta) 0
    (marker_then meta (none-in_metadata epoch name nodes bits utf8 few))
    ∙ ap Some (add-zero (length front))
