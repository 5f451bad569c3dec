-- A file that was written is opened again: its metadata tells its nodes, and it is cut into its
-- tree and its data section.
use Rattle.std.proofs.Common.{◌≡◌, ℕ, ◌+◌, ◌*◌, ◌^◌, ◌<◌, ◌≤◌, Bool, true, List, [], ◌++◌, length}
use Rattle.std.proofs.Common.{take, drop, replicate, Some, Ok, Err, refl, sym, ◌∙◌, ap, arith}
use Rattle.std.proofs.Common.{append-nil, length-append}
use Rattle.std.specs.Prelude.{codes, if◌then◌else◌}
use Rattle.std.specs.Str.{IsUtf8, is_utf8, chars}
use lib.Utf8.{encode}
use Rattle.std.proofs.Math.Seq.{drop-append-add}
use Rattle.std.proofs.lemmas.Bool.{lt-ltb, le-ltb}
use Rattle.std.proofs.lemmas.List.{take_at}
use Rattle.std.proofs.lemmas.Str.{IsUtf8-from_is_utf8}
use Rattle.mmdb_data.specs.ValueTree.{map, IsTyped, MembersAreTyped, IsWithinLimits}
use Rattle.mmdb_data.specs.View.{members_of}
use Rattle.mmdb_data.specs.Spelling.{spelling}
use Rattle.mmdb_data.specs.Reading.{reads}
use Rattle.mmdb_data.proofs.ReadsBack.{is_read_again}
use Rattle.mmdb_tree.specs.declared.bits.Bits.{Bits}
use Rattle.mmdb_tree.specs.declared.bits.Bits.TheVariants.{B24, B28, B32}
use Rattle.mmdb_tree.specs.Nodes.{width, record_size, tree_bytes}
use Rattle.mmdb_file.specs.declared.fault.OpenFault.TheVariants.{Version}
use Rattle.mmdb_file.specs.Marker.{marker, last_marker}
use Rattle.mmdb_file.specs.Metadata.{tree_members, told_members, english, metadata}
use Rattle.mmdb_file.specs.FileImage.{file_of}
use Rattle.mmdb_file.specs.Walk.{MetadataParts, told_of, told_of_value, number_field, count_of}
use Rattle.mmdb_file.specs.Walk.{bits_of_size}
use Rattle.mmdb_file.specs.Walk.{is_known, cut, nodes_of, nodes_told, opened}
use Rattle.mmdb_file.proofs.AdoptLemmas.{told_is, opened_is}
use Rattle.mmdb_file.proofs.MetadataLemmas.{last_is_the_writers}
use Rattle.mmdb_file.proofs.WritingLemmas.{length-tree_bytes, told_spelled}

-- ---- the metadata is read again

-- the keys of the metadata, and its one language, are texts
text_major_version : IsUtf8 (codes "binary_format_major_version")
unfolding is_utf8 chars encode
text_major_version = IsUtf8-from_is_utf8 _ refl

text_minor_version : IsUtf8 (codes "binary_format_minor_version")
unfolding is_utf8 chars encode
text_minor_version = IsUtf8-from_is_utf8 _ refl

text_build_epoch : IsUtf8 (codes "build_epoch")
unfolding is_utf8 chars encode
text_build_epoch = IsUtf8-from_is_utf8 _ refl

text_database_type : IsUtf8 (codes "database_type")
unfolding is_utf8 chars encode
text_database_type = IsUtf8-from_is_utf8 _ refl

text_description : IsUtf8 (codes "description")
unfolding is_utf8 chars encode
text_description = IsUtf8-from_is_utf8 _ refl

text_ip_version : IsUtf8 (codes "ip_version")
unfolding is_utf8 chars encode
text_ip_version = IsUtf8-from_is_utf8 _ refl

text_languages : IsUtf8 (codes "languages")
unfolding is_utf8 chars encode
text_languages = IsUtf8-from_is_utf8 _ refl

text_node_count : IsUtf8 (codes "node_count")
unfolding is_utf8 chars encode
text_node_count = IsUtf8-from_is_utf8 _ refl

text_record_size : IsUtf8 (codes "record_size")
unfolding is_utf8 chars encode
text_record_size = IsUtf8-from_is_utf8 _ refl

text_en : IsUtf8 (codes "en")
unfolding is_utf8 chars encode
text_en = IsUtf8-from_is_utf8 _ refl

-- a record size fits its field of 16 bits
record_size-lt : (b : Bits) → record_size b < 2 ^ 16
record_size-lt B24 = omega arith
record_size-lt B28 = omega arith
record_size-lt B32 = omega arith

-- each number of the metadata fits its kind, and each key and name is a text: of the tree's members
tree_typed : (nodes : ℕ) (bits : Bits) → nodes < 2 ^ 32
    → MembersAreTyped (members_of (tree_members nodes (record_size bits)))
tree_typed nodes bits few = (
  text_ip_version,
  omega arith,
  (
    text_languages,
    (text_en, tt),
    (
      text_node_count,
      few,
      (text_record_size, record_size-lt bits, tt),
    ),
  ),
)

-- and of all
told_typed : (epoch : ℕ) (name : List ℕ) (nodes : ℕ) (bits : Bits)
    → epoch < 2 ^ 64 → IsUtf8 name → nodes < 2 ^ 32
    → IsTyped (map (told_members epoch name nodes (record_size bits)))
unfolding told_members english
told_typed epoch name nodes bits low utf8 few = (
  text_major_version,
  omega arith,
  (
    text_minor_version,
    omega arith,
    (
      text_build_epoch,
      low,
      (
        text_database_type,
        utf8,
        (
          text_description,
          (text_en, utf8, tt),
          tree_typed nodes bits few,
        ),
      ),
    ),
  ),
)

-- the metadata is no more than a reader takes
told_limited : (epoch : ℕ) (name : List ℕ) (nodes size : ℕ) → length name ≤ 64
    → IsWithinLimits (map (told_members epoch name nodes size))
unfolding told_members english
told_limited epoch name nodes size short = (omega arith, omega (arith, short))

metadata_read : (epoch : ℕ) (name : List ℕ) (nodes : ℕ) (bits : Bits)
    → epoch < 2 ^ 64 → IsUtf8 name → length name ≤ 64 → nodes < 2 ^ 32
    → reads (metadata epoch name nodes (record_size bits)) 0
    ≡ Ok (map (told_members epoch name nodes (record_size bits)))
unfolding metadata
metadata_read epoch name nodes bits low utf8 short few =
    let told = map (told_members epoch name nodes (record_size bits)) in
    ap (λ s. reads s 0) (sym (append-nil (spelling told)))
    ∙ is_read_again told [] [] (told_spelled epoch name nodes (record_size bits) short)
    (told_typed epoch name nodes bits low utf8 few)
    (told_limited epoch name nodes (record_size bits) short)

-- ---- what it tells is what was written

node_count_found : (epoch : ℕ) (name : List ℕ) (nodes size : ℕ)
    → number_field (codes "node_count") (told_members epoch name nodes size) ≡ Some nodes
unfolding number_field told_members english
node_count_found epoch name nodes size = refl

record_size_found : (epoch : ℕ) (name : List ℕ) (nodes size : ℕ)
    → number_field (codes "record_size") (told_members epoch name nodes size) ≡ Some size
unfolding number_field told_members english
record_size_found epoch name nodes size = refl

major_version_found : (epoch : ℕ) (name : List ℕ) (nodes size : ℕ)
    → number_field (codes "binary_format_major_version") (told_members epoch name nodes size)
    ≡ Some 2
unfolding number_field told_members english
major_version_found epoch name nodes size = refl

ip_version_found : (epoch : ℕ) (name : List ℕ) (nodes size : ℕ)
    → number_field (codes "ip_version") (told_members epoch name nodes size) ≡ Some 6
unfolding number_field told_members english
ip_version_found epoch name nodes size = refl

-- a node count from 1 to 2^32 - 1 is one
count_taken : (n : ℕ) → 0 < n → n < 2 ^ 32 → count_of n ≡ Some n
unfolding count_of
count_taken n some few = rw (lt-ltb 0 n some, lt-ltb n (2 ^ 32) few) refl

-- a record size names its width
bits_taken : (b : Bits) → bits_of_size (record_size b) ≡ Some b
unfolding bits_of_size
bits_taken B24 = refl
bits_taken B28 = refl
bits_taken B32 = refl

-- what the metadata of a file with these nodes tells
abbrev told_by : (nodes : ℕ) → Bits → MetadataParts
told_by nodes bits = record { nodes = nodes; bits = bits; major = 2; ip = 6 }

told_again : (epoch : ℕ) (name : List ℕ) (nodes : ℕ) (bits : Bits) → 0 < nodes → nodes < 2 ^ 32
    → told_of (told_members epoch name nodes (record_size bits)) ≡ Some (told_by nodes bits)
told_again epoch name nodes bits some few =
    let size : ℕ = record_size bits in
    told_is (told_members epoch name nodes size) nodes size 2 6 nodes bits
    (node_count_found epoch name nodes size) (record_size_found epoch name nodes size)
    (major_version_found epoch name nodes size) (ip_version_found epoch name nodes size)
    (count_taken nodes some few) (bits_taken bits)

-- its version and its addresses are those that a reader knows
known_again : (nodes : ℕ) (bits : Bits) → is_known (told_by nodes bits) ≡ true
unfolding is_known
known_again nodes bits = refl

-- ---- the file is opened again

-- the marker is 14 bytes
past_marker : (m : List ℕ) → drop 14 (marker ++ m) ≡ m
unfolding marker
past_marker m = refl

-- the parts before the marker are cut as they were put together
cut_again : (bits : Bits) (nodes : List (ℕ × ℕ)) (section : List ℕ)
    → cut (tree_bytes bits nodes ++ (replicate 16 0 ++ section)) (told_by (length nodes) bits)
    ≡ Ok (record {
      bits = bits;
      nodes = length nodes;
      tree = tree_bytes bits nodes;
      section = section;
    })
unfolding cut
cut_again bits nodes section =
    let tree : List ℕ = tree_bytes bits nodes in
    let rest : List ℕ = replicate 16 0 ++ section in
    let end : ℕ = length nodes * width bits in
    let long : length tree ≡ end = length-tree_bytes bits nodes in
    let fits : end + 16 ≤ length (tree ++ rest) =
    omega (arith, long, length-append tree rest, length-append (replicate 16 0) section) in
    let front : take end (tree ++ rest) ≡ tree = take_at tree rest end long in
    let back : drop (end + 16) (tree ++ rest) ≡ section =
    ap (λ n. drop (n + 16) (tree ++ rest)) (sym long) ∙ drop-append-add tree rest 16 in
    rw (le-ltb (length (tree ++ rest)) (end + 16) fits, front, back) refl

pub opened_again : (bits : Bits) (nodes : List (ℕ × ℕ)) (section : List ℕ)
    → (epoch : ℕ) (name : List ℕ) → 0 < length nodes → length nodes < 2 ^ 32
    → epoch < 2 ^ 64 → IsUtf8 name → length name ≤ 64
    → opened (file_of bits nodes section epoch name)
    ≡ Ok (record {
      bits = bits;
      nodes = length nodes;
      tree = tree_bytes bits nodes;
      section = section;
    })
unfolding file_of
opened_again bits nodes section epoch name some few low utf8 short =
    let front : List ℕ = tree_bytes bits nodes ++ (replicate 16 0 ++ section) in
    let meta : List ℕ = metadata epoch name (length nodes) (record_size bits) in
    let file : List ℕ = front ++ (marker ++ meta) in
    let told : MetadataParts = told_by (length nodes) bits in
    let last : last_marker file ≡ Some (length front) =
    last_is_the_writers front epoch name (length nodes) bits utf8 short in
    let ahead : front ≡ take (length front) file =
    sym (take_at front (marker ++ meta) (length front) refl) in
    let behind : meta ≡ drop (length front + 14) file =
    sym (drop-append-add front (marker ++ meta) 14 ∙ past_marker meta) in
    let tells : told_of_value (reads meta 0) ≡ Some told =
    ap told_of_value (metadata_read epoch name (length nodes) bits low utf8 short few)
    ∙ told_again epoch name (length nodes) bits some few in
    opened_is file (length front) (Some told) front meta last ahead behind tells
    ∙ ap (λ (b : Bool). if b then cut front told else Err Version)
    (known_again (length nodes) bits)
    ∙ cut_again bits nodes section

-- and tells how many nodes it has
pub nodes_told_again : (bits : Bits) (nodes : List (ℕ × ℕ)) (section : List ℕ) (epoch : ℕ)
    → (name bytes : List ℕ) → bytes ≡ file_of bits nodes section epoch name
    → 0 < length nodes → length nodes < 2 ^ 32 → epoch < 2 ^ 64
    → IsUtf8 name → length name ≤ 64 → nodes_told bytes ≡ Some (length nodes)
unfolding nodes_told
nodes_told_again bits nodes section epoch name bytes is some few low utf8 short =
    let again = opened_again bits nodes section epoch name some few low utf8 short in
    ap (λ b. nodes_of (opened b)) is ∙ ap nodes_of again
