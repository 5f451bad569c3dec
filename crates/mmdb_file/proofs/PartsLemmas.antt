-- The file that is written from the parts of a tree.
use Rattle.std.proofs.Common.{◌≡◌, ◌∙◌, ◌+◌, ◌<◌, ◌≤◌, ◌^◌, ap, sym, refl, length, arith, ℕ, List}
use Rattle.std.proofs.Common.{map, Ok}
use Rattle.std.specs.Prelude.{nat_eq, option_map, Some}
use Rattle.std.specs.Str.{IsUtf8}
use Rattle.geo_addr.specs.Bits.{bits_of}
use Rattle.geo_addr.proofs.BitsLemmas.{length-bits_of}
use Rattle.geo_terms.specs.PlaceForm.{PlaceParts}
use Rattle.geo_terms.specs.Numbers.{place_at}
use Rattle.trie_core.specs.declared.node.NodeId.{NodeId}
use Rattle.trie_core.specs.declared.node.Rec.{Rec}
use Rattle.trie_core.specs.declared.node.Rec.TheVariants.{Node}
use Rattle.trie_core.specs.declared.node.Pair.{Pair}
use Rattle.trie_core.specs.declared.node.Root.{Root}
use Rattle.trie_core.specs.Tree.{Tree, AllLeaves}
use Rattle.trie_core.specs.Store.{IsOf, IsSound, leaf_at, meaning, record_of, tree_of}
use Rattle.least_nodes.specs.Layout.{inner, laid, place_order}
use Rattle.least_nodes.specs.Order.{trees_of}
use Rattle.mmdb_tree.specs.Laws.{NodeFits}
use Rattle.mmdb_tree.specs.Nodes.{smallest}
use Rattle.std.specs.Prelude.{slice_index_or}
use Rattle.mmdb_file.specs.FileImage.{node_for, file_of, file_with}
use Rattle.mmdb_file.specs.Laws.{WrittenFileIsWalked}
use Rattle.mmdb_file.specs.PlaceValue.{place_value}
use Rattle.mmdb_file.specs.Section.{Section, section_of}
use Rattle.mmdb_file.specs.Walk.{walk, nodes_told}
use Rattle.mmdb_file.specs.Writing.{AreParts, nodes_from, number_of, section_for, values_of}
use Rattle.mmdb_file.specs.declared.writing.Parts.{Parts}
use Rattle.mmdb_file.proofs.ImageLemmas.{numbers_known, image_is, written_is, nodes_equal}
use Rattle.mmdb_file.proofs.ImageLemmas.{nodes_are}
use Rattle.mmdb_file.proofs.OpenedLemmas.{nodes_told_again}
use Rattle.mmdb_file.proofs.WalkLemmas.{walked_address}
use Rattle.mmdb_file.proofs.WritingLemmas.{length-mapped, length-nodes_from, limit-le}

-- as many nodes as the tree has
pub count_len : (pairs : List Pair) (t : Tree ℕ) (ids : List NodeId)
    → trees_of pairs ids ≡ inner nat_eq t → length ids ≡ length (inner nat_eq t)
count_len pairs t ids trees =
    sym (length-mapped (λ (id : NodeId). meaning pairs (Node id)) ids) ∙ ap length trees

-- the section of the places in the order of the tree
pub section_laid : (places : List PlaceParts) (t : Tree ℕ) (numbers : List ℕ)
    → numbers ≡ place_order t → section_of (values_of places numbers) ≡ section_for places t
section_laid places t numbers same = ap (λ ks. section_of (values_of places ks)) same

module _ (pairs : List Pair) (places : List PlaceParts) (root : Root) (rec : Rec)
    (same : rec ≡ record_of root) (parts : Parts)
    (are : AreParts pairs places (tree_of pairs root) parts) where
  abbrev nodes : List (ℕ × ℕ)
  nodes = nodes_from pairs (number_of parts.numbers) rec parts.numbers.nodes

  ids_len : length parts.numbers.nodes ≡ length (inner nat_eq (tree_of pairs root))
  ids_len = count_len pairs (tree_of pairs root) parts.numbers.nodes are.nodes

  pub ids_few : length parts.numbers.nodes ≤ parts.numbers.count
  ids_few = omega (arith, ids_len, are.count)

  counted : length nodes ≡ parts.numbers.count
  counted = omega (
    arith,
    length-nodes_from pairs (number_of parts.numbers) rec parts.numbers.nodes,
    ids_len,
    are.count,
  )

  few : length nodes < 2 ^ 32
  few = omega (arith, counted, are.count, are.low, limit-le parts.bits)

  pub told : (epoch : ℕ) (name items : List ℕ)
      → items ≡ file_of parts.bits nodes parts.section.bytes epoch name
      → epoch < 2 ^ 64 → IsUtf8 name → length name ≤ 64
      → nodes_told items ≡ Some parts.numbers.count
  told epoch name items is low utf8 short =
      nodes_told_again parts.bits nodes parts.section.bytes epoch name items is
      (omega (arith, counted, are.count)) few low utf8 short
      ∙ ap Some counted

  module _ (sound : IsSound pairs) (is_root : IsOf pairs (record_of root))
      (known : (address k : ℕ) → address < 2 ^ 128 → leaf_at pairs root address ≡ Some k
      → k ≤ length places) where
    all : AllLeaves (λ k. k ≤ length places) (tree_of pairs root)
    all = numbers_known pairs sound places (record_of root) is_root known

    -- the nodes are the layout of the tree
    nodes_laid : nodes ≡ map (node_for nat_eq (place_at places) parts.numbers.count
        (place_order (tree_of pairs root)) (section_for places (tree_of pairs root)).starts)
        (laid nat_eq (tree_of pairs root))
    nodes_laid =
        nodes_equal pairs parts.numbers.count parts.numbers.count parts.numbers.nodes
        parts.numbers.nodes parts.numbers.nodes parts.numbers.places
        (place_order (tree_of pairs root)) parts.numbers.starts.items
        (section_for places (tree_of pairs root)).starts rec (record_of root) refl refl refl
        are.leaves are.starts same
        ∙ nodes_are pairs sound places (record_of root) is_root all parts.numbers.nodes are.of
        are.nodes parts.numbers.count (section_for places (tree_of pairs root)).starts
        (tree_of pairs root) refl

    pub file_is : (epoch : ℕ) (name items : List ℕ)
        → items ≡ file_of parts.bits nodes parts.section.bytes epoch name
        → file_with nat_eq (place_at places) (tree_of pairs root) epoch name ≡ Some items
    file_is epoch name items is =
        let section : Section = section_for places (tree_of pairs root) in
        let fits : smallest (parts.numbers.count + 16 + length section.bytes) ≡ Some parts.bits =
        ap (λ n. smallest (n + 16 + length section.bytes)) are.count ∙ are.bits in
        image_is pairs sound places (record_of root) is_root all parts.numbers.nodes are.of
        are.nodes parts.bits epoch name parts.numbers.count are.count fits
        ∙ written_is parts.bits pairs epoch name items parts.numbers.count parts.numbers.count
        parts.numbers.nodes parts.numbers.nodes parts.numbers.nodes parts.numbers.places
        (place_order (tree_of pairs root)) parts.numbers.starts.items section.starts
        parts.section.bytes section.bytes rec (record_of root) refl refl refl are.leaves
        are.starts are.section same is

    pub walked : WrittenFileIsWalked → (epoch : ℕ) (name items : List ℕ)
        → items ≡ file_of parts.bits nodes parts.section.bytes epoch name
        → epoch < 2 ^ 64 → IsUtf8 name → length name ≤ 64
        → ((k : ℕ) → k < length nodes → NodeFits parts.bits (slice_index_or nodes k (0, 0)))
        → (address k : ℕ) → leaf_at pairs root address ≡ Some k
        → walk items (bits_of 128 address) ≡ Ok (option_map place_value (place_at places k))
    walked law epoch name items is low utf8 short fits address k here =
        ap (λ b. walk b (bits_of 128 address))
        (is ∙ ap (λ s. file_of parts.bits nodes s epoch name) are.section)
        ∙ walked_address law places (tree_of pairs root) all
        (section_for places (tree_of pairs root)) are.holds parts.bits epoch name low utf8 short
        nodes fits few parts.numbers.count nodes_laid are.count (bits_of 128 address)
        (omega (arith, length-bits_of 128 address)) k here
