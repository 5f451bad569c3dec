-- The steps of the writer.
use Rattle.std.proofs.Common.{◌≡◌, ℕ, zero, suc, ◌+◌, ◌*◌, ◌<◌, ◌≤◌, not, Bool, true, false, List}
use Rattle.std.proofs.Common.{[], ◌∷◌, ◌++◌, length, take, drop, get_or, Some, None, refl, sym, ap}
use Rattle.std.proofs.Common.{◌∙◌, arith, append_assoc, length-append, inl}
use Rattle.std.proofs.Common.{inr, subst, All, add-one, cond, true≢false, ◌||◌}
use Rattle.std.proofs.Common.{map as map_list}
use Rattle.mmdb_data.specs.ValueTree.{ValueTree, map, most, CanBeSpelled}
use Rattle.mmdb_data.specs.Packing.{Packed, in_full, all_in_full, offsets_in}
use Rattle.std.specs.List.{position, position_or_len, list_any}
use Rattle.std.proofs.lemmas.Bool.{cases_lt, lt-ltb, false_from_ne_true}
use Rattle.std.proofs.lemmas.List.Folds.{list_any_at}
use Rattle.std.proofs.lemmas.List.Quantifiers.{position-Some}
use Rattle.std.proofs.lemmas.List.{take_more, take_all}
use Rattle.std.proofs.lemmas.List.Elements.{All-push}
use Rattle.std.proofs.Math.Seq.{drop-cons}
use Rattle.std.proofs.lemmas.List.Sums.{prefix_len-le-length}
use Rattle.std.proofs.Math.Nat.{add-mul}
use Rattle.std.proofs.lemmas.Option.{get_or_from_slice_get}
use Rattle.std.specs.Prelude.{slice_get, slice_index, nat_eq, max, if◌then◌else◌, ◌^◌}
use Rattle.std.specs.Prelude.{replicate}
use Rattle.trie_core.specs.declared.node.NodeId.{NodeId}
use Rattle.trie_core.specs.declared.node.Pair.{Pair}
use Rattle.trie_core.specs.declared.node.Rec.{Rec}
use Rattle.trie_core.specs.declared.node.Rec.TheVariants.{Leaf, Node}
use Rattle.mmdb_file.specs.Writing.{node_numbers, number_of, record_number, nodes_from, same_id}
use Rattle.mmdb_file.specs.declared.numbers.Numbers.{Numbers}
use Rattle.mmdb_data.specs.Spelling.{spelling}
use Rattle.mmdb_file.specs.FileImage.{file_of}
use Rattle.mmdb_file.specs.Marker.{marker}
use Rattle.mmdb_file.specs.Metadata.{told_members, english, metadata}
use Rattle.mmdb_tree.specs.Laws.{NodeFits}
use Rattle.mmdb_tree.specs.declared.bits.Bits.TheVariants.{B24, B28, B32}
use Rattle.least_nodes.specs.Layout.{each_once}
use Rattle.std.proofs.lemmas.List.{get_or-map}
use Rattle.mmdb_tree.specs.declared.bits.Bits.{Bits}
use Rattle.mmdb_tree.specs.Nodes.{node_bytes, tree_bytes, width, limit, record_size}
use Rattle.mmdb_tree.proofs.NodeLemmas.{length-node_bytes}

pub none_is_len : {X : Type 0} (p : X → Bool) (xs : List X) → position p xs ≡ None
    → position_or_len p xs ≡ length xs
none_is_len p xs none =
    elim (cases_lt (position_or_len p xs) (length xs)) [
      | inl a ↦ absurd (let found : position p xs ≡ Some (position_or_len p xs) =
          rw (lt-ltb (position_or_len p xs) (length xs) a) refl in cc)
      | inr a ↦ omega (arith, prefix_len-le-length (λ x. not (p x)) xs)
    ]

-- where an element passes a test, the first is within the list
any_within : {X : Type 0} (p : X → Bool) (xs : List X) → list_any p xs ≡ true
    → position_or_len p xs < length xs
any_within p [] is = absurd (true≢false (sym is))
any_within p (x ∷ xs) is =
    elim (p x) as (λ b. (b || list_any p xs) ≡ true
    → cond (not b) (1 + position_or_len p xs) 0 < length (x ∷ xs)) [
      | true ↦ λ _. omega arith
      | false ↦ λ rest. omega (arith, any_within p xs rest)
    ] is

pub none_found : {X : Type 0} (p : X → Bool) (xs : List X) → position p xs ≡ None
    → list_any p xs ≡ false
none_found p xs none =
    false_from_ne_true (list_any p xs) (λ is.
    let less = any_within p xs is in
    let same = none_is_len p xs none in
    omega (arith, less, same))

pub some_found : {X : Type 0} (p : X → Bool) (xs : List X) (i : ℕ) → position p xs ≡ Some i
    → (list_any p xs ≡ true) × (position_or_len p xs ≡ i)
some_found p [] i some = absurd (cc)
some_found p (x ∷ xs) i some =
    let at = position-Some p (x ∷ xs) i x some in (
      list_any_at p (x ∷ xs) i x at.0 at.1,
      elim (cases_lt (position_or_len p (x ∷ xs)) (length (x ∷ xs))) [
        | inl a ↦
            let found : position p (x ∷ xs) ≡ Some (position_or_len p (x ∷ xs)) =
            rw (lt-ltb (position_or_len p (x ∷ xs)) (length (x ∷ xs)) a) refl in
            let both : Some (position_or_len p (x ∷ xs)) ≡ Some i = sym found ∙ some in cc
        | inr a ↦
            let within = any_within p (x ∷ xs) (list_any_at p (x ∷ xs) i x at.0 at.1) in
            absurd (omega (arith, a, within))
      ],
    )

pub length-tree_bytes : (bits : Bits) (nodes : List (ℕ × ℕ))
    → length (tree_bytes bits nodes) ≡ length nodes * width bits
length-tree_bytes bits [] = omega arith
length-tree_bytes bits (x ∷ xs) = omega (
  arith,
  length-append (node_bytes bits x.0 x.1) (tree_bytes bits xs),
  length-node_bytes bits x.0 x.1,
  length-tree_bytes bits xs,
  add-mul (length xs) 1 (width bits),
)

-- one more value in the data section
module _ (value : ℕ → ValueTree) (numbers : List ℕ) (i : ℕ) (inside : i < length numbers) where
  rest_is : map_list value (drop i numbers)
      ≡ value (get_or numbers i 0) ∷ map_list value (drop (i + 1) numbers)
  rest_is =
      ap (map_list value) (drop-cons numbers i 0 inside
      ∙ ap (λ n. get_or numbers i 0 ∷ drop n numbers) (sym (add-one i)))

  pub data_packed : (made new total : Packed)
      → all_in_full (map_list value (drop i numbers)) made ≡ total
      → new ≡ in_full (value (get_or numbers i 0)) made
      → all_in_full (map_list value (drop (i + 1) numbers)) new ≡ total
  data_packed made new total before is =
      ap (all_in_full (map_list value (drop (i + 1) numbers))) is
      ∙ sym (ap (λ v. all_in_full v made) rest_is) ∙ before

  pub data_starts : (made new : Packed) (starts later total : List ℕ)
      → starts ++ offsets_in (map_list value (drop i numbers)) made ≡ total
      → later ≡ starts ++ length made.bytes ∷ [] → new ≡ in_full (value (get_or numbers i 0)) made
      → later ++ offsets_in (map_list value (drop (i + 1) numbers)) new ≡ total
  data_starts made new starts later total before is_later is_new =
      let rest : List ℕ = offsets_in (map_list value (drop (i + 1) numbers))
      (in_full (value (get_or numbers i 0)) made) in
      ap (λ (s : Packed). later ++ offsets_in (map_list value (drop (i + 1) numbers)) s) is_new
      ∙ ap (λ s. s ++ rest) is_later
      ∙ append_assoc starts (length made.bytes ∷ []) rest
      ∙ sym (ap (λ v. starts ++ offsets_in v made) rest_is) ∙ before

pub All_more : {X : Type 0} (P : X → Type 0) (xs : List X) (i : ℕ) (d : X) → i < length xs
    → All P (take i xs) → P (get_or xs i d) → All P (take (i + 1) xs)
All_more P xs i d inside before here =
    subst (All P) (sym (take_more xs i d inside))
    (All-push P (take i xs) (get_or xs i d) before here)

pub All_whole : {X : Type 0} (P : X → Type 0) (xs : List X) (i : ℕ) → length xs ≤ i
    → All P (take i xs) → All P xs
All_whole P xs i past all = subst (All P) (take_all i xs past) all

-- one more node of a tree that a loop appends
pub bytes_step : {X : Type 0} (bits : Bits) (f : X → ℕ × ℕ) (xs : List X) (i : ℕ) (d : X)
    (made new total : List ℕ) (left right : ℕ) → i < length xs
    → made ++ tree_bytes bits (map_list f (drop i xs)) ≡ total
    → new ≡ made ++ node_bytes bits left right → (left, right) ≡ f (get_or xs i d)
    → new ++ tree_bytes bits (map_list f (drop (i + 1) xs)) ≡ total
bytes_step bits f xs i d made new total left right inside before is here =
    let later : List (ℕ × ℕ) = map_list f (drop (i + 1) xs) in
    let rest : map_list f (drop i xs) ≡ f (get_or xs i d) ∷ later =
    ap (map_list f)
    (drop-cons xs i d inside ∙ ap (λ n. get_or xs i d ∷ drop n xs) (sym (add-one i))) in
    ap (λ z. z ++ tree_bytes bits later) is
    ∙ append_assoc made (node_bytes bits left right) (tree_bytes bits later)
    ∙ ap (λ (v : ℕ × ℕ). made ++ tree_bytes bits (v ∷ later)) here
    ∙ sym (ap (λ v. made ++ tree_bytes bits v) rest) ∙ before

-- the numbers of a node, by its children
pub node_by_children : (pairs : List Pair) (number : Rec → ℕ) (id : NodeId) (left right : Rec)
    → slice_get pairs id.0 ≡ Some (record { left = left; right = right })
    → (number left, number right) ≡ node_numbers pairs number id
node_by_children pairs number id left right is =
    let found : get_or pairs id.0 (record { left = Leaf 0; right = Leaf 0 }) ≡ record {
      left = left;
      right = right;
    } = get_or_from_slice_get pairs id.0 (record {
      left = left;
      right = right;
    }) (record { left = Leaf 0; right = Leaf 0 }) is in
    sym (ap (λ (p : Pair). (number p.left, number p.right)) found)

-- members that were added one after another
abbrev Pairs : Type 0
Pairs = List (List ℕ × ValueTree)

-- a member that was added with an equal value
pub added_value : (new old : Pairs) (key : List ℕ) (v w : ValueTree)
    → new ≡ old ++ (key, v) ∷ [] → v ≡ w → new ≡ old ++ (key, w) ∷ []
added_value new old key v w is same = is ∙ ap (λ t. old ++ (key, t) ∷ []) same

-- one more behind some
added_one : (old new later xs : Pairs) (b : List ℕ × ValueTree)
    → new ≡ old ++ xs → later ≡ new ++ b ∷ [] → later ≡ old ++ (xs ++ b ∷ [])
added_one old new later xs b is more =
    more ∙ ap (λ n. n ++ b ∷ []) is ∙ append_assoc old xs (b ∷ [])

-- three members before others
pub added_three : (old x1 x2 x3 rest : Pairs) (a b c : List ℕ × ValueTree)
    → x1 ≡ old ++ a ∷ [] → x2 ≡ x1 ++ b ∷ [] → x3 ≡ x2 ++ c ∷ []
    → x3 ++ rest ≡ old ++ a ∷ b ∷ c ∷ rest
added_three old x1 x2 x3 rest a b c e1 e2 e3 =
    ap (λ x. x ++ rest) (added_one old x2 x3 (a ∷ b ∷ []) c
    (added_one old x1 x2 (a ∷ []) b e1 e2) e3) ∙ append_assoc old (a ∷ b ∷ c ∷ []) rest

-- the two members of the name
pub added_two : (old x1 x2 : Pairs) (a b : List ℕ × ValueTree)
    → x1 ≡ old ++ a ∷ [] → x2 ≡ x1 ++ b ∷ [] → x2 ≡ old ++ a ∷ b ∷ []
added_two old x1 x2 a b e1 e2 = added_one old x1 x2 (a ∷ []) b e1 e2

-- the four members of the tree
pub added_four : (old x1 x2 x3 x4 : Pairs) (a b c d : List ℕ × ValueTree)
    → x1 ≡ old ++ a ∷ [] → x2 ≡ x1 ++ b ∷ [] → x3 ≡ x2 ++ c ∷ [] → x4 ≡ x3 ++ d ∷ []
    → x4 ≡ old ++ a ∷ b ∷ c ∷ d ∷ []
added_four old x1 x2 x3 x4 a b c d e1 e2 e3 e4 =
    added_one old x3 x4 (a ∷ b ∷ c ∷ []) d
    (added_one old x2 x3 (a ∷ b ∷ []) c (added_one old x1 x2 (a ∷ []) b e1 e2) e3) e4

-- the metadata can be written
pub told_spelled : (epoch : ℕ) (name : List ℕ) (nodes size : ℕ) → length name ≤ 64
    → CanBeSpelled (map (told_members epoch name nodes size))
unfolding told_members english
told_spelled epoch name nodes size few =
    let short : length name ≤ most = omega arith in (
      (
        omega arith,
        (
          omega arith,
          tt,
          (
            omega arith,
            tt,
            (
              omega arith,
              tt,
              (
                omega arith,
                short,
                (
                  omega arith,
                  (omega arith, (omega arith, short, tt)),
                  (
                    omega arith,
                    tt,
                    (
                      omega arith,
                      (omega arith, (omega arith, tt)),
                      (omega arith, tt, (omega arith, tt, tt)),
                    ),
                  ),
                ),
              ),
            ),
          ),
        ),
      ),
      omega arith,
    )

-- the spelled metadata is what is appended
pub metadata_spelled : (epoch : ℕ) (name : List ℕ) (nodes size : ℕ)
    (value : ValueTree) (old new : List ℕ) → value ≡ map (told_members epoch name nodes size)
    → new ≡ old ++ spelling value → new ≡ old ++ metadata epoch name nodes size
unfolding metadata
metadata_spelled epoch name nodes size value old new is put =
    put ∙ ap (λ v. old ++ spelling v) is

-- the parts of a file in order
pub file_parts : (bits : Bits) (nodes : List (ℕ × ℕ)) (section : List ℕ) (epoch : ℕ)
    (name tree whole : List ℕ) (count : ℕ) → tree ≡ tree_bytes bits nodes → count ≡ length nodes
    → whole ≡ (((tree ++ replicate 16 0) ++ section) ++ marker)
    ++ metadata epoch name count (record_size bits)
    → whole ≡ file_of bits nodes section epoch name
unfolding file_of
file_parts bits nodes section epoch name tree whole count is_tree counted is_whole =
    let told : List ℕ = metadata epoch name (length nodes) (record_size bits) in
    let front : List ℕ = (tree_bytes bits nodes ++ replicate 16 0) ++ section in
    is_whole
    ∙ ap (λ (n : ℕ). (((tree ++ replicate 16 0) ++ section) ++ marker)
    ++ metadata epoch name n (record_size bits)) counted
    ∙ ap (λ (t : List ℕ). (((t ++ replicate 16 0) ++ section) ++ marker) ++ told) is_tree
    ∙ append_assoc front marker told
    ∙ ap (λ (f : List ℕ). f ++ (marker ++ told))
    (append_assoc (tree_bytes bits nodes) (replicate 16 0) section)

-- a set is no longer than the list that it was made of
pub length-each_once : {X : Type 0} (eq : X → X → Bool) (seen xs : List X)
    → length (each_once eq seen xs) ≤ length seen + length xs
length-each_once eq seen [] = omega arith
length-each_once eq seen (x ∷ xs) =
    elim (list_any (eq x) seen)
    as (λ (b : Bool). length (if b then each_once eq seen xs else each_once eq (seen ++ x ∷ []) xs)
    ≤ length seen + length (x ∷ xs)) [
      | true ↦ omega (arith, length-each_once eq seen xs)
      | false ↦ omega (arith, length-each_once eq (seen ++ x ∷ []) xs, length-append seen (x ∷ []))
    ]

-- the numbers of all records fit where the greatest do
pub record_number-lt : (count end : ℕ) (ids : List NodeId) (places starts : List ℕ) (rec : Rec)
    → length ids < end → count < end → ((k : ℕ) → count + 16 + slice_index starts k < end)
    → record_number count ids places starts rec < end
record_number-lt count end ids places starts (Leaf k) few some low =
    elim (list_any (nat_eq k) places) as (λ (b : Bool). (if b
    then count + 16 + slice_index starts (position_or_len (nat_eq k) places) else count) < end) [
      | true ↦ low (position_or_len (nat_eq k) places)
      | false ↦ some
    ]
record_number-lt count end ids places starts (Node id) few some low =
    omega (arith, few, prefix_len-le-length (λ x. not (same_id id x)) ids)

pub length-mapped : {X Y : Type 0} (f : X → Y) (xs : List X) → length (map_list f xs) ≡ length xs
length-mapped f [] = refl
length-mapped f (x ∷ xs) = ap suc (length-mapped f xs)

-- the nodes fit where each number does
pub nodes_fit : (bits : Bits) (pairs : List Pair)
    (number : Rec → ℕ) (root : Rec) (ids : List NodeId) → ((rec : Rec) → number rec < limit bits)
    → (k : ℕ) → k < length (nodes_from pairs number root ids)
    → NodeFits bits (get_or (nodes_from pairs number root ids) k (0, 0))
nodes_fit bits pairs number root [] fits zero inside = (fits root, fits root)
nodes_fit bits pairs number root [] fits (suc k) inside = absurd (omega arith)
nodes_fit bits pairs number root (id ∷ ids) fits k inside =
    let f : NodeId → ℕ × ℕ = node_numbers pairs number in
    let at : get_or (map_list f (id ∷ ids)) k (0, 0) ≡ f (get_or (id ∷ ids) k id) =
    get_or-map f (id ∷ ids) k id (0, 0) (omega (arith, inside, length-mapped f (id ∷ ids))) in
    subst (NodeFits bits) (sym at) (fits _, fits _)

-- the numbers that a writer holds fit where its greatest does
pub number_fits : (bits : Bits) (numbers : Numbers) → length numbers.nodes ≤ numbers.count
    → ((k : ℕ) → numbers.count + 16 + slice_index numbers.starts.items k < limit bits)
    → (rec : Rec) → number_of numbers rec < limit bits
number_fits bits numbers keys low rec =
    record_number-lt numbers.count (limit bits) numbers.nodes numbers.places numbers.starts.items
    rec (omega (arith, keys, low 0)) (omega (arith, low 0)) low

pub numbers_fit : (bits : Bits) (pairs : List Pair) (numbers : Numbers) (root : Rec)
    (ids : List NodeId) → length numbers.nodes ≤ numbers.count
    → ((k : ℕ) → numbers.count + 16 + slice_index numbers.starts.items k < limit bits)
    → (k : ℕ) → k < length (nodes_from pairs (number_of numbers) root ids)
    → NodeFits bits (get_or (nodes_from pairs (number_of numbers) root ids) k (0, 0))
numbers_fit bits pairs numbers root ids keys low =
    nodes_fit bits pairs (number_of numbers) root ids (number_fits bits numbers keys low)

pub length-nodes_from : (pairs : List Pair) (number : Rec → ℕ) (root : Rec) (ids : List NodeId)
    → length (nodes_from pairs number root ids) ≡ max 1 (length ids)
length-nodes_from pairs number root [] = refl
length-nodes_from pairs number root (id ∷ ids) =
    omega (arith, length-mapped (node_numbers pairs number) (id ∷ ids))

pub limit-le : (bits : Bits) → limit bits ≤ 2 ^ 32
limit-le B24 = omega arith
limit-le B28 = omega arith
limit-le B32 = omega arith
