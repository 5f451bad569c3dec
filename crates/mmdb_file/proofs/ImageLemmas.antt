-- What is written for a root is the file image of the tree that the root means.
use Rattle.std.proofs.Common.{◌≡◌, ℕ, zero, suc, ◌+◌, ◌<◌, ◌≤◌, inl, inr, Bool, true, false}
use Rattle.std.proofs.Common.{true≢false, not, List, [], ◌∷◌, ◌++◌, length, map, filter, get_or}
use Rattle.std.proofs.Common.{Some, refl, sym, ◌∙◌, ap, ap₂, subst, arith, append_assoc, append-nil}
use Rattle.std.proofs.Common.{cond, All, ◌^◌, replicate}
use Rattle.std.specs.Prelude.{nat_eq, slice_get, slice_index, is_some, max, if◌then◌else◌}
use Rattle.std.specs.List.{list_any, position_or_len, IsDistinct, AllByRecursion}
use Rattle.std.proofs.Math.Dec.{eqb-suc-zero}
use Rattle.std.proofs.lemmas.List.Elements.{All-head, All-tail}
use Rattle.mmdb_tree.specs.declared.bits.Bits.{Bits}
use Rattle.mmdb_tree.specs.Nodes.{smallest}
use Rattle.std.proofs.lemmas.Option.{slice_get-get_or, get_or_from_slice_get}
use Rattle.std.proofs.lemmas.List.{length-replicate}
use Rattle.geo_addr.specs.Bits.{bits_of, number_of}
use Rattle.geo_addr.proofs.BitsLemmas.{OneListOfBits-each}
use Rattle.geo_terms.specs.PlaceForm.{PlaceParts}
use Rattle.geo_terms.specs.Numbers.{place_at}
use Rattle.trie_core.specs.declared.node.NodeId.{NodeId}
use Rattle.trie_core.specs.declared.node.Rec.{Rec}
use Rattle.trie_core.specs.declared.node.Rec.TheVariants.{Leaf, Node}
use Rattle.trie_core.specs.declared.node.Pair.{Pair}
use Rattle.trie_core.specs.Tree.{Tree, leaf, node, height, look, tree_eq, AllLeaves}
use Rattle.trie_core.specs.Laws.{IsEquality}
use Rattle.trie_core.specs.Store.{meaning, IsOf, IsSound}
use Rattle.trie_core.proofs.TreeLemmas.{nat_equality}
use Rattle.trie_core.proofs.StoreLemmas.{meaning-leaf, meaning_node, children_of, pair_at}
use Rattle.trie_core.proofs.StoreLemmas.{same_from_meaning}
use Rattle.least_nodes.specs.NodeList.{Member, says}
use Rattle.least_nodes.specs.Layout.{each_once, preorder, leaves, inner, leaf_order, member}
use Rattle.least_nodes.specs.Layout.{pair_of, laid, place_order, is_place}
use Rattle.least_nodes.specs.Order.{trees_of, AreOf}
use Rattle.least_nodes.proofs.Elements.{In, In-append, In-left, In-right, In-map, In-each_once}
use Rattle.least_nodes.proofs.Elements.{In-each_once-new, In-filter, In-from_filter, any-from_In}
use Rattle.least_nodes.proofs.Elements.{none-from_not_In, each_once-new, IsDistinct-from_none}
use Rattle.least_nodes.proofs.TreeParts.{leaves-inside}
use Rattle.least_nodes.proofs.WalkLemmas.{id_equality, tree_equality}
use Rattle.mmdb_file.specs.FileImage.{spots, section, record_for, node_for, node_records}
use Rattle.mmdb_file.specs.FileImage.{records_end, file_with, file_of}
use Rattle.mmdb_file.specs.Writing.{same_id, record_number, node_numbers, nodes_from, section_for}

module _ {X : Type 0} where
  -- no element stands twice
  abbrev pub Apart : List X → Type 0
  Apart [] = Unit {0}
  Apart (x ∷ xs) = (In x xs → ⊥) × Apart xs

  module _ (eq : X → X → Bool) (equality : IsEquality eq) where
    none_same : (x : X) (xs : List X) → AllByRecursion (λ y. eq x y ≡ false) xs → In x xs → ⊥
    none_same x [] all is = is
    none_same x (y ∷ ys) all (inl same) = true≢false (sym ((equality x y).1 same) ∙ all.0)
    none_same x (y ∷ ys) all (inr rest) = none_same x ys all.1 rest

    Apart-from_distinct : (xs : List X) → IsDistinct eq xs → Apart xs
    unfolding IsDistinct
    Apart-from_distinct [] apart = tt
    Apart-from_distinct (x ∷ xs) apart = (none_same x xs apart.0, Apart-from_distinct xs apart.1)

    pub each_once-apart : (seen xs : List X) → ((x : X) → In x xs → In x seen → ⊥) → Apart xs
        → each_once eq seen xs ≡ seen ++ xs
    each_once-apart seen [] fresh apart = sym (append-nil seen)
    each_once-apart seen (x ∷ xs) fresh apart =
        each_once-new eq equality seen x xs (fresh x (inl refl))
        ∙ each_once-apart (seen ++ x ∷ []) xs
        (λ y is before. elim (In-append y seen (x ∷ []) before) [
          | inl first ↦ fresh y (inr is) first
          | inr last ↦ elim last [
            | inl same ↦ apart.0 (subst (λ z. In z xs) same is)
            | inr none ↦ none
          ]
        ])
        apart.1
        ∙ append_assoc seen (x ∷ []) xs

    pub set_is_list : (xs : List X) → Apart xs → each_once eq [] xs ≡ xs
    set_is_list xs apart = each_once-apart [] xs (λ x is none. none) apart

    pub Apart-each_once : (xs : List X) → Apart (each_once eq [] xs)
    Apart-each_once xs =
        Apart-from_distinct (each_once eq [] xs) (IsDistinct-from_none eq equality xs)

    -- what a test leaves
    pub Apart-filter : (test : X → Bool) (xs : List X) → Apart xs → Apart (filter test xs)
    Apart-filter test [] apart = tt
    Apart-filter test (x ∷ xs) apart =
        elim (test x) as (λ (b : Bool). Apart (if b then x ∷ filter test xs else filter test xs)) [
          | true ↦ (
            λ is. apart.0 (In-from_filter eq equality test x xs is).0,
            Apart-filter test xs apart.1,
          )
          | false ↦ Apart-filter test xs apart.1
        ]

    -- an element that a test passes is found in what is left, and any other is not
    pub any-filter : (test : X → Bool) (x : X) (xs : List X) → In x xs
        → list_any (eq x) (filter test xs) ≡ test x
    any-filter test x xs is =
        elim (test x) as (λ b. test x ≡ b → list_any (eq x) (filter test xs) ≡ b) [
          | true ↦ λ holds.
              any-from_In eq equality x (filter test xs) (In-filter eq equality test x xs is holds)
          | false ↦ λ fails. none-from_not_In eq equality x (filter test xs)
              (λ has. true≢false (sym (In-from_filter eq equality test x xs has).1 ∙ fails))
        ] refl

filter-same : {X : Type 0} (p q : X → Bool) (xs : List X)
    → ((x : X) → In x xs → p x ≡ q x) → filter p xs ≡ filter q xs
filter-same p q [] same = refl
filter-same p q (x ∷ xs) same =
    ap (λ (b : Bool). if b then x ∷ filter p xs else filter p xs) (same x (inl refl))
    ∙ ap (λ (ys : _). if q x then x ∷ ys else ys) (filter-same p q xs (λ y is. same y (inr is)))

map-same : {X Y : Type 0} (f g : X → Y) (xs : List X)
    → ((x : X) → In x xs → f x ≡ g x) → map f xs ≡ map g xs
map-same f g [] same = refl
map-same f g (x ∷ xs) same =
    ap₂ (λ y ys. y ∷ ys) (same x (inl refl)) (map-same f g xs (λ z is. same z (inr is)))

Apart-from_map : {X Y : Type 0} (f : X → Y) (xs : List X) → Apart (map f xs) → Apart xs
Apart-from_map f [] apart = tt
Apart-from_map f (x ∷ xs) apart = (λ is. apart.0 (In-map f x xs is), Apart-from_map f xs apart.1)

pub leaf_fits : (P : ℕ → Type 0) (t : Tree ℕ) → AllLeaves P t → (k : ℕ) → In k (leaves t) → P k
leaf_fits P (leaf a) all k (inl same) = subst P (sym same) all
leaf_fits P (leaf a) all k (inr none) = absurd none
leaf_fits P (node l r) all k is =
    elim (In-append k (leaves l) (leaves r) is) [
      | inl left ↦ leaf_fits P l all.0 k left
      | inr right ↦ leaf_fits P r all.1 k right
    ]

blank : PlaceParts
blank = record { country = []; region = []; city = []; postal = [] }

-- a number of the table is a place unless it is 0
pub place_or_none : (places : List PlaceParts) (k : ℕ) → k ≤ length places
    → is_some (place_at places k) ≡ is_place k
place_or_none places zero le = refl
place_or_none places (suc i) le =
    let p : PlaceParts = get_or places i blank in
    let found : slice_get places i ≡ Some p = slice_get-get_or places i blank (omega arith) in
    ap is_some found ∙ sym (ap not (eqb-suc-zero i))

map-nil : {X Y : Type 0} (f : X → Y) (xs : List X) → map f xs ≡ [] → xs ≡ []
map-nil f [] is = refl
map-nil f (x ∷ xs) is = absurd (cc)

map-three : {X Y Z W : Type 0} (f : Z → W) (g : Y → Z) (h : X → Y) (xs : List X)
    → map f (map g (map h xs)) ≡ map (λ x. f (g (h x))) xs
map-three f g h [] = refl
map-three f g h (x ∷ xs) = ap (λ ys. f (g (h x)) ∷ ys) (map-three f g h xs)

length-mapped : {X Y : Type 0} (f : X → Y) (xs : List X) → length (map f xs) ≡ length xs
length-mapped f [] = refl
length-mapped f (x ∷ xs) = ap suc (length-mapped f xs)

agree : (a b : Bool) → (a ≡ true → b ≡ true) → (b ≡ true → a ≡ true) → a ≡ b
agree true b to from = sym (to refl)
agree false true to from = from refl
agree false false to from = refl

All-In : {X : Type 0} (P : X → Type 0) (xs : List X) → All P xs → (x : X) → In x xs → P x
All-In P [] all x is = absurd is
All-In P (y ∷ ys) all x (inl same) = subst P (sym same) (All-head P y ys all)
All-In P (y ∷ ys) all x (inr rest) = All-In P ys (All-tail P y ys all) x rest

-- how many nodes are written for a tree
pub laid_len : (t : Tree ℕ) → length (laid nat_eq t) ≡ max (length (inner nat_eq t)) 1
laid_len (leaf a) = refl
laid_len (node l r) =
    let some : In (node l r) (inner nat_eq (node l r)) = In-each_once-new (tree_eq nat_eq)
    tree_equality (node l r) [] (preorder (node l r)) (inl refl) in
    omega (
      arith,
      length-mapped (pair_of nat_eq (inner nat_eq (node l r))) (inner nat_eq (node l r)),
      In-length (node l r) (inner nat_eq (node l r)) some,
    )
  where
    In-length : (x : Tree ℕ) (xs : List (Tree ℕ)) → In x xs → 1 ≤ length xs
    In-length x [] is = absurd is
    In-length x (y ∷ ys) is = omega arith

-- the leaves that are places, where each leaf is a number of the table
pub spots_are : (places : List PlaceParts) (t : Tree ℕ) → AllLeaves (λ k. k ≤ length places) t
    → spots nat_eq (place_at places) t ≡ place_order t
unfolding spots
spots_are places t all =
    filter-same (λ a. is_some (place_at places a)) is_place (leaf_order nat_eq t)
    (λ k is. elim (In-each_once nat_eq nat_equality k [] (leaves t) is) [
      | inl none ↦ absurd none
      | inr found ↦ place_or_none places k (leaf_fits (λ n. n ≤ length places) t all k found)
    ])

nodes_from_some : (pairs : List Pair) (number : Rec → ℕ) (root : Rec) (ids : List NodeId)
    → (ids ≡ [] → ⊥) → nodes_from pairs number root ids ≡ map (node_numbers pairs number) ids
nodes_from_some pairs number root [] some = absurd (some refl)
nodes_from_some pairs number root (id ∷ ids) some = refl

module _ (pairs : List Pair) (sound : IsSound pairs) (places : List PlaceParts) (root : Rec)
    (root-of : IsOf pairs root) (all : AllLeaves (λ k. k ≤ length places) (meaning pairs root))
    (ids : List NodeId) (ids-of : AreOf pairs ids)
    (trees : trees_of pairs ids ≡ inner nat_eq (meaning pairs root)) where
  pub ids_set : each_once same_id [] ids ≡ ids
  ids_set =
      set_is_list same_id id_equality ids
      (Apart-from_map (λ id. meaning pairs (Node id)) ids (subst Apart (sym trees)
      (Apart-each_once (tree_eq nat_eq) tree_equality (preorder (meaning pairs root)))))

  pub places_set : each_once nat_eq [] (place_order (meaning pairs root))
      ≡ place_order (meaning pairs root)
  places_set =
      set_is_list nat_eq nat_equality (place_order (meaning pairs root))
      (Apart-filter nat_eq nat_equality is_place (leaf_order nat_eq (meaning pairs root))
      (Apart-each_once nat_eq nat_equality (leaves (meaning pairs root))))

  eq_same : (id j : NodeId) → IsOf pairs (Node id) → IsOf pairs (Node j)
      → tree_eq nat_eq (meaning pairs (Node id)) (meaning pairs (Node j)) ≡ same_id id j
  eq_same id j of of' =
      agree (tree_eq nat_eq (meaning pairs (Node id)) (meaning pairs (Node j))) (same_id id j)
      (λ is.
      let trees_same : meaning pairs (Node id) ≡ meaning pairs (Node j) =
      (tree_equality (meaning pairs (Node id)) (meaning pairs (Node j))).0 is in
      let recs : Node id ≡ Node j = same_from_meaning pairs sound (length pairs) (Node id) (Node j)
      (omega arith) of of' trees_same in
      let same : id ≡ j = cc in
      (id_equality id j).1 same)
      (λ is. (tree_equality (meaning pairs (Node id)) (meaning pairs (Node j))).1
      (ap (λ n. meaning pairs (Node n)) ((id_equality id j).0 is)))

  position_same : (id : NodeId)
      → IsOf pairs (Node id) → (xs : List NodeId) → ((j : NodeId) → In j xs → IsOf pairs (Node j))
      → position_or_len (tree_eq nat_eq (meaning pairs (Node id))) (trees_of pairs xs)
      ≡ position_or_len (same_id id) xs
  position_same id of [] xs-of = refl
  position_same id of (j ∷ js) xs-of =
      ap₂ (λ (b : Bool) (n : ℕ). cond (not b) (1 + n) 0) (eq_same id j of (xs-of j (inl refl)))
      (position_same id of js (λ i is. xs-of i (inr is)))

  -- the tree, the number of a record in the store, and the record and the node of a file
  abbrev root_tree : Tree ℕ
  root_tree = meaning pairs root

  abbrev number : (n : ℕ) (starts : List ℕ) → Rec → ℕ
  number n starts = record_number n ids (place_order root_tree) starts

  abbrev written_record : (n : ℕ) (starts : List ℕ) → Member ℕ → ℕ
  written_record n starts = record_for nat_eq (place_at places) n (place_order root_tree) starts

  abbrev written_node : (n : ℕ) (starts : List ℕ) → Member ℕ × Member ℕ → ℕ × ℕ
  written_node n starts = node_for nat_eq (place_at places) n (place_order root_tree) starts

  abbrev member_for : Tree ℕ → Member ℕ
  member_for t = member nat_eq (inner nat_eq root_tree) t

  abbrev pair_for : Tree ℕ → Member ℕ × Member ℕ
  pair_for t = pair_of nat_eq (inner nat_eq root_tree) t

  -- a leaf of the tree is among the written places where it is one
  place_found : (k : ℕ) → In k (leaves root_tree)
      → list_any (nat_eq k) (place_order root_tree) ≡ is_some (place_at places k)
  place_found k leaf-of =
      let ordered : In k (leaf_order nat_eq root_tree) =
      In-each_once-new nat_eq nat_equality k [] (leaves root_tree) leaf-of in
      any-filter nat_eq nat_equality is_place k (leaf_order nat_eq root_tree) ordered
      ∙ sym (place_or_none places k (leaf_fits (λ i. i ≤ length places) root_tree all k leaf-of))

  -- the number of a record that a node of the tree leads to
  number_is : (n : ℕ) (starts : List ℕ) (rec : Rec) → IsOf pairs rec
      → ((k : ℕ) → rec ≡ Leaf k → In k (leaves root_tree))
      → number n starts rec ≡ written_record n starts (member_for (meaning pairs rec))
  number_is n starts (Leaf k) of inside =
      ap (λ (b : Bool). if b then n + 16
      + slice_index starts (position_or_len (nat_eq k) (place_order root_tree)) else n)
      (place_found k (inside k refl))
      ∙ sym (ap (λ (t : Tree ℕ). written_record n starts (member_for t)) (meaning-leaf pairs k))
  number_is n starts (Node id) of inside =
      let p = pair_at pairs sound.earlier id of in
      let own : meaning pairs (Node id)
      ≡ node (meaning pairs p.0.left) (meaning pairs p.0.right) =
      meaning_node pairs sound.earlier id p.0 p.1 in
      sym (position_same id of ids (All-In (λ i. IsOf pairs (Node i)) ids ids-of))
      ∙ ap (position_or_len (tree_eq nat_eq (meaning pairs (Node id)))) trees
      ∙ ap (λ (t : Tree ℕ). position_or_len (tree_eq nat_eq t) (inner nat_eq root_tree)) own
      ∙ sym (ap (λ (t : Tree ℕ). written_record n starts (member_for t)) own)

  -- the leaves below a node that is written are leaves of the tree
  node_leaf : (id : NodeId) → In id ids → (k : ℕ) → In k (leaves (meaning pairs (Node id)))
      → In k (leaves root_tree)
  node_leaf id is k below =
      let tree : Tree ℕ = meaning pairs (Node id) in
      let among : In tree (inner nat_eq root_tree) =
      subst (In tree) trees (In-map (λ i. meaning pairs (Node i)) id ids is) in
      let under : In tree (preorder root_tree) =
      elim (In-each_once (tree_eq nat_eq) tree_equality tree [] (preorder root_tree) among) [
        | inl none ↦ absurd none
        | inr found ↦ found
      ] in
      leaves-inside k tree root_tree under below

  -- a record that is a leaf is the one leaf of its tree
  own_leaf : (rec : Rec) (k : ℕ) → rec ≡ Leaf k → In k (leaves (meaning pairs rec))
  own_leaf rec k is =
      subst (λ (t : Tree ℕ). In k (leaves t)) (sym (ap (meaning pairs) is ∙ meaning-leaf pairs k))
      (inl refl)

  -- the numbers of a node that is written, by its children
  children_are : (n : ℕ) (starts : List ℕ) (id : NodeId) → In id ids → (p : Pair)
      → slice_get pairs id.0 ≡ Some p
      → (number n starts p.left, number n starts p.right)
      ≡ written_node n starts
      (member_for (meaning pairs p.left), member_for (meaning pairs p.right))
  children_are n starts id is p at =
      let left : Tree ℕ = meaning pairs p.left in
      let right : Tree ℕ = meaning pairs p.right in
      let own : meaning pairs (Node id) ≡ node left right =
      meaning_node pairs sound.earlier id p at in
      let of = children_of pairs sound.earlier id.0 p at in
      let down = λ (k : ℕ) (has : In k (leaves (node left right))). node_leaf id is k
      (subst (λ (t : Tree ℕ). In k (leaves t)) (sym own) has) in
      ap₂ (λ (x y : ℕ). (x, y))
      (number_is n starts p.left of.0
      (λ k e. down k (In-left k (leaves left) (leaves right) (own_leaf p.left k e))))
      (number_is n starts p.right of.1
      (λ k e. down k (In-right k (leaves left) (leaves right) (own_leaf p.right k e))))

  -- the numbers of a node that is written
  node_is : (n : ℕ) (starts : List ℕ) (id : NodeId) → In id ids
      → node_numbers pairs (number n starts) id
      ≡ written_node n starts (pair_for (meaning pairs (Node id)))
  node_is n starts id is =
      let of : IsOf pairs (Node id) = All-In (λ i. IsOf pairs (Node i)) ids ids-of id is in
      let p = pair_at pairs sound.earlier id of in
      let at : get_or pairs id.0 (record { left = Leaf 0; right = Leaf 0 }) ≡ p.0 =
      get_or_from_slice_get pairs id.0 p.0 (record { left = Leaf 0; right = Leaf 0 }) p.1 in
      let own : meaning pairs (Node id)
      ≡ node (meaning pairs p.0.left) (meaning pairs p.0.right) =
      meaning_node pairs sound.earlier id p.0 p.1 in
      ap (λ (q : Pair). (number n starts q.left, number n starts q.right)) at
      ∙ children_are n starts id is p.0 p.1
      ∙ sym (ap (λ (t : Tree ℕ). written_node n starts (pair_for t)) own)

  -- the numbers of all nodes
  pub nodes_are : (n : ℕ) (starts : List ℕ) (u : Tree ℕ) → root_tree ≡ u
      → nodes_from pairs (number n starts) root ids ≡ map (written_node n starts) (laid nat_eq u)
  nodes_are n starts (leaf a) is =
      let none : ids ≡ [] =
      map-nil (λ i. meaning pairs (Node i)) ids (trees ∙ ap (inner nat_eq) is) in
      let here : number n starts root ≡ written_record n starts (says a) =
      number_is n starts root root-of (own_leaf root)
      ∙ ap (λ (t : Tree ℕ). written_record n starts (member_for t)) is in
      ap (nodes_from pairs (number n starts) root) none ∙ ap (λ (x : ℕ). (x, x) ∷ []) here
  nodes_are n starts (node l r) is =
      let same : inner nat_eq (node l r) ≡ trees_of pairs ids =
      sym (ap (inner nat_eq) is) ∙ sym trees in
      let some : ids ≡ [] → ⊥ =
      λ none. subst (In (node l r)) (same ∙ ap (trees_of pairs) none)
      (In-each_once-new (tree_eq nat_eq) tree_equality (node l r) [] (preorder (node l r))
      (inl refl)) in
      nodes_from_some pairs (number n starts) root ids some
      ∙ map-same (node_numbers pairs (number n starts))
      (λ id. written_node n starts (pair_for (meaning pairs (Node id)))) ids (node_is n starts)
      ∙ sym (map-three (written_node n starts) pair_for (λ id. meaning pairs (Node id)) ids)
      ∙ ap (λ ts. map (written_node n starts) (map pair_for ts)) (sym same)
      ∙ ap (λ (t : Tree ℕ). map (written_node n starts)
      (map (pair_of nat_eq (inner nat_eq t)) (inner nat_eq (node l r)))) is

  -- the file image
  pub image_is : (bits : Bits) (epoch : ℕ) (name : List ℕ) (n : ℕ)
      → n ≡ max (length (inner nat_eq (meaning pairs root))) 1
      → smallest (n + 16 + length (section_for places (meaning pairs root)).bytes) ≡ Some bits
      → file_with nat_eq (place_at places) (meaning pairs root) epoch name
      ≡ Some (file_of bits
      (nodes_from pairs (record_number n ids (place_order (meaning pairs root))
      (section_for places (meaning pairs root)).starts) root ids)
      (section_for places (meaning pairs root)).bytes epoch name)
  unfolding file_with node_records records_end section
  image_is bits epoch name n count fits =
      let t : Tree ℕ = meaning pairs root in
      let len : length (laid nat_eq t) ≡ n = laid_len t ∙ sym count in
      rw (spots_are places t all, len, fits)
      (ap (λ nodes. Some (file_of bits nodes (section_for places t).bytes epoch name))
      (sym (nodes_are n (section_for places t).starts t refl)))

-- equal parts make equal files
pub written_is : (bits : Bits) (pairs : List Pair) (epoch : ℕ) (name items : List ℕ) (n n' : ℕ)
    (keys ids ids' : List NodeId) (places places' starts starts' section section' : List ℕ)
    (root root' : Rec)
    → n ≡ n' → keys ≡ ids' → ids ≡ ids' → places ≡ places' → starts ≡ starts' → section ≡ section'
    → root ≡ root'
    → items ≡ file_of bits
    (nodes_from pairs (record_number n keys places starts) root ids) section epoch name
    → Some (file_of bits (nodes_from pairs (record_number n' ids' places' starts') root' ids')
    section' epoch name) ≡ Some items
written_is bits pairs epoch name items n n' keys ids ids' places places' starts starts' section
    section' root root' a b c d e f g is =
    sym (ap Some is
    ∙ ap (λ x. Some (file_of bits
    (nodes_from pairs (record_number x keys places starts) root ids) section epoch name)) a
    ∙ ap (λ x. Some (file_of bits
    (nodes_from pairs (record_number n' x places starts) root ids) section epoch name)) b
    ∙ ap (λ x. Some (file_of bits
    (nodes_from pairs (record_number n' ids' places starts) root x) section epoch name)) c
    ∙ ap (λ x. Some (file_of bits
    (nodes_from pairs (record_number n' ids' x starts) root ids') section epoch name)) d
    ∙ ap (λ x. Some (file_of bits
    (nodes_from pairs (record_number n' ids' places' x) root ids') section epoch name)) e
    ∙ ap (λ x. Some (file_of bits
    (nodes_from pairs (record_number n' ids' places' starts') root ids') x epoch name)) f
    ∙ ap (λ x. Some (file_of bits
    (nodes_from pairs (record_number n' ids' places' starts') x ids') section' epoch name)) g)

-- equal parts make equal nodes
pub nodes_equal : (pairs : List Pair) (n n' : ℕ) (keys ids ids' : List NodeId)
    (places places' starts starts' : List ℕ) (root root' : Rec)
    → n ≡ n' → keys ≡ ids' → ids ≡ ids' → places ≡ places' → starts ≡ starts' → root ≡ root'
    → nodes_from pairs (record_number n keys places starts) root ids
    ≡ nodes_from pairs (record_number n' ids' places' starts') root' ids'
nodes_equal pairs n n' keys ids ids' places places' starts starts' root root' a b c d e g =
    ap (λ x. nodes_from pairs (record_number x keys places starts) root ids) a
    ∙ ap (λ x. nodes_from pairs (record_number n' x places starts) root ids) b
    ∙ ap (λ x. nodes_from pairs (record_number n' ids' places starts) root x) c
    ∙ ap (λ x. nodes_from pairs (record_number n' ids' x starts) root ids') d
    ∙ ap (λ x. nodes_from pairs (record_number n' ids' places' x) root ids') e
    ∙ ap (λ x. nodes_from pairs (record_number n' ids' places' starts') x ids') g

-- what holds of each answer of a tree holds of its leaves
AllLeaves-from_looks : (P : ℕ → Type 0) (n : ℕ) (t : Tree ℕ) → height t ≤ n
    → ((w : List Bool) → length w ≡ n → (k : ℕ) → look t w ≡ Some k → P k) → AllLeaves P t
AllLeaves-from_looks P n (leaf a) low all =
    all (replicate n false) (length-replicate n false) a refl
AllLeaves-from_looks P zero (node l r) low all = absurd (omega arith)
AllLeaves-from_looks P (suc n) (node l r) low all = (
  AllLeaves-from_looks P n l (omega arith) (λ w long k is. all (false ∷ w) (ap suc long) k is),
  AllLeaves-from_looks P n r (omega arith) (λ w long k is. all (true ∷ w) (ap suc long) k is),
)

pub numbers_known : (pairs : List Pair)
    (sound : IsSound pairs) (places : List PlaceParts) (root : Rec) → IsOf pairs root
    → ((a k : ℕ) → a < 2 ^ 128 → look (meaning pairs root) (bits_of 128 a) ≡ Some k
    → k ≤ length places) → AllLeaves (λ k. k ≤ length places) (meaning pairs root)
numbers_known pairs sound places root of known =
    AllLeaves-from_looks (λ k. k ≤ length places) 128 (meaning pairs root) (sound.low root of)
    (λ w long k is.
    let one = OneListOfBits-each 128 in
    known (number_of w) k (one.below w long)
    (ap (look (meaning pairs root)) (one.again w long) ∙ is))
