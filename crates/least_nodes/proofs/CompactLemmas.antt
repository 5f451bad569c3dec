-- A store that holds exactly the nodes of some trees has as many as they have different ones,
-- and roots of two stores that answer alike mean one tree.
use Rattle.std.proofs.Common.{◌≡◌, ℕ, zero, suc, ◌<◌, ◌≤◌, inl, inr, Bool, true, false, nat_eq}
use Rattle.std.proofs.Common.{List, [], ◌∷◌, length, slice_get, Some, refl, sym, ◌∙◌, ap, subst}
use Rattle.std.proofs.Common.{arith, le_refl, append-nil}
use Rattle.std.specs.Prelude.{flat_map}
use Rattle.std.specs.List.{IsDistinct, AllByRecursion}
use Rattle.std.proofs.lemmas.Option.{slice_get_within}
use Rattle.geo_addr.specs.Bits.{number_of}
use Rattle.geo_addr.proofs.BitsLemmas.{OneListOfBits-each}
use Rattle.trie_core.specs.declared.node.NodeId.{NodeId}
use Rattle.trie_core.specs.declared.node.Rec.{Rec}
use Rattle.trie_core.specs.declared.node.Rec.TheVariants.{Leaf, Node}
use Rattle.trie_core.specs.declared.node.Pair.{Pair}
use Rattle.trie_core.specs.Tree.{Tree, leaf, node, look, tree_eq}
use Rattle.trie_core.specs.Laws.{SameLookups}
use Rattle.trie_core.specs.Store.{meaning, tree_of, record_of, IsOf, IsSound}
use Rattle.trie_core.specs.Compact.{HoldsExactly, StandsIn}
use Rattle.trie_core.proofs.TreeLemmas.{nat_equality, same_from_lookups}
use Rattle.trie_core.proofs.StoreLemmas.{slice_get-Contains, meaning-leaf, same_from_meaning}
use Rattle.trie_core.proofs.StoreLemmas.{IsReduced-meaning}
use Rattle.least_nodes.specs.Layout.{each_once, preorder, IsNode}
use Rattle.least_nodes.specs.Laws.{CompactLength, OneTree}
use Rattle.least_nodes.specs.Together.{nodes_of, CompactCount}
use Rattle.least_nodes.proofs.Elements.{In, Contains-from_In, In-each_once, In-each_once-new}
use Rattle.least_nodes.proofs.Elements.{IsDistinct-from_none}
use Rattle.least_nodes.proofs.Positions.{length-le_from_apart}
use Rattle.least_nodes.proofs.TogetherLemmas.{In-from_standing, standing-from_In}
use Rattle.least_nodes.proofs.ListedLemmas.{IsNode-meaning}
use Rattle.least_nodes.proofs.WalkLemmas.{tree_equality}

-- the numbers below n, the highest first
abbrev numbers : ℕ → List ℕ
numbers zero = []
numbers (suc n) = n ∷ numbers n

length-numbers : (n : ℕ) → length (numbers n) ≡ n
length-numbers zero = refl
length-numbers (suc n) = ap suc (length-numbers n)

numbers_below : (n k : ℕ) → In k (numbers n) → k < n
numbers_below zero k is = absurd is
numbers_below (suc n) k (inl same) = omega (arith, same)
numbers_below (suc n) k (inr rest) = let below = numbers_below n k rest in omega (arith, below)

other_number : (n k : ℕ) → k < n → nat_eq n k ≡ false
other_number n k below = by (nat_eq n k) refl
  where
    by : (found : Bool) → nat_eq n k ≡ found → nat_eq n k ≡ false
    by true is = let same : n ≡ k = (nat_equality n k).0 is in absurd (omega (arith, same, below))
    by false is = is

all_other : (n k : ℕ) → k ≤ n → AllByRecursion (λ j. nat_eq n j ≡ false) (numbers k)
all_other n zero le = tt
all_other n (suc k) le = (other_number n k (omega arith), all_other n k (omega arith))

IsDistinct-numbers : (n : ℕ) → IsDistinct nat_eq (numbers n)
unfolding IsDistinct
IsDistinct-numbers zero = tt
IsDistinct-numbers (suc n) = (all_other n n (le_refl n), IsDistinct-numbers n)

-- the record of the node of a number
abbrev node_at : ℕ → Rec
node_at k = Node (record { 0 = k })

one_node : (id other : NodeId) → Node id ≡ Node other → id ≡ other
one_node id other same = cc

module _ (pairs : List Pair) (sound : IsSound pairs) (trees : List (Tree ℕ))
    (exact : HoldsExactly pairs trees) where
  -- each node of the store is one of the trees' nodes
  counted : (k : ℕ) → k < length pairs → In (meaning pairs (node_at k)) (nodes_of nat_eq trees)
  counted k below =
      In-each_once-new (tree_eq nat_eq) tree_equality (meaning pairs (node_at k)) []
      (flat_map preorder trees)
      (In-from_standing trees (meaning pairs (node_at k)) (IsNode-meaning pairs sound
      (record { 0 = k }) below) (exact.no_other (record { 0 = k }) below))

  -- a node is held under a number
  number_of_node : (s : Tree ℕ) → IsNode s → StandsIn trees s
      → (k : ℕ) × (k < length pairs) × (meaning pairs (node_at k) ≡ s)
  number_of_node (leaf a) is stands = absurd is
  number_of_node (node l r) is stands = let held = exact.each l r stands in by held.0 held.1 held.2
    where
      by : (rec : Rec) → IsOf pairs rec → meaning pairs rec ≡ node l r
          → (k : ℕ) × (k < length pairs) × (meaning pairs (node_at k) ≡ node l r)
      by (Leaf a) of means =
          let this : leaf a ≡ node l r = sym (meaning-leaf pairs a) ∙ means in absurd (cc)
      by (Node id) of means = (id.0, of, means)

  -- and what is counted is a node of the store
  stored : (s : Tree ℕ) → In s (nodes_of nat_eq trees)
      → (k : ℕ) × (meaning pairs (node_at k) ≡ s) × (k < length pairs)
  stored s is =
      elim (In-each_once (tree_eq nat_eq) tree_equality s [] (flat_map preorder trees) is) [
        | inl none ↦ absurd none
        | inr inside ↦
            let stands = standing-from_In trees s inside in
            let found = number_of_node s stands.0 stands.1 in
            (found.0, found.2, found.1)
      ]

  count_fits : length (nodes_of nat_eq trees) ≤ length pairs
  count_fits =
      length-le_from_apart (tree_eq nat_eq) tree_equality (length pairs)
      (λ s k. meaning pairs (node_at k) ≡ s) (λ s u k first second. sym first ∙ second)
      (nodes_of nat_eq trees)
      (IsDistinct-from_none (tree_eq nat_eq) tree_equality (flat_map preorder trees)) stored

  -- the node of a number stands there among the trees' nodes
  abbrev StandsAt : ℕ → ℕ → Type 0
  StandsAt k i =
      (k < length pairs) × (slice_get (nodes_of nat_eq trees) i ≡ Some (meaning pairs (node_at k)))

  alone : (k j i : ℕ) → StandsAt k i → StandsAt j i → k ≡ j
  alone k j i first second =
      let same : meaning pairs (node_at k) ≡ meaning pairs (node_at j) = cc in
      let one : node_at k ≡ node_at j = same_from_meaning pairs sound (length pairs) (node_at k)
      (node_at j) (le_refl _) first.0 second.0 same in
      ap (λ (id : NodeId). id.0) (one_node (record { 0 = k }) (record { 0 = j }) one)

  where_is : (k : ℕ) → In k (numbers (length pairs))
      → (i : ℕ) × StandsAt k i × (i < length (nodes_of nat_eq trees))
  where_is k is =
      let below = numbers_below (length pairs) k is in
      let at = slice_get-Contains (nodes_of nat_eq trees) (meaning pairs (node_at k))
      (Contains-from_In (tree_eq nat_eq) tree_equality (meaning pairs (node_at k))
      (nodes_of nat_eq trees) (counted k below)) in (
        at.0,
        (below, at.1),
        slice_get_within (nodes_of nat_eq trees) at.0 (meaning pairs (node_at k)) at.1,
      )

  store_fits : length pairs ≤ length (nodes_of nat_eq trees)
  store_fits =
      let few = length-le_from_apart nat_eq nat_equality (length (nodes_of nat_eq trees)) StandsAt
      alone (numbers (length pairs)) (IsDistinct-numbers (length pairs)) where_is in
      omega (arith, few, length-numbers (length pairs))

pub CompactCount-holds : (pairs : List Pair) → IsSound pairs → CompactCount pairs
CompactCount-holds pairs sound trees exact =
    omega (arith, count_fits pairs sound trees exact, store_fits pairs sound trees exact)

pub CompactLength-holds : (pairs : List Pair) → IsSound pairs → CompactLength pairs
CompactLength-holds pairs sound root of exact =
    CompactCount-holds pairs sound (tree_of pairs root ∷ []) exact
    ∙ ap (λ (ts : List (Tree ℕ)). length (each_once (tree_eq nat_eq) [] ts))
    (append-nil (preorder (tree_of pairs root)))

pub OneTree-holds : (one two : List Pair) → IsSound one → IsSound two → OneTree one two
OneTree-holds one two one-sound two-sound r s r-of s-of same =
    same_from_lookups 128 (tree_of one r) (tree_of two s) (
      one-sound.low (record_of r) r-of,
      IsReduced-meaning one one-sound (length one) (record_of r) (le_refl _) r-of,
    ) (
      two-sound.low (record_of s) s-of,
      IsReduced-meaning two two-sound (length two) (record_of s) (le_refl _) s-of,
    )
    along
  where
    along : SameLookups 128 (tree_of one r) (tree_of two s)
    along w long =
        let bits = OneListOfBits-each 128 in
        subst (λ v. look (tree_of one r) v ≡ look (tree_of two s) v) (bits.again w long)
        (same (number_of w) (bits.below w long))
