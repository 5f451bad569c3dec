-- How the pairs of a store are found: at a slot of the later of their children, at a window of
-- slots, or in an ordered map.
use Rattle.std.specs.Prelude.{◌≡◌, ℕ, zero, suc, ◌+◌, ◌-◌, ◌*◌, ◌/◌, ◌%◌, ◌^◌, ◌<◌, ◌≤◌, max, ◌⊎◌}
use Rattle.std.specs.Prelude.{List, length, slice_get, Option, Some}
use Rattle.std.specs.BTreeMap.{BTreeMap, get}
use Rattle.trie_core.specs.contracts.node.PairOrd.TheImpl as pair_order
use Rattle.trie_core.specs.declared.node.Rec.{Rec}
use Rattle.trie_core.specs.declared.node.Rec.TheVariants.{Leaf, Node}
use Rattle.trie_core.specs.declared.node.Pair.{Pair}
use Rattle.trie_core.specs.NearHash.{mixed}

-- the number of a node, and 0 of a leaf
abbrev pub number_or_zero : Rec → ℕ
number_or_zero (Leaf k) = 0
number_or_zero (Node id) = id.0

-- the slot of the later child of a pair: each node has one for where it is
-- a left child and one for where it is a right one
abbrev pub later : Pair → ℕ
later p = max (2 * number_or_zero p.left) (2 * number_or_zero p.right + 1)

-- a number for each record
abbrev pub number_of_record : Rec → ℕ
number_of_record (Leaf k) = 2 * k
number_of_record (Node id) = 2 * id.0 + 1

-- the first slot of the window of a pair, of so many slots
unfoldable pub first_slot : Pair → ℕ → ℕ
first_slot p len =
    mixed (number_of_record p.left) (number_of_record p.right) / 2 ^ 32 % (len - 7)

-- the number stands at one of so many slots from this one on, and each before it leads elsewhere;
-- or all of them do, and the rest tells the number
unfoldable pub Stands : List ℕ → ℕ → ℕ → Option ℕ → ℕ → Type 0
Stands slots at zero rest n = rest ≡ Some n
Stands slots at (suc w) rest n =
    (slice_get slots at ≡ Some (suc n))
    ⊎ (((m : ℕ) × (slice_get slots at ≡ Some (suc m))) × Stands slots (suc at) w rest n)

-- what the ordered map has of a pair
abbrev pub crowded_at : BTreeMap Pair ℕ → Pair → Option ℕ
crowded_at crowded p = get pair_order.cmp-value.it crowded p

-- each number is still at its slot
abbrev pub Keeps : List ℕ → List ℕ → Type 0
Keeps slots slots' =
    (at k : ℕ) → slice_get slots at ≡ Some (suc k) → slice_get slots' at ≡ Some (suc k)

-- at the slot of each pair stands one more than the number of a pair, which is this one's
-- unless the window of the pair or the map leads to it, where there are windows
pub record AreFound (pairs : List Pair) (firsts slots : List ℕ) (crowded : BTreeMap Pair ℕ)
    : Type 0 where
  pub few : length pairs < 2 ^ 32
  pub once : (i j : ℕ) (p : Pair) → slice_get pairs i ≡ Some p → slice_get pairs j ≡ Some p → i ≡ j
  pub wide : 0 < length slots → 8 ≤ length slots
  pub only : 0 < length slots → (n : ℕ) (p : Pair) → crowded_at crowded p ≡ Some n
      → slice_get pairs n ≡ Some p
  pub each : 0 < length slots → (n : ℕ) (p : Pair) → slice_get pairs n ≡ Some p
      → (slice_get firsts (later p) ≡ Some (suc n))
      ⊎ Stands slots (first_slot p (length slots)) 8 (crowded_at crowded p) n
  pub noted : (n : ℕ) (p : Pair) → slice_get pairs n ≡ Some p
      → (m : ℕ) × (slice_get firsts (later p) ≡ Some (suc m))

-- the number of a pair came to the first free slot of its window, or to the map
pub record IsPut (slots slots' : List ℕ) (crowded crowded' : BTreeMap Pair ℕ) (p : Pair) (n : ℕ)
    : Type 0 where
  pub len : length slots' ≡ length slots
  pub kept : Keeps slots slots'
  pub stands : Stands slots' (first_slot p (length slots)) 8 (crowded_at crowded' p) n
  pub others : (q : Pair) → (crowded_at crowded' q ≡ crowded_at crowded q)
      ⊎ ((q ≡ p) × (crowded_at crowded' q ≡ Some n))
