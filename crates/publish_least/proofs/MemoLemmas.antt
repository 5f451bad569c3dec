-- What a walk keeps, and how it grows.
use Rattle.std.proofs.Common.{◌≡◌, ◌≢◌, ◌⊎◌, inl, inr, ℕ, Bool, true}
use Rattle.std.proofs.Common.{false, true≢false, nat_eq, if◌then◌else◌, List, [], ◌∷◌, ◌++◌}
use Rattle.std.proofs.Common.{get_or, slice_get, Option, None, Some, unwrap_or, position, is_some}
use Rattle.std.proofs.Common.{refl, sym, ap, subst, ◌∙◌, arith, append-nil, append_assoc}
use Rattle.std.proofs.lemmas.List.Quantifiers.{position-Some}
use Rattle.std.proofs.lemmas.Option.{slice_get-get_or, slice_get_within}
use Rattle.trie_core.specs.declared.node.NodeId.{NodeId}
use Rattle.trie_core.specs.declared.node.Rec.{Rec}
use Rattle.trie_core.specs.declared.node.Rec.TheVariants.{Leaf, Node}
use Rattle.trie_core.specs.declared.node.Pair.{Pair}
use Rattle.trie_core.specs.Tree.{Tree, leaf, node}
use Rattle.trie_core.specs.Store.{meaning, pair_of}
use Rattle.trie_core.proofs.StoreLemmas.{slice_get-push, meaning-leaf}
use Rattle.trie_core.proofs.TreeLemmas.{nat_equality}
use Rattle.least_nodes.specs.Layout.{leaves, each_once}
use Rattle.least_nodes.proofs.Elements.{each_once-append, each_once-known, In-from_any, any-from_In}
use Rattle.least_nodes.proofs.WalkLemmas.{same_node_equality}
use Rattle.publish_least.specs.Price.{has}
use Rattle.publish_least.specs.Choice.{order_after}
use Rattle.publish_least.specs.Memo.{Table, same_node, IsSet, IsKnown, IsMemo, Stays, IsNoted}
use Rattle.publish_least.specs.Memo.{HasIndex, IsSetOf, single}
use Rattle.publish_least.proofs.HasLemmas.{has-first, has-cases, has-append}
use Rattle.publish_least.proofs.PriceLemmas.{or_left, or_right}
use Rattle.publish_least.proofs.SetLemmas.{has-from_slice_get, IsSet-leaf, IsSet-grown}

-- the index at which a leaf was found
pub HasIndex-found : (order : List ℕ) (rec : Rec) (x : ℕ) (found : Option ℕ) (index : ℕ)
    → rec ≡ Leaf x → has order x ≡ true → found ≡ position (nat_eq x) order
    → is_some found ≡ has order x → index ≡ unwrap_or found 0 → HasIndex order rec index
HasIndex-found order rec x None index is known at some taken =
    absurd (true≢false (sym known ∙ sym some))
HasIndex-found order rec x (Some i) index is known at some taken =
    let where-it-is = position-Some (nat_eq x) order i 0 (sym at) in
    let same : x ≡ get_or order i 0 = (nat_equality x (get_or order i 0)).0 where-it-is.1 in
    let here : slice_get order i ≡ Some x =
    slice_get-get_or order i 0 where-it-is.0 ∙ ap Some (sym same) in
    subst (λ r. HasIndex order r index) (sym is)
    (subst (λ p. slice_get order p ≡ Some x) (sym taken) here)

-- what is known of a leaf
pub known_leaf : (table : Table) (rec : Rec) (x : ℕ) → rec ≡ Leaf x → IsKnown table rec
    → has table.order x ≡ true
known_leaf table rec x is known = subst (IsKnown table) is known

pub known_node : (table : Table) (rec : Rec) (id : NodeId) → rec ≡ Node id → IsKnown table rec
    → (set : List ℕ) × (table.find id ≡ Some set)
known_node table rec id is known = subst (IsKnown table) is known

-- what is read for a record is its set
pub IsSet-read : (pairs : List Pair) (table : Table) → IsMemo pairs table
    → (rec : Rec) (index : ℕ) (set : List ℕ) → IsKnown table rec → HasIndex table.order rec index
    → IsSetOf table rec (index ∷ []) set
    → IsSet table.order (meaning pairs rec) set
IsSet-read pairs table memo (Leaf x) index set known at is =
    subst (λ t. IsSet table.order t set) (sym (meaning-leaf pairs x)) (subst
    (λ s. IsSet table.order (leaf x) s) (sym is) (IsSet-leaf table.order x index memo.once at))
IsSet-read pairs table memo (Node id) index set known at is =
    subst (λ s. IsSet table.order (meaning pairs (Node id)) s) (sym (is known.0 known.1))
    (memo.sets id known.0 known.1)

-- ---- a leaf more

once_push : (order : List ℕ) (x : ℕ) → has order x ≡ false
    → ((i j y : ℕ) → slice_get order i ≡ Some y → slice_get order j ≡ Some y → i ≡ j)
    → (i j y : ℕ) → slice_get (order ++ x ∷ []) i ≡ Some y
    → slice_get (order ++ x ∷ []) j ≡ Some y → i ≡ j
once_push order x new once i j y first second =
    elim (slice_get-push order x i y first) [
      | inl here ↦ elim (slice_get-push order x j y second) [
        | inl there ↦ once i j y here there
        | inr last ↦ absurd
            (true≢false (sym (has-from_slice_get order i y here) ∙ ap (has order) last.1 ∙ new))
      ]
      | inr last ↦ elim (slice_get-push order x j y second) [
        | inl there ↦ absurd
            (true≢false (sym (has-from_slice_get order j y there) ∙ ap (has order) last.1 ∙ new))
        | inr other ↦ last.0 ∙ sym other.0
      ]
    ]

-- all that is known stays known where the order grows and the sets stay
pub Stays-grown : (old new : Table) → ((x : ℕ) → has old.order x ≡ true → has new.order x ≡ true)
    → new.find ≡ old.find → Stays old new
Stays-grown old new kept find (Leaf x) known = kept x known
Stays-grown old new kept find (Node id) known =
    (known.0, ap (λ (f : NodeId → Option (List ℕ)). f id) find ∙ known.1)

module _ (pairs : List Pair) (old new : Table) (x : ℕ) (memo : IsMemo pairs old)
    (grows : new.order ≡ order_after old.order (single x)) (find : new.find ≡ old.find) where
  kept_by : (p : Bool) → has old.order x ≡ p → (y : ℕ) → has old.order y ≡ true
      → has (if p then old.order else old.order ++ x ∷ []) y ≡ true
  kept_by true is y there = there
  kept_by false is y there =
      has-append old.order (x ∷ []) y ∙ or_left (has old.order y) (has (x ∷ []) y) there

  pub kept_leaf : (y : ℕ) → has old.order y ≡ true → has new.order y ≡ true
  kept_leaf y there = ap (λ order. has order y) grows ∙ kept_by (has old.order x) refl y there

  pub Stays-leaf : Stays old new
  Stays-leaf = Stays-grown old new kept_leaf find

  known_by : (p : Bool) → has old.order x ≡ p
      → has (if p then old.order else old.order ++ x ∷ []) x ≡ true
  known_by true is = is
  known_by false is =
      has-append old.order (x ∷ []) x ∙ or_right (has old.order x) (has (x ∷ []) x) (has-first x [])

  pub known_of_leaf : has new.order x ≡ true
  known_of_leaf = ap (λ order. has order x) grows ∙ known_by (has old.order x) refl

  once_by : (p : Bool) → has old.order x ≡ p
      → (i j y : ℕ) → slice_get (if p then old.order else old.order ++ x ∷ []) i ≡ Some y
      → slice_get (if p then old.order else old.order ++ x ∷ []) j ≡ Some y → i ≡ j
  once_by true is = memo.once
  once_by false is = once_push old.order x is memo.once

  set_by : (p : Bool) → has old.order x ≡ p → (t : Tree ℕ) (set : List ℕ) → IsSet old.order t set
      → IsSet (if p then old.order else old.order ++ x ∷ []) t set
  set_by true is t set is-set = is-set
  set_by false is t set is-set = IsSet-grown old.order t set x is is-set

  found : (id : NodeId) (set : List ℕ) → new.find id ≡ Some set → old.find id ≡ Some set
  found id set at = sym (ap (λ (f : NodeId → Option (List ℕ)). f id) find) ∙ at

  pub IsMemo-leaf : IsMemo pairs new
  IsMemo-leaf = record {
    once =
        subst (λ order. (i j y : ℕ) → slice_get order i ≡ Some y → slice_get order j ≡ Some y
        → i ≡ j) (sym grows) (once_by (has old.order x) refl);
    sets =
        λ id set at. subst (λ order. IsSet order (meaning pairs (Node id)) set) (sym grows) (set_by
        (has old.order x) refl (meaning pairs (Node id)) set (memo.sets id set (found id set at)));
    below =
        λ id set pair at children. let were = memo.below id set pair (found id set at) children in
        (Stays-leaf pair.left were.0, Stays-leaf pair.right were.1);
  }

-- ---- a node more

module _ (pairs : List Pair) (old new : Table) (id : NodeId) (set : List ℕ)
    (memo : IsMemo pairs old) (noted : IsNoted old new id set) where
  -- each node is the noted one or another one
  same_or : (other : NodeId) (p : Bool) → same_node other id ≡ p → (other ≡ id) ⊎ (other ≢ id)
  same_or other true is = inl ((same_node_equality other id).0 is)
  same_or other false is =
      inr (λ same. true≢false (sym ((same_node_equality other id).1 same) ∙ is))

  pub Stays-node : Stays old new
  Stays-node (Leaf x) known = ap (λ order. has order x) noted.order ∙ known
  Stays-node (Node other) known =
      elim (same_or other (same_node other id) refl) [
        | inl same ↦ (set, ap new.find same ∙ noted.here)
        | inr differs ↦ (known.0, noted.others other differs ∙ known.1)
      ]

  pub known_of_node : IsKnown new (Node id)
  known_of_node = (set, noted.here)

  module _
      (left right : Rec) (pair : pair_of pairs id ≡ Some (record { left = left; right = right }))
      (is-set : IsSet old.order (meaning pairs (Node id)) set) (knows-left : IsKnown old left)
      (knows-right : IsKnown old right) where
    set_here : (other : NodeId) (s : List ℕ) → other ≡ id → new.find other ≡ Some s
        → IsSet old.order (meaning pairs (Node other)) s
    set_here other s same at =
        let one : Some set ≡ Some s = sym noted.here ∙ ap new.find (sym same) ∙ at in
        let is : set ≡ s = cc in
        subst (λ (n : NodeId). IsSet old.order (meaning pairs (Node n)) s) (sym same)
        (subst (λ z. IsSet old.order (meaning pairs (Node id)) z) is is-set)

    below_here : (other : NodeId) (p : Pair) → other ≡ id → pair_of pairs other ≡ Some p
        → IsKnown old p.left × IsKnown old p.right
    below_here other p same at =
        let one : Some (record { left = left; right = right }) ≡ Some p =
        sym pair ∙ ap (pair_of pairs) (sym same) ∙ at in
        let is : record { left = left; right = right } ≡ p = cc in
        subst (λ (q : Pair). IsKnown old q.left × IsKnown old q.right) is (knows-left, knows-right)

    pub IsMemo-node : IsMemo pairs new
    IsMemo-node = record {
      once =
          subst (λ order. (i j y : ℕ) → slice_get order i ≡ Some y → slice_get order j ≡ Some y
          → i ≡ j) (sym noted.order) memo.once;
      sets = λ other s at.
          subst (λ order. IsSet order (meaning pairs (Node other)) s) (sym noted.order) (
          elim (same_or other (same_node other id) refl) [
            | inl same ↦ set_here other s same at
            | inr differs ↦ memo.sets other s (sym (noted.others other differs) ∙ at)
          ]);
      below = λ other s p at children.
          let were : IsKnown old p.left × IsKnown old p.right =
          elim (same_or other (same_node other id) refl) [
            | inl same ↦ below_here other p same children
            | inr differs ↦ memo.below other s p (sym (noted.others other differs) ∙ at) children
          ] in
          (Stays-node p.left were.0, Stays-node p.right were.1);
    }

-- ---- before a walk, and a walk that adds nothing

pub IsMemo-new : (pairs : List Pair) (table : Table) → table.order ≡ 0 ∷ []
    → ((id : NodeId) → table.find id ≡ None) → IsMemo pairs table
IsMemo-new pairs table order none = record {
  once =
      subst (λ xs. (i j y : ℕ) → slice_get xs i ≡ Some y → slice_get xs j ≡ Some y → i ≡ j)
      (sym order) one;
  sets = λ id set at. absurd (let never = none id in cc);
  below = λ id set pair at children. absurd (let never = none id in cc);
}
  where
    one : (i j y : ℕ) → slice_get (0 ∷ []) i ≡ Some y → slice_get (0 ∷ []) j ≡ Some y → i ≡ j
    one i j y first second =
        let a = slice_get_within (0 ∷ []) i y first in
        let b = slice_get_within (0 ∷ []) j y second in
        omega arith

-- the leaves of a known record all have indexes
pub known_leaves : (pairs : List Pair) (table : Table) → IsMemo pairs table
    → (rec : Rec) → IsKnown table rec → (x : ℕ) → has (leaves (meaning pairs rec)) x ≡ true
    → has table.order x ≡ true
known_leaves pairs table memo (Leaf y) known x is =
    elim (has-cases x y [] (ap (λ t. has (leaves t) x) (sym (meaning-leaf pairs y)) ∙ is)) [
      | inl same ↦ ap (has table.order) same ∙ known
      | inr later ↦ absurd (cc)
    ]
known_leaves pairs table memo (Node id) known x is = (memo.sets id known.0 known.1).listed x is

pub order_after-known : (pairs : List Pair) (table : Table) → IsMemo pairs table
    → (rec : Rec) → IsKnown table rec → table.order ≡ order_after table.order (meaning pairs rec)
order_after-known pairs table memo rec known =
    sym (each_once-known nat_eq nat_equality table.order (leaves (meaning pairs rec))
    (λ x inside. In-from_any nat_eq nat_equality x table.order (known_leaves pairs table memo rec
    known x (any-from_In nat_eq nat_equality x (leaves (meaning pairs rec)) inside))))

-- a walk through two halves
pub order_after-node : (seen : List ℕ) (l r : Tree ℕ)
    → order_after seen (node l r) ≡ order_after (order_after seen l) r
order_after-node seen l r = each_once-append nat_eq nat_equality seen (leaves l) (leaves r)

-- leaf 0 keeps the first index
pub order_begins : (seen xs : List ℕ) → (more : List ℕ) × (each_once nat_eq seen xs ≡ seen ++ more)
order_begins seen [] = ([], sym (append-nil seen))
order_begins seen (x ∷ xs) =
    let old = order_begins seen xs in
    let new = order_begins (seen ++ x ∷ []) xs in
    by (has seen x) old (x ∷ new.0, new.1 ∙ append_assoc seen (x ∷ []) new.0)
  where
    by : (p : Bool) → (more : List ℕ) × (each_once nat_eq seen xs ≡ seen ++ more)
        → (more : List ℕ) × (each_once nat_eq (seen ++ x ∷ []) xs ≡ seen ++ more)
        → (more : List ℕ)
        × ((if p then each_once nat_eq seen xs else each_once nat_eq (seen ++ x ∷ []) xs)
        ≡ seen ++ more)
    by true old new = old
    by false old new = new

-- ---- what an insert says

pub IsNoted-from_updates : (old new : Table) (id : NodeId) (set : List ℕ)
    → new.order ≡ old.order → new.find id ≡ Some set
    → ((other : NodeId) → same_node id other ≡ false → new.find other ≡ old.find other)
    → IsNoted old new id set
IsNoted-from_updates old new id set order here others = record {
  order = order;
  here = here;
  others = λ other differs. others other (by (same_node id other) refl differs);
}
  where
    by : {other : NodeId} (p : Bool) → same_node id other ≡ p → other ≢ id → p ≡ false
    by true is differs = absurd (differs (sym ((same_node_equality id _).0 is)))
    by false is differs = refl
