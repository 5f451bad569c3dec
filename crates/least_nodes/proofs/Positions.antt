-- Distinct subtrees need distinct nodes: a position of a list of nodes has the
-- lookups of one reduced tree alone.
use Rattle.std.proofs.Common.{◌≡◌, ℕ, zero, suc, ◌^◌, ◌<◌, ◌≤◌, inl, inr, Bool, true, false}
use Rattle.std.proofs.Common.{true≢false, List, [], ◌∷◌, ◌++◌, length, take, drop, Some, None, refl}
use Rattle.std.proofs.Common.{sym, ◌∙◌, ap, subst, arith, eqb, length-take-le, take-append-drop}
use Rattle.std.specs.List.{list_any, IsDistinct, AllByRecursion}
use Rattle.std.proofs.lemmas.Bool.{cases_lt, or_parts}
use Rattle.std.proofs.lemmas.Bool.Decides.{Decides-eqb}
use Rattle.std.proofs.lemmas.List.{get_or_past}
use Rattle.std.proofs.lemmas.Map.Steps.{length-le_from_distinct_below}
use Rattle.geo_addr.specs.Bits.{bits_of, number_of}
use Rattle.geo_addr.proofs.BitsLemmas.{length-bits_of, OneListOfBits-each}
use Rattle.trie_core.specs.Tree.{Tree, leaf, node, height, look, tree, tree_eq}
use Rattle.trie_core.specs.Laws.{IsReducedWithin, IsEquality}
use Rattle.trie_core.proofs.TreeLemmas.{leaf_from_constant, same_from_lookups, TreeOfFunction-holds}
use Rattle.least_nodes.specs.NodeList.{Member, at, says, side, records_at, go, reached}
use Rattle.least_nodes.specs.Layout.{preorder, below, IsNode, inner}
use Rattle.least_nodes.specs.Laws.{HasLookups, Finds, StandApart, Apart, Least, LeastFor}
use Rattle.least_nodes.proofs.Elements.{In, In-from_any, none-from_not_In, In-each_once}
use Rattle.least_nodes.proofs.Elements.{IsDistinct-from_none}
use Rattle.least_nodes.proofs.TreeParts.{IsEquality-tree_eq, IsNode-from_preorder, bits_to}

module _ {A : Type 0} where
  -- a tree answers along enough bits
  pub look-ends : (t : Tree A) (w : List Bool) → height t ≤ length w → (a : A) × (look t w ≡ Some a)
  look-ends (leaf a) w enough = (a, refl)
  look-ends (node l r) [] enough = absurd (omega arith)
  look-ends (node l r) (false ∷ w) enough = look-ends l w (omega arith)
  look-ends (node l r) (true ∷ w) enough = look-ends r w (omega arith)

  -- an answer stays along more bits
  pub look-longer : (t : Tree A) (u v : List Bool) (a : A) → look t u ≡ Some a
      → look t (u ++ v) ≡ Some a
  look-longer (leaf b) u v a is = is
  look-longer (node l r) [] v a is = absurd (cc)
  look-longer (node l r) (false ∷ u) v a is = look-longer l u v a is
  look-longer (node l r) (true ∷ u) v a is = look-longer r u v a is

  module _ (nodes : List (Member A × Member A)) where
    pub go-longer : (m : Member A) (u v : List Bool) (a : A) → go nodes m u ≡ Some a
        → go nodes m (u ++ v) ≡ Some a
    go-longer (says b) u v a is = is
    go-longer (at i) [] v a is = absurd (cc)
    go-longer (at i) (b ∷ u) v a is = go-longer (side b (records_at nodes i)) u v a is

    -- nothing is found from a position past the end
    pub go-past : (i : ℕ) (w : List Bool) → length nodes ≤ i → go nodes (at i) w ≡ None
    go-past i [] past = refl
    go-past i (false ∷ w) past =
        ap (λ (p : Member A × Member A). go nodes p.0 w) (get_or_past nodes i (at i, at i) past)
        ∙ go-past i w past
    go-past i (true ∷ w) past =
        ap (λ (p : Member A × Member A). go nodes p.1 w) (get_or_past nodes i (at i, at i) past)
        ∙ go-past i w past

    -- from this record on, the list answers as a reduced tree does, along each list of n bits
    pub record Means (m : Member A) (t : Tree A) (n : ℕ) : Type 0 where
      pub reduced : IsReducedWithin n t
      pub same : (w : List Bool) → length w ≡ n → go nodes m w ≡ look t w

    -- a record that means a node is a position, whose two records mean the node's children
    pub record Stands (m : Member A) (l r : Tree A) (n : ℕ) : Type 0 where
      pub i : ℕ
      pub is : m ≡ at i
      pub within : i < length nodes
      pub left : Means (records_at nodes i).0 l n
      pub right : Means (records_at nodes i).1 r n

    pub Stands-from_Means : (m : Member A) (l r : Tree A) (n : ℕ)
        → Means m (node l r) (suc n) → Stands m l r n
    Stands-from_Means (says a) l r n means =
        let constant : node l r ≡ leaf a = leaf_from_constant (suc n)
        (node l r) a means.reduced.0 means.reduced.1 (λ w long. sym (means.same w long)) in
        absurd (cc)
    Stands-from_Means (at i) l r n means = record {
      i = i;
      is = refl;
      within = elim (cases_lt i (length nodes)) [
        | inl less ↦ less
        | inr past ↦
            let w : List Bool = bits_of (suc n) 0 in
            let long : length w ≡ suc n = length-bits_of (suc n) 0 in
            let found = look-ends (node l r) w (omega (arith, means.reduced.0)) in
            let none : None ≡ Some found.0 = sym (go-past i w past) ∙ means.same w long ∙ found.1 in
            absurd (cc)
      ];
      left = record {
        reduced = (omega (arith, means.reduced.0), means.reduced.1.1);
        same = λ w long. means.same (false ∷ w) (ap suc long);
      };
      right = record {
        reduced = (omega (arith, means.reduced.0), means.reduced.1.2);
        same = λ w long. means.same (true ∷ w) (ap suc long);
      };
    }

    -- a record that means a node is a position of the list
    pub position_of : (m : Member A) (t : Tree A) (n : ℕ) → Means m t n → IsNode t
        → (i : ℕ) × (m ≡ at i) × (i < length nodes)
    position_of m (leaf a) n means is = absurd is
    position_of m (node l r) zero means is = absurd (omega (arith, means.reduced.0))
    position_of m (node l r) (suc n) means is =
        let here = Stands-from_Means m l r n means in (here.i, here.is, here.within)

    -- the bits that lead to a node of the tree lead to a record that means it
    pub Means-below : (p : List Bool) (m : Member A) (t : Tree A) (n : ℕ) → Means m t n
        → IsNode (below t p) → (k : ℕ) × Means (reached nodes m p) (below t p) k
    Means-below [] (says a) t n means is = (n, means)
    Means-below [] (at i) t n means is = (n, means)
    Means-below (b ∷ p) m (leaf a) n means is = absurd is
    Means-below (b ∷ p) m (node l r) zero means is = absurd (omega (arith, means.reduced.0))
    Means-below (false ∷ p) m (node l r) (suc n) means is =
        let here = Stands-from_Means m l r n means in
        let rest = Means-below p (records_at nodes here.i).0 l n here.left is in (
          rest.0,
          subst (λ v. Means (reached nodes v (false ∷ p)) (below l p) rest.0) (sym here.is) rest.1,
        )
    Means-below (true ∷ p) m (node l r) (suc n) means is =
        let here = Stands-from_Means m l r n means in
        let rest = Means-below p (records_at nodes here.i).1 r n here.right is in (
          rest.0,
          subst (λ v. Means (reached nodes v (true ∷ p)) (below r p) rest.0) (sym here.is) rest.1,
        )

    -- a record means one reduced tree alone, however many bits are left
    pub same_from_Means : (m : Member A) (s t : Tree A) (k n : ℕ) → k ≤ n → Means m s k
        → Means m t n → s ≡ t
    same_from_Means m s t k n le fewer more =
        same_from_lookups n s t (omega (arith, fewer.reduced.0), fewer.reduced.1) more.reduced
        (λ w long. agree w long)
      where
        agree : (w : List Bool) → length w ≡ n → look s w ≡ look t w
        agree w long =
            let u : List Bool = take k w in
            let v : List Bool = drop k w in
            let whole : u ++ v ≡ w = take-append-drop k w in
            let u-long : length u ≡ k = length-take-le k w (omega arith) in
            let ended = look-ends s u (omega (arith, fewer.reduced.0)) in
            let walked : go nodes m (u ++ v) ≡ Some ended.0 =
            go-longer m u v ended.0 (fewer.same u u-long ∙ ended.1) in
            let looked : look s (u ++ v) ≡ Some ended.0 = look-longer s u v ended.0 ended.1 in
            let both : look s (u ++ v) ≡ go nodes m (u ++ v) = looked ∙ sym walked in
            subst (λ x. look s x ≡ go nodes m x) whole both ∙ more.same w long

    -- two records that are one mean one tree
    pub same_from_reached : (m m' : Member A) (s t : Tree A) (k n : ℕ) → m ≡ m' → Means m s k
        → Means m' t n → s ≡ t
    same_from_reached m m' s t k n one first second =
        let second' : Means m t n = subst (λ v. Means v t n) (sym one) second in
        elim (cases_lt k n) [
          | inl less ↦ same_from_Means m s t k n (omega arith) first second'
          | inr more ↦ sym (same_from_Means m t s n k more second' first)
        ]

    pub StandApart-from_lookups : (n : ℕ) (t : Tree A) → IsReducedWithin n t → HasLookups n nodes t
        → StandApart nodes t
    StandApart-from_lookups n t reduced lookups = record { stands = stands; apart = apart }
      where
        whole : Means (at 0) t n
        whole = record { reduced = reduced; same = lookups }

        stands : (p : List Bool)
            → IsNode (below t p) → (i : ℕ) × (reached nodes (at 0) p ≡ at i) × (i < length nodes)
        stands p is =
            let here = Means-below p (at 0) t n whole is in
            position_of (reached nodes (at 0) p) (below t p) here.0 here.1 is

        apart : (p q : List Bool) → IsNode (below t p) → IsNode (below t q)
            → reached nodes (at 0) p ≡ reached nodes (at 0) q → below t p ≡ below t q
        apart p q p-is q-is one =
            let first = Means-below p (at 0) t n whole p-is in
            let second = Means-below q (at 0) t n whole q-is in
            same_from_reached (reached nodes (at 0) p) (reached nodes (at 0) q) (below t p)
            (below t q) first.0 second.0 one first.1 second.1

  -- distinct subtrees need distinct nodes
  pub Apart-holds : Apart A
  Apart-holds n t nodes reduced lookups = StandApart-from_lookups nodes n t reduced lookups

-- ---- as many positions as there are things that stand apart

module _ {X : Type 0} (eq : X → X → Bool) (equality : IsEquality eq) (n : ℕ) (StandsAt : X → ℕ
    → Type 0) (alone : (x y : X) (i : ℕ) → StandsAt x i → StandsAt y i → x ≡ y) where
  -- a position below n for each element, no two the same
  record Positioned (xs : List X) : Type 0 where
    positions : List ℕ
    long : length positions ≡ length xs
    distinct : IsDistinct eqb positions
    each : (q : ℕ) → In q positions → (x : X) × In x xs × StandsAt x q × (q < n)

  all_other : (i : ℕ) (js : List ℕ) → (In i js → ⊥) → AllByRecursion (λ j. eqb i j ≡ false) js
  all_other i [] out = tt
  all_other i (j ∷ js) out =
      let parts =
      or_parts (eqb i j) (list_any (eqb i) js) (none-from_not_In eqb Decides-eqb i (j ∷ js) out) in
      (parts.0, all_other i js (λ has. out (inr has)))

  none_equal : (x : X) (xs : List X) → AllByRecursion (λ y. eq x y ≡ false) xs → In x xs → ⊥
  none_equal x [] other is = is
  none_equal x (y ∷ ys) other (inl same) = true≢false (sym ((equality x y).1 same) ∙ other.0)
  none_equal x (y ∷ ys) other (inr rest) = none_equal x ys other.1 rest

  positioned : (xs : List X) → IsDistinct eq xs
      → ((x : X) → In x xs → (i : ℕ) × StandsAt x i × (i < n)) → Positioned xs
  unfolding IsDistinct
  positioned [] distinct where_is =
      record { positions = []; long = refl; distinct = tt; each = λ q is. absurd is }
  positioned (x ∷ xs) distinct where_is =
      let here = where_is x (inl refl) in
      let rest = positioned xs distinct.1 (λ y is. where_is y (inr is)) in
      record {
        positions = here.0 ∷ rest.positions;
        long = ap suc rest.long;
        distinct = (
          all_other here.0 rest.positions
              (λ has. let other = rest.each here.0 has in none_equal x xs
              distinct.0 (subst (λ v. In v xs) (alone other.0 x here.0 other.2 here.1) other.1)),
          rest.distinct,
        );
        each = λ q is. elim is [
          | inl same ↦
              (x, inl refl, subst (StandsAt x) (sym same) here.1, omega (arith, here.2, same))
          | inr later ↦ let other = rest.each q later in (other.0, inr other.1, other.2, other.3)
        ];
      }

  -- distinct things that stand apart below n are at most n
  pub length-le_from_apart : (xs : List X) → IsDistinct eq xs
      → ((x : X) → In x xs → (i : ℕ) × StandsAt x i × (i < n)) → length xs ≤ n
  length-le_from_apart xs distinct where_is =
      let all = positioned xs distinct where_is in
      let few = length-le_from_distinct_below all.positions n all.distinct
      (λ q found. (all.each q (In-from_any eqb Decides-eqb q all.positions found)).3) in
      omega (arith, few, all.long)

module _ {A : Type 0} where
  -- no list of nodes with a reduced tree's lookups is shorter than that of its different nodes
  pub Least-holds : Least A
  Least-holds eq equality n t reduced nodes lookups =
      length-le_from_apart (tree_eq eq)
      (IsEquality-tree_eq eq equality) (length nodes) StandsAt alone (inner eq t)
      (IsDistinct-from_none (tree_eq eq) (IsEquality-tree_eq eq equality) (preorder t)) where_is
    where
      law : StandApart nodes t
      law = Apart-holds n t nodes reduced lookups

      StandsAt : Tree A → ℕ → Type 0
      StandsAt s i = (p : List Bool) × (below t p ≡ s) × IsNode s × (reached nodes (at 0) p ≡ at i)

      alone : (s u : Tree A) (i : ℕ) → StandsAt s i → StandsAt u i → s ≡ u
      alone s u i first second =
          sym first.1 ∙ law.apart first.0 second.0 (subst IsNode (sym first.1) first.2)
          (subst IsNode (sym second.1) second.2) (first.3 ∙ sym second.3) ∙ second.1

      where_is : (s : Tree A) → In s (inner eq t) → (i : ℕ) × StandsAt s i × (i < length nodes)
      where_is s is =
          let inside : In s (preorder t) =
          elim (In-each_once (tree_eq eq) (IsEquality-tree_eq eq equality) s [] (preorder t) is) [
            | inl none ↦ absurd none
            | inr some ↦ some
          ] in
          let found = bits_to s t inside in
          let node_is : IsNode s = IsNode-from_preorder s t inside in
          let here = law.stands found.0 (subst IsNode (sym found.1) node_is) in
          (here.0, (found.0, found.1, node_is, here.1), here.2)

  -- a list that answers a function at each address has its tree's lookups
  pub HasLookups-from_answers : (eq : A → A → Bool) → IsEquality eq
      → (f : ℕ → A) (n : ℕ) (nodes : List (Member A × Member A)) → Finds n nodes f
      → HasLookups n nodes (tree eq f n 0)
  HasLookups-from_answers eq equality f n nodes finds w long =
      let one = OneListOfBits-each n in
      let law = TreeOfFunction-holds eq equality f n in
      let below : number_of w < 2 ^ n = one.below w long in
      let same : go nodes (at 0) (bits_of n (number_of w))
      ≡ look (tree eq f n 0) (bits_of n (number_of w)) =
      finds (number_of w) below ∙ sym (law.1 (number_of w) below) in
      subst (λ v. go nodes (at 0) v ≡ look (tree eq f n 0) v) (one.again w long) same

  pub LeastFor-holds : LeastFor A
  LeastFor-holds eq equality f n nodes finds =
      Least-holds eq equality n (tree eq f n 0) (TreeOfFunction-holds eq equality f n).0 nodes
      (HasLookups-from_answers eq equality f n nodes finds)
