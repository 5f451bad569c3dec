-- Other numbers for the leaves of a tree, 0 for 0 and different ones for different leaves, change
-- no line but in its leaf.
use Rattle.std.proofs.Common.{inl, inr, ◌≡◌, ℕ, Bool, true, false, ◌||◌, cond, List, [], ◌∷◌, ◌++◌}
use Rattle.std.proofs.Common.{map, refl, sym, ap, ap₂, ◌∙◌, subst}
use Rattle.std.specs.Prelude.{nat_eq}
use Rattle.std.proofs.lemmas.Bool.Decides.{same_from_decides}
use Rattle.std.proofs.lemmas.List.{map-append}
use Rattle.geo_addr.specs.Ranges.{Prefix}
use Rattle.trie_core.specs.Tree.{Tree, leaf, node, AllLeaves, map_tree}
use Rattle.trie_core.proofs.TreeLemmas.{nat_equality}
use Rattle.least_nodes.specs.Layout.{below, each_once, leaves}
use Rattle.least_nodes.proofs.Elements.{In, In-each_once}
use Rattle.least_nodes.proofs.RenameLemmas.{map-each_once}
use Rattle.publish_least.specs.Choice.{first_of, lines_below, lines_of, lower_half, order_after}
use Rattle.publish_least.specs.Choice.{part_of, prefix_bits, root_line, standing, upper_half}
use Rattle.publish_least.specs.Price.{best, has, or_either, shared}
use Rattle.publish_least.specs.declared.line.Line.{Line}

-- a line with another number for its leaf
abbrev pub relabelled : (ℕ → ℕ) → Line → Line
relabelled f x = record { block = x.block; leaf = f x.leaf }

module _ (f : ℕ → ℕ) (P : ℕ → Type 0) (apart : (x y : ℕ) → P x → P y → f x ≡ f y → x ≡ y)
    (zero_ok : P 0) (zero_is : f 0 ≡ 0) where
  abbrev Each : List ℕ → Type 0
  Each [] = Unit {0}
  Each (x ∷ xs) = P x × Each xs

  each_append : (xs ys : List ℕ) → Each xs → Each ys → Each (xs ++ ys)
  each_append [] ys e g = g
  each_append (x ∷ xs) ys e g = (e.0, each_append xs ys e.1 g)

  each_in : (xs : List ℕ) → ((x : ℕ) → In x xs → P x) → Each xs
  each_in [] h = tt
  each_in (x ∷ xs) h = (h x (inl refl), each_in xs (λ y is. h y (inr is)))

  in_each : (xs : List ℕ) → Each xs → (x : ℕ) → In x xs → P x
  in_each [] e x is = absurd is
  in_each (y ∷ ys) e x (inl same) = subst P (sym same) e.0
  in_each (y ∷ ys) e x (inr rest) = in_each ys e.1 x rest

  -- ---- what is best

  same_name : (x y : ℕ) → P x → P y → nat_eq (f x) (f y) ≡ nat_eq x y
  same_name x y x_ok y_ok =
      same_from_decides (nat_eq (f x) (f y)) (nat_eq x y) (nat_equality (f x) (f y)) (
        λ is. ap f ((nat_equality x y).0 is),
        λ same. (nat_equality x y).1 (apart x y x_ok y_ok same),
      )

  has-name : (xs : List ℕ) (d : ℕ) → Each xs → P d → has (map f xs) (f d) ≡ has xs d
  has-name [] d e d_ok = refl
  has-name (x ∷ xs) d e d_ok = ap₂ (λ a b. a || b) (same_name d x d_ok e.0) (has-name xs d e.1 d_ok)

  shared-name : (xs ys : List ℕ) → Each xs → Each ys
      → shared (map f xs) (map f ys) ≡ map f (shared xs ys)
  shared-name [] ys e g = refl
  shared-name (x ∷ xs) ys e g = rw (has-name ys x g e.0) (by (has ys x) (shared-name xs ys e.1 g))
    where
      by : (b : Bool) → shared (map f xs) (map f ys) ≡ map f (shared xs ys)
          → cond b (f x ∷ shared (map f xs) (map f ys)) (shared (map f xs) (map f ys))
          ≡ map f (cond b (x ∷ shared xs ys) (shared xs ys))
      by true is = ap (λ t. f x ∷ t) is
      by false is = is

  each_shared : (xs ys : List ℕ) → Each xs → Each (shared xs ys)
  each_shared [] ys e = tt
  each_shared (x ∷ xs) ys e = by (has ys x) (each_shared xs ys e.1)
    where
      by : (b : Bool) → Each (shared xs ys) → Each (cond b (x ∷ shared xs ys) (shared xs ys))
      by true more = (e.0, more)
      by false more = more

  either-name : (zs xs ys : List ℕ)
      → or_either (map f zs) (map f xs) (map f ys) ≡ map f (or_either zs xs ys)
  either-name [] xs ys = sym (map-append f xs ys)
  either-name (z ∷ zs) xs ys = refl

  each_either : (zs xs ys : List ℕ) → Each zs → Each xs → Each ys → Each (or_either zs xs ys)
  each_either [] xs ys d e g = each_append xs ys e g
  each_either (z ∷ zs) xs ys d e g = d

  each_best : (t : Tree ℕ) → AllLeaves P t → Each (best t)
  each_best (leaf x) all = (all, tt)
  each_best (node l r) all =
      let left = each_best l all.0 in
      each_either (shared (best l) (best r)) (best l) (best r)
      (each_shared (best l) (best r) left) left (each_best r all.1)

  best-name : (t : Tree ℕ) → AllLeaves P t → best (map_tree f t) ≡ map f (best t)
  best-name (leaf x) all = refl
  best-name (node l r) all =
      ap₂ (λ xs ys. or_either (shared xs ys) xs ys) (best-name l all.0) (best-name r all.1)
      ∙ ap (λ zs. or_either zs (map f (best l)) (map f (best r)))
      (shared-name (best l) (best r) (each_best l all.0) (each_best r all.1))
      ∙ either-name (shared (best l) (best r)) (best l) (best r)

  first-name : (order xs : List ℕ) → Each order → Each xs
      → first_of (map f order) (map f xs) ≡ f (first_of order xs)
  first-name [] xs e g = sym zero_is
  first-name (y ∷ ys) xs e g = rw (has-name xs y g e.0) (by (has xs y) (first-name ys xs e.1 g))
    where
      by : (b : Bool) → first_of (map f ys) (map f xs) ≡ f (first_of ys xs)
          → cond b (f y) (first_of (map f ys) (map f xs)) ≡ f (cond b y (first_of ys xs))
      by true is = refl
      by false is = is

  first_ok : (order xs : List ℕ) → Each order → P (first_of order xs)
  first_ok [] xs e = zero_ok
  first_ok (y ∷ ys) xs e = by (has xs y) (first_ok ys xs e.1)
    where
      by : (b : Bool) → P (first_of ys xs) → P (cond b y (first_of ys xs))
      by true more = e.0
      by false more = more

  -- ---- the lines

  -- the leaves of the lines are leaves that have names
  abbrev pub AllNamed : List Line → Type 0
  AllNamed [] = Unit {0}
  AllNamed (x ∷ xs) = P x.leaf × AllNamed xs

  named_append : (xs ys : List Line) → AllNamed xs → AllNamed ys → AllNamed (xs ++ ys)
  named_append [] ys e g = g
  named_append (x ∷ xs) ys e g = (e.0, named_append xs ys e.1 g)

  module _ (order : List ℕ) (listed : Each order) where
    best_has : (t : Tree ℕ) (d : ℕ) → AllLeaves P t → P d
        → has (best (map_tree f t)) (f d) ≡ has (best t) d
    best_has t d all d_ok =
        ap (λ xs. has xs (f d)) (best-name t all) ∙ has-name (best t) d (each_best t all) d_ok

    best_first : (t : Tree ℕ) → AllLeaves P t
        → first_of (map f order) (best (map_tree f t)) ≡ f (first_of order (best t))
    best_first t all =
        ap (first_of (map f order)) (best-name t all)
        ∙ first-name order (best t) listed (each_best t all)

    standing-name : (t : Tree ℕ) (d : ℕ) → AllLeaves P t → P d
        → standing (map f order) (map_tree f t) (f d) ≡ f (standing order t d)
    standing-name t d all d_ok = rw (best_has t d all d_ok, best_first t all) (by (has (best t) d))
      where
        by : (b : Bool)
            → cond b (f d) (f (first_of order (best t))) ≡ f (cond b d (first_of order (best t)))
        by true = refl
        by false = refl

    standing_ok : (t : Tree ℕ) (d : ℕ) → P d → P (standing order t d)
    standing_ok t d d_ok = by (has (best t) d)
      where
        by : (b : Bool) → P (cond b d (first_of order (best t)))
        by true = d_ok
        by false = first_ok order (best t) listed

    root-name : (t : Tree ℕ) (b : Prefix) (d : ℕ) → AllLeaves P t → P d → root_line (map f order)
        (map_tree f t) b (f d) ≡ map (relabelled f) (root_line order t b d)
    root-name t b d all d_ok = rw (best_has t d all d_ok, best_first t all) (by (has (best t) d))
      where
        by : (p : Bool) → cond {A = List Line} p []
            (record { block = b; leaf = f (first_of order (best t)) } ∷ []) ≡ map (relabelled f)
            (cond p [] (record { block = b; leaf = first_of order (best t) } ∷ []))
        by true = refl
        by false = refl

    lines-name : (t : Tree ℕ) (b : Prefix) (d : ℕ) → AllLeaves P t → P d → lines_below (map f order)
        (map_tree f t) b (f d) ≡ map (relabelled f) (lines_below order t b d)
    lines-name (leaf x) b d all d_ok = root-name (leaf x) b d all d_ok
    lines-name (node l r) b d all d_ok =
        let next = standing order (node l r) d in
        let next_ok = standing_ok (node l r) d d_ok in
        let root = root-name (node l r) b d all d_ok in
        let lower = ap (lines_below (map f order) (map_tree f l) (lower_half b))
        (standing-name (node l r) d all d_ok) ∙ lines-name l (lower_half b) next all.0 next_ok in
        let upper = ap (lines_below (map f order) (map_tree f r) (upper_half b))
        (standing-name (node l r) d all d_ok) ∙ lines-name r (upper_half b) next all.1 next_ok in
        ap₂ (λ xs ys. xs ++ ys) root (ap₂ (λ xs ys. xs ++ ys) lower upper)
        ∙ ap (λ t. map (relabelled f) (root_line order (node l r) b d) ++ t)
        (sym (map-append (relabelled f) (lines_below order l (lower_half b) next)
        (lines_below order r (upper_half b) next)))
        ∙ sym (map-append (relabelled f) (root_line order (node l r) b d)
        (lines_below order l (lower_half b) next ++ lines_below order r (upper_half b) next))

    root_named : (t : Tree ℕ) (b : Prefix) (d : ℕ) → AllNamed (root_line order t b d)
    root_named t b d = by (has (best t) d)
      where
        by : (p : Bool) → AllNamed
            (cond {A = List Line} p [] (record { block = b; leaf = first_of order (best t) } ∷ []))
        by true = tt
        by false = (first_ok order (best t) listed, tt)

    lines_named : (t : Tree ℕ) (b : Prefix) (d : ℕ) → AllNamed (lines_below order t b d)
    lines_named (leaf x) b d = root_named (leaf x) b d
    lines_named (node l r) b d =
        let next = standing order (node l r) d in
        named_append (root_line order (node l r) b d) (lines_below order l (lower_half b) next
        ++ lines_below order r (upper_half b) next) (root_named (node l r) b d)
        (named_append (lines_below order l (lower_half b) next) (lines_below order r (upper_half b)
        next) (lines_named l (lower_half b) next) (lines_named r (upper_half b) next))

  -- ---- the part under a block

  below-name : (t : Tree ℕ) (w : List Bool) → below (map_tree f t) w ≡ map_tree f (below t w)
  below-name t [] = refl
  below-name (leaf a) (b ∷ w) = refl
  below-name (node l r) (false ∷ w) = below-name l w
  below-name (node l r) (true ∷ w) = below-name r w

  below_ok : (t : Tree ℕ) (w : List Bool) → AllLeaves P t → AllLeaves P (below t w)
  below_ok t [] all = all
  below_ok (leaf a) (b ∷ w) all = all
  below_ok (node l r) (false ∷ w) all = below_ok l w all.0
  below_ok (node l r) (true ∷ w) all = below_ok r w all.1

  each_leaves : (t : Tree ℕ) → AllLeaves P t → Each (leaves t)
  each_leaves (leaf a) all = (all, tt)
  each_leaves (node l r) all =
      each_append (leaves l) (leaves r) (each_leaves l all.0) (each_leaves r all.1)

  leaves-name : (t : Tree ℕ) → leaves (map_tree f t) ≡ map f (leaves t)
  leaves-name (leaf a) = refl
  leaves-name (node l r) =
      ap₂ (λ xs ys. xs ++ ys) (leaves-name l) (leaves-name r)
      ∙ sym (map-append f (leaves l) (leaves r))

  order-name : (t : Tree ℕ) → AllLeaves P t
      → order_after (0 ∷ []) (map_tree f t) ≡ map f (order_after (0 ∷ []) t)
  order-name t all =
      ap₂ (each_once nat_eq) (ap (λ z. z ∷ []) (sym zero_is)) (leaves-name t)
      ∙ sym (map-each_once nat_eq nat_equality nat_eq nat_equality f P apart (0 ∷ []) (leaves t)
      (in_each (0 ∷ []) (zero_ok, tt)) (in_each (leaves t) (each_leaves t all)))

  order_ok : (t : Tree ℕ) → AllLeaves P t → Each (order_after (0 ∷ []) t)
  order_ok t all =
      each_in (order_after (0 ∷ []) t)
      (λ x is. elim (In-each_once nat_eq nat_equality x (0 ∷ []) (leaves t) is) [
        | inl seen ↦ in_each (0 ∷ []) (zero_ok, tt) x seen
        | inr found ↦ in_each (leaves t) (each_leaves t all) x found
      ])

  module _ (whole : Tree ℕ) (within : Prefix) (all : AllLeaves P whole) where
    abbrev part : Tree ℕ
    part = part_of whole within

    part_ok : AllLeaves P part
    part_ok = below_ok whole (prefix_bits within) all

    pub chosen-name : lines_of (part_of (map_tree f whole) within) within
        ≡ map (relabelled f) (lines_of part within)
    chosen-name =
        ap (λ t. lines_of t within) (below-name whole (prefix_bits within))
        ∙ ap₂ (λ order d. lines_below order (map_tree f part) within d) (order-name part part_ok)
        (sym zero_is)
        ∙ lines-name (order_after (0 ∷ []) part)
        (order_ok part part_ok) part within 0 part_ok zero_ok

    pub chosen_named : AllNamed (lines_of part within)
    chosen_named = lines_named (order_after (0 ∷ []) part) (order_ok part part_ok) part within 0
