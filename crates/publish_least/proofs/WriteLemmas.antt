-- The leaf that stands at a root, and its line, by the indexes of the best leaves.
use Rattle.std.proofs.Common.{◌≡◌, ℕ, ◌<◌, Bool, true, false, if◌then◌else◌, List, [], ◌∷◌}
use Rattle.std.proofs.Common.{◌++◌, length, get_or, slice_get, Some, refl, sym, ap, subst, ◌∙◌}
use Rattle.std.proofs.Common.{arith, append_assoc}
use Rattle.std.proofs.lemmas.Option.{get_or_from_slice_get, slice_get-get_or, slice_get_within}
use Rattle.geo_addr.specs.Ranges.{Prefix}
use Rattle.trie_core.specs.Tree.{Tree, leaf, node}
use Rattle.least_nodes.specs.Layout.{leaves}
use Rattle.publish_least.specs.declared.line.Line.{Line}
use Rattle.publish_least.specs.Price.{has, best}
use Rattle.publish_least.specs.Choice.{lower_half, upper_half, first_of, standing, root_line}
use Rattle.publish_least.specs.Choice.{lines_below, order_after, lines_of}
use Rattle.publish_least.specs.Memo.{IsSet}
use Rattle.publish_least.proofs.MemoLemmas.{order_begins}
use Rattle.publish_least.proofs.SetLemmas.{set_says, first_of-set, has-from_slice_get}

module _ (order : List ℕ) (t : Tree ℕ) (set : List ℕ) (is-set : IsSet order t set) (i : ℕ)
    (within : i < length order) where
  -- the inherited leaf is best where its index is in the set
  best_says : has set i ≡ has (best t) (get_or order i 0)
  best_says = set_says order t set is-set i (get_or order i 0) (slice_get-get_or order i 0 within)

  pub stands_old : has set i ≡ true → get_or order i 0 ≡ standing order t (get_or order i 0)
  stands_old is =
      sym (ap (λ (b : Bool). if b then get_or order i 0 else first_of order (best t))
      (sym best_says ∙ is))

  pub no_line : has set i ≡ true → (b : Prefix) → root_line order t b (get_or order i 0) ≡ []
  no_line is b =
      let line : Line = record { block = b; leaf = first_of order (best t) } in
      ap (λ (p : Bool). if p then [] else line ∷ []) (sym best_says ∙ is)

  -- where it is not, the first index of the set is taken
  pub index_within : (index : ℕ) → slice_get set 0 ≡ Some index → index < length order
  index_within index first =
      let found = is-set.sound index (has-from_slice_get set 0 index first) in
      slice_get_within order index found.0 found.1

  first_at : (index : ℕ) → slice_get set 0 ≡ Some index
      → first_of order (best t) ≡ get_or order index 0
  first_at index first =
      first_of-set order t set is-set index (get_or order index 0) first
      (slice_get-get_or order index 0 (index_within index first))

  pub stands_new : (index : ℕ) → has set i ≡ false → slice_get set 0 ≡ Some index
      → get_or order index 0 ≡ standing order t (get_or order i 0)
  stands_new index is first =
      sym (first_at index first) ∙ sym (ap
      (λ (b : Bool). if b then get_or order i 0 else first_of order (best t)) (sym best_says ∙ is))

  pub one_line : (index x : ℕ)
      → has set i ≡ false → slice_get set 0 ≡ Some index → slice_get order index ≡ Some x
      → (b : Prefix) → record { block = b; leaf = x } ∷ [] ≡ root_line order t b (get_or order i 0)
  one_line index x is first at b =
      let line : Line = record { block = b; leaf = first_of order (best t) } in
      let same : x ≡ first_of order (best t) =
      sym (get_or_from_slice_get order index x 0 at) ∙ sym (first_at index first) in
      let here : root_line order t b (get_or order i 0) ≡ line ∷ [] =
      ap (λ (p : Bool). if p then [] else line ∷ []) (sym best_says ∙ is) in
      let make : ℕ → List Line = λ y. record { block = b; leaf = y } ∷ [] in
      ap make same ∙ sym here

-- a leaf has the line of its root alone
pub lines-of_leaf : (order : List ℕ) (t : Tree ℕ) (x : ℕ) (b : Prefix) (d : ℕ) → t ≡ leaf x
    → root_line order t b d ≡ lines_below order t b d
lines-of_leaf order t x b d is =
    subst (λ s. root_line order s b d ≡ lines_below order s b d) (sym is) refl

-- a node has that of its root and those of its halves
pub lines-of_node : (order : List ℕ) (t l r : Tree ℕ) (b : Prefix)
    (d e : ℕ) (old first second all : List Line) → t ≡ node l r → e ≡ standing order t d
    → first ≡ old ++ root_line order t b d → second ≡ first ++ lines_below order l (lower_half b) e
    → all ≡ second ++ lines_below order r (upper_half b) e → all ≡ old ++ lines_below order t b d
lines-of_node order t l r b d e old first second all is stands root lower upper =
    let P : Tree ℕ → Type 0 = λ s. e ≡ standing order s d → first ≡ old ++ root_line order s b d
    → all ≡ old ++ lines_below order s b d in
    let of_node : P (node l r) = λ st ro.
    let lefts = lines_below order l (lower_half b) e in
    let rights = lines_below order r (upper_half b) e in
    upper ∙ ap (λ ls. ls ++ rights) (lower ∙ ap (λ ls. ls ++ lefts) ro)
    ∙ ap (λ ls. ls ++ rights) (append_assoc old (root_line order (node l r) b d) lefts)
    ∙ append_assoc old (root_line order (node l r) b d ++ lefts) rights
    ∙ ap (λ ls. old ++ ls) (append_assoc (root_line order (node l r) b d) lefts rights)
    ∙ ap (λ x. old ++ (root_line order (node l r) b d
    ++ (lines_below order l (lower_half b) x ++ lines_below order r (upper_half b) x))) st in
    subst P (sym is) of_node stands root

-- the walk over the whole tree begins with leaf 0
pub order-some : (order : List ℕ) (t : Tree ℕ) → order ≡ order_after (0 ∷ []) t → 0 < length order
order-some order t is =
    let begins = order_begins (0 ∷ []) (leaves t) in
    let same : order ≡ 0 ∷ begins.0 = is ∙ begins.1 in
    let long = ap length same in omega arith

order-first : (order : List ℕ) (t : Tree ℕ) → order ≡ order_after (0 ∷ []) t → get_or order 0 0 ≡ 0
order-first order t is =
    let begins = order_begins (0 ∷ []) (leaves t) in
    ap (λ xs. get_or xs 0 0) (is ∙ begins.1)

pub lines-of_walk : (order : List ℕ) (t : Tree ℕ) (b : Prefix) (lines : List Line)
    → order ≡ order_after (0 ∷ []) t
    → lines ≡ lines_below order t b (get_or order 0 0) → lines ≡ lines_of t b
lines-of_walk order t b lines is written =
    written ∙ ap (lines_below order t b) (order-first order t is) ∙ ap (λ o. lines_below o t b 0) is
