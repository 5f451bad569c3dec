-- What a change of weights does to their sums.
use Rattle.std.proofs.Common.{◌≡◌, ◌≢◌, inl, inr, ℕ, zero, suc, ◌+◌, ◌^◌, ◌<◌, ◌≤◌, Bool, true}
use Rattle.std.proofs.Common.{false, cond, List, length, get_or, set, refl, sym, ap, ap₂, subst}
use Rattle.std.proofs.Common.{◌∙◌, arith, get_or-set_same, get_or-set_other, length-set}
use Rattle.std.proofs.lemmas.Bool.{cases_eq}
use Rattle.trie_core.specs.declared.node.Pair.{Pair}
use Rattle.trie_core.specs.Tree.{Tree, leaf, height}
use Rattle.check_census.specs.Tally.{sum_upto, tally, IsEven}
use Rattle.check_census.specs.Spread.{node_at, waiting_for, ended_at, sum_of, every, IsPlain}
use Rattle.check_census.specs.Spread.{AreWeights, GainsTally}
use Rattle.check_census.specs.declared.spread.Weights.{Weights}
use Rattle.check_census.proofs.TallyLemmas.{tally-add, tally-zero, tally-every, IsEven-add}
use Rattle.check_census.proofs.TallyLemmas.{IsEven-zero}

pub sum_upto-same : (f g : ℕ → ℕ) (n : ℕ) → ((k : ℕ) → k < n → f k ≡ g k)
    → sum_upto f n ≡ sum_upto g n
unfolding sum_upto
sum_upto-same f g zero same = refl
sum_upto-same f g (suc n) same =
    ap₂ ◌+◌ (sum_upto-same f g n (λ k lt. same k (omega arith))) (same n (omega arith))

-- one term is changed
pub sum_upto-change : (f g : ℕ → ℕ) (i n : ℕ) → i < n → ((k : ℕ) → k ≢ i → g k ≡ f k)
    → sum_upto g n + f i ≡ sum_upto f n + g i
unfolding sum_upto
sum_upto-change f g i zero lt other = absurd (omega arith)
sum_upto-change f g i (suc n) lt other =
    elim (cases_eq i n) [
      | inl e ↦
          let rest = sum_upto-same g f n (λ k below. other k (omega arith)) in
          let old : f i ≡ f n = ap f e in
          let new : g i ≡ g n = ap g e in
          omega arith
      | inr ne ↦
          let rest = sum_upto-change f g i n (omega arith) other in
          let same : g n ≡ f n = other n (λ e. ne (sym e)) in
          omega arith
    ]

pub sum_upto-at_least : (f : ℕ → ℕ) (i n : ℕ) → i < n → f i ≤ sum_upto f n
unfolding sum_upto
sum_upto-at_least f i zero lt = absurd (omega arith)
sum_upto-at_least f i (suc n) lt =
    elim (cases_eq i n) [
      | inl e ↦ let same : f i ≡ f n = ap f e in omega arith
      | inr ne ↦ let rest = sum_upto-at_least f i n (omega arith) in omega arith
    ]

pub sum_upto-zero : (f : ℕ → ℕ) (n : ℕ) → ((k : ℕ) → f k ≡ 0) → sum_upto f n ≡ 0
unfolding sum_upto
sum_upto-zero f zero none = refl
sum_upto-zero f (suc n) none = let rest = sum_upto-zero f n none in let last = none n in omega arith

pub sum_upto-le : (f g : ℕ → ℕ) (n : ℕ) → ((k : ℕ) → f k ≤ g k) → sum_upto f n ≤ sum_upto g n
unfolding sum_upto
sum_upto-le f g zero le = omega arith
sum_upto-le f g (suc n) le = let rest = sum_upto-le f g n le in let last = le n in omega arith

pub sum_upto-rises : (f : ℕ → ℕ) (m n : ℕ) → m ≤ n → sum_upto f m ≤ sum_upto f n
unfolding sum_upto
sum_upto-rises f m zero le = let same : m ≡ 0 = omega arith in
    let is : sum_upto f m ≡ sum_upto f 0 = ap (sum_upto f) same in omega arith
sum_upto-rises f m (suc n) le =
    elim (cases_eq m (suc n)) [
      | inl e ↦ let same : sum_upto f m ≡ sum_upto f (suc n) = ap (sum_upto f) e in omega arith
      | inr ne ↦ let rest = sum_upto-rises f m n (omega arith) in omega arith
    ]

cond_zero : (b : Bool) → ◌≡◌ {A = ℕ} (cond b 0 0) 0
cond_zero true = refl
cond_zero false = refl

-- no weights, no sums
pub waiting_for-zero : (test : ℕ → Bool) (pairs : List Pair) (xs : List ℕ) (n : ℕ)
    → ((k : ℕ) → get_or xs k 0 ≡ 0) → waiting_for test pairs xs n ≡ 0
waiting_for-zero test pairs xs n none =
    sum_upto-zero (λ k. tally test (get_or xs k 0) (node_at pairs k)) n
    (λ k. ap (λ w. tally test w (node_at pairs k)) (none k) ∙ tally-zero test (node_at pairs k))

pub ended_at-zero : (test : ℕ → Bool) (xs : List ℕ) (n : ℕ) → ((k : ℕ) → get_or xs k 0 ≡ 0)
    → ended_at test xs n ≡ 0
ended_at-zero test xs n none =
    sum_upto-zero (λ k. cond (test k) (get_or xs k 0) 0) n
    (λ k. ap (λ w. cond (test k) w 0) (none k) ∙ cond_zero (test k))

-- an even number of addresses is no more than what all wait or ended
pub waits_at_most : (pairs : List Pair) (slots : ℕ) (w : Weights) → AreWeights pairs slots w
    → (i : ℕ) → i < length pairs → get_or w.waiting.items i 0 ≤ sum_of every pairs w
waits_at_most pairs slots w is i lt =
    let at = sum_upto-at_least (λ k. tally every (get_or w.waiting.items k 0) (node_at pairs k)) i
    (length pairs) lt in
    let same = tally-every (node_at pairs i) (height (node_at pairs i)) (get_or w.waiting.items i 0)
    (omega arith) (is.even i lt) in
    omega arith

pub ended_at_most : (pairs : List Pair) (w : Weights) → (i : ℕ) → i < length w.ended.items
    → get_or w.ended.items i 0 ≤ sum_of every pairs w
ended_at_most pairs w i lt =
    let at = sum_upto-at_least (λ k. get_or w.ended.items k 0) i (length w.ended.items) lt in
    omega arith

cond_more : (b : Bool) (x y : ℕ) → cond b (x + y) 0 ≡ cond b x 0 + cond b y 0
cond_more true x y = refl
cond_more false x y = refl

-- more addresses end in a slot
ended_at-more : (test : ℕ → Bool) (xs : List ℕ) (i v n : ℕ) → i < n → i < length xs
    → ended_at test (set xs i (get_or xs i 0 + v)) n ≡ ended_at test xs n + cond (test i) v 0
ended_at-more test xs i v n lt within =
    let change =
    sum_upto-change (λ k. cond (test k) (get_or xs k 0) 0)
    (λ k. cond (test k) (get_or (set xs i (get_or xs i 0 + v)) k 0) 0) i n lt
    (λ k ne. ap (λ x. cond (test k) x 0) (get_or-set_other xs i k (get_or xs i 0 + v) 0 ne)) in
    let here : cond (test i) (get_or (set xs i (get_or xs i 0 + v)) i 0) 0 ≡ cond (test i)
    (get_or xs i 0) 0 + cond (test i) v 0 =
    ap (λ x. cond (test i) x 0) (get_or-set_same xs i (get_or xs i 0 + v) 0 within)
    ∙ cond_more (test i) (get_or xs i 0) v in
    omega arith

-- a node's weight is set
waiting_for-set : (test : ℕ → Bool) (pairs : List Pair) (xs : List ℕ) (i v n : ℕ) → i < n
    → i < length xs
    → waiting_for test pairs (set xs i v) n + tally test (get_or xs i 0)
    (node_at pairs i) ≡ waiting_for test pairs xs n + tally test v (node_at pairs i)
waiting_for-set test pairs xs i v n lt within =
    let change =
    sum_upto-change (λ k. tally test (get_or xs k 0) (node_at pairs k))
    (λ k. tally test (get_or (set xs i v) k 0) (node_at pairs k)) i n lt
    (λ k ne. ap (λ x. tally test x (node_at pairs k)) (get_or-set_other xs i k v 0 ne)) in
    let here : tally test (get_or (set xs i v) i 0) (node_at pairs i) ≡ tally test v
    (node_at pairs i) = ap (λ x. tally test x (node_at pairs i))
    (get_or-set_same xs i v 0 within) in
    omega arith

module _ (pairs : List Pair) (slots : ℕ) (old new : Weights) (is : AreWeights pairs slots old) where
  -- addresses end at a leaf
  module _ (slot leaf_number weight : ℕ) (within : slot < slots)
      (same : (test : ℕ → Bool) → IsPlain slots test → test slot ≡ test leaf_number)
      (waiting_is : new.waiting.items ≡ old.waiting.items)
      (ended_is : new.ended.items ≡ set old.ended.items slot
      (get_or old.ended.items slot 0 + weight))
      (t : Tree ℕ) (t_is : t ≡ leaf leaf_number) where
    private_slots : length new.ended.items ≡ length old.ended.items
    private_slots = ap length ended_is
        ∙ length-set old.ended.items slot (get_or old.ended.items slot 0 + weight)

    pub gains_at_leaf : GainsTally pairs slots old new (λ test. tally test weight t)
    gains_at_leaf test plain =
        let long = is.slots_are in
        let here : slot < length old.ended.items = omega arith in
        let more = ended_at-more test old.ended.items slot weight
        (length old.ended.items) here here in
        let ends : ended_at test new.ended.items (length new.ended.items) ≡ ended_at test
        (set old.ended.items slot (get_or old.ended.items slot 0 + weight))
        (length old.ended.items) =
        ap (ended_at test new.ended.items) private_slots
        ∙ ap (λ xs. ended_at test xs (length old.ended.items)) ended_is in
        let waits : waiting_for test pairs new.waiting.items
        (length pairs) ≡ waiting_for test pairs old.waiting.items (length pairs) =
        ap (λ xs. waiting_for test pairs xs (length pairs)) waiting_is in
        let told : cond (test slot) weight 0 ≡ tally test weight t =
        ap (λ b. cond b weight 0) (same test plain) ∙ sym (ap (tally test weight) t_is) in
        omega arith

    pub total_at_leaf : sum_of every pairs new ≡ sum_of every pairs old + weight
    total_at_leaf = gains_at_leaf every (λ k le. refl)
        ∙ ap (λ u. sum_of every pairs old + tally every weight u) t_is

    pub weights_at_leaf : sum_of every pairs old + weight < 2 ^ 128 → AreWeights pairs slots new
    weights_at_leaf room = record {
      nodes = ap length waiting_is ∙ is.nodes;
      slots_are = private_slots ∙ is.slots_are;
      some = is.some;
      even = λ k lt. subst (λ xs. IsEven (height (node_at pairs k)) (get_or xs k 0))
          (sym waiting_is) (is.even k lt);
      few = let total = total_at_leaf in omega arith;
    }

  -- the weight of a node is set
  module _ (i v : ℕ) (within : i < length pairs) (even : IsEven (height (node_at pairs i)) v)
      (waiting_is : new.waiting.items ≡ set old.waiting.items i v)
      (ended_is : new.ended.items ≡ old.ended.items) where
    pub change_at_node : (test : ℕ → Bool)
        → sum_of test pairs new + tally test (get_or old.waiting.items i 0)
        (node_at pairs i) ≡ sum_of test pairs old + tally test v (node_at pairs i)
    change_at_node test =
        let long = is.nodes in
        let change = waiting_for-set test pairs old.waiting.items i v (length pairs) within
        (omega arith) in
        let waits : waiting_for test pairs new.waiting.items (length pairs) ≡ waiting_for test pairs
        (set old.waiting.items i v) (length pairs) =
        ap (λ xs. waiting_for test pairs xs (length pairs)) waiting_is in
        let ends : ended_at test new.ended.items
        (length new.ended.items) ≡ ended_at test old.ended.items (length old.ended.items) =
        ap (λ xs. ended_at test xs (length xs)) ended_is in
        omega arith

    even_after : (k : ℕ) → k < length pairs
        → IsEven (height (node_at pairs k)) (get_or (set old.waiting.items i v) k 0)
    even_after k lt =
        elim (cases_eq k i) [
          | inl e ↦
              let long = is.nodes in
              let here : get_or (set old.waiting.items i v) k 0 ≡ v =
              ap (λ j. get_or (set old.waiting.items i v) j 0) e
              ∙ get_or-set_same old.waiting.items i v 0 (omega arith) in
              subst (λ w. IsEven (height (node_at pairs k)) w) (sym here)
              (subst (λ j. IsEven (height (node_at pairs j)) v) (sym e) even)
          | inr ne ↦ subst (λ w. IsEven (height (node_at pairs k)) w)
              (sym (get_or-set_other old.waiting.items i k v 0 ne)) (is.even k lt)
        ]

    pub weights_at_node : sum_of every pairs new < 2 ^ 128 → AreWeights pairs slots new
    weights_at_node few = record {
      nodes = ap length waiting_is ∙ length-set old.waiting.items i v ∙ is.nodes;
      slots_are = ap length ended_is ∙ is.slots_are;
      some = is.some;
      even = λ k lt. subst (λ xs. IsEven (height (node_at pairs k)) (get_or xs k 0))
          (sym waiting_is) (even_after k lt);
      few = few;
    }

    pub other_at_node : (k : ℕ) → k ≢ i
        → get_or new.waiting.items k 0 ≡ get_or old.waiting.items k 0
    other_at_node k ne = ap (λ xs. get_or xs k 0) waiting_is
        ∙ get_or-set_other old.waiting.items i k v 0 ne

  -- addresses come to a node
  module _ (i weight : ℕ) (within : i < length pairs)
      (even : IsEven (height (node_at pairs i)) weight)
      (waiting_is : new.waiting.items ≡ set old.waiting.items i
      (get_or old.waiting.items i 0 + weight))
      (ended_is : new.ended.items ≡ old.ended.items) where
    both_even : IsEven (height (node_at pairs i)) (get_or old.waiting.items i 0 + weight)
    both_even = IsEven-add (height (node_at pairs i)) (get_or old.waiting.items i 0) weight
        (is.even i within) even

    pub gains_at_node : GainsTally pairs slots old new (λ test. tally test weight (node_at pairs i))
    gains_at_node test plain =
        let change = change_at_node i
        (get_or old.waiting.items i 0 + weight) within both_even waiting_is ended_is test in
        let apart = tally-add test (node_at pairs i) (height (node_at pairs i))
        (get_or old.waiting.items i 0) weight (omega arith) (is.even i within) even in
        omega arith

    pub total_at_node : sum_of every pairs new ≡ sum_of every pairs old + weight
    total_at_node =
        gains_at_node every (λ k le. refl)
        ∙ ap (λ n. sum_of every pairs old + n)
        (tally-every (node_at pairs i) (height (node_at pairs i)) weight (omega arith) even)

    pub weights_with_more : sum_of every pairs old + weight < 2 ^ 128 → AreWeights pairs slots new
    weights_with_more room =
        weights_at_node i (get_or old.waiting.items i 0 + weight) within both_even waiting_is
        ended_is (let total = total_at_node in omega arith)

  -- the addresses of a node are taken away
  module _ (i : ℕ) (within : i < length pairs)
      (waiting_is : new.waiting.items ≡ set old.waiting.items i 0)
      (ended_is : new.ended.items ≡ old.ended.items) where
    none_even : IsEven (height (node_at pairs i)) 0
    none_even = IsEven-zero (height (node_at pairs i))

    pub loses_at_node : (test : ℕ → Bool)
        → sum_of test pairs old ≡ sum_of test pairs new + tally test (get_or old.waiting.items i 0)
        (node_at pairs i)
    loses_at_node test =
        let change = change_at_node i 0 within none_even waiting_is ended_is test in
        let none = tally-zero test (node_at pairs i) in
        omega arith

    pub loss_at_node : sum_of every pairs old ≡ sum_of every pairs new
        + get_or old.waiting.items i 0
    loss_at_node =
        loses_at_node every ∙ ap (λ n. sum_of every pairs new + n)
        (tally-every (node_at pairs i) (height (node_at pairs i)) (get_or old.waiting.items i 0)
        (omega arith) (is.even i within))

    pub weights_with_less : AreWeights pairs slots new
    weights_with_less = weights_at_node i 0 within none_even waiting_is ended_is
        (let loss = loss_at_node in let few = is.few in omega arith)

    pub gone_at_node : get_or new.waiting.items i 0 ≡ 0
    gone_at_node = let long = is.nodes in
        ap (λ xs. get_or xs i 0) waiting_is ∙ get_or-set_same old.waiting.items i 0 0 (omega arith)

    pub other_than_node : (k : ℕ) → k ≢ i
        → get_or new.waiting.items k 0 ≡ get_or old.waiting.items k 0
    other_than_node = other_at_node i 0 within none_even waiting_is ended_is
