-- The first of a list, found by one pass, is a member that none goes before.
use Rattle.std.proofs.Common.{◌≡◌, zero, suc, Bool, true, false, cond, List, [], ◌∷◌, fold, All}
use Rattle.std.proofs.Common.{Contains, Option, Some, refl, sym, subst, MatchOption, arith}
use Rattle.std.specs.Cmp.{IsStrictWeakOrder}
use Rattle.std.proofs.lemmas.List.Elements.{All-cons, All-head, All-nil, All-tail}
use Rattle.std.proofs.lemmas.List.MinMax.{ranks_by}
use Rattle.geo_terms.specs.First.{IsFirst, better, first_of}
use Rattle.geo_terms.specs.Orders.{FirstsAreFirst}
use Rattle.geo_terms.specs.TotalOrders.{delegation_total, entry_total, override_total}
use Rattle.geo_terms.specs.TotalOrders.{reference_total}

module _ {X : Type 0} (before : X → X → Bool) (order : IsStrictWeakOrder before) where
  not_before_itself : (x : X) (b : Bool) → before x x ≡ b → before x x ≡ false
  not_before_itself x true e = order.one_way x x e
  not_before_itself x false e = e

  -- a member of the list with the better one of two in front is one of the list with both
  member_later : (b x : X) (xs : List X) (pick : Bool) (r : X) → Contains (cond pick x b ∷ xs) r
      → Contains (b ∷ x ∷ xs) r
  member_later b x xs true r (zero, below, is) = (1, omega arith, is)
  member_later b x xs false r (zero, below, is) = (0, omega arith, is)
  member_later b x xs pick r (suc k, below, is) = (suc (suc k), omega (arith, below), is)

  first_from : (b : X) (xs : List X) → (r : X) × (fold (better before) (Some b) xs ≡ Some r)
      × Contains (b ∷ xs) r × All (λ t. before t r ≡ false) (b ∷ xs)
  first_from b [] = (
    b,
    refl,
    (0, omega arith, refl),
    All-cons (λ t. before t b ≡ false) b [] (not_before_itself b (before b b) refl)
        (All-nil (λ t. before t b ≡ false)),
  )
  first_from b (x ∷ xs) = one_more (before x b) refl (first_from (cond (before x b) x b) xs)
    where
      one_more : (pick : Bool) → before x b ≡ pick
          → (r : X) × (fold (better before) (Some (cond pick x b)) xs ≡ Some r)
          × Contains (cond pick x b ∷ xs) r × All (λ t. before t r ≡ false) (cond pick x b ∷ xs)
          → (r : X) × (fold (better before) (Some (cond pick x b)) xs ≡ Some r)
          × Contains (b ∷ x ∷ xs) r × All (λ t. before t r ≡ false) (b ∷ x ∷ xs)
      one_more true e (r, is, member, least) =
          let head : before x r ≡ false = All-head (λ t. before t r ≡ false) x xs least in (
            r,
            is,
            member_later b x xs true r member,
            All-cons (λ t. before t r ≡ false) b (x ∷ xs)
                (order.chain b x r (order.one_way x b e) head) least,
          )
      one_more false e (r, is, member, least) =
          let head : before b r ≡ false = All-head (λ t. before t r ≡ false) b xs least in (
            r,
            is,
            member_later b x xs false r member,
            All-cons (λ t. before t r ≡ false) b (x ∷ xs) head
                (All-cons (λ t. before t r ≡ false) x xs (order.chain x b r e head)
                (All-tail (λ t. before t r ≡ false) b xs least)),
          )

  pub first_is_first : (xs : List X) → IsFirst before xs (first_of before xs)
  first_is_first [] = refl
  first_is_first (x ∷ xs) =
      let found = first_from x xs in
      subst (λ (o : Option X). MatchOption o ((x ∷ xs) ≡ []) (λ r. Contains (x ∷ xs) r
      × All (λ t. before t r ≡ false) (x ∷ xs))) (sym found.1) (found.2, found.3)

pub firsts_are_first : FirstsAreFirst
firsts_are_first = record {
  references = first_is_first _ (ranks_by reference_total (λ r. r));
  entries = first_is_first _ (ranks_by entry_total (λ e. e));
  delegations = first_is_first _ (ranks_by delegation_total (λ d. d));
  overrides = first_is_first _ (ranks_by override_total (λ o. o));
}
