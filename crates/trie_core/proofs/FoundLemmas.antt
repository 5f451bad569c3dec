-- Lemmas on how the pairs of a store are found: at their later children, in their windows, or in
-- the map.
use Rattle.std.proofs.Common.{◌≡◌, ◌≢◌, ◌⊎◌, inl, inr, ℕ, zero, suc, ◌+◌, ◌^◌, ◌<◌}
use Rattle.std.proofs.Common.{◌≤◌, List, [], ◌∷◌, ◌++◌, length, set, take, get_or, None}
use Rattle.std.proofs.Common.{replicate, slice_get, Some, Contains, refl, sym, ◌∙◌, ap}
use Rattle.std.proofs.Common.{subst, arith, length-append}
use Rattle.std.specs.BTreeMap.{BTreeMap}
use Rattle.std.proofs.lemmas.Option.{slice_get_within, slice_get-get_or, get_or_from_slice_get}
use Rattle.trie_core.specs.declared.node.Pair.{Pair}
use Rattle.trie_core.specs.Pairs.{later, first_slot, Stands, AreFound, IsPut, crowded_at}
use Rattle.trie_core.proofs.StoreLemmas.{slice_get-append, slice_get-push, slice_get_last}
use Rattle.trie_core.proofs.StoreLemmas.{slice_get-Contains, Contains-slice_get}
use Rattle.trie_core.proofs.WindowLemmas.{set_here, set_other, zero_or_suc, Stands-kept}
use Rattle.trie_core.proofs.WindowLemmas.{Keeps-set}
use Rattle.std.proofs.lemmas.List.{length-set}

-- ---- there is nothing to find

none_read : (k : ℕ) (p : Pair) → slice_get [] k ≡ Some p → ⊥
none_read k p at = cc

none_held : (n : ℕ) → None ≡ Some n → ⊥
none_held n e = cc

pub AreFound-none : (firsts slots : List ℕ) (crowded : BTreeMap Pair ℕ) → 8 ≤ length slots
    → crowded.entries ≡ [] → AreFound [] firsts slots crowded
AreFound-none firsts slots crowded wide none = record {
  few = omega arith;
  once = λ i j p at-i at-j. absurd (none_read i p at-i);
  wide = λ some. wide;
  only = λ some n p is. absurd (none_held n (rw none at is));
  each = λ some n p at. absurd (none_read n p at);
  noted = λ n p at. absurd (none_read n p at);
}

-- ---- a number comes to a slot

pub IsPut-slot : (slots : List ℕ) (crowded : BTreeMap Pair ℕ) (p : Pair) (n at : ℕ)
    → slice_get slots at ≡ Some 0
    → Stands (set slots at (suc n)) (first_slot p (length slots)) 8 (crowded_at crowded p) n
    → IsPut slots (set slots at (n + 1)) crowded crowded p n
IsPut-slot slots crowded p n at free stands =
    subst (λ k. IsPut slots (set slots at k) crowded crowded p n)
    (let e : suc n ≡ n + 1 = omega arith in e)
    (record {
      len = length-set slots at (suc n);
      kept = Keeps-set slots at n free;
      stands = stands;
      others = λ q. inl refl;
    })

-- what was read at the later child of a pair
pub stands_from_read : (firsts : List ℕ) (at v : ℕ) (p : Pair) → at ≡ later p → at < length firsts
    → v ≡ get_or firsts at v → v ≢ 0 → (m : ℕ) × (slice_get firsts (later p) ≡ Some (suc m))
stands_from_read firsts at zero p is within read some = absurd (some refl)
stands_from_read firsts at (suc m) p is within read some = (
  m,
  ap (slice_get firsts) (sym is) ∙ slice_get-get_or firsts at (suc m) within ∙ ap Some (sym read),
)

-- ---- the pairs

module _ (pairs : List Pair) (firsts slots : List ℕ) (crowded : BTreeMap Pair ℕ)
    (found : AreFound pairs firsts slots crowded) where
  -- more zeros say nothing
  pub AreFound-zeros : (longer : List ℕ) (m : ℕ) → longer ≡ firsts ++ replicate m 0
      → AreFound pairs longer slots crowded
  AreFound-zeros longer m is = subst (λ fs. AreFound pairs fs slots crowded) (sym is) (record {
    few = found.few;
    once = found.once;
    wide = found.wide;
    only = found.only;
    each = λ some n p at. elim (found.each some n p at) [
      | inl first ↦ inl (slice_get-append firsts (replicate m 0) (later p) (suc n) first)
      | inr other ↦ inr other
    ];
    noted = λ n p at.
        let was = found.noted n p at in
        (was.0, slice_get-append firsts (replicate m 0) (later p) (suc was.0) was.1);
  })

  -- a pair is missing where it is neither the first one of its later child nor one of the others
  pub absent_from_others : (p : Pair) → 0 < length slots
      → ((k : ℕ) → slice_get pairs k ≡ Some p → slice_get firsts (later p) ≢ Some (suc k))
      → ((k : ℕ) → slice_get pairs k ≡ Some p
      → Stands slots (first_slot p (length slots)) 8 (crowded_at crowded p) k → ⊥)
      → Contains pairs p → ⊥
  absent_from_others p some no-first no-other has =
      let at = slice_get-Contains pairs p has in
      elim (found.each some at.0 p at.1) [
        | inl first ↦ no-first at.0 at.1 first
        | inr other ↦ no-other at.0 at.1 other
      ]

  module _ (p : Pair) (new : Contains pairs p → ⊥) (few : length pairs + 1 < 2 ^ 32) where
    new_few : length (pairs ++ p ∷ []) < 2 ^ 32
    new_few = omega (arith, few, length-append pairs (p ∷ []))

    new_once : (i j : ℕ) (q : Pair) → slice_get (pairs ++ p ∷ []) i ≡ Some q
        → slice_get (pairs ++ p ∷ []) j ≡ Some q → i ≡ j
    new_once i j q at-i at-j = elim (slice_get-push pairs p i q at-i) [
      | inl old-i ↦ elim (slice_get-push pairs p j q at-j) [
        | inl old-j ↦ found.once i j q old-i old-j
        | inr new-j ↦ absurd (new (subst (Contains pairs) new-j.1 (Contains-slice_get pairs i q
            old-i)))
      ]
      | inr new-i ↦ elim (slice_get-push pairs p j q at-j) [
        | inl old-j ↦ absurd (new (subst (Contains pairs) new-i.1 (Contains-slice_get pairs j q
            old-j)))
        | inr new-j ↦ new-i.0 ∙ sym new-j.0
      ]
    ]

    new_only : 0 < length slots → (n : ℕ) (q : Pair) → crowded_at crowded q ≡ Some n
        → slice_get (pairs ++ p ∷ []) n ≡ Some q
    new_only some n q is = slice_get-append pairs (p ∷ []) n q (found.only some n q is)

    -- a new pair whose number came to its later child
    pub push_first : slice_get firsts (later p) ≡ Some 0
        → AreFound (pairs ++ p ∷ []) (set firsts (later p) (suc (length pairs))) slots crowded
    push_first free = record {
      few = new_few;
      once = new_once;
      wide = found.wide;
      only = new_only;
      each = each;
      noted = noted;
    }
      where
        put : List ℕ
        put = set firsts (later p) (suc (length pairs))

        here : slice_get put (later p) ≡ Some (suc (length pairs))
        here = set_here firsts (later p) (suc (length pairs)) (slice_get_within firsts
            (later p) 0 free)

        apart : (n : ℕ) (q : Pair) → slice_get pairs n ≡ Some q
            → slice_get put (later q) ≡ slice_get firsts (later q)
        apart n q at =
            let was = found.noted n q at in
            set_other firsts (later p) (later q) (suc (length pairs)) (λ same.
            zero_or_suc was.0 (sym free ∙ ap (slice_get firsts) (sym same) ∙ was.1))

        new_here : (q : Pair) → q ≡ p → slice_get put (later q) ≡ Some (suc (length pairs))
        new_here q is = ap (λ (x : Pair). slice_get put (later x)) is ∙ here

        each : 0 < length slots → (n : ℕ) (q : Pair) → slice_get (pairs ++ p ∷ []) n ≡ Some q
            → (slice_get put (later q) ≡ Some (suc n))
            ⊎ Stands slots (first_slot q (length slots)) 8 (crowded_at crowded q) n
        each some n q at = elim (slice_get-push pairs p n q at) [
          | inl old ↦ elim (found.each some n q old) [
            | inl first ↦ inl (apart n q old ∙ first)
            | inr other ↦ inr other
          ]
          | inr last ↦ inl (new_here q last.1 ∙ ap (λ k. Some (suc k)) (sym last.0))
        ]

        noted : (n : ℕ) (q : Pair) → slice_get (pairs ++ p ∷ []) n ≡ Some q
            → (m : ℕ) × (slice_get put (later q) ≡ Some (suc m))
        noted n q at = elim (slice_get-push pairs p n q at) [
          | inl old ↦
              let was = found.noted n q old in
              (was.0, apart n q old ∙ was.1)
          | inr last ↦ (length pairs, new_here q last.1)
        ]

    -- the same by what was read there
    pub push_read : (at v number : ℕ) → at ≡ later p → at < length firsts → v ≡ get_or firsts at v
        → v ≡ 0 → number ≡ length pairs
        → AreFound (pairs ++ p ∷ []) (set firsts at (number + 1)) slots crowded
    push_read at v number is within read none same =
        let free : slice_get firsts (later p) ≡ Some 0 =
        ap (slice_get firsts) (sym is) ∙ slice_get-get_or firsts at v within
        ∙ ap Some (sym read ∙ none) in
        subst (λ k. AreFound (pairs ++ p ∷ []) (set firsts k (number + 1)) slots crowded) (sym is)
        (subst (λ k. AreFound (pairs ++ p ∷ []) (set firsts (later p) k) slots crowded)
        (let e : suc (length pairs) ≡ number + 1 = omega (arith, same) in e) (push_first free))

    new_noted : (m : ℕ) × (slice_get firsts (later p) ≡ Some (suc m)) → (n : ℕ) (q : Pair)
        → slice_get (pairs ++ p ∷ []) n ≡ Some q
        → (m : ℕ) × (slice_get firsts (later q) ≡ Some (suc m))
    new_noted taken n q at = elim (slice_get-push pairs p n q at) [
      | inl old ↦ found.noted n q old
      | inr last ↦ (taken.0, ap (λ (x : Pair). slice_get firsts (later x)) last.1 ∙ taken.1)
    ]

    -- a new pair whose number stood at its later child before
    pub push_same : slice_get firsts (later p) ≡ Some (suc (length pairs))
        → AreFound (pairs ++ p ∷ []) firsts slots crowded
    push_same is = record {
      few = new_few;
      once = new_once;
      wide = found.wide;
      only = new_only;
      each = λ some n q at. elim (slice_get-push pairs p n q at) [
        | inl old ↦ found.each some n q old
        | inr last ↦
            inl (ap (λ (x : Pair). slice_get firsts (later x)) last.1 ∙ is
            ∙ ap (λ k. Some (suc k)) (sym last.0))
      ];
      noted = new_noted (length pairs, is);
    }

    -- a new pair that went to the others
    pub push_other : (m : ℕ) × (slice_get firsts (later p) ≡ Some (suc m)) → (slots' : List ℕ)
        (crowded' : BTreeMap Pair ℕ) → IsPut slots slots' crowded crowded' p (length pairs)
        → AreFound (pairs ++ p ∷ []) firsts slots' crowded'
    push_other taken slots' crowded' put = record {
      few = new_few;
      once = new_once;
      wide = λ some. omega (arith, put.len, found.wide (omega (arith, put.len, some)));
      only = λ some. only (omega (arith, put.len, some));
      each = λ some. each (omega (arith, put.len, some));
      noted = new_noted taken;
    }
      where
        only : 0 < length slots → (n : ℕ) (q : Pair) → crowded_at crowded' q ≡ Some n
            → slice_get (pairs ++ p ∷ []) n ≡ Some q
        only some n q is = elim (put.others q) [
          | inl same ↦ new_only some n q (sym same ∙ is)
          | inr last ↦
              let number : Some (length pairs) ≡ Some n = sym last.1 ∙ is in
              let k : length pairs ≡ n = cc in
              ap (slice_get (pairs ++ p ∷ [])) (sym k) ∙ slice_get_last pairs p
              ∙ ap Some (sym last.0)
        ]

        stays : (n : ℕ) (q : Pair) → slice_get pairs n ≡ Some q → crowded_at crowded q ≡ Some n
            → crowded_at crowded' q ≡ Some n
        stays n q at is = elim (put.others q) [
          | inl same ↦ same ∙ is
          | inr last ↦
              absurd (new (subst (Contains pairs) last.0 (Contains-slice_get pairs n q at)))
        ]

        each : 0 < length slots → (n : ℕ) (q : Pair) → slice_get (pairs ++ p ∷ []) n ≡ Some q
            → (slice_get firsts (later q) ≡ Some (suc n))
            ⊎ Stands slots' (first_slot q (length slots')) 8 (crowded_at crowded' q) n
        each some n q at = elim (slice_get-push pairs p n q at) [
          | inl old ↦ elim (found.each some n q old) [
            | inl first ↦ inl first
            | inr other ↦
                inr (subst (λ l. Stands slots' (first_slot q l) 8 (crowded_at crowded' q) n)
                (sym put.len) (Stands-kept slots slots' (first_slot q (length slots)) 8
                (crowded_at crowded q) (crowded_at crowded' q) n put.kept (stays n q old) other))
          ]
          | inr last ↦ inr (here n q last.0 last.1)
        ]
          where
            here : (n : ℕ) (q : Pair) → n ≡ length pairs → q ≡ p
                → Stands slots' (first_slot q (length slots')) 8 (crowded_at crowded' q) n
            here n q number is =
                subst (λ (x : Pair). Stands slots' (first_slot x (length slots')) 8
                (crowded_at crowded' x) n) (sym is)
                (subst (λ k. Stands slots' (first_slot p (length slots')) 8
                (crowded_at crowded' p) k) (sym number)
                (subst (λ l. Stands slots' (first_slot p l) 8 (crowded_at crowded' p)
                (length pairs)) (sym put.len) put.stands))

-- ---- pair by pair

take_next : (pairs : List Pair) (n : ℕ) (p : Pair) → slice_get pairs n ≡ Some p
    → (take (suc n) pairs ≡ take n pairs ++ p ∷ []) × (length (take n pairs) ≡ n)
take_next [] n p at = absurd (cc)
take_next (q ∷ pairs) zero p at =
    let same : q ≡ p = cc in
    (ap (λ (x : Pair). x ∷ []) same, refl)
take_next (q ∷ pairs) (suc n) p at =
    let rest = take_next pairs n p at in
    (ap (λ (xs : List Pair). q ∷ xs) rest.0, ap suc rest.1)

take_read : (pairs : List Pair) (n i : ℕ) (p : Pair) → slice_get (take n pairs) i ≡ Some p
    → (slice_get pairs i ≡ Some p) × (i < n)
take_read [] zero i p at = absurd (cc)
take_read [] (suc n) i p at = absurd (cc)
take_read (q ∷ pairs) zero i p at = absurd (cc)
take_read (q ∷ pairs) (suc n) zero p at = (at, omega arith)
take_read (q ∷ pairs) (suc n) (suc i) p at =
    let rest = take_read pairs n i p at in
    (rest.0, omega (arith, rest.1))

module _ (pairs : List Pair) (few : length pairs < 2 ^ 32)
    (once : (i j : ℕ) (p : Pair) → slice_get pairs i ≡ Some p → slice_get pairs j ≡ Some p → i ≡ j)
    (n : ℕ) (p : Pair) (at : slice_get pairs n ≡ Some p) (firsts : List ℕ)
    (m : ℕ) (noted : slice_get firsts (later p) ≡ Some (suc m)) (slots : List ℕ)
    (crowded : BTreeMap Pair ℕ) (found : AreFound (take n pairs) firsts slots crowded) where
  next : take (n + 1) pairs ≡ take n pairs ++ p ∷ []
  next =
      ap (λ (k : ℕ). take k pairs) (let k : n + 1 ≡ suc n = omega arith in k)
      ∙ (take_next pairs n p at).0

  count : length (take n pairs) ≡ n
  count = (take_next pairs n p at).1

  new : Contains (take n pairs) p → ⊥
  new has =
      let i = slice_get-Contains (take n pairs) p has in
      let read = take_read pairs n i.0 p i.1 in
      omega (arith, read.1, once i.0 n p read.0 at)

  room : length (take n pairs) + 1 < 2 ^ 32
  room = omega (arith, count, few, slice_get_within pairs n p at)

  -- a pair that its later child leads to
  pub next_first : m ≡ n → AreFound (take (n + 1) pairs) firsts slots crowded
  next_first same =
      subst (λ (ps : List Pair). AreFound ps firsts slots crowded) (sym next)
      (push_same (take n pairs) firsts slots crowded found p new room
      (noted ∙ ap (λ k. Some (suc k)) (same ∙ sym count)))

  -- one that went to the others
  pub next_other : (slots' : List ℕ) (crowded' : BTreeMap Pair ℕ)
      → IsPut slots slots' crowded crowded' p n
      → AreFound (take (n + 1) pairs) firsts slots' crowded'
  next_other slots' crowded' put =
      subst (λ (ps : List Pair). AreFound ps firsts slots' crowded') (sym next)
      (push_other (take n pairs) firsts slots crowded found p new room (m, noted) slots' crowded'
      (subst (λ k. IsPut slots slots' crowded crowded' p k) (sym count) put))

module _ (pairs : List Pair) (few : length pairs < 2 ^ 32)
    (once : (i j : ℕ) (p : Pair) → slice_get pairs i ≡ Some p → slice_get pairs j ≡ Some p → i ≡ j)
    (firsts : List ℕ) (noted : (n : ℕ) (p : Pair) → slice_get pairs n ≡ Some p
    → (m : ℕ) × (slice_get firsts (later p) ≡ Some (suc m)))
    (n at : ℕ) (d : Pair) (within : n < length pairs) (is : at ≡ later (get_or pairs n d))
    (slots : List ℕ) (crowded : BTreeMap Pair ℕ)
    (found : AreFound (take n pairs) firsts slots crowded) where
  read : slice_get pairs n ≡ Some (get_or pairs n d)
  read = slice_get-get_or pairs n d within

  pub read_first : get_or firsts at 0 ≡ n + 1 → AreFound (take (n + 1) pairs) firsts slots crowded
  read_first same =
      let was = noted n (get_or pairs n d) read in
      let number : get_or firsts at 0 ≡ suc was.0 =
      ap (λ k. get_or firsts k 0) is
      ∙ get_or_from_slice_get firsts (later (get_or pairs n d)) (suc was.0) 0 was.1 in
      next_first pairs few once n (get_or pairs n d) read firsts was.0 was.1 slots crowded found
      (omega (arith, number, same))

  pub read_other : (slots' : List ℕ) (crowded' : BTreeMap Pair ℕ)
      → IsPut slots slots' crowded crowded' (get_or pairs n d) n
      → AreFound (take (n + 1) pairs) firsts slots' crowded'
  read_other slots' crowded' put =
      let was = noted n (get_or pairs n d) read in
      next_other pairs few once n (get_or pairs n d) read firsts was.0 was.1 slots crowded found
      slots' crowded' put
