use Rattle.std.proofs.Common.{◌≡◌, ℕ, ◌+◌, ◌∙◌, sym, ap, subst, refl, nat_eq, arith}
use Rattle.std.proofs.Common.{replicate, inl, inr, List, ◌++◌, ◌∷◌, [], Contains, length, set}
use Rattle.trie_core.proofs.TreeLemmas.{nat_equality}
use Rattle.least_nodes.specs.Layout.{each_once}
use Rattle.least_nodes.specs.NumberSet.{IsFoundBy, own_number}
use Rattle.least_nodes.proofs.Elements.{In, In-from_Contains, Contains-from_In}
use Rattle.least_nodes.proofs.Elements.{each_once-known, each_once-new}
use Rattle.least_nodes.proofs.NumberSetLemmas.{IsFoundBy-zeros, IsFoundBy-put}
use Rattle.least_nodes.proofs.NumberSetLemmas.{Contains-from_read, absent_from_read}
use Rattle.least_nodes.proofs.place_set.PlaceSet.insert.Goals as goal

one : (x y : ℕ) → own_number x ≡ own_number y → x ≡ y
one x y same = same

zeros : (numbers next : List ℕ) → IsFoundBy own_number numbers next → (longer : List ℕ) (m : ℕ)
    → longer ≡ next ++ replicate m 0 → IsFoundBy own_number numbers longer
zeros = IsFoundBy-zeros own_number nat_eq nat_equality one

pub invariant_of-self-then-index-ne0 : goal.invariant_of-self-then-index-ne0
invariant_of-self-then-index-ne0 c =
    zeros c.self.inside.numbers.items c.self.inside.next.items c.self.invariant _ _
    c.make_room.ensures.zeros

pub returns-then-index-ne0-clause-put : goal.returns-then-index-ne0-clause-put
returns-then-index-ne0-clause-put c =
    let numbers = c.self.inside.numbers.items in
    let number = c.args.number in
    let found = zeros numbers c.self.inside.next.items c.self.invariant _ _
    c.make_room.ensures.zeros in
    let has : Contains numbers number =
    Contains-from_read own_number nat_eq nat_equality one numbers c.make_room.new.next.items found
    number number c.index.result.now refl c.in_ok-make_room.ensures.within c.index.ensures
    c.if-index-ne0.true in
    let here = In-from_Contains nat_eq nat_equality number numbers has in
    let known : each_once nat_eq numbers (number ∷ []) ≡ numbers =
    each_once-known nat_eq nat_equality numbers (number ∷ []) (λ x is.
    elim is [ inl same ↦ subst (λ y. In y numbers) (sym same) here | inr none ↦ absurd none ]) in
    sym known
    ∙ ap (λ (xs : List ℕ). each_once nat_eq xs (number ∷ [])) c.self.view_is

pub invariant_of-self-in_default : goal.invariant_of-self-in_default
invariant_of-self-in_default c =
    zeros c.self.inside.numbers.items c.self.inside.next.items c.self.invariant _ _
    c.make_room.ensures.zeros

pub invariant_of-self-in_err-push : goal.invariant_of-self-in_err-push
invariant_of-self-in_err-push c =
    let found = zeros c.self.inside.numbers.items c.self.inside.next.items c.self.invariant _ _
    c.make_room.ensures.zeros in
    subst (λ (xs : List ℕ). IsFoundBy own_number xs c.make_room.new.next.items)
    (sym c.in_err-push.ensures.items) found

pub invariant_of-self-2 : goal.invariant_of-self-2
invariant_of-self-2 c =
    let numbers = c.self.inside.numbers.items in
    let longer = c.make_room.new.next.items in
    let number = c.args.number in
    let found = zeros numbers c.self.inside.next.items c.self.invariant _ _
    c.make_room.ensures.zeros in
    let last : c.in-Ok.next ≡ length numbers + 1 =
    omega (arith, c.in-Ok.ensures, c.len.ensures) in
    let put =
    IsFoundBy-put own_number nat_eq nat_equality one numbers longer found number number
    c.index.result.now refl c.in_ok-make_room.ensures.within c.index.ensures c.if-index-ne0.false
    c.in-Ok.next last (omega (arith, c.in-Ok.ensures)) in
    subst (λ (xs : List ℕ). IsFoundBy own_number xs (set longer number c.in-Ok.next))
    (sym c.in_ok-push.ensures.items) put

pub returns-clause-put : goal.returns-clause-put
returns-clause-put c =
    let numbers = c.self.inside.numbers.items in
    let number = c.args.number in
    let found = zeros numbers c.self.inside.next.items c.self.invariant _ _
    c.make_room.ensures.zeros in
    let new =
    absent_from_read own_number nat_eq nat_equality one numbers c.make_room.new.next.items found
    number number c.index.result.now refl c.in_ok-make_room.ensures.within c.index.ensures
    c.if-index-ne0.false in
    let missing = λ (is : In number numbers). new
    (Contains-from_In nat_eq nat_equality number numbers is) in
    let put : each_once nat_eq numbers (number ∷ []) ≡ numbers ++ number ∷ [] =
    each_once-new nat_eq nat_equality numbers number [] missing in
    c.in_ok-push.ensures.items ∙ sym put
    ∙ ap (λ (xs : List ℕ). each_once nat_eq xs (number ∷ [])) c.self.view_is
