-- A place that is new is led to its number.
use Rattle.std.proofs.Common.{rules, ◌≡◌, ◌+◌, ◌++◌, ◌∷◌, [], None, ℕ, List, length, suc, ap}
use Rattle.std.proofs.Common.{subst, ◌∙◌, arith}
use Rattle.std.proofs.lemmas.Map.Keys.{IsDistinct-push}
use Rattle.geo_terms.specs.Numbers.{number_of}
use Rattle.geo_terms.specs.PlaceEquality.{place_equiv}
use Rattle.geo_terms.specs.PlaceForm.{PlaceParts}
use Rattle.geo_terms.specs.PlaceTable.{slots_of, IsPut}
use Rattle.geo_terms.proofs.NumberLemmas.{absent_any}
use Rattle.geo_terms.proofs.TableLemmas.{table_longer, table_same}
use Rattle.geo_terms.proofs.places.Places.push.Goals as goal

pub invariant_of-self : goal.invariant_of-self
invariant_of-self c = (c.self.invariant.0, c.self.invariant.1, c.make_room.ensures.table)

pub invariant_of-self-in_err-reserve : goal.invariant_of-self-in_err-reserve
invariant_of-self-in_err-reserve c =
    let items : c.reserve.new.self.items ≡ c.self.inside.list.items = search rules in
    rw items (c.self.invariant.0, c.self.invariant.1, c.make_room.ensures.table)

pub invariant_of-self-in_err-copy : goal.invariant_of-self-in_err-copy
invariant_of-self-in_err-copy c =
    let items : c.reserve.new.self.items ≡ c.self.inside.list.items = search rules in
    rw items (c.self.invariant.0, c.self.invariant.1, c.make_room.ensures.table)

pub invariant_of-self-in_err-note : goal.invariant_of-self-in_err-note
invariant_of-self-in_err-note c =
    let items : c.reserve.new.self.items ≡ c.self.inside.list.items = search rules in
    let kept = table_same c.self.inside.list.items c.make_room.new.slots.items
    c.make_room.new.others c.note.new.others c.in_err-note.ensures.others
    c.make_room.ensures.table in
    rw (items, c.in_err-note.ensures.slots) (c.self.invariant.0, c.self.invariant.1, kept)

pub invariant_of-self-2 : goal.invariant_of-self-2
invariant_of-self-2 c =
    let slots = c.make_room.new.slots.items in
    let others = c.make_room.new.others in
    let xs : List PlaceParts = c.self.inside.list.items in
    let p : PlaceParts = c.args.place.now in
    let none : number_of xs p ≡ None = search rules in
    let items : c.reserve.new.self.items ≡ xs = search rules in
    let copy : c.in_ok-copy.copy ≡ p = search rules in
    let pushed : c.push_reserved.new.self.items ≡ xs ++ p ∷ [] =
    c.push_reserved.ensures.items ∙ ap (λ (l : List PlaceParts). l ++ c.in_ok-copy.copy ∷ []) items
    ∙ ap (λ (q : PlaceParts). xs ++ q ∷ []) copy in
    let count : c.len.result + 1 ≡ suc (length xs) =
    omega (arith, c.len.ensures, ap (λ (l : List PlaceParts). length l) items) in
    let put = subst (λ (n : ℕ). IsPut slots c.note.new.slots.items others
    c.note.new.others n p (slots_of p (length slots))) count
    c.in_ok-note.ensures.put in
    rw pushed (
      IsDistinct-push place_equiv xs p c.self.invariant.0 (absent_any xs p none),
      search rules,
      table_longer xs slots others c.make_room.ensures.table p none c.note.new.slots.items
          c.note.new.others put,
    )
