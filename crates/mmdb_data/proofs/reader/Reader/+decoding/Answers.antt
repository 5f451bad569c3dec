use Rattle.std.proofs.Common.{rules, ◌≡◌, ℕ, ◌≤◌, ◌∙◌, true, false, List, length, subst, refl}
use Rattle.std.proofs.lemmas.Result.{err_from_is_err_and}
use Rattle.mmdb_data.specs.ValueTree.{ValueTree}
use Rattle.mmdb_data.specs.Reading.{Budget, members_from, items_from, value_from}
use Rattle.mmdb_data.specs.View.{value_tree, budget, items_view, members_view}
use Rattle.mmdb_data.proofs.Loops.{members_view-push, items_view-push, members_go_on, key_ends}
use Rattle.mmdb_data.proofs.Loops.{name_ends, value_ends, members_are_done, items_go_on, item_ends}
use Rattle.mmdb_data.proofs.Loops.{items_are_done, still_gives, still_fails}
use Rattle.mmdb_data.proofs.Views.{tree-List}
use Rattle.mmdb_data.proofs.Parts.{step_fails, content_list}
use Rattle.mmdb_data.proofs.reader.Reader.+decoding.Goals as goal

pub items-returns-in_err-value-clause-gives : goal.items-returns-in_err-value-clause-gives
items-returns-in_err-value-clause-gives t c =
    let p = err_from_is_err_and c.from_residual.result c.from_residual.ensures.1 in
    let old = c.args.self.now in
    let read = value_from old.section.now c.args.levels in
    let l = c.loop in
    let e = c.in_err-value in
    let fails = still_fails l.self.section.now old.section.now c.args.levels false l.self.at
    (budget l.self.left) e.field-0.0 l.invariant.same e.ensures.gives in
    rw (p.1, p.2) (item_ends read e.field-0.0 (items_view l.values.items) c.args.count l.counter
    l.self.at (budget l.self.left) (items_from read c.args.count old.at (budget old.left))
    c.loop-test.true fails l.invariant.so_far)

pub items-loop-preserved : goal.items-loop-preserved
items-loop-preserved t c =
    let old = c.args.self.now in
    let read = value_from old.section.now c.args.levels in
    let l = c.loop in
    let v = c.in_ok-value in
    let new = c.value.new.self in
    let found : ValueTree × ℕ × Budget = (value_tree v.value, new.at, budget new.left) in
    let gives = still_gives l.self.section.now old.section.now c.args.levels false l.self.at
    (budget l.self.left) found l.invariant.same v.ensures.gives in
    record {
      same = v.ensures.same ∙ l.invariant.same;
      so_far = rw (c.in_ok-push.ensures.items, items_view-push l.values.items v.value)
          (items_go_on read (items_view l.values.items) c.args.count l.counter l.self.at
          (budget l.self.left) found (items_from read c.args.count old.at (budget old.left))
          c.loop-test.true gives l.invariant.so_far);
      room = subst (λ (s : List ℕ). new.at ≤ length s) l.invariant.same v.ensures.room;
    }

pub items-returns-clause-gives : goal.items-returns-clause-gives
items-returns-clause-gives t c =
    let old = c.args.self.now in
    let read = value_from old.section.now c.args.levels in
    let l = c.loop in
    items_are_done read (items_view l.values.items) c.args.count l.counter l.self.at
    (budget l.self.left) (items_from read c.args.count old.at (budget old.left)) c.loop-test.false
    l.invariant.so_far

pub members-returns-in_err-key-clause-gives : goal.members-returns-in_err-key-clause-gives
members-returns-in_err-key-clause-gives t c =
    let p = err_from_is_err_and c.from_residual.result c.from_residual.ensures.1 in
    let old = c.args.self.now in
    let read = value_from old.section.now c.args.levels in
    let l = c.loop in
    let e = c.in_err-key in
    let fails = still_fails l.self.section.now old.section.now c.args.levels true l.self.at
    (budget l.self.left) e.field-0.0 l.invariant.same e.ensures.gives in
    rw (p.1, p.2) (key_ends read e.field-0.0 (members_view l.pairs.items) c.args.count l.counter
    l.self.at (budget l.self.left) (members_from read c.args.count old.at (budget old.left))
    c.loop-test.true fails l.invariant.so_far)

pub members-returns-in_err-name-clause-gives : goal.members-returns-in_err-name-clause-gives
members-returns-in_err-name-clause-gives t c =
    let p = err_from_is_err_and c.from_residual-in_err-name.result
    c.from_residual-in_err-name.ensures.1 in
    let old = c.args.self.now in
    let read = value_from old.section.now c.args.levels in
    let l = c.loop in
    let at_key = c.value.new.self in
    let key : ValueTree × ℕ × Budget =
    (value_tree c.in_ok-key.key, at_key.at, budget at_key.left) in
    let gives = still_gives l.self.section.now old.section.now c.args.levels true l.self.at
    (budget l.self.left) key l.invariant.same c.in_ok-key.ensures.gives in
    rw (p.1, p.2) (name_ends read c.in_err-name.field-0.0 (members_view l.pairs.items) c.args.count
    l.counter l.self.at (budget l.self.left) key
    (members_from read c.args.count old.at (budget old.left)) c.loop-test.true gives
    c.in_err-name.ensures l.invariant.so_far)

pub members-returns-in_err-value-clause-gives : goal.members-returns-in_err-value-clause-gives
members-returns-in_err-value-clause-gives t c =
    let p = err_from_is_err_and c.from_residual-in_err-value.result
    c.from_residual-in_err-value.ensures.1 in
    let old = c.args.self.now in
    let read = value_from old.section.now c.args.levels in
    let l = c.loop in
    let at_key = c.value.new.self in
    let key : ValueTree × ℕ × Budget =
    (value_tree c.in_ok-key.key, at_key.at, budget at_key.left) in
    let gives = still_gives l.self.section.now old.section.now c.args.levels true l.self.at
    (budget l.self.left) key l.invariant.same c.in_ok-key.ensures.gives in
    let e = c.in_err-value in
    let same = c.in_ok-key.ensures.same ∙ l.invariant.same in
    let fails = still_fails at_key.section.now old.section.now c.args.levels false at_key.at
    (budget at_key.left) e.field-0.0 same e.ensures.gives in
    rw (p.1, p.2) (value_ends read e.field-0.0 (members_view l.pairs.items) c.args.count l.counter
    l.self.at (budget l.self.left) key c.in_ok-name.name
    (members_from read c.args.count old.at (budget old.left)) c.loop-test.true gives
    c.in_ok-name.ensures fails l.invariant.so_far)

pub members-loop-preserved : goal.members-loop-preserved
members-loop-preserved t c =
    let old = c.args.self.now in
    let read = value_from old.section.now c.args.levels in
    let l = c.loop in
    let same = c.in_ok-key.ensures.same ∙ l.invariant.same in
    let at_key = c.value.new.self in
    let key : ValueTree × ℕ × Budget =
    (value_tree c.in_ok-key.key, at_key.at, budget at_key.left) in
    let gives = still_gives l.self.section.now old.section.now c.args.levels true l.self.at
    (budget l.self.left) key l.invariant.same c.in_ok-key.ensures.gives in
    let v = c.in_ok-value in
    let new = c.value-in-loop.new.self in
    let value : ValueTree × ℕ × Budget = (value_tree v.value, new.at, budget new.left) in
    let gives_value = still_gives at_key.section.now old.section.now c.args.levels false at_key.at
    (budget at_key.left) value same v.ensures.gives in
    record {
      same = v.ensures.same ∙ same;
      so_far = rw (
        c.in_ok-push.ensures.items,
        members_view-push l.pairs.items (c.in_ok-name.name, v.value),
      )
          (members_go_on read (members_view l.pairs.items) c.args.count l.counter l.self.at
          (budget l.self.left) key c.in_ok-name.name value
          (members_from read c.args.count old.at (budget old.left)) c.loop-test.true gives
          c.in_ok-name.ensures gives_value l.invariant.so_far);
      room = subst (λ (s : List ℕ). new.at ≤ length s) same v.ensures.room;
    }

pub members-returns-clause-gives : goal.members-returns-clause-gives
members-returns-clause-gives t c =
    let old = c.args.self.now in
    let read = value_from old.section.now c.args.levels in
    let l = c.loop in
    members_are_done read (members_view l.pairs.items) c.args.count l.counter l.self.at
    (budget l.self.left) (members_from read c.args.count old.at (budget old.left)) c.loop-test.false
    l.invariant.so_far

pub content-returns-in_ok-values-in-Some-List-clause-gives
    : goal.content-returns-in_ok-values-in-Some-List-clause-gives
content-returns-in_ok-values-in-Some-List-clause-gives t c =
    let old = c.args.self.now in
    let read = value_from old.section.now c.args.levels in
    let head = c.args.head in
    let is : head.kind ≡ 11 = search rules in
    let value : c.args.is_key ≡ false = search rules in
    rw (
      content_list read old.section.now c.args.is_key old.at head.kind head.size head.offset
          (budget old.left) is value,
      c.in_ok-values-in-Some-List.ensures.gives,
      tree-List c.in_ok-values-in-Some-List.values,
    ) refl

pub content-returns-in_err-values-in-Some-List-clause-gives
    : goal.content-returns-in_err-values-in-Some-List-clause-gives
content-returns-in_err-values-in-Some-List-clause-gives t c =
    let old = c.args.self.now in
    let read = value_from old.section.now c.args.levels in
    let head = c.args.head in
    let is : head.kind ≡ 11 = search rules in
    let value : c.args.is_key ≡ false = search rules in
    let p = err_from_is_err_and c.from_residual-in_err-values-in-Some-List.result
    c.from_residual-in_err-values-in-Some-List.ensures.1 in
    rw (
      p.1,
      p.2,
      content_list read old.section.now c.args.is_key old.at head.kind head.size
          head.offset (budget old.left) is value,
    ) (step_fails c.in_err-values-in-Some-List.field-0.0 _ _
    c.in_err-values-in-Some-List.ensures.gives)
