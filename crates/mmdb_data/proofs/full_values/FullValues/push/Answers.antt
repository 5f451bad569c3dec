use Rattle.std.proofs.Common.{rules, ◌≡◌, ◌<◌, ◌++◌, ◌∷◌, [], None, ℕ, length, take}
use Rattle.std.proofs.Common.{nat_eq, sym, ap, subst, ◌∙◌}
use Rattle.std.proofs.lemmas.List.{take_at}
use Rattle.std.specs.Cmp.Lexicographic.{pointwise}
use Rattle.std.specs.Map.{lookup}
use Rattle.mmdb_data.specs.declared.full_values.Table.{Table}
use Rattle.mmdb_data.specs.FullValues.{Entries, IsTable, IsPut}
use Rattle.mmdb_data.proofs.Table.{table_longer, table_alike, new_longer}
use Rattle.mmdb_data.proofs.full_values.FullValues.push.Goals.{then-len-taken+in_ok-self-inside}
use Rattle.mmdb_data.proofs.full_values.FullValues.push.Goals.{else-len-taken}
use Rattle.mmdb_data.proofs.full_values.FullValues.push.Goals as goal

-- the list could not grow
pub invariant_of-self : goal.invariant_of-self
invariant_of-self c =
    let inside = c.if-len-taken.self-inside in
    let entries : Entries = c.self.inside.list in
    let table : IsTable entries inside.table =
    elim c.if-len-taken.branch [
      | then-len-taken+in_ok-self-inside w ↦ search rules
      | else-len-taken w ↦
          let some : 0 < length c.self.inside.table.slots.items = search rules in
          let same : inside.table ≡ c.self.inside.table = search rules in
          subst (λ (t : Table). IsTable entries t) (sym same) (c.self.invariant.1 some)
    ] in
    let list : c.push.new.self ≡ entries = search rules in
    rw list (c.self.invariant.0, λ some. table)

pub invariant_of-self-in-Ok : goal.invariant_of-self-in-Ok
invariant_of-self-in-Ok c =
    let inside = c.if-len-taken.self-inside in
    let entries : Entries = c.self.inside.list in
    let table : IsTable entries inside.table =
    elim c.if-len-taken.branch [
      | then-len-taken+in_ok-self-inside w ↦ search rules
      | else-len-taken w ↦
          let some : 0 < length c.self.inside.table.slots.items = search rules in
          let same : inside.table ≡ c.self.inside.table = search rules in
          subst (λ (t : Table). IsTable entries t) (sym same) (c.self.invariant.1 some)
    ] in
    let spelled = c.args.spelled.now in
    let list : c.push.new.self ≡ entries ++ (spelled, c.args.at) ∷ [] = search rules in
    let put = subst (λ (n : ℕ). IsPut inside.table c.note.new.table n spelled c.args.at)
    c.len-number.ensures c.in-Ok.ensures.put in
    let new : lookup (pointwise nat_eq spelled) entries ≡ None =
    ap (lookup (pointwise nat_eq spelled)) c.self.view_is ∙ c.requires.new in
    rw list (
      new_longer entries spelled c.args.at c.self.invariant.0 new,
      λ some. table_longer entries inside.table table spelled c.args.at new c.note.new.table put,
    )

pub invariant_of-self-in-Err : goal.invariant_of-self-in-Err
invariant_of-self-in-Err c =
    let inside = c.if-len-taken.self-inside in
    let entries : Entries = c.self.inside.list in
    let table : IsTable entries inside.table =
    elim c.if-len-taken.branch [
      | then-len-taken+in_ok-self-inside w ↦ search rules
      | else-len-taken w ↦
          let some : 0 < length c.self.inside.table.slots.items = search rules in
          let same : inside.table ≡ c.self.inside.table = search rules in
          subst (λ (t : Table). IsTable entries t) (sym same) (c.self.invariant.1 some)
    ] in
    let spelled = c.args.spelled.now in
    let list : c.push.new.self ≡ entries ++ (spelled, c.args.at) ∷ [] = search rules in
    let back : c.truncate.new.self ≡ entries =
    c.truncate.ensures ∙ ap (take c.len-number.result) list
    ∙ take_at entries ((spelled, c.args.at) ∷ []) c.len-number.result (sym c.len-number.ensures) in
    let kept = table_alike entries inside.table c.note.new.table c.in-Err.ensures.err table in
    rw back (c.self.invariant.0, λ some. kept)
