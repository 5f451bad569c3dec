use Rattle.std.proofs.Common.{◌≡◌, ℕ, List, Some, sym, subst, All, IfSome}
use Rattle.std.specs.Global.{Vec}
use Rattle.mmdb_data.specs.FullValues.{Entries}
use Rattle.mmdb_data.specs.Packing.{pointer}
use Rattle.mmdb_data.specs.KnownKeys.{key_pointer, IsKnown}
use Rattle.mmdb_data.proofs.noted_values.NotedValues.known_key.Goals as goal

pub returns : goal.returns
returns c =
    let full : Entries = c.self.inside.full in
    let all : All (IsKnown full) c.deref.result.now =
    subst (λ (keys : List (Vec ℕ × ℕ)). All (IsKnown full) keys) (sym c.deref.ensures.value)
    c.self.invariant in
    subst (λ (key : List ℕ). IfSome c.known.result
    (λ to. key_pointer key c.args.self.now ≡ Some (pointer to))) c.as_bytes.ensures.value
    (subst (λ (entries : Entries). IfSome c.known.result
    (λ to. key_pointer c.as_bytes.result.now entries ≡ Some (pointer to))) c.self.view_is
    (c.known.ensures full all))
