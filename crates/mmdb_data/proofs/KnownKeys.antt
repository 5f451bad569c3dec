-- A pointer to a key leads to the same offset, whatever is put behind it.
use Rattle.std.proofs.Common.{◌≡◌, ℕ, ◌<◌, true, List, ◌++◌, length, get_or, Option, Some, None}
use Rattle.std.proofs.Common.{refl, sym, ap, subst, ◌∙◌, All, nat_eq, slice_index_or, ◌∷◌, []}
use Rattle.std.proofs.Common.{Result, Ok, Err, OnOk, OnErr}
use Rattle.std.proofs.lemmas.List.Elements.{All-get_or}
use Rattle.std.specs.Cmp.Lexicographic.{pointwise, bytes_decides}
use Rattle.std.specs.Global.{Vec}
use Rattle.std.specs.Map.{lookup}
use Rattle.mmdb_data.specs.Spelling.{sized}
use Rattle.mmdb_data.specs.Packing.{pointer, shorter_pointer}
use Rattle.mmdb_data.specs.FullValues.{Entries}
use Rattle.mmdb_data.specs.KnownKeys.{key_pointer, IsKnown}
use Rattle.mmdb_data.proofs.Keeps.{lookup-stays}

pointer_stays : (spelled to : List ℕ) (before after : Option ℕ)
    → ((at : ℕ) → before ≡ Some at → after ≡ Some at)
    → shorter_pointer spelled before ≡ Some to → shorter_pointer spelled after ≡ Some to
pointer_stays spelled to None after stays h = absurd cc
pointer_stays spelled to (Some at) after stays h = ap (shorter_pointer spelled) (stays at refl) ∙ h

known_longer : (entries more : Entries) (known : Vec ℕ × ℕ) → IsKnown entries known
    → IsKnown (entries ++ more) known
known_longer entries more known h =
    let spelled = sized 2 known.0.items in
    let test = pointwise nat_eq spelled in
    pointer_stays spelled (pointer known.1) (lookup test entries) (lookup test (entries ++ more))
    (λ at found. lookup-stays test entries more at found) h

all_longer : (keys : List (Vec ℕ × ℕ)) (entries more : Entries) → All (IsKnown entries) keys
    → All (IsKnown (entries ++ more)) keys
all_longer keys entries more all k d within =
    known_longer entries more (slice_index_or keys k d) (all k d within)

-- the same of one that was put there, or was not
pub all_after : {T E : Type 0} (r : Result T E) (keys : List (Vec ℕ × ℕ)) (old new : Entries)
    (entry : List ℕ × ℕ) → OnOk r (new ≡ old ++ entry ∷ []) → OnErr r (new ≡ old)
    → All (IsKnown old) keys → All (IsKnown new) keys
all_after (Ok x) keys old new entry ok err all =
    subst (λ (e : Entries). All (IsKnown e) keys) (sym ok) (all_longer keys old (entry ∷ []) all)
all_after (Err e) keys old new entry ok err all =
    subst (λ (e : Entries). All (IsKnown e) keys) (sym err) all

pub known_here : (key : List ℕ) (keys : List (Vec ℕ × ℕ)) (i : ℕ) (known : Vec ℕ × ℕ)
    → i < length keys → known ≡ get_or keys i known → true ≡ pointwise nat_eq known.0.items key
    → (entries : Entries) → All (IsKnown entries) keys
    → key_pointer key entries ≡ Some (pointer known.1)
known_here key keys i known within is same entries all =
    subst (λ (k : List ℕ). key_pointer k entries ≡ Some (pointer known.1))
    ((bytes_decides known.0.items key).0 (sym same))
    (subst (IsKnown entries) (sym is) (All-get_or (IsKnown entries) keys i known within all))
