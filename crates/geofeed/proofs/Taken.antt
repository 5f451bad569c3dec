-- A piece and the part of it that a writer has taken.
use Rattle.std.proofs.Common.{◌≡◌, ℕ, List, ◌++◌, Option, take, drop, length, sym, ap, ◌∙◌}
use Rattle.std.proofs.Common.{append_assoc, take-append-drop, subst, Result, Ok, Err}
use Rattle.std.specs.Result.{OnErr}
use Rattle.std.proofs.Math.Seq.{take-append_seam}
use Rattle.std.specs.Io.KnownBytes.{Appends}

-- n more bytes are taken from the front of the rest
pub more_taken : (piece taken rest : List ℕ) (n : ℕ) → piece ≡ taken ++ rest
    → piece ≡ (taken ++ take n rest) ++ drop n rest
more_taken piece taken rest n split =
    split ∙ ap (λ end. taken ++ end) (sym (take-append-drop n rest))
    ∙ sym (append_assoc taken (take n rest) (drop n rest))

-- what was taken is the front of the piece
pub taken_front : (old new : Option (List ℕ)) (piece taken rest : List ℕ) → piece ≡ taken ++ rest
    → Appends old new taken → (n : ℕ) × Appends old new (take n piece)
taken_front old new piece taken rest split appended = (
  length taken,
  subst (Appends old new)
      (sym (ap (take (length taken)) split ∙ take-append_seam taken rest)) appended,
)

-- what holds holds where there is an error
pub on_err : {T E P : Type 0} (r : Result T E) → P → OnErr r P
on_err (Ok value) p = tt
on_err (Err why) p = p
