-- Calls that follow one another, and what holds of an answer.
use Rattle.std.proofs.Common.{◌≡◌, List, [], Option, Some, ◌++◌, sym, ap, ◌∙◌, append_assoc}
use Rattle.std.proofs.Common.{append-nil, Result, Ok, Err}
use Rattle.std.specs.Result.{OnOk, OnErr}
use Rattle.geofeed.specs.DiskCalls.{DiskCall, Adds}

-- nothing was done
pub adds_none : {old new : Option (List DiskCall)} → new ≡ old → Adds old new []
adds_none same before told = same ∙ told ∙ ap Some (sym (append-nil before))

-- a call that did nothing after some calls
pub adds_no_more : {old mid new : Option (List DiskCall)} → {one : List DiskCall} → Adds old mid one
    → new ≡ mid → Adds old new one
adds_no_more first same before told = same ∙ first before told

-- some calls, and then others
pub adds_then : {old mid new : Option (List DiskCall)} (one two : List DiskCall) → Adds old mid one
    → Adds mid new two → Adds old new (one ++ two)
adds_then one two first second before told =
    second (before ++ one) (first before told) ∙ ap Some (append_assoc before one two)

-- what follows from what holds where all went well
pub map_ok : {T E P Q : Type 0} (r : Result T E) → (P → Q) → OnOk r P → OnOk r Q
map_ok (Ok value) f p = f p
map_ok (Err why) f p = tt

-- what follows from what holds where there is an error
pub map_err : {T E P Q : Type 0} (r : Result T E) → (P → Q) → OnErr r P → OnErr r Q
map_err (Ok value) f p = tt
map_err (Err why) f p = f p
