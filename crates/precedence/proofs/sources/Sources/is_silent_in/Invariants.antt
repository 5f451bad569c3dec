use Rattle.std.proofs.Common.{◌≡◌, ℕ, ◌<◌, get_or, None}
use Rattle.geo_addr.specs.Ranges.{Ends}
use Rattle.geo_terms.specs.Precedence.{spoken_at}
use Rattle.precedence.proofs.sources.Sources.is_silent_in.Given as goal

-- nothing is said where the pieces so far begin
abbrev pub invariant-loop-piece : goal.invariant-loop-piece
invariant-loop-piece l =
    (k : ℕ) (d : Ends) → k < l.piece-index
    → spoken_at l.self (get_or l.piece-items k d).first ≡ None
