-- The run of a list of moves, in parts.
use Rattle.std.proofs.Common.{◌≡◌, ℕ, zero, suc, List, [], ◌∷◌, ◌++◌, take, drop, refl, sym, ◌∙◌}
use Rattle.std.proofs.Common.{ap}
use Rattle.std.proofs.lemmas.List.{take-append-drop}
use Rattle.std.specs.Prelude.{slice_get, Option, Some, None}
use Rattle.job_run.specs.declared.stop.Cause.{Cause}
use Rattle.job_run.specs.Acts.{Move, blocked, after}
use Rattle.job_run.specs.World.{World}
use Rattle.job_run.specs.Course.{Outcome, ended, stopped, unless, course, go_on, IsAt}

unless-go_on : (why : Option Cause) (move : Move) (world : World) (next : Outcome)
    (more : List Move) → unless why move world (go_on next more) ≡ go_on
    (unless why move world next) more
unless-go_on None move world next more = refl
unless-go_on (Some why) move world next more = refl

-- the run of two lists goes on from the first with the second
pub course-append : (moves more : List Move) (world : World)
    → course (moves ++ more) world ≡ go_on (course moves world) more
course-append [] more world = refl
course-append (move ∷ moves) more world =
    ap (unless (blocked move world) move world) (course-append moves more (after move world))
    ∙ unless-go_on (blocked move world) move world (course moves (after move world)) more

-- a list from the index of a member on
pub drop-at : (moves : List Move) (count : ℕ) (move : Move) → slice_get moves count ≡ Some move
    → drop count moves ≡ move ∷ drop (suc count) moves
drop-at [] count move h = cc
drop-at (first ∷ rest) zero move h = cc
drop-at (first ∷ rest) (suc count) move h = drop-at rest count move h

-- a list up to a member and with it
pub take-next : (moves : List Move) (count : ℕ) (move : Move) → slice_get moves count ≡ Some move
    → take (suc count) moves ≡ take count moves ++ move ∷ []
take-next [] count move h = cc
take-next (first ∷ rest) zero move h = cc
take-next (first ∷ rest) (suc count) move h = ap (λ ms. first ∷ ms) (take-next rest count move h)

-- the run of the whole list, from a move on that it reaches
pub course_from : (moves : List Move) (start : World) (count : ℕ) (move : Move) (world : World)
    → IsAt moves start count move world
    → course moves start ≡ course (move ∷ drop (suc count) moves) world
course_from moves start count move world there =
    ap (λ ms. course ms start) (sym (take-append-drop count moves))
    ∙ course-append (take count moves) (drop count moves) start
    ∙ ap (λ outcome. go_on outcome (drop count moves)) there.done
    ∙ ap (λ ms. course ms world) (drop-at moves count move there.next)

-- a move that is reached and is blocked stops the run
pub course_blocked : (moves : List Move) (start : World) (count : ℕ) (move : Move) (world : World)
    (why : Cause) → IsAt moves start count move world → blocked move world ≡ Some why
    → course moves start ≡ stopped move why world
course_blocked moves start count move world why there cause =
    course_from moves start count move world there
    ∙ ap (λ b. unless b move world (course (drop (suc count) moves) (after move world))) cause

-- a move that is reached and is not blocked leads to the next world
pub course_next : (moves : List Move) (start : World) (count : ℕ) (move : Move) (world : World)
    → IsAt moves start count move world → blocked move world ≡ None
    → course (take (suc count) moves) start ≡ ended (after move world)
course_next moves start count move world there free =
    ap (λ ms. course ms start) (take-next moves count move there.next)
    ∙ course-append (take count moves) (move ∷ []) start
    ∙ ap (λ outcome. go_on outcome (move ∷ [])) there.done
    ∙ ap (λ b. unless b move world (ended (after move world))) free

-- a run that ends is blocked nowhere
pub course_free : (moves : List Move) (start last : World) (count : ℕ) (move : Move) (world : World)
    → course moves start ≡ ended last → IsAt moves start count move world
    → blocked move world ≡ None
course_free moves start last count move world all there =
    let led : unless (blocked move world) move world
    (course (drop (suc count) moves) (after move world)) ≡ ended last =
    sym (course_from moves start count move world there) ∙ all in
    let go : (b : Option Cause) → blocked move world ≡ b
    → unless b move world (course (drop (suc count) moves) (after move world)) ≡ ended last
    → blocked move world ≡ None =
    λ b. elim b as (λ (b : Option Cause). blocked move world ≡ b
    → unless b move world (course (drop (suc count) moves) (after move world)) ≡ ended last
    → blocked move world ≡ None) [
      | None ↦ λ free ends. free
      | Some why ↦ λ blocks ends. absurd (cc)
    ] in
    go (blocked move world) refl led
