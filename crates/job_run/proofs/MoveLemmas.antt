-- The moves of a job, its first lines and those that follow.
use Rattle.std.proofs.Common.{◌≡◌, ℕ, zero, suc, ◌+◌, ◌-◌, ◌<◌, ◌≤◌, ◌⊎◌, inl, inr, Bool, true}
use Rattle.std.proofs.Common.{false, ◌&&◌, cond, List, [], ◌∷◌, ◌++◌, length, get_or, take}
use Rattle.std.proofs.Common.{drop, Some, refl, sym, ◌∙◌, ap, subst, arith, append_assoc}
use Rattle.std.proofs.Common.{add-one}
use Rattle.std.proofs.Math.ListN.{drop_of_length-le}
use Rattle.std.proofs.Math.Seq.{drop-nil}
use Rattle.std.proofs.lemmas.Bool.{lt-ltb, le-ltb}
use Rattle.std.proofs.lemmas.List.{append-nil, length-drop, length-take-le, take-append-drop}
use Rattle.std.proofs.lemmas.List.{take_all}
use Rattle.std.specs.List.{list_all}
use Rattle.std.specs.Prelude.{slice_get, nat_lt}
use Rattle.update_session.specs.Kept.{Held}
use Rattle.job_lines.specs.declared.job.Step.{Step}
use Rattle.job_run.specs.Acts.{Move, does}
use Rattle.job_run.specs.Moves.{alone, begins_feed, most_together, moves_by, moves_from, read_rooms}
use Rattle.job_run.specs.Moves.{sets_feed, takes, together}
use Rattle.job_run.specs.Parts.{DoesFirst, DoesPart, FailsAt, FailsPart}
use Rattle.job_run.specs.Seen.{Seen}
use Rattle.job_run.specs.Sources.{read_room}
use Rattle.job_run.specs.Stops.{DoesAll, IsIn}
use Rattle.job_run.specs.World.{World}
use Rattle.job_run.specs.declared.scope.Scope.{Scope}
use Rattle.job_run.specs.declared.stop.Stop.{Stop}
use Rattle.job_run.proofs.RunLemmas.{all_of, fails_before, fails_later, part_more, part_none}

-- parts of a list
pub drop-both : (steps : List Step) (m n : ℕ) → drop n (drop m steps) ≡ drop (m + n) steps
drop-both steps zero n = let e : n ≡ 0 + n = omega arith in ap (λ (k : ℕ). drop k steps) e
drop-both [] (suc m) n = drop-nil n ∙ sym (drop-nil (suc m + n))
drop-both (step ∷ steps) (suc m) n = let e : suc (m + n) ≡ suc m + n = omega arith in
    drop-both steps m n ∙ ap (λ (k : ℕ). drop k (step ∷ steps)) e

pub get-dropped : (steps : List Step) (m n : ℕ)
    → slice_get (drop m steps) n ≡ slice_get steps (m + n)
get-dropped steps zero n = let e : n ≡ 0 + n = omega arith in ap (slice_get steps) e
get-dropped [] (suc m) n = refl
get-dropped (step ∷ steps) (suc m) n = let e : suc (m + n) ≡ suc m + n = omega arith in
    get-dropped steps m n ∙ ap (slice_get (step ∷ steps)) e

-- the move of a line that sets no feed
pub alone_none : (scope : Scope) (step : Step) → takes scope step.act ≡ false
    → alone scope step ≡ []
alone_none scope step out = ap (λ b. cond b (does step ∷ []) []) out

pub alone_one : (scope : Scope) (step : Step) → takes scope step.act ≡ true
    → alone scope step ≡ does step ∷ []
alone_one scope step in_it = ap (λ b. cond b (does step ∷ []) []) in_it

-- a list from an index on, with its length
pub rest_of : (steps : List Step) (at : ℕ)
    → take (length steps - at) (drop at steps) ≡ drop at steps
rest_of steps at = take_all (length steps - at) (drop at steps)
    (omega (arith, length-drop at steps))

-- a line that sets no feed makes its own moves
pub moves_alone : (scope : Scope) (step : Step) (steps : List Step) → sets_feed step.act ≡ false
    → moves_by scope (step ∷ steps) ≡ alone scope step ++ moves_by scope steps
moves_alone scope step steps other =
    ap (λ b. cond b (moves_from scope (step ∷ []) steps)
    (alone scope step ++ moves_from scope [] steps)) other

-- a group that has begun, and the lines behind it
group_end : (scope : Scope) (group rest : List Step)
    → (length group ≡ most_together) ⊎ (begins_feed rest ≡ false)
    → moves_from scope group rest ≡ together group ++ moves_from scope [] rest
group_end scope group [] full = sym (append-nil (together group))
group_end scope group (step ∷ steps) full = by (sets_feed step.act) refl full
  where
    by : (b : Bool) → sets_feed step.act ≡ b
        → (length group ≡ most_together) ⊎ (sets_feed step.act ≡ false)
        → moves_from scope group (step ∷ steps) ≡ together group
        ++ moves_from scope [] (step ∷ steps)
    by false is full =
        ap (λ b. cond b (cond (nat_lt (length group) most_together)
        (moves_from scope (group ++ step ∷ []) steps)
        (together group ++ moves_from scope (step ∷ []) steps))
        (together group ++ (alone scope step ++ moves_from scope [] steps))) is
        ∙ ap (λ (ms : List Move). together group ++ ms) (sym (moves_alone scope step steps is))
    by true is (inr other) = absurd (let e : true ≡ false = sym is ∙ other in cc)
    by true is (inl all) =
        ap (λ b. cond b (cond (nat_lt (length group) most_together)
        (moves_from scope (group ++ step ∷ []) steps)
        (together group ++ moves_from scope (step ∷ []) steps))
        (together group ++ (alone scope step ++ moves_from scope [] steps))) is
        ∙ ap (λ b. cond b (moves_from scope (group ++ step ∷ []) steps)
        (together group ++ moves_from scope (step ∷ []) steps))
        (le-ltb (length group) most_together (omega (arith, all)))
        ∙ ap (λ (ms : List Move). together group ++ ms)
        (sym (ap (λ b. cond b (moves_from scope (step ∷ []) steps)
        (alone scope step ++ moves_from scope [] steps)) is))

group_from : (scope : Scope) (group more rest : List Step)
    → list_all (λ s. sets_feed s.act) more ≡ true → length group + length more ≤ most_together
    → (length group + length more ≡ most_together) ⊎ (begins_feed rest ≡ false)
    → moves_from scope group (more ++ rest) ≡ together (group ++ more)
    ++ moves_from scope [] rest
group_from scope group [] rest all few full =
    group_end scope group rest (elim full [
      | inl e ↦ inl (omega (arith, e))
      | inr other ↦ inr other
    ])
    ∙ ap (λ (g : List Step). together g ++ moves_from scope [] rest) (sym (append-nil group))
group_from scope group (step ∷ more) rest all few full =
    let feed = head_true (sets_feed step.act) (list_all (λ s. sets_feed s.act) more) all in
    let others = tail_true (sets_feed step.act) (list_all (λ s. sets_feed s.act) more) all in
    let longer : length (group ++ step ∷ []) ≡ length group + 1 = longer_by group in
    ap (λ b. cond b (cond (nat_lt (length group) most_together)
    (moves_from scope (group ++ step ∷ []) (more ++ rest))
    (together group ++ moves_from scope (step ∷ []) (more ++ rest)))
    (together group ++ (alone scope step ++ moves_from scope [] (more ++ rest)))) feed
    ∙ ap (λ b. cond b (moves_from scope (group ++ step ∷ []) (more ++ rest))
    (together group ++ moves_from scope (step ∷ []) (more ++ rest)))
    (lt-ltb (length group) most_together (omega arith))
    ∙ group_from scope (group ++ step ∷ []) more rest others (omega (arith, longer)) (elim full [
      | inl e ↦ inl (omega (arith, e, longer))
      | inr other ↦ inr other
    ])
    ∙ ap (λ (g : List Step). together g ++ moves_from scope [] rest)
    (append_assoc group (step ∷ []) more)
  where
    head_true : (a b : Bool) → (a && b) ≡ true → a ≡ true
    head_true true b is = refl
    head_true false b is = is

    tail_true : (a b : Bool) → (a && b) ≡ true → b ≡ true
    tail_true true b is = is
    tail_true false b is = absurd (let e : false ≡ true = is in cc)

    longer_by : (g : List Step) → length (g ++ step ∷ []) ≡ length g + 1
    longer_by [] = refl
    longer_by (s ∷ g) = let e : suc (length g + 1) ≡ suc (length g) + 1 = omega arith in
        ap suc (longer_by g) ∙ e

get-taken : (steps : List Step) (n k : ℕ) (step : Step) → slice_get (take n steps) k ≡ Some step
    → slice_get steps k ≡ Some step
get-taken steps zero k step is = absurd (cc)
get-taken [] (suc n) k step is = absurd (cc)
get-taken (first ∷ rest) (suc n) zero step is = is
get-taken (first ∷ rest) (suc n) (suc k) step is = get-taken rest n k step is

-- lines that set feeds together, as many as may be, and the lines behind them
pub moves_together : (scope : Scope) (steps : List Step) (count : ℕ)
    → list_all (λ s. sets_feed s.act) (take count steps) ≡ true → count ≤ most_together
    → length (take count steps) ≡ count
    → (count ≡ most_together) ⊎ (begins_feed (drop count steps) ≡ false)
    → moves_by scope steps ≡ together (take count steps) ++ moves_by scope (drop count steps)
moves_together scope steps count all few long full =
    ap (moves_by scope) (sym (take-append-drop count steps))
    ∙ group_from scope [] (take count steps) (drop count steps) all (omega (arith, long))
    (elim full [
      | inl e ↦ inl (omega (arith, e, long))
      | inr other ↦ inr other
    ])

-- the first lines were done, and then those behind them
pub first_more : (scope : Scope) (steps : List Step) (at count : ℕ) (world : World)
    (session session' : Held) (old mid new : Seen)
    → (first : DoesFirst scope steps at world session old mid)
    → DoesFirst scope (drop at steps) count first.part.then session' mid new
    → DoesFirst scope steps (at + count) world session' old new
first_more scope steps at count world session session' old mid new first second = record {
  moves = first.moves ++ second.moves;
  split =
      first.split ∙ ap (λ (ms : List Move). first.moves ++ ms) second.split
      ∙ sym (append_assoc first.moves second.moves
      (moves_by scope (drop count (drop at steps))))
      ∙ ap (λ (rest : List Step). (first.moves ++ second.moves) ++ moves_by scope rest)
      (drop-both steps at count);
  part = part_more first.moves second.moves world session session' old mid new first.part
      second.part;
}

pub first_fails : (scope : Scope) (why : Stop) (steps : List Step) (at k : ℕ) (world : World)
    (session : Held) (old mid new : Seen) → (first : DoesFirst scope steps at world session old mid)
    → FailsAt why (moves_by scope (drop at steps)) (drop at steps) k first.part.then mid new
    → FailsAt why (moves_by scope steps) steps (at + k) world old new
first_fails scope why steps at k world session old mid new first second = record {
  step = second.step;
  named = sym (get-dropped steps at k) ∙ second.named;
  part = subst (λ (ms : List Move). FailsPart why ms second.step world old new) (sym first.split)
      (fails_later why first.moves (moves_by scope (drop at steps)) second.step world session old
      mid new first.part second.part);
}

-- all lines were done
pub all_done : (scope : Scope) (steps : List Step) (at : ℕ) (start : World) (session : Held)
    (old new : Seen) → length steps ≤ at → start.text ≡ []
    → DoesFirst scope steps at start session old new
    → DoesAll (moves_by scope steps) start session old new
all_done scope steps at start session old new past blank first =
    let none : moves_by scope (drop at steps) ≡ [] =
    ap (moves_by scope) (drop_of_length-le steps past) in
    let all : moves_by scope steps ≡ first.moves =
    first.split ∙ ap (λ (ms : List Move). first.moves ++ ms) none ∙ append-nil first.moves in
    all_of (moves_by scope steps) start session old new blank
    (subst (λ (ms : List Move). DoesPart ms start session old new) (sym all) first.part)

-- what the reads of lines may give, in parts
pub rooms-next : (steps : List Step) (at : ℕ) (step : Step) → slice_get steps at ≡ Some step
    → read_rooms (drop at steps) ≡ read_room step.act + read_rooms (drop (suc at) steps)
rooms-next [] at step next = absurd (cc)
rooms-next (first ∷ rest) zero step next =
    (let same : first ≡ step = cc in ap (λ (s : Step). read_room s.act + read_rooms rest) same)
rooms-next (first ∷ rest) (suc at) step next = rooms-next rest at step next

pub rooms-after : (steps : List Step) (at : ℕ) (step : Step) → slice_get steps at ≡ Some step
    → read_rooms (drop at steps) ≡ read_room step.act + read_rooms (drop (at + 1) steps)
rooms-after steps at step next =
    rooms-next steps at step next
    ∙ ap (λ (n : ℕ). read_room step.act + read_rooms (drop n steps)) (sym (add-one at))

pub rooms-split : (steps : List Step) (count : ℕ)
    → read_rooms (take count steps) + read_rooms (drop count steps) ≡ read_rooms steps
rooms-split steps zero = omega arith
rooms-split [] (suc count) = refl
rooms-split (step ∷ steps) (suc count) = (let e = rooms-split steps count in omega (arith, e))

-- one line that was done, or was not
pub first_alone : (scope : Scope) (step : Step) (steps : List Step) (world : World) (session : Held)
    (old new : Seen) → sets_feed step.act ≡ false
    → DoesPart (alone scope step) world session old new
    → DoesFirst scope (step ∷ steps) 1 world session old new
first_alone scope step steps world session old new other part =
    record { moves = alone scope step; split = moves_alone scope step steps other; part = part }

pub fails_alone : (scope : Scope) (why : Stop) (step : Step) (steps : List Step) (world : World)
    (old new : Seen) → sets_feed step.act ≡ false
    → FailsPart why (alone scope step) step world old new
    → FailsAt why (moves_by scope (step ∷ steps)) (step ∷ steps) 0 world old new
fails_alone scope why step steps world old new other part = record {
  step = step;
  named = refl;
  part = subst (λ (ms : List Move). FailsPart why ms step world old new)
      (sym (moves_alone scope step steps other))
      (fails_before why (alone scope step) (moves_by scope steps) step world old new part);
}

-- lines that set feeds together, that were done, or were not
pub first_together : (scope : Scope) (steps : List Step) (count : ℕ) (world : World)
    (session : Held) (old new : Seen) → list_all (λ s. sets_feed s.act) (take count steps) ≡ true
    → count ≤ most_together → count ≤ length steps
    → (count ≡ most_together) ⊎ (begins_feed (drop count steps) ≡ false)
    → DoesPart (together (take count steps)) world session old new
    → DoesFirst scope steps count world session old new
first_together scope steps count world session old new all few within full part = record {
  moves = together (take count steps);
  split = moves_together scope steps count all few (length-take-le count steps within) full;
  part = part;
}

pub fails_together : (scope : Scope) (why : Stop) (steps : List Step) (count at : ℕ) (world : World)
    (old new : Seen) → list_all (λ s. sets_feed s.act) (take count steps) ≡ true
    → count ≤ most_together → count ≤ length steps
    → (count ≡ most_together) ⊎ (begins_feed (drop count steps) ≡ false)
    → FailsAt why (together (take count steps)) (take count steps) at world old new
    → FailsAt why (moves_by scope steps) steps at world old new
fails_together scope why steps count at world old new all few within full failed = record {
  step = failed.step;
  named = get-taken steps count at failed.step failed.named;
  part = subst (λ (ms : List Move). FailsPart why ms failed.step world old new)
      (sym (moves_together scope steps count all few (length-take-le count steps within) full))
      (fails_before why (together (take count steps))
      (moves_by scope (drop count steps)) failed.step world old new failed.part);
}

-- no line was done yet
pub first_none : (scope : Scope) (steps : List Step) (world : World)
    (session : Held) (now : Seen) → IsIn now.told session world
    → DoesFirst scope steps 0 world session now now
first_none scope steps world session now here =
    record { moves = []; split = refl; part = part_none world session now here }

-- the first of some lines, where it sets no feed
module _ (scope : Scope) (steps : List Step) (step : Step) (some : 0 < length steps)
    (is : step ≡ get_or steps 0 step) where
  first_line : step ∷ drop 1 steps ≡ steps
  first_line = by steps some is
    where
      by : (list : List Step) → 0 < length list → step ≡ get_or list 0 step
          → step ∷ drop 1 list ≡ list
      by [] none here = absurd (omega (arith, none))
      by (first ∷ rest) more here = ap (λ (s : Step). s ∷ rest) here

  pub no_feed_first : (count : ℕ) → count ≤ 0
      → (count ≡ most_together) ⊎ (begins_feed (drop count steps) ≡ false)
      → sets_feed step.act ≡ false
  no_feed_first count none (inl full) = absurd (omega (arith, none, full))
  no_feed_first count none (inr other) =
      let zero_is : count ≡ 0 = omega (arith, none) in
      ap begins_feed first_line ∙ ap (λ (n : ℕ). begins_feed (drop n steps)) (sym zero_is) ∙ other

  pub first_alone_of : (world : World) (session : Held) (old new : Seen)
      → sets_feed step.act ≡ false → DoesPart (alone scope step) world session old new
      → DoesFirst scope steps 1 world session old new
  first_alone_of world session old new other part =
      subst (λ (list : List Step). DoesFirst scope list 1 world session old new) first_line
      (first_alone scope step (drop 1 steps) world session old new other part)

  pub fails_first_alone : (why : Stop) (world : World) (old new : Seen) → sets_feed step.act ≡ false
      → FailsPart why (alone scope step) step world old new
      → FailsAt why (moves_by scope steps) steps 0 world old new
  fails_first_alone why world old new other part =
      subst (λ (list : List Step). FailsAt why (moves_by scope list) list 0 world old new)
      first_line (fails_alone scope why step (drop 1 steps) world old new other part)

  pub rooms-first : read_room step.act + read_rooms (drop 1 steps) ≡ read_rooms steps
  rooms-first = ap read_rooms first_line
