-- Why the number of pieces changes nothing.
use Rattle.std.proofs.Common.{◌≡◌, ℕ, suc, Bool, true, false, nat_lt, List, [], ◌∷◌, ◌++◌, length}
use Rattle.std.proofs.Common.{map, refl, sym}
use Rattle.std.proofs.Common.{◌∙◌, ap, subst}
use Rattle.std.specs.List.{cons_option, filter_map}
use Rattle.std.specs.Prelude.{Option, Some, None, Ok, option_map, if◌then◌else◌}
use Rattle.geo_addr.specs.Lines.{numbered_lines}
use Rattle.geo_outside.specs.Files.{Told}
use Rattle.job_lines.specs.declared.act.Act.{Act}
use Rattle.job_lines.specs.declared.job.Job.{Job}
use Rattle.job_lines.specs.declared.job.Step.{Step}
use Rattle.job_lines.specs.Job.{default_name, job}
use Rattle.job_lines.specs.Laws.{AcceptedJobSaysItsLines}
use Rattle.job_lines.specs.Said.{IsOnly, SaysItsLines, name_said, step_said}
use Rattle.job_run.specs.declared.scope.Scope.{Scope}
use Rattle.job_run.specs.declared.scope.Scope.TheVariants.{Whole}
use Rattle.job_run.specs.declared.stop.Cause.{Cause}
use Rattle.job_run.specs.Acts.{Move, looks, counts, does, blocked, effect}
use Rattle.job_run.specs.Course.{course, ended, unless}
use Rattle.job_run.specs.Moves.{alone, most_together, moves_from, moves_of, sets_feed, takes}
use Rattle.job_run.specs.Moves.{together}
use Rattle.job_run.specs.World.{World, Effect, made}
use Rattle.geofeed_cmd.specs.Run.Pieces.{SaysTheSame, act_said}
use Rattle.geofeed_cmd.specs.Run.Plans.{start_of}

-- two lists of steps with the same acts
data SameActs : List Step → List Step → Type 0 where
  no_steps : SameActs [] []
  one_more : (step other : Step) (steps others : List Step) → step.act ≡ other.act
      → SameActs steps others
      → SameActs (step ∷ steps) (other ∷ others)

-- two lists of moves with the same effects
data SameEffects : List Move → List Move → Type 0 where
  no_moves : SameEffects [] []
  move_more : (move other : Move) (moves others : List Move)
      → ((world : World) → effect move world ≡ effect other world)
      → SameEffects moves others → SameEffects (move ∷ moves) (other ∷ others)

same-append : (moves others more also : List Move) → SameEffects moves others
    → SameEffects more also
    → SameEffects (moves ++ more) (others ++ also)
same-append _ _ more also no_moves rest = rest
same-append _ _ more also (move_more move other moves others is same) rest =
    move_more move other (moves ++ more) (others ++ also) is
    (same-append moves others more also same rest)

acts-append : (steps others more also : List Step) → SameActs steps others → SameActs more also
    → SameActs (steps ++ more) (others ++ also)
acts-append _ _ more also no_steps rest = rest
acts-append _ _ more also (one_more step other steps others is same) rest =
    one_more step other (steps ++ more) (others ++ also) is
    (acts-append steps others more also same rest)

same-length : (steps others : List Step) → SameActs steps others → length steps ≡ length others
same-length _ _ no_steps = refl
same-length _ _ (one_more step other steps others is same) = ap suc (same-length steps others same)

same-map : (make : Step → Move) → ((step other : Step) → step.act ≡ other.act → (world : World)
    → effect (make step) world ≡ effect (make other) world)
    → (steps others : List Step) → SameActs steps others
    → SameEffects (map make steps) (map make others)
same-map make same _ _ no_steps = no_moves
same-map make same _ _ (one_more step other steps others is more) =
    move_more (make step) (make other) (map make steps) (map make others) (same step other is)
    (same-map make same steps others more)

same-looks : (step other : Step) → step.act ≡ other.act
    → (world : World) → effect (looks step) world ≡ effect (looks other) world
same-looks step other is world =
    ap (λ (a : Act). effect (looks (record { line = 0; act = a })) world) is

same-counts : (step other : Step) → step.act ≡ other.act
    → (world : World) → effect (counts step) world ≡ effect (counts other) world
same-counts step other is world =
    ap (λ (a : Act). effect (counts (record { line = 0; act = a })) world) is

same-does : (step other : Step) → step.act ≡ other.act
    → (world : World) → effect (does step) world ≡ effect (does other) world
same-does step other is world =
    ap (λ (a : Act). effect (does (record { line = 0; act = a })) world) is

same-together : (group others : List Step) → SameActs group others
    → SameEffects (together group) (together others)
same-together group others same =
    same-append (map looks group) (map looks others) (map counts group ++ map does group)
    (map counts others ++ map does others)
    (same-map looks same-looks group others same)
    (same-append (map counts group) (map counts others) (map does group) (map does others)
    (same-map counts same-counts group others same) (same-map does same-does group others same))

same-choice : (b c : Bool) (x y v w : List Move) → b ≡ c → SameEffects x v → SameEffects y w
    → SameEffects (if b then x else y) (if c then v else w)
same-choice true true x y v w is one two = one
same-choice true false x y v w is one two = absurd (cc)
same-choice false true x y v w is one two = absurd (cc)
same-choice false false x y v w is one two = two

same-alone : (scope : Scope) (step other : Step) → step.act ≡ other.act
    → SameEffects (alone scope step) (alone scope other)
same-alone scope step other is =
    same-choice (takes scope step.act) (takes scope other.act) (does step ∷ []) []
    (does other ∷ []) []
    (ap (takes scope) is)
    (move_more (does step) (does other) [] [] (same-does step other is) no_moves) no_moves

same-moves : (scope : Scope) (group also steps others : List Step) → SameActs group also
    → SameActs steps others
    → SameEffects (moves_from scope group steps) (moves_from scope also others)
same-moves scope group also _ _ same no_steps = same-together group also same
same-moves scope group also _ _ same (one_more step other steps others is more) =
    let one : SameActs (step ∷ []) (other ∷ []) = one_more step other [] [] is no_steps in
    same-choice (sets_feed step.act) (sets_feed other.act) _ _ _ _ (ap sets_feed is)
    (same-choice (nat_lt (length group) most_together) (nat_lt (length also) most_together) _ _ _ _
    (ap (λ (n : ℕ). nat_lt n most_together) (same-length group also same))
    (same-moves scope (group ++ step ∷ []) (also ++ other ∷ []) steps others
    (acts-append group also (step ∷ []) (other ∷ []) same one) more)
    (same-append (together group) (together also) _ _ (same-together group also same)
    (same-moves scope (step ∷ []) (other ∷ []) steps others one more)))
    (same-append (together group) (together also) _ _ (same-together group also same)
    (same-append (alone scope step) (alone scope other) _ _ (same-alone scope step other is)
    (same-moves scope [] [] steps others no_steps more)))

-- where all moves of one list can be made, all of the other can, and they lead to the same world
same-course : (moves others : List Move) (world last : World) → SameEffects moves others
    → course moves world ≡ ended last
    → course others world ≡ ended last
same-course _ _ world last no_moves all = all
same-course _ _ world last (move_more move other moves others is same) all =
    let led : (e : Effect) → effect move world ≡ e → (b : Option Cause) → e.blocked ≡ b
    → unless b move world (course moves (made e world)) ≡ ended last
    → unless b other world (course others (made e world)) ≡ ended last =
    λ e this b. elim b as (λ (b : Option Cause). e.blocked ≡ b
    → unless b move world (course moves (made e world)) ≡ ended last
    → unless b other world (course others (made e world)) ≡ ended last) [
      | None ↦ λ free ends. same-course moves others (made e world) last same ends
      | Some why ↦ λ blocks ends. absurd (cc)
    ] in
    let first = led (effect move world) refl (blocked move world) refl all in
    ap (λ (e : Effect). unless e.blocked other world (course others (made e world)))
    (sym (is world)) ∙ first

-- the steps of two jobs whose texts say the same acts
acts-more : (o : Option Step) (steps : List Step) (acts : List Act)
    → map (λ (s : Step). s.act) steps ≡ acts
    → map (λ (s : Step). s.act) (cons_option o steps)
    ≡ cons_option (option_map (λ (s : Step). s.act) o) acts
acts-more None steps acts same = same
acts-more (Some step) steps acts same = ap (λ (l : List Act). step.act ∷ l) same

acts-of : (lines : List (ℕ × List ℕ))
    → map (λ (s : Step). s.act) (filter_map step_said lines) ≡ filter_map act_said lines
acts-of [] = refl
acts-of (line ∷ more) =
    acts-more (step_said line) (filter_map step_said more) (filter_map act_said more) (acts-of more)

same-acts : (steps others : List Step)
    → map (λ (s : Step). s.act) steps ≡ map (λ (s : Step). s.act) others → SameActs steps others
same-acts [] [] is = no_steps
same-acts [] (other ∷ others) is = absurd (cc)
same-acts (step ∷ steps) [] is = absurd (cc)
same-acts (step ∷ steps) (other ∷ others) is =
    one_more step other steps others (cc) (same-acts steps others (cc))

same-only : {X : Type 0} (default x y : X) (all : List X) → IsOnly default x all
    → IsOnly default y all → x ≡ y
same-only default x y [] is also = is ∙ sym also
same-only default x y (only ∷ []) is also = is ∙ sym also
same-only default x y (first ∷ second ∷ more) is also = absurd is

pub pieces_change_nothing : AcceptedJobSaysItsLines
    → (first : Told) (bytes other : List ℕ) (j k : Job)
    → job bytes ≡ Ok j → job other ≡ Ok k → SaysTheSame bytes other → (last : World)
    → course (moves_of j.steps) (start_of first j) ≡ ended last
    → course (moves_of k.steps) (start_of first k) ≡ ended last
pieces_change_nothing says first bytes other j k read also same last all =
    let one : SaysItsLines bytes j = says bytes j read in
    let two : SaysItsLines other k = says other k also in
    let epochs : j.meta.epoch ∷ [] ≡ k.meta.epoch ∷ [] = sym one.epoch ∙ same.epoch ∙ two.epoch in
    let epoch : j.meta.epoch ≡ k.meta.epoch = cc in
    let name : j.meta.name ≡ k.meta.name =
    same-only default_name j.meta.name k.meta.name (filter_map name_said (numbered_lines other))
    (subst (IsOnly default_name j.meta.name) same.name one.name) two.name in
    let acts = ap (map (λ (s : Step). s.act)) one.steps ∙ acts-of (numbered_lines bytes) ∙ same.acts
    ∙ sym (acts-of (numbered_lines other)) ∙ sym (ap (map (λ (s : Step). s.act)) two.steps) in
    let start : start_of first j ≡ start_of first k = cc in
    subst (λ (w : World). course (moves_of k.steps) w ≡ ended last) start
    (same-course (moves_of j.steps) (moves_of k.steps) (start_of first j) last
    (same-moves Whole [] [] j.steps k.steps no_steps (same-acts j.steps k.steps acts)) all)
