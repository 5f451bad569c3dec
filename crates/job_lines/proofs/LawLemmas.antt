-- Why an accepted job says its lines.
use Rattle.std.proofs.Common.{◌≡◌, ℕ, ◌&&◌, Bool, true, false, cond, List, [], ◌∷◌, ◌++◌, Option}
use Rattle.std.proofs.Common.{Some, None, Ok, Err, refl, sym, ap, subst, ◌∙◌, append_assoc}
use Rattle.std.specs.List.{cons_option, filter_map}
use Rattle.std.specs.Prelude.{Result, is_none, option_to_list, unwrap_or}
use Rattle.std.proofs.lemmas.List.{append-nil}
use Rattle.geo_addr.specs.Lines.{numbered_lines}
use Rattle.job_lines.specs.declared.form.Form.{Form}
use Rattle.job_lines.specs.declared.form.Form.TheVariants.{Epoch, TypeName, Pieces, Do}
use Rattle.job_lines.specs.declared.job.Job.{Job}
use Rattle.job_lines.specs.declared.job.Step.{Step}
use Rattle.job_lines.specs.declared.fault.JobFault.{JobFault}
use Rattle.job_lines.specs.declared.fault.JobFault.TheVariants.{TooLong, Utf8}
use Rattle.job_lines.specs.Drafts.{DraftParts, no_lines, with_form}
use Rattle.job_lines.specs.Forms.{form_of}
use Rattle.job_lines.specs.Job.{default_name, default_pieces, draft_from, job, job_of, job_with}
use Rattle.job_lines.specs.Job.{unless_refused, with_fitting, with_line}
use Rattle.job_lines.specs.Said.{IsOnly, SaysItsLines, epoch_in, epoch_said, form_said, name_in}
use Rattle.job_lines.specs.Said.{name_said, pieces_in, pieces_said, step_in, step_said}
use Rattle.job_lines.specs.Words.{is_passed_over, words}

-- what each line keeps, all lines keep
pub walks : (P : List (ℕ × List ℕ) → DraftParts → Type 0)
    → ((line : ℕ × List ℕ) (more : List (ℕ × List ℕ)) (d n : DraftParts) → with_line line d ≡ Some n
    → P (line ∷ more) d → P more n)
    → (lines : List (ℕ × List ℕ)) (d f : DraftParts) → draft_from lines d ≡ Ok f
    → P lines d → P [] f
walks P one [] d f e p = let same : d ≡ f = cc in subst (P []) same p
walks P one (line ∷ more) d f e p =
    let go : (o : Option DraftParts) → with_line line d ≡ o
    → unless_refused line.0 o (draft_from more) ≡ Ok f → P [] f =
    λ o. elim o
    as (λ t. with_line line d ≡ t → unless_refused line.0 t (draft_from more) ≡ Ok f → P [] f) [
      | None ↦ λ is h. absurd cc
      | Some n ↦ λ is h. walks P one more n f h (one line more d n is p)
    ] in
    go (with_line line d) refl e

-- a line is passed over, or its form may stand there
pub taken : (b : Bool) (line : ℕ) (form : Option Form) (d n : DraftParts)
    (P : Option Form → DraftParts → Type 0)
    → (d ≡ n → P None n) → ((f : Form) → with_form line f d ≡ Some n → P (Some f) n)
    → cond b (Some d) (with_fitting line form d) ≡ Some n → P (cond b None form) n
taken true line form d n P passed stands e = passed cc
taken false line None d n P passed stands e = absurd cc
taken false line (Some f) d n P passed stands e = stands f e

pub kept_if : (b : Bool) (d n : DraftParts) → cond b (Some d) None ≡ Some n → (b ≡ true) × (d ≡ n)
kept_if true d n e = (refl, cc)
kept_if false d n e = absurd cc

pub both : (a b : Bool) → (a && b) ≡ true → (a ≡ true) × (b ≡ true)
both true true e = (refl, refl)
both true false e = absurd cc
both false b e = absurd cc

-- an accepted job is that of the draft behind its lines

inside : (b c : Bool) (r : Result Job JobFault) (j : Job)
    → cond b (Err TooLong) (cond c r (Err Utf8)) ≡ Ok j → r ≡ Ok j
inside true c r j e = absurd cc
inside false true r j e = e
inside false false r j e = absurd cc

of_draft : (r : Result DraftParts JobFault) (j : Job) → job_of r ≡ Ok j
    → (f : DraftParts) × (r ≡ Ok f) × (job_with f.epoch f ≡ Ok j)
of_draft (Ok f) j e = (f, refl, e)
of_draft (Err why) j e = absurd cc

-- a job that is made of a draft
pub record IsMade (f : DraftParts) (j : Job) : Type 0 where
  pub epoch : f.epoch ≡ Some j.meta.epoch
  pub name : j.meta.name ≡ unwrap_or f.name default_name
  pub pieces : j.pieces ≡ unwrap_or f.pieces default_pieces
  pub steps : j.steps ≡ f.steps

of_epoch : (o : Option ℕ) (f : DraftParts) (j : Job) → f.epoch ≡ o → job_with o f ≡ Ok j
    → IsMade f j
of_epoch None f j is e = absurd cc
of_epoch (Some epoch) f j is e =
    let same : record {
      meta = record { epoch = epoch; name = unwrap_or f.name default_name };
      pieces = unwrap_or f.pieces default_pieces;
      steps = f.steps;
    } ≡ j = cc in
    record {
      epoch = is ∙ ap (λ q. Some q.meta.epoch) same;
      name = ap (λ q. q.meta.name) (sym same);
      pieces = ap (λ q. q.pieces) (sym same);
      steps = ap (λ q. q.steps) (sym same);
    }

pub accepted : (bytes : List ℕ) (j : Job) → job bytes ≡ Ok j
    → (f : DraftParts) × (draft_from (numbered_lines bytes) no_lines ≡ Ok f) × IsMade f j
unfolding job
accepted bytes j e =
    let draft = of_draft (draft_from (numbered_lines bytes) no_lines) j (inside _ _ _ j e) in
    (draft.0, draft.1, of_epoch draft.0.epoch draft.0 j refl draft.2)

-- each line adds what it says

record Adds (line : ℕ) (form : Option Form) (d n : DraftParts) : Type 0 where
  epoch : (rest : List ℕ)
      → option_to_list n.epoch ++ rest ≡ option_to_list d.epoch ++ cons_option (epoch_in form) rest
  name : (rest : List (List ℕ))
      → option_to_list n.name ++ rest ≡ option_to_list d.name ++ cons_option (name_in form) rest
  pieces : (rest : List ℕ) → option_to_list n.pieces ++ rest
      ≡ option_to_list d.pieces ++ cons_option (pieces_in form) rest
  steps : (rest : List Step) → n.steps ++ rest ≡ d.steps ++ cons_option (step_in line form) rest

pub no_list : {X : Type 0} (o : Option X) → is_none o ≡ true → option_to_list o ≡ []
no_list None e = refl
no_list (Some x) e = absurd cc

passed_adds : (line : ℕ) (d : DraftParts) → Adds line None d d
passed_adds line d = record {
  epoch = λ rest. refl;
  name = λ rest. refl;
  pieces = λ rest. refl;
  steps = λ rest. refl;
}

form_adds : (line : ℕ) (form : Form) (d n : DraftParts) → with_form line form d ≡ Some n
    → Adds line (Some form) d n
form_adds line (Epoch epoch) d n e =
    let kept = kept_if _ _ _ e in
    subst (Adds line (Some (Epoch epoch)) d) kept.1 (record {
      epoch = λ rest. sym (ap (λ l. l ++ (epoch ∷ rest)) (no_list d.epoch kept.0));
      name = λ rest. refl;
      pieces = λ rest. refl;
      steps = λ rest. refl;
    })
form_adds line (TypeName name) d n e =
    let kept = kept_if _ _ _ e in
    subst (Adds line (Some (TypeName name)) d) kept.1 (record {
      epoch = λ rest. refl;
      name = λ rest. sym (ap (λ l. l ++ (name ∷ rest)) (no_list d.name (both _ _ kept.0).1));
      pieces = λ rest. refl;
      steps = λ rest. refl;
    })
form_adds line (Pieces number) d n e =
    let kept = kept_if _ _ _ e in
    subst (Adds line (Some (Pieces number)) d) kept.1 (record {
      epoch = λ rest. refl;
      name = λ rest. refl;
      pieces = λ rest. sym (ap (λ l. l ++ (number ∷ rest)) (no_list d.pieces (both _ _ kept.0).1));
      steps = λ rest. refl;
    })
form_adds line (Do act) d n e =
    let kept = kept_if _ _ _ e in
    subst (Adds line (Some (Do act)) d) kept.1 (record {
      epoch = λ rest. refl;
      name = λ rest. refl;
      pieces = λ rest. refl;
      steps = λ rest. append_assoc d.steps (record { line = line; act = act } ∷ []) rest;
    })

line_adds : (line : ℕ × List ℕ) (d n : DraftParts) → with_line line d ≡ Some n
    → Adds line.0 (form_said line.1) d n
unfolding with_line
line_adds line d n e =
    taken (is_passed_over (words line.1)) line.0 (form_of (words line.1)) d n
    (λ form q. Adds line.0 form d q)
    (λ same. subst (Adds line.0 None d) same (passed_adds line.0 d))
    (λ form h. form_adds line.0 form d n h) e

-- what a draft and the lines that are left say together
record Together (lines : List (ℕ × List ℕ)) (whole : List (ℕ × List ℕ))
    (d : DraftParts) : Type 0 where
  epochs : option_to_list d.epoch ++ filter_map epoch_said lines ≡ filter_map epoch_said whole
  names : option_to_list d.name ++ filter_map name_said lines ≡ filter_map name_said whole
  numbers : option_to_list d.pieces ++ filter_map pieces_said lines ≡ filter_map pieces_said whole
  steps : d.steps ++ filter_map step_said lines ≡ filter_map step_said whole

line_together : (whole : List (ℕ × List ℕ)) (line : ℕ × List ℕ) (more : List (ℕ × List ℕ))
    (d n : DraftParts)
    → with_line line d ≡ Some n → Together (line ∷ more) whole d → Together more whole n
line_together whole line more d n e p =
    let adds = line_adds line d n e in
    record {
      epochs = adds.epoch (filter_map epoch_said more) ∙ p.epochs;
      names = adds.name (filter_map name_said more) ∙ p.names;
      numbers = adds.pieces (filter_map pieces_said more) ∙ p.numbers;
      steps = adds.steps (filter_map step_said more) ∙ p.steps;
    }

only : {X : Type 0} (default : X) (o : Option X) (all : List X) (x : X)
    → option_to_list o ++ [] ≡ all → x ≡ unwrap_or o default → IsOnly default x all
only default None all x e is = subst (IsOnly default x) e is
only default (Some one) all x e is = subst (IsOnly default x) e is

pub says_its_lines : (bytes : List ℕ) (j : Job) → job bytes ≡ Ok j → SaysItsLines bytes j
says_its_lines bytes j e =
    let draft = accepted bytes j e in
    let made = draft.2 in
    let lines : List (ℕ × List ℕ) = numbered_lines bytes in
    let all = walks (λ more q. Together more lines q) (line_together lines) lines no_lines draft.0
    draft.1 (record { epochs = refl; names = refl; numbers = refl; steps = refl }) in
    record {
      epoch = sym all.epochs ∙ ap (λ o. option_to_list o ++ []) made.epoch;
      name = only default_name draft.0.name _ j.meta.name all.names made.name;
      pieces = only default_pieces draft.0.pieces _ j.pieces all.numbers made.pieces;
      steps = made.steps ∙ (sym (append-nil draft.0.steps) ∙ all.steps);
    }
