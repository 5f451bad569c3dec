-- Which texts have no epoch.
use Rattle.std.proofs.Common.{◌≡◌, ℕ, ◌≤◌, ◌&&◌, Bool, true, false, cond, List, [], ◌∷◌, Option}
use Rattle.std.proofs.Common.{Some, None, Ok, Err, refl, ap, ◌∙◌, arith, length, nat_lt}
use Rattle.std.specs.List.{list_all}
use Rattle.std.specs.Prelude.{Result, is_some}
use Rattle.std.specs.Str.{is_utf8}
use Rattle.std.proofs.lemmas.Bool.Decides.{nat_tests}
use Rattle.geo_addr.specs.Lines.{numbered_lines}
use Rattle.job_lines.specs.declared.form.Form.{Form}
use Rattle.job_lines.specs.declared.form.Form.TheVariants as form
use Rattle.job_lines.specs.declared.job.Job.{Job}
use Rattle.job_lines.specs.declared.fault.JobFault.{JobFault}
use Rattle.job_lines.specs.declared.fault.JobFault.TheVariants.{Epoch, TooLong, Utf8}
use Rattle.job_lines.specs.Drafts.{DraftParts, no_lines, with_form}
use Rattle.job_lines.specs.Forms.{form_of}
use Rattle.job_lines.specs.Job.{draft_from, job, job_of, job_with, longest, unless_refused}
use Rattle.job_lines.specs.Job.{with_fitting, with_line}
use Rattle.job_lines.specs.Laws.{passes_over}
use Rattle.job_lines.specs.Words.{words}
use Rattle.job_lines.proofs.LawLemmas.{both, kept_if}

-- a draft that holds a form has an epoch
has_epoch : (o : Option ℕ) → is_some o ≡ true → o ≡ None → ⊥
has_epoch None is none = absurd cc
has_epoch (Some epoch) is none = absurd cc

form_has_epoch : (line : ℕ) (f : Form) (d n : DraftParts) → with_form line f d ≡ Some n
    → n.epoch ≡ None → ⊥
form_has_epoch line (form.Epoch epoch) d n e none =
    let is : Some epoch ≡ None = ap (λ q. q.epoch) (kept_if _ _ _ e).1 ∙ none in absurd cc
form_has_epoch line (form.TypeName name) d n e none =
    let kept = kept_if _ _ _ e in
    has_epoch d.epoch (both _ _ (both _ _ kept.0).0).0 (ap (λ q. q.epoch) kept.1 ∙ none)
form_has_epoch line (form.Pieces number) d n e none =
    let kept = kept_if _ _ _ e in
    has_epoch d.epoch (both _ _ (both _ _ kept.0).0).0 (ap (λ q. q.epoch) kept.1 ∙ none)
form_has_epoch line (form.Do act) d n e none =
    let kept = kept_if _ _ _ e in
    has_epoch d.epoch kept.0 (ap (λ q. q.epoch) kept.1 ∙ none)

-- so a line behind which there is none was passed over
line_passed : (b : Bool) (line : ℕ) (f : Option Form) (d n : DraftParts)
    → cond b (Some d) (with_fitting line f d) ≡ Some n → n.epoch ≡ None → b ≡ true
line_passed true line f d n e none = refl
line_passed false line None d n e none = absurd cc
line_passed false line (Some f) d n e none = absurd (form_has_epoch line f d n e none)

same_draft : (b : Bool) (line : ℕ) (f : Option Form) (d n : DraftParts)
    → cond b (Some d) (with_fitting line f d) ≡ Some n → b ≡ true → d ≡ n
same_draft true line f d n e is = cc
same_draft false line f d n e is = absurd cc

line_without : (line : ℕ × List ℕ) (d n : DraftParts) → with_line line d ≡ Some n → n.epoch ≡ None
    → (passes_over line ≡ true) × (d.epoch ≡ None)
unfolding with_line
line_without line d n e none =
    let b = line_passed (passes_over line) line.0 (form_of (words line.1)) d n e none in (
      b,
      ap (λ q. q.epoch) (same_draft (passes_over line) line.0 (form_of (words line.1)) d n e b)
          ∙ none,
    )

lines_without : (lines : List (ℕ × List ℕ)) (d f : DraftParts) → draft_from lines d ≡ Ok f
    → f.epoch ≡ None → (list_all passes_over lines ≡ true) × (d.epoch ≡ None)
lines_without [] d f e none = let same : d ≡ f = cc in (refl, ap (λ q. q.epoch) same ∙ none)
lines_without (line ∷ more) d f e none =
    let go : (o : Option DraftParts) → with_line line d ≡ o → unless_refused line.0 o
    (draft_from more) ≡ Ok f → (list_all passes_over (line ∷ more) ≡ true) × (d.epoch ≡ None) =
    λ o. elim o as (λ t. with_line line d ≡ t → unless_refused line.0 t (draft_from more) ≡ Ok f
    → (list_all passes_over (line ∷ more) ≡ true) × (d.epoch ≡ None)) [
      | None ↦ λ is h. absurd cc
      | Some n ↦ λ is h.
          let rest = lines_without more n f h none in
          let here = line_without line d n is rest.1 in
          (ap (λ b. b && list_all passes_over more) here.0 ∙ rest.0, here.1)
    ] in
    go (with_line line d) refl e

-- the fault of a refused line is not that of the epoch
other_fault : (lines : List (ℕ × List ℕ)) (d : DraftParts) → draft_from lines d ≡ Err Epoch → ⊥
other_fault [] d e = absurd cc
other_fault (line ∷ more) d e =
    let go : (o : Option DraftParts) → unless_refused line.0 o (draft_from more) ≡ Err Epoch → ⊥ =
    λ o. elim o as (λ t. unless_refused line.0 t (draft_from more) ≡ Err Epoch → ⊥) [
      | None ↦ λ h. absurd cc
      | Some n ↦ λ h. other_fault more n h
    ] in
    go (with_line line d) e

-- lines that are passed over leave the draft
line_stays : (line : ℕ × List ℕ) (d : DraftParts) → passes_over line ≡ true
    → with_line line d ≡ Some d
unfolding with_line
line_stays line d is = ap (λ b. cond b (Some d) (with_fitting line.0 (form_of (words line.1)) d)) is

lines_stay : (lines : List (ℕ × List ℕ)) (d : DraftParts) → list_all passes_over lines ≡ true
    → draft_from lines d ≡ Ok d
lines_stay [] d all = refl
lines_stay (line ∷ more) d all =
    let parts = both _ _ all in
    ap (λ o. unless_refused line.0 o (draft_from more)) (line_stays line d parts.0)
    ∙ lines_stay more d parts.1

outside : (b c : Bool) (r : Result Job JobFault)
    → cond b (Err TooLong) (cond c r (Err Utf8)) ≡ Err Epoch
    → (b ≡ false) × (c ≡ true) × (r ≡ Err Epoch)
outside true c r e = absurd cc
outside false true r e = (refl, refl, e)
outside false false r e = absurd cc

no_epoch : (o : Option ℕ) (f : DraftParts) → job_with o f ≡ Err Epoch → o ≡ None
no_epoch None f e = refl
no_epoch (Some epoch) f e = absurd cc

draft_without : (lines : List (ℕ × List ℕ)) (r : Result DraftParts JobFault)
    → draft_from lines no_lines ≡ r → job_of r ≡ Err Epoch → list_all passes_over lines ≡ true
draft_without lines (Ok f) is e = (lines_without lines no_lines f is (no_epoch f.epoch f e)).0
draft_without lines (Err why) is e =
    absurd (other_fault lines no_lines (is ∙ (let same : Err why ≡ Err Epoch = cc in same)))

pub fits_within : (most n : ℕ) → nat_lt most n ≡ false → n ≤ most
fits_within most n e = grind (arith, nat_tests)

pub fits_back : (most n : ℕ) → n ≤ most → nat_lt most n ≡ false
fits_back most n le = grind (arith, nat_tests)

pub only_passed_lines : (bytes : List ℕ) → job bytes ≡ Err Epoch → (length bytes ≤ longest)
    × (is_utf8 bytes ≡ true) × (list_all passes_over (numbered_lines bytes) ≡ true)
unfolding job
only_passed_lines bytes e =
    let out = outside _ _ _ e in (
      fits_within longest (length bytes) out.0,
      out.1,
      draft_without (numbered_lines bytes) (draft_from (numbered_lines bytes) no_lines) refl out.2,
    )

pub passed_lines_only : (bytes : List ℕ) → length bytes ≤ longest → is_utf8 bytes ≡ true
    → list_all passes_over (numbered_lines bytes) ≡ true → job bytes ≡ Err Epoch
unfolding job
passed_lines_only bytes short text all =
    ap (λ b. cond b (Err TooLong)
    (cond (is_utf8 bytes) (job_of (draft_from (numbered_lines bytes) no_lines)) (Err Utf8)))
    (fits_back longest (length bytes) short)
    ∙ (ap (λ c. cond c (job_of (draft_from (numbered_lines bytes) no_lines)) (Err Utf8)) text
    ∙ ap job_of (lines_stay (numbered_lines bytes) no_lines all))
