-- The name and the number of pieces of an accepted job are within their limits.
use Rattle.std.proofs.Common.{◌≡◌, ℕ, ◌^◌, ◌≤◌, ◌&&◌, Bool, true, false, cond, Ok, List, [], ◌∷◌}
use Rattle.std.proofs.Common.{length, refl, arith, subst, lit≤}
use Rattle.std.proofs.lemmas.Bool.Decides.{nat_tests}
use Rattle.std.specs.Prelude.{Option, Some, None, option_and_then, option_map, unwrap_or, nat_le}
use Rattle.std.specs.Prelude.{nat_lt, if◌then◌else◌, codes}
use Rattle.geo_addr.specs.Decimals.{decimal}
use Rattle.geo_addr.specs.Lines.{numbered_lines}
use Rattle.geo_terms.specs.PlaceForm.{same_text}
use Rattle.job_lines.specs.declared.act.Act.{Act}
use Rattle.job_lines.specs.declared.form.Form.{Form}
use Rattle.job_lines.specs.declared.form.Form.TheVariants.{Epoch, TypeName, Pieces, Do}
use Rattle.job_lines.specs.declared.job.Job.{Job}
use Rattle.job_lines.specs.Acts.{act_by}
use Rattle.job_lines.specs.Drafts.{DraftParts, no_lines, with_form}
use Rattle.job_lines.specs.Forms.{begins_plain, epoch_form, epoch_line, epoch_of, form_by, form_of}
use Rattle.job_lines.specs.Forms.{pieces_form, pieces_line, pieces_of, type_form, type_line}
use Rattle.job_lines.specs.Job.{default_name, default_pieces, job, with_fitting, with_line}
use Rattle.job_lines.specs.Names.{is_type_name}
use Rattle.job_lines.specs.Said.{IsWithinLimits}
use Rattle.job_lines.specs.Words.{is_passed_over, only, words}
use Rattle.job_lines.proofs.LawLemmas.{accepted, both, kept_if, walks}

abbrev IsShort : Option (List ℕ) → Type 0
IsShort None = Unit {0}
IsShort (Some name) = length name ≤ 64

abbrev IsFew : Option ℕ → Type 0
IsFew None = Unit {0}
IsFew (Some n) = (1 ≤ n) × (n ≤ 64)

-- what a form gives, if it gives it, is within its limits
abbrev IsWithin : Option Form → Type 0
IsWithin None = Unit {0}
IsWithin (Some (Epoch n)) = Unit {0}
IsWithin (Some (TypeName name)) = length name ≤ 64
IsWithin (Some (Pieces n)) = (1 ≤ n) × (n ≤ 64)
IsWithin (Some (Do act)) = Unit {0}

either : (b : Bool) (x y : Option Form) → IsWithin x → IsWithin y → IsWithin (if b then x else y)
either true x y here there = here
either false x y here there = there

le_of : (n most : ℕ) → nat_le n most ≡ true → n ≤ most
le_of n most is = grind (arith, nat_tests)

type_limit : (name : List ℕ) → is_type_name name ≡ true → length name ≤ 64
unfolding is_type_name
type_limit name is = le_of (length name) 64 (both _ _ (both _ _ is).0).1

type_within : (name : List ℕ) (b : Bool) → is_type_name name ≡ b
    → IsWithin (if b then Some (TypeName name) else None)
type_within name true is = type_limit name is
type_within name false is = tt

number_within : (n : ℕ) (b : Bool) → nat_le 1 n && nat_le n 64 ≡ b
    → IsWithin (if b then Some (Pieces n) else None)
number_within n true is = let parts = both _ _ is in (le_of 1 n parts.0, le_of n 64 parts.1)
number_within n false is = tt

epoch_within : (n : Option ℕ) → IsWithin (epoch_of n)
epoch_within None = tt
epoch_within (Some n) = either (nat_lt n (2 ^ 64)) (Some (Epoch n)) None tt tt

pieces_within : (n : Option ℕ) → IsWithin (pieces_of n)
pieces_within None = tt
pieces_within (Some n) = number_within n (nat_le 1 n && nat_le n 64) refl

then_within : (found : Option (List ℕ)) (form : List ℕ → Option Form)
    → ((word : List ℕ) → IsWithin (form word)) → IsWithin (option_and_then form found)
then_within None form within = tt
then_within (Some word) form within = within word

act_within : (act : Option Act) → IsWithin (option_map Do act)
act_within None = tt
act_within (Some act) = tt

by_within : (word : List ℕ) (rest : List (List ℕ)) → IsWithin (form_by word rest)
unfolding form_by
by_within word rest =
    either (same_text word (codes "epoch")) (epoch_line rest) _
    (then_within (only rest) epoch_form (λ digits. epoch_within (decimal 1 20 digits)))
    (either (same_text word (codes "type")) (type_line rest) _
    (then_within (only rest) type_form (λ name. type_within name (is_type_name name) refl))
    (either (same_text word (codes "pieces")) (pieces_line rest) _
    (then_within (only rest) pieces_form (λ digits. either (begins_plain digits)
    (pieces_of (decimal 1 2 digits)) None (pieces_within (decimal 1 2 digits)) tt))
    (act_within (act_by word rest))))

form_within : (said : List (List ℕ)) → IsWithin (form_of said)
form_within [] = tt
form_within (word ∷ rest) = by_within word rest

-- so what a draft has is within its limits
abbrev AreWithin : DraftParts → Type 0
AreWithin d = IsShort d.name × IsFew d.pieces

ordered_within : (line : ℕ) (form : Form) (d n : DraftParts)
    → IsWithin (Some form) → with_form line form d ≡ Some n → AreWithin d → AreWithin n
ordered_within line (Epoch epoch) d n here e within = subst AreWithin (kept_if _ _ _ e).1 within
ordered_within line (TypeName name) d n here e within =
    subst AreWithin (kept_if _ _ _ e).1 (here, within.1)
ordered_within line (Pieces number) d n here e within =
    subst AreWithin (kept_if _ _ _ e).1 (within.0, here)
ordered_within line (Do act) d n here e within = subst AreWithin (kept_if _ _ _ e).1 within

fitting_within : (b : Bool) (line : ℕ) (form : Option Form) (d n : DraftParts) → IsWithin form
    → cond b (Some d) (with_fitting line form d) ≡ Some n → AreWithin d → AreWithin n
fitting_within true line form d n here e within =
    let same : d ≡ n = cc in
    subst AreWithin same within
fitting_within false line None d n here e within = absurd cc
fitting_within false line (Some form) d n here e within = ordered_within line form d n here e within

line_within : (line : ℕ × List ℕ) (more : List (ℕ × List ℕ)) (d n : DraftParts)
    → with_line line d ≡ Some n → AreWithin d → AreWithin n
unfolding with_line
line_within line more d n e within =
    fitting_within (is_passed_over (words line.1)) line.0 (form_of (words line.1)) d n
    (form_within (words line.1)) e within

short_name : (o : Option (List ℕ)) → IsShort o → length (unwrap_or o default_name) ≤ 64
short_name None short = lit≤ tt
short_name (Some name) short = short

few_pieces : (o : Option ℕ) → IsFew o
    → (1 ≤ unwrap_or o default_pieces) × (unwrap_or o default_pieces ≤ 64)
few_pieces None few = (lit≤ tt, lit≤ tt)
few_pieces (Some n) few = few

pub accepted_within : (bytes : List ℕ) (j : Job) → job bytes ≡ Ok j → IsWithinLimits j
accepted_within bytes j e =
    let draft = accepted bytes j e in
    let made = draft.2 in
    let within =
    walks (λ _ q. AreWithin q) line_within (numbered_lines bytes) no_lines draft.0 draft.1 (
      tt,
      tt,
    ) in
    let few = few_pieces draft.0.pieces within.1 in
    record {
      name = rw made.name (short_name draft.0.name within.0);
      some = rw made.pieces (few.0);
      few = rw made.pieces (few.1);
    }
