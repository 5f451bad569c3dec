-- Why accepted lines are in order, and why a refused line is the first.
use Rattle.std.proofs.Common.{◌≡◌, ℕ, zero, suc, ◌≤◌, ◌<◌, ◌||◌, ◌&&◌, Bool, true, false, not, cond}
use Rattle.std.proofs.Common.{List, [], ◌∷◌, ◌++◌, length, take, map, Option, Some, None, Ok, Err}
use Rattle.std.proofs.Common.{refl, sym, ap, subst, ◌∙◌, arith, append_assoc}
use Rattle.std.proofs.lemmas.List.{append-nil, map-append}
use Rattle.std.proofs.lemmas.List.Folds.{list_all-append, list_any-append}
use Rattle.std.specs.List.{cons_option, list_all, list_any}
use Rattle.std.specs.Prelude.{Result, is_none, is_some, option_to_list, slice_get}
use Rattle.std.specs.Str.{is_utf8}
use Rattle.geo_addr.specs.Lines.{numbered_lines}
use Rattle.job_lines.specs.declared.form.Form.{Form}
use Rattle.job_lines.specs.declared.form.Form.TheVariants.{Epoch, TypeName, Pieces, Do}
use Rattle.job_lines.specs.declared.job.Job.{Job}
use Rattle.job_lines.specs.declared.job.Step.{Step}
use Rattle.job_lines.specs.declared.fault.JobFault.{JobFault}
use Rattle.job_lines.specs.declared.fault.JobFault.TheVariants.{Line, TooLong, Utf8}
use Rattle.job_lines.specs.Drafts.{DraftParts, has_no_steps, no_lines, takes_settings, with_form}
use Rattle.job_lines.specs.Forms.{form_of}
use Rattle.job_lines.specs.Job.{draft_from, job, job_of, job_with, longest, unless_refused}
use Rattle.job_lines.specs.Job.{with_fitting, with_line}
use Rattle.job_lines.specs.Order.{may_not_stand, fits, forms, is_act, is_epoch, is_first, is_pieces}
use Rattle.job_lines.specs.Order.{is_refused, is_setting, is_type, may_stand, said}
use Rattle.job_lines.specs.Order.{takes_setting, IsFirstRefused, IsInOrder}
use Rattle.job_lines.specs.Words.{is_passed_over, words}
use Rattle.job_lines.proofs.EmptyJobs.{fits_back, fits_within}
use Rattle.job_lines.proofs.LawLemmas.{accepted, both, kept_if, no_list, taken, walks}

-- The forms that were said, and the draft that they made

abbrev with_one : List Form → Form → List Form
with_one had form = had ++ (form ∷ [])

or_none : (b : Bool) → (b || false) ≡ b
or_none true = refl
or_none false = refl

or_one : (b : Bool) → (b || true) ≡ true
or_one true = refl
or_one false = refl

any_kept : (p : Form → Bool) (had : List Form) (form : Form) → p form ≡ false
    → list_any p had ≡ list_any p (with_one had form)
any_kept p had form is =
    sym (list_any-append p had (form ∷ [])
    ∙ (ap (λ b. list_any p had || (b || false)) is ∙ or_none (list_any p had)))

any_now : (p : Form → Bool) (had : List Form) (form : Form) → p form ≡ true
    → true ≡ list_any p (with_one had form)
any_now p had form is =
    sym (list_any-append p had (form ∷ [])
    ∙ (ap (λ b. list_any p had || (b || false)) is ∙ or_one (list_any p had)))

not_first : (had : List Form) (form : Form) → false ≡ is_first (with_one had form)
not_first [] form = refl
not_first (first ∷ more) form = refl

record Stands (had : List Form) (d : DraftParts) : Type 0 where
  begun : is_some d.epoch ≡ list_any is_epoch had
  first : is_none d.epoch ≡ is_first had
  named : is_none d.name ≡ not (list_any is_type had)
  numbered : is_none d.pieces ≡ not (list_any is_pieces had)
  waits : has_no_steps d.steps ≡ not (list_any is_act had)

nothing_said : Stands [] no_lines
nothing_said = record { begun = refl; first = refl; named = refl; numbered = refl; waits = refl }

-- the draft with one more form that may stand there
abbrev added : ℕ → Form → DraftParts → DraftParts
added line (Epoch epoch) d = record d { epoch = Some epoch }
added line (TypeName name) d = record d { name = Some name }
added line (Pieces number) d = record d { pieces = Some number }
added line (Do act) d = record d { steps = d.steps ++ (record { line = line; act = act } ∷ []) }

takes_is : (had : List Form) (d : DraftParts) → Stands had d → takes_settings d ≡ takes_setting had
takes_is had d s =
    ap (λ b. b && has_no_steps d.steps) s.begun ∙ ap (λ b. list_any is_epoch had && b) s.waits

form_is : (line : ℕ) (form : Form) (had : List Form) (d : DraftParts) → Stands had d
    → with_form line form d ≡ cond (may_stand had form) (Some (added line form d)) None
form_is line (Epoch epoch) had d s =
    ap (λ b. cond b (Some (added line (Epoch epoch) d)) None) s.first
form_is line (TypeName name) had d s =
    ap (λ b. cond b (Some (added line (TypeName name) d)) None)
    (ap (λ b. b && is_none d.name) (takes_is had d s) ∙ ap (λ b. takes_setting had && b) s.named)
form_is line (Pieces number) had d s =
    ap (λ b. cond b (Some (added line (Pieces number) d)) None)
    (ap (λ b. b && is_none d.pieces) (takes_is had d s)
    ∙ ap (λ b. takes_setting had && b) s.numbered)
form_is line (Do act) had d s = ap (λ b. cond b (Some (added line (Do act) d)) None) s.begun

some_epoch : (o : Option ℕ) → is_some o ≡ true → is_none o ≡ false
some_epoch None is = absurd cc
some_epoch (Some epoch) is = refl

some_steps : (steps : List Step) (step : Step) → has_no_steps (steps ++ (step ∷ [])) ≡ false
some_steps [] step = refl
some_steps (first ∷ more) step = refl

added_stands : (line : ℕ) (form : Form) (had : List Form) (d : DraftParts) → Stands had d
    → may_stand had form ≡ true → Stands (with_one had form) (added line form d)
added_stands line (Epoch epoch) had d s keeps = record {
  begun = any_now is_epoch had (Epoch epoch) refl;
  first = not_first had (Epoch epoch);
  named = s.named ∙ ap not (any_kept is_type had (Epoch epoch) refl);
  numbered = s.numbered ∙ ap not (any_kept is_pieces had (Epoch epoch) refl);
  waits = s.waits ∙ ap not (any_kept is_act had (Epoch epoch) refl);
}
added_stands line (TypeName name) had d s keeps = record {
  begun = s.begun ∙ any_kept is_epoch had (TypeName name) refl;
  first =
      some_epoch d.epoch (s.begun ∙ (both _ _ (both _ _ keeps).0).0)
      ∙ not_first had (TypeName name);
  named = ap not (any_now is_type had (TypeName name) refl);
  numbered = s.numbered ∙ ap not (any_kept is_pieces had (TypeName name) refl);
  waits = s.waits ∙ ap not (any_kept is_act had (TypeName name) refl);
}
added_stands line (Pieces number) had d s keeps = record {
  begun = s.begun ∙ any_kept is_epoch had (Pieces number) refl;
  first =
      some_epoch d.epoch (s.begun ∙ (both _ _ (both _ _ keeps).0).0)
      ∙ not_first had (Pieces number);
  named = s.named ∙ ap not (any_kept is_type had (Pieces number) refl);
  numbered = ap not (any_now is_pieces had (Pieces number) refl);
  waits = s.waits ∙ ap not (any_kept is_act had (Pieces number) refl);
}
added_stands line (Do act) had d s keeps = record {
  begun = s.begun ∙ any_kept is_epoch had (Do act) refl;
  first = some_epoch d.epoch (s.begun ∙ keeps) ∙ not_first had (Do act);
  named = s.named ∙ ap not (any_kept is_type had (Do act) refl);
  numbered = s.numbered ∙ ap not (any_kept is_pieces had (Do act) refl);
  waits =
      some_steps d.steps (record { line = line; act = act })
      ∙ ap not (any_now is_act had (Do act) refl);
}

-- One line

abbrev next_of : ℕ → Option Form → DraftParts → DraftParts
next_of line None d = d
next_of line (Some form) d = added line form d

turned : (b : Bool) (n : DraftParts) → cond b (Some n) None ≡ cond (not b) None (Some n)
turned true n = refl
turned false n = refl

fitting_is : (b : Bool) (line : ℕ) (form : Option Form) (had : List Form) (d : DraftParts)
    → Stands had d
    → cond b (Some d) (with_fitting line form d)
    ≡ cond (not b && may_not_stand had form) None (Some (next_of line (cond b None form) d))
fitting_is true line form had d s = refl
fitting_is false line None had d s = refl
fitting_is false line (Some form) had d s =
    form_is line form had d s ∙ turned (may_stand had form) (added line form d)

line_is : (line : ℕ × List ℕ) (had : List Form) (d : DraftParts) → Stands had d
    → with_line line d ≡ cond (is_refused had line.1) None (Some (next_of line.0 (said line) d))
unfolding with_line
line_is line had d s =
    fitting_is (is_passed_over (words line.1)) line.0 (form_of (words line.1)) had d s

not_not : (b : Bool) → not b ≡ false → b ≡ true
not_not true is = refl
not_not false is = absurd cc

fitting_stands : (b : Bool) (line : ℕ) (form : Option Form) (had : List Form) (d : DraftParts)
    → Stands had d → (not b && may_not_stand had form) ≡ false
    → Stands (had ++ option_to_list (cond b None form)) (next_of line (cond b None form) d)
fitting_stands true line form had d s is = subst (λ h. Stands h d) (sym (append-nil had)) s
fitting_stands false line None had d s is = absurd cc
fitting_stands false line (Some form) had d s is = added_stands line form had d s (not_not _ is)

line_stands : (line : ℕ × List ℕ) (had : List Form) (d : DraftParts)
    → Stands had d → is_refused had line.1 ≡ false
    → Stands (had ++ option_to_list (said line)) (next_of line.0 (said line) d)
line_stands line had d s is =
    fitting_stands (is_passed_over (words line.1)) line.0 (form_of (words line.1)) had d s is

-- The first line that is refused

with_more : (had : List Form) (form : Option Form) (rest : List Form)
    → (had ++ option_to_list form) ++ rest ≡ had ++ cons_option form rest
with_more had None rest = ap (λ h. h ++ rest) (append-nil had)
with_more had (Some form) rest = append_assoc had (form ∷ []) rest

record FirstBehind (had : List Form) (lines : List (ℕ × List ℕ)) (number : ℕ) : Type 0 where
  at : ℕ
  text : List ℕ
  there : slice_get lines at ≡ Some (number, text)
  refused : is_refused (had ++ forms (take at lines)) text ≡ true
  first : (index : ℕ) (line : ℕ × List ℕ) → index < at → slice_get lines index ≡ Some line
      → is_refused (had ++ forms (take index lines)) line.1 ≡ false

here : (line : ℕ × List ℕ) (more : List (ℕ × List ℕ)) (had : List Form) (number : ℕ)
    → line.0 ≡ number → is_refused had line.1 ≡ true → FirstBehind had (line ∷ more) number
here line more had number same is = record {
  at = 0;
  text = line.1;
  there = ap (λ n. Some (n, line.1)) same;
  refused = ap (λ h. is_refused h line.1) (append-nil had) ∙ is;
  first = λ index other before there. absurd (omega (arith, before));
}

later : (line : ℕ × List ℕ) (more : List (ℕ × List ℕ)) (had : List Form) (number : ℕ)
    → is_refused had line.1 ≡ false → FirstBehind (had ++ option_to_list (said line)) more number
    → FirstBehind had (line ∷ more) number
later line more had number is found = record {
  at = suc found.at;
  text = found.text;
  there = found.there;
  refused =
      ap (λ h. is_refused h found.text)
      (sym (with_more had (said line) (forms (take found.at more)))) ∙ found.refused;
  first = first;
}
  where
    first : (index : ℕ) (other : ℕ × List ℕ)
        → index < suc found.at → slice_get (line ∷ more) index ≡ Some other
        → is_refused (had ++ forms (take index (line ∷ more))) other.1 ≡ false
    first zero other before there =
        let same : line ≡ other = cc in ap (λ h. is_refused h other.1) (append-nil had)
        ∙ subst (λ l. is_refused had l.1 ≡ false) same is
    first (suc index) other before there =
        ap (λ h. is_refused h other.1) (sym (with_more had (said line) (forms (take index more))))
        ∙ found.first index other (omega (arith, before)) there

find : (lines : List (ℕ × List ℕ)) (had : List Form) (d : DraftParts) (number : ℕ) → Stands had d
    → draft_from lines d ≡ Err (Line number) → FirstBehind had lines number
find [] had d number s e = absurd cc
find (line ∷ more) had d number s e =
    let next = next_of line.0 (said line) d in
    let go : (b : Bool) → is_refused had line.1 ≡ b
    → unless_refused line.0 (cond b None (Some next)) (draft_from more) ≡ Err (Line number)
    → FirstBehind had (line ∷ more) number =
    λ b. elim b as (λ t. is_refused had line.1 ≡ t → unless_refused line.0 (cond t None (Some next))
    (draft_from more) ≡ Err (Line number) → FirstBehind had (line ∷ more) number) [
      | true ↦ λ is h. here line more had number (cc) is
      | false ↦ λ is h. later line more had number is (find more
          (had ++ option_to_list (said line)) next number (line_stands line had d s is) h)
    ] in
    go (is_refused had line.1) refl
    (ap (λ o. unless_refused line.0 o (draft_from more)) (sym (line_is line had d s)) ∙ e)

found_at : (lines : List (ℕ × List ℕ)) (at : ℕ) (had : List Form) (d : DraftParts) (number : ℕ)
    (text : List ℕ) → Stands had d → slice_get lines at ≡ Some (number, text)
    → is_refused (had ++ forms (take at lines)) text ≡ true
    → ((index : ℕ) (line : ℕ × List ℕ) → index < at → slice_get lines index ≡ Some line
    → is_refused (had ++ forms (take index lines)) line.1 ≡ false)
    → draft_from lines d ≡ Err (Line number)
found_at [] at had d number text s there refused first = absurd cc
found_at (line ∷ more) zero had d number text s there refused first =
    let same : line ≡ (number, text) = cc in
    let is : is_refused had line.1 ≡ true = ap (λ h. is_refused h line.1) (sym (append-nil had))
    ∙ (ap (λ l. is_refused (had ++ []) l.1) same ∙ refused) in
    ap (λ o. unless_refused line.0 o (draft_from more))
    (line_is line had d s ∙ ap (λ b. cond b None (Some (next_of line.0 (said line) d))) is)
    ∙ ap (λ l. Err (Line l.0)) same
found_at (line ∷ more) (suc at) had d number text s there refused first =
    let is : is_refused had line.1 ≡ false =
    ap (λ h. is_refused h line.1) (sym (append-nil had)) ∙ first 0 line (omega arith) refl in
    let next = next_of line.0 (said line) d in
    ap (λ o. unless_refused line.0 o (draft_from more))
    (line_is line had d s ∙ ap (λ b. cond b None (Some next)) is)
    ∙ found_at more at (had ++ option_to_list (said line)) next number text
    (line_stands line had d s is) there
    (ap (λ h. is_refused h text) (with_more had (said line) (forms (take at more))) ∙ refused)
    (λ index other before is_there.
    ap (λ h. is_refused h other.1) (with_more had (said line) (forms (take index more)))
    ∙ first (suc index) other (omega (arith, before)) is_there)

outside : (b c : Bool) (r : Result Job JobFault) (number : ℕ)
    → cond b (Err TooLong) (cond c r (Err Utf8)) ≡ Err (Line number)
    → (b ≡ false) × (c ≡ true) × (r ≡ Err (Line number))
outside true c r number e = absurd cc
outside false true r number e = (refl, refl, e)
outside false false r number e = absurd cc

with_epoch : (o : Option ℕ) (f : DraftParts) (number : ℕ) → job_with o f ≡ Err (Line number) → ⊥
with_epoch None f number e = absurd cc
with_epoch (Some epoch) f number e = absurd cc

of_draft : (r : Result DraftParts JobFault) (number : ℕ)
    → job_of r ≡ Err (Line number) → r ≡ Err (Line number)
of_draft (Ok f) number e = absurd (with_epoch f.epoch f number e)
of_draft (Err why) number e = let same : why ≡ Line number = cc in ap (λ w. Err w) same

pub refused_is_first : (bytes : List ℕ) (number : ℕ)
    → job bytes ≡ Err (Line number) → (length bytes ≤ longest) × (is_utf8 bytes ≡ true)
    × IsFirstRefused (numbered_lines bytes) number
unfolding job
refused_is_first bytes number e =
    let out = outside _ _ _ number e in
    let found = find (numbered_lines bytes) [] no_lines number nothing_said
    (of_draft (draft_from (numbered_lines bytes) no_lines) number out.2) in (
      fits_within longest (length bytes) out.0,
      out.1,
      record {
        at = found.at;
        text = found.text;
        there = found.there;
        refused = found.refused;
        first = found.first;
      },
    )

pub first_is_refused : (bytes : List ℕ) (number : ℕ) → length bytes ≤ longest → is_utf8 bytes ≡ true
    → IsFirstRefused (numbered_lines bytes) number → job bytes ≡ Err (Line number)
unfolding job
first_is_refused bytes number short text found =
    ap (λ b. cond b (Err TooLong)
    (cond (is_utf8 bytes) (job_of (draft_from (numbered_lines bytes) no_lines)) (Err Utf8)))
    (fits_back longest (length bytes) short)
    ∙ (ap (λ c. cond c (job_of (draft_from (numbered_lines bytes) no_lines)) (Err Utf8)) text
    ∙ ap job_of (found_at (numbered_lines bytes) found.at [] no_lines number found.text nothing_said
    found.there found.refused found.first))

-- The order of an accepted job

abbrev act_form : Step → Form
act_form step = Do step.act

abbrev epochs : Option ℕ → List Form
epochs epoch = map Epoch (option_to_list epoch)

-- the forms that made a draft, in order: nothing stands before the epoch
record Made (before : List Form) (d : DraftParts) : Type 0 where
  settings : List Form
  are : list_all is_setting settings ≡ true
  order : epochs d.epoch ++ (settings ++ map act_form d.steps) ≡ before
  begun : is_none d.epoch ≡ true → before ≡ []

no_steps : (steps : List Step) → has_no_steps steps ≡ true → map act_form steps ≡ []
no_steps [] is = refl
no_steps (step ∷ steps) is = absurd cc

bare_settings : (e settings acts : List Form) → e ++ (settings ++ acts) ≡ [] → e ≡ []
    → (settings ≡ []) × (acts ≡ [])
bare_settings [] [] acts is empty = (refl, is)
bare_settings [] (form ∷ more) acts is empty = absurd cc
bare_settings (form ∷ more) settings acts is empty = absurd cc

begun_with : (o : Option ℕ) → is_some o ≡ true → is_none o ≡ true → ⊥
begun_with None some none = absurd cc
begun_with (Some epoch) some none = absurd cc

one_more : (settings : List Form) (form : Form) → list_all is_setting settings ≡ true
    → is_setting form ≡ true → list_all is_setting (settings ++ (form ∷ [])) ≡ true
one_more settings form are is =
    list_all-append is_setting settings (form ∷ [])
    ∙ (ap (λ b. b && (is_setting form && true)) are ∙ ap (λ b. b && true) is)

-- one more setting, and one more act
put_setting : (e settings acts : List Form) (form : Form) → acts ≡ []
    → e ++ ((settings ++ (form ∷ [])) ++ acts) ≡ (e ++ (settings ++ acts)) ++ (form ∷ [])
put_setting e settings acts form is =
    ap (λ a. e ++ ((settings ++ (form ∷ [])) ++ a)) is
    ∙ (ap (λ s. e ++ s) (append-nil (settings ++ (form ∷ [])))
    ∙ (sym (append_assoc e settings (form ∷ []))
    ∙ sym (ap (λ a. (e ++ (settings ++ a)) ++ (form ∷ [])) is
    ∙ ap (λ s. (e ++ s) ++ (form ∷ [])) (append-nil settings))))

put_act : (e settings acts : List Form) (form : Form)
    → e ++ (settings ++ (acts ++ (form ∷ []))) ≡ (e ++ (settings ++ acts)) ++ (form ∷ [])
put_act e settings acts form =
    ap (λ a. e ++ a) (sym (append_assoc settings acts (form ∷ [])))
    ∙ sym (append_assoc e (settings ++ acts) (form ∷ []))

setting_made : (form : Form) (before : List Form) (d n : DraftParts) → Made before d
    → takes_settings d ≡ true → is_setting form ≡ true
    → n.epoch ≡ d.epoch → n.steps ≡ d.steps → Made (with_one before form) n
setting_made form before d n m takes is same_epoch same_steps =
    let parts = both _ _ takes in
    record {
      settings = m.settings ++ (form ∷ []);
      are = one_more m.settings form m.are is;
      order =
          ap (λ o. epochs o ++ ((m.settings ++ (form ∷ [])) ++ map act_form n.steps)) same_epoch
          ∙ (ap (λ steps. epochs d.epoch ++ ((m.settings ++ (form ∷ [])) ++ map act_form steps))
          same_steps
          ∙ (put_setting (epochs d.epoch) m.settings (map act_form d.steps) form
          (no_steps d.steps parts.1)
          ∙ ap (λ b. with_one b form) m.order));
      begun =
          λ none. absurd (begun_with d.epoch parts.0 (ap (λ o. is_none o) (sym same_epoch) ∙ none));
    }

form_made : (line : ℕ) (form : Form) (before : List Form) (d n : DraftParts) → Made before d
    → with_form line form d ≡ Some n → Made (with_one before form) n
form_made line (Epoch epoch) before d n m e =
    let kept = kept_if _ _ _ e in
    let bare = bare_settings (epochs d.epoch) m.settings (map act_form d.steps)
    (m.order ∙ m.begun kept.0) (ap (λ l. map Epoch l) (no_list d.epoch kept.0)) in
    subst (Made (with_one before (Epoch epoch))) kept.1 (record {
      settings = m.settings;
      are = m.are;
      order =
          ap (λ s. Epoch epoch ∷ (s ++ map act_form d.steps)) bare.0
          ∙ (ap (λ a. Epoch epoch ∷ a) bare.1
          ∙ ap (λ b. with_one b (Epoch epoch)) (sym (m.begun kept.0)));
      begun = λ none. absurd cc;
    })
form_made line (TypeName name) before d n m e =
    let kept = kept_if _ _ _ e in
    subst (Made (with_one before (TypeName name))) kept.1 (setting_made (TypeName name) before d
    (record d { name = Some name }) m (both _ _ kept.0).0 refl refl refl)
form_made line (Pieces number) before d n m e =
    let kept = kept_if _ _ _ e in
    subst (Made (with_one before (Pieces number))) kept.1 (setting_made (Pieces number) before d
    (record d { pieces = Some number }) m (both _ _ kept.0).0 refl refl refl)
form_made line (Do act) before d n m e =
    let kept = kept_if _ _ _ e in
    subst (Made (with_one before (Do act))) kept.1 (record {
      settings = m.settings;
      are = m.are;
      order =
          ap (λ a. epochs d.epoch ++ (m.settings ++ a))
          (map-append act_form d.steps (record { line = line; act = act } ∷ []))
          ∙ (put_act (epochs d.epoch) m.settings (map act_form d.steps) (Do act)
          ∙ ap (λ b. with_one b (Do act)) m.order);
      begun = λ none. absurd (begun_with d.epoch kept.0 none);
    })

line_made : (line : ℕ × List ℕ) (before : List Form) (d n : DraftParts) → Made before d
    → with_line line d ≡ Some n → Made (before ++ option_to_list (said line)) n
unfolding with_line
line_made line before d n m e =
    taken (is_passed_over (words line.1)) line.0 (form_of (words line.1)) d n
    (λ form q. Made (before ++ option_to_list form) q)
    (λ same. subst (λ b. Made b n) (sym (append-nil before)) (subst (Made before) same m))
    (λ form h. form_made line.0 form before d n m h) e

-- the lines before gave the draft, and the lines that are left give the rest
record Ordered (all : List Form) (lines : List (ℕ × List ℕ)) (d : DraftParts) : Type 0 where
  before : List Form
  made : Made before d
  rest : before ++ forms lines ≡ all

line_ordered : (all : List Form) (line : ℕ × List ℕ) (more : List (ℕ × List ℕ)) (d n : DraftParts)
    → with_line line d ≡ Some n → Ordered all (line ∷ more) d → Ordered all more n
line_ordered all line more d n e o = record {
  before = o.before ++ option_to_list (said line);
  made = line_made line o.before d n o.made e;
  rest = with_more o.before (said line) (forms more) ∙ o.rest;
}

-- each line of an accepted job is passed over or fits a form

fit_of : (b : Bool) (line : ℕ) (form : Option Form) (d n : DraftParts)
    → cond b (Some d) (with_fitting line form d) ≡ Some n → (b || is_some form) ≡ true
fit_of true line form d n e = refl
fit_of false line None d n e = absurd cc
fit_of false line (Some form) d n e = refl

line_fits : (line : ℕ × List ℕ) (d n : DraftParts) → with_line line d ≡ Some n → fits line ≡ true
unfolding with_line
line_fits line d n e = fit_of (is_passed_over (words line.1)) line.0 (form_of (words line.1)) d n e

lines_fit : (lines : List (ℕ × List ℕ)) (d f : DraftParts) → draft_from lines d ≡ Ok f
    → list_all fits lines ≡ true
lines_fit [] d f e = refl
lines_fit (line ∷ more) d f e =
    let go : (o : Option DraftParts) → with_line line d ≡ o
    → unless_refused line.0 o (draft_from more) ≡ Ok f → list_all fits (line ∷ more) ≡ true =
    λ o. elim o as (λ t. with_line line d ≡ t → unless_refused line.0 t (draft_from more) ≡ Ok f
    → list_all fits (line ∷ more) ≡ true) [
      | None ↦ λ is h. absurd cc
      | Some n ↦ λ is h. ap (λ b. b && list_all fits more) (line_fits line d n is)
          ∙ lines_fit more n f h
    ] in
    go (with_line line d) refl e

pub in_order : (bytes : List ℕ) (j : Job) → job bytes ≡ Ok j → IsInOrder bytes j
in_order bytes j e =
    let draft = accepted bytes j e in
    let lines : List (ℕ × List ℕ) = numbered_lines bytes in
    let start : Ordered (forms lines) lines no_lines = record {
      before = [];
      made = record { settings = []; are = refl; order = refl; begun = λ none. refl };
      rest = refl;
    } in
    let all = walks (Ordered (forms lines))
    (line_ordered (forms lines)) lines no_lines draft.0 draft.1 start in
    let made = all.made in
    record {
      fit = lines_fit lines no_lines draft.0 draft.1;
      settings = made.settings;
      are = made.are;
      order =
          sym all.rest ∙ (append-nil all.before
          ∙ (sym made.order
          ∙ (ap (λ o. epochs o ++ (made.settings ++ map act_form draft.0.steps)) draft.2.epoch
          ∙ ap (λ steps. Epoch j.meta.epoch ∷ (made.settings ++ map act_form steps))
          (sym draft.2.steps))));
    }
