-- The line behind the text of a command that stops.
use Rattle.std.proofs.Common.{◌≡◌, ℕ, zero, suc, ◌≤◌, ◌⊎◌, inl, inr, List, [], ◌∷◌, ◌++◌, take}
use Rattle.std.proofs.Common.{refl, sym}
use Rattle.std.proofs.Common.{◌∙◌, ap, subst, append_assoc, arith}
use Rattle.std.specs.Prelude.{Option, Some}
use Rattle.geo_outside.specs.Count.{Rose}
use Rattle.job_run.specs.declared.stop.Cause.{Cause}
use Rattle.job_run.specs.declared.stop.Stop.{Stop}
use Rattle.job_run.specs.declared.stop.Stop.TheVariants as stops
use Rattle.job_run.specs.Acts.{Move, effect, line_of}
use Rattle.job_run.specs.Seen.{Seen, Prints}
use Rattle.job_run.specs.Stops.{Fails, IsHindered, Tail}
use Rattle.job_run.specs.World.{World}
use Rattle.geofeed_cmd.specs.Run.Answers.{Leaves}
use Rattle.geofeed_cmd.specs.Run.Closes.{Closes, EndsWith}
use Rattle.geofeed_cmd.specs.Run.Lines.{stop_line}
use Rattle.geofeed_cmd.specs.Run.Stopped.{ClosesAt, ComesAs}

pub append-nil : (xs : List ℕ) → xs ++ [] ≡ xs
append-nil [] = refl
append-nil (x ∷ xs) = ap (λ ys. x ∷ ys) (append-nil xs)

-- a text, and then a stop line
pub closes-after : (old mid new : Option (List ℕ)) (faults faults_mid faults_now : ℕ)
    (text line : List ℕ)
    → Prints old mid text → Closes mid new faults_mid faults_now [] line → faults ≤ faults_mid
    → Closes old new faults faults_now text line
closes-after old mid new faults faults_mid faults_now text line printed closed rises before was =
    elim (closed (before ++ text) (printed before was)) [
      | inl whole ↦ inl (whole ∙ ap Some (append_assoc before text line))
      | inr part ↦ inr (
        part.0,
        part.1 ∙ ap Some (append_assoc before text (take part.0 line)),
        let rose : Rose faults_mid faults_now = part.2 in omega arith,
      )
    ]

-- a line of no byte, which is not written
pub closes-empty : (old new : Option (List ℕ)) (faults faults_now : ℕ) (line : List ℕ)
    → line ≡ [] → new ≡ old → Closes old new faults faults_now [] line
closes-empty old new faults faults_now line empty same before was =
    inl (same ∙ was ∙ ap Some (sym (append-nil before))
    ∙ ap (λ (l : List ℕ). Some (before ++ l)) (sym empty))

take-nil : (n : ℕ) → take {A = ℕ} n [] ≡ []
take-nil zero = refl
take-nil (suc n) = refl

pub prints-nothing : (old new : Option (List ℕ)) (faults faults_now : ℕ) (text : List ℕ)
    → Closes old new faults faults_now text [] → Prints old new text
prints-nothing old new faults faults_now text closed before was =
    elim (closed before was) [
      | inl whole ↦ whole ∙ ap (λ t. Some (before ++ t)) (append-nil text)
      | inr part ↦
          part.1 ∙ ap (λ t. Some (before ++ (text ++ t))) (take-nil part.0)
          ∙ ap (λ t. Some (before ++ t)) (append-nil text)
    ]

-- no line is printed where the sink failed or memory ran out
pub no-line : (line : ℕ) (name : List ℕ)
    → (stop_line stops.SinkFailed line name ≡ []) × (stop_line stops.Memory line name ≡ [])
unfolding stop_line
no-line line name = (refl, refl)

-- a stop behind which nothing was printed for want of memory
pub closes_unsaid : (out : Stop)
    → (out ≡ stops.PutFailed) ⊎ ((out ≡ stops.SinkFailed) ⊎ (out ≡ stops.Memory))
    → (old new : Option (List ℕ)) (faults faults_now : ℕ) (line : ℕ) (name : List ℕ)
    → new ≡ old → ClosesAt out old new faults faults_now (stop_line out line name)
closes_unsaid (stops.Blocked cause) silent old new faults faults_now line name same =
    absurd (elim silent [
      | inl put ↦ (let is = put in cc)
      | inr rest ↦ elim rest [ inl sink ↦ (let is = sink in cc) | inr out ↦ (let is = out in cc) ]
    ])
closes_unsaid stops.ReadFailed silent old new faults faults_now line name same =
    absurd (elim silent [
      | inl put ↦ (let is = put in cc)
      | inr rest ↦ elim rest [ inl sink ↦ (let is = sink in cc) | inr out ↦ (let is = out in cc) ]
    ])
closes_unsaid stops.PutFailed silent old new faults faults_now line name same = inr same
closes_unsaid stops.SinkFailed silent old new faults faults_now line name same =
    closes-empty old new faults faults_now (stop_line stops.SinkFailed line name)
    (no-line line name).0 same
closes_unsaid stops.Memory silent old new faults faults_now line name same =
    closes-empty old new faults faults_now (stop_line stops.Memory line name)
    (no-line line name).1 same

-- a stop behind which its line was printed
pub closes_said : (why : Stop) (old new : Option (List ℕ)) (faults faults_now : ℕ) (line : List ℕ)
    → Closes old new faults faults_now [] line → ClosesAt why old new faults faults_now line
closes_said (stops.Blocked cause) old new faults faults_now line closed = closed
closes_said stops.ReadFailed old new faults faults_now line closed = closed
closes_said stops.PutFailed old new faults faults_now line closed = inl closed
closes_said stops.SinkFailed old new faults faults_now line closed = closed
closes_said stops.Memory old new faults faults_now line closed = closed

-- a stop comes out as itself
pub comes_itself : (why : Stop) → ComesAs why why
comes_itself (stops.Blocked cause) = inl refl
comes_itself stops.ReadFailed = inl refl
comes_itself stops.PutFailed = refl
comes_itself stops.SinkFailed = refl
comes_itself stops.Memory = refl

-- what was to be put or printed failed only where that is how the stop comes out
pub put_as : (why out : Stop) → ComesAs why out → out ≡ stops.PutFailed → why ≡ stops.PutFailed
put_as (stops.Blocked cause) out comes is = absurd (elim comes [
  | inl same ↦ (let a = same in let b = is in cc)
  | inr memory ↦ (let a = memory in let b = is in cc)
])
put_as stops.ReadFailed out comes is = absurd (elim comes [
  | inl same ↦ (let a = same in let b = is in cc)
  | inr memory ↦ (let a = memory in let b = is in cc)
])
put_as stops.PutFailed out comes is = refl
put_as stops.SinkFailed out comes is = cc
put_as stops.Memory out comes is = cc

pub sink_as : (why out : Stop) → ComesAs why out → out ≡ stops.SinkFailed → why ≡ stops.SinkFailed
sink_as (stops.Blocked cause) out comes is = absurd (elim comes [
  | inl same ↦ (let a = same in let b = is in cc)
  | inr memory ↦ (let a = memory in let b = is in cc)
])
sink_as stops.ReadFailed out comes is = absurd (elim comes [
  | inl same ↦ (let a = same in let b = is in cc)
  | inr memory ↦ (let a = memory in let b = is in cc)
])
sink_as stops.PutFailed out comes is = cc
sink_as stops.SinkFailed out comes is = refl
sink_as stops.Memory out comes is = cc

-- a stop before anything was done, as it comes out
pub hindered_as : (why out : Stop) → ComesAs why out → (stands : Cause → Type 0)
    → IsHindered why stands → IsHindered out stands
hindered_as (stops.Blocked cause) out comes stands stop = elim comes [
  | inl same ↦ subst (λ w. IsHindered w stands) (sym same) stop
  | inr memory ↦ subst (λ w. IsHindered w stands) (sym memory) tt
]
hindered_as stops.ReadFailed out comes stands stop = elim comes [
  | inl same ↦ subst (λ w. IsHindered w stands) (sym same) stop
  | inr memory ↦ subst (λ w. IsHindered w stands) (sym memory) tt
]
hindered_as stops.PutFailed out comes stands stop = absurd stop
hindered_as stops.SinkFailed out comes stands stop = absurd stop
hindered_as stops.Memory out comes stands stop =
    subst (λ w. IsHindered w stands) (sym comes) stop

-- a move that was not made, as its stop comes out
pub fails_as : (why out : Stop) → ComesAs why out → (move : Move) (world : World) (text : List ℕ)
    (old new : Seen) → Fails why move world text old new → Fails out move world text old new
fails_as (stops.Blocked cause) out comes move world text old new fails = elim comes [
  | inl same ↦ subst (λ w. Fails w move world text old new) (sym same) fails
  | inr memory ↦ subst (λ w. Fails w move world text old new) (sym memory) (record {
    files = inl (elim fails.files [ inl stop ↦ stop.files | inr many ↦ many.files ]);
    printed = fails.printed;
  })
]
fails_as stops.ReadFailed out comes move world text old new fails = elim comes [
  | inl same ↦ subst (λ w. Fails w move world text old new) (sym same) fails
  | inr memory ↦ subst (λ w. Fails w move world text old new) (sym memory) (record {
    files = inl fails.files.files;
    printed = fails.printed;
  })
]
fails_as stops.PutFailed out comes move world text old new fails =
    subst (λ w. Fails w move world text old new) (sym comes) fails
fails_as stops.SinkFailed out comes move world text old new fails =
    subst (λ w. Fails w move world text old new) (sym comes) fails
fails_as stops.Memory out comes move world text old new fails =
    subst (λ w. Fails w move world text old new) (sym comes) fails

-- what is left by a move that stopped, from what it printed and the line behind it
pub leaves : (why : Stop) (move : Move) (world : World) (old new : Seen) (mid : Option (List ℕ))
    (faults_mid : ℕ) (line : List ℕ) → line ≡ stop_line why (line_of move) (effect move world).name
    → Tail why world.text (effect move world).text old.written mid
    → ClosesAt why mid new.written faults_mid new.print_faults line
    → old.print_faults ≤ faults_mid
    → Leaves why move world old new
leaves (stops.Blocked cause) move world old new mid faults line is tail closed rises =
    subst (EndsWith old new world.text) is (closes-after old.written mid new.written
    old.print_faults faults new.print_faults world.text line tail closed rises)
leaves stops.ReadFailed move world old new mid faults line is tail closed rises =
    subst (EndsWith old new world.text) is (closes-after old.written mid new.written
    old.print_faults faults new.print_faults world.text line tail closed rises)
leaves stops.PutFailed move world old new mid faults line is tail closed rises =
    elim closed [
      | inl said ↦ inl (subst (EndsWith old new world.text) is (closes-after old.written mid
          new.written old.print_faults faults new.print_faults world.text line tail said rises))
      | inr same ↦ inr (λ before was. same ∙ tail before was)
    ]
leaves stops.SinkFailed move world old new mid faults line is tail closed rises = λ before was.
    let empty = is ∙ (no-line (line_of move) (effect move world).name).0 in
    let still = prints-nothing mid new.written faults new.print_faults []
    (subst (Closes mid new.written faults new.print_faults []) empty closed) in
    let part = tail before was in
    (part.0, still _ part.1 ∙ ap Some (append-nil _))
leaves stops.Memory move world old new mid faults line is tail closed rises = λ before was.
    let empty = is ∙ (no-line (line_of move) (effect move world).name).1 in
    let still = prints-nothing mid new.written faults new.print_faults []
    (subst (Closes mid new.written faults new.print_faults []) empty closed) in
    still _ (tail before was) ∙ ap Some (append-nil _)
