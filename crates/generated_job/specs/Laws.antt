-- What holds of each generated job.
use Rattle.std.specs.Prelude.{◌≡◌, ℕ, ◌≤◌, false}
use Rattle.update_session.specs.Standing.{MaySpendAll, Standing}
use Rattle.update_session.specs.State.{is_too_large}
use Rattle.generated_job.specs.Job.{first_set, second_set}

-- an emit here is not too large, and there are numbers for all nodes and places that it makes
pub record IsEmittable (w : Standing) : Type 0 where
  pub fits : is_too_large w.state ≡ false
  pub numbered : ¬ MaySpendAll w

-- so it is at both emits of the job
abbrev pub EmitsFreely : Type 0
EmitsFreely =
    (lines : ℕ) → lines ≤ 1000000
    → IsEmittable (first_set lines) × IsEmittable (second_set lines)
