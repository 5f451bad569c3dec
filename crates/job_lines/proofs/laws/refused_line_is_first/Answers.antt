use Rattle.job_lines.proofs.OrderLemmas.{first_is_refused, refused_is_first}
use Rattle.job_lines.proofs.laws.refused_line_is_first.Goals as goal

pub returns : goal.returns
returns c =
    λ bytes number. (refused_is_first bytes number, λ h. first_is_refused bytes number h.0 h.1 h.2)
