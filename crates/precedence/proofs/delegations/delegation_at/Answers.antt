use Rattle.std.proofs.Common.{◌≡◌, ◌∙◌, ℕ, suc, List, ap, arith}
use Rattle.std.proofs.Common.{map, slice_get, subst, sym}
use Rattle.std.specs.Arc.{arc_value}
use Rattle.std.specs.List.Sorted.{IsNonDecreasing}
use Rattle.std.specs.Option.{option_copied}
use Rattle.geo_terms.specs.SourceForm.{StatsParts}
use Rattle.precedence.specs.Delegations.{starts_from}
use Rattle.precedence.proofs.RowLemmas.{HaveBegun, all_rows, none_found, row_found, starts_rise}
use Rattle.precedence.proofs.delegations.delegation_at.Goals as goal

pub begun-requires : goal.begun-requires
begun-requires c =
    subst IsNonDecreasing (sym c.requires) (starts_rise (map arc_value c.args.files.now) 0)

pub returns-in_err-at : goal.returns-in_err-at
returns-in_err-at c =
    let files : List StatsParts = map arc_value c.args.files.now in
    let none : c.begun.result ≡ 0 = omega (arith, c.in_err-at.ensures) in
    let have : HaveBegun c.args.index (starts_from 0 files) 0 =
    subst (λ (ns : List ℕ). HaveBegun c.args.index ns 0) c.requires
    (subst (HaveBegun c.args.index c.args.starts.now) none c.begun.ensures.point) in
    ap option_copied c.from_residual.ensures
    ∙ ap (λ (ts : List StatsParts). slice_get (all_rows ts) c.args.index)
    (sym (none_found files c.args.index have))

pub overflow_sub-index : goal.overflow_sub-index
overflow_sub-index c =
    let last : c.begun.result ≡ suc c.in_ok-at.at = omega (arith, c.in_ok-at.ensures) in
    c.begun.ensures.point.0 c.in_ok-at.at 0 (omega arith) (omega arith)

pub returns : goal.returns
returns c =
    let last : c.begun.result ≡ suc c.in_ok-at.at = omega (arith, c.in_ok-at.ensures) in
    c.row_at.ensures
    ∙ row_found (map arc_value c.args.files.now) c.args.starts.now c.begun.result c.in_ok-at.at
    c.args.index c.requires last c.begun.ensures.bound c.begun.ensures.point
