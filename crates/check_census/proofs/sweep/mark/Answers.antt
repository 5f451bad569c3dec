-- By what a halving of the lines found.
use Rattle.std.proofs.Common.{ap, sym, ◌∙◌, arith}
use Rattle.check_census.specs.Sweep.{marked}
use Rattle.check_census.proofs.SweepLemmas.{found_by, marked_none, marked_by, unmarked_by}
use Rattle.check_census.proofs.JudgingLemmas.{read_at}
use Rattle.check_census.proofs.sweep.mark.Goals as goal

pub returns-in_default : goal.returns-in_default
returns-in_default c =
    sym (ap (λ h. marked h c.args.at c.args.lines.now c.args.firsts.now.items) c.in_default.is
    ∙ marked_none c.args.at c.args.lines.now c.args.firsts.now.items c.requires.long)

pub returns-in_default-binary_search : goal.returns-in_default-binary_search
returns-in_default-binary_search c =
    unmarked_by c.args.heard c.in-Some.line c.args.at c.in_default-binary_search.field-0
    c.args.lines.now c.args.firsts.now.items c.requires.lines c.requires.long c.in-Some.is
    c.in_default-binary_search.ensures.position

pub returns : goal.returns
returns c =
    let index = found_by c.args.lines.now c.requires.lines c.in-Some.line c.in-Ok.index
    c.in-Ok.ensures.position in
    let long = c.requires.long in
    let within = index.0 in
    marked_by c.args.heard c.in-Some.line c.args.at c.in-Ok.index c.args.lines.now
    c.args.firsts.now.items c.index.result.now c.earlier.result c.requires.lines c.requires.long
    c.in-Some.is c.in-Ok.ensures.position
    (read_at c.args.firsts.now.items c.in-Ok.index c.index.result.now (omega arith) c.index.ensures)
    c.earlier.ensures
