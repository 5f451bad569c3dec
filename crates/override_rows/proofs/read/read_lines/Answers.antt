-- The reader stands before the first line, and each line takes what it handed over.
use Rattle.std.proofs.Common.{◌∷◌, ◌++◌, ◌∙◌, Bor, List, ℕ, Some, ap, sym, subst, filter_map, arith}
use Rattle.csv_lines.specs.Rests.{StandsIf, all_handed}
use Rattle.csv_lines.proofs.OrderLemmas.{one_more}
use Rattle.override_rows.specs.File.{fault_of, row_of_line}
use Rattle.override_rows.proofs.read.read_lines.Goals as goal

pub loop-line-init : goal.loop-line-init
loop-line-init c =
    let start = c.into_iter-line-iterator.ensures.into_iter_gives ∙ c.of-line-items.ensures in
    record {
      can_next = tt;
      is_finite = tt;
      rows = rw c.new.ensures.items (ap (filter_map row_of_line) start);
      faults = rw c.new-2.ensures.items (ap (filter_map fault_of) start);
      few = rw c.new.ensures.items (omega arith);
      stands =
          c.reader_of-reader.ensures _ (c.as_slice.ensures.value ∙ c.in_ok-handed.ensures
          ∙ ap (λ lines. 10 ∷ all_handed lines) (sym start));
    }

pub loop-line-preserved : goal.loop-line-preserved
loop-line-preserved c =
    let inv = c.loop-line.invariant in
    let taken = c.in_ok-take_line.ensures in
    let step = c.in-Some.ensures.steps in
    record {
      can_next = tt;
      is_finite = tt;
      rows =
          ap (λ t. t ++ filter_map row_of_line c.next.new.self) taken.rows
          ∙ one_more c.loop-line.found.rows.items (row_of_line (
            c.in-Some.line.number,
            c.in-Some.line.text.now,
          )) (filter_map row_of_line c.next.new.self)
          ∙ ap (λ lines. c.loop-line.found.rows.items ++ filter_map row_of_line lines) (sym step)
          ∙ inv.rows;
      faults =
          ap (λ t. t ++ filter_map fault_of c.next.new.self) taken.faults
          ∙ one_more c.loop-line.found.faults.items (fault_of (
            c.in-Some.line.number,
            c.in-Some.line.text.now,
          )) (filter_map fault_of c.next.new.self)
          ∙ ap (λ lines. c.loop-line.found.faults.items ++ filter_map fault_of lines) (sym step)
          ∙ inv.faults;
      few = taken.within;
      stands =
          taken.stands (all_handed c.next.new.self)
          (subst (λ (lines : List (ℕ × List ℕ)). StandsIf (λ (s : Bor (List ℕ)). Some s.now)
          c.loop-line.reader (all_handed lines)) step inv.stands);
    }
