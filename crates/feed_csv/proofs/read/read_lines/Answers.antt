-- The reader stands before the first line, and each line takes what it handed over.
use Rattle.std.proofs.Common.{◌∷◌, ◌++◌, ◌∙◌, Bor, List, ℕ, Some, ap, sym, subst, filter_map, arith}
use Rattle.csv_lines.specs.Rests.{StandsIf, all_handed, handed}
use Rattle.csv_lines.proofs.OrderLemmas.{one_more}
use Rattle.line_parts.proofs.GatherLemmas.{of_text}
use Rattle.feed_csv.specs.File.{entry_of, fault_of}
use Rattle.feed_csv.proofs.read.read_lines.Goals as goal

pub loop-line-init : goal.loop-line-init
loop-line-init c =
    let start = c.into_iter-line-iterator.ensures.into_iter_gives ∙ c.lines-line-items.ensures in
    record {
      can_next = tt;
      is_finite = tt;
      entries = rw c.in_ok-gathered.ensures.entries (ap (filter_map entry_of) start);
      faults = rw c.in_ok-gathered.ensures.faults (ap (filter_map fault_of) start);
      few = rw c.in_ok-gathered.ensures.entries (omega arith);
      stands =
          c.reader_of-reader.ensures _ (c.as_slice.ensures.value ∙ c.in_ok-handed.ensures
          ∙ ap (λ t. 10 ∷ t) (sym (of_text handed c.args.part))
          ∙ ap (λ lines. 10 ∷ all_handed lines) (sym start));
    }

pub loop-line-preserved : goal.loop-line-preserved
loop-line-preserved c =
    let inv = c.loop-line.invariant in
    let taken = c.in_ok-take_line.ensures in
    let step = c.in-Some.ensures.steps in
    record {
      can_next = tt;
      is_finite = tt;
      entries =
          ap (λ t. t ++ filter_map entry_of c.next.new.self) taken.entries
          ∙ one_more c.loop-line.found.entries.items (entry_of (
            c.in-Some.line.number,
            c.in-Some.line.text.now,
          )) (filter_map entry_of c.next.new.self)
          ∙ ap (λ lines. c.loop-line.found.entries.items ++ filter_map entry_of lines) (sym step)
          ∙ inv.entries;
      faults =
          ap (λ t. t ++ filter_map fault_of c.next.new.self) taken.faults
          ∙ one_more c.loop-line.found.faults.items (fault_of (
            c.in-Some.line.number,
            c.in-Some.line.text.now,
          )) (filter_map fault_of c.next.new.self)
          ∙ ap (λ lines. c.loop-line.found.faults.items ++ filter_map fault_of lines) (sym step)
          ∙ inv.faults;
      few = taken.within;
      stands =
          taken.stands (all_handed c.next.new.self)
          (subst (λ (lines : List (ℕ × List ℕ)). StandsIf (λ (s : Bor (List ℕ)). Some s.now)
          c.loop-line.reader (all_handed lines)) step inv.stands);
    }
