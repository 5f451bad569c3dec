-- A text that was looked at byte by byte is that word.
use Rattle.std.proofs.Common.{arith, ap, sym}
use Rattle.std.proofs.lemmas.Slice.Eq.{text_from_reads}
use Rattle.std.specs.Prelude.{codes}
use Rattle.nro_stats.specs.Words.{holding_in}
use Rattle.nro_stats.proofs.resource.holding_of.Goals as goal

pub returns-in-available : goal.returns-in-available
unfolding holding_in
returns-in-available c =
    sym (ap holding_in (text_from_reads c.args.status.now (codes "reserved") (omega arith) (
      omega arith,
      (
        omega arith,
        (
          omega arith,
          (
            omega arith,
            (
              omega arith,
              (
                omega arith,
                (omega arith, (omega arith, tt)),
              ),
            ),
          ),
        ),
      ),
    )))

pub returns-in-available-2 : goal.returns-in-available-2
unfolding holding_in
returns-in-available-2 c =
    sym (ap holding_in (text_from_reads c.args.status.now (codes "available") (omega arith) (
      omega arith,
      (
        omega arith,
        (
          omega arith,
          (
            omega arith,
            (
              omega arith,
              (
                omega arith,
                (omega arith, (omega arith, (omega arith, tt))),
              ),
            ),
          ),
        ),
      ),
    )))

pub returns-in-allocated : goal.returns-in-allocated
unfolding holding_in
returns-in-allocated c =
    sym (ap holding_in (text_from_reads c.args.status.now (codes "assigned") (omega arith) (
      omega arith,
      (
        omega arith,
        (
          omega arith,
          (
            omega arith,
            (
              omega arith,
              (
                omega arith,
                (omega arith, (omega arith, tt)),
              ),
            ),
          ),
        ),
      ),
    )))

pub returns-in-allocated-2 : goal.returns-in-allocated-2
unfolding holding_in
returns-in-allocated-2 c =
    sym (ap holding_in (text_from_reads c.args.status.now (codes "allocated") (omega arith) (
      omega arith,
      (
        omega arith,
        (
          omega arith,
          (
            omega arith,
            (
              omega arith,
              (
                omega arith,
                (omega arith, (omega arith, (omega arith, tt))),
              ),
            ),
          ),
        ),
      ),
    )))
