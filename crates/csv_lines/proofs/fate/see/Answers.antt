-- A line of a new range is its first.
use Rattle.std.proofs.Common.{sym, true, false, ap, ◌≡◌, ◌∙◌, cond, Some, rules}
use Rattle.std.specs.BTreeMap.{get}
use Rattle.csv_lines.specs.Doubled.{ends_cmp, Shown}
use Rattle.csv_lines.specs.Repeats.{same_said}
use Rattle.csv_lines.proofs.FateLemmas.{differs_now, ends_tie, found_row, new_row}
use Rattle.csv_lines.proofs.fate.see.Goals as goal

pub returns : goal.returns
returns g c =
    let range = c.range-range.ensures in
    let first : Shown =
    record { line = c.line.result; said = c.said-2.result.now; differs = false } in
    let said = c.said-2.ensures in
    let line = c.line.ensures in
    new_row g.T.Accepted.line g.T.Accepted.range g.T.Accepted.said (get ends_cmp c.args.seen.now)
    (get ends_cmp c.insert.new.self) c.args.row.now first
    (rw range at (sym c.in_default.ensures.value))
    (λ i. record { line = line i; said = said i; differs = false })
    (λ q. rw (range, c.get_mut.follows.holds-at-none) at (c.in-Ok.ensures.updates.0 q)
    ∙ ap (λ b. cond b (Some first) (get ends_cmp c.args.seen.now q))
    (ends_tie (g.T.Accepted.range c.args.row.now) q))

-- A line of a range that is there, and differs.
pub returns-then-not-says_same : goal.returns-then-not-says_same
returns-then-not-says_same g c =
    let range = c.range-range.ensures in
    let s : Shown = record {
      line = c.found.inside.line;
      said = c.found.inside.said.now;
      differs = c.found.inside.differs;
    } in
    let t : Shown = record { line = s.line; said = s.said; differs = true } in
    let found : get ends_cmp c.args.seen.now (g.T.Accepted.range c.args.row.now) ≡ Some s =
    search rules in
    let other : same_said (g.T.Accepted.said c.args.row.now) s.said ≡ false = search rules in
    found_row g.T.Accepted.line g.T.Accepted.range g.T.Accepted.said (get ends_cmp c.args.seen.now)
    (get ends_cmp (c.get_mut.follows.lender t)) c.args.row.now s t found
    (differs_now g.T.Accepted.line g.T.Accepted.range g.T.Accepted.said s c.args.row.now other)
    (λ q. rw range at (((c.get_mut.follows.holds t).3 (search rules)).0 q)
    ∙ ap (λ b. cond b (Some t) (get ends_cmp c.args.seen.now q))
    (ends_tie (g.T.Accepted.range c.args.row.now) q))
