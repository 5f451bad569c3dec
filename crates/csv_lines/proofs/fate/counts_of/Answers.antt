-- One more range is counted; at the start none is.
use Rattle.std.proofs.Common.{◌≡◌, ◌∙◌, ◌<◌, ℕ, List, ap, arith, get_or, length, map, subst, sym}
use Rattle.std.proofs.lemmas.List.{get_or-map, length-map}
use Rattle.csv_lines.proofs.CountLemmas.{AreCounted, alone_counted, counted_more}
use Rattle.csv_lines.proofs.fate.counts_of.Goals as goal

pub loop-row-preserved : goal.loop-row-preserved
loop-row-preserved g c =
    let range = g.T.Accepted.range in
    let rows : List g.row.T.Denot = c.args.rows.now in
    let i = c.loop-row.row-index in
    let within : i < length rows = omega arith in
    let long = length-map rows range in
    let at : c.range.result ≡ get_or (map range rows) i c.range.result =
    c.range.ensures ∙ ap range c.row-item.is
    ∙ sym (get_or-map range rows i c.row-item.result c.range.result within) in
    rw c.count_in.ensures
    (counted_more (map range rows) i c.loop-row.counts.items c.range.result (omega arith) at
    c.loop-row.invariant)

pub returns-clause-alone : goal.returns-clause-alone
returns-clause-alone g c k one =
    let range = g.T.Accepted.range in
    let rows : List g.row.T.Denot = c.args.rows.now in
    let long = length-map rows range in
    let all : c.loop-row.row-index ≡ length (map range rows) = omega arith in
    alone_counted (map range rows) c.loop-row.counts.items
    (subst (λ (n : ℕ). AreCounted (map range rows) n c.loop-row.counts.items) all
    c.loop-row.invariant) k one
