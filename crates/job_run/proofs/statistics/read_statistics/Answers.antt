use Rattle.std.proofs.Common.{◌≤◌, ◌∙◌, arith, rules, length, refl, take}
use Rattle.std.proofs.lemmas.Grind.{common_steps}
use Rattle.std.proofs.lemmas.List.{length-take-le}
use Rattle.std.proofs.lemmas.Result.{err_from_is_err_and}
use Rattle.std.specs.FinMap as map
use Rattle.job_run.proofs.StatsLemmas.{more_fed, piece_long, stats_hindered, whole_held}
use Rattle.job_run.proofs.StatsLemmas.{whole_many}
use Rattle.job_run.proofs.statistics.read_statistics.Goals as goal

pub returns-then-n-eq0-clause-found : goal.returns-then-n-eq0-clause-found
returns-then-n-eq0-clause-found g c = λ w told.
    let now = c.loop-fed.invariant.same ∙ told in
    whole_held c.args.slot.now (g.F.Folder.told c.args.folder.now) c.args.name.now
    c.loop-fed.reader c.loop-fed.fed c.in_ok-n.n c.read_piece.new.piece c.whole_stats.result
    c.loop-fed.invariant.read c.if-n-eq0.true w told (c.in_ok-n.ensures.held w now)
    (λ file is. c.in_ok-n.ensures.bytes w file now is) c.whole_stats.ensures.found
    c.whole_stats.ensures.few

pub returns-then-n-eq0-clause-unread : goal.returns-then-n-eq0-clause-unread
returns-then-n-eq0-clause-unread g c = λ w told.
    let now = c.loop-fed.invariant.same ∙ told in
    whole_many c.args.slot.now (g.F.Folder.told c.args.folder.now) c.args.name.now
    c.loop-fed.reader c.loop-fed.fed c.in_ok-n.n c.read_piece.new.piece c.whole_stats.result
    c.loop-fed.invariant.read c.if-n-eq0.true w told (c.in_ok-n.ensures.held w now)
    (λ file is. c.in_ok-n.ensures.bytes w file now is) c.whole_stats.ensures.refused

pub returns-in_err-feed_piece-clause-unread : goal.returns-in_err-feed_piece-clause-unread
returns-in_err-feed_piece-clause-unread g c = λ w told.
    let now = c.loop-fed.invariant.same ∙ told in
    let p = err_from_is_err_and c.from_residual-in_err-feed_piece.result
    c.from_residual-in_err-feed_piece.ensures.1 in
    let room : c.in_ok-n.n ≤ length c.read_piece.new.piece =
    omega (arith, c.in_ok-n.ensures.room) in
    rw (p.1, p.2)
    (piece_long c.args.slot.now
    (g.F.Folder.told c.args.folder.now) c.args.name.now c.loop-fed.reader c.loop-fed.fed
    c.in_ok-n.n c.read_piece.new.piece
    (take c.in_ok-n.n c.read_piece.new.piece) c.loop-fed.invariant.read room refl
    c.in_err-feed_piece.field-0.0 w told (c.in_ok-n.ensures.held w now)
    (λ file is. c.in_ok-n.ensures.bytes w file now is) c.in_err-feed_piece.ensures.refused)

pub loop-fed-preserved : goal.loop-fed-preserved
loop-fed-preserved g c =
    let room : c.in_ok-n.n ≤ length c.read_piece.new.piece =
    omega (arith, c.in_ok-n.ensures.room) in
    let read =
    more_fed c.args.slot.now (g.F.Folder.told c.args.folder.now) c.args.name.now
    c.loop-fed.reader c.loop-fed.fed c.in_ok-n.n
    c.read_piece.new.piece (take c.in_ok-n.n c.read_piece.new.piece)
    c.loop-fed.invariant.read room refl c.feed_piece.new.reader
    (length-take-le c.in_ok-n.n c.read_piece.new.piece room)
    (λ w told. c.in_ok-n.ensures.held w (c.loop-fed.invariant.same ∙ told))
    (λ w told file is. c.in_ok-n.ensures.bytes w file (c.loop-fed.invariant.same ∙ told) is)
    c.in_ok-feed_piece.ensures.read in
    record {
      room = search rules;
      same = search rules;
      read_faults = search rules;
      put_faults = search rules;
      misses = search rules;
      given = grind (arith, common_steps);
      few = read.fits;
      read = read;
    }

pub unreachable-requires : goal.unreachable-requires
unreachable-requires g c =
    let few = c.loop-fed.invariant.few in
    absurd (omega (arith, few, c.loop-fed-test.false))

pub returns-in_err-n-clause-unread : goal.returns-in_err-n-clause-unread
returns-in_err-n-clause-unread g c = λ w told.
    let now = c.loop-fed.invariant.same ∙ told in
    let p = err_from_is_err_and c.from_residual-in_err-n.result
    c.from_residual-in_err-n.ensures.1 in
    rw (p.1, p.2)
    (stats_hindered c.args.slot.now (map.get w.held c.args.name.now) c.in_err-n.field-0.0
    c.in_err-n.ensures.causes (λ missing. c.in_err-n.ensures.absent w now (cc)))
