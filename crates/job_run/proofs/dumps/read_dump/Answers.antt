use Rattle.std.proofs.Common.{◌≤◌, ◌∙◌, arith, rules, length, refl, take}
use Rattle.std.proofs.lemmas.Grind.{common_steps}
use Rattle.std.proofs.lemmas.List.{length-take-le}
use Rattle.std.proofs.lemmas.Result.{err_from_is_err_and}
use Rattle.job_run.proofs.DumpLemmas.{more_read, no_further, none_further, not_long}
use Rattle.job_run.proofs.DumpLemmas.{piece_refused, whole_found, whole_refused}
use Rattle.job_run.proofs.dumps.read_dump.Goals as goal

pub returns-then-n-eq0-clause-found : goal.returns-then-n-eq0-clause-found
returns-then-n-eq0-clause-found g c = λ w told.
    let now = c.loop-fed.invariant.same ∙ told in
    whole_found c.args.slot.now (g.F.Folder.told c.args.folder.now) c.args.name.now
    c.loop-fed.reader c.loop-fed.fed c.in_ok-n.n c.read_piece.new.piece c.whole_dump.result
    c.loop-fed.invariant.read c.if-n-eq0.true w told (c.in_ok-n.ensures.held w now)
    (λ file is. c.in_ok-n.ensures.bytes w file now is) c.whole_dump.ensures.found

pub returns-then-n-eq0-clause-unread : goal.returns-then-n-eq0-clause-unread
returns-then-n-eq0-clause-unread g c = λ w told.
    let now = c.loop-fed.invariant.same ∙ told in
    whole_refused c.args.slot.now
    (g.F.Folder.told c.args.folder.now) c.args.name.now c.loop-fed.reader c.loop-fed.fed
    c.in_ok-n.n c.read_piece.new.piece c.whole_dump.result
    c.loop-fed.invariant.read c.if-n-eq0.true w told (c.in_ok-n.ensures.held w now)
    (λ file is. c.in_ok-n.ensures.bytes w file now is) c.whole_dump.ensures.refused

pub returns-in_err-feed_piece-clause-unread : goal.returns-in_err-feed_piece-clause-unread
returns-in_err-feed_piece-clause-unread g c = λ w told.
    let now = c.loop-fed.invariant.same ∙ told in
    let p = err_from_is_err_and c.from_residual-in_err-feed_piece.result
    c.from_residual-in_err-feed_piece.ensures.1 in
    let room : c.in_ok-n.n ≤ length c.read_piece.new.piece =
    omega (arith, c.in_ok-n.ensures.room) in
    rw (p.1, p.2)
    (piece_refused c.args.slot.now
    (g.F.Folder.told c.args.folder.now) c.args.name.now c.loop-fed.reader c.loop-fed.fed
    c.in_ok-n.n c.read_piece.new.piece
    (take c.in_ok-n.n c.read_piece.new.piece) c.in_err-feed_piece.field-0.0
    c.loop-fed.invariant.read room refl w told (c.in_ok-n.ensures.held w now)
    (λ file is. c.in_ok-n.ensures.bytes w file now is) c.in_err-feed_piece.ensures.refused)

pub returns-in_err-buffer-clause-no_further : goal.returns-in_err-buffer-clause-no_further
returns-in_err-buffer-clause-no_further g c = λ w file told is.
    none_further c.args.slot.now file _ _ (omega arith)

pub returns-in_err-reader-clause-no_further : goal.returns-in_err-reader-clause-no_further
returns-in_err-reader-clause-no_further g c = λ w file told is.
    none_further c.args.slot.now file _ _ (omega arith)

pub returns-in_err-n-clause-no_further : goal.returns-in_err-n-clause-no_further
returns-in_err-n-clause-no_further g c = λ w file told is.
    let before = c.loop-fed.invariant.given in
    let none = c.in_err-n.ensures.none_given in
    no_further c.args.slot.now (g.F.Folder.told c.args.folder.now) c.args.name.now
    c.loop-fed.reader c.loop-fed.fed c.loop-fed.invariant.read _ _ (omega (arith, before, none))
    w file told is

pub returns-then-n-eq0-clause-no_further : goal.returns-then-n-eq0-clause-no_further
returns-then-n-eq0-clause-no_further g c = λ w file told is.
    let before = c.loop-fed.invariant.given in
    let more = c.in_ok-n.ensures.given in
    let zero_is = c.if-n-eq0.true in
    no_further c.args.slot.now (g.F.Folder.told c.args.folder.now) c.args.name.now
    c.loop-fed.reader c.loop-fed.fed c.loop-fed.invariant.read _ _
    (omega (arith, before, more, zero_is)) w file told is

pub returns-in_err-feed_piece-clause-no_further : goal.returns-in_err-feed_piece-clause-no_further
returns-in_err-feed_piece-clause-no_further g c = λ w file told is.
    let before = c.loop-fed.invariant.given in
    let more = c.in_ok-n.ensures.given in
    let room = c.in_ok-n.ensures.room in
    let piece = c.loop-fed.invariant.room in
    no_further c.args.slot.now (g.F.Folder.told c.args.folder.now) c.args.name.now
    c.loop-fed.reader c.loop-fed.fed c.loop-fed.invariant.read _ _
    (omega (arith, before, more, room, piece)) w file told is

pub loop-fed-preserved : goal.loop-fed-preserved
loop-fed-preserved g c =
    let room : c.in_ok-n.n ≤ length c.read_piece.new.piece =
    omega (arith, c.in_ok-n.ensures.room) in
    record {
      room = search rules;
      same = search rules;
      read_faults = search rules;
      put_faults = search rules;
      misses = search rules;
      given = grind (arith, common_steps);
      few = grind (arith, common_steps);
      read =
          more_read c.args.slot.now (g.F.Folder.told c.args.folder.now) c.args.name.now
          c.loop-fed.reader c.feed_piece.new.reader c.loop-fed.fed c.in_ok-n.n
          c.read_piece.new.piece (take c.in_ok-n.n c.read_piece.new.piece)
          c.loop-fed.invariant.read room refl
          (length-take-le c.in_ok-n.n c.read_piece.new.piece room)
          (λ w told. c.in_ok-n.ensures.held w (c.loop-fed.invariant.same ∙ told))
          (λ w told file is. c.in_ok-n.ensures.bytes w file (c.loop-fed.invariant.same ∙ told) is)
          c.in_ok-feed_piece.ensures.read;
    }

pub unreachable-requires : goal.unreachable-requires
unreachable-requires g c =
    not_long c.args.slot.now (g.F.Folder.told c.args.folder.now) c.args.name.now c.loop-fed.reader
    c.loop-fed.fed c.loop-fed.invariant.read (omega (arith, c.loop-fed-test.false))
