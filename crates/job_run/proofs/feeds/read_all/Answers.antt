use Rattle.std.proofs.Common.{◌≡◌, ◌∙◌, ◌∷◌, ◌++◌, [], ap, arith, length, refl}
use Rattle.std.proofs.Common.{rules}
use Rattle.std.proofs.lemmas.List.{length_push}
use Rattle.std.proofs.lemmas.Option.{slice_get_read}
use Rattle.job_run.proofs.FeedLemmas.{read_before, reads_pushed}
use Rattle.job_run.proofs.MoveLemmas.{rooms-after}
use Rattle.job_run.proofs.feeds.read_all.Goals as goal

pub returns-in-Err-push-clause-halted : goal.returns-in-Err-push-clause-halted
returns-in-Err-push-clause-halted g c w told = record {
  step = c.index-group-at.result;
  named = slice_get_read c.args.group.now _ c.loop-at.at c.index-group-at.result refl
      c.loop-at-test.true c.index-group-at.is;
  before = read_before w c.args.group.now c.loop-at.at c.loop-at.all.items
      (c.loop-at.invariant.read w told);
  hindered = tt;
}

pub returns-in-Err-clause-halted : goal.returns-in-Err-clause-halted
returns-in-Err-clause-halted g c w told = record {
  step = c.index-group-at.result;
  named = slice_get_read c.args.group.now _ c.loop-at.at c.index-group-at.result refl
      c.loop-at-test.true c.index-group-at.is;
  before = read_before w c.args.group.now c.loop-at.at c.loop-at.all.items
      (c.loop-at.invariant.read w told);
  hindered = c.in-Err.ensures.unread w (search rules);
}

pub loop-at-preserved : goal.loop-at-preserved
loop-at-preserved g c =
    let named = slice_get_read c.args.group.now _ c.loop-at.at c.index-group-at.result refl
    c.loop-at-test.true c.index-group-at.is in
    let rooms = rooms-after c.args.group.now c.loop-at.at c.index-group-at.result named in
    let pushed : c.push.new.self.items ≡ c.loop-at.all.items ++ (c.in-Ok.held ∷ []) =
    search rules in
    let longer = ap length pushed ∙ length_push c.loop-at.all.items c.in-Ok.held in
    let long = c.loop-at.invariant.long in
    record {
      read = λ w told.
          reads_pushed w c.args.group.now c.loop-at.all.items c.push.new.self.items
          c.loop-at.at c.index-group-at.result c.in-Ok.held
          c.loop-at-test.true c.index-group-at.is (c.loop-at.invariant.read w told)
          (c.in-Ok.ensures.read w (search rules)) pushed;
      long = omega (arith, longer, long);
      same = search rules;
      read_faults = omega arith;
      put_faults = omega arith;
      misses = omega arith;
      given = omega (arith, rooms);
    }
