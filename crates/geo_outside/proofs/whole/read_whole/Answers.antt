use Rattle.std.proofs.Common.{◌≡◌, ◌≤◌, ◌++◌, ◌∙◌, arith, rules, length, take}
use Rattle.std.proofs.lemmas.Grind.{common_steps}
use Rattle.geo_outside.proofs.Reading.{first_more, first_all}
use Rattle.geo_outside.proofs.whole.read_whole.Goals as goal

pub returns-then-n-eq0-clause-bytes : goal.returns-then-n-eq0-clause-bytes
returns-then-n-eq0-clause-bytes g c w told =
    let now = c.loop-piece.invariant.same ∙ told in
    let offset : c.len-in-loop-piece.result ≡ length c.loop-piece.bytes.items = omega arith in
    first_all _ _ c.read_at.new.into _ c.in-Ok.n offset c.if-n-eq0.true (c.in-Ok.ensures.held w now)
    (λ file is. c.in-Ok.ensures.bytes w file now is) (c.loop-piece.invariant.first w told)

pub loop-piece-preserved : goal.loop-piece-preserved
loop-piece-preserved g c =
    record {
      room = search rules;
      same = search rules;
      read_faults = search rules;
      put_faults = search rules;
      misses = search rules;
      given = grind (arith, common_steps);
      few = grind (arith, common_steps);
      first = λ w told.
          let now = c.loop-piece.invariant.same ∙ told in
          let offset : c.len-in-loop-piece.result ≡ length c.loop-piece.bytes.items = omega arith in
          let more : c.extend_from_slice.new.self.items
          ≡ c.loop-piece.bytes.items ++ take c.in-Ok.n c.read_at.new.into =
          grind (arith, common_steps) in
          let room : c.in-Ok.n ≤ length c.read_at.new.into = omega (arith, c.in-Ok.ensures.room) in
          first_more _ _ c.read_at.new.into _ _ c.in-Ok.n offset room
          (c.in-Ok.ensures.held w now) (λ file is. c.in-Ok.ensures.bytes w file now is) more
          (c.loop-piece.invariant.first w told);
    }

pub returns-in-Err-Failed-clause-absent : goal.returns-in-Err-Failed-clause-absent
returns-in-Err-Failed-clause-absent g c = search rules steps 1000000

pub returns-in-Err-Failed-clause-missing : goal.returns-in-Err-Failed-clause-missing
returns-in-Err-Failed-clause-missing g c = grind (arith, common_steps) steps 1000000
