use Rattle.std.proofs.Common.{◌∙◌, ◌++◌, ◌∷◌, [], List, ap, sym}
use Rattle.std.proofs.lemmas.List.{append_assoc}
use Rattle.geo_addr.specs.Ranges.{Ends}
use Rattle.source_changes.proofs.PassingLemmas.{one_more}
use Rattle.source_changes.proofs.ground_list.GroundsLeft.pass_over.Goals as goal

pub loop-chunk-preserved : goal.loop-chunk-preserved
loop-chunk-preserved c =
    let passed = c.loop-chunk.invariant.0 in
    let one = c.pass_one.ensures.passed c.loop-chunk-test.true in
    let all =
    c.loop-chunk.invariant.1.0
    ∙ ap (λ (gs : List Ends). passed ++ gs) one.1.0
    ∙ sym (append_assoc passed (one.0 ∷ []) c.pass_one.new.self) in
    let lie =
    one_more c.args.chunk c.args.held c.within_v4-within.result passed one.0
    c.within_v4-within.ensures c.loop-chunk.invariant.1.1 one.1.1 in
    (passed ++ one.0 ∷ [], (all, lie))
