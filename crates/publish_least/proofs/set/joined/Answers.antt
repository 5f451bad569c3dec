use Rattle.std.proofs.Common.{◌≡◌, ◌<◌, length, rules}
use Rattle.std.proofs.lemmas.Result.{IfOk-weaker}
use Rattle.trie_core.proofs.BlockLemmas.{IfOk-both}
use Rattle.publish_least.proofs.SetLemmas.{IsJoined-from_both, IsJoined-from_either}
use Rattle.publish_least.proofs.set.joined.Goals as goal

pub returns-then-is_empty : goal.returns-then-is_empty
returns-then-is_empty c =
    let none : length c.in_ok-both.both.items ≡ 0 = search rules in
    IfOk-weaker c.either.result _ _ (λ set facts. IsJoined-from_either c.args.xs.now c.args.ys.now
    c.in_ok-both.both.items set.items c.in_ok-both.ensures.says none facts.0 facts.1)
    (IfOk-both c.either.result _ _ c.either.ensures.rises c.either.ensures.says)

pub returns-else-is_empty : goal.returns-else-is_empty
returns-else-is_empty c =
    let some : 0 < length c.in_ok-both.both.items = search rules in
    IsJoined-from_both c.args.xs.now c.args.ys.now c.in_ok-both.both.items
    c.in_ok-both.ensures.rises c.in_ok-both.ensures.says some
