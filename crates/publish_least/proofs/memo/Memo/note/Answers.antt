use Rattle.std.proofs.Common.{ap, refl, option_map}
use Rattle.publish_least.proofs.MemoLemmas.{IsNoted-from_updates}
use Rattle.publish_least.proofs.memo.Memo.note.Goals as goal

pub returns : goal.returns
returns c =
    IsNoted-from_updates _ _ c.args.id c.args.set.items refl
    (ap (option_map (λ v. v.items)) c.in_ok-insert.ensures.updates.1)
    (λ other differs. ap (option_map (λ v. v.items))
    (c.in_ok-insert.ensures.updates.2 other differs))
