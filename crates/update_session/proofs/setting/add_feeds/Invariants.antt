use Rattle.update_session.specs.Together.{HaveCome}
use Rattle.update_session.proofs.setting.add_feeds.Given as goal

-- the grounds of the feeds so far have come
abbrev pub invariant-loop-ready : goal.invariant-loop-ready
invariant-loop-ready l = HaveCome l.sources l.yielded l.last.items l.fn.touched l.touched
