use Rattle.trie_core.proofs.StoreLemmas.{IsKept-trans}
use Rattle.trie_core.proofs.RootLemmas.{same_in_both_orders}
use Rattle.test_file.proofs.tests.orders.painted_in_both_orders.Goals as goal

pub returns : goal.returns
returns g c =
    same_in_both_orders c.args.store.now c.paint.new.self c.paint-2.new.self c.paint-3.new.self
    c.paint-4.new.self c.in_ok-two_then_one.ensures.sound
    c.args.root c.in_ok-with_one.with_one c.in_ok-one_then_two.one_then_two
    c.in_ok-with_two.with_two c.in_ok-two_then_one.two_then_one
    c.args.one.range c.args.two.range c.args.one.leaf c.args.two.leaf c.requires.apart
    (IsKept-trans _ _ _ c.in_ok-with_one.ensures.kept c.in_ok-one_then_two.ensures.kept)
    (IsKept-trans _ _ _ c.in_ok-with_two.ensures.kept c.in_ok-two_then_one.ensures.kept)
    c.requires.of c.in_ok-one_then_two.ensures.of c.in_ok-two_then_one.ensures.of
    (record {
      inside = c.in_ok-with_one.ensures.on_range;
      outside = c.in_ok-with_one.ensures.elsewhere;
    })
    (record {
      inside = c.in_ok-one_then_two.ensures.on_range;
      outside = c.in_ok-one_then_two.ensures.elsewhere;
    })
    (record {
      inside = c.in_ok-with_two.ensures.on_range;
      outside = c.in_ok-with_two.ensures.elsewhere;
    })
    (record {
      inside = c.in_ok-two_then_one.ensures.on_range;
      outside = c.in_ok-two_then_one.ensures.elsewhere;
    })
