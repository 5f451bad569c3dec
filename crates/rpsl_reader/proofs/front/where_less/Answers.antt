use Rattle.std.proofs.Common.{◌≡◌, length, sym, subst, ltb, cond, get_or, w8}
use Rattle.std.proofs.lemmas.Simd.{tops_compared}
use Rattle.std.specs.Simd.Lanes.{sel_l}
use Rattle.rpsl_reader.proofs.Lanes.{chosen, chosen_long}
use Rattle.rpsl_reader.proofs.front.where_less.Goals as goal

pub returns-clause-long : goal.returns-clause-long
returns-clause-long c =
    subst (λ ms. length (sel_l ms c.args.chosen c.args.others) ≡ 16)
    (sym (tops_compared w8 ltb c.args.bytes c.args.than))
    (chosen_long c.args.bytes c.args.than c.args.chosen c.args.others 16 c.fits-bytes.0
    c.fits-than.0 c.fits-chosen.0 c.fits-others.0)

pub returns-clause-lanes : goal.returns-clause-lanes
returns-clause-lanes c k l =
    subst (λ ms. get_or (sel_l ms c.args.chosen c.args.others) k 0
    ≡ cond (ltb (get_or c.args.bytes k 0) (get_or c.args.than k 0)) (get_or c.args.chosen k 0)
    (get_or c.args.others k 0)) (sym (tops_compared w8 ltb c.args.bytes c.args.than))
    (chosen c.args.bytes c.args.than c.args.chosen c.args.others 16 k c.fits-bytes.0
    c.fits-than.0 c.fits-chosen.0 c.fits-others.0 l)
