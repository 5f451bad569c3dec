use Rattle.update_session.proofs.AliasLemmas.{leaf_of_home}
use Rattle.update_session.proofs.alias.with_aliases.Goals as goal

pub returns-clause-homes : goal.returns-clause-homes
returns-clause-homes g c = λ a below.
    leaf_of_home c.args.store.now c.graft.new.store c.graft-2.new.store c.args.root
    c.in_ok-mapped.mapped c.in_ok-both.both c.sub-v4.result a
    c.sub-v4.ensures.of c.in_ok-mapped.ensures.kept c.sub-v4.ensures.low c.sub-v4.ensures.lookups
    c.in_ok-mapped.ensures.inside c.in_ok-mapped.ensures.elsewhere c.in_ok-both.ensures.inside
    c.in_ok-both.ensures.elsewhere below
