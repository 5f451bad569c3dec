use Rattle.authority.proofs.kind_index.KindIndex.of_numbered.Goals as goal

pub returns-clause-index : goal.returns-clause-index
returns-clause-index g c = record {
  firsts = c.in_ok-firsts.ensures.told;
  cuts = c.in_ok-firsts.ensures.cuts;
}
