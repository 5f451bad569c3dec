use Rattle.least_nodes.proofs.seen.Seen.note_node.Goals as goal

pub returns-clause-noted : goal.returns-clause-noted
returns-clause-noted c = assumption
