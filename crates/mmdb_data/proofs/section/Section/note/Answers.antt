use Rattle.mmdb_data.proofs.Appending.{noted_is}
use Rattle.mmdb_data.proofs.section.Section.note.Goals as goal

pub returns-clause-noted : goal.returns-clause-noted
returns-clause-noted c =
    noted_is _ c.args.self.now.full _ c.args.spelled.now c.args.at c.requires.new
    c.in_ok-push.ensures.pushed
