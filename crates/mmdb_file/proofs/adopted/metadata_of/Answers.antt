use Rattle.std.proofs.Common.{sym}
use Rattle.mmdb_data.specs.View.{members_view}
use Rattle.mmdb_file.proofs.AdoptLemmas.{told_is}
use Rattle.mmdb_file.proofs.adopted.metadata_of.Goals as goal

pub returns : goal.returns
returns c =
    sym (told_is (members_view c.args.members.now) c.in_ok-nodes.nodes
    c.in_ok-size.size c.in_ok-major.major c.in_ok-ip_version.ip_version c.in_ok-count_of.field-0
    c.in_ok-bits_of_size.field-0
    (sym c.in_ok-nodes.ensures) (sym c.in_ok-size.ensures) (sym c.in_ok-major.ensures) (sym
    c.in_ok-ip_version.ensures) (sym c.in_ok-count_of.ensures) (sym c.in_ok-bits_of_size.ensures))
