use Rattle.std.proofs.Common.{length, sym, arith}
use Rattle.mmdb_data.specs.Member.{member_list}
use Rattle.mmdb_data.proofs.Written.{map_written}
use Rattle.mmdb_data.proofs.Nested.{len-member_list}
use Rattle.mmdb_data.proofs.packing_members.spell_map.Goals as goal

pub put_head-requires : goal.put_head-requires
put_head-requires c = omega (arith, c.requires.0, len-member_list c.args.members.now)

pub returns : goal.returns
returns c =
    map_written c.put_member_list.result _ c.put_head.new.out.items _ (length c.args.members.now)
    (member_list c.args.members.now) (sym (len-member_list c.args.members.now))
    c.in_ok-put_head.ensures.put c.put_member_list.ensures
