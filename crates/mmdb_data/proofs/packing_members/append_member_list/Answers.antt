use Rattle.std.proofs.Common.{◌∙◌}
use Rattle.mmdb_data.specs.Section.{packed_of}
use Rattle.mmdb_data.proofs.Packs.{kept_trans}
use Rattle.mmdb_data.proofs.Nested.{member_more, value_within, value_is, later_is}
use Rattle.mmdb_data.proofs.packing_members.append_member_list.Goals as goal

pub value_in-requires-clause-within : goal.value_in-requires-clause-within
value_in-requires-clause-within c =
    value_within c.args.members.now c.loop-member.member-index _ c.loop-member-test.true
    c.loop-member.rest.now c.loop-member.invariant.spelled

pub append_nested-requires-clause-spelled : goal.append_nested-requires-clause-spelled
append_nested-requires-clause-spelled c =
    c.value_in.ensures.value ∙ value_is c.args.members.now c.loop-member.member-index _
    c.loop-member-test.true c.loop-member.rest.now c.loop-member.invariant.spelled

pub loop-member-preserved : goal.loop-member-preserved
loop-member-preserved c =
    let now = packed_of c.loop-member.section in
    let keyed = packed_of c.append_key.new.self in
    let new = packed_of c.append_nested.new.section in
    let old = packed_of c.args.section.now in
    let more = member_more c.args.members.now c.loop-member.member-index _ c.loop-member-test.true
    now keyed new _ c.loop-member.invariant.appended c.loop-member.invariant.narrow
    c.in_ok-append_key.ensures.appended c.in_ok-append_nested.ensures.appended in
    record {
      appended = more.0;
      narrow = more.1;
      spelled =
          c.value_in.ensures.behind ∙ later_is c.args.members.now c.loop-member.member-index _
          c.loop-member-test.true c.loop-member.rest.now c.loop-member.invariant.spelled;
      kept =
          kept_trans old now new c.loop-member.invariant.kept
          (kept_trans now keyed new c.append_key.ensures.kept c.append_nested.ensures.kept);
    }
