use Rattle.std.specs.Prelude.{bit_and}
use Rattle.std.proofs.Common.{◌-◌, ◌/◌, ◌^◌, ◌∙◌, ap, sym, refl, arith}
use Rattle.geo_addr.specs.Bits.{bits_of}
use Rattle.mmdb_tree.specs.Nodes.{node_record}
use Rattle.mmdb_file.specs.Walk.{seek}
use Rattle.mmdb_file.proofs.AdoptLemmas.{seek_done, seek_out, seek_on}
use Rattle.mmdb_file.proofs.adopted.Mmdb.seek.Goals as goal

pub returns-then-left-eq0 : goal.returns-then-left-eq0
returns-then-left-eq0 c =
    rw (← c.self.view_is)
    (sym (ap (λ n. seek (node_record c.self.inside.bits c.self.inside.tree.now) c.self.inside.nodes
    c.loop-record.«record» (bits_of n c.args.at.0)) c.if-left-eq0.true
    ∙ seek_out (node_record c.self.inside.bits c.self.inside.tree.now) c.self.inside.nodes
    c.loop-record.«record» c.args.at.0 c.loop-record-test.true)
    ∙ c.loop-record.invariant.same)

pub loop-record-preserved : goal.loop-record-preserved
loop-record-preserved c = record {
  few = omega (arith, c.loop-record.invariant.few);
  same =
      ap (λ n. seek (node_record c.self.inside.bits c.self.inside.tree.now) c.self.inside.nodes n
      (bits_of (c.loop-record.left - 1) c.args.at.0)) c.get_record-record.ensures
      ∙ seek_on (node_record c.self.inside.bits c.self.inside.tree.now) c.self.inside.nodes
      c.loop-record.«record» c.loop-record.left c.args.at.0
      (bit_and (c.args.at.0 / 2 ^ (c.loop-record.left - 1)) 1) c.if-left-eq0.false
      c.loop-record-test.true refl
      ∙ c.loop-record.invariant.same;
}

pub returns : goal.returns
returns c =
    rw (← c.self.view_is)
    (sym (seek_done (node_record c.self.inside.bits c.self.inside.tree.now) c.self.inside.nodes
    c.loop-record.«record» (bits_of c.loop-record.left c.args.at.0) c.loop-record-test.false)
    ∙ c.loop-record.invariant.same)
