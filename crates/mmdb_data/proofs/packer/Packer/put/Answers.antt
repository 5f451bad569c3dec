use Rattle.std.proofs.Common.{ℕ, List, length, take, ap, ◌∙◌}
use Rattle.mmdb_data.specs.View.{value_tree}
use Rattle.mmdb_data.specs.Packing.{Packed, in_full}
use Rattle.mmdb_data.specs.Section.{packed_of}
use Rattle.mmdb_data.proofs.Appending.{packed_is, cut_back, put_reads}
use Rattle.mmdb_data.proofs.packer.Packer.put.Goals as goal

pub returns-in-Ok-clause-read : goal.returns-in-Ok-clause-read
returns-in-Ok-clause-read c =
    put_reads (value_tree c.args.value.now) c.args.self.now
    (packed_of c.append_top.new.section) c.len-len.result
    (c.in-Ok.ensures.appended ∙ ap (in_full (value_tree c.args.value.now)) c.self.view_is)
    (c.len-len.ensures ∙ c.self.inside.section.bytes.ok.0
    ∙ ap (λ (s : Packed). length s.bytes) c.self.view_is)
    (c.requires, c.in-Ok.ensures.typed)

pub returns-in-Err-clause-refused : goal.returns-in-Err-clause-refused
returns-in-Err-clause-refused c =
    let old : Packed = packed_of c.self.inside.section in
    let new : Packed = packed_of c.append_top.new.section in
    let len = c.len-len.result in
    let count = c.len-count.result in
    let back = cut_back old new len count c.in-Err.ensures.kept
    (c.len-len.ensures ∙ c.self.inside.section.bytes.ok.0) c.len-count.ensures in
    ap (λ (x : List ℕ). packed_is x c.truncate-in-Err.new.self) c.truncate.ensures.items
    ∙ ap (packed_is (take len new.bytes)) c.truncate-in-Err.ensures ∙ back ∙ c.self.view_is
