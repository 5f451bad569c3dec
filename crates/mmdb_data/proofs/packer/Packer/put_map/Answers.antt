use Rattle.std.proofs.Common.{ℕ, List, take, ap, ◌∙◌}
use Rattle.mmdb_data.specs.Packing.{Packed}
use Rattle.mmdb_data.specs.Section.{packed_of}
use Rattle.mmdb_data.proofs.Appending.{packed_is, cut_back}
use Rattle.mmdb_data.proofs.packer.Packer.put_map.Goals as goal

pub returns-in-Err-clause-refused : goal.returns-in-Err-clause-refused
returns-in-Err-clause-refused c =
    let old : Packed = packed_of c.self.inside.section in
    let new : Packed = packed_of c.append_map.new.section in
    let len = c.len-len.result in
    let count = c.len-notes.result in
    let back = cut_back old new len count c.in-Err.ensures.kept
    (c.len-len.ensures ∙ c.self.inside.section.bytes.ok.0) c.len-notes.ensures in
    ap (λ (x : List ℕ). packed_is x c.truncate-in-Err.new.self) c.truncate.ensures.items
    ∙ ap (packed_is (take len new.bytes)) c.truncate-in-Err.ensures ∙ back ∙ c.self.view_is
