use Rattle.std.proofs.Common.{List, ap, ◌∙◌}
use Rattle.geo_outside.specs.Files.{files_after}
use Rattle.geo_outside.specs.Puts.{pairs_of}
use Rattle.geo_outside.specs.declared.put.Put.{Put}
use Rattle.geo_outside.proofs.Writes.{files_after_none}
use Rattle.geo_outside.proofs.mem_folder.MemFolder.new.Goals as goal

pub returns-clause-told : goal.returns-clause-told
returns-clause-told c = λ i. record {
  held =
      (ap (λ (ws : List Put). files_after (pairs_of ws)) c.new.ensures.items ∙ files_after_none) i;
  puts = ap pairs_of c.new-2.ensures.items i;
}
