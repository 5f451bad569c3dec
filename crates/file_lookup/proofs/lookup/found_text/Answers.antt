use Rattle.std.proofs.Common.{rules}
use Rattle.file_lookup.proofs.lookup.found_text.Goals as goal

pub returns-in-Ok-None : goal.returns-in-Ok-None
returns-in-Ok-None c = search rules steps 1000000
