use Rattle.std.proofs.Common.{◌≡◌, arith}
use Rattle.std.specs.Prelude.{Some}
use Rattle.geo_outside.proofs.Reading.{copied_from}
use Rattle.geo_outside.proofs.mem_folder.MemFolderFolder.read_at.Goals as goal
use Rattle.std.proofs.Common.{rules}

pub returns-clause-bytes : goal.returns-clause-bytes
returns-clause-bytes c file held =
    let found : Some c.in-Some.file.now ≡ Some file = grind arith in
    copied_from c.in-Some.file.now file _ _ _ _ _ found c.self.invariant c.requires
    c.copy_from-n.ensures.amount c.copy_from-n.ensures.bytes

pub returns-clause-listed : goal.returns-clause-listed
returns-clause-listed c = search rules steps 1000000

pub returns-in_default-clause-listed : goal.returns-in_default-clause-listed
returns-in_default-clause-listed c = search rules steps 1000000
