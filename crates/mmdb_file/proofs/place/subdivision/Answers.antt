use Rattle.std.proofs.Common.{rules}
use Rattle.mmdb_file.proofs.place.subdivision.Goals as goal
use Rattle.mmdb_file.specs.PlaceValue.{subdivision}

pub returns-in-Some : goal.returns-in-Some
unfolding subdivision
returns-in-Some c = search rules steps 1000000
