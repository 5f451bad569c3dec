use Rattle.mmdb_file.proofs.PlaceTreeLemmas.{NumbersStandForPlaces-holds}
use Rattle.mmdb_file.proofs.laws.numbers_stand_for_places.Goals as goal

pub returns : goal.returns
returns c = NumbersStandForPlaces-holds
