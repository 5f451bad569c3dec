use Rattle.std.proofs.Common.{◌≡◌, take}
use Rattle.std.specs.Prelude.{MatchOption, Some, None}
use Rattle.std.specs.FinMap as map
use Rattle.geo_outside.specs.Files.{files_after}
use Rattle.geo_outside.specs.Puts.{pairs_of}
use Rattle.geo_outside.proofs.mem_folder.newest.Given as goal

abbrev pub invariant-loop-write : goal.invariant-loop-write
invariant-loop-write l =
    let held = map.get (files_after (pairs_of (take l.write-index l.writes))) l.name in
    MatchOption l.found (held ≡ None) (λ file. held ≡ Some file.now)
