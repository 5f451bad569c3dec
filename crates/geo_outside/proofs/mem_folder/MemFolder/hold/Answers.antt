use Rattle.std.proofs.Common.{◌≡◌, ◌++◌, ◌∷◌, [], subst, arith}
use Rattle.std.proofs.lemmas.Grind.{common_steps}
use Rattle.std.specs.FinMap as map
use Rattle.geo_outside.specs.Files.{files_after}
use Rattle.geo_outside.specs.Puts.{pairs_of}
use Rattle.geo_outside.specs.Script.{FakeFolder}
use Rattle.geo_outside.proofs.Writes.{files_pushed}
use Rattle.geo_outside.proofs.mem_folder.MemFolder.hold.Goals as goal

pub returns-clause-ok : goal.returns-clause-ok
returns-clause-ok c =
    let in' = c.self.inside in
    let name = c.args.name.now in
    let bytes = c.args.bytes.now in
    let pushed : c.push.new.self.items ≡ in'.writes.items ++ c.in_ok-write.write ∷ [] =
    grind (arith, common_steps) in
    let held = files_pushed in'.writes.items c.push.new.self.items c.in_ok-write.write name bytes
    pushed c.in_ok-write.ensures.name c.in_ok-write.ensures.bytes in
    let new : FakeFolder = record {
      told = record {
        held = files_after (pairs_of c.push.new.self.items);
        puts = pairs_of in'.puts.items;
      };
      read_calls = in'.read_calls;
      put_calls = in'.put_calls;
      misses = in'.misses;
      given = in'.given;
      most = in'.most;
    } in
    let P : FakeFolder → Type 0 = λ f. new ≡ record f {
      told = record { held = map.insert f.told.held name bytes; puts = f.told.puts };
    } in
    subst P c.self.view_is
    (λ i. record new { told = record { held = held i; puts = pairs_of in'.puts.items } })
