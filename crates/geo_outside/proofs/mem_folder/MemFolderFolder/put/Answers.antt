use Rattle.std.proofs.Common.{◌≡◌, ◌++◌, ◌∷◌, [], ap, subst, ◌∙◌, arith, refl}
use Rattle.std.specs.Prelude.{Some}
use Rattle.std.proofs.lemmas.Grind.{common_steps}
use Rattle.geo_outside.specs.Files.{Told, after_put, files_after}
use Rattle.geo_outside.specs.Puts.{pairs_of}
use Rattle.geo_outside.specs.Script.{FakeFolder}
use Rattle.geo_outside.proofs.Writes.{files_pushed, pairs_pushed, Spoils-none}
use Rattle.geo_outside.proofs.mem_folder.MemFolderFolder.put.Goals as goal

pub returns-then-next_fails-clause-spoilt : goal.returns-then-next_fails-clause-spoilt
returns-then-next_fails-clause-spoilt c w told failed = (
  w,
  ap (λ (f : FakeFolder). Some f.told) c.self.view_is ∙ told,
  Spoils-none w w c.args.name.now refl,
)

pub returns-clause-ok : goal.returns-clause-ok
returns-clause-ok c =
    let in' = c.self.inside in
    let name = c.args.name.now in
    let bytes = c.args.bytes.now in
    let wrote : c.push.new.self.items ≡ in'.writes.items ++ c.in_ok-write.write ∷ [] =
    grind (arith, common_steps) in
    let noted : c.push-2.new.self.items ≡ in'.puts.items ++ c.in_ok-put.put ∷ [] =
    grind (arith, common_steps) in
    let held = files_pushed in'.writes.items c.push.new.self.items c.in_ok-write.write name bytes
    wrote c.in_ok-write.ensures.name c.in_ok-write.ensures.bytes in
    let puts = pairs_pushed in'.puts.items c.push-2.new.self.items c.in_ok-put.put name bytes noted
    c.in_ok-put.ensures.name c.in_ok-put.ensures.bytes in
    let new : Told = record {
      held = files_after (pairs_of c.push.new.self.items);
      puts = pairs_of c.push-2.new.self.items;
    } in
    let P : FakeFolder → Type 0 = λ f. new ≡ after_put f.told name bytes in
    subst P c.self.view_is (λ i. record { held = held i; puts = puts i })
