use Rattle.std.proofs.Common.{◌≡◌, arith}
use Rattle.std.proofs.lemmas.Bool.Decides.{nat_tests}
use Rattle.rpsl_reader.proofs.Hashes.{none_there}
use Rattle.rpsl_reader.proofs.front.lacks_many.Goals as goal

pub returns : goal.returns
returns c h k l =
    let none : c.many_hashes.result ≡ 0 = grind (arith, nat_tests) in
    none_there 32 35 c.args.text.now _ k c.requires c.many_hashes.ensures none l
