use Rattle.std.proofs.Common.{◌≡◌, arith}
use Rattle.std.proofs.lemmas.Bool.Decides.{nat_tests}
use Rattle.rpsl_reader.proofs.Hashes.{none_there}
use Rattle.rpsl_reader.proofs.front.lacks_few.Goals as goal

pub returns : goal.returns
returns c h k l =
    let none : c.few_hashes.result ≡ 0 = grind (arith, nat_tests) in
    none_there 16 35 c.args.text.now _ k c.requires c.few_hashes.ensures none l
