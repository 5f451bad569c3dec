use Rattle.std.proofs.Common.{◌≡◌, ◌++◌, ap, sym, ◌∙◌, nat_eq, rules}
use Rattle.std.proofs.lemmas.List.Sorted.{IsNonDecreasingBy-from_sort, list_any-IsPermutation}
use Rattle.publish_least.specs.Price.{has}
use Rattle.publish_least.proofs.HasLemmas.{has-append}
use Rattle.publish_least.proofs.set.either.Goals as goal

pub returns-clause-rises : goal.returns-clause-rises
returns-clause-rises c = IsNonDecreasingBy-from_sort (λ x. x) c.sort.new.self.items (search rules)

pub returns-clause-says : goal.returns-clause-says
returns-clause-says c i =
    let all : c.extend_from_slice.new.self.items ≡ c.args.xs.now ++ c.args.ys.now = search rules in
    sym (list_any-IsPermutation (nat_eq i) c.extend_from_slice.new.self.items c.sort.new.self.items
    c.sort.ensures.permutation) ∙ ap (λ zs. has zs i) all ∙ has-append c.args.xs.now c.args.ys.now i
