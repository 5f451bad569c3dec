-- The sums of both families are those of all addresses.
use Rattle.std.proofs.Common.{ℕ, ◌+◌, ◌^◌, List, length, ap, ◌∙◌, arith}
use Rattle.trie_core.specs.declared.node.Rec.{Rec}
use Rattle.trie_core.specs.Store.{meaning, record_of, tree_of}
use Rattle.trie_core.specs.Tree.{height}
use Rattle.check_census.specs.Counts.{counts_of}
use Rattle.check_census.specs.Tally.{low_part, tally, tally_beyond}
use Rattle.check_census.proofs.CensusLemmas.{counts_are_census}
use Rattle.check_census.proofs.TallyLemmas.{height-low_part}
use Rattle.check_census.proofs.counted.census.Goals as goal

pub low_sums-requires-clause-low : goal.low_sums-requires-clause-low
low_sums-requires-clause-low c =
    let low = height-low_part 32 96 (meaning c.args.store.now c.rec_of-rec.result)
    (c.rec_of-rec.ensures.sound.low c.rec_of-rec.result c.rec_of-rec.ensures.of) in
    let same = ap height c.in_ok-low.ensures.low in
    omega arith

pub returns : goal.returns
returns c =
    let pairs = c.args.store.now in
    let places = c.args.places.now in
    let v4 = c.in_ok-v4.v4.items in
    let v6 = c.in_ok-low.v6.items in
    c.in_ok-counts.ensures ∙ ap (λ (xs : List ℕ). counts_of places xs c.as_slice-2.result.now
    (length xs)) c.as_slice.ensures.value
    ∙ ap (λ (ys : List ℕ). counts_of places v4 ys (length v4)) c.as_slice-2.ensures.value
    ∙ ap (counts_of places v4 v6) c.in_ok-v4.ensures.slots
    ∙ counts_are_census places v4 v6 (c.len.result + 1) (tree_of pairs c.args.root)
    (ap (λ n. n + 1) c.len.ensures.count)
    (c.rec_of-rec.ensures.sound.low (record_of c.args.root) c.requires)
    (λ test plain. c.in_ok-v4.ensures.sums test plain
    ∙ ap (tally test (2 ^ 32)) (c.in_ok-low.ensures.low
    ∙ ap (λ (r : Rec). low_part 96 (meaning pairs r)) c.rec_of-rec.ensures.same))
    (λ test plain. c.in_ok-low.ensures.sums test plain
    ∙ ap (λ (r : Rec). tally_beyond test 32 96 (meaning pairs r)) c.rec_of-rec.ensures.same)
