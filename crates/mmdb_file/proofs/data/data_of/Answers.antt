use Rattle.std.proofs.Common.{ℕ}
use Rattle.std.proofs.lemmas.List.Elements.{All-map}
use Rattle.geo_terms.specs.Numbers.{place_at}
use Rattle.mmdb_data.specs.ValueTree.{ValueTree, CanBeReadBack}
use Rattle.mmdb_file.specs.FileImage.{answer_value}
use Rattle.mmdb_file.specs.Writing.{values_of}
use Rattle.mmdb_file.proofs.SectionLemmas.{section_holds}
use Rattle.mmdb_file.proofs.WritingLemmas.{data_packed, data_starts, All_more, All_whole}
use Rattle.mmdb_file.proofs.data.data_of.Goals as goal

pub loop-number-preserved : goal.loop-number-preserved
loop-number-preserved c =
    let value : ℕ → ValueTree = λ k. answer_value (place_at c.args.places.now k) in
    record {
      section = data_packed value c.args.numbers.now c.loop-number.number-index
          c.loop-number-test.true c.loop-number.made.section c.add.new.made.section _
          c.loop-number.invariant.section c.in_ok-add.ensures.section;
      starts = data_starts value c.args.numbers.now c.loop-number.number-index
          c.loop-number-test.true c.loop-number.made.section c.add.new.made.section
          c.loop-number.made.starts.items c.add.new.made.starts.items _
          c.loop-number.invariant.starts c.in_ok-add.ensures.starts c.in_ok-add.ensures.section;
      readable = All_more (λ k. CanBeReadBack (value k)) c.args.numbers.now
          c.loop-number.number-index 0 c.loop-number-test.true
          c.loop-number.invariant.readable c.in_ok-add.ensures.readable;
    }

-- after the last number each value was found readable
pub returns-clause-holds : goal.returns-clause-holds
returns-clause-holds c =
    let value : ℕ → ValueTree = λ k. answer_value (place_at c.args.places.now k) in
    let readable = All_whole (λ k. CanBeReadBack (value k)) c.args.numbers.now
    c.loop-number.number-index c.loop-number-test.false c.loop-number.invariant.readable in
    section_holds (values_of c.args.places.now c.args.numbers.now)
    (All-map CanBeReadBack value c.args.numbers.now readable)
