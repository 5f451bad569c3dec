use Rattle.std.proofs.Common.{◌∙◌, ap, sym, length, arith, ℕ, List}
use Rattle.std.specs.Prelude.{slice_index, option_map, Some}
use Rattle.mmdb_tree.specs.Nodes.{smallest, record_size}
use Rattle.mmdb_file.proofs.PartsLemmas.{ids_few, told, file_is, walked}
use Rattle.mmdb_file.proofs.writing.write_file.Goals as goal

pub file_of_parts-made-requires-clause-ids : goal.file_of_parts-made-requires-clause-ids
file_of_parts-made-requires-clause-ids c =
    ids_few c.args.store.now c.args.places.now c.args.root c.rec_of-tree.result
    c.rec_of-tree.ensures.same c.in_ok-parts.parts c.in_ok-parts.ensures.parts

pub file_of_parts-made-requires-clause-low : goal.file_of_parts-made-requires-clause-low
file_of_parts-made-requires-clause-low c =
    let are = c.in_ok-parts.ensures.parts in
    λ k. omega (
      arith,
      are.count,
      ap (λ (s : List ℕ). slice_index s k) are.starts,
      are.holds.within k,
      are.low,
    )

pub returns-clause-bytes : goal.returns-clause-bytes
returns-clause-bytes c =
    sym (c.numbers_to_places.ensures.bytes c.args.meta.now.epoch c.args.meta.now.name)
    ∙ file_is c.args.store.now c.args.places.now c.args.root c.rec_of-tree.result
    c.rec_of-tree.ensures.same c.in_ok-parts.parts c.in_ok-parts.ensures.parts
    c.rec_of-tree.ensures.sound c.requires.root c.requires.numbers c.args.meta.now.epoch
    c.args.meta.now.name c.in_ok-made.made.bytes.items c.in_ok-made.ensures.bytes

pub returns-clause-walked : goal.returns-clause-walked
returns-clause-walked c =
    walked c.args.store.now c.args.places.now c.args.root c.rec_of-tree.result
    c.rec_of-tree.ensures.same c.in_ok-parts.parts c.in_ok-parts.ensures.parts
    c.rec_of-tree.ensures.sound c.requires.root c.requires.numbers
    c.written_file_is_walked.ensures c.args.meta.now.epoch c.args.meta.now.name
    c.in_ok-made.made.bytes.items c.in_ok-made.ensures.bytes c.in_ok-made.ensures.typed.0
    c.in_ok-made.ensures.typed.1 c.requires.name c.in_ok-made.ensures.fits

pub returns-clause-nodes : goal.returns-clause-nodes
returns-clause-nodes c =
    c.in_ok-made.ensures.nodes ∙ c.in_ok-parts.ensures.parts.count
    ∙ sym c.numbers_to_places.ensures.nodes

pub returns-clause-told : goal.returns-clause-told
returns-clause-told c =
    told c.args.store.now c.args.places.now c.args.root c.rec_of-tree.result
    c.rec_of-tree.ensures.same c.in_ok-parts.parts c.in_ok-parts.ensures.parts
    c.args.meta.now.epoch c.args.meta.now.name c.in_ok-made.made.bytes.items
    c.in_ok-made.ensures.bytes c.in_ok-made.ensures.typed.0 c.in_ok-made.ensures.typed.1
    c.requires.name
    ∙ ap Some (sym c.in_ok-made.ensures.nodes)

pub returns-clause-fewest : goal.returns-clause-fewest
returns-clause-fewest c = λ nodes finds. omega (
  arith,
  c.in_ok-made.ensures.nodes,
  c.in_ok-parts.ensures.parts.count,
  c.numbers_to_places.ensures.fewest nodes finds,
)

pub returns-clause-section : goal.returns-clause-section
returns-clause-section c =
    c.in_ok-made.ensures.section ∙ ap length c.in_ok-parts.ensures.parts.section
    ∙ ap length (sym c.numbers_to_places.ensures.section)

pub returns-clause-bits : goal.returns-clause-bits
returns-clause-bits c =
    ap (λ (n : ℕ). option_map record_size (smallest n)) c.numbers_to_places.ensures.end
    ∙ ap (option_map record_size) c.in_ok-parts.ensures.parts.bits
    ∙ ap Some (sym c.in_ok-made.ensures.bits)
