use Rattle.std.proofs.Common.{◌∙◌, ◌<◌, ap, subst, length, List, ℕ, get_or}
use Rattle.trie_core.specs.declared.node.NodeId.{NodeId}
use Rattle.mmdb_tree.specs.Laws.{NodeFits}
use Rattle.mmdb_file.specs.FileImage.{file_of}
use Rattle.mmdb_file.specs.Writing.{number_of, nodes_from}
use Rattle.mmdb_file.proofs.writing.file_of_parts.Goals as goal

pub returns-clause-bytes : goal.returns-clause-bytes
returns-clause-bytes c =
    let parts = c.args.parts.now in
    let meta = c.args.meta.now in
    c.in_ok-bytes.ensures.bytes
    ∙ ap (λ (ids : List NodeId). file_of parts.bits
    (nodes_from c.args.store.now (number_of parts.numbers) c.args.root ids)
    c.bytes-packed.result.now meta.epoch meta.name) c.as_slice-ids.ensures
    ∙ ap (λ (s : List ℕ). file_of parts.bits
    (nodes_from c.args.store.now (number_of parts.numbers) c.args.root parts.numbers.nodes)
    s meta.epoch meta.name) c.bytes-packed.ensures

pub returns-clause-fits : goal.returns-clause-fits
returns-clause-fits c =
    let parts = c.args.parts.now in
    subst (λ (ids : List NodeId). (k : ℕ)
    → k < length (nodes_from c.args.store.now (number_of parts.numbers) c.args.root ids)
    → NodeFits parts.bits
    (get_or (nodes_from c.args.store.now (number_of parts.numbers) c.args.root ids) k (0, 0)))
    c.as_slice-ids.ensures c.in_ok-bytes.ensures.fits

pub returns-in_err-bytes-clause-fits : goal.returns-in_err-bytes-clause-fits
returns-in_err-bytes-clause-fits c =
    let parts = c.args.parts.now in
    subst (λ (ids : List NodeId). (k : ℕ)
    → k < length (nodes_from c.args.store.now (number_of parts.numbers) c.args.root ids)
    → NodeFits parts.bits
    (get_or (nodes_from c.args.store.now (number_of parts.numbers) c.args.root ids) k (0, 0)))
    c.as_slice-ids.ensures c.in_err-bytes.ensures.fits
