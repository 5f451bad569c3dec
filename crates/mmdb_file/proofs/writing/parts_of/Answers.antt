use Rattle.std.proofs.Common.{◌≡◌, ◌∙◌, ◌+◌, ap, sym, length, arith, ℕ, subst}
use Rattle.trie_core.specs.Tree.{Tree}
use Rattle.trie_core.specs.Store.{tree_of}
use Rattle.least_nodes.specs.Layout.{place_order}
use Rattle.least_nodes.specs.Order.{AreOf, trees_of}
use Rattle.mmdb_tree.specs.Nodes.{smallest}
use Rattle.mmdb_file.specs.Section.{Section, Holds, section_of}
use Rattle.mmdb_file.specs.Writing.{values_of, section_for, count_for, end_for}
use Rattle.mmdb_file.proofs.PartsLemmas.{count_len, section_laid}
use Rattle.mmdb_file.proofs.writing.parts_of.Goals as goal

pub returns-clause-parts : goal.returns-clause-parts
returns-clause-parts c =
    let t : Tree ℕ = tree_of c.args.store.now c.args.root in
    let leaves : c.as_slice-leaves.result.now ≡ place_order t =
    c.as_slice-leaves.ensures ∙ c.in_ok-layout.ensures.leaves in
    let laid : section_of (values_of c.args.places.now c.as_slice-leaves.result.now)
    ≡ section_for c.args.places.now t =
    section_laid c.args.places.now t c.as_slice-leaves.result.now leaves in
    let section : c.in_ok-data.data.section.bytes ≡ (section_for c.args.places.now t).bytes =
    c.in_ok-data.ensures.section ∙ ap (λ (s : Section). s.bytes) laid in
    let count : c.max-count.result ≡ count_for t = omega (
      arith,
      c.max-count.ensures,
      c.len.ensures.len,
      count_len c.args.store.now t c.in_ok-layout.layout.nodes c.in_ok-layout.ensures.nodes,
    ) in
    let end : c.max-count.result + 16 + length c.bytes-packed.result.now
    ≡ end_for c.args.places.now t =
    omega (arith, ap length c.bytes-packed.ensures, ap length section, count) in
    record {
      count = c.numbers_of-numbers.ensures.count ∙ count;
      of =
          subst (AreOf c.args.store.now) (sym c.numbers_of-numbers.ensures.nodes)
          c.in_ok-layout.ensures.of;
      nodes =
          ap (trees_of c.args.store.now) c.numbers_of-numbers.ensures.nodes
          ∙ c.in_ok-layout.ensures.nodes;
      leaves = c.numbers_of-numbers.ensures.places ∙ c.in_ok-layout.ensures.leaves;
      starts =
          c.numbers_of-numbers.ensures.starts ∙ c.in_ok-data.ensures.starts
          ∙ ap (λ (s : Section). s.starts) laid;
      section = section;
      holds =
          subst (λ ks. Holds (section_of (values_of c.args.places.now ks))
          (values_of c.args.places.now ks)) leaves c.in_ok-data.ensures.holds;
      bits = ap smallest (sym end) ∙ sym c.in-Some.ensures.bits;
      low = omega (arith, end, c.in-Some.ensures.low);
    }

pub returns-in_default-clause-too_large : goal.returns-in_default-clause-too_large
returns-in_default-clause-too_large c = λ _.
    let t : Tree ℕ = tree_of c.args.store.now c.args.root in
    let leaves : c.as_slice-leaves.result.now ≡ place_order t =
    c.as_slice-leaves.ensures ∙ c.in_ok-layout.ensures.leaves in
    let section : length c.in_ok-data.data.section.bytes
    ≡ length (section_for c.args.places.now t).bytes =
    ap length (c.in_ok-data.ensures.section
    ∙ ap (λ (s : Section). s.bytes)
    (section_laid c.args.places.now t c.as_slice-leaves.result.now leaves)) in
    let count = count_len c.args.store.now t c.in_ok-layout.layout.nodes
    c.in_ok-layout.ensures.nodes in
    let end : c.max-count.result + 16 + length c.bytes-packed.result.now
    ≡ end_for c.args.places.now t =
    omega (
      arith,
      ap length c.bytes-packed.ensures,
      section,
      c.max-count.ensures,
      c.len.ensures.len,
      count,
    ) in
    ap smallest (sym end) ∙ sym c.in_default.ensures.bits
