use Rattle.std.proofs.Common.{◌≡◌, ◌∙◌, ap, subst, Ok}
use Rattle.geo_addr.specs.Prefixes.{block_in}
use Rattle.geo_addr.specs.Ranges.{IsBlock, Prefix, is_v4}
use Rattle.geo_addr.specs.Printing.{block_text}
use Rattle.geo_addr.proofs.ReadBack.{block_text-from, block_text-reads, made_of}
use Rattle.geo_addr.proofs.print.block_text.Goals as goal

pub returns-clause-text : goal.returns-clause-text
returns-clause-text c =
    made_of c.from_string.result _ (λ t. t ≡ block_text c.args.block) c.from_string.ensures
    (c.in_ok-format.ensures.ok
    ∙ block_text-from c.args.block _ _ _ (c.is_v4.ensures ∙ ap is_v4 c.range_of.ensures)
    (ap (λ (b : Prefix). b.first) c.block.view_is) c.printed_length-length.ensures)

pub returns-clause-reads_back : goal.returns-clause-reads_back
returns-clause-reads_back c =
    let text = block_text-from c.args.block _ _ _ (c.is_v4.ensures ∙ ap is_v4 c.range_of.ensures)
    (ap (λ (b : Prefix). b.first) c.block.view_is) c.printed_length-length.ensures in
    made_of c.from_string.result _ (λ t. block_in t ≡ Ok c.args.block) c.from_string.ensures
    (ap block_in (c.in_ok-format.ensures.ok ∙ text)
    ∙ block_text-reads c.args.block (subst IsBlock c.block.view_is c.block.invariant))
