use Rattle.std.proofs.Common.{◌-◌, ap, ◌∙◌, arith}
use Rattle.std.proofs.lemmas.Bool.{lt-leb}
use Rattle.mmdb_data.specs.ValueTree.{members_fit as are_members_fit}
use Rattle.mmdb_data.specs.ValueTree.{items_fit as are_items_fit, members_len, items_len}
use Rattle.mmdb_data.specs.View.{items_view, members_view}
use Rattle.mmdb_data.proofs.Views.{tree-Map, tree-List, len-members_view, len-items_view}
use Rattle.mmdb_data.proofs.Fine.{all_three, too_many}
use Rattle.mmdb_data.proofs.sizes.+sizes.Goals as goal

pub fits_within-returns-then-len-le-MOST : goal.fits_within-returns-then-len-le-MOST
fits_within-returns-then-len-le-MOST t c =
    let pairs = c.in-Map.pairs in
    let inner = are_members_fit (members_view pairs.items) (c.args.levels - 1) in
    let same = c.members_fit.ensures
    ∙ ap (λ ps. are_members_fit (members_view ps) (c.args.levels - 1)) c.deref.ensures.value in
    let len = len-members_view pairs.items in
    rw (c.in-Map.is, tree-Map pairs)
    (same ∙ all_three c.args.levels (members_len (members_view pairs.items)) inner (omega arith)
    (omega (arith, len, pairs.ok.0)))

pub fits_within-returns-else-len-le-MOST : goal.fits_within-returns-else-len-le-MOST
fits_within-returns-else-len-le-MOST t c =
    let pairs = c.in-Map.pairs in
    let inner = are_members_fit (members_view pairs.items) (c.args.levels - 1) in
    let len = len-members_view pairs.items in
    rw (c.in-Map.is, tree-Map pairs)
    (lt-leb c.len.result 16843036 (omega arith)
    ∙ too_many c.args.levels (members_len (members_view pairs.items)) inner
    (omega (arith, len, pairs.ok.0)))

pub fits_within-returns-then-len-le-MOST-2 : goal.fits_within-returns-then-len-le-MOST-2
fits_within-returns-then-len-le-MOST-2 t c =
    let values = c.in-List.values in
    let inner = are_items_fit (items_view values.items) (c.args.levels - 1) in
    let same = c.items_fit.ensures
    ∙ ap (λ vs. are_items_fit (items_view vs) (c.args.levels - 1))
    c.deref-then-len-le-MOST-2.ensures.value in
    let len = len-items_view values.items in
    rw (c.in-List.is, tree-List values)
    (same ∙ all_three c.args.levels (items_len (items_view values.items)) inner (omega arith)
    (omega (arith, len, values.ok.0)))

pub fits_within-returns-else-len-le-MOST-2 : goal.fits_within-returns-else-len-le-MOST-2
fits_within-returns-else-len-le-MOST-2 t c =
    let values = c.in-List.values in
    let inner = are_items_fit (items_view values.items) (c.args.levels - 1) in
    let len = len-items_view values.items in
    rw (c.in-List.is, tree-List values)
    (lt-leb c.len-in-List.result 16843036 (omega arith)
    ∙ too_many c.args.levels (items_len (items_view values.items)) inner
    (omega (arith, len, values.ok.0)))
