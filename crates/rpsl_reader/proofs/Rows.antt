-- Rows of items whose attributes stand in one list.
use Rattle.std.proofs.Common.{◌≡◌, ℕ, ◌+◌, ◌<◌, ◌≤◌, List, [], ◌∷◌, ◌++◌, None, length, take}
use Rattle.std.proofs.Common.{drop, get_or, sym, ap, ◌∙◌, arith}
use Rattle.std.proofs.Math.Seq.{drop-append_seam, take-length}
use Rattle.std.proofs.lemmas.List.{drop-append-le, length-drop, take-append-le, take_more}
use Rattle.std.proofs.lemmas.List.Elements.{All-head, All-tail}
use Rattle.rpsl_reader.specs.declared.item.Attribute.{Attribute}
use Rattle.rpsl_reader.specs.declared.item.Item.{Item}
use Rattle.rpsl_reader.specs.declared.item.Item.TheVariants.{Whole}
use Rattle.rpsl_reader.specs.declared.seen.SightRow.{SightRow}
use Rattle.rpsl_reader.specs.Sights.{HasRows, item_of, items_in, row_item}

-- attributes behind the list change no row
part_stays : (from count : ℕ) (ps qs : List Attribute) → from + count ≤ length ps
    → take count (drop from (ps ++ qs)) ≡ take count (drop from ps)
part_stays from count ps qs inside =
    ap (take count) (drop-append-le from ps qs (omega arith))
    ∙ take-append-le count (drop from ps) qs (omega (arith, length-drop from ps))

row_stays : (row : SightRow) (ps qs : List Attribute) → row.from + row.count ≤ length ps
    → row_item (ps ++ qs) row ≡ row_item ps row
row_stays row ps qs inside =
    ap (λ t. item_of row.line t row.rule) (part_stays row.from row.count ps qs inside)

-- one more row, of the attributes that were added
pub one_more : (rows : List SightRow) (ps qs : List Attribute) (line : ℕ) → HasRows rows ps
    → items_in (rows ++ record {
      line = line;
      from = length ps;
      count = length qs;
      rule = None;
    } ∷ []) (ps ++ qs) ≡ items_in rows ps ++ Whole (record { line = line; parts = qs }) ∷ []
one_more [] ps qs line has =
    ap (λ t. Whole (record { line = line; parts = t }) ∷ [])
    (ap (take (length qs)) (drop-append_seam ps qs) ∙ take-length qs)
one_more (r ∷ rs) ps qs line has =
    let first : row_item (ps ++ qs) r ≡ row_item ps r =
    row_stays r ps qs (All-head (λ (row : SightRow). row.from + row.count ≤ length ps) r rs has) in
    let rest = one_more rs ps qs line
    (All-tail (λ (row : SightRow). row.from + row.count ≤ length ps) r rs has) in
    λ i. first i ∷ rest i

-- one more copy
pub copy_step : (items copies more : List Item) (copy : Item) (index : ℕ) → index < length items
    → copies ≡ take index items → copy ≡ get_or items index copy → more ≡ copies ++ copy ∷ []
    → more ≡ take (index + 1) items
copy_step items copies more copy index inside before same pushed =
    pushed ∙ (λ i. before i ++ same i ∷ []) ∙ sym (take_more items index copy inside)
