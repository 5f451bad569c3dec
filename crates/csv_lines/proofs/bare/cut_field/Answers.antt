-- What goes on is the first field; nothing or a comma and the others stand behind it.
use Rattle.std.proofs.Common.{◌≡◌, arith}
use Rattle.std.proofs.lemmas.List.Sums.{prefix_len-le-length}
use Rattle.csv_lines.specs.Fields.{goes_on}
use Rattle.csv_lines.proofs.BareLemmas.{comma_cut, last_cut, other_cut}
use Rattle.csv_lines.proofs.bare.cut_field.Goals as goal

pub split_at-requires : goal.split_at-requires
split_at-requires c = rw c.field_len.ensures (prefix_len-le-length goes_on c.args.text.now)

pub returns-in_default-clause-pieces : goal.returns-in_default-clause-pieces
returns-in_default-clause-pieces c =
    (last_cut c.args.text.now _ _ _ c.field_len.ensures c.split_at.ensures.front
    c.split_at.ensures.back c.in_default.ensures.cases).0

pub returns-in_default-clause-bare : goal.returns-in_default-clause-bare
returns-in_default-clause-bare c =
    (last_cut c.args.text.now _ _ _ c.field_len.ensures c.split_at.ensures.front
    c.split_at.ensures.back c.in_default.ensures.cases).1

pub returns-clause-pieces : goal.returns-clause-pieces
returns-clause-pieces c =
    let comma : c.in-Some.byte.now ≡ 44 = omega (arith, c.if-byte-ne44.false) in
    (comma_cut c.args.text.now _ _ _ c.field_len.ensures c.split_at.ensures.front
    c.split_at.ensures.back c.in-Some.byte.now c.in-Some.next.now c.in-Some.ensures.cases.0 comma).0

pub returns-clause-bare : goal.returns-clause-bare
returns-clause-bare c =
    let comma : c.in-Some.byte.now ≡ 44 = omega (arith, c.if-byte-ne44.false) in
    (comma_cut c.args.text.now _ _ _ c.field_len.ensures c.split_at.ensures.front
    c.split_at.ensures.back c.in-Some.byte.now c.in-Some.next.now c.in-Some.ensures.cases.0 comma).1

pub returns-then-byte-ne44-clause-other : goal.returns-then-byte-ne44-clause-other
returns-then-byte-ne44-clause-other c =
    other_cut c.args.text.now _ _ _ c.field_len.ensures
    c.split_at.ensures.front c.split_at.ensures.back
    c.in-Some.byte.now c.in-Some.next.now c.in-Some.ensures.cases.0 c.if-byte-ne44.true
