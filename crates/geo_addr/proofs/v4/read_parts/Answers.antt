use Rattle.std.proofs.Common.{arith}
use Rattle.std.proofs.lemmas.Bool.{and_from, and_left, and_right}
use Rattle.geo_addr.proofs.V4Lemmas.{AreParts, first_fails, second_fails, third_fails, fourth_fails}
use Rattle.geo_addr.proofs.V4Lemmas.{no_octets, four_octets}
use Rattle.geo_addr.proofs.v4.read_parts.Goals as goal
use Rattle.geo_addr.proofs.v4.read_parts.Goals.{
  else-is_octet-via-then-is_octet+then-is_octet-2+then-is_octet-3+else-is_octet-4,
}
use Rattle.geo_addr.proofs.v4.read_parts.Goals.{
  else-is_octet-via-then-is_octet+then-is_octet-2+else-is_octet-3,
}
use Rattle.geo_addr.proofs.v4.read_parts.Goals.{else-is_octet-via-then-is_octet+else-is_octet-2}
use Rattle.geo_addr.proofs.v4.read_parts.Goals.{else-is_octet-via-else-is_octet}

pub returns-in_default-clause-value : goal.returns-in_default-clause-value
returns-in_default-clause-value c = first_fails _ _ _ _ c.in_default.ensures

pub returns-in_default-part-clause-value : goal.returns-in_default-part-clause-value
returns-in_default-part-clause-value c = second_fails _ _ _ _ c.in_default-part.ensures

pub returns-in_default-part-2-clause-value : goal.returns-in_default-part-2-clause-value
returns-in_default-part-2-clause-value c = third_fails _ _ _ _ c.in_default-part-2.ensures

pub returns-in_default-part-3-clause-value : goal.returns-in_default-part-3-clause-value
returns-in_default-part-3-clause-value c =
    fourth_fails _ _ _ c.args.d.now c.in_default-part-3.ensures

pub returns-then-is_octet-4-clause-value : goal.returns-then-is_octet-4-clause-value
returns-then-is_octet-4-clause-value c =
    let parts : AreParts _ _ _ _ = record {
      first = c.in-Some.ensures.0;
      second = c.in-Some-part.ensures.0;
      third = c.in-Some-part-2.ensures.0;
      fourth = c.in-Some-part-3.ensures.0;
    } in
    let octets =
    and_from _ _ (and_from _ _ (and_from _ _ c.if-is_octet.ensures.0 c.if-is_octet-2.ensures.0)
    c.if-is_octet-3.ensures.0) c.if-is_octet-4.ensures.0 in
    four_octets _ _ _ _ _ parts octets
    (omega (
      arith,
      c.in-Some.ensures.1,
      c.in-Some-part.ensures.1,
      c.in-Some-part-2.ensures.1,
      c.in-Some-part-3.ensures.1,
    ))

pub returns-else-is_octet-clause-value : goal.returns-else-is_octet-clause-value
returns-else-is_octet-clause-value c =
    let parts : AreParts _ _ _ _ = record {
      first = c.in-Some.ensures.0;
      second = c.in-Some-part.ensures.0;
      third = c.in-Some-part-2.ensures.0;
      fourth = c.in-Some-part-3.ensures.0;
    } in
    no_octets _ _ _ _ parts
    (elim c.else-is_octet.branch [
      | else-is_octet-via-then-is_octet+then-is_octet-2+then-is_octet-3+else-is_octet-4 w ↦
          and_right _ _ w.if-is_octet-4.ensures
      | else-is_octet-via-then-is_octet+then-is_octet-2+else-is_octet-3 w ↦
          and_left _ _ (and_right _ _ w.if-is_octet-3.ensures)
      | else-is_octet-via-then-is_octet+else-is_octet-2 w ↦
          and_left _ _ (and_left _ _ (and_right _ _ w.if-is_octet-2.ensures))
      | else-is_octet-via-else-is_octet w ↦
          and_left _ _ (and_left _ _ (and_left _ _ w.if-is_octet.ensures))
    ])
