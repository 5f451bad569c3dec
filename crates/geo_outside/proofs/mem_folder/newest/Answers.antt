use Rattle.std.proofs.Common.{◌<◌, ◌∙◌, ap, sym, refl, length, arith}
use Rattle.std.specs.Prelude.{Some}
use Rattle.geo_outside.proofs.Writes.{get-none, get_more_here, get_more_past, IsHeld-same}
use Rattle.geo_outside.proofs.mem_folder.newest.Goals as goal
use Rattle.geo_outside.proofs.mem_folder.newest.Goals.{then-eq, else-eq}

pub loop-write-init : goal.loop-write-init
loop-write-init c = get-none c.args.name.now

pub loop-write-preserved : goal.loop-write-preserved
loop-write-preserved c =
    let inside : c.loop-write.write-index < length c.args.writes.now = omega arith in
    elim c.if-eq.branch [
      | then-eq w ↦ IsHeld-same c.if-eq.found _ _ _ w.found-is
          (get_more_here _ _ _ _ _ inside c.write-item.is c.as_str.ensures w.if-eq.ensures
          ∙ ap Some (sym w.as_slice.ensures)) refl
      | else-eq w ↦ IsHeld-same c.if-eq.found _ _ _ w.found-is (get_more_past _ _ _ _ _ inside
          c.write-item.is c.as_str.ensures w.if-eq.ensures) c.loop-write.invariant
    ]
