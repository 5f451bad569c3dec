use Rattle.std.proofs.Common.{ap, sym, refl, ◌∙◌}
use Rattle.std.proofs.lemmas.Result.{on_ok_weaker}
use Rattle.rpsl_reader.specs.Attributes.{is_attribute}
use Rattle.rpsl_reader.proofs.Wanted.{first_step, last_step, later_step}
use Rattle.rpsl_reader.proofs.object.push_items.Goals as goal

pub returns-in-Some : goal.returns-in-Some
returns-in-Some c =
    on_ok_weaker c.push_first.result (λ added.
    first_step c.args.selection.now c.loop-left.left.now _ c.line-item.result
    c.loop-left.found.items c.push_first.new.found.items c.in-len1-up.len_at_least
    c.line-item.is refl (ap (λ k. is_attribute k.1) (sym c.line.view_is) ∙ c.in-Some.ensures.begins)
    added
    ∙ c.loop-left.invariant) c.push_first.ensures

pub loop-left-preserved : goal.loop-left-preserved
loop-left-preserved c =
    later_step c.args.selection.now c.loop-left.left.now _ c.line-item.result
    c.loop-left.found.items c.push_stray.new.found.items c.in-len1-up.len_at_least c.line-item.is
    refl (ap (λ k. is_attribute k.1) (sym c.line.view_is) ∙ c.in_default-sides_of.ensures)
    c.in_ok-push_stray.ensures
    ∙ c.loop-left.invariant

pub returns : goal.returns
returns c =
    last_step c.args.selection.now c.loop-left.left.now c.loop-left.found.items
    c.in_default.len_below ∙ c.loop-left.invariant
