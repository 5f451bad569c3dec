-- One ground more.
use Rattle.std.proofs.Common.{◌&&◌, ◌||◌, ◌∙◌, ◌++◌, ◌∷◌, [], ℕ, Bool, Contains, List}
use Rattle.std.specs.Prelude.{IsTrue}
use Rattle.std.proofs.Common.{ap, arith, leb, refl, rules, sym, subst}
use Rattle.std.specs.Option.{option_to_list}
use Rattle.std.proofs.lemmas.List.{length-append}
use Rattle.std.proofs.lemmas.List.Elements.{All-append}
use Rattle.geo_addr.specs.Ranges.{Ends, ground_first, holds}
use Rattle.source_changes.specs.Touched.{is_touched}
use Rattle.cut_segments.specs.Segments.{BeginIn, starts_in}
use Rattle.cut_segments.proofs.JoinedLemmas.{and_or, begin_more, begins_at, below_more, one_at_most}
use Rattle.cut_segments.proofs.JoinedLemmas.{IsJoined, part_begins, passed_more, taken_more}
use Rattle.cut_segments.proofs.JoinedLemmas.{with_one}
use Rattle.cut_segments.proofs.joined.joined.Goals as goal
use Rattle.cut_segments.proofs.joined.joined.Goals.{in-Some-growing+in_ok-push, in_default-growing}

pub loop-next-init : goal.loop-next-init
loop-next-init c =
    rw (c.new-kept.ensures.items, c.new-rest.ensures.items) (record {
      taken = [];
      all = sym c.all-left.ensures;
      same = λ a. refl;
      below = search rules;
      few = omega arith;
      kept = search rules;
      rest = search rules;
      growing = search rules;
    })

pub loop-next-preserved : goal.loop-next-preserved
loop-next-preserved c =
    let gs = c.args.grounds.now in
    let chunk = c.args.chunk in
    let inv = c.loop-next.invariant in
    let taken = inv.taken in
    let g = c.in-Some.next in
    let part = c.part_in-part.result in
    let grown = c.in_ok-growing.ensures in
    let all = taken_more gs taken c.loop-next.left c.take.new.self g inv.all c.in-Some.ensures in
    let begun = grown.begun (starts_in gs chunk) inv.kept inv.rest inv.growing
    (part_begins gs taken c.take.new.self chunk g part all c.part_in-part.ensures.begun) in
    let more : IsJoined gs chunk c.grown_by.new.kept.items c.grown_by.new.rest.items
    c.in_ok-growing.growing c.take.new.self = record {
      taken = taken ++ g ∷ [];
      all = all;
      same = λ a.
          grown.same a
          ∙ ap (λ (b : Bool). b || is_touched (option_to_list part) a) (inv.same a)
          ∙ ap (λ (b : Bool). (is_touched taken a && (leb chunk.first a && leb a chunk.last))
          || b) (c.part_in-part.ensures.held a)
          ∙ and_or (is_touched taken a) (holds g a) (leb chunk.first a && leb a chunk.last)
          ∙ ap (λ (b : Bool). b && (leb chunk.first a && leb a chunk.last))
          (sym (with_one taken g a));
      below = below_more taken g c.part_in-part.ensures.within inv.below;
      few = omega (arith, grown.few, inv.few, one_at_most part, length-append taken (g ∷ []));
      kept = begun.0;
      rest = begun.1;
      growing = begun.2;
    } in
    passed_more gs chunk c.grown_by.new.kept.items c.grown_by.new.rest.items
    c.in_ok-growing.growing c.take.new.self c.pass_over.new.self c.pass_over.ensures.0
    c.found.result more c.pass_over.ensures.1.0 c.pass_over.ensures.1.1
    (subst (λ (rs : List Ends). (a : ℕ) → IsTrue (is_touched (option_to_list c.found.result) a)
    → IsTrue (is_touched rs a)) c.as_slice.ensures.value c.found.ensures)

pub returns-clause-begun : goal.returns-clause-begun
returns-clause-begun c =
    let starts = starts_in c.args.grounds.now c.args.chunk in
    let inv = c.loop-next.invariant in
    let kept : BeginIn starts c.match-growing.kept.items =
    elim c.match-growing.branch [
      | in-Some-growing+in_ok-push w ↦ rw w.kept-is
          (subst (BeginIn starts) (sym w.in_ok-push.ensures.items)
          (begin_more starts c.loop-next.kept.items w.in-Some-growing.last inv.kept
          (begins_at starts c.loop-next.growing w.in-Some-growing.last w.in-Some-growing.is
          inv.growing)))
      | in_default-growing w ↦ rw w.kept-is inv.kept
    ] in
    subst (BeginIn starts) (sym c.in_ok-append.ensures.items)
    (All-append (λ (r : Ends). Contains starts (ground_first r)) c.match-growing.kept.items
    c.loop-next.rest.items kept inv.rest)
