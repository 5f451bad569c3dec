use Rattle.std.proofs.Common.{List, map, subst, sym}
use Rattle.std.specs.Arc.{arc_value}
use Rattle.std.specs.Option.{IfSome}
use Rattle.geo_terms.specs.Precedence.{reference_cmp}
use Rattle.geo_terms.specs.declared.statement.Reference.{Reference}
use Rattle.first_index.specs.Answers.{AnswerAlike}
use Rattle.source_changes.specs.CutPoints.{AreCutsOf}
use Rattle.authority.specs.Held.{AreSpeakers, references_in}
use Rattle.authority.specs.Kinds.{IsKindIndex}
use Rattle.authority.proofs.CutLemmas.{cuts_moved}
use Rattle.authority.proofs.speakers.speakers_of.Goals as goal

pub returns : goal.returns
returns c =
    let rs : List Reference = references_in (map arc_value c.args.dumps.now) in
    let alike : AnswerAlike rs c.in_ok-index.index =
    subst (λ (xs : List Reference). AnswerAlike xs c.in_ok-index.index) c.in_ok-refs.ensures
    c.in_ok-index.ensures in
    let kind : IfSome c.in_ok-kind.kind
    (IsKindIndex reference_cmp (λ (r : Reference). r.range) c.in_ok-index.index) =
    subst (λ (xs : List Reference). IfSome c.in_ok-kind.kind
    (IsKindIndex reference_cmp (λ (r : Reference). r.range) xs)) c.references.ensures
    c.in_ok-kind.ensures in
    subst (AreSpeakers rs) (sym c.in_ok-made.ensures.ok)
    (record {
      index = alike;
      cuts =
          cuts_moved (λ (r : Reference). r.range) rs c.in_ok-index.index c.in_ok-cuts.cuts.items
          alike.same
          (subst (λ (xs : List Reference). AreCutsOf (map (λ (r : Reference). r.range) xs)
          c.in_ok-cuts.cuts.items) c.references-2.ensures c.in_ok-cuts.ensures);
      kind = kind;
    })
