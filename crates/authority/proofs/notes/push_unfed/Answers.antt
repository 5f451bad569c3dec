use Rattle.std.proofs.Common.{◌∙◌, ◌+◌, ◌++◌, cond, List, [], ◌∷◌, ap, sym, drop, append_assoc}
use Rattle.std.specs.List.{find}
use Rattle.std.specs.Option.{is_none}
use Rattle.geo_terms.specs.PlaceForm.{same_text}
use Rattle.geo_terms.specs.SourceForm.{FeedParts}
use Rattle.geo_terms.specs.declared.note.Note.{Note}
use Rattle.geo_terms.specs.declared.note.Rule.TheVariants.{P09}
use Rattle.authority.specs.Ranked.{note_on, unfed_in}
use Rattle.authority.proofs.NoteLemmas.{unfed_step}
use Rattle.authority.proofs.notes.push_unfed.Goals as goal

pub loop-reference-preserved : goal.loop-reference-preserved
loop-reference-preserved c =
    let fs : List FeedParts = c.args.feeds.now in
    let one : List Note =
    cond (is_none (find (λ (f : FeedParts). same_text f.url c.reference-item.result.url) fs))
    (note_on P09 c.reference-item.result ∷ []) [] in
    ap (λ (ns : List Note). ns
    ++ unfed_in (drop (c.loop-reference.reference-index + 1) c.args.refs.now) fs)
    c.in_ok-push_if_unfed.ensures
    ∙ append_assoc c.loop-reference.notes.items one
    (unfed_in (drop (c.loop-reference.reference-index + 1) c.args.refs.now) fs)
    ∙ ap (λ (ns : List Note). c.loop-reference.notes.items ++ ns)
    (sym (unfed_step fs c.args.refs.now c.loop-reference.reference-index c.reference-item.result
    c.reference-item.is c.loop-reference-test.true))
    ∙ c.loop-reference.invariant
