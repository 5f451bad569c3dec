use Rattle.std.proofs.Common.{◌∙◌, ◌++◌, List, [], ◌∷◌, ℕ, ap, map, append_assoc, subst, sym, arith}
use Rattle.std.specs.Prelude.{find}
use Rattle.std.proofs.lemmas.Result.{IfOk-weaker}
use Rattle.geo_addr.specs.Ranges.{AreCuts, Ends, IsRange}
use Rattle.geo_terms.specs.PlaceForm.{same_text}
use Rattle.geo_terms.specs.SourceForm.{FeedParts}
use Rattle.geo_terms.specs.Sources.{InForce, entries_in, feed_of, references}
use Rattle.geo_terms.specs.declared.statement.Reference.{Reference}
use Rattle.source_changes.specs.CutPoints.{AreCutsOf, whole}
use Rattle.cut_segments.proofs.CutLemmas.{cuts_inside_one, gathered, none_gathered}
use Rattle.cut_segments.specs.CutPoints.{AreCutsInside}
use Rattle.precedence.proofs.FeedLemmas.{entry_ranges}
use Rattle.precedence.proofs.sources.Sources.hearing_points.Goals as goal

abbrev ranges_of : InForce → List Ends
ranges_of s = map (λ (r : Reference). r.range) (references s)

all_of_space : IsRange whole
all_of_space = record { ordered = omega arith; within = omega arith }

pub push_inside-requires-clause-ascending : goal.push_inside-requires-clause-ascending
push_inside-requires-clause-ascending c =
    (subst (AreCutsOf (ranges_of c.args.self.now)) (sym c.as_slice.ensures.value)
    c.requires.speakers.cuts).ascending

pub returns-clause-exact : goal.returns-clause-exact
returns-clause-exact c =
    let s : InForce = c.args.self.now in
    let bounds : List Ends = c.whole.result ∷ [] in
    let refs : List Ends = ranges_of s in
    let ents : List Ends = entry_ranges (entries_in (feed_of s c.args.url.now)) in
    let points : List ℕ = c.push_inside-2.new.found.items in
    let none : AreCutsInside [] bounds c.in_ok-points.points.items =
    subst (λ (xs : List ℕ). AreCutsInside [] bounds xs)
    (sym c.in_ok-points.ensures.items) (none_gathered bounds) in
    let first : AreCutsInside refs bounds c.push_inside.new.found.items =
    gathered [] refs bounds c.as_slice.result.now c.in_ok-points.points.items
    c.push_inside.new.found.items none (subst (AreCutsOf refs)
    (sym c.as_slice.ensures.value) c.requires.speakers.cuts) c.in_ok-push_inside.ensures in
    let second : AreCutsInside (refs ++ ents) bounds c.push_feed_inside.new.cuts.items =
    subst (λ (fs : List FeedParts). AreCutsInside (refs ++ entry_ranges (entries_in
    (find (λ (f : FeedParts). same_text f.url c.args.url.now) fs)))
    bounds c.push_feed_inside.new.cuts.items)
    (c.feeds.ensures.feeds ∙ ap (λ (t : InForce). t.feeds) c.self.view_is)
    (c.in_ok-push_feed_inside.ensures refs first) in
    let exact : (ranges : List Ends) → AreCutsOf ranges c.args.more.now → (xs : List ℕ)
    → ((rs bs : List Ends) → AreCutsInside rs bs points → AreCutsInside rs bs xs)
    → AreCuts (refs ++ (ents ++ ranges)) whole xs =
    λ ranges of xs same.
    subst (λ (rs : List Ends). AreCuts rs whole xs) (append_assoc refs ents ranges)
    (subst (λ (within : Ends). AreCuts ((refs ++ ents) ++ ranges) within xs) c.whole.ensures
    (cuts_inside_one ((refs ++ ents) ++ ranges) c.whole.result xs
    (subst IsRange (sym c.whole.ensures) all_of_space)
    (same ((refs ++ ents) ++ ranges) bounds
    (gathered (refs ++ ents) ranges bounds c.args.more.now c.push_feed_inside.new.cuts.items points
    second of c.in_ok-push_inside-2.ensures)))) in
    IfOk-weaker c.in_order.result (λ sorted. (rs bs : List Ends)
    → AreCutsInside rs bs points → AreCutsInside rs bs sorted.items)
    (λ sorted. (ranges : List Ends) → AreCutsOf ranges c.args.more.now
    → AreCuts (refs ++ (ents ++ ranges)) whole sorted.items)
    (λ sorted same ranges of. exact ranges of sorted.items same) c.in_order.ensures.same
