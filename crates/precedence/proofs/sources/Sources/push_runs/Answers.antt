use Rattle.std.proofs.Common.{◌∙◌, ◌++◌, ◌∷◌, List, [], ap, map, append_assoc, subst, sym}
use Rattle.std.specs.List.{flat_map}
use Rattle.geo_addr.specs.Ranges.{Ends}
use Rattle.geo_terms.specs.DelegationForm.{DelegationParts}
use Rattle.geo_terms.specs.SourceForm.{FeedParts, StatsParts}
use Rattle.geo_terms.specs.Sources.{InForce, references, rows_in}
use Rattle.geo_terms.specs.declared.statement.Override.{Override}
use Rattle.geo_terms.specs.declared.statement.Reference.{Reference}
use Rattle.source_changes.specs.CutPoints.{AreCutsOf}
use Rattle.authority.proofs.CutLemmas.{cuts_told}
use Rattle.cut_segments.proofs.CutLemmas.{gathered}
use Rattle.cut_segments.specs.CutPoints.{AreCutsInside}
use Rattle.precedence.proofs.FeedLemmas.{all_entries, entry_ranges}
use Rattle.precedence.specs.Runs.{points_of}
use Rattle.precedence.proofs.sources.Sources.push_runs.Goals as goal

abbrev ranges_of : InForce → List Ends
ranges_of s = map (λ (r : Reference). r.range) (references s)

abbrev rows_of : List StatsParts → List Ends
rows_of ts = map (λ (d : DelegationParts). d.range) (flat_map (λ t. t.rows) ts)

pub push_run-requires : goal.push_run-requires
push_run-requires c =
    (subst (AreCutsOf (ranges_of c.args.self.now)) (sym c.as_slice.ensures.value)
    c.requires.speakers.cuts).ascending

pub push_run-requires-2 : goal.push_run-requires-2
push_run-requires-2 c = c.cuts.ensures.ascending

pub returns : goal.returns
returns c none =
    let s : InForce = c.args.self.now in
    let bounds : List Ends = c.args.range ∷ [] in
    let refs : List Ends = ranges_of s in
    let ents : List Ends = entry_ranges (all_entries s.feeds) in
    let dels : List Ends = rows_of s.stats in
    let rows : List Ends = map (λ (o : Override). o.range) (rows_in s.overrides) in
    let first : AreCutsInside refs bounds (points_of c.push_run.new.runs.items) =
    gathered [] refs bounds c.as_slice.result.now (points_of c.args.runs.now.items)
    (points_of c.push_run.new.runs.items) none (subst (AreCutsOf refs)
    (sym c.as_slice.ensures.value) c.requires.speakers.cuts) c.in_ok-push_run.ensures in
    let second : AreCutsInside (refs ++ ents) bounds (points_of c.push_feed_runs.new.runs.items) =
    subst (λ (fs : List FeedParts). AreCutsInside (refs ++ entry_ranges (all_entries fs))
    bounds (points_of c.push_feed_runs.new.runs.items))
    (c.feeds.ensures.feeds ∙ ap (λ (t : InForce). t.feeds) c.self.view_is)
    (c.in_ok-push_feed_runs.ensures refs first) in
    let third : AreCutsInside ((refs ++ ents) ++ dels) bounds
    (points_of c.push_run-2.new.runs.items) =
    gathered (refs ++ ents) dels bounds c.cuts.result.now
    (points_of c.push_feed_runs.new.runs.items)
    (points_of c.push_run-2.new.runs.items) second
    (cuts_told (λ (d : DelegationParts). d.range) (flat_map (λ (t : StatsParts). t.rows) s.stats)
    c.args.delegations.now.index.firsts c.cuts.result.now c.requires.delegations.index.cuts
    c.cuts.ensures.same c.cuts.ensures.ascending) c.in_ok-push_run-2.ensures in
    subst (λ (rs : List Ends). AreCutsInside rs bounds (points_of c.push_run-3.new.runs.items))
    (append_assoc (refs ++ ents) dels rows ∙ append_assoc refs ents (dels ++ rows))
    (gathered ((refs ++ ents) ++ dels) rows bounds c.cuts-2.result.now
    (points_of c.push_run-2.new.runs.items) (points_of c.push_run-3.new.runs.items) third
    (subst (λ (t : InForce). AreCutsOf (map (λ (o : Override). o.range) (rows_in t.overrides))
    c.cuts-2.result.now) c.self.view_is c.cuts-2.ensures) c.in_ok-push_run-3.ensures)
