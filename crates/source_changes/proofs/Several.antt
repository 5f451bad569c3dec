-- The law for several calls.
use Rattle.std.proofs.Common.{List, [], ◌∷◌, ◌∙◌, refl}
use Rattle.std.specs.List.{AllByRecursion}
use Rattle.std.proofs.lemmas.List.Elements.{recursion_from_All}
use Rattle.geo_terms.specs.Sources.{InForce}
use Rattle.source_changes.specs.Changes.{Change, after, after_all, all_changes, changes}
use Rattle.source_changes.specs.Keeping.{AreSources, IsSound}
use Rattle.source_changes.specs.Laws.{IsKeptOutside, KeptByAll, KeptByOneMore}
use Rattle.source_changes.proofs.Law.{one_change}
use Rattle.source_changes.proofs.Orders.{order_does_not_matter}
use Rattle.source_changes.proofs.Partners.{touched_parts}
use Rattle.source_changes.proofs.Stays.{sources_stay}

pub kept_by_one_more : KeptByOneMore
kept_by_one_more before s c touched more h sound same kept a none =
    let parts = touched_parts touched more a none in
    kept a parts.0 ∙ one_change s c a h (sources_stay s c h sound)
    ((order_does_not_matter (changes c s) more same).1 a ∙ parts.1)

each_kept : (s : InForce) (cs : List Change) → AreSources s → AllByRecursion IsSound cs
    → IsKeptOutside (all_changes cs s) s (after_all cs s)
each_kept s [] h sound a none = refl
each_kept s (c ∷ cs) h sound a none =
    let next : AreSources (after c s) = sources_stay s c h sound.0 in
    let parts = touched_parts (changes c s) (all_changes cs (after c s)) a none in
    one_change s c a h next parts.0 ∙ each_kept (after c s) cs next sound.1 a parts.1

pub kept_by_all : KeptByAll
kept_by_all s cs h sound = each_kept s cs h (recursion_from_All IsSound cs sound)
