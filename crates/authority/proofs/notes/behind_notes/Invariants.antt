use Rattle.std.proofs.Common.{◌≡◌, ◌++◌, drop, map, None}
use Rattle.std.specs.Option.{option_copied}
use Rattle.geo_terms.specs.declared.note.Rule.TheVariants.{P08}
use Rattle.authority.specs.Ranked.{behind, note_on}
use Rattle.authority.proofs.notes.behind_notes.Given as goal

-- the notes on the references that are left follow what was found
abbrev pub invariant-loop-reference : goal.invariant-loop-reference
invariant-loop-reference l =
    l.notes.items ++ map (note_on P08)
    (behind (option_copied l.first) (map (λ r. r.now) (drop l.reference-index l.ranked)))
    ≡ map (note_on P08) (behind None (map (λ r. r.now) l.ranked))
