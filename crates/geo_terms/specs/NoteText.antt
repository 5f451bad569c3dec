-- The text of a note, and the order of notes in a report.
use Rattle.std.specs.Prelude.{ℕ, List, [], ◌∷◌, ◌++◌, codes, decimal}
use Rattle.std.specs.declared.cmp.Ordering.{Ordering}
use Rattle.std.specs.Ordering.{nat_cmp, ordering_then}
use Rattle.geo_terms.specs.Precedence.{text_cmp}
use Rattle.geo_terms.specs.declared.note.Note.{Note}
use Rattle.geo_terms.specs.declared.note.Origin.{Origin}
use Rattle.geo_terms.specs.declared.note.Origin.TheVariants.{Rpsl, Feed, Stats, Overrides}
use Rattle.geo_terms.specs.declared.note.Rule.{Rule}
use Rattle.geo_terms.specs.declared.note.Rule.TheVariants.{P01, P02, P03, P04, P05, P06, P07, P08}
use Rattle.geo_terms.specs.declared.note.Rule.TheVariants.{P09, P10, F01, F02, F03, F04, F05, F06}
use Rattle.geo_terms.specs.declared.note.Rule.TheVariants.{F07, F08, F09, F10, F11, S01, S02, S03}
use Rattle.geo_terms.specs.declared.note.Rule.TheVariants.{S04, S05, S06, S07, O01, O02, O03, O04}
use Rattle.geo_terms.specs.declared.note.Rule.TheVariants.{O05, O06, O07, O08, A01}

-- the code of a rule, as it is printed
unfoldable pub code_of : Rule → List ℕ
code_of P01 = codes "P01"
code_of P02 = codes "P02"
code_of P03 = codes "P03"
code_of P04 = codes "P04"
code_of P05 = codes "P05"
code_of P06 = codes "P06"
code_of P07 = codes "P07"
code_of P08 = codes "P08"
code_of P09 = codes "P09"
code_of P10 = codes "P10"
code_of F01 = codes "F01"
code_of F02 = codes "F02"
code_of F03 = codes "F03"
code_of F04 = codes "F04"
code_of F05 = codes "F05"
code_of F06 = codes "F06"
code_of F07 = codes "F07"
code_of F08 = codes "F08"
code_of F09 = codes "F09"
code_of F10 = codes "F10"
code_of F11 = codes "F11"
code_of S01 = codes "S01"
code_of S02 = codes "S02"
code_of S03 = codes "S03"
code_of S04 = codes "S04"
code_of S05 = codes "S05"
code_of S06 = codes "S06"
code_of S07 = codes "S07"
code_of O01 = codes "O01"
code_of O02 = codes "O02"
code_of O03 = codes "O03"
code_of O04 = codes "O04"
code_of O05 = codes "O05"
code_of O06 = codes "O06"
code_of O07 = codes "O07"
code_of O08 = codes "O08"
code_of A01 = codes "A01"

-- the kind of a source, as it is printed
unfoldable pub kind_of : Origin → List ℕ
kind_of (Rpsl slot) = codes "rpsl"
kind_of (Feed url) = codes "feed"
kind_of (Stats slot) = codes "stats"
kind_of Overrides = codes "overrides"

-- the slot or the URL of a source
unfoldable pub name_of : Origin → List ℕ
name_of (Rpsl slot) = slot
name_of (Feed url) = url
name_of (Stats slot) = slot
name_of Overrides = codes "-"

-- the line of a note in a report: kind, name, line and code
unfoldable pub note_line : Note → List ℕ
note_line n =
    kind_of n.origin
    ++ (32 ∷ (name_of n.origin ++ (32 ∷ (decimal n.line ++ (32 ∷ (code_of n.rule ++ (10 ∷ [])))))))

-- where a kind stands in a report: dumps, feeds, statistics, overrides
abbrev pub kind_rank : Origin → ℕ
kind_rank (Rpsl slot) = 0
kind_rank (Feed url) = 1
kind_rank (Stats slot) = 2
kind_rank Overrides = 3

-- the order of a report: by kind, by slot or URL, by line, by code
unfoldable pub note_cmp : Note → Note → Ordering
note_cmp x y =
    ordering_then (nat_cmp (kind_rank x.origin) (kind_rank y.origin))
    (ordering_then (text_cmp (name_of x.origin) (name_of y.origin))
    (ordering_then (nat_cmp x.line y.line) (text_cmp (code_of x.rule) (code_of y.rule))))
