-- What is printed of verdicts and of counts.
use Rattle.std.specs.Prelude.{ℕ, List, [], ◌∷◌, ◌++◌, flat_map, length, codes, decimal}
use Rattle.geo_terms.specs.NoteText.{code_of}
use Rattle.check_census.specs.declared.count.Count.{Count}
use Rattle.check_census.specs.declared.verdict.Ruling.{Ruling}
use Rattle.check_census.specs.declared.verdict.Ruling.TheVariants.{Speaks, Shadowed, Uncovered}
use Rattle.check_census.specs.declared.verdict.Ruling.TheVariants.{Refused}
use Rattle.check_census.specs.declared.verdict.Verdict.{Verdict}

-- what is said of a line, after its number
unfoldable pub ruling_words : Ruling → List ℕ
ruling_words (Speaks slot object) = codes "speaks " ++ (slot ++ (32 ∷ decimal object))
ruling_words (Shadowed slot object) = codes "shadowed " ++ (slot ++ (32 ∷ decimal object))
ruling_words Uncovered = codes "uncovered"
ruling_words (Refused rule) = codes "refused " ++ code_of rule

unfoldable pub verdict_line : Verdict → List ℕ
verdict_line v = decimal v.line ++ (32 ∷ (ruling_words v.ruling ++ (10 ∷ [])))

-- a line for each verdict, and how many there are
unfoldable pub verdict_lines : List Verdict → List ℕ
verdict_lines vs = flat_map verdict_line vs
    ++ (codes "lines " ++ (decimal (length vs) ++ (10 ∷ [])))

-- a country, or a dash where there is none
abbrev pub country_word : List ℕ → List ℕ
country_word [] = codes "-"
country_word (b ∷ bs) = b ∷ bs

unfoldable pub count_line : Count → List ℕ
count_line n = country_word n.country ++ (32 ∷ (decimal n.v4 ++ (32 ∷ (decimal n.v6 ++ (10 ∷ [])))))

-- a line for each country, and how many there are
unfoldable pub count_lines : List Count → List ℕ
count_lines ns = flat_map count_line ns
    ++ (codes "countries " ++ (decimal (length ns) ++ (10 ∷ [])))
