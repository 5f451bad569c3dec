-- Notes that tie in a report are equal, so notes in a report's order are the report.
use Rattle.std.proofs.Common.{◌≡◌, ℕ, List, Option, Some, Ordering, refl, sym, ap, ◌∙◌, [], ◌∷◌}
use Rattle.std.specs.Cmp.{IsTotalOrder}
use Rattle.std.specs.List.{find}
use Rattle.std.specs.Ordering.{nat_cmp, ordering_then}
use Rattle.std.proofs.lemmas.Cmp.{nat_cmp_total, nat_list_cmp_total, on_total, then_total}
use Rattle.std.proofs.lemmas.Map.Lookups.{exact_bytes, exact_unsigned}
use Rattle.geo_terms.specs.NoteText.{code_of, kind_rank, name_of, note_cmp}
use Rattle.geo_terms.specs.PlaceForm.{same_text}
use Rattle.geo_terms.specs.Precedence.{text_cmp}
use Rattle.geo_terms.specs.declared.note.Note.{Note}
use Rattle.geo_terms.specs.declared.note.Origin.{Origin}
use Rattle.geo_terms.specs.declared.note.Origin.TheVariants.{Rpsl, Feed, Stats, Overrides}
use Rattle.geo_terms.specs.declared.note.Rule.{Rule}
use Rattle.geo_terms.specs.declared.note.Rule.TheVariants.{P01, P02, P03, P04, P05, P06, P07, P08}
use Rattle.geo_terms.specs.declared.note.Rule.TheVariants.{P09, P10, F01, F02, F03, F04, F05, F06}
use Rattle.geo_terms.specs.declared.note.Rule.TheVariants.{F07, F08, F09, F10, F11, S01, S02, S03}
use Rattle.geo_terms.specs.declared.note.Rule.TheVariants.{S04, S05, S06, S07, O01, O02, O03, O04}
use Rattle.geo_terms.specs.declared.note.Rule.TheVariants.{O05, O06, O07, O08, A01}

pub note_total : IsTotalOrder note_cmp
unfolding note_cmp
note_total =
    then_total (on_total (λ (n : Note). kind_rank n.origin) nat_cmp_total)
    (then_total (on_total (λ (n : Note). name_of n.origin) nat_list_cmp_total)
    (then_total (on_total (λ (n : Note). n.line) nat_cmp_total)
    (on_total (λ (n : Note). code_of n.rule) nat_list_cmp_total)))

equal_first : (x y : Ordering) → ordering_then x y ≡ Ordering.Equal → x ≡ Ordering.Equal
equal_first Ordering.Less y e = e
equal_first Ordering.Equal y e = refl
equal_first Ordering.Greater y e = e

equal_then : (x y : Ordering) → ordering_then x y ≡ Ordering.Equal → y ≡ Ordering.Equal
equal_then Ordering.Less y e = absurd cc
equal_then Ordering.Equal y e = e
equal_then Ordering.Greater y e = absurd cc

-- the rules, to be found by their codes
rules_all : List Rule
rules_all =
    P01 ∷ P02 ∷ P03 ∷ P04 ∷ P05 ∷ P06 ∷ P07 ∷ P08 ∷ P09 ∷ P10 ∷ F01 ∷ F02 ∷ F03 ∷ F04 ∷ F05 ∷ F06
    ∷ F07 ∷ F08 ∷ F09 ∷ F10 ∷ F11 ∷ S01 ∷ S02 ∷ S03 ∷ S04 ∷ S05 ∷ S06 ∷ S07 ∷ O01 ∷ O02 ∷ O03 ∷ O04
    ∷ O05 ∷ O06 ∷ O07 ∷ O08 ∷ A01 ∷ []

rule_of : List ℕ → Option Rule
rule_of code = find (λ r. same_text (code_of r) code) rules_all

named : (r : Rule) → rule_of (code_of r) ≡ Some r
unfolding code_of rule_of rules_all
named P01 = refl
named P02 = refl
named P03 = refl
named P04 = refl
named P05 = refl
named P06 = refl
named P07 = refl
named P08 = refl
named P09 = refl
named P10 = refl
named F01 = refl
named F02 = refl
named F03 = refl
named F04 = refl
named F05 = refl
named F06 = refl
named F07 = refl
named F08 = refl
named F09 = refl
named F10 = refl
named F11 = refl
named S01 = refl
named S02 = refl
named S03 = refl
named S04 = refl
named S05 = refl
named S06 = refl
named S07 = refl
named O01 = refl
named O02 = refl
named O03 = refl
named O04 = refl
named O05 = refl
named O06 = refl
named O07 = refl
named O08 = refl
named A01 = refl

same_rule : (x y : Rule) → code_of x ≡ code_of y → x ≡ y
same_rule x y e = some (sym (named x) ∙ ap rule_of e ∙ named y)
  where
    some : Some x ≡ Some y → x ≡ y
    some f = cc

same_origin : (x y : Origin) → kind_rank x ≡ kind_rank y → name_of x ≡ name_of y → x ≡ y
unfolding name_of
same_origin (Rpsl s) (Rpsl t) k n = ap Rpsl n
same_origin (Rpsl s) (Feed t) k n = absurd cc
same_origin (Rpsl s) (Stats t) k n = absurd cc
same_origin (Rpsl s) Overrides k n = absurd cc
same_origin (Feed s) (Rpsl t) k n = absurd cc
same_origin (Feed s) (Feed t) k n = ap Feed n
same_origin (Feed s) (Stats t) k n = absurd cc
same_origin (Feed s) Overrides k n = absurd cc
same_origin (Stats s) (Rpsl t) k n = absurd cc
same_origin (Stats s) (Feed t) k n = absurd cc
same_origin (Stats s) (Stats t) k n = ap Stats n
same_origin (Stats s) Overrides k n = absurd cc
same_origin Overrides (Rpsl t) k n = absurd cc
same_origin Overrides (Feed t) k n = absurd cc
same_origin Overrides (Stats t) k n = absurd cc
same_origin Overrides Overrides k n = refl

note_of : Origin → ℕ → Rule → Note
note_of o l r = record { origin = o; line = l; rule = r }

-- notes that tie are equal: kind, name, line and code tell a note
pub note_exact : (x y : Note) → note_cmp x y ≡ Ordering.Equal → x ≡ y
unfolding note_cmp note_of
note_exact x y tie =
    let by_kind = equal_first (nat_cmp (kind_rank x.origin) (kind_rank y.origin)) _ tie in
    let rest = equal_then (nat_cmp (kind_rank x.origin) (kind_rank y.origin)) _ tie in
    let by_name = equal_first (text_cmp (name_of x.origin) (name_of y.origin)) _ rest in
    let more = equal_then (text_cmp (name_of x.origin) (name_of y.origin)) _ rest in
    let by_line = equal_first (nat_cmp x.line y.line) _ more in
    let by_code = equal_then (nat_cmp x.line y.line) _ more in
    let origin : x.origin ≡ y.origin =
    same_origin x.origin y.origin (exact_unsigned _ _ by_kind) (exact_bytes _ _ by_name) in
    let line : x.line ≡ y.line = exact_unsigned _ _ by_line in
    let rule : x.rule ≡ y.rule = same_rule x.rule y.rule (exact_bytes _ _ by_code) in
    ap (λ o. note_of o x.line x.rule) origin ∙ ap (λ l. note_of y.origin l x.rule) line
    ∙ ap (λ r. note_of y.origin y.line r) rule
