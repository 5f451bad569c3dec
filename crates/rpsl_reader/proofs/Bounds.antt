-- What is kept between two bytes is bounded.
use Rattle.std.proofs.Common.{◌≡◌, ℕ, ◌+◌, Bool, true, false, cond, eqb, ltb, List, [], ◌∷◌, ◌++◌}
use Rattle.std.proofs.Common.{length, refl, arith}
use Rattle.std.proofs.lemmas.Bool.{ltb-false}
use Rattle.rpsl_reader.specs.Attributes.{Numbered, is_comment, is_end}
use Rattle.rpsl_reader.specs.Laws.{IsBounded, IsShort, StaysBounded}
use Rattle.rpsl_reader.specs.Objects.{longest, size}
use Rattle.rpsl_reader.specs.Reading.{Group, State, after, first_number, group_after, grown}
use Rattle.rpsl_reader.specs.Reading.{line_of, none, over, start, after_byte, with_line, within}
use Rattle.rpsl_reader.proofs.Opens.{size-push}
use Rattle.rpsl_reader.proofs.PieceLemmas.{grown_bounded}

with_stays : (g : Group) (l : Numbered) → IsShort g → IsShort (with_line g l)
unfolding with_line
with_stays (over n) l h = tt
with_stays (within ls) l h =
    let by : (t : Bool) → ltb longest (size ls + length l.1) ≡ t
    → IsShort (cond t (over (first_number ls l.0)) (within (ls ++ (l ∷ [])))) =
    λ t. elim t as (λ b. ltb longest (size ls + length l.1) ≡ b
    → IsShort (cond b (over (first_number ls l.0)) (within (ls ++ (l ∷ []))))) [
      | true ↦ λ e. tt
      | false ↦ λ e. omega (arith, size-push ls l.0 l.1, ltb-false longest (size ls + length l.1) e)
    ] in
    by (ltb longest (size ls + length l.1)) refl

after_stays : (g : Group) (l : Numbered) → IsShort g → IsShort (group_after g l)
unfolding group_after
after_stays g l h =
    elim (is_comment l.1) as (λ c. IsShort (cond c g (cond (is_end l.1) none (with_line g l)))) [
      | true ↦ h
      | false ↦ elim (is_end l.1) as (λ e. IsShort (cond e none (with_line g l))) [
        | true ↦ omega arith
        | false ↦ with_stays g l h
      ]
    ]

byte_stays : (s : State) (b : ℕ) → IsBounded s → IsBounded (after_byte s b)
byte_stays s b h =
    elim (eqb b 10) as (λ t. IsBounded (cond t (record {
      lines = s.lines + 1;
      pending = [];
      group = group_after s.group (line_of (s.lines + 1) s.pending);
    }) (record { lines = s.lines; pending = grown s.pending b; group = s.group }))) [
      | true ↦ record {
        pending = omega arith;
        group = after_stays s.group (line_of (s.lines + 1) s.pending) h.group;
      }
      | false ↦ record { pending = grown_bounded s.pending b h.pending; group = h.group }
    ]

stays : (s : State) (text : List ℕ) → IsBounded s → IsBounded (after s text)
unfolding after
stays s [] h = h
stays s (b ∷ text) h = stays (after_byte s b) text (byte_stays s b h)

pub stays_bounded : StaysBounded
stays_bounded text = stays start text (record { pending = omega arith; group = omega arith })
