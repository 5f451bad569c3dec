-- What a record says, by its type and its status, each looked at once.
use Rattle.std.proofs.Common.{◌≡◌, ℕ, Bool, true, false, cond, List, ◌||◌, Option, Some, None, refl}
use Rattle.std.proofs.Common.{◌∙◌}
use Rattle.std.specs.Prelude.{codes, not}
use Rattle.geo_terms.specs.PlaceForm.{same_text}
use Rattle.geo_terms.specs.declared.note.Rule.TheVariants.{S02, S03}
use Rattle.nro_stats.specs.Outcomes.{judged, placed_in, v4_range, v6_range}
use Rattle.nro_stats.specs.Words.{held, holding_in, kind_in}
use Rattle.nro_stats.specs.declared.outcome.LineOutcome.{LineOutcome}
use Rattle.nro_stats.specs.declared.outcome.LineOutcome.TheVariants.{Silent, Broken}
use Rattle.nro_stats.specs.declared.resource.Holding.{Holding}
use Rattle.nro_stats.specs.declared.resource.Holding.TheVariants.{Held, Free}
use Rattle.nro_stats.specs.declared.resource.Kind.{Kind}
use Rattle.nro_stats.specs.declared.resource.Kind.TheVariants.{Systems, V4, V6}

-- what a record says, by what its type and its status say
abbrev pub by_words : Option Kind → Option Holding → (country start value : List ℕ) → LineOutcome
by_words None holding country start value = Broken S02
by_words (Some kind) None country start value = Broken S03
by_words (Some kind) (Some Free) country start value = Silent
by_words (Some kind) (Some Held) country start value = held kind country start value

-- three tests, the last two together
any_of : (a b c : Bool) → (a || b || c) ≡ (a || (b || c))
any_of true b c = refl
any_of false b c = refl

module _ (country start value : List ℕ) where
  -- the same by tests of the two texts: is it this type, does anybody hold it, is it free
  by_tests : (asn four six held free : Bool)
      → cond (not (asn || four || six)) (Broken S02)
      (cond (not (held || free)) (Broken S03)
      (cond (asn || free) Silent
      (placed_in (cond four (v4_range start value) (v6_range start value)) country)))
      ≡ by_words (cond asn (Some Systems) (cond four (Some V4) (cond six (Some V6) None)))
      (cond free (Some Free) (cond held (Some Held) None)) country start value
  by_tests false false false held free = refl
  by_tests true four six true true = refl
  by_tests true four six false true = refl
  by_tests true four six true false = refl
  by_tests true four six false false = refl
  by_tests false true six true true = refl
  by_tests false true six false true = refl
  by_tests false true six true false = refl
  by_tests false true six false false = refl
  by_tests false false true true true = refl
  by_tests false false true false true = refl
  by_tests false false true true false = refl
  by_tests false false true false false = refl

pub judged_by_words : (country kind start value status : List ℕ)
    → judged country kind start value status
    ≡ by_words (kind_in kind) (holding_in status) country start value
unfolding judged kind_in holding_in
judged_by_words country kind start value status =
    let asn = same_text kind (codes "asn") in
    let four = same_text kind (codes "ipv4") in
    let six = same_text kind (codes "ipv6") in
    let held = same_text status (codes "allocated") || same_text status (codes "assigned") in
    let available = same_text status (codes "available") in
    let reserved = same_text status (codes "reserved") in
    let said : Bool → Bool → LineOutcome =
    λ known silent. cond (not (asn || four || six)) (Broken S02)
    (cond (not known) (Broken S03)
    (cond silent Silent
    (placed_in (cond four (v4_range start value) (v6_range start value)) country))) in
    (λ i. said (any_of held available reserved i) (any_of asn available reserved i))
    ∙ by_tests country start value asn four six held (available || reserved)
