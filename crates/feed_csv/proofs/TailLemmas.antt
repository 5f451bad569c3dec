-- What lines say that end as an earlier one does.
use Rattle.std.proofs.Common.{◌≡◌, ◌∙◌, ℕ, Bool, false, cond, List, ap}
use Rattle.std.specs.Prelude.{Result, Ok}
use Rattle.geo_addr.specs.Prefixes.{block_in}
use Rattle.geo_addr.specs.Ranges.{Prefix}
use Rattle.geo_addr.specs.declared.fault.BlockFault.{BlockFault}
use Rattle.geo_terms.specs.PlaceForm.{PlaceParts, is_empty}
use Rattle.geo_terms.specs.declared.note.Rule.TheVariants.{F03}
use Rattle.geo_terms.specs.declared.place.Said.TheVariants.{At}
use Rattle.csv_lines.specs.Rests.{column, rest_of, row_of}
use Rattle.csv_lines.specs.Tails.{IsCut, SaysBehind}
use Rattle.csv_lines.specs.declared.rest.Content.{Content}
use Rattle.feed_csv.specs.Outcomes.{accepted_at, located_at, outcome, outcome_by}
use Rattle.feed_csv.specs.declared.outcome.LineOutcome.TheVariants.{Broken, Accepted}

-- a line with this tail and this block in front is accepted
pub tail_outcome : (line first tail : List ℕ) (block : Prefix) (place : PlaceParts)
    → IsCut line first tail → SaysBehind line first place → block_in first ≡ Ok block
    → outcome line ≡ Accepted block (At place)
unfolding outcome
tail_outcome line first tail block place cut says is =
    let row = row_of (rest_of line) in
    let some : is_empty (column 0 row) ≡ false = ap is_empty says.word ∙ cut.some in
    let at : block_in (column 0 row) ≡ Ok block = ap block_in says.word ∙ is in
    ap (λ (c : Content). outcome_by c row) says.content
    ∙ ap (λ (x : Bool). cond x (Broken F03) (located_at (block_in (column 0 row)) row)) some
    ∙ ap (λ (b : Result Prefix BlockFault). located_at b row) at
    ∙ ap (accepted_at block) says.said
