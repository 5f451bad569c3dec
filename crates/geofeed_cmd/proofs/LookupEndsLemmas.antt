-- How a lookup comes out.
use Rattle.std.proofs.Common.{◌≡◌, ◌≤◌, ◌<◌, ℕ, List, length, refl, ap, ◌∙◌}
use Rattle.std.specs.Prelude.{Option, Some, None}
use Rattle.std.specs.FinMap as map
use Rattle.geo_addr.specs.Bits.{bits_of}
use Rattle.geo_outside.specs.Files.{Told}
use Rattle.mmdb_file.specs.Walk.{walk}
use Rattle.job_run.specs.declared.stop.Cause.{Cause}
use Rattle.job_run.specs.declared.stop.Cause.TheVariants.{TooLong}
use Rattle.job_lines.specs.Commands.{lookup}
use Rattle.file_lookup.specs.Lookup.{answer, answer_of, looked}
use Rattle.geofeed_cmd.specs.Run.LookupEnds.{EndsByCases}
use Rattle.geofeed_cmd.specs.Run.Ending.{Ending, ending, ending_by}
use Rattle.geofeed_cmd.specs.Run.Plans.{answer_plan, answered_in, longest_file, lookup_plan}
use Rattle.geofeed_cmd.specs.Run.Plans.{unless_unreadable}
use Rattle.job_run.proofs.ActLemmas.{readable, unreadable-long, unreadable-none}

answer_is : (bytes : List ℕ) (address : ℕ)
    → answer bytes address ≡ answer_of (walk bytes (bits_of 128 address))
unfolding answer looked
answer_is bytes address = refl

module _ (first : Told) (name : List ℕ) (address : ℕ) where
  abbrev ends_with : Option (List ℕ) → Ending
  ends_with file = ending_by first (lookup_plan first name address file)

  abbrev unless_ends : Option (List ℕ) → Option Cause → Ending
  unless_ends file why =
      ending_by first (unless_unreadable why name (answered_in address first name file))

  within : (file : List ℕ) (held : map.get first.held name ≡ Some file) → length file ≤ longest_file
      → ending first (Some (lookup name address))
      ≡ ending_by first (answer_plan first name (answer_of (walk file (bits_of 128 address))))
  within file held short =
      ap ends_with held ∙ ap (unless_ends (Some file)) (readable longest_file file short)
      ∙ ap (λ a. ending_by first (answer_plan first name a)) (answer_is file address)

  over : (file : List ℕ) (held : map.get first.held name ≡ Some file) → longest_file < length file
      → ending first (Some (lookup name address)) ≡ unless_ends (Some file) (Some TooLong)
  over file held above =
      ap ends_with held
      ∙ ap (unless_ends (Some file)) (unreadable-long longest_file (Some file) above)

  pub ends_by_cases : EndsByCases first name address
  ends_by_cases = record {
    missing =
        λ held. ap ends_with held ∙ ap (unless_ends None) (unreadable-none longest_file None refl);
    long = λ file held above. over file held above;
    damaged =
        λ file barrier held short stands. within file held short
        ∙ ap (λ a. ending_by first (answer_plan first name (answer_of a))) stands;
    answered =
        λ file found held short leads. within file held short
        ∙ ap (λ a. ending_by first (answer_plan first name (answer_of a))) leads;
  }
