-- Feeds that are set together: what was read for each line, and what was made of it.
use Rattle.std.specs.Prelude.{◌≡◌, ◌≢◌, ℕ, ◌<◌, ◌⊎◌, List, [], ◌∷◌, ◌++◌, map, take, slice_get}
use Rattle.std.specs.Prelude.{Option, Some, None, Result, Ok, Err}
use Rattle.std.specs.List.{AllZip}
use Rattle.std.specs.FinMap as files
use Rattle.feed_csv.specs.File.{feed, longest}
use Rattle.geo_outside.specs.Files.{Told}
use Rattle.geo_terms.specs.SourceForm.{FeedParts}
use Rattle.job_lines.specs.declared.act.Act.TheVariants.{Feed}
use Rattle.job_lines.specs.declared.job.Step.{Step}
use Rattle.source_changes.specs.Changes.{SetFeed}
use Rattle.update_session.specs.Standing.{Standing, changed}
use Rattle.job_run.specs.Sources.{file_named, no_feed, unreadable}
use Rattle.job_run.specs.Stops.{IsHindered}
use Rattle.job_run.specs.declared.feeds.Held.{Held}
use Rattle.job_run.specs.declared.stop.Cause.{Cause}
use Rattle.job_run.specs.declared.stop.Cause.TheVariants.{Missing, Words}
use Rattle.job_run.specs.declared.stop.Stop.{Stop}
use Rattle.job_run.specs.declared.stop.Stop.TheVariants.{Blocked, ReadFailed, Memory}

-- why the file of a line cannot be read
abbrev pub no_read : Told → Step → Option Cause
no_read told step = unreadable longest (files.get told.held (file_named step.act))

-- the file of a line was read
pub record IsRead (told : Told) (step : Step) (held : Held) : Type 0 where
  pub file : List ℕ
  pub is : step.act ≡ Feed held.url.now file
  pub there : files.get told.held file ≡ Some held.bytes.items
  pub readable : unreadable longest (Some held.bytes.items) ≡ None

-- the files of the lines before this index can be read, and that of this one was not
pub record HaltsReading (told : Told) (steps : List Step) (why : Stop)
    (at : ℕ) : Type 0 where
  pub step : Step
  pub named : slice_get steps at ≡ Some step
  pub before : (k : ℕ) (earlier : Step) → k < at → slice_get steps k ≡ Some earlier
      → no_read told earlier ≡ None
  pub hindered : IsHindered why (λ cause. no_read told step ≡ Some cause)

-- bytes are no feed, or memory ran out
pub record IsNoFeed (held : Held) (why : Stop) : Type 0 where
  pub hindered : IsHindered why (λ cause. no_feed (Some held.bytes.items) ≡ Some cause)
  pub read : (why ≢ ReadFailed) × (why ≢ Blocked Missing) × (why ≢ Blocked Words)

-- what is made of what was read
abbrev pub Parses : Held → Result FeedParts Stop → Type 0
Parses held (Ok found) = (found ≡ feed held.url.now held.bytes.items)
    × (no_feed (Some held.bytes.items) ≡ None)
Parses held (Err why) = IsNoFeed held why

-- more of what was read is parsed, behind what was before
abbrev pub ParsesMore : List Held → (before after : List (Result FeedParts Stop)) → Type 0
ParsesMore more before after =
    (done : List Held) → AllZip Parses done before → AllZip Parses (done ++ more) after

-- of what was read, all but the last run is parsed
pub record ParsesAllBut (run held : List Held)
    (parsed : List (Result FeedParts Stop)) : Type 0 where
  pub done : List Held
  pub is : done ++ run ≡ held
  pub made : AllZip Parses done parsed

-- this is the first of what was made that is no feed
pub record IsFirstRefused (parsed : List (Result FeedParts Stop)) (why : Stop)
    (at : ℕ) : Type 0 where
  pub there : slice_get parsed at ≡ Some (Err why)
  pub feeds : List FeedParts
  pub before : take at parsed ≡ map Ok feeds

-- of what was read, the first that is no feed, or memory ran out
pub record IsFirstNoFeed (held : List Held) (why : Stop) (at : ℕ) : Type 0 where
  pub item : Held
  pub named : slice_get held at ≡ Some item
  pub none : IsNoFeed item why
  pub before : (k : ℕ) (earlier : Held) → k < at → slice_get held k ≡ Some earlier
      → no_feed (Some earlier.bytes.items) ≡ None

abbrev pub RefusesParsing : List Held → Stop → ℕ → Type 0
RefusesParsing held why at = IsFirstNoFeed held why at ⊎ ((why ≡ Memory) × (at ≡ 0))

-- where the session stands after feeds were set one after another
abbrev pub with_feeds : List FeedParts → Standing → Standing
with_feeds [] session = session
with_feeds (found ∷ more) session = with_feeds more (changed (SetFeed found) session)
