-- `publish JOB BLOCK FILE`: the shortest feed of a block.
use Rattle.std.specs.Prelude.{ℕ, List, length, None}
use Rattle.geo_addr.specs.Ranges.{Prefix}
use Rattle.mmdb_file.specs.FileImage.{record_tree}
use Rattle.update_session.specs.Standing.{emitted}
use Rattle.published.specs.FeedText.{printed_line}
use Rattle.published.specs.PlaceLines.{published, published_lines}
use Rattle.job_run.specs.World.{World, Effect, puts}

-- the shortest feed that says of a block what the sources then in force say is put, and its line is
-- printed; for the bound of steps and the want of numbers it is an emit
abbrev pub publishing : (block : Prefix) → (file : List ℕ) → World → Effect
publishing block file world = record {
  name = file;
  blocked = None;
  files = puts (published (record_tree world.session.state.sources) block);
  session = emitted world.session;
  text =
      printed_line file (length (published_lines (record_tree world.session.state.sources) block));
}
