-- What a command has before it, and the moves that it makes.
use Rattle.std.specs.Prelude.{ℕ, List, [], ◌++◌, Option, None}
use Rattle.std.specs.FinMap as map
use Rattle.geo_outside.specs.Files.{Told, after_put}
use Rattle.update_session.specs.Standing.{Standing}
use Rattle.job_run.specs.declared.stop.Cause.{Cause}

-- what there is at a moment of a command: the folder's files and puts, where the session stands,
-- and what the command printed
pub record World : Type 0 where
  pub told : Told
  pub session : Standing
  pub text : List ℕ

-- the bytes of a name in the folder
abbrev pub file_in : World → List ℕ → Option (List ℕ)
file_in world name = map.get world.told.held name

-- what a move does to files
pub data Handling : Type 0 where
  untouched : Handling
  reads : Handling
  puts : (bytes : List ℕ) → Handling

-- what a move does: the name that it reads, puts or asks for; why it cannot be made, if it cannot;
-- what it does to files; and, where it is made, where the session stands then, and what is printed
pub record Effect : Type 0 where
  pub name : List ℕ
  pub blocked : Option Cause
  pub files : Handling
  pub session : Standing
  pub text : List ℕ

-- the effect of a move that only prints
abbrev pub printing : List ℕ → World → Effect
printing text world = record {
  name = [];
  blocked = None;
  files = untouched;
  session =
      world.session;
  text = text;
}

-- the files and the puts after a name was handled
abbrev pub handled : Handling → (name : List ℕ) → Told → Told
handled untouched name told = told
handled reads name told = told
handled (puts bytes) name told = after_put told name bytes

-- what there is after a move with this effect was made
abbrev pub made : Effect → World → World
made effect world = record {
  told = handled effect.files effect.name world.told;
  session = effect.session;
  text = world.text ++ effect.text;
}
