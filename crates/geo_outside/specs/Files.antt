-- Files by their names, what was put, and what one call does to both.
use Rattle.std.specs.Prelude.{◌≡◌, ◌≢◌, ℕ, ◌≤◌, ◌↔◌, List, [], ◌∷◌, ◌++◌, length, take, drop}
use Rattle.std.specs.List.{fold}
use Rattle.std.specs.Ordering.{nat_cmp}
use Rattle.std.specs.Cmp.Lexicographic.{slice_cmp}
use Rattle.std.specs.FinMap as map

-- the bytes of each name that is held
abbrev pub Files : Type 0
Files = map.FinMap (slice_cmp nat_cmp) (List ℕ)

-- what a folder tells: the files that it holds, and the puts that it answered by Ok, oldest first
pub record Told : Type 0 where
  pub held : Files
  pub puts : List (List ℕ × List ℕ)

-- a put that was answered by Ok: the name holds these bytes, and the put is appended
abbrev pub after_put : Told → List ℕ → List ℕ → Told
after_put w name bytes =
    record { held = map.insert w.held name bytes; puts = w.puts ++ (name, bytes) ∷ [] }

-- a put that failed: the name holds anything or nothing, and all else stays
pub record Spoils (old new : Told) (name : List ℕ) : Type 0 where
  pub others : (other : List ℕ) → other ≢ name → map.get new.held other ≡ map.get old.held other
  pub puts : new.puts ≡ old.puts

-- n bytes of the file from an offset on, and none exactly at or past its end
pub record IsReadFrom (file : List ℕ) (from : ℕ) (into : List ℕ) (n : ℕ) : Type 0 where
  pub bytes : take n into ≡ take n (drop from file)
  pub end : (n ≡ 0) ↔ (length file ≤ from)

-- the files after these writes of names and bytes, one after another
unfoldable pub files_after : List (List ℕ × List ℕ) → Files
files_after writes = fold (λ files w. map.insert files w.0 w.1) map.empty writes
