-- Fakes: calls are numbered from 1 on, and fail where a list has their number.
use Rattle.std.specs.Prelude.{ℕ, zero, suc, ◌+◌, ◌-◌, ◌^◌, min, Bool, ◌&&◌, List, nat_eq, nat_lt}
use Rattle.std.specs.Prelude.{if◌then◌else◌}
use Rattle.std.specs.List.{list_any}
use Rattle.geo_outside.specs.Files.{Told}

-- the calls of one kind: the numbers of those that are to fail, and how many were made,
-- up to 2 ^ 64 - 1
pub record Script : Type 0 where
  pub listed : List ℕ
  pub made : ℕ

-- whether the call of this number is listed
abbrev pub is_listed : List ℕ → ℕ → Bool
is_listed numbers call = list_any (λ n. nat_eq n call) numbers

-- how many of the first calls are listed
abbrev pub listed_among : List ℕ → ℕ → ℕ
listed_among numbers zero = 0
listed_among numbers (suc n) = listed_among numbers n + (if is_listed numbers (suc n) then 1 else 0)

-- whether the next call is to fail; calls past the last number are not listed
abbrev pub fails_next : Script → Bool
fails_next calls = nat_lt calls.made (2 ^ 64 - 1) && is_listed calls.listed (calls.made + 1)

-- how many of the calls made are listed
abbrev pub faults_of : Script → ℕ
faults_of calls = listed_among calls.listed calls.made

-- one call more was made
abbrev pub one_more : Script → Script
one_more calls = record calls { made = min (calls.made + 1) (2 ^ 64 - 1) }

-- a fake folder: what it tells, its calls, its counts, and how many bytes one read gives at most
pub record FakeFolder : Type 0 where
  pub told : Told
  pub read_calls : Script
  pub put_calls : Script
  pub misses : ℕ
  pub given : ℕ
  pub most : ℕ

-- a fake sink: the text so far, and its calls
pub record FakeSink : Type 0 where
  pub written : List ℕ
  pub calls : Script
