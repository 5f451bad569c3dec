-- The commands, and the command that words are.
use Rattle.std.specs.Prelude.{ℕ, Bool, ◌&&◌, ◌||◌, ◌^◌, nat_le, List, [], ◌∷◌, codes, Option, Some}
use Rattle.std.specs.Prelude.{None}
use Rattle.std.specs.Prelude.{Result, Ok, Err, if◌then◌else◌}
use Rattle.geo_addr.specs.AddressTexts.{address_in}
use Rattle.geo_addr.specs.Decimals.{decimal}
use Rattle.geo_addr.specs.Prefixes.{block_in}
use Rattle.geo_addr.specs.Ranges.{Prefix}
use Rattle.geo_addr.specs.declared.addr.Addr.{Addr}
use Rattle.geo_addr.specs.declared.fault.AddrFault.{AddrFault}
use Rattle.geo_addr.specs.declared.fault.BlockFault.{BlockFault}
use Rattle.geo_terms.specs.PlaceForm.{same_text}
use Rattle.job_lines.specs.Acts.{feed_key}
use Rattle.job_lines.specs.Forms.{begins_plain}
use Rattle.job_lines.specs.Names.{is_name}

-- a command: what it reads and writes by name, and what it is asked about
pub data Command : Type 0 where
  build : (job : List ℕ) → Command
  lookup : (file : List ℕ) → (address : ℕ) → Command
  explain : (job : List ℕ) → (address : ℕ) → Command
  gen : (lines : ℕ) → (file : List ℕ) → Command
  publish : (job : List ℕ) → (block : Prefix) → (file : List ℕ) → Command
  check : (job url : List ℕ) → Command
  census : (job : List ℕ) → Command

-- `build JOB` and `census JOB`
abbrev pub build_of : List ℕ → Option Command
build_of job = if is_name job then Some (build job) else None

abbrev pub census_of : List ℕ → Option Command
census_of job = if is_name job then Some (census job) else None

-- `lookup FILE ADDR` and `explain JOB ADDR`
abbrev pub lookup_at : (file : List ℕ) → Result Addr AddrFault → Option Command
lookup_at file (Ok address) = Some (lookup file address.0)
lookup_at file (Err fault) = None

abbrev pub lookup_of : (file address : List ℕ) → Option Command
lookup_of file address = if is_name file then lookup_at file (address_in address) else None

abbrev pub explain_at : (job : List ℕ) → Result Addr AddrFault → Option Command
explain_at job (Ok address) = Some (explain job address.0)
explain_at job (Err fault) = None

abbrev pub explain_of : (job address : List ℕ) → Option Command
explain_of job address = if is_name job then explain_at job (address_in address) else None

-- `gen N FILE`: a number from 1 to a million without leading zeros
abbrev pub lines_of : Option ℕ → Option ℕ
lines_of None = None
lines_of (Some n) = if nat_le 1 n && nat_le n 1000000 then Some n else None

abbrev pub lines_in : List ℕ → Option ℕ
lines_in digits = if begins_plain digits then lines_of (decimal 1 7 digits) else None

abbrev pub gen_lines : (file : List ℕ) → Option ℕ → Option Command
gen_lines file None = None
gen_lines file (Some lines) = Some (gen lines file)

abbrev pub gen_of : (lines file : List ℕ) → Option Command
gen_of lines file = if is_name file then gen_lines file (lines_in lines) else None

-- `check JOB URL`: the key of a feed, which is its https URL, serialised
abbrev pub check_key : (job : List ℕ) → Option (List ℕ) → Option Command
check_key job None = None
check_key job (Some url) = Some (check job url)

abbrev pub check_of : (job url : List ℕ) → Option Command
check_of job url = if is_name job then check_key job (feed_key url) else None

-- `publish JOB BLOCK FILE`: a block that does not reach from the IPv4 space into that of IPv6
abbrev pub is_plain : Prefix → Bool
is_plain block = nat_le 96 block.len || nat_le (2 ^ 32) block.first

abbrev pub publish_in : (job file : List ℕ) → Result Prefix BlockFault → Option Command
publish_in job file (Ok block) = if is_plain block then Some (publish job block file) else None
publish_in job file (Err fault) = None

abbrev pub publish_of : (job block file : List ℕ) → Option Command
publish_of job block file =
    if is_name job && is_name file then publish_in job file (block_in block) else None

-- the command that a word says with one, two or three words behind it
unfoldable pub with_one : (word a : List ℕ) → Option Command
with_one word a =
    if same_text word (codes "build") then build_of a
    else (if same_text word (codes "census") then census_of a else None)

unfoldable pub with_two : (word a b : List ℕ) → Option Command
with_two word a b =
    if same_text word (codes "lookup") then lookup_of a b
    else (if same_text word (codes "explain") then explain_of a b
    else (if same_text word (codes "gen") then gen_of a b
    else (if same_text word (codes "check") then check_of a b else None)))

unfoldable pub with_three : (word a b c : List ℕ) → Option Command
with_three word a b c = if same_text word (codes "publish") then publish_of a b c else None

-- the command that words are
abbrev pub command_of : List (List ℕ) → Option Command
command_of [] = None
command_of (word ∷ []) = None
command_of (word ∷ a ∷ []) = with_one word a
command_of (word ∷ a ∷ b ∷ []) = with_two word a b
command_of (word ∷ a ∷ b ∷ c ∷ []) = with_three word a b c
command_of (word ∷ a ∷ b ∷ c ∷ d ∷ more) = None
