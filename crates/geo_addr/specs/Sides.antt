-- What is read of a list: of the one side of `::` or the other, or of a text without it.
use Rattle.std.specs.Prelude.{◌≡◌, ℕ, ◌+◌, ◌^◌, ◌<◌, ◌≤◌, min, Bool, true, false, List, length}
use Rattle.std.specs.Prelude.{flat_map, Result, Ok, Err}
use Rattle.std.specs.List.{list_any}
use Rattle.std.specs.Int.Digits.{number_from_digits_after}
use Rattle.geo_addr.specs.declared.fault.AddrFault.{AddrFault}
use Rattle.geo_addr.specs.declared.fault.AddrFault.TheVariants.{Form, Octet, Groups}
use Rattle.geo_addr.specs.declared.side.Side.{Side}
use Rattle.geo_addr.specs.Ipv6Texts.{are_members, has_bad_octet, groups_of, members}

-- nothing read yet
abbrev pub no_groups : Side
no_groups = record { groups = 0; number = 0 }

-- the number has the room that its groups take
abbrev pub IsSmall : Side → Type 0
IsSmall side = side.groups ≤ 8 → side.number < 65536 ^ side.groups

-- more groups behind those of a side: they are counted up to nine,
-- and their number holds for at most eight
pub record Adds (old : Side) (groups : List ℕ) (new : Side) : Type 0 where
  pub count : new.groups ≡ min 9 (old.groups + length groups)
  pub value : new.groups ≤ 8 → new.number ≡ number_from_digits_after 65536 old.number groups

-- the members of a list, read behind a side: the side with their groups,
-- or the first thing that is wrong
abbrev pub ReadsMembers : Bool → Side → List (List ℕ) → Result Side AddrFault → Type 0
ReadsMembers dots old parts (Ok new) =
    (are_members dots parts ≡ true) × (list_any has_bad_octet parts ≡ false)
    × Adds old (flat_map groups_of parts) new
ReadsMembers dots old parts (Err Form) = are_members dots parts ≡ false
ReadsMembers dots old parts (Err Octet) =
    (are_members dots parts ≡ true) × (list_any has_bad_octet parts ≡ true)
ReadsMembers dots old parts (Err Groups) = ⊥

-- a whole list
abbrev pub ReadsSide : Bool → List ℕ → Result Side AddrFault → Type 0
ReadsSide dots text read = ReadsMembers dots no_groups (members text) read
