-- Address texts (RFC 4291, section 2.2).
use Rattle.std.specs.Prelude.{ℕ, ◌==◌, Bool, if◌then◌else◌, List, Result, Ok, Err}
use Rattle.std.specs.List.{list_any}
use Rattle.geo_addr.specs.declared.addr.Addr.{Addr}
use Rattle.geo_addr.specs.declared.fault.AddrFault.{AddrFault}
use Rattle.geo_addr.specs.Ipv4Texts.{ipv4_in}
use Rattle.geo_addr.specs.Ipv6Texts.{ipv6_in}

-- a text is read as IPv6 where it has a colon in it, and as IPv4 elsewhere
abbrev pub is_six : List ℕ → Bool
is_six text = list_any (λ b. b == 58) text

-- the number of the address that a text of either family spells
abbrev pub number_in : Bool → List ℕ → Result ℕ AddrFault
number_in six text = if six then ipv6_in text else ipv4_in text

-- the address with a number
abbrev pub at_number : Result ℕ AddrFault → Result Addr AddrFault
at_number (Ok number) = Ok (record { 0 = number })
at_number (Err fault) = Err fault

-- the address that a text spells
abbrev pub address_in : List ℕ → Result Addr AddrFault
address_in text = at_number (number_in (is_six text) text)
