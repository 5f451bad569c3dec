-- Who speaks for an address, and what is said of it.
use Rattle.std.specs.Prelude.{ℕ, Bool, ◌&&◌, nat_le, List, filter, Option, Some, None}
use Rattle.std.specs.Cmp.Lexicographic.{slice_cmp}
use Rattle.std.specs.declared.cmp.Ordering.{Ordering}
use Rattle.std.specs.Ordering.{is_lt, nat_cmp, ordering_then}
use Rattle.geo_addr.specs.Ranges.{Ends, Prefix, range_of_block, size, holds}
use Rattle.geo_terms.specs.Alias.{home}
use Rattle.geo_terms.specs.DelegationForm.{DelegationParts}
use Rattle.geo_terms.specs.First.{first_of, first_at}
use Rattle.geo_terms.specs.PlaceForm.{PlaceParts}
use Rattle.geo_terms.specs.Sources.{InForce, references, feed_of, entries_in, delegations}
use Rattle.geo_terms.specs.Sources.{override_rows}
use Rattle.geo_terms.specs.declared.place.Said.{Said}
use Rattle.geo_terms.specs.declared.place.Said.TheVariants.{Nothing, At}
use Rattle.geo_terms.specs.declared.statement.Entry.{Entry}
use Rattle.geo_terms.specs.declared.statement.Override.{Override}
use Rattle.geo_terms.specs.declared.statement.Reference.{Reference}

-- the order of texts, by their bytes
abbrev pub text_cmp : List ℕ → List ℕ → Ordering
text_cmp = slice_cmp nat_cmp

-- the order of references: fewest addresses, latest last-modified, lowest first address,
-- smallest URL, slot and line
unfoldable pub reference_cmp : Reference → Reference → Ordering
reference_cmp x y =
    ordering_then (nat_cmp (size x.range) (size y.range))
    (ordering_then (nat_cmp y.modified x.modified)
    (ordering_then (nat_cmp x.range.first y.range.first)
    (ordering_then (text_cmp x.url y.url)
    (ordering_then (text_cmp x.slot y.slot) (nat_cmp x.line y.line)))))

-- the order of delegations: fewest addresses, lowest first address, smallest country, slot and line
unfoldable pub delegation_cmp : DelegationParts → DelegationParts → Ordering
delegation_cmp x y =
    ordering_then (nat_cmp (size x.range) (size y.range))
    (ordering_then (nat_cmp x.range.first y.range.first)
    (ordering_then (text_cmp x.place.country y.place.country)
    (ordering_then (text_cmp x.slot y.slot) (nat_cmp x.line y.line))))

-- the order of overrides: fewest addresses, lowest first address
unfoldable pub override_cmp : Override → Override → Ordering
override_cmp x y =
    ordering_then (nat_cmp (size x.range) (size y.range)) (nat_cmp x.range.first y.range.first)

-- the order of entries: greatest prefix length
unfoldable pub entry_cmp : Entry → Entry → Ordering
entry_cmp x y = nat_cmp y.block.len x.block.len

abbrev pub reference_before : Reference → Reference → Bool
reference_before x y = is_lt (reference_cmp x y)

abbrev pub delegation_before : DelegationParts → DelegationParts → Bool
delegation_before x y = is_lt (delegation_cmp x y)

abbrev pub override_before : Override → Override → Bool
override_before x y = is_lt (override_cmp x y)

abbrev pub entry_before : Entry → Entry → Bool
entry_before x y = is_lt (entry_cmp x y)

-- the speaker at an address: the first reference that holds it
unfoldable pub speaker : InForce → ℕ → Option Reference
speaker s a = first_at reference_before (λ r. r.range) (references s) a

-- whether a block lies between the ends of a range
abbrev pub lies_within : Prefix → Ends → Bool
lies_within b r = nat_le r.first b.first && nat_le (range_of_block b).last r.last

-- the entries that lie within a range and hold an address
abbrev pub entries_within : List Entry → Ends → ℕ → List Entry
entries_within es r a = filter (λ e. holds (range_of_block e.block) a && lies_within e.block r) es

-- the longest entry of the speaker's feed that lies within the
-- speaker's range and holds the address
abbrev pub entry_of : InForce → Option Reference → ℕ → Option Entry
entry_of s None a = None
entry_of s (Some r) a =
    first_of entry_before (entries_within (entries_in (feed_of s r.url)) r.range a)

-- the speaking entry
unfoldable pub speaking_entry : InForce → ℕ → Option Entry
speaking_entry s a = entry_of s (speaker s a) a

-- the first delegation that holds an address
unfoldable pub first_delegation : InForce → ℕ → Option DelegationParts
first_delegation s a = first_at delegation_before (λ d. d.range) (delegations s) a

-- the first override that holds an address
unfoldable pub first_override : InForce → ℕ → Option Override
first_override s a = first_at override_before (λ o. o.range) (override_rows s) a

abbrev pub said_place : Said → Option PlaceParts
said_place Nothing = None
said_place (At p) = Some p

-- the place of a delegation is its country alone
abbrev pub delegated_place : Option DelegationParts → Option PlaceParts
delegated_place None = None
delegated_place (Some d) = Some d.place

abbrev pub placed_by_entry : Option Entry → Option DelegationParts → Option PlaceParts
placed_by_entry (Some e) d = said_place e.said
placed_by_entry None d = delegated_place d

-- an override decides; without one the entry does; without an entry the delegation
abbrev pub chosen : Option Override → Option Entry → Option DelegationParts → Option PlaceParts
chosen (Some o) e d = said_place o.said
chosen None e d = placed_by_entry e d

-- what the sources say of an address
unfoldable pub spoken_at : InForce → ℕ → Option PlaceParts
spoken_at s a = chosen (first_override s a) (speaking_entry s a) (first_delegation s a)

-- the record of an address: what the sources say of its home
abbrev pub record_at : InForce → ℕ → Option PlaceParts
record_at s a = spoken_at s (home a)

-- why an address has its record: each part by its own rule at the address's home,
-- also where an override decides
pub record Reasons : Type 0 where
  pub over : Option Override
  pub speaker : Option Reference
  pub entry : Option Entry
  pub delegation : Option DelegationParts
  pub place : Option PlaceParts

abbrev pub reasons_at : InForce → ℕ → Reasons
reasons_at s a =
    record {
      over = first_override s (home a);
      speaker = speaker s (home a);
      entry = speaking_entry s (home a);
      delegation = first_delegation s (home a);
      place = record_at s a;
    }
