-- The reference of an object to a feed, and the notes on its attributes (RFC 9632, section 3).
use Rattle.std.specs.Prelude.{ℕ, ◌&&◌, ◌||◌, not, Bool, false, List, [], ◌∷◌, ◌++◌, codes, filter}
use Rattle.std.specs.Prelude.{find, Option, None, Some, is_none, unwrap_or, option_to_list, Result}
use Rattle.std.specs.Prelude.{Ok, Err, if◌then◌else◌}
use Rattle.geo_addr.specs.Prefixes.{block_in}
use Rattle.geo_addr.specs.Ranges.{Ends, is_v4}
use Rattle.geo_addr.specs.Spans.{span_in, range_of_read}
use Rattle.geo_addr.specs.declared.fault.BlockFault.{BlockFault}
use Rattle.geo_terms.specs.PlaceForm.{same_text}
use Rattle.geo_terms.specs.declared.note.LineNote.{LineNote}
use Rattle.geo_terms.specs.declared.note.Rule.{Rule}
use Rattle.geo_terms.specs.declared.note.Rule.TheVariants.{P03, P04, P05, P06, P07, P10}
use Rattle.feed_refs.specs.declared.feed_url.UrlRead.{UrlRead}
use Rattle.feed_refs.specs.declared.feed_url.UrlRead.TheVariants.{Refused, OtherScheme, Https}
use Rattle.feed_refs.specs.declared.kinds.RefKind.{RefKind}
use Rattle.rpsl_reader.specs.declared.item.Attribute.{Attribute}
use Rattle.rpsl_reader.specs.declared.item.Object.{Object}
use Rattle.feed_refs.specs.declared.reference.Class.{Class}
use Rattle.feed_refs.specs.declared.reference.Class.TheVariants.{Other, Unread, Inet}
use Rattle.feed_refs.specs.declared.reference.FoundRef.{FoundRef}
use Rattle.feed_refs.specs.declared.reference.What.TheVariants.{NotInet, Nothing, One, Void}
use Rattle.feed_refs.specs.Dates.{modified}
use Rattle.feed_refs.specs.Kinds.{is_reference_remark, is_last_modified, is_of_kind, used_kind}
use Rattle.feed_refs.specs.Kinds.{url_text}
use Rattle.feed_refs.specs.Urls.{url_read}

-- the addresses of an `inetnum` are an IPv4 span, and those of an `inet6num` an IPv6 prefix
abbrev pub v4_class : Result Ends BlockFault → Class
v4_class (Ok range) = if is_v4 range then Inet range else Unread
v4_class (Err fault) = Unread

abbrev pub v6_class : Result Ends BlockFault → Class
v6_class (Ok range) = if is_v4 range then Unread else Inet range
v6_class (Err fault) = Unread

-- the first attribute names the class
unfoldable pub class_named : Attribute → Class
class_named a =
    if same_text a.name (codes "inetnum") then v4_class (span_in a.value)
    else (if same_text a.name (codes "inet6num")
    then v6_class (range_of_read (block_in a.value)) else Other)

-- the first `last-modified` counts, and is 0 where it is missing or not read
abbrev pub modified_in : Option Attribute → ℕ
modified_in None = 0
modified_in (Some a) = unwrap_or (modified a.value) 0

abbrev pub modified_of : List Attribute → ℕ
modified_of parts = modified_in (find is_last_modified parts)

-- the rule on an attribute: on a reference of the used kind what is found of that, on a remark
-- beside `geofeed` attributes P10, and P07 on the first `last-modified` where it is not read
abbrev pub rule_on : RefKind → Option Rule → Bool → Attribute → Option Rule
rule_on kind used seen a =
    if is_of_kind kind a then used
    else (if is_reference_remark a then Some P10
    else (if is_last_modified a && not seen && is_none (modified a.value) then Some P07 else None))

abbrev pub note_by : ℕ → Option Rule → Option LineNote
note_by line None = None
note_by line (Some rule) = Some (record { line = line; rule = rule })

-- the notes on attributes, told whether `last-modified` stood before them
abbrev pub notes_from : RefKind → Option Rule → Bool → List Attribute → List LineNote
notes_from kind used seen [] = []
notes_from kind used seen (a ∷ more) =
    option_to_list (note_by a.line (rule_on kind used seen a))
    ++ notes_from kind used (seen || is_last_modified a) more

abbrev pub notes_on : RefKind → Option Rule → List Attribute → List LineNote
notes_on kind used parts = notes_from kind used false parts

-- what the only reference of the used kind comes to
abbrev pub found_by : List ℕ → Ends → List Attribute → Attribute → UrlRead → FoundRef
found_by slot range parts a Refused =
    record { what = Nothing; notes = notes_on (used_kind parts) (Some P05) parts }
found_by slot range parts a OtherScheme =
    record { what = Nothing; notes = notes_on (used_kind parts) (Some P06) parts }
found_by slot range parts a (Https url) = record {
  what = One (record {
    slot = slot;
    line = a.line;
    range = range;
    modified = modified_of parts;
    url = url;
  });
  notes = notes_on (used_kind parts) None parts;
}

-- what the references of the used kind come to: one counts, and more are void
abbrev pub found_among : List ℕ → Ends → List Attribute → List Attribute → FoundRef
found_among slot range parts [] = record { what = Nothing; notes = [] }
found_among slot range parts (a ∷ []) =
    found_by slot range parts a (url_read (url_text (used_kind parts) a))
found_among slot range parts (a ∷ b ∷ more) =
    record { what = Void; notes = notes_on (used_kind parts) (Some P04) parts }

abbrev pub found_in : List ℕ → Ends → List Attribute → FoundRef
found_in slot range parts =
    found_among slot range parts (filter (is_of_kind (used_kind parts)) parts)

-- an object whose addresses are not read has one note, on its first attribute
abbrev pub found_unread : ℕ → FoundRef
found_unread line =
    record { what = Nothing; notes = option_to_list (note_by line (Some P03)) }

-- by the class of an object whose first attribute stands on a line
abbrev pub found_as : List ℕ → ℕ → List Attribute → Class → FoundRef
found_as slot line parts Other = record { what = NotInet; notes = [] }
found_as slot line parts Unread = found_unread line
found_as slot line parts (Inet range) = found_in slot range parts

abbrev pub found_in_parts : List ℕ → List Attribute → FoundRef
found_in_parts slot [] = record { what = NotInet; notes = [] }
found_in_parts slot (a ∷ more) = found_as slot a.line (a ∷ more) (class_named a)

-- what an object of a dump in a slot says of feeds
unfoldable pub found : (slot : List ℕ) → Object → FoundRef
found slot object = found_in_parts slot object.parts
