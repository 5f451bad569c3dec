-- When two statements of one kind are the same but for the lines that they stand on.
use Rattle.std.specs.Prelude.{Bool, true, false, ◌&&◌, nat_eq}
use Rattle.geo_addr.specs.Ranges.{Ends, Prefix}
use Rattle.geo_terms.specs.DelegationForm.{DelegationParts}
use Rattle.geo_terms.specs.Numbers.{same_place}
use Rattle.geo_terms.specs.PlaceForm.{same_text}
use Rattle.geo_terms.specs.declared.place.Said.{Said}
use Rattle.geo_terms.specs.declared.place.Said.TheVariants.{Nothing, At}
use Rattle.geo_terms.specs.declared.statement.Entry.{Entry}
use Rattle.geo_terms.specs.declared.statement.Override.{Override}
use Rattle.geo_terms.specs.declared.statement.Reference.{Reference}

abbrev pub same_range : Ends → Ends → Bool
same_range x y = nat_eq x.first y.first && nat_eq x.last y.last

abbrev pub same_block : Prefix → Prefix → Bool
same_block x y = nat_eq x.first y.first && nat_eq x.len y.len

abbrev pub same_said : Said → Said → Bool
same_said Nothing Nothing = true
same_said (At p) (At q) = same_place p q
same_said _ _ = false

unfoldable pub same_reference : Reference → Reference → Bool
same_reference x y =
    same_range x.range y.range
    && (nat_eq x.modified y.modified && (same_text x.url y.url && same_text x.slot y.slot))

unfoldable pub same_entry : Entry → Entry → Bool
same_entry x y = same_block x.block y.block && same_said x.said y.said

unfoldable pub same_delegation : DelegationParts → DelegationParts → Bool
same_delegation x y =
    same_range x.range y.range && (same_place x.place y.place && same_text x.slot y.slot)

unfoldable pub same_override : Override → Override → Bool
same_override x y = same_range x.range y.range && same_said x.said y.said
