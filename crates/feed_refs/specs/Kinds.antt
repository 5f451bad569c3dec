-- The attributes of an object that matter here: references to a feed (RFC 9632, section 3),
-- and `last-modified`.
use Rattle.std.specs.Prelude.{ℕ, ◌&&◌, ◌||◌, Bool, false, nat_eq, List, [], ◌∷◌, drop, codes}
use Rattle.std.specs.Prelude.{Option, None, Some, is_some, unwrap_or, if◌then◌else◌}
use Rattle.std.specs.List.{starts_with, before_first, list_any}
use Rattle.geo_addr.specs.Lines.{is_blank, trimmed}
use Rattle.geo_terms.specs.PlaceForm.{same_text}
use Rattle.feed_refs.specs.declared.kinds.RefKind.{RefKind}
use Rattle.feed_refs.specs.declared.kinds.RefKind.TheVariants.{Geofeed, Remark}
use Rattle.rpsl_reader.specs.declared.item.Attribute.{Attribute}

-- a `geofeed` attribute is a reference whose URL is its whole value
abbrev pub is_geofeed : Attribute → Bool
is_geofeed a = same_text a.name (codes "geofeed")

-- whether a word stands somewhere in a text
abbrev pub holds_word : (word text : List ℕ) → Bool
holds_word word [] = false
holds_word word (b ∷ bs) = starts_with nat_eq (b ∷ bs) word || holds_word word bs

abbrev pub begins_blank : List ℕ → Bool
begins_blank [] = false
begins_blank (b ∷ bs) = is_blank b

-- the first word behind blanks
abbrev pub first_word : List ℕ → List ℕ
first_word text = before_first is_blank (trimmed text)

-- a remark that begins with `Geofeed`, then blanks, then a word with `://` in it, names that word
unfoldable pub remark_url : List ℕ → Option (List ℕ)
remark_url value =
    if starts_with nat_eq value (codes "Geofeed") && begins_blank (drop 7 value)
    && holds_word (codes "://") (first_word (drop 7 value))
    then Some (first_word (drop 7 value)) else None

-- a `remarks` attribute is a reference where its value is such a remark
abbrev pub is_reference_remark : Attribute → Bool
is_reference_remark a = same_text a.name (codes "remarks") && is_some (remark_url a.value)

abbrev pub is_of_kind : RefKind → Attribute → Bool
is_of_kind Geofeed a = is_geofeed a
is_of_kind Remark a = is_reference_remark a

-- remarks count where there is no `geofeed` attribute
abbrev pub used_kind : List Attribute → RefKind
used_kind parts = if list_any is_geofeed parts then Geofeed else Remark

-- the URL text of a reference of a kind
abbrev pub url_text : RefKind → Attribute → List ℕ
url_text Geofeed a = a.value
url_text Remark a = unwrap_or (remark_url a.value) []

abbrev pub is_last_modified : Attribute → Bool
is_last_modified a = same_text a.name (codes "last-modified")
