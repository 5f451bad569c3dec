-- The order in which references stand in an index.
use Rattle.std.specs.Prelude.{ℕ, Bool, ◌&&◌, ◌==◌, if◌then◌else◌, List}
use Rattle.std.specs.declared.cmp.Ordering.{Ordering}
use Rattle.std.specs.Ordering.{nat_cmp, ordering_then}
use Rattle.geo_addr.specs.Ranges.{Ends, is_v4}
use Rattle.geo_terms.specs.PlaceForm.{same_text}
use Rattle.geo_terms.specs.Precedence.{text_cmp}
use Rattle.geo_terms.specs.declared.statement.Reference.{Reference}

-- IPv4 before IPv6
abbrev pub family : Ends → ℕ
family r = if is_v4 r then 0 else 1

-- what references are put together by, and where they begin
pub record Key : Type 0 where
  pub url : List ℕ
  pub family : ℕ
  pub first : ℕ

abbrev pub key_of : Reference → Key
key_of r = record { url = r.url; family = family r.range; first = r.range.first }

unfoldable pub key_cmp : Key → Key → Ordering
key_cmp x y = ordering_then (text_cmp x.url y.url)
    (ordering_then (nat_cmp x.family y.family) (nat_cmp x.first y.first))

-- by URL, by family, by first address, and the largest first
unfoldable pub shelf_cmp : Reference → Reference → Ordering
shelf_cmp x y = ordering_then (key_cmp (key_of x) (key_of y)) (nat_cmp y.range.last x.range.last)

-- whether a reference is of a URL and a family
abbrev pub is_of : List ℕ → ℕ → Reference → Bool
is_of url f r = same_text r.url url && (family r.range == f)

-- whether two references are of one URL and one family
abbrev pub same_group : Reference → Reference → Bool
same_group x y = is_of y.url (family y.range) x
