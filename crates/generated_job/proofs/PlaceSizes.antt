-- How many bytes the value of a place takes.
use Rattle.std.proofs.Common.{◌≡◌, ℕ, ◌+◌, ◌-◌, ◌*◌, ◌==◌, ◌≤◌, Bool, true, false, nat_lt, List, []}
use Rattle.std.proofs.Common.{◌∷◌, ◌++◌, length, codes, refl, arith, lit≤, length-append}
use Rattle.std.proofs.Common.{length-drop}
use Rattle.std.proofs.lemmas.List.Sums.{sum_by-append, sum_by-cons}
use Rattle.std.specs.Prelude.{if◌then◌else◌}
use Rattle.std.specs.Int.{bytes_high_first}
use Rattle.std.specs.List.{position_or_len, sum_by}
use Rattle.geo_terms.specs.PlaceForm.{PlaceParts}
use Rattle.mmdb_data.specs.ValueTree.{ValueTree, map, text, members_len}
use Rattle.mmdb_data.specs.Spelling.{head, kind_bytes, members_spelling, size_bytes, size_code}
use Rattle.mmdb_data.specs.Spelling.{sized, spelling}
use Rattle.mmdb_data.specs.View.{members_of}
use Rattle.mmdb_file.specs.PlaceValue.{city_member, country_member, one, place_value, postal_member}
use Rattle.mmdb_file.specs.PlaceValue.{region_member, subdivision, subdivision_list, unless_empty}

-- what stands before a value's content is five bytes at most
few_kinds : (kind code : ℕ) → length (kind_bytes kind code) ≤ 2
unfolding kind_bytes
few_kinds kind code = by (nat_lt kind 8)
  where
    by : (b : Bool) → length (if b then (kind * 32 + code) ∷ [] else code ∷ (kind - 7) ∷ []) ≤ 2
    by true = lit≤ tt
    by false = lit≤ tt

few_sizes : (n : ℕ) → length (size_bytes n) ≤ 3
unfolding size_bytes
few_sizes n = by (nat_lt n 29) (nat_lt n 285) (nat_lt n 65821)
  where
    by : (a b c : Bool)
        → length (if a then [] else if b then bytes_high_first 1 (n - 29) else if c then
        bytes_high_first 2 (n - 285) else bytes_high_first 3 (n - 65821)) ≤ 3
    by true b c = lit≤ tt
    by false true c = lit≤ tt
    by false false true = lit≤ tt
    by false false false = lit≤ tt

few_heads : (kind n : ℕ) → length (head kind n) ≤ 5
unfolding head
few_heads kind n =
    omega (
      arith,
      length-append (kind_bytes kind (size_code n)) (size_bytes n),
      few_kinds kind (size_code n),
      few_sizes n,
    )

few_sized : (kind : ℕ) (content : List ℕ) → length (sized kind content) ≤ length content + 5
unfolding sized
few_sized kind content =
    omega (
      arith,
      length-append (head kind (length content)) content,
      few_heads kind (length content),
    )

-- how many bytes a member takes
abbrev taken : List ℕ × ValueTree → ℕ
taken pair = length (sized 2 pair.0) + length (spelling pair.1)

members_take : (pairs : List (List ℕ × ValueTree))
    → length (members_spelling (members_of pairs)) ≡ sum_by taken pairs
members_take [] = refl
members_take (pair ∷ pairs) =
    omega (
      arith,
      members_take pairs,
      sum_by-cons taken pair pairs,
      length-append (sized 2 pair.0) (spelling pair.1 ++ members_spelling (members_of pairs)),
      length-append (spelling pair.1) (members_spelling (members_of pairs)),
    )

map_takes : (pairs : List (List ℕ × ValueTree))
    → length (spelling (map (members_of pairs))) ≤ 5 + sum_by taken pairs
map_takes pairs =
    omega (
      arith,
      few_heads 7 (members_len (members_of pairs)),
      members_take pairs,
      length-append (head 7 (members_len (members_of pairs))) (members_spelling (members_of pairs)),
    )

one_takes : (key : List ℕ) (value : ValueTree)
    → length (spelling (one key value)) ≤ length key + 10 + length (spelling value)
one_takes key value =
    omega (arith, map_takes ((key, value) ∷ []), sum_by-cons taken (key, value) [], few_sized 2 key)

unless_takes : (content key : List ℕ) (value : ValueTree)
    → sum_by taken (unless_empty content key value) ≤ length key + 5 + length (spelling value)
unless_takes [] key value = omega arith
unless_takes (b ∷ bytes) key value =
    omega (arith, sum_by-cons taken (key, value) [], few_sized 2 key)

after_few : (region : List ℕ) → length (subdivision region) ≤ length region
unfolding subdivision
after_few region = omega (arith, length-drop (position_or_len (λ b. b == 45) region + 1) region)

city_takes : (city : List ℕ) → sum_by taken (city_member city) ≤ length city + 60
city_takes city =
    let en = one (codes "en") (text city) in
    let names = one (codes "names") en in
    omega (
      arith,
      unless_takes city (codes "city") names,
      one_takes (codes "names") en,
      one_takes (codes "en") (text city),
      few_sized 2 city,
    )

country_takes : (country : List ℕ) → sum_by taken (country_member country) ≤ length country + 60
country_takes country =
    let code = one (codes "iso_code") (text country) in
    omega (
      arith,
      unless_takes country (codes "country") code,
      one_takes (codes "iso_code") (text country),
      few_sized 2 country,
    )

postal_takes : (postal : List ℕ) → sum_by taken (postal_member postal) ≤ length postal + 60
postal_takes postal =
    let code = one (codes "code") (text postal) in
    omega (
      arith,
      unless_takes postal (codes "postal") code,
      one_takes (codes "code") (text postal),
      few_sized 2 postal,
    )

region_takes : (region : List ℕ) → sum_by taken (region_member region) ≤ length region + 80
region_takes region =
    let part = one (codes "iso_code") (text (subdivision region)) in
    let parts = subdivision_list region in
    let inner : length (spelling parts) ≤ 5 + length (spelling part) =
    omega (
      arith,
      few_heads 11 1,
      length-append (head 11 1) (spelling part ++ []),
      length-append (spelling part) [],
    ) in
    omega (
      arith,
      unless_takes region (codes "subdivisions") parts,
      inner,
      one_takes (codes "iso_code") (text (subdivision region)),
      few_sized 2 (subdivision region),
      after_few region,
    )

-- so few bytes beside the place's texts
pub place_takes : (p : PlaceParts)
    → length (spelling (place_value p)) ≤ length p.city + length p.country + length
    p.postal + length p.region + 300
unfolding place_value
place_takes p =
    let more = country_member p.country ++ (postal_member p.postal ++ region_member p.region) in
    omega (
      arith,
      map_takes (city_member p.city ++ more),
      sum_by-append taken (city_member p.city) more,
      sum_by-append taken (country_member p.country)
          (postal_member p.postal ++ region_member p.region),
      sum_by-append taken (postal_member p.postal) (region_member p.region),
      city_takes p.city,
      country_takes p.country,
      postal_takes p.postal,
      region_takes p.region,
    )
