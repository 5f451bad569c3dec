-- Data sections that the definition of packing computes.
use Rattle.std.proofs.Common.{◌≡◌, ℕ, List, [], ◌∷◌, ◌++◌, length, refl}
use Rattle.std.specs.Prelude.{codes}
use Rattle.mmdb_data.specs.ValueTree.{ValueTree, Members, map, list, text, no_members, member}
use Rattle.mmdb_data.specs.ValueTree.{no_items, item}
use Rattle.mmdb_data.specs.Spelling.{head, sized, kind_bytes, size_code, size_bytes}
use Rattle.mmdb_data.specs.Packing.{pointer, packed, packed_offsets}

abbrev one : List ℕ → ValueTree → Members
one key value = member key value no_members

abbrev coded : List ℕ → ValueTree
coded code = map (one (codes "iso_code") (text code))

abbrev city : List ℕ → ValueTree
city name = map (one (codes "names") (map (one (codes "en") (text name))))

abbrev regions : List ℕ → ValueTree
regions code = list (item (coded code) no_items)

-- a city with a region and a country: the key of the region's code stands already, and so does that
-- of the country
munich : packed (map (member (codes "city") (city (0x4D ∷ 0xC3 ∷ 0xBC ∷ codes "nchen"))
    (member (codes "country") (coded (codes "DE"))
    (one (codes "subdivisions") (regions (codes "BY")))))
    ∷ map (one (codes "country") (coded (codes "AT"))) ∷ [])
    ≡ 0xE3 ∷ 0x44 ∷ codes "city" ++
    (0xE1 ∷ 0x45 ∷ codes "names" ++
    (0xE1 ∷ 0x42 ∷ codes "en" ++ (0x48 ∷ 0x4D ∷ 0xC3 ∷ 0xBC ∷ codes "nchen"
    ++ (0x47 ∷ codes "country" ++
    (0xE1 ∷ 0x48 ∷ codes "iso_code" ++ (0x42 ∷ codes "DE" ++ (0x4C ∷ codes "subdivisions"
    ++ (0x01 ∷ 0x04 ∷ 0xE1 ∷ 0x20 ∷ 0x23 ∷ 0x42 ∷ codes "BY"
    ++ (0xE1 ∷ 0x20 ∷ 0x1A ∷ 0xE1 ∷ 0x20 ∷ 0x23 ∷ 0x42 ∷ codes "AT")))))))))
unfolding pointer head sized kind_bytes size_code size_bytes
munich = refl

munich_len : length (packed (map
    (member (codes "city") (city (0x4D ∷ 0xC3 ∷ 0xBC ∷ codes "nchen"))
    (member (codes "country") (coded (codes "DE"))
    (one (codes "subdivisions") (regions (codes "BY")))))
    ∷ map (one (codes "country") (coded (codes "AT"))) ∷ [])) ≡ 77
unfolding pointer head sized kind_bytes size_code size_bytes
munich_len = refl

berlin : packed (map (member (codes "city") (city (codes "Berlin"))
    (one (codes "country") (coded (codes "DE")))) ∷ map
    (one (codes "country") (coded (codes "US"))) ∷ [])
    ≡ 0xE2 ∷ 0x44 ∷ codes "city" ++
    (0xE1 ∷ 0x45 ∷ codes "names" ++ (0xE1 ∷ 0x42 ∷ codes "en" ++ (0x46 ∷ codes "Berlin"
    ++ (0x47 ∷ codes "country" ++
    (0xE1 ∷ 0x48 ∷ codes "iso_code"
    ++ (0x42 ∷ codes "DE" ++ (0xE1 ∷ 0x20 ∷ 0x18 ∷ 0xE1 ∷ 0x20 ∷ 0x21 ∷ 0x42 ∷ codes "US")))))))
unfolding pointer head sized kind_bytes size_code size_bytes
berlin = refl

-- one value twice: the second stands in full, and all its parts are pointers
twice : packed (map (member (codes "country") (coded (codes "FR"))
    (one (codes "subdivisions") (regions (codes "BY")))) ∷ map
    (member (codes "country") (coded (codes "FR"))
    (one (codes "subdivisions") (regions (codes "BY")))) ∷ [])
    ≡ 0xE2 ∷ 0x47 ∷ codes "country"
    ++ (0xE1 ∷ 0x48 ∷ codes "iso_code" ++ (0x42 ∷ codes "FR" ++ (0x4C ∷ codes "subdivisions"
    ++ (0x01 ∷ 0x04 ∷ 0xE1 ∷ 0x20 ∷ 0x0A ∷ 0x42 ∷ codes "BY"
    ++ (0xE2 ∷ 0x20 ∷ 0x01 ∷ 0x20 ∷ 0x09 ∷ 0x20 ∷ 0x16 ∷ 0x20 ∷ 0x23 ∷ [])))))
unfolding pointer head sized kind_bytes size_code size_bytes
twice = refl

twice_at : packed_offsets (map
    (member (codes "country") (coded (codes "FR"))
    (one (codes "subdivisions") (regions (codes "BY")))) ∷ map
    (member (codes "country") (coded (codes "FR"))
    (one (codes "subdivisions") (regions (codes "BY")))) ∷ []) ≡ 0 ∷ 43 ∷ []
unfolding pointer head sized kind_bytes size_code size_bytes
twice_at = refl

-- a pointer of two bytes is not shorter than a text of one, and a text is the same as a key and as
-- a value
short_texts : packed (map (member (codes "a") (text (codes "a"))
    (one (codes "bc") (text (codes "bc")))) ∷ [])
    ≡ 0xE2 ∷ 0x41 ∷ codes "a" ++ (0x41 ∷ codes "a" ++ (0x42 ∷ codes "bc" ++ (0x20 ∷ 0x05 ∷ [])))
unfolding pointer head sized kind_bytes size_code size_bytes
short_texts = refl

-- maps with the same pairs in another order are not equal
other_order : packed (map (member (codes "a") (text (codes "b"))
    (one (codes "b") (text (codes "a")))) ∷ list
    (item (map (member (codes "b") (text (codes "a")) (one (codes "a") (text (codes "b")))))
    no_items) ∷ [])
    ≡ 0xE2 ∷ 0x41 ∷ codes "a" ++ (0x41 ∷ codes "b"
    ++ (0x41 ∷ codes "b" ++ (0x41 ∷ codes "a"
    ++ (0x01 ∷ 0x04 ∷ 0xE2 ∷ 0x41 ∷ codes "b"
    ++ (0x41 ∷ codes "a" ++ (0x41 ∷ codes "a" ++ (0x41 ∷ codes "b")))))))
unfolding pointer head sized kind_bytes size_code size_bytes
other_order = refl
