-- Vectors that the definition of reading computes.
use Rattle.std.proofs.Common.{◌≡◌, true, [], ◌∷◌, Ok, Err, refl}
use Rattle.std.specs.Str.{is_utf8, chars}
use Rattle.std.specs.Char.{encode_utf8}
use Rattle.mmdb_data.specs.declared.fault.DataCause.TheVariants.{Truncated, Kind, PointerToPointer}
use Rattle.mmdb_data.specs.declared.fault.DataCause.TheVariants.{OutOfSection, Key, Size}
use Rattle.mmdb_data.specs.ValueTree.{text, u16, u128, bool, map, no_members}
use Rattle.mmdb_data.specs.Reading.{reads, value_from, plain_from, target_from, content_from}
use Rattle.mmdb_data.specs.Reading.{leaf_from, content_bytes_from, text_from, byte_string_from}
use Rattle.mmdb_data.specs.Reading.{bool_from, scalar_from, scalar_bytes_from, scalar_of}
use Rattle.mmdb_data.specs.Reading.{pointer_from, head_from, size_from, kind_from, one_less}
use Rattle.mmdb_data.specs.Reading.{byte_from, bytes_from, number_from}

number_read : reads (0x20 ∷ 0x02 ∷ 0xA1 ∷ 0x07 ∷ []) 0 ≡ Ok (u16 7)
unfolding reads scalar_from scalar_bytes_from scalar_of content_bytes_from text_from
    byte_string_from bool_from leaf_from value_from plain_from target_from content_from pointer_from
    head_from size_from kind_from one_less byte_from bytes_from number_from
number_read = refl

true_read : reads (0x01 ∷ 0x07 ∷ []) 0 ≡ Ok (bool true)
unfolding reads scalar_from scalar_bytes_from scalar_of content_bytes_from text_from
    byte_string_from bool_from leaf_from value_from plain_from target_from content_from pointer_from
    head_from size_from kind_from one_less byte_from bytes_from number_from
true_read = refl

zero_read : reads (0x00 ∷ 0x03 ∷ []) 0 ≡ Ok (u128 0)
unfolding reads scalar_from scalar_bytes_from scalar_of content_bytes_from text_from
    byte_string_from bool_from leaf_from value_from plain_from target_from content_from pointer_from
    head_from size_from kind_from one_less byte_from bytes_from number_from
zero_read = refl

empty_map_read : reads (0x00 ∷ 0x00 ∷ []) 0 ≡ Ok (map no_members)
unfolding reads scalar_from scalar_bytes_from scalar_of content_bytes_from text_from
    byte_string_from bool_from leaf_from value_from plain_from target_from content_from pointer_from
    head_from size_from kind_from one_less byte_from bytes_from number_from
empty_map_read = refl

-- a map of one pair, whose key would stand past the end
cut_map : reads (0x01 ∷ 0x00 ∷ []) 0 ≡ Err (2, Truncated)
unfolding reads scalar_from scalar_bytes_from scalar_of content_bytes_from text_from
    byte_string_from bool_from leaf_from value_from plain_from target_from content_from pointer_from
    head_from size_from kind_from one_less byte_from bytes_from number_from
cut_map = refl

cut_text : reads (0x42 ∷ 0x44 ∷ []) 0 ≡ Err (0, Truncated)
unfolding reads scalar_from scalar_bytes_from scalar_of content_bytes_from text_from
    byte_string_from bool_from leaf_from value_from plain_from target_from content_from pointer_from
    head_from size_from kind_from one_less byte_from bytes_from number_from
cut_text = refl

container_read : reads (0x00 ∷ 0x05 ∷ []) 0 ≡ Err (0, Kind)
unfolding reads scalar_from scalar_bytes_from scalar_of content_bytes_from text_from
    byte_string_from bool_from leaf_from value_from plain_from target_from content_from pointer_from
    head_from size_from kind_from one_less byte_from bytes_from number_from
container_read = refl

pointer_to_pointer : reads (0x20 ∷ 0x02 ∷ 0x20 ∷ 0x00 ∷ []) 0 ≡ Err (2, PointerToPointer)
unfolding reads scalar_from scalar_bytes_from scalar_of content_bytes_from text_from
    byte_string_from bool_from leaf_from value_from plain_from target_from content_from pointer_from
    head_from size_from kind_from one_less byte_from bytes_from number_from
pointer_to_pointer = refl

outside : reads (0x20 ∷ 0x07 ∷ []) 0 ≡ Err (0, OutOfSection)
unfolding reads scalar_from scalar_bytes_from scalar_of content_bytes_from text_from
    byte_string_from bool_from leaf_from value_from plain_from target_from content_from pointer_from
    head_from size_from kind_from one_less byte_from bytes_from number_from
outside = refl

number_as_key : reads (0xE1 ∷ 0xA1 ∷ 0x01 ∷ 0xA0 ∷ []) 0 ≡ Err (1, Key)
unfolding reads scalar_from scalar_bytes_from scalar_of content_bytes_from text_from
    byte_string_from bool_from leaf_from value_from plain_from target_from content_from pointer_from
    head_from size_from kind_from one_less byte_from bytes_from number_from
number_as_key = refl

wide_number : reads (0xA3 ∷ 0x00 ∷ 0x00 ∷ 0x01 ∷ []) 0 ≡ Err (0, Size)
unfolding reads scalar_from scalar_bytes_from scalar_of content_bytes_from text_from
    byte_string_from bool_from leaf_from value_from plain_from target_from content_from pointer_from
    head_from size_from kind_from one_less byte_from bytes_from number_from
wide_number = refl

text_read : reads (0x42 ∷ 0x44 ∷ 0x45 ∷ []) 0 ≡ Ok (text (0x44 ∷ 0x45 ∷ []))
unfolding reads scalar_from scalar_bytes_from scalar_of content_bytes_from text_from
    byte_string_from bool_from leaf_from value_from plain_from target_from content_from pointer_from
    head_from size_from kind_from one_less byte_from bytes_from number_from is_utf8 chars
    encode_utf8
text_read = refl
