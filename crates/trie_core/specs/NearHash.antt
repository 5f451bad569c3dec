-- What a `NearHasher` computes.
use Rattle.std.specs.Prelude.{ℕ, ◌+◌, ◌*◌, ◌/◌, ◌%◌, ◌^◌, List, length, if◌then◌else◌, nat_le}
use Rattle.std.specs.Prelude.{nat_eq, slice_index, bit_and, bit_or, bit_xor}
use Rattle.trie_core.specs.declared.near.NearHasher.{NearHasher}

-- the number that the first four bytes spell, the lowest first
unfoldable pub low_number : List ℕ → ℕ
low_number bytes =
    if nat_le 4 (length bytes) then slice_index bytes 0 + slice_index bytes 1 * 256
    + slice_index bytes 2 * 65536 + slice_index bytes 3 * 16777216 else 0

-- the state after one write: the last four numbers are kept
unfoldable pub write : NearHasher → List ℕ → NearHasher
write h bytes = record {
  earlier = bit_or ((h.earlier * 2 ^ 32) % 2 ^ 64) (h.later / 2 ^ 32);
  later = bit_or ((h.later * 2 ^ 32) % 2 ^ 64) (low_number bytes);
}

-- two numbers mixed
unfoldable pub mixed : ℕ → ℕ → ℕ
mixed a b =
    let sum = ((a * 0x9e37_79b9_7f4a_7c15) % 2 ^ 64 + b) % 2 ^ 64 in
    (bit_xor sum (sum / 2 ^ 32) * 0xd6e8_feb8_6659_fd93) % 2 ^ 64

-- the hash that comes to the group of a number
unfoldable pub beside : ℕ → ℕ → ℕ
beside number mix = bit_or ((mix / 2 ^ 56 * 2 ^ 24) % 2 ^ 64) (bit_and number 0xff_ffff)

-- the hash of the last four numbers, which are two records:
-- where one of them is leaf 0 it follows from the other
unfoldable pub finish : NearHasher → ℕ
finish h =
    if nat_eq h.earlier 0 then beside h.later (mixed h.earlier h.later)
    else (if nat_eq h.later 0 then beside h.earlier (mixed h.earlier h.later)
    else mixed h.earlier h.later / 2 ^ 32)
