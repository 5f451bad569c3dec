-- The bits of an address, most significant first: the way through a search tree that the address
-- takes (MaxMind DB 2.0, "Binary Search Tree Section").
use Rattle.std.specs.Prelude.{◌≡◌, ℕ, zero, suc, ◌+◌, ◌^◌, ◌<◌, ◌==◌, Bool, true, false, List, []}
use Rattle.std.specs.Prelude.{◌∷◌, length}
use Rattle.std.specs.Int.{bit_at}

-- the low n bits of a number, most significant first
unfoldable pub bits_of : ℕ → ℕ → List Bool
bits_of zero a = []
bits_of (suc n) a = (bit_at a n == 1) ∷ bits_of n a

-- the number that a list of bits spells, most significant first
abbrev pub number_of : List Bool → ℕ
number_of [] = 0
number_of (false ∷ w) = number_of w
number_of (true ∷ w) = 2 ^ length w + number_of w

-- numbers of n bits and lists of n bits are one to one
pub record OneListOfBits (n : ℕ) : Type 0 where
  pub long : (a : ℕ) → length (bits_of n a) ≡ n
  pub back : (a : ℕ) → a < 2 ^ n → number_of (bits_of n a) ≡ a
  pub below : (w : List Bool) → length w ≡ n → number_of w < 2 ^ n
  pub again : (w : List Bool) → length w ≡ n → bits_of n (number_of w) ≡ w
