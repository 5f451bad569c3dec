-- A text cut at its first separator, and the block of what is read on both sides.
use Rattle.std.proofs.Common.{◌≡◌, ◌≢◌, ℕ, suc, Bool, List, [], ◌∷◌, ◌++◌, length}
use Rattle.std.proofs.Common.{All, Bor, refl, arith, Option, Result, Some, None, MatchOption}
use Rattle.std.specs.Option.{option_copied}
use Rattle.std.proofs.lemmas.Bool.{ne_eqb, eq-eqb}
use Rattle.geo_addr.specs.declared.fault.AddrFault.{AddrFault}
use Rattle.geo_addr.specs.AddressTexts.{is_six, number_in}
use Rattle.geo_addr.specs.Prefixes.{address_length, block_in, block_of, cut_first, length_in}

-- a text without the separator is not cut
pub cut_first-free : (separator : ℕ) (text : List ℕ) → All (λ b. b ≢ separator) text
    → cut_first separator text ≡ (text, None)
cut_first-free separator [] free = refl
cut_first-free separator (b ∷ bs) free =
    rw (
      ne_eqb b separator (free 0 0 (omega arith)),
      cut_first-free separator bs (λ k d l. free (suc k) d (omega arith)),
    ) refl

-- a text is cut at the separator that has none before it
pub cut_first-at : (separator : ℕ) (before after : List ℕ) → All (λ b. b ≢ separator) before
    → cut_first separator (before ++ separator ∷ after) ≡ (before, Some after)
cut_first-at separator [] after free = rw (eq-eqb separator separator refl) refl
cut_first-at separator (b ∷ bs) after free =
    rw (
      ne_eqb b separator (free 0 0 (omega arith)),
      cut_first-at separator bs after (λ k d l. free (suc k) d (omega arith)),
    ) refl

-- what `cut_at` says of its result
pub cut_first-is : (separator : ℕ) (text before : List ℕ) (after : Option (Bor (List ℕ)))
    → All (λ b. b ≢ separator) before
    → MatchOption after (text ≡ before) (λ rest. text ≡ before ++ separator ∷ rest.now)
    → cut_first separator text ≡ (before, option_copied after)
cut_first-is separator text before None free joined =
    rw joined (cut_first-free separator before free)
cut_first-is separator text before (Some after) free joined =
    rw joined (cut_first-at separator before after.now free)

-- the block of a text with no slash
pub block_in-alone : (text before : List ℕ) (after : Option (Bor (List ℕ))) (six : Bool)
    (read : Result ℕ AddrFault) (bits : ℕ) → All (λ b. b ≢ 47) before →
    MatchOption after (text ≡ before) (λ rest. text ≡ before ++ 47 ∷ rest.now) →
    after ≡ None → six ≡ is_six before → read ≡ number_in (is_six before) before →
    bits ≡ address_length six → block_of six read (Some bits) ≡ block_in text
block_in-alone text before after six read bits free joined none is number whole =
    rw (cut_first-is 47 text before after free joined, none, whole, is, number) refl

-- the block of a text with a slash
pub block_in-slash : (text before : List ℕ) (after : Option (Bor (List ℕ))) (right : Bor (List ℕ))
    (six : Bool) (read : Result ℕ AddrFault) (length : Option ℕ) → All (λ b. b ≢ 47) before →
    MatchOption after (text ≡ before) (λ rest. text ≡ before ++ 47 ∷ rest.now) →
    after ≡ Some right → six ≡ is_six before → read ≡ number_in (is_six before) before →
    length ≡ length_in six right.now → block_of six read length ≡ block_in text
block_in-slash text before after right six read length free joined some is number bits =
    rw (cut_first-is 47 text before after free joined, some, bits, is, number) refl
