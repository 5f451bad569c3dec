-- Reading a file piece by piece.
use Rattle.std.proofs.Common.{◌≡◌, ℕ, ◌+◌, ◌-◌, ◌<◌, ◌≤◌, min, List, [], ◌++◌, length, take, drop}
use Rattle.std.proofs.Common.{arith, refl, sym, ap, ◌∙◌, length-append}
use Rattle.std.specs.Prelude.{Option, None, Some, IsSome, IsSomeAnd}
use Rattle.std.proofs.lemmas.List.{length-take, length-take-le, take_all}
use Rattle.std.proofs.Math.Seq.{take-add}
use Rattle.geo_outside.specs.Files.{IsReadFrom}

-- the bytes read so far are the first of the file, and where there is no file none were read
abbrev pub AreFirst : Option (List ℕ) → List ℕ → Type 0
AreFirst None bytes = bytes ≡ []
AreFirst (Some file) bytes = bytes ≡ take (length bytes) file

-- one read more
pub first_more : (held : Option (List ℕ)) (bytes into more : List ℕ) (at n : ℕ)
    → at ≡ length bytes → n ≤ length into → IsSome held
    → ((file : List ℕ) → held ≡ Some file → IsReadFrom file at into n) → more ≡ bytes ++ take n into
    → AreFirst held bytes → AreFirst held more
first_more None bytes into more at n offset room some read is first = cc
first_more (Some file) bytes into more at n offset room some read is first =
    let part : take n into ≡ take n (drop (length bytes) file) =
    (read file refl).bytes ∙ ap (λ k. take n (drop k file)) offset in
    let len : length more ≡ length bytes + n =
    omega (arith, ap length is, length-append bytes (take n into), length-take-le n into room) in
    let joined : take (length bytes + n) file ≡ more =
    cc (take-add (length bytes) n file, first, part, is) in
    sym (ap (λ k. take k file) len ∙ joined)

-- a read of no bytes is the end of the file
pub first_all : (held : Option (List ℕ)) (bytes into : List ℕ) (at n : ℕ) → at ≡ length bytes
    → n ≡ 0 → IsSome held → ((file : List ℕ) → held ≡ Some file → IsReadFrom file at into n)
    → AreFirst held bytes → held ≡ Some bytes
first_all None bytes into at n offset none some read first = cc
first_all (Some file) bytes into at n offset none some read first =
    let ended : length file ≤ length bytes = omega (arith, (read file refl).end.0 none) in
    ap Some (sym (first ∙ take_all (length bytes) file ended))

-- what was read is no longer than the file
pub first_long : (held : Option (List ℕ)) (bytes : List ℕ) (limit : ℕ) → limit < length bytes
    → AreFirst held bytes → IsSomeAnd held (λ file. limit < length file)
first_long None bytes limit long first = omega (arith, ap length first)
first_long (Some file) bytes limit long first =
    omega (arith, ap length first, length-take (length bytes) file)

-- what a fake read copied
pub copied_from : (file held into : List ℕ) (from most room n : ℕ)
    → Some file ≡ Some held → 1 ≤ most → 0 < room → n ≡ min most (min room (length file - from))
    → take n into ≡ take n (drop from file) → IsReadFrom held from into n
copied_from file held into from most room n same some wide amount bytes =
    let e : file ≡ held = cc in
    let fits : length file ≡ length held = ap length e in
    record {
      bytes = bytes ∙ ap (λ (f : List ℕ). take n (drop from f)) e;
      end = (λ none. omega arith, λ past. omega arith);
    }
