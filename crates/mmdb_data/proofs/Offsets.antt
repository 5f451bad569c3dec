-- What stands from an offset of a section on is read there, and the offset moves on behind it.
use Rattle.std.proofs.Common.{◌≡◌, ℕ, suc, ◌+◌, ◌-◌, ◌^◌, ◌<◌, List, [], ◌∷◌, ◌++◌, length, get_or}
use Rattle.std.proofs.Common.{drop, Ok, refl, sym, ap, ◌∙◌, arith}
use Rattle.std.specs.Int.{bytes_high_first}
use Rattle.std.proofs.lemmas.Bool.{lt-ltb, le-ltb}
use Rattle.std.proofs.lemmas.List.{take_at, drop_at, drop-drop, length-append, length-drop}
use Rattle.std.proofs.lemmas.List.{get_or-drop, append-nil}
use Rattle.byteorder.specs.Endian.{big_number}
use Rattle.byteorder.specs.Numbers.{big_number-reads_back, length-bytes_high_first}
use Rattle.mmdb_data.specs.Reading.{Fault, byte_from, bytes_from, number_from}

pub moved : (section : List ℕ) (offset : ℕ) (x y : List ℕ) (after : ℕ)
    → drop offset section ≡ x ++ y
    → after ≡ offset + length x → drop after section ≡ y
moved section offset x y after here is_after =
    ap (λ (n : ℕ). drop n section) is_after ∙ sym (drop-drop (length x) offset section)
    ∙ ap (drop (length x)) here ∙ drop_at x y (length x) refl

left_here : (section : List ℕ) (offset : ℕ) (x : List ℕ) → drop offset section ≡ x
    → length x ≡ length section - offset
left_here section offset x here = sym (ap length here) ∙ length-drop offset section

pub byte_here : (section : List ℕ) (offset b : ℕ) (y : List ℕ) (fault : Fault)
    → drop offset section ≡ b ∷ y → byte_from section offset fault ≡ Ok b
unfolding byte_from
byte_here section offset b y fault here =
    let left : suc (length y) ≡ length section - offset = left_here section offset (b ∷ y) here in
    let inside = lt-ltb offset (length section) (omega arith) in
    let found : get_or section offset 0 ≡ b =
    ap (λ (n : ℕ). get_or section n 0) (omega arith) ∙ sym (get_or-drop offset section 0 0)
    ∙ ap (λ (xs : List ℕ). get_or xs 0 0) here in
    rw (inside, found) refl

pub bytes_here : (section : List ℕ) (offset size : ℕ) (x y : List ℕ) (fault : Fault)
    → drop offset section ≡ x ++ y → length x ≡ size → bytes_from section offset size fault ≡ Ok x
unfolding bytes_from
bytes_here section offset size x y fault here is_size =
    let left : length (x ++ y) ≡ length section - offset = left_here section offset (x ++ y) here in
    let enough = le-ltb (length section - offset) size (omega (arith, length-append x y)) in
    rw (enough, here, take_at x y size is_size) refl

pub number_of_bytes : (size n : ℕ) → n < 256 ^ size → big_number size (bytes_high_first size n) ≡ n
number_of_bytes size n fits =
    ap (big_number size) (sym (append-nil (bytes_high_first size n)))
    ∙ big_number-reads_back size n [] fits

pub number_here : (section : List ℕ) (offset size n : ℕ) (y : List ℕ) (fault : Fault)
    → drop offset section ≡ bytes_high_first size n ++ y → n < 256 ^ size
    → number_from section offset size fault ≡ Ok n
unfolding number_from
number_here section offset size n y fault here fits =
    rw (bytes_here section offset size (bytes_high_first size n) y fault here
    (length-bytes_high_first size n)) (ap Ok (number_of_bytes size n fits))
