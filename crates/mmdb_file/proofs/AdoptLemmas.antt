-- Seeking the marker from the end, reading the metadata, and following the bits of an address.
use Rattle.std.proofs.Common.{◌≡◌, ◌≢◌, ℕ, suc, ◌+◌, ◌-◌, ◌/◌, ◌^◌, ◌<◌, ◌≤◌, ◌==◌, Bool, true}
use Rattle.std.proofs.Common.{false, List, [], ◌∷◌, ◌++◌, length, take, drop, get_or, Option, Some}
use Rattle.std.proofs.Common.{None, Result, Ok, Err, refl, sym, ap, ◌∙◌, arith, length-take}
use Rattle.std.proofs.Common.{length-drop}
use Rattle.std.specs.Prelude.{codes, bit_and}
use Rattle.std.specs.Int.{bit_at}
use Rattle.std.proofs.Math.Seq.{drop-cons}
use Rattle.std.proofs.lemmas.List.{take-append-drop, take_all}
use Rattle.std.proofs.lemmas.Bool.{lt-ltb, le-ltb}
use Rattle.std.proofs.lemmas.Nat.Bits.{shr_and_one}
use Rattle.geo_addr.specs.Bits.{bits_of}
use Rattle.mmdb_data.specs.ValueTree.{Members}
use Rattle.mmdb_tree.specs.declared.bits.Bits.{Bits}
use Rattle.mmdb_data.specs.Reading.{reads}
use Rattle.mmdb_file.specs.Adopting.{Gives}
use Rattle.mmdb_file.specs.declared.fault.OpenFault.{OpenFault}
use Rattle.mmdb_file.specs.declared.fault.OpenFault.TheVariants.{NoMarker, Metadata, Version}
use Rattle.mmdb_file.specs.declared.fault.OpenFault.TheVariants.{TreeCut, Memory}
use Rattle.mmdb_file.specs.Marker.{marker, begins, later_or, last_marker}
use Rattle.mmdb_file.specs.Walk.{MetadataParts, told_of, told_of_value, opened, opened_with}
use Rattle.mmdb_file.specs.Walk.{number_field}
use Rattle.mmdb_file.specs.Walk.{count_of, bits_of_size, seek}
use Rattle.mmdb_file.proofs.MarkerLemmas.{behind}

pub to_end : (bytes : List ℕ) (n : ℕ) → take (length bytes - n) (drop n bytes) ≡ drop n bytes
to_end bytes n = take_all (length bytes - n) (drop n bytes) (omega (arith, length-drop n bytes))

-- the bytes from an offset on, where none holds a marker behind their first
at_offset : (bytes : List ℕ) (n : ℕ) (here : Bool)
    → n < length bytes → last_marker (drop (suc n) bytes) ≡ None
    → here ≡ begins marker (take (length bytes - n) (drop n bytes))
    → last_marker (drop n bytes) ≡ later_or None here
at_offset bytes n here inside none is =
    let cut : drop n bytes ≡ get_or bytes n 0 ∷ drop (suc n) bytes = drop-cons bytes n 0 inside in
    let begun : begins marker (get_or bytes n 0 ∷ drop (suc n) bytes) ≡ here =
    ap (begins marker) (sym cut) ∙ ap (begins marker) (sym (to_end bytes n)) ∙ sym is in
    rw cut (rw (none, begun) refl)

pub none_here : (bytes : List ℕ) (offset : ℕ)
    → 0 < offset → offset ≤ length bytes → last_marker (drop offset bytes) ≡ None
    → false ≡ begins marker (take (length bytes - (offset - 1)) (drop (offset - 1) bytes))
    → last_marker (drop (offset - 1) bytes) ≡ None
none_here bytes offset some inside none is =
    let next : suc (offset - 1) ≡ offset = omega arith in
    at_offset bytes (offset - 1) false (omega arith)
    (ap (λ n. last_marker (drop n bytes)) next ∙ none) is

pub found_here : (bytes : List ℕ) (offset : ℕ)
    → 0 < offset → offset ≤ length bytes → last_marker (drop offset bytes) ≡ None
    → true ≡ begins marker (take (length bytes - (offset - 1)) (drop (offset - 1) bytes))
    → Some (offset - 1) ≡ last_marker bytes
found_here bytes offset some inside none is =
    let n : ℕ = offset - 1 in
    let next : suc n ≡ offset = omega arith in
    let here : last_marker (drop n bytes) ≡ Some 0 =
    at_offset bytes n true (omega arith) (ap (λ k. last_marker (drop k bytes)) next ∙ none) is in
    let whole : last_marker (take n bytes ++ drop n bytes) ≡ Some (length (take n bytes) + 0) =
    behind (take n bytes) (drop n bytes) 0 here in
    let long : length (take n bytes) + 0 ≡ n = simp length-take (omega arith) in
    sym (ap last_marker (sym (take-append-drop n bytes)) ∙ whole ∙ ap Some long)

pub told_is : (members : Members) (nodes size major ip count : ℕ) (bits : Bits)
    → number_field (codes "node_count") members ≡ Some nodes
    → number_field (codes "record_size") members ≡ Some size
    → number_field (codes "binary_format_major_version") members ≡ Some major
    → number_field (codes "ip_version") members ≡ Some ip
    → count_of nodes ≡ Some count → bits_of_size size ≡ Some bits
    → told_of members ≡ Some (record { nodes = count; bits = bits; major = major; ip = ip })
unfolding told_of
told_is _ nodes size major ip count bits a b c d e f = rw (a, b, c, d, e, f) refl

module _ (read : ℕ → Bool → ℕ) (nodes : ℕ) where
  pub seek_done : (number : ℕ) (path : List Bool) → nodes ≤ number
      → seek read nodes number path ≡ Some number
  seek_done number [] past = rw (le-ltb number nodes past) refl
  seek_done number (b ∷ path) past = rw (le-ltb number nodes past) refl

  pub seek_out : (number a : ℕ) → number < nodes → seek read nodes number (bits_of 0 a) ≡ None
  unfolding bits_of
  seek_out number a below = rw (lt-ltb number nodes below) refl

  pub seek_on : (number left a : ℕ) (bit : ℕ) → left ≢ 0 → number < nodes
      → bit ≡ bit_and (a / 2 ^ (left - 1)) 1 → seek read nodes (read number (bit == 1))
      (bits_of (left - 1) a) ≡ seek read nodes number (bits_of left a)
  unfolding bits_of
  seek_on number left a bit some below is =
      let n : ℕ = left - 1 in
      let next : suc n ≡ left = omega arith in
      let same : bit ≡ bit_at a n = is ∙ shr_and_one a n in
      let went : seek read nodes number (bits_of (suc n) a)
      ≡ seek read nodes (read number (bit_at a n == 1)) (bits_of n a) =
      rw (lt-ltb number nodes below) refl in
      ap (λ (b : ℕ). seek read nodes (read number (b == 1)) (bits_of n a)) same ∙ sym went
      ∙ ap (λ (k : ℕ). seek read nodes number (bits_of k a)) next

-- an exact answer is a defined one
pub gives_exact : {B : Type 0} (answer defined : Result B OpenFault) → defined ≡ answer
    → Gives answer defined
gives_exact (Ok x) defined same = same
gives_exact (Err NoMarker) defined same = same
gives_exact (Err Metadata) defined same = same
gives_exact (Err Version) defined same = same
gives_exact (Err TreeCut) defined same = same
gives_exact (Err Memory) defined same = tt

pub opened_is : (bytes : List ℕ) (offset : ℕ) (told : Option MetadataParts) (front rest : List ℕ)
    → last_marker bytes ≡ Some offset → front ≡ take offset bytes → rest ≡ drop (offset + 14) bytes
    → told_of_value (reads rest 0) ≡ told → opened bytes ≡ opened_with front told
unfolding opened marker
opened_is bytes offset told front rest found is_front is_rest tells =
    rw (found, ← is_rest, tells, ← is_front) refl
