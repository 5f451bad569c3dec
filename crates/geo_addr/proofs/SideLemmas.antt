-- Members of a list, read one behind another.
use Rattle.std.proofs.Common.{◌≡◌, ℕ, ◌+◌, ◌*◌, ◌/◌, ◌%◌, ◌^◌, ◌<◌, ◌≤◌, Bool, true, false, ◌&&◌}
use Rattle.std.proofs.Common.{not, cond, nat_le, List, [], ◌∷◌, length, Result, Ok, Err, refl, sym}
use Rattle.std.proofs.Common.{ap, ◌∙◌, subst, arith, ◌==◌, lit<}
use Rattle.std.specs.List.{list_all}
use Rattle.std.specs.Char.{is_digit}
use Rattle.std.specs.Str.Parse.{digits_value}
use Rattle.std.specs.Int.Digits.{number_from_digits_after}
use Rattle.std.proofs.lemmas.Bool.{and_parts, and_left, false≢true}
use Rattle.std.proofs.lemmas.List.Splits.{length-slice_split}
use Rattle.std.proofs.lemmas.Grind.{pow_more}
use Rattle.std.proofs.Math.Nat.{pow-le-pow_right}
use Rattle.geo_addr.specs.declared.fault.AddrFault.{AddrFault}
use Rattle.geo_addr.specs.declared.fault.AddrFault.TheVariants.{Form, Octet, Groups}
use Rattle.geo_addr.specs.declared.side.Side.{Side}
use Rattle.geo_addr.specs.Lines.{pieces}
use Rattle.geo_addr.specs.Ipv4Texts.{are_four, is_part, is_octet, octets_number, ipv4_of}
use Rattle.geo_addr.specs.Ipv6Texts.{is_group, is_dotted, has_bad_octet, groups_of, members}
use Rattle.geo_addr.specs.Sides.{Adds, IsSmall, ReadsMembers, ReadsSide, no_groups}
use Rattle.geo_addr.proofs.PartLemmas.{pieces_all}

-- a group has no dots
group_not_dotted : (part : List ℕ) → is_group part ≡ true → is_dotted part ≡ false
unfolding is_group is_dotted
group_not_dotted part group =
    let digits = (and_parts (nat_le 1 (length part) && nat_le (length part) 4)
    (list_all (λ b. is_digit b 16) part) group).1 in
    rw (pieces_all (λ b. is_digit b 16) 46 part refl digits) refl

pub group_not_bad : (part : List ℕ) → is_group part ≡ true → has_bad_octet part ≡ false
unfolding has_bad_octet
group_not_bad part group = and_left _ _ (group_not_dotted part group)

pub groups_of-group : (part : List ℕ) → is_group part ≡ true
    → groups_of part ≡ digits_value 16 part ∷ []
unfolding groups_of
groups_of-group part group = rw group refl

groups_of-dotted : (part : List ℕ) → is_group part ≡ false → groups_of part
    ≡ (octets_number (pieces 46 part) / 65536) ∷ (octets_number (pieces 46 part) % 65536) ∷ []
unfolding groups_of
groups_of-dotted part other = rw other refl

-- one more group, and then others
Adds-on : (old mid new : Side) (group : ℕ) (groups : List ℕ) → Adds old (group ∷ []) mid
    → Adds mid groups new → Adds old (group ∷ groups) new
Adds-on old mid new group groups one others = record {
  count = omega (arith, one.count, others.count);
  value =
      λ few. others.value few ∙ ap (λ n. number_from_digits_after 65536 n groups)
      (one.value (omega (arith, one.count, others.count)));
}

-- a group that is not the last member
pub reads_group : (dots : Bool) (old new : Side) (part : List ℕ) (parts : List (List ℕ))
    (group : ℕ) (read : Result Side AddrFault) → 0 < length parts → is_group part ≡ true
    → group ≡ digits_value 16 part → Adds old (group ∷ []) new → ReadsMembers dots new parts read
    → ReadsMembers dots old (part ∷ parts) read
reads_group dots old new part [] group read some is value adds reads = absurd (omega arith)
reads_group dots old new part (next ∷ more) group (Ok side) some is value adds reads = (
  rw is reads.0,
  rw (group_not_bad part is) reads.1,
  rw (groups_of-group part is, ← value) (Adds-on old new side group _ adds reads.2),
)
reads_group dots old new part (next ∷ more) group (Err Form) some is value adds reads = rw is reads
reads_group dots old new part (next ∷ more) group (Err Octet) some is value adds reads =
    (rw is reads.0, rw (group_not_bad part is) reads.1)
reads_group dots old new part (next ∷ more) group (Err Groups) some is value adds reads = reads

-- what is no group may only be the last member
pub reads_no_group : (dots : Bool) (old : Side) (part : List ℕ) (parts : List (List ℕ))
    → 0 < length parts → is_group part ≡ false → ReadsMembers dots old (part ∷ parts) (Err Form)
reads_no_group dots old part [] some other = absurd (omega arith)
reads_no_group dots old part (next ∷ more) some other = rw other refl

-- the last member, a group
pub reads_last_group : (dots : Bool) (old new : Side) (part : List ℕ) (group : ℕ)
    → is_group part ≡ true → group ≡ digits_value 16 part → Adds old (group ∷ []) new
    → ReadsMembers dots old (part ∷ []) (Ok new)
reads_last_group dots old new part group is value adds = (
  rw is refl,
  rw (group_not_bad part is) refl,
  rw (groups_of-group part is, ← value) adds,
)

-- the last member, where it is no group and dots are not allowed
pub reads_last_other : (old : Side) (part : List ℕ) → is_group part ≡ false
    → ReadsMembers false old (part ∷ []) (Err Form)
reads_last_other old part other = rw other refl

-- what the reading of dotted parts tells
TellsDotted : List (List ℕ) → Result ℕ AddrFault → Type 0
TellsDotted parts (Ok n) =
    (are_four is_part parts ≡ true) × (are_four is_octet parts ≡ true) × (n ≡ octets_number parts)
TellsDotted parts (Err Form) = are_four is_part parts ≡ false
TellsDotted parts (Err Octet) = (are_four is_part parts ≡ true) × (are_four is_octet parts ≡ false)
TellsDotted parts (Err Groups) = ⊥

-- every text has a piece
pub some_piece : (c : ℕ) (text : List ℕ) → 0 < length (pieces c text)
some_piece c text = omega (arith, length-slice_split (λ b. b == c) text)

-- one more group needs 16 more bits
pub one_more_group : (number group count : ℕ) → number < 65536 ^ count → group < 65536
    → number * 65536 + group < 65536 ^ (count + 1)
one_more_group number group count small fits =
    let power : 65536 ^ (count + 1) ≡ 65536 ^ count * 65536 = pow_more 65536 count in
    omega arith

-- fewer than eight groups leave room for one
pub room_for_group : (number group count : ℕ) → number < 65536 ^ count → group < 65536 → count < 8
    → number * 65536 + group < 2 ^ 128
room_for_group number group count small fits few =
    let more = one_more_group number group count small fits in
    let most : 65536 ^ (count + 1) ≤ 65536 ^ 8 =
    pow-le-pow_right {n = 65536} (lit< tt) {i = count + 1} {j = 8} (omega arith) in
    omega arith

told : (parts : List (List ℕ)) (p o : Bool)
    → are_four is_part parts ≡ p → are_four is_octet parts ≡ o → TellsDotted parts
    (cond (not p) (Err Form) (cond (not o) (Err Octet) (Ok (octets_number parts))))
unfolding TellsDotted
told parts false o is_p is_o = is_p
told parts true false is_p is_o = (is_p, is_o)
told parts true true is_p is_o = (is_p, is_o, refl)

tells_dotted : (parts : List (List ℕ)) (read : Result ℕ AddrFault) → read ≡ ipv4_of parts
    → TellsDotted parts read
unfolding ipv4_of
tells_dotted parts read is =
    subst (TellsDotted parts) (sym is)
    (told parts (are_four is_part parts) (are_four is_octet parts) refl refl)

-- what spells an IPv4 address has four parts
pub are_parts : (parts : List (List ℕ)) (number : ℕ) → Ok number ≡ ipv4_of parts →
    are_four is_part parts ≡ true
unfolding TellsDotted
are_parts parts number reads = (tells_dotted parts (Ok number) reads).0

-- the last member, a dotted part
pub reads_last_dotted : (dots : Bool) (old mid new : Side) (part : List ℕ) (octets : ℕ)
    → dots ≡ true → is_group part ≡ false
    → Ok octets ≡ ipv4_of (pieces 46 part) → Adds old ((octets / 65536) ∷ []) mid
    → Adds mid ((octets % 65536) ∷ []) new → ReadsMembers dots old (part ∷ []) (Ok new)
unfolding is_dotted has_bad_octet TellsDotted
reads_last_dotted dots old mid new part octets allowed other is high low =
    let tells = tells_dotted (pieces 46 part) (Ok octets) is in (
      rw (other, allowed, tells.0) refl,
      rw (tells.0, tells.1) refl,
      rw (groups_of-dotted part other, ← tells.2) (Adds-on old mid new _ _ high low),
    )

-- the last member, which is no dotted part either, or has a bad octet
pub reads_last_fault : (dots : Bool) (old : Side) (part : List ℕ) (fault : AddrFault) → dots ≡ true
    → is_group part ≡ false
    → Err fault ≡ ipv4_of (pieces 46 part) → ReadsMembers dots old (part ∷ []) (Err fault)
unfolding is_dotted has_bad_octet TellsDotted
reads_last_fault dots old part Form allowed other is =
    rw (other, allowed, tells_dotted (pieces 46 part) (Err Form) is) refl
reads_last_fault dots old part Octet allowed other is =
    let tells = tells_dotted (pieces 46 part) (Err Octet) is in
    (rw (other, allowed, tells.0) refl, rw (tells.0, tells.1) refl)
reads_last_fault dots old part Groups allowed other is =
    absurd (tells_dotted (pieces 46 part) (Err Groups) is)

-- a text that is not empty has the members that stand between its colons
pub members-some : (text : List ℕ) → false ≡ (length text == 0) → members text ≡ pieces 58 text
members-some [] some = absurd (false≢true some)
members-some (b ∷ bs) some = refl

-- in mid-list: what is read of the rest behind this side is what is read of the text
pub record ReadsOn (dots : Bool) (text : List ℕ) (side : Side) (rest : List ℕ) : Type 0 where
  pub whole : (read : Result Side AddrFault) → ReadsMembers dots side (pieces 58 rest) read
      → ReadsSide dots text read
  pub small : IsSmall side

pub ReadsOn-start : (dots : Bool) (text : List ℕ) (side : Side)
    → false ≡ (length text == 0) → side ≡ no_groups → ReadsOn dots text side text
ReadsOn-start dots text side some is = record {
  whole = λ read reads.
      rw (members-some text some) (subst (λ s. ReadsMembers dots s (pieces 58 text) read) is reads);
  small = rw is (λ few. lit< tt);
}

-- the last member ends the text
pub ReadsOn-last : (dots : Bool) (text part rest : List ℕ) (side : Side)
    (read : Result Side AddrFault) → ReadsOn dots text side rest → pieces 58 rest ≡ part ∷ []
    → ReadsMembers dots side (part ∷ []) read → ReadsSide dots text read
ReadsOn-last dots text part rest side read on cut reads = on.whole read (rw cut reads)

-- past a group
pub ReadsOn-group : (dots : Bool) (text part rest next : List ℕ) (old new : Side) (group : ℕ)
    → ReadsOn dots text old rest → pieces 58 rest ≡ part ∷ pieces 58 next
    → is_group part ≡ true → group ≡ digits_value 16 part → Adds old (group ∷ []) new → IsSmall new
    → ReadsOn dots text new next
ReadsOn-group dots text part rest next old new group on cut is value adds small = record {
  whole =
      λ read reads. on.whole read (rw cut (reads_group dots old new part (pieces 58 next) group read
      (some_piece 58 next) is value adds reads));
  small = small;
}

pub ReadsOn-other : (dots : Bool) (text part rest next : List ℕ) (side : Side)
    → ReadsOn dots text side rest → pieces 58 rest ≡ part ∷ pieces 58 next → is_group part ≡ false
    → ReadsSide dots text (Err Form)
ReadsOn-other dots text part rest next side on cut other =
    on.whole (Err Form)
    (rw cut (reads_no_group dots side part (pieces 58 next) (some_piece 58 next) other))
