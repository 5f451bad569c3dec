-- Members that borrow their texts: how many they are, where the spelling of a map has each of them,
-- and one more of them in a section.
use Rattle.std.proofs.Common.{◌≡◌, ℕ, suc, ◌+◌, ◌<◌, ◌≤◌, List, [], ◌∷◌, ◌++◌, length, take, drop}
use Rattle.std.proofs.Common.{get_or, refl, sym, ap, ◌∙◌, subst, arith, add-one, append_assoc}
use Rattle.std.proofs.Common.{append-nil, length-append}
use Rattle.std.proofs.lemmas.List.{take_at, drop_at}
use Rattle.std.proofs.Math.Seq.{drop-cons}
use Rattle.mmdb_data.specs.ValueTree.{ValueTree, map, members_len, MembersAreNarrow}
use Rattle.mmdb_data.specs.Spelling.{head, sized, spelling, members_spelling}
use Rattle.mmdb_data.specs.Packing.{Packed, key_part, part_by, content_in, members_in}
use Rattle.mmdb_data.specs.declared.member.Around.{Around}
use Rattle.mmdb_data.specs.declared.member.Around.TheVariants.{Map, List as InList}
use Rattle.mmdb_data.specs.declared.member.Member.{Member}
use Rattle.mmdb_data.specs.Member.{nested, wrapped, around_head, member_value, member_list}

pub len-member_list : (members : List Member) → members_len (member_list members) ≡ length members
len-member_list [] = omega arith
len-member_list (m ∷ members) = ap suc (len-member_list members)

-- ---- spellings

-- what stands behind the front
pub cut_front : (whole front back : List ℕ) (n : ℕ) → whole ≡ front ++ back → n ≡ length front
    → (n ≤ length whole) × (drop n whole ≡ back)
cut_front whole front back n is n_is = (
  omega (arith, n_is, ap length is, length-append front back),
  ap (drop n) is ∙ drop_at front back n (sym n_is),
)

wrapped_is : (outer : Around) (value : ValueTree)
    → spelling (wrapped outer value) ≡ around_head outer ++ spelling value
wrapped_is (Map key) value =
    ap (λ (x : List ℕ). head 7 1 ++ (sized 2 key.now ++ x)) (append-nil (spelling value))
    ∙ sym (append_assoc (head 7 1) (sized 2 key.now) (spelling value))
wrapped_is InList value = ap (λ (x : List ℕ). head 11 1 ++ x) (append-nil (spelling value))

pub len_wrapped : (outer : Around) (value : ValueTree)
    → length (spelling (wrapped outer value)) ≡ length (around_head outer) + length (spelling value)
len_wrapped outer value =
    ap length (wrapped_is outer value) ∙ length-append (around_head outer) (spelling value)

-- a value behind what stands around it
pub behind_around : (outer : Around) (value : ValueTree) (whole : List ℕ) (n : ℕ)
    → whole ≡ spelling (wrapped outer value) → n ≡ length (around_head outer)
    → (n ≤ length whole) × (drop n whole ≡ spelling value)
behind_around outer value whole n is n_is =
    cut_front whole (around_head outer) (spelling value) n (is ∙ wrapped_is outer value) n_is

-- the members behind the head of a map
pub behind_head : (members : List Member) (whole : List ℕ) (n : ℕ)
    → whole ≡ spelling (map (member_list members)) → n ≡ length (head 7 (length members))
    → (n ≤ length whole) × (drop n whole ≡ members_spelling (member_list members))
behind_head members whole n is n_is =
    cut_front whole (head 7 (members_len (member_list members)))
    (members_spelling (member_list members)) n is
    (n_is ∙ ap (λ (k : ℕ). length (head 7 k)) (sym (len-member_list members)))

-- ---- one more member

module _ (members : List Member) (i : ℕ) (d : Member) (inside : i < length members) where
  rest_is : drop i members ≡ get_or members i d ∷ drop (i + 1) members
  rest_is =
      drop-cons members i d inside
      ∙ ap (λ (n : ℕ). get_or members i d ∷ drop n members) (sym (add-one i))

  -- the spelling of the member's value, behind that of its key, and those of the later ones
  module _ (rest : List ℕ) (is : rest ≡ members_spelling (member_list (drop i members))) where
    abbrev key : List ℕ
    key = sized 2 (get_or members i d).key.now

    abbrev value : List ℕ
    value = spelling (member_value (get_or members i d))

    abbrev later : List ℕ
    later = members_spelling (member_list (drop (i + 1) members))

    whole_is : rest ≡ key ++ (value ++ later)
    whole_is = is ∙ ap (λ (ms : List Member). members_spelling (member_list ms)) rest_is

    behind_key : drop (length key) rest ≡ value ++ later
    behind_key = (cut_front rest key (value ++ later) (length key) whole_is refl).1

    pub value_within : length key + length value ≤ length rest
    value_within =
        omega (
          arith,
          ap length whole_is,
          length-append key (value ++ later),
          length-append value later,
        )

    pub value_is : take (length value) (drop (length key) rest) ≡ value
    value_is = ap (take (length value)) behind_key ∙ take_at value later (length value) refl

    pub later_is : drop (length value) (drop (length key) rest) ≡ later
    later_is =
        (cut_front (drop (length key) rest) value later (length value) behind_key refl).1

  pub member_more : (now keyed new total : Packed)
      → members_in (member_list (drop i members)) now ≡ total
      → MembersAreNarrow (member_list (drop i members))
      → keyed ≡ key_part (get_or members i d).key.now now
      → new ≡ part_by
      (spelling (nested (get_or members i d).around.now (get_or members i d).text.now))
      (content_in (nested (get_or members i d).around.now (get_or members i d).text.now)) keyed
      → (members_in (member_list (drop (i + 1) members)) new ≡ total)
      × MembersAreNarrow (member_list (drop (i + 1) members))
  member_more now keyed new total before narrow key_is value_is = (
    ap (members_in (member_list (drop (i + 1) members)))
        (value_is ∙ ap (part_by
        (spelling (nested (get_or members i d).around.now (get_or members i d).text.now))
        (content_in (nested (get_or members i d).around.now (get_or members i d).text.now))) key_is)
        ∙ sym (ap (λ (ms : List Member). members_in (member_list ms) now) rest_is) ∙ before,
    (subst (λ (ms : List Member). MembersAreNarrow (member_list ms)) rest_is narrow).2,
  )
