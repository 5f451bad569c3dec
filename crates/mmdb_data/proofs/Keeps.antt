-- What is appended for a value notes only shorter spellings before its own, so the first offset
-- that is noted is the least.
use Rattle.std.proofs.Common.{◌≡◌, ℕ, suc, ◌<◌, ◌≤◌, Bool, true, false, cond, List, [], ◌∷◌, ◌++◌}
use Rattle.std.proofs.Common.{length, Option, Some, None, refl, ap, ◌∙◌, arith, inl, inr}
use Rattle.std.specs.Prelude.{is_some, nat_eq}
use Rattle.std.specs.Cmp.Lexicographic.{pointwise, bytes_decides}
use Rattle.std.specs.Map.{lookup}
use Rattle.std.proofs.lemmas.Bool.{lt-ltb, le-ltb, cases_lt, false_from_ne_true}
use Rattle.std.proofs.lemmas.List.{length-append}
use Rattle.mmdb_data.specs.ValueTree.{ValueTree, Members, Items, map, list, no_members, member}
use Rattle.mmdb_data.specs.ValueTree.{no_items}
use Rattle.mmdb_data.specs.ValueTree.{item, members_len, items_len}
use Rattle.mmdb_data.specs.Spelling.{kind_bytes, head, sized, spelling, members_spelling}
use Rattle.mmdb_data.specs.Spelling.{items_spelling}
use Rattle.mmdb_data.specs.Packing.{Packed, offset_of, with_bytes, noted, full_by, shorter_pointer}
use Rattle.mmdb_data.specs.Packing.{pointed_or, part_by, key_part, content_in, members_in, items_in}
use Rattle.mmdb_data.specs.Packing.{in_full}
use Rattle.mmdb_data.proofs.Packs.{in_full_grows}

-- a spelling of at least n bytes keeps its offset, or still has none
abbrev pub KeepsFrom : ℕ → (Packed → Packed) → Type 0
KeepsFrom n append = (other : List ℕ) (section : Packed) → n ≤ length other
    → offset_of other (append section) ≡ offset_of other section

pub lookup-push : (test : List ℕ → Bool) (entries : List (List ℕ × ℕ)) (entry : List ℕ × ℕ)
    → test entry.0 ≡ false → lookup test (entries ++ entry ∷ []) ≡ lookup test entries
lookup-push test [] entry h = rw h refl
lookup-push test (e ∷ entries) entry h =
    ap (λ (r : Option ℕ). cond (test e.0) (Some e.1) r) (lookup-push test entries entry h)

longer_differs : (other spelled : List ℕ) → length spelled < length other
    → pointwise nat_eq other spelled ≡ false
longer_differs other spelled long =
    false_from_ne_true (pointwise nat_eq other spelled)
    (λ e. let same : length other ≡ length spelled =
    ap length ((bytes_decides other spelled).0 e) in absurd (omega (arith, same)))

offset_of_choice : (other : List ℕ) (b : Bool) (x y : Packed) (r : Option ℕ) → offset_of other x ≡ r
    → offset_of other y ≡ r → offset_of other (cond b x y) ≡ r
offset_of_choice other true x y r h k = h
offset_of_choice other false x y r h k = k

noted_keeps : (spelled : List ℕ) (at : ℕ) → KeepsFrom (suc (length spelled)) (noted spelled at)
noted_keeps spelled at other section long =
    offset_of_choice other (is_some (offset_of spelled section)) section
    (record { bytes = section.bytes; full = section.full ++ (spelled, at) ∷ [] })
    (offset_of other section)
    refl (lookup-push (pointwise nat_eq other) section.full (spelled, at)
    (longer_differs other spelled (omega (arith, long))))

full_keeps : (spelled : List ℕ) (content : Packed → Packed) (n : ℕ) → length spelled < n
    → KeepsFrom n content → KeepsFrom n (full_by spelled content)
full_keeps spelled content n short inner other section long =
    noted_keeps spelled (length section.bytes) other (content section) (omega (arith, short, long))
    ∙ inner other section long

pointed_or_keeps : (choice : Option (List ℕ)) (in_full : Packed → Packed) (n : ℕ)
    → KeepsFrom n in_full → KeepsFrom n (pointed_or choice in_full)
pointed_or_keeps (Some to) in_full n inner other section long = refl
pointed_or_keeps None in_full n inner other section long = inner other section long

part_keeps : (spelled : List ℕ) (content : Packed → Packed) (n : ℕ) → length spelled < n
    → KeepsFrom n content → KeepsFrom n (part_by spelled content)
part_keeps spelled content n short inner other section long =
    pointed_or_keeps (shorter_pointer spelled (offset_of spelled section))
    (full_by spelled content) n (full_keeps spelled content n short inner) other section long

head_has_byte : (kind size : ℕ) → 0 < length (head kind size)
unfolding head kind_bytes
head_has_byte kind size =
    elim (cases_lt kind 8) [
      | inl a ↦ rw (lt-ltb kind 8 a) (omega arith)
      | inr a ↦ rw (le-ltb kind 8 a) (omega arith)
    ]

mutual
  pub content_keeps : (value : ValueTree) (n : ℕ) → length (spelling value) ≤ n
      → KeepsFrom n (content_in value)
  content_keeps (map members) n short other section long =
      let front = head 7 (members_len members) in
      members_keep members n (omega (
        arith,
        short,
        length-append front (members_spelling members),
        head_has_byte 7 (members_len members),
      )) other (with_bytes front section) long
  content_keeps (list items) n short other section long =
      let front = head 11 (items_len items) in
      items_keep items n (omega (
        arith,
        short,
        length-append front (items_spelling items),
        head_has_byte 11 (items_len items),
      )) other (with_bytes front section) long
  content_keeps value n short other section long = refl

  members_keep : (members : Members) (n : ℕ) → length (members_spelling members) < n
      → KeepsFrom n (members_in members)
  members_keep no_members n short other section long = refl
  members_keep (member key value members) n short other section long =
      let whole = length-append (sized 2 key) (spelling value ++ members_spelling members) in
      let rest = length-append (spelling value) (members_spelling members) in
      let first = key_part key section in
      let second = part_by (spelling value) (content_in value) first in
      members_keep members n (omega (arith, short, whole, rest)) other second long
      ∙ part_keeps (spelling value) (content_in value) n (omega (arith, short, whole, rest))
      (content_keeps value n (omega (arith, short, whole, rest))) other first long
      ∙ part_keeps (sized 2 key) (with_bytes (sized 2 key)) n (omega (arith, short, whole))
      (λ other' section' long'. refl) other section long

  items_keep : (items : Items) (n : ℕ) → length (items_spelling items) < n
      → KeepsFrom n (items_in items)
  items_keep no_items n short other section long = refl
  items_keep (item value items) n short other section long =
      let whole = length-append (spelling value) (items_spelling items) in
      let first = part_by (spelling value) (content_in value) section in
      items_keep items n (omega (arith, short, whole)) other first long
      ∙ part_keeps (spelling value) (content_in value) n (omega (arith, short, whole))
      (content_keeps value n (omega (arith, short, whole))) other section long

-- the value's own spelling is as known after its content as before
pub own_offset : (value : ValueTree) (section : Packed)
    → offset_of (spelling value) (content_in value section) ≡ offset_of (spelling value) section
own_offset value section = content_keeps value (length (spelling value)) (omega arith)
    (spelling value) section (omega arith)

-- ---- the least offset

pub lookup-stays : (test : List ℕ → Bool) (entries more : List (List ℕ × ℕ)) (at : ℕ)
    → lookup test entries ≡ Some at → lookup test (entries ++ more) ≡ Some at
lookup-stays test [] more at h = absurd cc
lookup-stays test (e ∷ entries) more at h =
    stays_by test (test e.0) e.1 entries more at h (λ k. lookup-stays test entries more at k)
  where
    stays_by : (test : List ℕ → Bool) (b : Bool) (k : ℕ) (entries more : List (List ℕ × ℕ)) (at : ℕ)
        → cond b (Some k) (lookup test entries) ≡ Some at
        → (lookup test entries ≡ Some at → lookup test (entries ++ more) ≡ Some at)
        → cond b (Some k) (lookup test (entries ++ more)) ≡ Some at
    stays_by test true k entries more at h inner = h
    stays_by test false k entries more at h inner = inner h

pub offsets_stay : (spelled : List ℕ) (value : ValueTree) (section : Packed) (at : ℕ)
    → offset_of spelled section ≡ Some at → offset_of spelled (in_full value section) ≡ Some at
offsets_stay spelled value section at h =
    let begins = (in_full_grows value section).full in
    ap (lookup (pointwise nat_eq spelled)) begins.1
    ∙ lookup-stays (pointwise nat_eq spelled) section.full begins.0 at h

pub lookup-new : (test : List ℕ → Bool) (entries : List (List ℕ × ℕ)) (spelled : List ℕ) (at : ℕ)
    → lookup test entries ≡ None → test spelled ≡ true
    → lookup test (entries ++ (spelled, at) ∷ []) ≡ Some at
lookup-new test [] spelled at none h = rw h refl
lookup-new test (e ∷ entries) spelled at none h =
    new_by test (test e.0) e.1 entries spelled at none (λ k. lookup-new test entries spelled at k h)
  where
    new_by : (test : List ℕ → Bool) (b : Bool) (k : ℕ) (entries : List (List ℕ × ℕ))
        (spelled : List ℕ) (at : ℕ) → cond b (Some k) (lookup test entries) ≡ None
        → (lookup test entries ≡ None → lookup test (entries ++ (spelled, at) ∷ []) ≡ Some at)
        → cond b (Some k) (lookup test (entries ++ (spelled, at) ∷ [])) ≡ Some at
    new_by test true k entries spelled at none inner = absurd cc
    new_by test false k entries spelled at none inner = inner none

noted_new : (spelled : List ℕ) (at : ℕ) (section : Packed) → offset_of spelled section ≡ None
    → offset_of spelled (noted spelled at section) ≡ Some at
noted_new spelled at section none =
    rw none (lookup-new (pointwise nat_eq spelled) section.full spelled at none
    ((bytes_decides spelled spelled).1 refl))

pub new_offset : (value : ValueTree) (section : Packed) → offset_of (spelling value) section ≡ None
    → offset_of (spelling value) (in_full value section) ≡ Some (length section.bytes)
new_offset value section none =
    noted_new (spelling value) (length section.bytes) (content_in value section)
    (own_offset value section ∙ none)
