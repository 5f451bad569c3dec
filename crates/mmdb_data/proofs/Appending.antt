-- The steps of a packer, seen as what is appended.
use Rattle.std.proofs.Common.{◌≡◌, ℕ, Bool, true, false, cond, List, [], ◌∷◌, ◌++◌}
use Rattle.std.proofs.Common.{length, take, Option, Some, None, Result, Ok}
use Rattle.std.proofs.Common.{Err, refl, sym, ap, ◌∙◌, subst, All}
use Rattle.std.specs.Prelude.{OnOk, OnErr, is_some, nat_eq}
use Rattle.std.specs.Cmp.Lexicographic.{pointwise}
use Rattle.std.specs.Map.{lookup}
use Rattle.std.proofs.lemmas.List.{take_at}
use Rattle.mmdb_data.specs.ValueTree.{ValueTree, Members, Items, map, list, members_len, items_len}
use Rattle.mmdb_data.specs.ValueTree.{CanBePacked, IsWithinLimits}
use Rattle.mmdb_data.specs.Reading.{reads}
use Rattle.mmdb_data.specs.Spelling.{head, spelling}
use Rattle.mmdb_data.specs.Packing.{Packed, nothing_packed, offset_of, with_bytes, noted}
use Rattle.mmdb_data.specs.Packing.{content_in, members_in, items_in, in_full, all_in_full, IsKept}
use Rattle.mmdb_data.proofs.Views.{IsLeaf, leaf_content}
use Rattle.mmdb_data.proofs.Packs.{kept_self, kept_trans, noted_kept, with_bytes_kept}
use Rattle.mmdb_data.proofs.Keeps.{own_offset}
use Rattle.mmdb_data.proofs.PackedReads.{put_is_read}

abbrev pub packed_is : List ℕ → List (List ℕ × ℕ) → Packed
packed_is bytes full = record { bytes = bytes; full = full }

-- ---- the table

pub noted_is : (bytes : List ℕ) (full later : List (List ℕ × ℕ)) (spelled : List ℕ) (at : ℕ)
    → lookup (pointwise nat_eq spelled) full ≡ None → later ≡ full ++ (spelled, at) ∷ []
    → packed_is bytes later ≡ noted spelled at (packed_is bytes full)
noted_is bytes full later spelled at none is = ap (packed_is bytes) is ∙ sym (rw none refl)

-- what was put is taken off again
pub cut_back : (old new : Packed) (n m : ℕ) → IsKept old new → n ≡ length old.bytes
    → m ≡ length old.full → packed_is (take n new.bytes) (take m new.full) ≡ old
cut_back old new n m kept n_is m_is =
    let bytes : take n new.bytes ≡ old.bytes =
    ap (take n) kept.bytes.1 ∙ take_at old.bytes kept.bytes.0 n (sym n_is) in
    let full : take m new.full ≡ old.full =
    ap (take m) kept.full.1 ∙ take_at old.full kept.full.0 m (sym m_is) in
    rw (bytes, full) refl

-- ---- values

pub map_packed : {T E : Type 0} (r : Result T E) (new mid old : Packed) (len : ℕ)
    (members : Members) → len ≡ members_len members → mid ≡ with_bytes (head 7 len) old
    → OnOk r (new ≡ members_in members mid) → OnOk r (new ≡ content_in (map members) old)
map_packed (Ok x) new mid old len pairs is_len first second =
    second ∙ ap (members_in pairs) (first ∙ ap (λ (k : ℕ). with_bytes (head 7 k) old) is_len)
map_packed (Err e) new mid old len pairs is_len first second = tt

pub list_packed : {T E : Type 0} (r : Result T E) (new mid old : Packed) (len : ℕ) (items : Items)
    → len ≡ items_len items → mid ≡ with_bytes (head 11 len) old
    → OnOk r (new ≡ items_in items mid) → OnOk r (new ≡ content_in (list items) old)
list_packed (Ok x) new mid old len items is_len first second =
    second ∙ ap (items_in items) (first ∙ ap (λ (k : ℕ). with_bytes (head 11 k) old) is_len)
list_packed (Err e) new mid old len items is_len first second = tt

pub leaf_packed : {T E : Type 0} (r : Result T E) (value : ValueTree) (new old : Packed)
    (piece : List ℕ) → IsLeaf value → piece ≡ spelling value → OnOk r (new ≡ with_bytes piece old)
    → OnOk r (new ≡ content_in value old)
leaf_packed (Ok x) value new old piece leaf is h =
    h ∙ ap (λ (p : List ℕ). with_bytes p old) is ∙ sym (leaf_content value old leaf)
leaf_packed (Err e) value new old piece leaf is h = tt

pub appended_kept : {T E : Type 0} (r : Result T E) (old new : Packed) (piece : List ℕ)
    → OnOk r (new ≡ with_bytes piece old) → OnErr r (new ≡ old) → IsKept old new
appended_kept (Ok x) old new piece ok err =
    subst (IsKept old) (sym ok) (with_bytes_kept piece old)
appended_kept (Err e) old new piece ok err = subst (IsKept old) (sym err) (kept_self old)

none_from : (r : Option ℕ) → is_some r ≡ false → r ≡ None
none_from None h = refl
none_from (Some at) h = absurd cc

-- what was found of a value before its content was appended
module _ (value : ValueTree) (old mid : Packed) (spelled : List ℕ) (found : Option ℕ)
    (is : spelled ≡ spelling value) (known : found ≡ offset_of spelled old)
    (mid_is : mid ≡ content_in value old) where
  own_found : offset_of (spelling value) (content_in value old) ≡ found
  own_found =
      own_offset value old ∙ sym (known ∙ ap (λ (x : List ℕ). offset_of x old) is)

  -- a value that is known is not noted again
  pub known_full : is_some found ≡ true → mid ≡ in_full value old
  known_full there =
      mid_is ∙ sym (ap (λ (b : Bool). cond b (content_in value old)
      (packed_is (content_in value old).bytes
      ((content_in value old).full ++ (spelling value, length old.bytes) ∷ [])))
      (ap is_some own_found ∙ there))

  pub still_unknown : is_some found ≡ false → offset_of spelled mid ≡ None
  still_unknown missing =
      ap (λ (x : List ℕ). offset_of x mid) is ∙ ap (offset_of (spelling value)) mid_is
      ∙ own_found ∙ none_from found missing

pub new_full : {T E : Type 0} (r : Result T E) (value : ValueTree) (new mid old : Packed)
    (spelled : List ℕ) (at : ℕ) → spelled ≡ spelling value → at ≡ length old.bytes
    → mid ≡ content_in value old
    → OnOk r (new ≡ noted spelled at mid) → OnOk r (new ≡ in_full value old)
new_full (Ok x) value new mid old spelled at is at_is mid_is h = h ∙ rw (is, at_is, mid_is) refl
new_full (Err e) value new mid old spelled at is at_is mid_is h = tt

pub kept_either : {T E : Type 0} (r : Result T E) (old mid new : Packed) (spelled : List ℕ) (at : ℕ)
    → IsKept old mid → OnOk r (new ≡ noted spelled at mid) → OnErr r (new ≡ mid) → IsKept old new
kept_either (Ok x) old mid new spelled at kept ok err =
    subst (IsKept old) (sym ok) (kept_trans old mid (noted spelled at mid) kept
    (noted_kept spelled at mid))
kept_either (Err e) old mid new spelled at kept ok err = subst (IsKept old) (sym err) kept

-- reading where a value was put
pub put_reads : (value : ValueTree) (old new : Packed) (at : ℕ) → new ≡ in_full value old
    → at ≡ length old.bytes → CanBePacked value
    → (before : List ValueTree) (later : List ℕ) → All CanBePacked before
    → old ≡ all_in_full before nothing_packed → IsWithinLimits value
    → reads (new.bytes ++ later) at ≡ Ok value
put_reads value old new at new_is at_is can before later all old_is within =
    rw (at_is, new_is, old_is) (put_is_read before value later all can within)
