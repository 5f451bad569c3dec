-- Each value stands where it was packed, in a section that begins with all that was packed.
use Rattle.std.proofs.Common.{◌≡◌, ℕ, ◌^◌, ◌<◌, ◌≤◌, Bool, true, false, cond, ltb, List, [], ◌∷◌}
use Rattle.std.proofs.Common.{◌++◌, length, drop, Option, Some, None, refl, sym, ap, ◌∙◌, subst}
use Rattle.std.proofs.Common.{append_assoc, arith, inl, inr}
use Rattle.std.specs.Prelude.{◌&&◌, is_some, nat_eq}
use Rattle.std.specs.Cmp.Lexicographic.{pointwise, bytes_decides}
use Rattle.std.specs.Map.{lookup}
use Rattle.std.specs.Str.{IsUtf8}
use Rattle.std.proofs.lemmas.Bool.{ltb-true, and_parts}
use Rattle.std.proofs.lemmas.List.{length-append, append-nil, drop_at}
use Rattle.mmdb_data.specs.ValueTree.{ValueTree, Members, Items, map, list, text, no_members}
use Rattle.mmdb_data.specs.ValueTree.{member}
use Rattle.mmdb_data.specs.ValueTree.{no_items, item, members_len, items_len, most, IsNarrow}
use Rattle.mmdb_data.specs.ValueTree.{MembersAreNarrow, ItemsAreNarrow, IsTyped, MembersAreTyped}
use Rattle.mmdb_data.specs.ValueTree.{ItemsAreTyped}
use Rattle.mmdb_data.specs.Spelling.{head, sized, spelling}
use Rattle.mmdb_data.specs.Packing.{pointer, Packed, offset_of, with_bytes, noted, full_by}
use Rattle.mmdb_data.specs.Packing.{shorter_pointer, pointed_or, part_by, key_part, content_in}
use Rattle.mmdb_data.specs.Packing.{members_in, items_in, in_full, all_in_full, Begins, IsKept}
use Rattle.mmdb_data.proofs.Bounds.{chosen}
use Rattle.mmdb_data.proofs.Values.{StandsFull, Stands, stands, ends_at}
use Rattle.mmdb_data.proofs.Containers.{MembersStand, ItemsStand, no_more, none_left, member_stands}
use Rattle.mmdb_data.proofs.Containers.{item_stands, map_stands, list_stands}
use Rattle.mmdb_data.proofs.Pointed.{pointed}
use Rattle.mmdb_data.proofs.ReadsBack.{Again, value_again, spelled_apart}

-- ---- what was written is kept

begins_self : {A : Type 0} (xs : List A) → Begins xs xs
begins_self xs = ([], sym (append-nil xs))

pub begins_append : {A : Type 0} (xs ys : List A) → Begins xs (xs ++ ys)
begins_append xs ys = (ys, refl)

pub begins_trans : {A : Type 0} (a b c : List A) → Begins a b → Begins b c → Begins a c
begins_trans {A} a b c first second = (
  first.0 ++ second.0,
  second.1 ∙ ap (λ (x : List A). x ++ second.0) first.1
      ∙ append_assoc a first.0 second.0,
)

pub kept_self : (section : Packed) → IsKept section section
kept_self section = record { bytes = begins_self section.bytes; full = begins_self section.full }

pub kept_trans : (a b c : Packed) → IsKept a b → IsKept b c → IsKept a c
kept_trans a b c first second =
    record {
      bytes = begins_trans a.bytes b.bytes c.bytes first.bytes second.bytes;
      full =
          begins_trans a.full b.full c.full first.full second.full;
    }

pub with_bytes_kept : (more : List ℕ) (section : Packed) → IsKept section (with_bytes more section)
with_bytes_kept more section =
    record { bytes = begins_append section.bytes more; full = begins_self section.full }

kept_choice : (b : Bool) (old x y : Packed) → IsKept old x → IsKept old y → IsKept old (cond b x y)
kept_choice true old x y h k = h
kept_choice false old x y h k = k

pub noted_kept : (spelled : List ℕ) (at : ℕ) (section : Packed)
    → IsKept section (noted spelled at section)
noted_kept spelled at section =
    kept_choice (is_some (offset_of spelled section)) section section
    (record { bytes = section.bytes; full = section.full ++ (spelled, at) ∷ [] })
    (kept_self section) (record {
      bytes = begins_self section.bytes;
      full =
          begins_append section.full ((spelled, at) ∷ []);
    })

abbrev pub Grows : (Packed → Packed) → Type 0
Grows append = (section : Packed) → IsKept section (append section)

pub full_grows : (spelled : List ℕ) (content : Packed → Packed) → Grows content
    → Grows (full_by spelled content)
full_grows spelled content inner section =
    kept_trans section (content section) (full_by spelled content section) (inner section)
    (noted_kept spelled (length section.bytes) (content section))

pointed_or_grows : (choice : Option (List ℕ)) (in_full : Packed → Packed) → Grows in_full
    → Grows (pointed_or choice in_full)
pointed_or_grows (Some to) in_full inner section = with_bytes_kept to section
pointed_or_grows None in_full inner section = inner section

pub part_grows : (spelled : List ℕ) (content : Packed → Packed) → Grows content
    → Grows (part_by spelled content)
part_grows spelled content inner section =
    pointed_or_grows (shorter_pointer spelled (offset_of spelled section)) (full_by spelled content)
    (full_grows spelled content inner) section

pub key_grows : (key : List ℕ) → Grows (key_part key)
key_grows key = part_grows (sized 2 key) (with_bytes (sized 2 key)) (with_bytes_kept (sized 2 key))

mutual
  pub content_grows : (value : ValueTree) → Grows (content_in value)
  content_grows (map members) section =
      let mid = with_bytes (head 7 (members_len members)) section in
      kept_trans section mid (members_in members mid)
      (with_bytes_kept (head 7 (members_len members)) section) (members_grow members mid)
  content_grows (list items) section =
      let mid = with_bytes (head 11 (items_len items)) section in
      kept_trans section mid (items_in items mid)
      (with_bytes_kept (head 11 (items_len items)) section) (items_grow items mid)
  content_grows value section = with_bytes_kept (spelling value) section

  pub members_grow : (members : Members) → Grows (members_in members)
  members_grow no_members section = kept_self section
  members_grow (member key value members) section =
      let first = key_part key section in
      let second = part_by (spelling value) (content_in value) first in
      kept_trans section first (members_in members second) (key_grows key section)
      (kept_trans first second (members_in members second)
      (part_grows (spelling value) (content_in value) (content_grows value) first)
      (members_grow members second))

  pub items_grow : (items : Items) → Grows (items_in items)
  items_grow no_items section = kept_self section
  items_grow (item value items) section =
      let first = part_by (spelling value) (content_in value) section in
      kept_trans section first (items_in items first)
      (part_grows (spelling value) (content_in value) (content_grows value) section)
      (items_grow items first)

pub in_full_grows : (value : ValueTree) → Grows (in_full value)
in_full_grows value = full_grows (spelling value) (content_in value) (content_grows value)

pub all_grow : (values : List ValueTree) → Grows (all_in_full values)
all_grow [] section = kept_self section
all_grow (value ∷ values) section =
    kept_trans section (in_full value section) (all_in_full values (in_full value section))
    (in_full_grows value section) (all_grow values (in_full value section))

-- ---- what is noted stands

-- a value of this spelling stands there
pub record Entry (whole spelled : List ℕ) (at : ℕ) : Type 0 where
  pub value : ValueTree
  pub after : ℕ
  pub narrow : IsNarrow value
  pub typed : IsTyped value
  pub spelled_is : spelled ≡ spelling value
  pub full : StandsFull whole value at after

abbrev pub AllStand : List ℕ → List (List ℕ × ℕ) → Type 0
AllStand whole [] = Unit {0}
AllStand whole (entry ∷ entries) = Entry whole entry.0 entry.1 × AllStand whole entries

some_is : {A : Type 0} (x y : A) → Some x ≡ Some y → x ≡ y
some_is x y e = cc

found_stands : (whole spelled : List ℕ) (entries : List (List ℕ × ℕ)) (to : ℕ)
    → AllStand whole entries → lookup (pointwise nat_eq spelled) entries ≡ Some to
    → Entry whole spelled to
found_stands whole spelled [] to all e = absurd cc
found_stands whole spelled (entry ∷ entries) to all e =
    elim (chosen (pointwise nat_eq spelled entry.0) (Some entry.1)
    (lookup (pointwise nat_eq spelled) entries) (Some to) e) [
      | inl a ↦ let x = all.0 in
          record {
            value = x.value;
            after = x.after;
            narrow = x.narrow;
            typed = x.typed;
            spelled_is = (bytes_decides spelled entry.0).0 a.0 ∙ x.spelled_is;
            full = subst (λ (k : ℕ). StandsFull whole x.value k x.after)
                (some_is entry.1 to a.1) x.full;
          }
      | inr a ↦ found_stands whole spelled entries to all.1 a.1
    ]

push_stands : (whole : List ℕ) (entries : List (List ℕ × ℕ)) (spelled : List ℕ) (at : ℕ)
    → AllStand whole entries → Entry whole spelled at
    → AllStand whole (entries ++ (spelled, at) ∷ [])
push_stands whole [] spelled at all x = (x, tt)
push_stands whole (entry ∷ entries) spelled at all x =
    (all.0, push_stands whole entries spelled at all.1 x)

choice_stands : (whole : List ℕ) (b : Bool) (x y : Packed) → AllStand whole x.full
    → AllStand whole y.full → AllStand whole (cond b x y).full
choice_stands whole true x y h k = h
choice_stands whole false x y h k = k

noted_stands : (whole spelled : List ℕ) (at : ℕ) (section : Packed) → AllStand whole section.full
    → Entry whole spelled at → AllStand whole (noted spelled at section).full
noted_stands whole spelled at section all x =
    choice_stands whole (is_some (offset_of spelled section)) section
    (record { bytes = section.bytes; full = section.full ++ (spelled, at) ∷ [] })
    all (push_stands whole section.full spelled at all x)

bytes_of_choice : (b : Bool) (x y : Packed) (same : List ℕ) → x.bytes ≡ same → y.bytes ≡ same
    → (cond b x y).bytes ≡ same
bytes_of_choice true x y same h k = h
bytes_of_choice false x y same h k = k

pub noted_bytes : (spelled : List ℕ) (at : ℕ) (section : Packed)
    → (noted spelled at section).bytes ≡ section.bytes
noted_bytes spelled at section =
    bytes_of_choice (is_some (offset_of spelled section)) section
    (record { bytes = section.bytes; full = section.full ++ (spelled, at) ∷ [] }) section.bytes
    refl refl

-- ---- what is appended stands, in any section that begins with all of it

pub record Appended (whole : List ℕ) (P : ℕ → ℕ → Type 0) (before after : Packed) : Type 0 where
  pub here : P (length before.bytes) (length after.bytes)
  pub all : AllStand whole after.full

abbrev pub Appends : List ℕ → (ℕ → ℕ → Type 0) → (Packed → Packed) → Type 0
Appends whole P append = (before : Packed) → Begins (append before).bytes whole
    → AllStand whole before.full → Appended whole P before (append before)

-- what was appended to a section stands behind it
behind_stands : (whole front more : List ℕ) (begins : Begins (front ++ more) whole)
    → drop (length front) whole ≡ more ++ begins.0
behind_stands whole front more begins =
    ap (drop (length front)) (begins.1 ∙ append_assoc front more begins.0)
    ∙ drop_at front (more ++ begins.0) (length front) refl

pub full_appends : (whole : List ℕ) (value : ValueTree) (content : Packed → Packed) → IsNarrow value
    → IsTyped value → Appends whole (StandsFull whole value) content
    → Appends whole (StandsFull whole value) (full_by (spelling value) content)
full_appends whole value content narrow typed inner before begins all =
    let mid = content before in
    let same = noted_bytes (spelling value) (length before.bytes) mid in
    let one = inner before (subst (λ (x : List ℕ). Begins x whole) same begins) all in
    record {
      here = ends_at one.here (ap length (sym same));
      all = noted_stands whole (spelling value) (length before.bytes) mid one.all
          (record {
            value = value;
            after = length mid.bytes;
            narrow = narrow;
            typed = typed;
            spelled_is = refl;
            full = one.here;
          });
    }

-- why a pointer was written
record IsReached (spelled : List ℕ) (section : Packed) (written : List ℕ) : Type 0 where
  pub to : ℕ
  pub known : offset_of spelled section ≡ Some to
  pub near : to < 2 ^ 32
  pub is : written ≡ pointer to

reached : (spelled : List ℕ) (section : Packed) (found : Option ℕ) (written : List ℕ)
    → offset_of spelled section ≡ found → shorter_pointer spelled found ≡ Some written
    → IsReached spelled section written
reached spelled section None written e h = absurd cc
reached spelled section (Some to) written e h =
    elim (chosen (ltb to (2 ^ 32) && ltb (length (pointer to)) (length spelled))
    (Some (pointer to)) None (Some written) h) [
      | inl a ↦ let parts = and_parts (ltb to (2 ^ 32))
          (ltb (length (pointer to)) (length spelled)) a.0 in
          record {
            to = to;
            known = e;
            near = ltb-true to (2 ^ 32) parts.0;
            is =
                sym (some_is (pointer to) written a.1);
          }
      | inr a ↦ absurd cc
    ]

part_of : (whole : List ℕ) (value : ValueTree) (content : Packed → Packed) → IsNarrow value
    → IsTyped value → Appends whole (StandsFull whole value) content
    → (before : Packed) (choice : Option (List ℕ))
    → shorter_pointer (spelling value) (offset_of (spelling value) before) ≡ choice
    → Begins (pointed_or choice (full_by (spelling value) content) before).bytes whole
    → AllStand whole before.full
    → Appended whole (Stands whole value) before
    (pointed_or choice (full_by (spelling value) content) before)
part_of whole value content narrow typed inner before None is begins all =
    let one = full_appends whole value content narrow typed inner before begins all in
    record { here = stands one.here; all = one.all }
part_of whole value content narrow typed inner before (Some written) is begins all =
    let r = reached (spelling value) before (offset_of (spelling value) before) written refl is in
    let e = found_stands whole (spelling value) before.full r.to all r.known in
    let same : e.value ≡ value = spelled_apart e.value value e.narrow narrow e.typed typed
    (sym e.spelled_is) in
    let full = subst (λ (v : ValueTree). StandsFull whole v r.to e.after) same e.full in
    let here = behind_stands whole before.bytes written begins
    ∙ ap (λ (x : List ℕ). x ++ begins.0) r.is in
    let one = pointed (length before.bytes) begins.0 full r.near here in
    record {
      here = subst (λ (k : ℕ). Stands whole value (length before.bytes) k)
          (omega (arith, length-append before.bytes written, ap length r.is)) one;
      all = all;
    }

pub part_appends : (whole : List ℕ) (value : ValueTree) (content : Packed → Packed) → IsNarrow value
    → IsTyped value → Appends whole (StandsFull whole value) content
    → Appends whole (Stands whole value) (part_by (spelling value) content)
part_appends whole value content narrow typed inner before begins all =
    part_of whole value content narrow typed inner before
    (shorter_pointer (spelling value) (offset_of (spelling value) before)) refl begins all

leaf_appends : (whole : List ℕ) (value : ValueTree) → Again whole value
    → Appends whole (StandsFull whole value) (with_bytes (spelling value))
leaf_appends whole value again before begins all =
    record {
      here = ends_at (again (length before.bytes) begins.0
          (behind_stands whole before.bytes (spelling value) begins))
          (sym (length-append before.bytes (spelling value)));
      all = all;
    }

map_appends : (whole : List ℕ) (members : Members) → members_len members ≤ most
    → Appends whole (MembersStand whole members) (members_in members)
    → Appends whole (StandsFull whole (map members)) (content_in (map members))
map_appends whole members fits inner before begins all =
    let front = head 7 (members_len members) in
    let mid = with_bytes front before in
    let one = inner mid begins all in
    let begun = begins_trans mid.bytes (members_in members mid).bytes whole
    (members_grow members mid).bytes begins in
    let offset = length-append before.bytes front in
    let after = length (members_in members mid).bytes in
    record {
      here = map_stands whole members (length before.bytes) after begun.0 fits
          (behind_stands whole before.bytes front begun)
          (subst (λ (k : ℕ). MembersStand whole members k after) offset one.here);
      all = one.all;
    }

list_appends : (whole : List ℕ) (items : Items) → items_len items ≤ most
    → Appends whole (ItemsStand whole items) (items_in items)
    → Appends whole (StandsFull whole (list items)) (content_in (list items))
list_appends whole items fits inner before begins all =
    let front = head 11 (items_len items) in
    let mid = with_bytes front before in
    let one = inner mid begins all in
    let begun = begins_trans mid.bytes (items_in items mid).bytes whole
    (items_grow items mid).bytes begins in
    let offset = length-append before.bytes front in
    let after = length (items_in items mid).bytes in
    record {
      here = list_stands whole items (length before.bytes) after begun.0 fits
          (behind_stands whole before.bytes front begun)
          (subst (λ (k : ℕ). ItemsStand whole items k after) offset one.here);
      all = one.all;
    }

member_appends : (whole key : List ℕ) (value : ValueTree) (later : Members) → IsUtf8 key
    → length key ≤ most → IsNarrow value → IsTyped value
    → Appends whole (StandsFull whole value) (content_in value)
    → Appends whole (MembersStand whole later) (members_in later)
    → Appends whole (MembersStand whole (member key value later))
    (members_in (member key value later))
member_appends whole key value later utf8 fits narrow typed inner others before begins all =
    let first = key_part key before in
    let second = part_by (spelling value) (content_in value) first in
    let last = members_in later second in
    let begun = begins_trans second.bytes last.bytes whole
    (members_grow later second).bytes begins in
    let begun_first = begins_trans first.bytes second.bytes whole
    (part_grows (spelling value) (content_in value) (content_grows value) first).bytes begun in
    let one = part_appends whole (text key) (with_bytes (sized 2 key)) fits utf8
    (leaf_appends whole (text key) (value_again whole (text key) fits utf8)) before begun_first
    all in
    let two = part_appends whole value (content_in value) narrow typed inner first begun one.all in
    let three = others second begins two.all in
    record {
      here = member_stands whole key value later
          (length before.bytes) one.here two.here three.here;
      all = three.all;
    }

item_appends : (whole : List ℕ) (value : ValueTree) (later : Items) → IsNarrow value → IsTyped value
    → Appends whole (StandsFull whole value) (content_in value)
    → Appends whole (ItemsStand whole later) (items_in later)
    → Appends whole (ItemsStand whole (item value later)) (items_in (item value later))
item_appends whole value later narrow typed inner others before begins all =
    let first = part_by (spelling value) (content_in value) before in
    let last = items_in later first in
    let begun = begins_trans first.bytes last.bytes whole (items_grow later first).bytes begins in
    let one = part_appends whole value (content_in value) narrow typed inner before begun all in
    let two = others first begins one.all in
    record {
      here = item_stands whole value later (length before.bytes) one.here two.here;
      all =
          two.all;
    }

mutual
  pub content_appends : (whole : List ℕ) (value : ValueTree) → IsNarrow value → IsTyped value
      → Appends whole (StandsFull whole value) (content_in value)
  content_appends whole (map members) fits typed =
      map_appends whole members fits.0 (members_append whole members fits.1 typed)
  content_appends whole (list items) fits typed =
      list_appends whole items fits.0 (items_append whole items fits.1 typed)
  content_appends whole value fits typed =
      leaf_appends whole value (value_again whole value fits typed)

  members_append : (whole : List ℕ) (members : Members) → MembersAreNarrow members
      → MembersAreTyped members → Appends whole (MembersStand whole members) (members_in members)
  members_append whole no_members fits typed =
      λ before begins all. record { here = no_more whole (length before.bytes); all = all }
  members_append whole (member key value later) fits typed =
      member_appends whole key value later typed.0 fits.0 fits.1 typed.1
      (content_appends whole value fits.1 typed.1) (members_append whole later fits.2 typed.2)

  items_append : (whole : List ℕ) (items : Items) → ItemsAreNarrow items → ItemsAreTyped items
      → Appends whole (ItemsStand whole items) (items_in items)
  items_append whole no_items fits typed =
      λ before begins all. record { here = none_left whole (length before.bytes); all = all }
  items_append whole (item value later) fits typed =
      item_appends whole value later fits.0 typed.0 (content_appends whole value fits.0 typed.0)
      (items_append whole later fits.1 typed.1)

pub top_appends : (whole : List ℕ) (value : ValueTree) → IsNarrow value → IsTyped value
    → Appends whole (StandsFull whole value) (in_full value)
top_appends whole value narrow typed =
    full_appends whole value (content_in value) narrow typed
    (content_appends whole value narrow typed)
