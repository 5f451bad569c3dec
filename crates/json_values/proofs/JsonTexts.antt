-- The JSON value that is made of a value has no float, and its compact
-- text is the value's JSON text.
use Rattle.std.proofs.Common.{◌≡◌, ℕ, ◌==◌, ◌||◌, pos, negsuc, List, [], ◌∷◌, ◌++◌, Bool, true}
use Rattle.std.proofs.Common.{false, flat_map, decimal, refl, sym, ap, ap₂, ◌∙◌, append_assoc}
use Rattle.std.proofs.Common.{arith, true≢false, subst, length, Ordering, Less, Equal, Greater}
use Rattle.std.proofs.Common.{nat_cmp}
use Rattle.std.proofs.lemmas.Bool.{eqb-true}
use Rattle.std.proofs.lemmas.Cmp.{nat_list_cmp_total}
use Rattle.std.specs.Fmt.{signed_decimal}
use Rattle.std.specs.List.{fold, join_by}
use Rattle.std.specs.Ordering.{match_ordering}
use Rattle.std.specs.Cmp.Lexicographic.{slice_cmp}
use Rattle.std.specs.FinMap as finite
use Rattle.std.specs.FinMap.Entries as entries
use Rattle.json.specs.Print as print
use Rattle.hex.specs.Hex.{encode_lower}
use Rattle.serde_json.specs.Data.{Data, put, Items as DataItems, no_items as no_data_items}
use Rattle.serde_json.specs.Data.{item as data_item, Members as DataMembers}
use Rattle.serde_json.specs.Data.{no_members as no_data_members, member as data_member}
use Rattle.serde_json.specs.Find.{of_integer, is_float}
use Rattle.serde_json.specs.Written.{number_text, compact_text, items_text, members_text, has_float}
use Rattle.serde_json.specs.Written.{items_have_float, members_have_float}
use Rattle.mmdb_data.specs.ValueTree.{ValueTree, Members, Items, map, list, text, bytes, u16, u32}
use Rattle.mmdb_data.specs.ValueTree.{i32, u64}
use Rattle.mmdb_data.specs.ValueTree.{u128, bool, double, float, no_members, member, no_items, item}
use Rattle.json_values.specs.Json.{escaped, quoted, Object, object_of, member_text, object_text}
use Rattle.json_values.specs.Json.{array_text, json, member_texts, item_texts}
use Rattle.json_values.specs.JsonData.{data_of, members_put, items_data}

-- ---- strings

-- a fact of b, where it holds at k and wherever b is not k
either_is : (k : ℕ) (P : ℕ → Type 0) → P k → (b : ℕ) → ((b == k) ≡ false → P b) → P b
either_is k P here b other =
    elim (b == k) as (λ v. (b == k) ≡ v → P b) [
      | true ↦ λ e. subst P (sym (eqb-true b k e)) here
      | false ↦ λ e. other e
    ] refl

abbrev IsEscaped : ℕ → Type 0
IsEscaped b = print.escape_byte b ≡ escaped b

escape_byte-escaped : (b : ℕ) → IsEscaped b
unfolding escaped print.escape_byte
escape_byte-escaped b =
    either_is 34 IsEscaped refl b λ quote. either_is 92 IsEscaped refl b λ backslash.
    either_is 8 IsEscaped refl b λ back. either_is 9 IsEscaped refl b λ tab.
    either_is 10 IsEscaped refl b λ line. either_is 12 IsEscaped refl b λ form.
    either_is 13 IsEscaped refl b λ carriage.
    rw (quote, backslash, back, tab, line, form, carriage) refl

flat_map-same : (f g : ℕ → List ℕ)
    → ((b : ℕ) → f b ≡ g b) → (bs : List ℕ) → flat_map f bs ≡ flat_map g bs
flat_map-same f g same [] = refl
flat_map-same f g same (b ∷ bs) = ap₂ (λ x y. x ++ y) (same b) (flat_map-same f g same bs)

quoted_text : (content : List ℕ) → print.quoted content ≡ quoted content
unfolding quoted
quoted_text content =
    ap (λ x. 34 ∷ (x ++ 34 ∷ []))
    (flat_map-same print.escape_byte escaped escape_byte-escaped content)

-- ---- numbers

signed_text : (n : _) → number_text (of_integer n) ≡ signed_decimal n
signed_text (pos n) = refl
signed_text (negsuc n) = refl

signed_is_whole : (n : _) → is_float (of_integer n) ≡ false
signed_is_whole (pos n) = refl
signed_is_whole (negsuc n) = refl

-- ---- objects and arrays

abbrev texts : DataMembers → List (List ℕ × List ℕ)
texts no_data_members = []
texts (data_member key d ds) = (key, compact_text d) ∷ texts ds

abbrev whole_texts : DataItems → List (List ℕ)
whole_texts no_data_items = []
whole_texts (data_item d ds) = compact_text d ∷ whole_texts ds

regroup : (a b c d : List ℕ) → a ++ 58 ∷ (b ++ (c ++ d)) ≡ ((a ++ 58 ∷ b) ++ c) ++ d
regroup a b c d = sym (append_assoc (a ++ 58 ∷ b) c d ∙ append_assoc a (58 ∷ b) (c ++ d))

abbrev later_texts : List (List ℕ × List ℕ) → List ℕ
later_texts ms = flat_map (λ m. (44 ∷ []) ++ member_text m) ms

abbrev later_whole_texts : List (List ℕ) → List ℕ
later_whole_texts xs = flat_map (λ x. (44 ∷ []) ++ x) xs

later_members : (ds : DataMembers) → members_text true ds ≡ later_texts (texts ds) ++ 125 ∷ []
later_members no_data_members = refl
later_members (data_member key d ds) =
    ap (λ (x : List ℕ). 44 ∷ x) (ap₂ (λ (name rest : List ℕ). name ++ 58 ∷ (compact_text d ++ rest))
    (quoted_text key) (later_members ds)
    ∙ regroup (quoted key) (compact_text d) (later_texts (texts ds)) (125 ∷ []))

first_members : (ds : DataMembers)
    → members_text false ds ≡ join_by member_text (44 ∷ []) (texts ds) ++ 125 ∷ []
first_members no_data_members = refl
first_members (data_member key d ds) =
    ap₂ (λ (name rest : List ℕ). name ++ 58 ∷ (compact_text d ++ rest)) (quoted_text key)
    (later_members ds)
    ∙ regroup (quoted key) (compact_text d) (later_texts (texts ds)) (125 ∷ [])

later_items : (ds : DataItems) → items_text true ds ≡ later_whole_texts (whole_texts ds) ++ 93 ∷ []
later_items no_data_items = refl
later_items (data_item d ds) =
    ap (λ (rest : List ℕ). 44 ∷ (compact_text d ++ rest)) (later_items ds)
    ∙ ap (λ (x : List ℕ). 44 ∷ x)
    (sym (append_assoc (compact_text d) (later_whole_texts (whole_texts ds)) (93 ∷ [])))

first_items : (ds : DataItems)
    → items_text false ds ≡ join_by (λ x. x) (44 ∷ []) (whole_texts ds) ++ 93 ∷ []
first_items no_data_items = refl
first_items (data_item d ds) =
    ap (λ (rest : List ℕ). compact_text d ++ rest) (later_items ds)
    ∙ sym (append_assoc (compact_text d) (later_whole_texts (whole_texts ds)) (93 ∷ []))

-- ---- a member that is put in

abbrev Key : Type 0
Key = List ℕ

abbrev order : Key → Key → Ordering
order = slice_cmp nat_cmp

texts-choice : (o : Ordering) (a b c : DataMembers)
    → texts (match_ordering o a b c) ≡ entries.by_order o (texts a) (texts b) (texts c)
texts-choice Less a b c = refl
texts-choice Equal a b c = refl
texts-choice Greater a b c = refl

texts-put : (key : Key) (d : Data) (ds : DataMembers)
    → texts (put key d ds) ≡ entries.put order key (compact_text d) (texts ds)
texts-put key d no_data_members = refl
texts-put key d (data_member name e ds) =
    texts-choice (order key name) _ _ _
    ∙ ap (λ (rest : List (Key × List ℕ)). entries.by_order (order key name)
    ((key, compact_text d) ∷ (name, compact_text e) ∷ texts ds) ((name, compact_text d) ∷ texts ds)
    ((name, compact_text e) ∷ rest)) (texts-put key d ds)

abbrev with_member : Object → List ℕ × List ℕ → Object
with_member found m = finite.insert found m.0 m.1

texts-inserted : (key : Key) (d : Data) (ds : DataMembers) (content : List ℕ) (found : Object)
    → compact_text d ≡ content → texts ds ≡ finite.entries found
    → texts (put key d ds) ≡ finite.entries (finite.insert found key content)
texts-inserted key d ds content found is held =
    texts-put key d ds
    ∙ ap₂ (λ (c : List ℕ) (es : List (Key × List ℕ)). entries.put order key c es) is held
    ∙ sym (finite.entries-insert nat_list_cmp_total found key content)

no_length : {A : Type 0} (xs : List A) → 0 ≡ length xs → [] ≡ xs
no_length [] e = refl
no_length (x ∷ xs) e = absurd (omega arith)

no_entries : [] ≡ finite.entries (finite.empty {K = Key} {X = List ℕ} {R = order})
no_entries = no_length _ (sym (finite.len-empty order (List ℕ)) ∙ finite.len-entries finite.empty)

object_text-is : (found : Object)
    → object_text found ≡ 123 ∷ (join_by member_text (44 ∷ []) (finite.entries found) ++ 125 ∷ [])
unfolding object_text
object_text-is found = refl

object_of-is : (members : List (Key × List ℕ))
    → object_of members ≡ fold with_member finite.empty members
unfolding object_of
object_of-is members = refl

array_text-is : (items : List (List ℕ))
    → array_text items ≡ 91 ∷ (join_by (λ x. x) (44 ∷ []) items ++ 93 ∷ [])
unfolding array_text
array_text-is items = refl

-- ---- the text of the whole

object_said : (members : Members) (ds : DataMembers)
    → texts ds ≡ finite.entries (fold with_member finite.empty (member_texts members))
    → 123 ∷ members_text false ds ≡ object_text (object_of (member_texts members))
object_said members ds held =
    ap (λ (x : List ℕ). 123 ∷ x) (first_members ds)
    ∙ ap (λ (es : List (Key × List ℕ)). 123 ∷ (join_by member_text (44 ∷ []) es ++ 125 ∷ [])) held
    ∙ sym (object_text-is (fold with_member finite.empty (member_texts members)))
    ∙ ap object_text (sym (object_of-is (member_texts members)))

array_said : (ds : DataItems) (xs : List (List ℕ)) → whole_texts ds ≡ xs
    → 91 ∷ items_text false ds ≡ array_text xs
array_said ds xs held =
    ap (λ (x : List ℕ). 91 ∷ x) (first_items ds)
    ∙ ap (λ (ys : List (List ℕ)). 91 ∷ (join_by (λ x. x) (44 ∷ []) ys ++ 93 ∷ [])) held
    ∙ sym (array_text-is xs)

mutual
  value_text : (t : ValueTree) → compact_text (data_of t) ≡ json t
  value_text (map members) =
      object_said members (members_put members no_data_members)
      (members_said members no_data_members finite.empty no_entries)
  value_text (list items) = array_said (items_data items) (item_texts items) (items_said items)
  value_text (text content) = quoted_text content
  value_text (bytes content) = quoted_text (encode_lower content)
  value_text (u16 n) = refl
  value_text (u32 n) = refl
  value_text (i32 n) = signed_text n
  value_text (u64 n) = refl
  value_text (u128 n) = quoted_text (decimal n)
  value_text (bool true) = refl
  value_text (bool false) = refl
  value_text (double content) = quoted_text (encode_lower content)
  value_text (float content) = quoted_text (encode_lower content)

  members_said : (members : Members) (ds : DataMembers) (found : Object)
      → texts ds ≡ finite.entries found
      → texts (members_put members ds)
      ≡ finite.entries (fold with_member found (member_texts members))
  members_said no_members ds found held = held
  members_said (member key value members) ds found held =
      members_said members (put key (data_of value) ds) (finite.insert found key (json value))
      (texts-inserted key (data_of value) ds (json value) found (value_text value) held)

  items_said : (items : Items) → whole_texts (items_data items) ≡ item_texts items
  items_said no_items = refl
  items_said (item value items) =
      ap₂ (λ (x : List ℕ) (xs : List (List ℕ)). x ∷ xs) (value_text value) (items_said items)

-- ---- no floats

both_false : (a b : Bool) → a ≡ false → b ≡ false → (a || b) ≡ false
both_false a b p q = rw (p, q)

none_chosen : (o : Ordering) (a b c : DataMembers)
    → members_have_float a ≡ false → members_have_float b ≡ false → members_have_float c ≡ false
    → members_have_float (match_ordering o a b c) ≡ false
none_chosen Less a b c p q r = p
none_chosen Equal a b c p q r = q
none_chosen Greater a b c p q r = r

first_false : (a b : Bool) → (a || b) ≡ false → a ≡ false
first_false true b p = p
first_false false b p = refl

second_false : (a b : Bool) → (a || b) ≡ false → b ≡ false
second_false true b p = absurd (true≢false p)
second_false false b p = p

none_put : (key : Key) (d : Data) (ds : DataMembers) → has_float d ≡ false
    → members_have_float ds ≡ false → members_have_float (put key d ds) ≡ false
none_put key d no_data_members p q = both_false (has_float d) false p refl
none_put key d (data_member name e ds) p q =
    let here = first_false (has_float e) (members_have_float ds) q in
    let later = second_false (has_float e) (members_have_float ds) q in
    none_chosen (order key name) _ _ _ (both_false _ _ p q) (both_false _ _ p later)
    (both_false _ _ here (none_put key d ds p later))

mutual
  pub has_no_float : (t : ValueTree) → has_float (data_of t) ≡ false
  has_no_float (map members) = members_have_none members no_data_members refl
  has_no_float (list items) = items_have_none items
  has_no_float (text content) = refl
  has_no_float (bytes content) = refl
  has_no_float (u16 n) = refl
  has_no_float (u32 n) = refl
  has_no_float (i32 n) = signed_is_whole n
  has_no_float (u64 n) = refl
  has_no_float (u128 n) = refl
  has_no_float (bool b) = refl
  has_no_float (double content) = refl
  has_no_float (float content) = refl

  members_have_none : (members : Members) (ds : DataMembers) → members_have_float ds ≡ false
      → members_have_float (members_put members ds) ≡ false
  members_have_none no_members ds none = none
  members_have_none (member key value members) ds none =
      members_have_none members (put key (data_of value) ds)
      (none_put key (data_of value) ds (has_no_float value) none)

  items_have_none : (items : Items) → items_have_float (items_data items) ≡ false
  items_have_none no_items = refl
  items_have_none (item value items) = both_false _ _ (has_no_float value) (items_have_none items)

-- the text that is written for the JSON value of a value
pub written : (d : Data) (t : ValueTree) (content : List ℕ) → d ≡ data_of t
    → (has_float d ≡ false → content ≡ compact_text d) → content ≡ json t
written d t content is said =
    said (ap has_float is ∙ has_no_float t) ∙ ap compact_text is ∙ value_text t
