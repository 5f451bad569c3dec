-- What is read has no more levels, values and bytes than reading may spend.
use Rattle.std.proofs.Common.{◌≡◌, ℕ, zero, suc, ◌+◌, ◌-◌, ◌≤◌, Bool, true, false, cond, eqb, ltb}
use Rattle.std.proofs.Common.{List, length, take, drop, Option, Some, None, Result, Ok, Err, refl}
use Rattle.std.proofs.Common.{sym, ap, ◌∙◌, subst, arith, inl, inr}
use Rattle.std.specs.Prelude.{◌⊎◌}
use Rattle.std.proofs.lemmas.Bool.{ltb-true, ltb-false}
use Rattle.std.proofs.lemmas.List.{length-take-le, length-drop}
use Rattle.std.specs.Str.{is_utf8}
use Rattle.mmdb_data.specs.declared.fault.DataCause.TheVariants.{Truncated, PointerToPointer}
use Rattle.mmdb_data.specs.declared.fault.DataCause.TheVariants.{OutOfSection, Key, Many, Utf8}
use Rattle.mmdb_data.specs.ValueTree.{ValueTree, Members, Items, map, list, text, bytes, u16, u32}
use Rattle.mmdb_data.specs.ValueTree.{i32, u64}
use Rattle.mmdb_data.specs.ValueTree.{u128, bool, double, float, no_members, member, no_items, item}
use Rattle.mmdb_data.specs.ValueTree.{depth, members_depth, items_depth, count, members_count}
use Rattle.mmdb_data.specs.ValueTree.{items_count, bytes_in, members_bytes, items_bytes}
use Rattle.mmdb_data.specs.Reading.{◌>>=◌, Fault, Budget, left_of, Read, Scalar, scalar_of}
use Rattle.mmdb_data.specs.Reading.{one_less, byte_from, bytes_from, head_from, pointer_from}
use Rattle.mmdb_data.specs.Reading.{key_of, members_from, items_from, scalar_bytes_from}
use Rattle.mmdb_data.specs.Reading.{scalar_value_from, scalar_from, content_bytes_from, text_from}
use Rattle.mmdb_data.specs.Reading.{byte_string_from, bool_from, leaf_from, content_from}
use Rattle.mmdb_data.specs.Reading.{plain_from, target_from, value_from, reads, is_pointer}

-- ---- what a step that did not fail gave

pub bind_ok : {A B : Type 0} (r : Result A Fault) (f : A → Result B Fault) (y : B)
    → (r >>= f) ≡ Ok y → (x : A) × (r ≡ Ok x) × (f x ≡ Ok y)
bind_ok (Ok x) f y e = (x, refl, e)
bind_ok (Err d) f y e = absurd cc

pub chosen : {A : Type 0} (b : Bool) (x y z : A) → cond b x y ≡ z
    → ((b ≡ true) × (x ≡ z)) ⊎ ((b ≡ false) × (y ≡ z))
chosen true x y z e = inl (refl, e)
chosen false x y z e = inr (refl, e)

pub passed : {A : Type 0} (b : Bool) (d : Fault) (r : Result A Fault) (y : A)
    → cond b (Err d) r ≡ Ok y → r ≡ Ok y
passed true d r y e = absurd cc
passed false d r y e = e

held : {A : Type 0} (b : Bool) (d : Fault) (r : Result A Fault) (y : A) → cond b r (Err d) ≡ Ok y
    → r ≡ Ok y
held true d r y e = e
held false d r y e = absurd cc

pub kept_if : {A : Type 0} (b : Bool) (d : Fault) (r : Result A Fault) (y : A)
    → cond b r (Err d) ≡ Ok y → (b ≡ true) × (r ≡ Ok y)
kept_if true d r y e = (refl, e)
kept_if false d r y e = absurd cc

abbrev pub done : {A : Type 0} → A → Result A Fault
done x = Ok x

pub ok_is : {A : Type 0} (x y : A) → done x ≡ done y → x ≡ y
ok_is x y e = cc

-- ---- one value

record IsOne (value : ValueTree) : Type 0 where
  pub depth_is : depth value ≡ 1
  pub count_is : count value ≡ 1
  pub light : bytes_in value ≡ 0

-- what every value of this scalar is
abbrev AreOne : Option Scalar → Type 0
AreOne None = Unit {0}
AreOne (Some scalar) = (content : List ℕ) → IsOne (scalar.value content)

one : {value : ValueTree} → depth value ≡ 1 → count value ≡ 1 → bytes_in value ≡ 0 → IsOne value
one d c l = record { depth_is = d; count_is = c; light = l }

either_one : (b : Bool) (x y : Option Scalar) → AreOne x → AreOne y → AreOne (cond b x y)
either_one true x y h k = h
either_one false x y h k = k

scalars_are_one : (kind : ℕ) → AreOne (scalar_of kind)
unfolding scalar_of
scalars_are_one kind =
    either_one (eqb kind 3) _ _ (λ content. one refl refl refl)
    (either_one (eqb kind 5) _ _ (λ content. one refl refl refl)
    (either_one (eqb kind 6) _ _ (λ content. one refl refl refl)
    (either_one (eqb kind 8) _ _ (λ content. one refl refl refl)
    (either_one (eqb kind 9) _ _ (λ content. one refl refl refl)
    (either_one (eqb kind 10) _ _ (λ content. one refl refl refl)
    (either_one (eqb kind 15) _ _ (λ content. one refl refl refl) tt))))))

value_is_one : (section : List ℕ) (is_key : Bool) (at : ℕ) (scalar : Option Scalar)
    (size offset : ℕ)
    (value : ValueTree) → AreOne scalar
    → scalar_value_from section is_key at scalar size offset ≡ Ok value → IsOne value
value_is_one section is_key at None size offset value h e = absurd cc
value_is_one section is_key at (Some scalar) size offset value h e =
    let b = bind_ok (scalar_bytes_from section is_key at scalar.least scalar.greatest size offset)
    (λ content. Ok (scalar.value content)) value e in
    subst IsOne (ok_is (scalar.value b.0) value b.2) (h b.0)

-- ---- one value and the budget after it

bytes_len : (section : List ℕ) (offset size : ℕ) (fault : Fault) (content : List ℕ)
    → bytes_from section offset size fault ≡ Ok content → length content ≡ size
unfolding bytes_from
bytes_len section offset size fault content e =
    elim (chosen (ltb (length section - offset) size) _ _ (Ok content) e) [
      | inl a ↦ absurd cc
      | inr a ↦ let enough = ltb-false (length section - offset) size a.0 in
          let is = ok_is (take size (drop offset section)) content a.1 in
          sym (ap length is) ∙ length-take-le size (drop offset section)
          (omega (arith, length-drop offset section))
    ]

-- bytes of the budget became bytes of the content
record AreSpent (content : List ℕ) (before after : Budget) : Type 0 where
  pub values_stay : after.values ≡ before.values
  pub bytes_spent : length content + after.bytes ≡ before.bytes

content_spent : (section : List ℕ) (at size offset : ℕ) (left : Budget) (found : List ℕ × Budget)
    → content_bytes_from section at size offset left ≡ Ok found → AreSpent found.0 left found.1
unfolding content_bytes_from
content_spent section at size offset left found e =
    let b = bind_ok (bytes_from section offset size (at, Truncated)) _ found e in
    let len = bytes_len section offset size (at, Truncated) b.0 b.1 in
    elim (chosen (ltb left.bytes size) _ _ (Ok found) b.2) [
      | inl a ↦ absurd cc
      | inr a ↦ let enough = ltb-false left.bytes size a.0 in
          subst (λ (x : List ℕ × Budget). AreSpent x.0 left x.1)
          (ok_is (b.0, left_of left.values (left.bytes - size)) found a.1)
          (record { values_stay = refl; bytes_spent = omega (arith, len, enough) })
    ]

text_spent : (section : List ℕ) (at size offset : ℕ) (left : Budget) (found : List ℕ × Budget)
    → text_from section at size offset left ≡ Ok found → AreSpent found.0 left found.1
unfolding text_from
text_spent section at size offset left found e =
    let b = bind_ok (content_bytes_from section at size offset left) _ found e in
    let same = ok_is b.0 found (held (is_utf8 b.0.0) (at, Utf8) (Ok b.0) found b.2) in
    subst (λ (x : List ℕ × Budget). AreSpent x.0 left x.1) same
    (content_spent section at size offset left b.0 b.1)

byte_string_spent : (section : List ℕ) (is_key : Bool) (at size offset : ℕ) (left : Budget)
    (found : List ℕ × Budget) → byte_string_from section is_key at size offset left ≡ Ok found
    → AreSpent found.0 left found.1
unfolding byte_string_from
byte_string_spent section is_key at size offset left found e =
    let b = bind_ok (content_bytes_from section at size offset left) _ found e in
    let same = ok_is b.0 found (passed is_key (at, Key) (Ok b.0) found b.2) in
    subst (λ (x : List ℕ × Budget). AreSpent x.0 left x.1) same
    (content_spent section at size offset left b.0 b.1)

-- one value, one level deep, and what it spent beside being one of the values
record IsLeaf (value : ValueTree) (before after : Budget) : Type 0 where
  pub depth_is : depth value ≡ 1
  pub count_is : count value ≡ 1
  pub values_stay : after.values ≡ before.values
  pub bytes_spent : bytes_in value + after.bytes ≡ before.bytes

leaf : {value : ValueTree} {before after : Budget} → IsOne value → after ≡ before
    → IsLeaf value before after
leaf {before = before} h same =
    record {
      depth_is = h.depth_is;
      count_is = h.count_is;
      values_stay =
          ap (λ (b : Budget). b.values) same;
      bytes_spent =
          omega (arith, h.light, ap (λ (b : Budget). b.bytes) same);
    }

leaf_is_one : (section : List ℕ) (is_key : Bool) (at kind size offset : ℕ) (left : Budget)
    (found : ValueTree × ℕ × Budget) → leaf_from section is_key at kind size offset left ≡ Ok found
    → IsLeaf found.0 left found.2
unfolding leaf_from scalar_from
leaf_is_one section is_key at kind size offset left found e =
    elim (chosen (eqb kind 2) _ _ (Ok found) e) [
      | inl a ↦ let b = bind_ok (text_from section at size offset left)
          (λ x. Ok (text x.0, offset + size, x.1)) found a.1 in
          let h = text_spent section at size offset left b.0 b.1 in
          subst (λ (x : ValueTree × ℕ × Budget). IsLeaf x.0 left x.2)
          (ok_is (text b.0.0, offset + size, b.0.1) found b.2)
          (record {
            depth_is = refl;
            count_is = refl;
            values_stay = h.values_stay;
            bytes_spent =
                h.bytes_spent;
          })
      | inr a ↦ elim (chosen (eqb kind 4) _ _ (Ok found) a.1) [
        | inl b ↦ let c = bind_ok (byte_string_from section is_key at size offset left)
            (λ x. Ok (bytes x.0, offset + size, x.1)) found b.1 in
            let h = byte_string_spent section is_key at size offset left c.0 c.1 in
            subst (λ (x : ValueTree × ℕ × Budget). IsLeaf x.0 left x.2)
            (ok_is (bytes c.0.0, offset + size, c.0.1) found c.2)
            (record {
              depth_is = refl;
              count_is = refl;
              values_stay = h.values_stay;
              bytes_spent = h.bytes_spent;
            })
        | inr b ↦ elim (chosen (eqb kind 14) _ _ (Ok found) b.1) [
          | inl c ↦ let d = bind_ok (bool_from is_key at size)
              (λ v. Ok (bool v, offset, left)) found c.1 in
              subst (λ (x : ValueTree × ℕ × Budget). IsLeaf x.0 left x.2)
              (ok_is (bool d.0, offset, left) found d.2) (leaf (one refl refl refl) refl)
          | inr c ↦ let d = bind_ok (scalar_value_from section is_key at
              (scalar_of kind) size offset) (λ v. Ok (v, offset + size, left)) found c.1 in
              subst (λ (x : ValueTree × ℕ × Budget). IsLeaf x.0 left x.2)
              (ok_is (d.0, offset + size, left) found d.2)
              (leaf (value_is_one section is_key at (scalar_of kind) size offset d.0
              (scalars_are_one kind) d.1) refl)
        ]
      ]
    ]

-- ---- values, by the levels that are left

record IsWithin (levels : ℕ) (value : ValueTree) (before after : Budget) : Type 0 where
  pub deep : depth value ≤ levels
  pub spent : count value + after.values ≡ before.values
  pub bytes_spent : bytes_in value + after.bytes ≡ before.bytes

record MembersAreWithin (levels : ℕ) (members : Members) (before after : Budget) : Type 0 where
  pub deep : members_depth members ≤ levels
  pub spent : members_count members + after.values ≡ before.values
  pub bytes_spent : members_bytes members + after.bytes ≡ before.bytes

record ItemsAreWithin (levels : ℕ) (items : Items) (before after : Budget) : Type 0 where
  pub deep : items_depth items ≤ levels
  pub spent : items_count items + after.values ≡ before.values
  pub bytes_spent : items_bytes items + after.bytes ≡ before.bytes

abbrev StaysWithin : ℕ → Read → Type 0
StaysWithin levels read = (is_key : Bool) (at : ℕ) (left : Budget) (found : ValueTree × ℕ × Budget)
    → read is_key at left ≡ Ok found → IsWithin levels found.0 left found.2

key_is : (offset : ℕ) (key : ValueTree) (name : List ℕ) → key_of offset key ≡ Ok name → key
    ≡ text name
key_is offset (text content) name e = ap text (ok_is content name e)
key_is offset (map pairs) name e = absurd cc
key_is offset (list values) name e = absurd cc
key_is offset (bytes content) name e = absurd cc
key_is offset (u16 n) name e = absurd cc
key_is offset (u32 n) name e = absurd cc
key_is offset (i32 n) name e = absurd cc
key_is offset (u64 n) name e = absurd cc
key_is offset (u128 n) name e = absurd cc
key_is offset (bool b) name e = absurd cc
key_is offset (double content) name e = absurd cc
key_is offset (float content) name e = absurd cc

members_within : (levels : ℕ) (read : Read) → StaysWithin levels read
    → (n offset : ℕ) (left : Budget) (found : Members × ℕ × Budget)
    → members_from read n offset left ≡ Ok found → MembersAreWithin levels found.0 left found.2
members_within levels read within zero offset left found e =
    subst (λ (x : Members × ℕ × Budget). MembersAreWithin levels x.0 left x.2)
    (ok_is (no_members, offset, left) found e)
    (record { deep = omega arith; spent = omega arith; bytes_spent = omega arith })
members_within levels read within (suc n) offset left found e =
    let a = bind_ok (read true offset left)
    (λ key. key_of offset key.0 >>= λ name. read false key.1 key.2 >>= λ value. members_from read
    n value.1 value.2 >>= λ rest. Ok (member name value.0 rest.0, rest.1, rest.2)) found e in
    let key = a.0 in
    let b = bind_ok (key_of offset key.0)
    (λ name. read false key.1 key.2 >>= λ value. members_from read n value.1 value.2 >>= λ rest.
    Ok (member name value.0 rest.0, rest.1, rest.2)) found a.2 in
    let name = b.0 in
    let c = bind_ok (read false key.1 key.2)
    (λ value. members_from read n value.1 value.2 >>= λ rest. Ok
    (member name value.0 rest.0, rest.1, rest.2)) found b.2 in
    let value = c.0 in
    let d = bind_ok (members_from read n value.1 value.2)
    (λ rest. Ok (member name value.0 rest.0, rest.1, rest.2)) found c.2 in
    let rest = d.0 in
    let first : IsWithin levels (text name) left key.2 =
    subst (λ (k : ValueTree). IsWithin levels k left key.2) (key_is offset key.0 name b.1)
    (within true offset left key a.1) in
    let second = within false key.1 key.2 value c.1 in
    let others = members_within levels read within n value.1 value.2 rest d.1 in
    subst (λ (x : Members × ℕ × Budget). MembersAreWithin levels x.0 left x.2)
    {x = (member name value.0 rest.0, rest.1, rest.2)}
    (ok_is (member name value.0 rest.0, rest.1, rest.2) found d.2)
    (record {
      deep = omega (arith, first.deep, second.deep, others.deep);
      spent =
          omega (arith, first.spent, second.spent, others.spent);
      bytes_spent =
          omega (arith, first.bytes_spent, second.bytes_spent, others.bytes_spent);
    })

items_within : (levels : ℕ) (read : Read) → StaysWithin levels read
    → (n offset : ℕ) (left : Budget) (found : Items × ℕ × Budget)
    → items_from read n offset left ≡ Ok found → ItemsAreWithin levels found.0 left found.2
items_within levels read within zero offset left found e =
    subst (λ (x : Items × ℕ × Budget). ItemsAreWithin levels x.0 left x.2)
    (ok_is (no_items, offset, left) found e)
    (record { deep = omega arith; spent = omega arith; bytes_spent = omega arith })
items_within levels read within (suc n) offset left found e =
    let c = bind_ok (read false offset left)
    (λ value. items_from read n value.1 value.2 >>= λ rest. Ok
    (item value.0 rest.0, rest.1, rest.2)) found e in
    let value = c.0 in
    let d = bind_ok (items_from read n value.1 value.2)
    (λ rest. Ok (item value.0 rest.0, rest.1, rest.2)) found c.2 in
    let rest = d.0 in
    let second = within false offset left value c.1 in
    let others = items_within levels read within n value.1 value.2 rest d.1 in
    subst (λ (x : Items × ℕ × Budget). ItemsAreWithin levels x.0 left x.2)
    (ok_is (item value.0 rest.0, rest.1, rest.2) found d.2)
    (record {
      deep = omega (arith, second.deep, others.deep);
      spent =
          omega (arith, second.spent, others.spent);
      bytes_spent =
          omega (arith, second.bytes_spent, others.bytes_spent);
    })

-- one value more than its parts, one level deeper
record IsOneMore (levels : ℕ) (value : ValueTree) (before after : Budget) : Type 0 where
  pub deep : depth value ≤ suc levels
  pub spent : count value + after.values ≡ suc before.values
  pub bytes_spent : bytes_in value + after.bytes ≡ before.bytes

content_within : (levels : ℕ) (read : Read) → StaysWithin levels read
    → (section : List ℕ) (is_key : Bool) (at kind size offset : ℕ) (left : Budget)
    (found : ValueTree × ℕ × Budget)
    → content_from read section is_key at kind size offset left ≡ Ok found
    → IsOneMore levels found.0 left found.2
unfolding content_from
content_within levels read within section is_key at kind size offset left found e =
    elim (chosen (eqb kind 7) _ _ (Ok found) e) [
      | inl a ↦ let p = passed is_key (at, Key) _ found a.1 in
          let b = bind_ok (members_from read size offset left)
          (λ x. Ok (map x.0, x.1, x.2)) found p in
          let h = members_within levels read within size offset left b.0 b.1 in
          subst (λ (x : ValueTree × ℕ × Budget). IsOneMore levels x.0 left x.2)
          (ok_is (map b.0.0, b.0.1, b.0.2) found b.2)
          (record {
            deep = omega (arith, h.deep);
            spent = omega (arith, h.spent);
            bytes_spent =
                omega (arith, h.bytes_spent);
          })
      | inr a ↦ elim (chosen (eqb kind 11) _ _ (Ok found) a.1) [
        | inl c ↦ let p = passed is_key (at, Key) _ found c.1 in
            let b = bind_ok (items_from read size offset left)
            (λ x. Ok (list x.0, x.1, x.2)) found p in
            let h = items_within levels read within size offset left b.0 b.1 in
            subst (λ (x : ValueTree × ℕ × Budget). IsOneMore levels x.0 left x.2)
            (ok_is (list b.0.0, b.0.1, b.0.2) found b.2)
            (record {
              deep = omega (arith, h.deep);
              spent = omega (arith, h.spent);
              bytes_spent = omega (arith, h.bytes_spent);
            })
        | inr c ↦ let h = leaf_is_one section is_key at kind size offset left found c.1 in
            record {
              deep = omega (arith, h.depth_is);
              spent =
                  omega (arith, h.count_is, h.values_stay);
              bytes_spent = h.bytes_spent;
            }
      ]
    ]

plain_within : (levels : ℕ) (read : Read) → StaysWithin levels read
    → (section : List ℕ) (is_key : Bool) (at : ℕ) (left : Budget) (found : ValueTree × ℕ × Budget)
    → plain_from read section is_key at left ≡ Ok found → IsOneMore levels found.0 left found.2
unfolding plain_from
plain_within levels read within section is_key at left found e =
    let b = bind_ok (head_from section at)
    (λ head. content_from read section is_key at head.0 head.1 head.2 left) found e in
    content_within levels read within section is_key at b.0.0 b.0.1 b.0.2 left found b.2

target_within : (levels : ℕ) (read : Read) → StaysWithin levels read
    → (section : List ℕ) (is_key : Bool) (at control : ℕ) (left : Budget)
    (found : ValueTree × ℕ × Budget)
    → target_from read section is_key at control left ≡ Ok found
    → IsOneMore levels found.0 left found.2
unfolding target_from
target_within levels read within section is_key at control left found e =
    let a = bind_ok (pointer_from section at control) _ found e in
    let b = bind_ok (byte_from section a.0.0 (at, OutOfSection)) _ found a.2 in
    let p = passed (is_pointer b.0) (a.0.0, PointerToPointer) _ found b.2 in
    let c = bind_ok (plain_from read section is_key a.0.0 left)
    (λ x. Ok (x.0, a.0.1, x.2)) found p in
    let h = plain_within levels read within section is_key a.0.0 left c.0 c.1 in
    subst (λ (x : ValueTree × ℕ × Budget). IsOneMore levels x.0 left x.2)
    (ok_is (c.0.0, a.0.1, c.0.2) found c.2) h

record IsOneLess (before after : Budget) : Type 0 where
  pub value_spent : suc after.values ≡ before.values
  pub bytes_stay : after.bytes ≡ before.bytes

spends : (before : Budget) (fault : Fault) (after : Budget) → one_less before fault ≡ Ok after
    → IsOneLess before after
unfolding one_less
spends before fault after e =
    elim (chosen (ltb 0 before.values) _ _ (Ok after) e) [
      | inl a ↦ let some = ltb-true 0 before.values a.0 in
          subst (IsOneLess before) (ok_is (left_of (before.values - 1) before.bytes) after a.1)
          (record { value_spent = omega (arith, some); bytes_stay = refl })
      | inr a ↦ absurd cc
    ]

value_within : (section : List ℕ) (levels : ℕ) → StaysWithin levels (value_from section levels)
unfolding value_from
value_within section zero is_key at left found e = absurd cc
value_within section (suc levels) is_key at left found e =
    let read = value_from section levels in
    let a = bind_ok (one_less left (at, Many)) _ found e in
    let spent = spends left (at, Many) a.0 a.1 in
    let b = bind_ok (byte_from section at (at, Truncated)) _ found a.2 in
    let h : IsOneMore levels found.0 a.0 found.2 =
    elim (chosen (is_pointer b.0) _ _ (Ok found) b.2) [
      | inl c ↦ target_within levels read
          (value_within section levels) section is_key at b.0 a.0 found c.1
      | inr c ↦ plain_within levels read
          (value_within section levels) section is_key at a.0 found c.1
    ] in
    record {
      deep = h.deep;
      spent = omega (arith, h.spent, spent.value_spent);
      bytes_spent =
          omega (arith, h.bytes_spent, spent.bytes_stay);
    }

-- what is read has at most 32 levels, 100,000 values and 67,108,864 bytes
pub are_bounded : (section : List ℕ) (at : ℕ) (value : ValueTree) → reads section at ≡ Ok value
    → (depth value ≤ 32) × (count value ≤ 100000) × (bytes_in value ≤ 67108864)
unfolding reads
are_bounded section at value e =
    let p = held (ltb at (length section)) (at, OutOfSection) _ value e in
    let b = bind_ok (value_from section 32 false at (left_of 100000 67108864))
    (λ found. Ok found.0) value p in
    let h = value_within section 32 false at (left_of 100000 67108864) b.0 b.1 in
    subst (λ (v : ValueTree). (depth v ≤ 32) × (count v ≤ 100000) × (bytes_in v ≤ 67108864))
    (ok_is b.0.0 value b.2) (h.deep, omega (arith, h.spent), omega (arith, h.bytes_spent))
