-- Reading members and items one after the other, as a loop does.
use Rattle.std.proofs.Common.{◌≡◌, ℕ, suc, ◌-◌, ◌+◌, ◌≤◌, ◌<◌, true, false, List, [], ◌∷◌, ◌++◌, Ok}
use Rattle.std.proofs.Common.{Bool, Err, refl, sym, ap, ◌∙◌, subst, arith}
use Rattle.mmdb_data.specs.declared.fault.DataFault.{DataFault}
use Rattle.mmdb_data.specs.declared.fault.DataFault.TheVariants as faults
use Rattle.mmdb_data.specs.declared.value.Value.{Value}
use Rattle.mmdb_data.specs.ValueTree.{ValueTree, Members, Items, no_members, member, no_items, item}
use Rattle.mmdb_data.specs.Reading.{◌>>=◌, Budget, Found, Read, Fails, key_of, members_from}
use Rattle.mmdb_data.specs.Reading.{items_from, value_from}
use Rattle.mmdb_data.specs.View.{value_tree, items_view, members_view}

-- the one and then the other
abbrev pub joined : Members → Members → Members
joined no_members later = later
joined (member key value others) later = member key value (joined others later)

abbrev pub chained : Items → Items → Items
chained no_items later = later
chained (item value others) later = item value (chained others later)

joined-assoc : (a b c : Members) → joined (joined a b) c ≡ joined a (joined b c)
joined-assoc no_members b c = refl
joined-assoc (member key value a) b c = ap (member key value) (joined-assoc a b c)

joined-none : (a : Members) → joined a no_members ≡ a
joined-none no_members = refl
joined-none (member key value a) = ap (member key value) (joined-none a)

chained-assoc : (a b c : Items) → chained (chained a b) c ≡ chained a (chained b c)
chained-assoc no_items b c = refl
chained-assoc (item value a) b c = ap (item value) (chained-assoc a b c)

chained-none : (a : Items) → chained a no_items ≡ a
chained-none no_items = refl
chained-none (item value a) = ap (item value) (chained-none a)

pub members_view-push : (pairs : List (List ℕ × Value)) (pair : List ℕ × Value)
    → members_view (pairs ++ pair ∷ []) ≡ joined (members_view pairs)
    (member pair.0 (value_tree pair.1) no_members)
members_view-push [] pair = refl
members_view-push (p ∷ pairs) pair = ap (member p.0 (value_tree p.1)) (members_view-push pairs pair)

pub items_view-push : (values : List Value) (value : Value)
    → items_view (values ++ value ∷ [])
    ≡ chained (items_view values) (item (value_tree value) no_items)
items_view-push [] value = refl
items_view-push (v ∷ values) value = ap (item (value_tree v)) (items_view-push values value)

-- what was read before, and what is still read
abbrev pub after_members : Members → Found Members → Found Members
after_members front read = read >>= λ x. Ok (joined front x.0, x.1, x.2)

abbrev pub after_items : Items → Found Items → Found Items
after_items front read = read >>= λ x. Ok (chained front x.0, x.1, x.2)

-- ---- a value of the same bytes

pub still_gives : (a b : List ℕ) (levels : ℕ) (is_key : Bool) (at : ℕ) (left : Budget)
    (found : ValueTree × ℕ × Budget) → a ≡ b → value_from a levels is_key at left ≡ Ok found
    → value_from b levels is_key at left ≡ Ok found
still_gives a b levels is_key at left found same gives =
    subst (λ (s : List ℕ). value_from s levels is_key at left ≡ Ok found) same gives

pub still_fails : (a b : List ℕ) (levels : ℕ) (is_key : Bool) (at : ℕ) (left : Budget)
    (fault : DataFault) → a ≡ b → Fails fault (value_from a levels is_key at left)
    → Fails fault (value_from b levels is_key at left)
still_fails a b levels is_key at left fault same fails =
    subst (λ (s : List ℕ). Fails fault (value_from s levels is_key at left)) same fails

-- ---- members

pub members_start : (read : Found Members) → after_members no_members read ≡ read
members_start (Ok x) = refl
members_start (Err e) = refl

regroup_members : (front : Members) (key : List ℕ) (value : ValueTree) (read : Found Members)
    → after_members front (read >>= λ x. Ok (member key value x.0, x.1, x.2)) ≡ after_members
    (joined front (member key value no_members)) read
regroup_members front key value (Ok x) =
    ap (λ (m : Members). Ok (m, x.1, x.2))
    (sym (joined-assoc front (member key value no_members) x.0))
regroup_members front key value (Err e) = refl

pub members_go_on : (read : Read) (front : Members) (count i offset : ℕ) (left : Budget)
    (key : ValueTree × ℕ × Budget) (name : List ℕ) (value : ValueTree × ℕ × Budget)
    (total : Found Members)
    → i < count
    → read true offset left ≡ Ok key → key_of offset key.0 ≡ Ok name
    → read false key.1 key.2 ≡ Ok value
    → after_members front (members_from read (count - i) offset left) ≡ total
    → after_members (joined front (member name value.0 no_members))
    (members_from read (count - (i + 1)) value.1 value.2) ≡ total
members_go_on read front count i offset left key name value total lt first named second so_far =
    let k : count - i ≡ suc (count - (i + 1)) = omega arith in
    let one : after_members front (members_from read (count - i) offset left) ≡ after_members
    (joined front (member name value.0 no_members))
    (members_from read (count - (i + 1)) value.1 value.2) =
    rw (k, first, named, second) (regroup_members front name value.0
    (members_from read (count - (i + 1)) value.1 value.2)) in
    sym one ∙ so_far

pub key_ends : (read : Read) (fault : DataFault) (front : Members) (count i offset : ℕ)
    (left : Budget) (total : Found Members) → i < count
    → Fails fault (read true offset left)
    → after_members front (members_from read (count - i) offset left) ≡ total → Fails fault total
key_ends read faults.Memory front count i offset left total lt first so_far = tt
key_ends read (faults.Bad at cause) front count i offset left total lt first so_far =
    let k : count - i ≡ suc (count - (i + 1)) = omega arith in
    let one : after_members front (members_from read (count - i) offset left) ≡ Err (at, cause) =
    rw (k, first) refl in
    sym so_far ∙ one

pub name_ends : (read : Read) (fault : DataFault) (front : Members) (count i offset : ℕ)
    (left : Budget) (key : ValueTree × ℕ × Budget) (total : Found Members) → i < count
    → read true offset left ≡ Ok key → Fails fault (key_of offset key.0)
    → after_members front (members_from read (count - i) offset left) ≡ total → Fails fault total
name_ends read faults.Memory front count i offset left key total lt first named so_far = tt
name_ends read (faults.Bad at cause) front count i offset left key total lt first named so_far =
    let k : count - i ≡ suc (count - (i + 1)) = omega arith in
    let one : after_members front (members_from read (count - i) offset left) ≡ Err (at, cause) =
    rw (k, first, named) refl in
    sym so_far ∙ one

pub value_ends : (read : Read) (fault : DataFault) (front : Members) (count i offset : ℕ)
    (left : Budget) (key : ValueTree × ℕ × Budget) (name : List ℕ) (total : Found Members)
    → i < count
    → read true offset left ≡ Ok key → key_of offset key.0 ≡ Ok name
    → Fails fault (read false key.1 key.2)
    → after_members front (members_from read (count - i) offset left) ≡ total → Fails fault total
value_ends read faults.Memory front count i offset left key name total lt first named
    second so_far =
    tt
value_ends read (faults.Bad at cause) front count i offset left key name total lt first named second
    so_far =
    let k : count - i ≡ suc (count - (i + 1)) = omega arith in
    let one : after_members front (members_from read (count - i) offset left) ≡ Err (at, cause) =
    rw (k, first, named, second) refl in
    sym so_far ∙ one

pub members_are_done : (read : Read) (front : Members) (count i offset : ℕ) (left : Budget)
    (total : Found Members) → count ≤ i
    → after_members front (members_from read (count - i) offset left) ≡ total
    → total ≡ Ok (front, offset, left)
members_are_done read front count i offset left total le so_far =
    let k : count - i ≡ 0 = omega arith in
    let one : after_members front (members_from read (count - i) offset left) ≡ Ok
    (front, offset, left) = rw k (ap (λ (m : Members). Ok (m, offset, left)) (joined-none front))
    in
    sym so_far ∙ one

-- ---- items

pub items_start : (read : Found Items) → after_items no_items read ≡ read
items_start (Ok x) = refl
items_start (Err e) = refl

regroup_items : (front : Items) (value : ValueTree) (read : Found Items)
    → after_items front (read >>= λ x. Ok (item value x.0, x.1, x.2)) ≡ after_items
    (chained front (item value no_items)) read
regroup_items front value (Ok x) =
    ap (λ (m : Items). Ok (m, x.1, x.2)) (sym (chained-assoc front (item value no_items) x.0))
regroup_items front value (Err e) = refl

pub items_go_on : (read : Read) (front : Items) (count i offset : ℕ) (left : Budget)
    (value : ValueTree × ℕ × Budget) (total : Found Items) → i < count
    → read false offset left ≡ Ok value
    → after_items front (items_from read (count - i) offset left) ≡ total
    → after_items (chained front (item value.0 no_items))
    (items_from read (count - (i + 1)) value.1 value.2) ≡ total
items_go_on read front count i offset left value total lt first so_far =
    let k : count - i ≡ suc (count - (i + 1)) = omega arith in
    let one : after_items front (items_from read (count - i) offset left) ≡ after_items
    (chained front (item value.0 no_items))
    (items_from read (count - (i + 1)) value.1 value.2) =
    rw (k, first) (regroup_items front value.0 (items_from read (count - (i + 1)) value.1 value.2))
    in
    sym one ∙ so_far

pub item_ends : (read : Read) (fault : DataFault) (front : Items) (count i offset : ℕ)
    (left : Budget) (total : Found Items) → i < count
    → Fails fault (read false offset left)
    → after_items front (items_from read (count - i) offset left) ≡ total → Fails fault total
item_ends read faults.Memory front count i offset left total lt first so_far = tt
item_ends read (faults.Bad at cause) front count i offset left total lt first so_far =
    let k : count - i ≡ suc (count - (i + 1)) = omega arith in
    let one : after_items front (items_from read (count - i) offset left) ≡ Err (at, cause) =
    rw (k, first) refl in
    sym so_far ∙ one

pub items_are_done : (read : Read) (front : Items) (count i offset : ℕ) (left : Budget)
    (total : Found Items) → count ≤ i
    → after_items front (items_from read (count - i) offset left) ≡ total
    → total ≡ Ok (front, offset, left)
items_are_done read front count i offset left total le so_far =
    let k : count - i ≡ 0 = omega arith in
    let one : after_items front (items_from read (count - i) offset left)
    ≡ Ok (front, offset, left) =
    rw k (ap (λ (m : Items). Ok (m, offset, left)) (chained-none front)) in
    sym so_far ∙ one
