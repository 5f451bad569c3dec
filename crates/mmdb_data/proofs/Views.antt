-- The tree of a `Value`, variant by variant, and of its members and items, one by one.
use Rattle.std.proofs.Common.{◌≡◌, ℕ, suc, Bool, List, [], ◌∷◌, length, Vec, Global, sym, ap, ◌∙◌}
use Rattle.std.proofs.Common.{arith, subst, refl}
use Rattle.std.specs.Prelude.{ℤ}
use Rattle.mmdb_data.specs.ValueTree.{ValueTree, map, list, text, bytes, u16, u32, i32, u64, u128}
use Rattle.mmdb_data.specs.ValueTree.{bool, double, float, members_len, items_len}
use Rattle.mmdb_data.specs.Spelling.{spelling}
use Rattle.mmdb_data.specs.Packing.{Packed, with_bytes, content_in}
use Rattle.mmdb_data.specs.View.{value_tree, view_step, items_view, members_view}
use Rattle.mmdb_data.specs.declared.value.Value.{Value, Value-F, fold-roll-Value, out-Value}
use Rattle.mmdb_data.specs.declared.value.Value.{roll-Value, roll-out-Value}
use Rattle.mmdb_data.specs.declared.value.Value.TheVariants.{Map, List as Values, Text, Bytes, U16}
use Rattle.mmdb_data.specs.declared.value.Value.TheVariants.{U32, I32, U64, U128, Raw8, Raw4}
use Rattle.mmdb_data.specs.declared.value.Value.TheVariants.{Bool as Flag, rolls-Map, rolls-List}
use Rattle.mmdb_data.specs.declared.value.Value.TheVariants.{rolls-Text, rolls-Bytes, rolls-U16}
use Rattle.mmdb_data.specs.declared.value.Value.TheVariants.{rolls-U32, rolls-I32, rolls-U64}
use Rattle.mmdb_data.specs.declared.value.Value.TheVariants.{rolls-U128, rolls-Bool, rolls-Raw8}
use Rattle.mmdb_data.specs.declared.value.Value.TheVariants.{rolls-Raw4}

pub tree-Map : (pairs : Vec (List ℕ × Value) Global)
    → value_tree (Map pairs) ≡ map (members_view pairs.items)
tree-Map pairs = ap value_tree (sym (rolls-Map pairs))
    ∙ fold-roll-Value ValueTree view_step (Value-F.Map pairs)

pub tree-List : (values : Vec Value Global) → value_tree (Values values)
    ≡ list (items_view values.items)
tree-List values = ap value_tree (sym (rolls-List values))
    ∙ fold-roll-Value ValueTree view_step (Value-F.List values)

pub len-members_view : (pairs : List (List ℕ × Value))
    → members_len (members_view pairs) ≡ length pairs
len-members_view [] = omega arith
len-members_view (pair ∷ pairs) = ap suc (len-members_view pairs)

pub len-items_view : (values : List Value) → items_len (items_view values) ≡ length values
len-items_view [] = omega arith
len-items_view (value ∷ values) = ap suc (len-items_view values)

pub tree-Text : (content : List ℕ) → value_tree (Text content) ≡ text content
tree-Text content = ap value_tree (sym (rolls-Text content))
    ∙ fold-roll-Value ValueTree view_step (Value-F.Text content)

pub tree-Bytes : (content : List ℕ) → value_tree (Bytes content) ≡ bytes content
tree-Bytes content = ap value_tree (sym (rolls-Bytes content))
    ∙ fold-roll-Value ValueTree view_step (Value-F.Bytes content)

pub tree-U16 : (n : ℕ) → value_tree (U16 n) ≡ u16 n
tree-U16 n = ap value_tree (sym (rolls-U16 n))
    ∙ fold-roll-Value ValueTree view_step (Value-F.U16 n)

pub tree-U32 : (n : ℕ) → value_tree (U32 n) ≡ u32 n
tree-U32 n = ap value_tree (sym (rolls-U32 n))
    ∙ fold-roll-Value ValueTree view_step (Value-F.U32 n)

pub tree-I32 : (n : ℤ) → value_tree (I32 n) ≡ i32 n
tree-I32 n = ap value_tree (sym (rolls-I32 n))
    ∙ fold-roll-Value ValueTree view_step (Value-F.I32 n)

pub tree-U64 : (n : ℕ) → value_tree (U64 n) ≡ u64 n
tree-U64 n = ap value_tree (sym (rolls-U64 n))
    ∙ fold-roll-Value ValueTree view_step (Value-F.U64 n)

pub tree-U128 : (n : ℕ) → value_tree (U128 n) ≡ u128 n
tree-U128 n = ap value_tree (sym (rolls-U128 n))
    ∙ fold-roll-Value ValueTree view_step (Value-F.U128 n)

pub tree-Bool : (b : Bool) → value_tree (Flag b) ≡ bool b
tree-Bool b = ap value_tree (sym (rolls-Bool b))
    ∙ fold-roll-Value ValueTree view_step (Value-F.Bool b)

pub tree-Raw8 : (content : List ℕ) → value_tree (Raw8 content) ≡ double content
tree-Raw8 content = ap value_tree (sym (rolls-Raw8 content))
    ∙ fold-roll-Value ValueTree view_step (Value-F.Raw8 content)

pub tree-Raw4 : (content : List ℕ) → value_tree (Raw4 content) ≡ float content
tree-Raw4 content = ap value_tree (sym (rolls-Raw4 content))
    ∙ fold-roll-Value ValueTree view_step (Value-F.Raw4 content)

-- ---- without parts

abbrev pub IsLeaf : ValueTree → Type 0
IsLeaf (map _) = ⊥
IsLeaf (list _) = ⊥
IsLeaf _ = Unit {0}

leaf_at : (value : Value) (part : Value-F Value) → value ≡ roll-Value part
    → ((pairs : Vec (List ℕ × Value) Global) → value ≡ Map pairs → ⊥)
    → ((values : Vec Value Global) → value ≡ Values values → ⊥) → IsLeaf (value_tree value)
leaf_at value (Value-F.Map pairs) is no_map no_list = absurd (no_map pairs (is ∙ rolls-Map pairs))
leaf_at value (Value-F.List values) is no_map no_list =
    absurd (no_list values (is ∙ rolls-List values))
leaf_at value (Value-F.Text content) is no_map no_list =
    subst IsLeaf (sym (ap value_tree (is ∙ rolls-Text content) ∙ tree-Text content)) tt
leaf_at value (Value-F.Bytes content) is no_map no_list =
    subst IsLeaf (sym (ap value_tree (is ∙ rolls-Bytes content) ∙ tree-Bytes content)) tt
leaf_at value (Value-F.U16 n) is no_map no_list =
    subst IsLeaf (sym (ap value_tree (is ∙ rolls-U16 n) ∙ tree-U16 n)) tt
leaf_at value (Value-F.U32 n) is no_map no_list =
    subst IsLeaf (sym (ap value_tree (is ∙ rolls-U32 n) ∙ tree-U32 n)) tt
leaf_at value (Value-F.I32 n) is no_map no_list =
    subst IsLeaf (sym (ap value_tree (is ∙ rolls-I32 n) ∙ tree-I32 n)) tt
leaf_at value (Value-F.U64 n) is no_map no_list =
    subst IsLeaf (sym (ap value_tree (is ∙ rolls-U64 n) ∙ tree-U64 n)) tt
leaf_at value (Value-F.U128 n) is no_map no_list =
    subst IsLeaf (sym (ap value_tree (is ∙ rolls-U128 n) ∙ tree-U128 n)) tt
leaf_at value (Value-F.Bool b) is no_map no_list =
    subst IsLeaf (sym (ap value_tree (is ∙ rolls-Bool b) ∙ tree-Bool b)) tt
leaf_at value (Value-F.Raw8 content) is no_map no_list =
    subst IsLeaf (sym (ap value_tree (is ∙ rolls-Raw8 content) ∙ tree-Raw8 content)) tt
leaf_at value (Value-F.Raw4 content) is no_map no_list =
    subst IsLeaf (sym (ap value_tree (is ∙ rolls-Raw4 content) ∙ tree-Raw4 content)) tt

pub leaf_tree : (value : Value) → ((pairs : Vec (List ℕ × Value) Global) → value ≡ Map pairs → ⊥)
    → ((values : Vec Value Global) → value ≡ Values values → ⊥) → IsLeaf (value_tree value)
leaf_tree value no_map no_list =
    leaf_at value (out-Value value) (sym (roll-out-Value value)) no_map no_list

-- a value without parts is its spelling
pub leaf_content : (value : ValueTree) (section : Packed) → IsLeaf value
    → content_in value section ≡ with_bytes (spelling value) section
leaf_content (map _) section leaf = absurd leaf
leaf_content (list _) section leaf = absurd leaf
leaf_content (text content) section leaf = refl
leaf_content (bytes content) section leaf = refl
leaf_content (u16 n) section leaf = refl
leaf_content (u32 n) section leaf = refl
leaf_content (i32 n) section leaf = refl
leaf_content (u64 n) section leaf = refl
leaf_content (u128 n) section leaf = refl
leaf_content (bool b) section leaf = refl
leaf_content (double content) section leaf = refl
leaf_content (float content) section leaf = refl
