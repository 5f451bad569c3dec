-- What is wanted of the items that lines say, one line after the other.
use Rattle.std.proofs.Common.{◌≡◌, ℕ, Bool, true, false, cond, ◌||◌, List, [], ◌∷◌, ◌++◌, Option}
use Rattle.std.proofs.Common.{Some, None, filter, map, refl, sym, ap, ◌∙◌, append-nil, append_assoc}
use Rattle.std.proofs.Common.{◌-◌, ◌<◌, ◌≤◌, length, take, drop, get_or, arith}
use Rattle.std.specs.Char.{to_ascii_lowercase}
use Rattle.std.specs.List.{cons_option, list_any}
use Rattle.geo_terms.specs.declared.note.Rule.TheVariants.{P02}
use Rattle.rpsl_reader.specs.declared.item.Attribute.{Attribute}
use Rattle.rpsl_reader.specs.declared.item.Item.{Item}
use Rattle.rpsl_reader.specs.declared.item.Item.TheVariants.{Passed, Whole}
use Rattle.rpsl_reader.specs.Attributes.{HasSides, Numbered, attribute, attributes, continued}
use Rattle.rpsl_reader.specs.Attributes.{is_attribute, is_stray, name_of, said_of, value_of}
use Rattle.rpsl_reader.specs.Objects.{items, stray, strays}
use Rattle.rpsl_reader.specs.Selections.{Wanted, class_of, is_among, wanted, wanted_of}
use Rattle.rpsl_reader.specs.Selections.{wanted_parts, wants_class, wants_name}
use Rattle.rpsl_reader.proofs.Pieces.{wanted-append}
use Rattle.rpsl_reader.proofs.Sides.{later_rest, sides_name, sides_value}

-- the object that begins with a line
abbrev whole : Numbered → List Numbered → Item
whole l ls = Whole (record { line = l.0; parts = attribute l ls ∷ attributes ls })

-- the same, with the wanted attributes alone
abbrev chosen : Wanted → Numbered → List Numbered → Item
chosen w l ls = Whole (record {
  line = l.0;
  parts = attribute l ls ∷ filter (λ a. wants_name w a.name) (attributes ls);
})

whole_by : (w : Wanted) (l : Numbered) (ls : List Numbered) (t : Bool)
    → wants_class w (name_of l.1) ≡ t → wanted w (whole l ls ∷ []) ≡ cond t (chosen w l ls ∷ []) []
unfolding wanted
whole_by w l ls true e = ap (λ t. cons_option (cond t (Some (chosen w l ls)) None) []) e
whole_by w l ls false e = ap (λ t. cons_option (cond t (Some (chosen w l ls)) None) []) e

-- an object of a class that is not wanted
pub object_out : (w : Wanted) (l : Numbered) (ls : List Numbered) (found : List Item) (r : Option
    (List ℕ)) → r ≡ cond (wants_class w (name_of l.1)) (Some (name_of l.1)) None → r ≡ None
    → found ≡ found ++ wanted w (whole l ls ∷ [])
object_out w l ls found r is none =
    let by : (t : Bool) → wants_class w (name_of l.1) ≡ t → r ≡ cond t (Some (name_of l.1)) None
    → found ≡ found ++ wanted w (whole l ls ∷ []) =
    λ t. elim t as (λ b. wants_class w (name_of l.1) ≡ b → r ≡ cond b (Some (name_of l.1)) None
    → found ≡ found ++ wanted w (whole l ls ∷ [])) [
      | true ↦ λ e h. absurd (let f : None ≡ Some (name_of l.1) = sym none ∙ h in cc)
      | false ↦ λ e h. sym (ap (λ t. found ++ t) (whole_by w l ls false e) ∙ append-nil found)
    ] in
    by (wants_class w (name_of l.1)) refl is

-- an object of a wanted class
pub object_in : (w : Wanted)
    (l : Numbered) (ls : List Numbered) (found : List Item) (r : Option (List ℕ)) (name : List ℕ)
    → r ≡ cond (wants_class w (name_of l.1)) (Some (name_of l.1)) None → r ≡ Some name
    → found ++ (Whole (record {
      line = l.0;
      parts =
          record { name = name; value = value_of l.1 ls; line = l.0 }
          ∷ filter (λ a. wants_name w a.name) (attributes ls);
    }) ∷ []) ≡ found ++ wanted w (whole l ls ∷ [])
object_in w l ls found r name is some =
    let put : List ℕ → List Item = λ n. found ++ (Whole (record {
      line = l.0;
      parts =
          record { name = n; value = value_of l.1 ls; line = l.0 }
          ∷ filter (λ a. wants_name w a.name) (attributes ls);
    }) ∷ []) in
    let by : (t : Bool) → wants_class w (name_of l.1) ≡ t → r ≡ cond t (Some (name_of l.1)) None
    → put name ≡ found ++ wanted w (whole l ls ∷ []) =
    λ t. elim t as (λ b. wants_class w (name_of l.1) ≡ b → r ≡ cond b (Some (name_of l.1)) None
    → put name ≡ found ++ wanted w (whole l ls ∷ [])) [
      | true ↦ λ e h. let same : Some name ≡ Some (name_of l.1) = sym some ∙ h in
          let is_name : name ≡ name_of l.1 = cc in
          ap put is_name ∙ sym (ap (λ t. found ++ t) (whole_by w l ls true e))
      | false ↦ λ e h. absurd (let f : Some name ≡ None = sym some ∙ h in cc)
    ] in
    by (wants_class w (name_of l.1)) refl is

-- the same, from the sides of the line
pub sides_out : (w : Wanted) (l : Numbered) (ls : List Numbered) (n v : List ℕ) (found : List Item)
    (r : Option (List ℕ)) → HasSides l.1 n v
    → r ≡ cond (wants_class w (map to_ascii_lowercase n)) (Some (map to_ascii_lowercase n)) None
    → r ≡ None → found ≡ found ++ wanted w (whole l ls ∷ [])
sides_out w l ls n v found r h is none =
    object_out w l ls found r
    (is ∙ ap (λ t. cond (wants_class w t) (Some t) None) (sym (sides_name l.1 n v h))) none

pub sides_in : (w : Wanted) (l : Numbered) (ls : List Numbered) (n v : List ℕ) (found : List Item)
    (r : Option (List ℕ)) (name : List ℕ) → HasSides l.1 n v
    → r ≡ cond (wants_class w (map to_ascii_lowercase n)) (Some (map to_ascii_lowercase n)) None
    → r ≡ Some name
    → found ++ (Whole (record {
      line = l.0;
      parts =
          record { name = name; value = continued (said_of v) ls; line = l.0 }
          ∷ filter (λ a. wants_name w a.name) (attributes ls);
    }) ∷ []) ≡ found ++ wanted w (whole l ls ∷ [])
sides_in w l ls n v found r name h is some =
    ap (λ t. found ++ (Whole (record {
      line = l.0;
      parts =
          record { name = name; value = t; line = l.0 }
          ∷ filter (λ a. wants_name w a.name) (attributes ls);
    }) ∷ [])) (sym (sides_value l.1 n v ls h))
    ∙ object_in w l ls found r name
    (is ∙ ap (λ t. cond (wants_class w t) (Some t) None) (sym (sides_name l.1 n v h))) some

-- an attribute of a name that is not wanted, and of one that is
pub part_out : (w : Wanted) (l : Numbered) (ls : List Numbered) (n v : List ℕ)
    (parts : List Attribute) (r : Option (List ℕ)) → HasSides l.1 n v
    → r ≡ cond (wants_name w (map to_ascii_lowercase n)) (Some (map to_ascii_lowercase n)) None
    → r ≡ None
    → parts ≡ parts ++ filter (λ a. wants_name w a.name) (attribute l ls ∷ [])
part_out w l ls n v parts r h is none =
    let by : (t : Bool) → r ≡ cond t (Some (name_of l.1)) None
    → parts ≡ parts ++ cond t (attribute l ls ∷ []) [] =
    λ t. elim t as (λ b. r ≡ cond b (Some (name_of l.1)) None
    → parts ≡ parts ++ cond b (attribute l ls ∷ []) []) [
      | true ↦ λ e. absurd (let f : None ≡ Some (name_of l.1) = sym none ∙ e in cc)
      | false ↦ λ e. sym (append-nil parts)
    ] in
    by (wants_name w (name_of l.1))
    (is ∙ ap (λ t. cond (wants_name w t) (Some t) None) (sym (sides_name l.1 n v h)))

pub part_in : (w : Wanted) (l : Numbered) (ls : List Numbered) (n v : List ℕ)
    (parts : List Attribute) (r : Option (List ℕ)) (name : List ℕ) → HasSides l.1 n v
    → r ≡ cond (wants_name w (map to_ascii_lowercase n)) (Some (map to_ascii_lowercase n)) None
    → r ≡ Some name
    → parts ++ (record { name = name; value = continued (said_of v) ls; line = l.0 } ∷ [])
    ≡ parts ++ filter (λ a. wants_name w a.name) (attribute l ls ∷ [])
part_in w l ls n v parts r name h is some =
    let put : List ℕ → List ℕ → List Attribute =
    λ m t. parts ++ (record { name = m; value = t; line = l.0 } ∷ []) in
    let by : (t : Bool) → r ≡ cond t (Some (name_of l.1)) None
    → put name (value_of l.1 ls) ≡ parts ++ cond t (attribute l ls ∷ []) [] =
    λ t. elim t as (λ b. r ≡ cond b (Some (name_of l.1)) None
    → put name (value_of l.1 ls) ≡ parts ++ cond b (attribute l ls ∷ []) []) [
      | true ↦ λ e. let same : Some name ≡ Some (name_of l.1) = sym some ∙ e in
          let is_name : name ≡ name_of l.1 = cc in
          ap (λ m. put m (value_of l.1 ls)) is_name
      | false ↦ λ e. absurd (let f : Some name ≡ None = sym some ∙ e in cc)
    ] in
    ap (put name) (sym (sides_value l.1 n v ls h)) ∙ by (wants_name w (name_of l.1))
    (is ∙ ap (λ t. cond (wants_name w t) (Some t) None) (sym (sides_name l.1 n v h)))

-- lines of which none is stray give no note
pub none_stray : (ls : List Numbered) → list_any (λ l. is_stray l.1) ls ≡ false → strays ls ≡ []
none_stray [] e = refl
none_stray (l ∷ ls) e =
    let by : (t : Bool) → (t || list_any (λ k. is_stray k.1) ls) ≡ false
    → map stray (cond t (l ∷ filter (λ k. is_stray k.1) ls) (filter (λ k. is_stray k.1) ls)) ≡ [] =
    λ t. elim t as (λ b. (b || list_any (λ k. is_stray k.1) ls) ≡ false
    → map stray (cond b (l ∷ filter (λ k. is_stray k.1) ls) (filter (λ k. is_stray k.1) ls)) ≡ []) [
      | true ↦ λ h. absurd (let f : true ≡ false = h in cc)
      | false ↦ λ h. none_stray ls h
    ] in
    by (is_stray l.1) e

-- notes are always wanted
pub wanted_notes : (w : Wanted) (ls : List Numbered) → wanted w (map stray ls) ≡ map stray ls
unfolding wanted
wanted_notes w [] = refl
wanted_notes w (l ∷ ls) = ap (λ t. stray l ∷ t) (wanted_notes w ls)

-- nothing, a note and what follows, and an object before notes
pub wanted_nil : (w : Wanted) → wanted w [] ≡ []
unfolding wanted
wanted_nil w = refl

pub wanted_note : (w : Wanted) (n : ℕ) (is : List Item)
    → wanted w (Passed n P02 ∷ is) ≡ Passed n P02 ∷ wanted w is
unfolding wanted
wanted_note w n is = refl

pub wanted_object : (w : Wanted) (i : Item) (ls : List Numbered)
    → wanted w (i ∷ map stray ls) ≡ wanted w (i ∷ []) ++ map stray ls
wanted_object w i ls =
    wanted-append w (i ∷ []) (map stray ls) ∙ ap (λ t. wanted w (i ∷ []) ++ t) (wanted_notes w ls)

-- everything is wanted
all_parts : (w : Wanted) (ps : List Attribute) → w.everything ≡ true
    → filter (λ a. wants_name w a.name) ps ≡ ps
all_parts w [] e = refl
all_parts w (p ∷ ps) e =
    ap (λ t. cond (t || is_among p.name w.names) (p ∷ filter (λ a. wants_name w a.name) ps)
    (filter (λ a. wants_name w a.name) ps)) e ∙ ap (λ t. p ∷ t) (all_parts w ps e)

all_in : (w : Wanted) (ps : List Attribute) → w.everything ≡ true → wanted_parts w ps ≡ ps
all_in w [] e = refl
all_in w (p ∷ ps) e = ap (λ t. p ∷ t) (all_parts w ps e)

all_of : (w : Wanted) (i : Item) → w.everything ≡ true → wanted_of w i ≡ Some i
all_of w (Passed line rule) e = refl
all_of w (Whole object) e =
    ap (λ t. cond (t || is_among (class_of object.parts) w.classes)
    (Some (Whole (record { line = object.line; parts = wanted_parts w object.parts }))) None) e
    ∙ ap (λ t. Some (Whole (record { line = object.line; parts = t }))) (all_in w object.parts e)

pub wanted_all : (w : Wanted) (is : List Item) → w.everything ≡ true → wanted w is ≡ is
unfolding wanted
wanted_all w [] e = refl
wanted_all w (i ∷ is) e =
    ap (λ t. cons_option t (wanted w is)) (all_of w i e) ∙ ap (λ t. i ∷ t) (wanted_all w is e)

-- the steps of a loop over lines
pub later_step : (w : Wanted) (left rest : List Numbered) (l : Numbered) (old new : List Item)
    → 1 ≤ length left → l ≡ get_or left 0 l → rest ≡ take (length left - 1) (drop 1 left)
    → is_attribute l.1 ≡ false → new ≡ old ++ (Passed l.0 P02 ∷ [])
    → new ++ wanted w (items rest) ≡ old ++ wanted w (items left)
unfolding items
later_step w left rest l old new some first is unlike put =
    ap (λ t. t ++ wanted w (items rest)) put
    ∙ append_assoc old (Passed l.0 P02 ∷ []) (wanted w (items rest))
    ∙ ap (λ t. old ++ t) (sym (ap (λ t. wanted w (items t)) (later_rest left rest l some first is)
    ∙ ap (λ t. wanted w (cond t (whole l rest ∷ strays rest) (stray l ∷ items rest))) unlike
    ∙ wanted_note w l.0 (items rest)))

pub first_step : (w : Wanted) (left rest : List Numbered) (l : Numbered) (old new : List Item)
    → 1 ≤ length left → l ≡ get_or left 0 l
    → rest ≡ take (length left - 1) (drop 1 left) → is_attribute l.1 ≡ true
    → new ≡ old ++ (wanted w (whole l rest ∷ []) ++ strays rest)
    → new ≡ old ++ wanted w (items left)
unfolding items
first_step w left rest l old new some first is begins put =
    put
    ∙ ap (λ t. old ++ t) (sym (ap (λ t. wanted w (items t)) (later_rest left rest l some first is)
    ∙ ap (λ t. wanted w (cond t (whole l rest ∷ strays rest) (stray l ∷ items rest))) begins
    ∙ wanted_object w (whole l rest) (filter (λ k. is_stray k.1) rest)))

pub last_step : (w : Wanted) (left : List Numbered) (found : List Item) → length left < 1
    → found ≡ found ++ wanted w (items left)
unfolding items wanted
last_step w [] found none = sym (append-nil found)
last_step w (l ∷ ls) found none = absurd (omega arith)
