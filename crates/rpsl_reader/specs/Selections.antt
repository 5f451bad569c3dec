-- Which objects, and which attributes of them, a reader is asked for.
use Rattle.std.specs.Prelude.{◌≡◌, ℕ, All, Bool, false, length, get_or, true, ◌||◌}
use Rattle.std.specs.Prelude.{if◌then◌else◌, List, [], ◌∷◌, filter, filter_map}
use Rattle.std.specs.Prelude.{Option, None, Some}
use Rattle.std.specs.List.{list_any}
use Rattle.geo_terms.specs.PlaceForm.{same_text}
use Rattle.rpsl_reader.specs.declared.item.Attribute.{Attribute}
use Rattle.rpsl_reader.specs.declared.item.Item.{Item}
use Rattle.rpsl_reader.specs.declared.item.Item.TheVariants.{Whole, Passed}

-- all objects as they are, or those of some classes with the attributes of some names;
-- names are in lower case
pub record Wanted : Type 0 where
  pub everything : Bool
  pub classes : List (List ℕ)
  pub names : List (List ℕ)

-- whether a name is one of these
abbrev pub is_among : List ℕ → List (List ℕ) → Bool
is_among name names = list_any (same_text name) names

-- whether the first byte of a text is marked, if it has one
abbrev pub HasFirst : (begins : List Bool) → List ℕ → Type 0
HasFirst begins [] = Unit {0}
HasFirst begins (b ∷ bs) = get_or begins b false ≡ true

-- marks of bytes, among which are the first ones of some texts
abbrev pub HasFirsts : (begins : List Bool) → List (List ℕ) → Type 0
HasFirsts begins names = (length begins ≡ 256) × All (HasFirst begins) names

-- whether objects of a class are handed out
abbrev pub wants_class : Wanted → List ℕ → Bool
wants_class w name = w.everything || is_among name w.classes

-- whether attributes of a name are, behind the first one of an object
abbrev pub wants_name : Wanted → List ℕ → Bool
wants_name w name = w.everything || is_among name w.names

-- the class of an object is the name of its first attribute
abbrev pub class_of : List Attribute → List ℕ
class_of [] = []
class_of (p ∷ ps) = p.name

-- the first attribute, and those of the wanted names behind it
abbrev pub wanted_parts : Wanted → List Attribute → List Attribute
wanted_parts w [] = []
wanted_parts w (p ∷ ps) = p ∷ filter (λ a. wants_name w a.name) ps

-- what is handed out of an item; notes are always
abbrev pub wanted_of : Wanted → Item → Option Item
wanted_of w (Whole object) =
    if wants_class w (class_of object.parts)
    then Some (Whole (record { line = object.line; parts = wanted_parts w object.parts })) else None
wanted_of w (Passed line rule) = Some (Passed line rule)

-- what is handed out of some items
unfoldable pub wanted : Wanted → List Item → List Item
wanted w items = filter_map (wanted_of w) items
