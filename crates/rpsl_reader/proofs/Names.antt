-- A name is ASCII, so it is a text; and a name that is found is the one that was sought.
use Rattle.std.proofs.Common.{◌≡◌, ℕ, ◌<◌, Bool, true, false, ◌&&◌, List, [], ◌∷◌, length, IsTrue}
use Rattle.std.proofs.Common.{suc, ap, sym, ◌∙◌, map, refl, arith, nat_eq, nat_le}
use Rattle.std.proofs.Common.{◌≤◌, ◌||◌, All, get_or, not}
use Rattle.std.proofs.lemmas.List.Elements.{All-head, All-tail}
use Rattle.std.proofs.lemmas.Bool.Decides.{nat_tests}
use Rattle.std.proofs.lemmas.Str.{IsUtf8-from_ascii}
use Rattle.std.proofs.lemmas.Str.Ascii.{IsAscii-cons, IsAscii-nil}
use Rattle.std.proofs.lemmas.List.{length-map}
use Rattle.std.specs.Char.{is_ascii_alphabetic, to_ascii_lowercase}
use Rattle.std.specs.List.{list_all}
use Rattle.std.specs.Str.{IsAscii, IsUtf8}
use Rattle.geo_terms.specs.PlaceForm.{same_text}
use Rattle.rpsl_reader.specs.declared.limits.TheConstants.{LONGEST_NAME}
use Rattle.rpsl_reader.specs.Attributes.{is_name, is_name_byte}
use Rattle.rpsl_reader.specs.Selections.{HasFirst, Wanted, is_among, wants_name}

pub and_left : (a b : Bool) → (a && b) ≡ true → a ≡ true
and_left true b e = refl
and_left false b e = absurd (let f : false ≡ true = e in cc)

and_false : (a : Bool) → (a && false) ≡ false
and_false true = refl
and_false false = refl

pub and_right : (a b : Bool) → (a && b) ≡ true → b ≡ true
and_right true b e = e
and_right false b e = absurd (let f : false ≡ true = e in cc)

byte_is_ascii : (b : ℕ) → is_name_byte b ≡ true → b < 128
byte_is_ascii b h = grind (arith, nat_tests)

letter_is_ascii : (b : ℕ) → is_ascii_alphabetic b ≡ true → b < 128
letter_is_ascii b h = grind (arith, nat_tests)

bytes_are_ascii : (bs : List ℕ) → list_all is_name_byte bs ≡ true → IsAscii bs
bytes_are_ascii [] h = IsAscii-nil
bytes_are_ascii (b ∷ bs) h =
    IsAscii-cons b bs (byte_is_ascii b (and_left (is_name_byte b) (list_all is_name_byte bs) h))
    (bytes_are_ascii bs (and_right (is_name_byte b) (list_all is_name_byte bs) h))

pub name_is_text : (name : List ℕ) → IsTrue (is_name name) → IsUtf8 name
name_is_text [] h = IsUtf8-from_ascii [] IsAscii-nil
name_is_text (b ∷ bs) h =
    let front : (is_ascii_alphabetic b && nat_le (length bs) LONGEST_NAME) ≡ true =
    and_left (is_ascii_alphabetic b && nat_le (length bs) LONGEST_NAME)
    (list_all is_name_byte bs) h in
    IsUtf8-from_ascii (b ∷ bs) (IsAscii-cons b bs
    (letter_is_ascii b (and_left (is_ascii_alphabetic b) (nat_le (length bs) LONGEST_NAME) front))
    (bytes_are_ascii bs
    (and_right (is_ascii_alphabetic b && nat_le (length bs) LONGEST_NAME)
    (list_all is_name_byte bs) h)))

pub same_is : (xs ys : List ℕ) → same_text xs ys ≡ true → xs ≡ ys
same_is [] [] e = refl
same_is [] (y ∷ ys) e = absurd (let f : false ≡ true = e in cc)
same_is (x ∷ xs) [] e = absurd (let f : false ≡ true = e in cc)
same_is (x ∷ xs) (y ∷ ys) e =
    let h : nat_eq x y ≡ true = and_left (nat_eq x y) (same_text xs ys) e in
    let first : x ≡ y = grind (arith, nat_tests) in
    λ i. first i ∷ same_is xs ys (and_right (nat_eq x y) (same_text xs ys) e) i

-- texts of unlike lengths differ
unlike : (xs ys : List ℕ) → (length xs ≡ length ys → ⊥) → same_text xs ys ≡ false
unlike [] [] h = absurd (h refl)
unlike [] (y ∷ ys) h = refl
unlike (x ∷ xs) [] h = refl
unlike (x ∷ xs) (y ∷ ys) h =
    let rest : same_text xs ys ≡ false = unlike xs ys (λ e. h (ap suc e)) in
    ap (λ t. nat_eq x y && t) rest ∙ and_false (nat_eq x y)

pub unlike_lower : (name text : List ℕ) → (length name ≡ length text → ⊥)
    → same_text (map to_ascii_lowercase name) text ≡ false
unlike_lower name text h =
    unlike (map to_ascii_lowercase name) text
    (λ e. h (sym (length-map name to_ascii_lowercase) ∙ e))

-- letters with different marks differ
apart : (x y : ℕ) (begins : List Bool) (same : Bool) → nat_eq x y ≡ same
    → get_or begins y false ≡ true → get_or begins x false ≡ false → nat_eq x y ≡ false
apart x y begins false e marked unmarked = e
apart x y begins true e marked unmarked =
    let is : x ≡ y = grind (arith, nat_tests) in
    let f : true ≡ false = sym marked ∙ ap (λ i. get_or begins i false) (sym is) ∙ unmarked in
    absurd cc

-- a text that begins with a byte without a mark is none of the texts whose first bytes are marked
other_text : (x : ℕ) (xs text : List ℕ) (begins : List Bool) → HasFirst begins text
    → get_or begins x false ≡ false → same_text (x ∷ xs) text ≡ false
other_text x xs [] begins marked unmarked = refl
other_text x xs (y ∷ ys) begins marked unmarked =
    ap (λ t. t && same_text xs ys) (apart x y begins (nat_eq x y) refl marked unmarked)

not_among : (x : ℕ) (xs : List ℕ) (names : List (List ℕ)) (begins : List Bool)
    → All (HasFirst begins) names → get_or begins x false ≡ false
    → is_among (x ∷ xs) names ≡ false
not_among x xs [] begins marked unmarked = refl
not_among x xs (n ∷ ns) begins marked unmarked =
    ap (λ t. t || is_among (x ∷ xs) ns)
    (other_text x xs n begins (All-head (HasFirst begins) n ns marked) unmarked)
    ∙ not_among x xs ns begins (All-tail (HasFirst begins) n ns marked) unmarked

pub unwanted : (name : List ℕ) (names : List (List ℕ)) (begins : List Bool) → 1 ≤ length name
    → All (HasFirst begins) names
    → get_or begins (to_ascii_lowercase (get_or name 0 0)) false ≡ false
    → is_among (map to_ascii_lowercase name) names ≡ false
unwanted [] names begins long marked unmarked = absurd (omega arith)
unwanted (b ∷ bs) names begins long marked unmarked =
    not_among (to_ascii_lowercase b) (map to_ascii_lowercase bs) names begins marked unmarked

other_than : (t : Bool) → not t ≡ true → t ≡ false
other_than true e = absurd (let f : false ≡ true = e in cc)
other_than false e = refl

-- nothing that begins with such a byte is wanted where not all is
pub lacking : (w : Wanted) (first i : ℕ) (begins : List Bool) → w.everything ≡ false
    → All (HasFirst begins) w.names → i ≡ first → not (get_or begins i false) ≡ true
    → (rest : List ℕ) → wants_name w (first ∷ rest) ≡ false
lacking w first i begins some marked is unmarked rest =
    ap (λ t. t || is_among (first ∷ rest) w.names) some
    ∙ not_among first rest w.names begins marked
    (ap (λ k. get_or begins k false) (sym is) ∙ other_than (get_or begins i false) unmarked)
