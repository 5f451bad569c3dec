-- No metadata that the writer writes holds the marker, whatever its numbers and its text.
use Rattle.std.proofs.Common.{◌≡◌, ℕ, suc, ◌+◌, ◌<◌, ◌≤◌, ◌==◌, ◌&&◌, not, Bool, true, false, List}
use Rattle.std.proofs.Common.{[], ◌∷◌, ◌++◌, length, Option, Some, None, refl, ap, arith, zero-add}
use Rattle.mmdb_file.specs.Marker.{marker, begins, later_or, last_marker}

pub not_both : (a b : Bool) → b ≡ false → (a && b) ≡ false
not_both true b h = h
not_both false b h = refl

not_first : (a b : Bool) → a ≡ false → (a && b) ≡ false
not_first a b h = rw h refl

first_not : (a b : Bool) → (not a && b) ≡ true → a ≡ false
first_not true b h = cc
first_not false b h = refl

second_of : (a b : Bool) → (a && b) ≡ true → b ≡ true
second_of true b h = h
second_of false b h = cc

not_pair : (a b c : Bool) → (a && b) ≡ false → (a && (b && c)) ≡ false
not_pair true b c h = not_first b c h
not_pair false b c h = refl

-- no byte of ms is c
abbrev pub lacks : ℕ → List ℕ → Bool
lacks c [] = true
lacks c (m ∷ ms) = not (m == c) && lacks c ms

-- no two neighbours in ms are c and d
abbrev pub lacks_pair : ℕ → ℕ → List ℕ → Bool
lacks_pair c d [] = true
lacks_pair c d (m ∷ []) = true
lacks_pair c d (m ∷ n ∷ ms) = not (m == c && n == d) && lacks_pair c d (n ∷ ms)

-- no byte of x is the marker's first
abbrev pub plain : List ℕ → Bool
plain [] = true
plain (b ∷ x) = not (171 == b) && plain x

-- no two neighbours in x are the marker's second and third byte
abbrev pub parted : List ℕ → Bool
parted [] = true
parted (b ∷ []) = true
parted (b ∷ c ∷ x) = not (205 == b && 239 == c) && parted (c ∷ x)

pub lacking : (ms x : List ℕ) (c : ℕ) (y : List ℕ) → length x < length ms → lacks c ms ≡ true
    → begins ms (x ++ c ∷ y) ≡ false
lacking [] x c y short none = absurd (omega arith)
lacking (m ∷ ms) [] c y short none =
    not_first (m == c) (begins ms y) (first_not (m == c) (lacks c ms) none)
lacking (m ∷ ms) (b ∷ x) c y short none =
    not_both (m == b) (begins ms (x ++ c ∷ y))
    (lacking ms x c y (omega arith) (second_of (not (m == c)) (lacks c ms) none))

pub lacking_pair : (ms x : List ℕ) (c d : ℕ) (y : List ℕ) → suc (length x) < length ms
    → lacks_pair c d ms ≡ true → begins ms (x ++ c ∷ d ∷ y) ≡ false
lacking_pair [] x c d y short none = absurd (omega arith)
lacking_pair (m ∷ []) x c d y short none = absurd (omega arith)
lacking_pair (m ∷ n ∷ ms) [] c d y short none =
    not_pair (m == c) (n == d) (begins ms y)
    (first_not (m == c && n == d) (lacks_pair c d (n ∷ ms)) none)
lacking_pair (m ∷ n ∷ ms) (b ∷ x) c d y short none =
    not_both (m == b) (begins (n ∷ ms) (x ++ c ∷ d ∷ y)) (lacking_pair (n ∷ ms) x c d y
    (omega arith) (second_of (not (m == c && n == d)) (lacks_pair c d (n ∷ ms)) none))

-- a byte that begins no marker, before bytes that hold none
one_more : (b : ℕ) (y : List ℕ) → begins marker (b ∷ y) ≡ false → last_marker y ≡ None
    → last_marker (b ∷ y) ≡ None
one_more b y here later = rw (here, later) refl

below_fourteen : (z : List ℕ) → length z ≤ 13 → length z < length marker
unfolding marker
below_fourteen z h = omega arith

below_thirteen : (z : List ℕ) → length z ≤ 12 → suc (length z) < length marker
unfolding marker
below_thirteen z h = omega arith

-- at most 13 bytes, then a byte that the marker lacks
pub short_then : (x : List ℕ) (c : ℕ) (y : List ℕ) → length x ≤ 13 → lacks c marker ≡ true
    → last_marker (c ∷ y) ≡ None → last_marker (x ++ c ∷ y) ≡ None
short_then [] c y short none later = later
short_then (b ∷ x) c y short none later =
    one_more b (x ++ c ∷ y) (lacking marker (b ∷ x) c y (below_fourteen (b ∷ x) short) none)
    (short_then x c y (omega arith) none later)

-- at most 12 bytes, then two that are no neighbours in the marker
pub short_then_pair : (x : List ℕ) (c d : ℕ) (y : List ℕ)
    → length x ≤ 12 → lacks_pair c d marker ≡ true → last_marker (c ∷ d ∷ y) ≡ None
    → last_marker (x ++ c ∷ d ∷ y) ≡ None
short_then_pair [] c d y short none later = later
short_then_pair (b ∷ x) c d y short none later =
    one_more b (x ++ c ∷ d ∷ y) (lacking_pair marker (b ∷ x) c d y
    (below_thirteen (b ∷ x) short) none) (short_then_pair x c d y (omega arith) none later)

first_byte : (b : ℕ) (z : List ℕ) → (171 == b) ≡ false → begins marker (b ∷ z) ≡ false
unfolding marker
first_byte b z h = not_first (171 == b) _ h

pub plain_then : (x y : List ℕ) → plain x ≡ true → last_marker y ≡ None
    → last_marker (x ++ y) ≡ None
plain_then [] y none later = later
plain_then (b ∷ x) y none later =
    one_more b (x ++ y) (first_byte b (x ++ y) (first_not (171 == b) (plain x) none))
    (plain_then x y (second_of (not (171 == b)) (plain x) none) later)

-- the marker needs 205 and 239 behind its first byte
needs_pair : (b c d : ℕ) (z : List ℕ) → (205 == c && 239 == d) ≡ false
    → begins marker (b ∷ c ∷ d ∷ z) ≡ false
unfolding marker
needs_pair b c d z h = not_both (171 == b) _ (not_pair (205 == c) (239 == d) _ h)

needs_second : (b c : ℕ) (z : List ℕ) → (205 == c) ≡ false → begins marker (b ∷ c ∷ z) ≡ false
unfolding marker
needs_second b c z h = not_both (171 == b) _ (not_first (205 == c) _ h)

-- a text whose bytes 205 and 239 are parted, then a byte that is neither
pub parted_then : (x : List ℕ) (c : ℕ) (y : List ℕ) → parted x ≡ true → (205 == c) ≡ false
    → (239 == c) ≡ false → last_marker (c ∷ y) ≡ None → last_marker (x ++ c ∷ y) ≡ None
parted_then [] c y apart not_second not_third later = later
parted_then (b ∷ []) c y apart not_second not_third later =
    one_more b (c ∷ y) (needs_second b c y not_second) later
parted_then (b ∷ d ∷ []) c y apart not_second not_third later =
    one_more b (d ∷ c ∷ y) (needs_pair b d c y (not_both (205 == d) (239 == c) not_third))
    (parted_then (d ∷ []) c y refl not_second not_third later)
parted_then (b ∷ d ∷ e ∷ x) c y apart not_second not_third later =
    let rest = second_of (not (205 == b && 239 == d)) (parted (d ∷ e ∷ x)) apart in
    one_more b (d ∷ e ∷ (x ++ c ∷ y))
    (needs_pair b d e (x ++ c ∷ y) (first_not (205 == d && 239 == e) (parted (e ∷ x)) rest))
    (parted_then (d ∷ e ∷ x) c y rest not_second not_third later)

-- a later marker is the last one
pub behind : (x y : List ℕ) (n : ℕ) → last_marker y ≡ Some n
    → last_marker (x ++ y) ≡ Some (length x + n)
behind [] y n found = rw zero-add found
behind (b ∷ x) y n found = rw (behind x y n found) (ap Some (omega arith))

-- a marker before bytes that hold none
pub marker_then : (y : List ℕ) → last_marker y ≡ None → last_marker (marker ++ y) ≡ Some 0
unfolding marker
marker_then y none =
    let rest : last_marker
    (205 ∷ 239 ∷ 77 ∷ 97 ∷ 120 ∷ 77 ∷ 105 ∷ 110 ∷ 100 ∷ 46 ∷ 99 ∷ 111 ∷ 109 ∷ y) ≡ None =
    plain_then (205 ∷ 239 ∷ 77 ∷ 97 ∷ 120 ∷ 77 ∷ 105 ∷ 110 ∷ 100 ∷ 46 ∷ 99 ∷ 111 ∷ 109 ∷ []) y
    refl none in
    ap (λ (later : Option ℕ). later_or later true) rest
