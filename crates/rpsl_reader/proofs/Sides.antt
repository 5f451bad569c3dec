-- The bytes of a name at the head of a line, and what stands behind them.
use Rattle.std.proofs.Common.{◌≡◌, ℕ, suc, ◌+◌, ◌<◌, ◌==◌, Bool, true, false, cond, not, ◌&&◌, List}
use Rattle.std.proofs.Common.{[], ◌∷◌, ◌++◌, length, take, drop, get_or, ◌-◌, ◌≤◌, ◌≢◌, map, IsTrue}
use Rattle.std.proofs.Common.{Option, Some, None, refl, sym, ap, subst, ◌∙◌, arith, nat_le, inl}
use Rattle.std.proofs.Common.{inr}
use Rattle.std.proofs.Common.{add-zero, length-drop, nat_eq, zero}
use Rattle.std.proofs.lemmas.Bool.{cases_lt, le-leb, lt-ltb, ne_eqb, or_parts}
use Rattle.std.proofs.lemmas.Bool.Decides.{nat_tests}
use Rattle.std.proofs.lemmas.List.{get_or-drop, length-take-le, take-append-drop, take_all}
use Rattle.std.proofs.lemmas.List.Sums.{prefix_len-le-length}
use Rattle.std.proofs.lemmas.Option.{none-some}
use Rattle.std.specs.Bool.{⊤}
use Rattle.std.specs.Char.{is_ascii_alphabetic, is_ascii_lowercase, to_ascii_lowercase}
use Rattle.std.specs.List.{list_all, list_any, position, position_or_len}
use Rattle.geo_addr.specs.Prefixes.{cut_first}
use Rattle.rpsl_reader.proofs.Lanes.{ends_at_colon}
use Rattle.rpsl_reader.proofs.Names.{and_left, and_right}
use Rattle.rpsl_reader.specs.declared.limits.TheConstants.{LONGEST_NAME}
use Rattle.rpsl_reader.specs.Attributes.{HasSides, Numbered, behind, continued, continues}
use Rattle.rpsl_reader.specs.Attributes.{is_attribute, is_name, is_name_byte, is_named, joined}
use Rattle.rpsl_reader.specs.Attributes.{may_begin, name_of, said_of, value_of}
use Rattle.rpsl_reader.specs.Selections.{Wanted, wants_name}

-- where the first byte stands that may not stand in a name
abbrev end_of : List ℕ → ℕ
end_of line = position_or_len (λ b. not (is_name_byte b)) line

-- a byte that was not found stands past the end
pub end_past : (line : List ℕ) → None ≡ position (λ b. not (is_name_byte b)) line
    → length line ≡ end_of line
end_past line none =
    elim (cases_lt (end_of line) (length line)) [
      | inl inside ↦
          let at_none = lt-ltb (end_of line) (length line) inside in
          absurd (none-some (end_of line) (rw at_none at none))
      | inr past ↦ omega (arith, past, prefix_len-le-length (λ b. not (not (is_name_byte b))) line)
    ]

-- what does not begin with a byte of a name
abbrev Stops : List ℕ → Type 0
Stops [] = ⊤
Stops (b ∷ bs) = is_name_byte b ≡ false

-- what does not begin with a colon
abbrev Bare : List ℕ → Type 0
Bare [] = ⊤
Bare (b ∷ bs) = (b == 58) ≡ false

-- a line is cut behind the bytes of a name
record IsSplit (line : List ℕ) (n : ℕ) : Type 0 where
  named : list_all is_name_byte (take n line) ≡ true
  stops : Stops (drop n line)

split_of : (line : List ℕ) → IsSplit line (end_of line)
split_of [] = record { named = refl; stops = tt }
split_of (b ∷ bs) =
    let s : IsSplit bs (end_of bs) = split_of bs in
    let by : (t : Bool) → is_name_byte b ≡ t
    → IsSplit (b ∷ bs) (cond (not (not t)) (1 + end_of bs) 0) =
    λ t.
    elim t as (λ t. is_name_byte b ≡ t → IsSplit (b ∷ bs) (cond (not (not t)) (1 + end_of bs) 0)) [
      | true ↦ λ e.
          let one : suc (end_of bs) ≡ 1 + end_of bs = omega arith in
          let longer : IsSplit (b ∷ bs) (suc (end_of bs)) = record {
            named = ap (λ t. t && list_all is_name_byte (take (end_of bs) bs)) e ∙ s.named;
            stops = s.stops;
          } in
          subst (λ (n : ℕ). IsSplit (b ∷ bs) n) one longer
      | false ↦ λ e. record { named = refl; stops = e }
    ] in
    by (is_name_byte b) refl

and_true : (a b : Bool) → b ≡ true → (a && b) ≡ a
and_true true b e = e
and_true false b e = refl

-- a byte of a name is no colon, and a letter is one
no_colon : (b : ℕ) → is_name_byte b ≡ true → (b == 58) ≡ false
no_colon b h = grind (arith, nat_tests)

letter_is : (b : ℕ) → is_ascii_alphabetic b ≡ true → is_name_byte b ≡ true
letter_is b h = grind (arith, nat_tests)

-- the first colon stands behind the bytes of a name
cut_there : (name value : List ℕ) → list_all is_name_byte name ≡ true
    → cut_first 58 (name ++ (58 ∷ value)) ≡ (name, Some value)
cut_there [] value all = refl
cut_there (b ∷ bs) value all =
    rw (
      no_colon b (and_left (is_name_byte b) (list_all is_name_byte bs) all),
      cut_there bs value (and_right (is_name_byte b) (list_all is_name_byte bs) all),
    ) refl

-- bytes of a name make one as far as their first and their number allow
names_are : (name : List ℕ) → list_all is_name_byte name ≡ true → is_name name ≡ may_begin name
names_are [] all = refl
names_are (b ∷ bs) all =
    and_true (is_ascii_alphabetic b && nat_le (length bs) LONGEST_NAME) (list_all is_name_byte bs)
    (and_right (is_name_byte b) (list_all is_name_byte bs) all)

and_false : (b : Bool) → (b && false) ≡ false
and_false true = refl
and_false false = refl

-- whether all before the first colon may stand in a name, if there is one
abbrev all_named : List ℕ × Option (List ℕ) → Bool
all_named (name, None) = false
all_named (name, Some rest) = list_all is_name_byte name

all_put : (b : ℕ) (c : List ℕ × Option (List ℕ)) → all_named c ≡ false
    → all_named (b ∷ c.0, c.1) ≡ false
all_put b (name, None) e = refl
all_put b (name, Some rest) e = ap (λ t. is_name_byte b && t) e ∙ and_false (is_name_byte b)

all_fails : (b : ℕ) (c : List ℕ × Option (List ℕ)) → is_name_byte b ≡ false
    → all_named (b ∷ c.0, c.1) ≡ false
all_fails b (name, None) e = refl
all_fails b (name, Some rest) e = ap (λ t. t && list_all is_name_byte name) e

-- no name stands before the first colon where something else stands behind the bytes of a name
none_named : (name rest : List ℕ) → list_all is_name_byte name ≡ true → Stops rest → Bare rest
    → all_named (cut_first 58 (name ++ rest)) ≡ false
none_named [] [] all stops bare = refl
none_named [] (r ∷ rs) all stops bare = rw bare (all_fails r (cut_first 58 rs) stops)
none_named (b ∷ bs) rest all stops bare =
    rw (no_colon b (and_left (is_name_byte b) (list_all is_name_byte bs) all))
    (all_put b (cut_first 58 (bs ++ rest))
    (none_named bs rest (and_right (is_name_byte b) (list_all is_name_byte bs) all) stops bare))

name_all : (name : List ℕ) → is_name name ≡ true → list_all is_name_byte name ≡ true
name_all [] e = absurd (let f : false ≡ true = e in cc)
name_all (b ∷ bs) e =
    let front : (is_ascii_alphabetic b && nat_le (length bs) LONGEST_NAME) ≡ true =
    and_left (is_ascii_alphabetic b && nat_le (length bs) LONGEST_NAME)
    (list_all is_name_byte bs) e in
    ap (λ t. t && list_all is_name_byte bs)
    (letter_is b (and_left (is_ascii_alphabetic b) (nat_le (length bs) LONGEST_NAME) front))
    ∙ and_right (is_ascii_alphabetic b && nat_le (length bs) LONGEST_NAME)
    (list_all is_name_byte bs) e

named_all : (c : List ℕ × Option (List ℕ)) → is_named c ≡ true → all_named c ≡ true
named_all (name, None) e = e
named_all (name, Some rest) e = name_all name e

none_is : (c : List ℕ × Option (List ℕ)) → all_named c ≡ false → is_named c ≡ false
none_is c e =
    let by : (t : Bool) → is_named c ≡ t → is_named c ≡ false =
    λ t. elim t as (λ t. is_named c ≡ t → is_named c ≡ false) [
      | true ↦ λ h. absurd (let f : true ≡ false = sym (named_all c h) ∙ e in cc)
      | false ↦ λ h. h
    ] in
    by (is_named c) refl

-- a colon behind the bytes of a name
pub has_sides : (line value : List ℕ) → drop (end_of line) line ≡ 58 ∷ value
    → may_begin (take (end_of line) line) ≡ true → HasSides line (take (end_of line) line) value
unfolding is_attribute
has_sides line value colon begins =
    let s : IsSplit line (end_of line) = split_of line in
    let whole : line ≡ take (end_of line) line ++ (58 ∷ value) = sym
    (ap (λ t. take (end_of line) line ++ t) (sym colon) ∙ take-append-drop (end_of line) line) in
    let sides : cut_first 58 line ≡ (take (end_of line) line, Some value) =
    ap (cut_first 58) whole ∙ cut_there (take (end_of line) line) value s.named in
    record {
      begins = ap is_named sides ∙ names_are (take (end_of line) line) s.named ∙ begins;
      sides = sides;
    }

-- a colon behind the bytes of no name
pub no_name : (line value : List ℕ) → drop (end_of line) line ≡ 58 ∷ value
    → may_begin (take (end_of line) line) ≡ false → is_attribute line ≡ false
unfolding is_attribute
no_name line value colon not =
    let s : IsSplit line (end_of line) = split_of line in
    let whole : line ≡ take (end_of line) line ++ (58 ∷ value) = sym
    (ap (λ t. take (end_of line) line ++ t) (sym colon) ∙ take-append-drop (end_of line) line) in
    ap (λ t. is_named (cut_first 58 t)) whole
    ∙ ap is_named (cut_there (take (end_of line) line) value s.named)
    ∙ names_are (take (end_of line) line) s.named ∙ not

-- something else behind them
pub no_sides : (line : List ℕ) → Bare (drop (end_of line) line) → is_attribute line ≡ false
unfolding is_attribute
no_sides line bare =
    let s : IsSplit line (end_of line) = split_of line in
    none_is (cut_first 58 line)
    (ap (λ t. all_named (cut_first 58 t)) (sym (take-append-drop (end_of line) line))
    ∙ none_named (take (end_of line) line) (drop (end_of line) line) s.named s.stops bare)

bare_nil : (rest : List ℕ) → length rest < 1 → Bare rest
bare_nil [] none = tt
bare_nil (r ∷ rs) none = absurd (omega arith)

bare_other : (rest : List ℕ) (d : ℕ) → get_or rest 0 d ≢ 58 → Bare rest
bare_other [] d other = tt
bare_other (r ∷ rs) d other = ne_eqb r 58 other

colon_is : (rest : List ℕ) (d : ℕ) → 1 ≤ length rest → get_or rest 0 d ≡ 58
    → rest ≡ 58 ∷ take (length rest - 1) (drop 1 rest)
colon_is [] d some is = absurd (omega arith)
colon_is (r ∷ rs) d some is = λ i. is i ∷ sym (take_all (length (r ∷ rs) - 1) rs (omega arith)) i

-- the steps of the function that looks for the sides
pub no_rest : (line rest : List ℕ) (n : ℕ) → n ≡ end_of line → rest ≡ drop n line → length rest < 1
    → is_attribute line ≡ false
no_rest line rest n at is none =
    no_sides line (subst Bare (is ∙ ap (λ k. drop k line) at) (bare_nil rest none))

pub other_rest : (line rest : List ℕ) (n d : ℕ) → n ≡ end_of line → rest ≡ drop n line
    → get_or rest 0 d ≢ 58 → is_attribute line ≡ false
other_rest line rest n d at is other =
    no_sides line (subst Bare (is ∙ ap (λ k. drop k line) at) (bare_other rest d other))

pub unnamed_rest : (line name rest : List ℕ) (n d : ℕ) → n ≡ end_of line → name ≡ take n line
    → rest ≡ drop n line → 1 ≤ length rest → get_or rest 0 d ≡ 58 → may_begin name ≡ false
    → is_attribute line ≡ false
unnamed_rest line name rest n d at front is some colon not =
    no_name line (take (length rest - 1) (drop 1 rest))
    (sym (is ∙ ap (λ k. drop k line) at) ∙ colon_is rest d some colon)
    (ap may_begin (sym (front ∙ ap (λ k. take k line) at)) ∙ not)

pub named_rest : (line name rest : List ℕ) (n d : ℕ) → n ≡ end_of line → name ≡ take n line
    → rest ≡ drop n line → 1 ≤ length rest → get_or rest 0 d ≡ 58 → may_begin name ≡ true
    → HasSides line name (take (length rest - 1) (drop 1 rest))
named_rest line name rest n d at front is some colon begins =
    let same : name ≡ take (end_of line) line = front ∙ ap (λ k. take k line) at in
    subst (λ (t : List ℕ). HasSides line t (take (length rest - 1) (drop 1 rest))) (sym same)
    (has_sides line (take (length rest - 1) (drop 1 rest)) (sym (is ∙ ap (λ k. drop k line) at)
    ∙ colon_is rest d some colon) (ap may_begin (sym same) ∙ begins))

letter_of : (b : ℕ) → is_ascii_lowercase b ≡ true → is_ascii_alphabetic b ≡ true
letter_of b h = grind (arith, nat_tests)

-- a letter and up to 15 bytes more may begin a line
plain_begins : (line : List ℕ) (n : ℕ) → n < length line → n ≤ 16 → get_or line n 0 ≡ 58
    → is_ascii_alphabetic (get_or line 0 0) ≡ true → may_begin (take n line) ≡ true
plain_begins [] n inside few colon letter = absurd (omega arith)
plain_begins (b ∷ bs) zero inside few colon letter =
    let f : false ≡ true = grind (arith, nat_tests) in
    absurd cc
plain_begins (b ∷ bs) (suc n) inside few colon letter =
    ap (λ t. t && nat_le (length (take n bs)) LONGEST_NAME) letter
    ∙ le-leb (length (take n bs)) LONGEST_NAME (omega (arith, length-take-le n bs (omega arith)))

-- a line that continues an attribute begins none
pub continues_none : (line : List ℕ) → continues line ≡ true → is_attribute line ≡ false
unfolding is_attribute
continues_none [] h = absurd (let f : false ≡ true = h in cc)
continues_none (b ∷ bs) h =
    let stops : is_name_byte b ≡ false = grind (arith, nat_tests) in
    let bare : (b == 58) ≡ false = grind (arith, nat_tests) in
    none_is (cut_first 58 (b ∷ bs)) (none_named [] (b ∷ bs) refl stops bare)

-- a small letter, then bytes of a name up to a colon
pub plain_line : (line : List ℕ) (n : ℕ) (small : Bool) → n < length line → n ≤ 16
    → ((k : ℕ) → k < n → is_name_byte (get_or line k 0) ≡ true)
    → nat_eq (get_or line n 0) 58 ≡ true → small ≡ is_ascii_lowercase (get_or line 0 0)
    → small ≡ true → is_attribute line ≡ true
plain_line line n small inside few named colon is low =
    let stop : get_or line n 0 ≡ 58 = grind (arith, nat_tests) in
    let letter : is_ascii_alphabetic (get_or line 0 0) ≡ true =
    letter_of (get_or line 0 0) (sym is ∙ low) in
    (named_rest line (take n line) (drop n line) n 0 (ends_at_colon line n inside named stop) refl
    refl (omega (arith, length-drop n line))
    (get_or-drop n line 0 0 ∙ ap (λ i. get_or line i 0) (add-zero n) ∙ stop)
    (plain_begins line n inside few stop letter)).begins

-- the name that a line begins with begins with its first letter
pub passed_name : (w : Wanted) (line : List ℕ) → 1 ≤ length line
    → is_ascii_lowercase (get_or line 0 0) ≡ true
    → ((rest : List ℕ) → wants_name w (get_or line 0 0 ∷ rest) ≡ false)
    → wants_name w (name_of line) ≡ false
passed_name w [] some small lacks = absurd (omega arith)
passed_name w (b ∷ bs) some small lacks =
    let other : (b == 58) ≡ false = grind (arith, nat_tests) in
    let lower : to_ascii_lowercase b ≡ b = grind (arith, nat_tests) in
    let cut : Bool → List ℕ × Option (List ℕ) =
    λ t. cond t ([], Some bs) (b ∷ (cut_first 58 bs).0, (cut_first 58 bs).1) in
    ap (λ t. wants_name w (map to_ascii_lowercase (cut t).0)) other
    ∙ ap (λ k. wants_name w (k ∷ map to_ascii_lowercase (cut_first 58 bs).0)) lower
    ∙ lacks (map to_ascii_lowercase (cut_first 58 bs).0)

-- what the sides of a line say of it: its name is one, and they are those of its attribute
pub sides_named : (line name value : List ℕ) → HasSides line name value → IsTrue (is_name name)
unfolding is_attribute
sides_named line name value h = ap is_named (sym h.sides) ∙ h.begins

pub sides_name : (line name value : List ℕ) → HasSides line name value
    → name_of line ≡ map to_ascii_lowercase name
sides_name line name value h = ap (λ c. map to_ascii_lowercase c.0) h.sides

pub sides_value : (line name value : List ℕ) (ls : List Numbered) → HasSides line name value
    → value_of line ls ≡ continued (said_of value) ls
sides_value line name value ls h = ap (λ c. continued (said_of (behind c)) ls) h.sides

-- a round of a loop over lines
pub later_rest : (left rest : List Numbered) (l : Numbered) → 1 ≤ length left → l ≡ get_or left 0 l
    → rest ≡ take (length left - 1) (drop 1 left) → left ≡ l ∷ rest
later_rest [] rest l some first is = absurd (omega arith)
later_rest (m ∷ ms) rest l some first is =
    λ i. sym first i ∷ (sym (take_all (length (m ∷ ms) - 1) ms (omega arith)) ∙ sym is) i

-- a value goes on with the next line
pub continued_step : (value new : List ℕ) (left rest : List Numbered) (l : Numbered)
    → 1 ≤ length left → l ≡ get_or left 0 l → rest ≡ take (length left - 1) (drop 1 left)
    → continues l.1 ≡ true → new ≡ joined value (said_of (drop 1 l.1))
    → continued new rest ≡ continued value left
unfolding continued
continued_step value new left rest l some first is goes put =
    let more : List ℕ = continued (joined value (said_of (drop 1 l.1))) rest in
    ap (λ t. continued t rest) put
    ∙ sym (ap (continued value) (later_rest left rest l some first is)
    ∙ ap (λ t. cond t value (cond (continues l.1) more (continued value rest)))
    (continues_none l.1 goes)
    ∙ ap (λ t. cond t more (continued value rest)) goes)

-- what has no `#` is all before it
pub hash_free : (text : List ℕ) → list_any (λ b. b == 35) text ≡ false
    → (cut_first 35 text).0 ≡ text
hash_free [] e = refl
hash_free (b ∷ bs) e =
    let parts : ((b == 35) ≡ false) × (list_any (λ b. b == 35) bs ≡ false) =
    or_parts (b == 35) (list_any (λ b. b == 35) bs) e in
    let cut : Bool → List ℕ × Option (List ℕ) =
    λ t. cond t ([], Some bs) (b ∷ (cut_first 35 bs).0, (cut_first 35 bs).1) in
    ap (λ t. (cut t).0) parts.0 ∙ ap (λ t. b ∷ t) (hash_free bs parts.1)
