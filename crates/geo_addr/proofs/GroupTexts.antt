-- The text of an IPv6 address reads back as its groups.
use Rattle.std.proofs.Common.{◌≡◌, ℕ, zero, suc, ◌+◌, ◌-◌, ◌/◌, ◌%◌, ◌^◌, ◌<◌, ◌≤◌, ◌==◌, Bool}
use Rattle.std.proofs.Common.{true, false, nat_le, eqb, List, [], ◌∷◌, ◌++◌, length, take, drop}
use Rattle.std.proofs.Common.{map, flat_map, Option, None, Some, Ok, All, refl, sym, ap, ◌∙◌, arith}
use Rattle.std.proofs.Common.{inl, inr, add-zero, append_assoc, append-nil, length-append}
use Rattle.std.proofs.Common.{length-drop, take-append-drop, length-take-le}
use Rattle.std.specs.Option.{option_map}
use Rattle.std.specs.List.{list_any, list_all}
use Rattle.std.specs.Char.{is_digit}
use Rattle.std.specs.Str.Parse.{digits_value}
use Rattle.std.specs.Int.Digits.{number_from_digits_after, AllBelowBase}
use Rattle.std.specs.Net.Grammar.{IsGroup}
use Rattle.std.specs.Net.Text.{hex, groups_text, longest_zero_run, hex_groups_text}
use Rattle.std.proofs.lemmas.Bool.{cases_lt, and_parts, or_right, ne_eqb, eqb-false, le-leb, lt-leb}
use Rattle.std.proofs.lemmas.Bool.{lt-ltb, le-ltb, false≢true}
use Rattle.std.proofs.lemmas.Str.{digit_value-digit_char}
use Rattle.std.proofs.lemmas.List.Splits.{slice_split_at}
use Rattle.std.proofs.lemmas.List.Folds.{list_any-append}
use Rattle.std.proofs.Math.Nat.{pow-suc}
use Rattle.std.proofs.Math.Seq.{take-add, take-append_seam, drop-append-add}
use Rattle.std.proofs.NetLemmas.Texts.{IsZeroRun-longest_zero_run}
use Rattle.geo_addr.specs.Lines.{pieces}
use Rattle.geo_addr.specs.AddressTexts.{is_six}
use Rattle.geo_addr.specs.Ipv6Texts.{is_group, has_bad_octet, are_members, groups_of, members}
use Rattle.geo_addr.specs.Ipv6Texts.{is_list, groups_in, any_bad_octet, groups_number, double_at}
use Rattle.geo_addr.specs.Ipv6Texts.{whole_address, elided_address, ipv6_in, filled}
use Rattle.geo_addr.specs.Printing.{groups_before, eight_groups, text6}
use Rattle.geo_addr.proofs.GroupLemmas.{is_group-read}
use Rattle.geo_addr.proofs.PartLemmas.{not_separator, pieces_all}
use Rattle.geo_addr.proofs.SideLemmas.{group_not_bad, groups_of-group, members-some}

-- one group's digits: those of the number, without the zeros in front
IsGroup-hex : (n : ℕ) → n < 65536 → IsGroup (hex n) n
unfolding hex
IsGroup-hex n fits =
    let a = digit_value-digit_char (n / 0x1000) (omega arith) in
    let b = digit_value-digit_char (n / 0x100 % 16) (omega arith) in
    let c = digit_value-digit_char (n / 0x10 % 16) (omega arith) in
    let d = digit_value-digit_char (n % 16) (omega arith) in
    elim (cases_lt n 0x1000) [
      | inr four ↦ rw (le-leb _ n four) (omega arith)
      | inl h₃ ↦ elim (cases_lt n 0x100) [
        | inr three ↦ rw (lt-leb _ n h₃, le-leb _ n three) (omega arith)
        | inl h₂ ↦ elim (cases_lt n 0x10) [
          | inr two ↦ rw (lt-leb _ n h₃, lt-leb _ n h₂, le-leb _ n two) (omega arith)
          | inl h₁ ↦ rw (lt-leb _ n h₃, lt-leb _ n h₂, lt-leb _ n h₁) (omega arith)
        ]
      ]
    ]

is_group-hex : (n : ℕ) → n < 65536 → is_group (hex n) ≡ true
is_group-hex n fits =
    let g = IsGroup-hex n fits in
    is_group-read (hex n) (digits_value 16 (hex n)) g.0.0.0 g.1
    (record { are_digits = g.0.0.1; value_is = refl })

digits_value-hex : (n : ℕ) → n < 65536 → digits_value 16 (hex n) ≡ n
digits_value-hex n fits = (IsGroup-hex n fits).0.1

-- a group has no colon
colon_free : (part : List ℕ) → is_group part ≡ true → All (λ b. eqb b 58 ≡ false) part
unfolding is_group
colon_free part group =
    let digits = (and_parts _ (list_all (λ b. is_digit b 16) part) group).1 in
    not_separator (λ b. is_digit b 16) 58 part refl digits

group_some : (part : List ℕ) → is_group part ≡ true → 0 < length part
unfolding is_group
group_some [] group = absurd (false≢true group)
group_some (b ∷ bs) group = omega arith

-- groups behind a colon each, and then the end
abbrev pub more : List ℕ → List ℕ → List ℕ
more [] end = end
more (g ∷ gs) end = 58 ∷ (hex g ++ more gs end)

flat_more : (gs end : List ℕ) → flat_map (λ g. 58 ∷ hex g) gs ++ end ≡ more gs end
flat_more [] end = refl
flat_more (g ∷ gs) end =
    ap (λ t. 58 ∷ t) (append_assoc (hex g) (flat_map (λ g. 58 ∷ hex g) gs) end
    ∙ ap (λ t. hex g ++ t) (flat_more gs end))

group_piece : (part : List ℕ) → is_group part ≡ true → pieces 58 part ≡ part ∷ []
unfolding is_group
group_piece part group =
    pieces_all (λ b. is_digit b 16) 58 part refl
    (and_parts _ (list_all (λ b. is_digit b 16) part) group).1

-- the pieces of groups with colons between them are these groups
pieces_more : (part gs : List ℕ) → is_group part ≡ true → AllBelowBase 65536 gs
    → pieces 58 (part ++ more gs []) ≡ part ∷ map hex gs
pieces_more part [] group fit = rw append-nil (group_piece part group)
pieces_more part (g ∷ gs) group fit =
    slice_split_at (λ b. eqb b 58) part 58 (hex g ++ more gs []) (colon_free part group) refl
    ∙ ap (λ parts. part ∷ parts) (pieces_more (hex g) gs (is_group-hex g fit.0) fit.1)

-- the text of groups: the first, and the others behind a colon each
groups_text-more : (g : ℕ) (gs end : List ℕ) → groups_text (g ∷ gs) ++ end ≡ hex g ++ more gs end
groups_text-more g gs end =
    append_assoc (hex g) (flat_map (λ g. 58 ∷ hex g) gs) end
    ∙ ap (λ t. hex g ++ t) (flat_more gs end)

groups_text-is : (g : ℕ) (gs : List ℕ) → groups_text (g ∷ gs) ≡ hex g ++ more gs []
groups_text-is g gs = sym (append-nil (groups_text (g ∷ gs))) ∙ groups_text-more g gs []

some_text : (part rest : List ℕ) → 0 < length part → false ≡ (length (part ++ rest) == 0)
some_text [] rest some = absurd (omega arith)
some_text (b ∷ bs) rest some = sym (ne_eqb _ 0 (λ e. absurd (omega arith)))

-- the members of the text of groups are these groups
members-groups_text : (gs : List ℕ) → AllBelowBase 65536 gs → members (groups_text gs) ≡ map hex gs
members-groups_text [] fit = refl
members-groups_text (g ∷ gs) fit =
    ap members (groups_text-is g gs)
    ∙ members-some (hex g ++ more gs [])
    (some_text (hex g) (more gs []) (group_some (hex g) (is_group-hex g fit.0)))
    ∙ pieces_more (hex g) gs (is_group-hex g fit.0) fit.1

are_members-hex : (dots : Bool) (gs : List ℕ) → AllBelowBase 65536 gs
    → are_members dots (map hex gs) ≡ true
are_members-hex dots [] fit = refl
are_members-hex dots (g ∷ []) fit = rw (is_group-hex g fit.0) refl
are_members-hex dots (g ∷ h ∷ gs) fit =
    rw (is_group-hex g fit.0) (are_members-hex dots (h ∷ gs) fit.1)

groups_of-hex : (gs : List ℕ) → AllBelowBase 65536 gs → flat_map groups_of (map hex gs) ≡ gs
groups_of-hex [] fit = refl
groups_of-hex (g ∷ gs) fit = rw (
  groups_of-group (hex g) (is_group-hex g fit.0),
  digits_value-hex g fit.0,
) (ap (λ t. g ∷ t) (groups_of-hex gs fit.1))

no_bad_hex : (gs : List ℕ) → AllBelowBase 65536 gs → list_any has_bad_octet (map hex gs) ≡ false
no_bad_hex [] fit = refl
no_bad_hex (g ∷ gs) fit = rw (group_not_bad (hex g) (is_group-hex g fit.0)) (no_bad_hex gs fit.1)

-- the text of groups reads back as a list of these groups
is_list-groups_text : (dots : Bool) (gs : List ℕ) → AllBelowBase 65536 gs
    → is_list dots (groups_text gs) ≡ true
is_list-groups_text dots gs fit =
    ap (are_members dots) (members-groups_text gs fit) ∙ are_members-hex dots gs fit

groups_in-groups_text : (gs : List ℕ) → AllBelowBase 65536 gs → groups_in (groups_text gs) ≡ gs
groups_in-groups_text gs fit =
    ap (flat_map groups_of) (members-groups_text gs fit) ∙ groups_of-hex gs fit

no_bad-groups_text : (gs : List ℕ) → AllBelowBase 65536 gs → any_bad_octet (groups_text gs) ≡ false
no_bad-groups_text gs fit =
    ap (list_any has_bad_octet) (members-groups_text gs fit) ∙ no_bad_hex gs fit

other_way : (a b : ℕ) → eqb a b ≡ false → eqb b a ≡ false
other_way a b differ = ne_eqb b a (λ e. eqb-false a b differ (sym e))

-- `::` stands in no text without a colon, nor behind a colon with a group behind it
double_past_free : (part end : List ℕ) → All (λ b. eqb b 58 ≡ false) part
    → double_at (part ++ end) ≡ option_map (λ k. length part + k) (double_at end)
double_past_free [] end free = same (double_at end)
  where
    same : (o : Option ℕ) → o ≡ option_map (λ k. 0 + k) o
    same None = refl
    same (Some k) = ap Some (omega arith)
double_past_free (b ∷ bs) end free =
    rw (other_way b 58 (free 0 0 (omega arith)))
    (ap (option_map suc) (double_past_free bs end (λ k d l. free (suc k) d (omega arith)))
    ∙ one_more (double_at end))
  where
    one_more : (o : Option ℕ) → option_map suc (option_map (λ k. length bs + k) o)
        ≡ option_map (λ k. suc (length bs) + k) o
    one_more None = refl
    one_more (Some k) = ap Some (omega arith)

double_past_colon : (part end : List ℕ) → is_group part ≡ true
    → double_at (58 ∷ (part ++ end)) ≡ option_map suc (double_at (part ++ end))
double_past_colon [] end group = absurd (omega (arith, group_some [] group))
double_past_colon (b ∷ bs) end group =
    rw (other_way b 58 (colon_free (b ∷ bs) group 0 0 (omega arith))) refl

moved_on : (a n m : ℕ) (o : Option ℕ) → m ≡ a + suc n → option_map (λ k. a + k)
    (option_map suc (option_map (λ k. n + k) o)) ≡ option_map (λ k. m + k) o
moved_on a n m None is = refl
moved_on a n m (Some k) is = ap Some (omega arith)

-- the first `::` behind groups is the first of what follows them
double_past_more : (part gs end : List ℕ) → is_group part ≡ true → AllBelowBase 65536 gs → double_at
    (part ++ more gs end) ≡ option_map (λ k. length (part ++ more gs []) + k) (double_at end)
double_past_more part [] end group fit =
    rw append-nil (double_past_free part end (colon_free part group))
double_past_more part (g ∷ gs) end group fit =
    let is = is_group-hex g fit.0 in
    double_past_free part (58 ∷ (hex g ++ more gs end)) (colon_free part group)
    ∙ ap (option_map (λ k. length part + k)) (double_past_colon (hex g) (more gs end) is
    ∙ ap (option_map suc) (double_past_more (hex g) gs end is fit.1))
    ∙ moved_on (length part) (length (hex g ++ more gs [])) _ (double_at end)
    (length-append part (58 ∷ (hex g ++ more gs [])))

-- the first `::` behind the text of groups
double_at-groups_text : (gs end : List ℕ) → AllBelowBase 65536 gs → double_at
    (groups_text gs ++ end) ≡ option_map (λ k. length (groups_text gs) + k) (double_at end)
double_at-groups_text [] end fit = double_past_free [] end (λ k d l. absurd (omega arith))
double_at-groups_text (g ∷ gs) end fit =
    ap double_at (groups_text-more g gs end)
    ∙ double_past_more (hex g) gs end (is_group-hex g fit.0) fit.1
    ∙ ap (λ t. option_map (λ k. length t + k) (double_at end)) (sym (groups_text-is g gs))

-- eight groups without `::` spell their number
whole_text : (gs : List ℕ) → length gs ≡ 8 → AllBelowBase 65536 gs
    → ipv6_in (groups_text gs) ≡ Ok (groups_number gs)
unfolding whole_address
whole_text gs eight fit =
    let none : double_at (groups_text gs) ≡ None =
    ap double_at (sym (append-nil (groups_text gs))) ∙ double_at-groups_text gs [] fit in
    rw (
      none,
      is_list-groups_text true gs fit,
      no_bad-groups_text gs fit,
      groups_in-groups_text gs fit,
      eight,
    ) refl

-- two lists of groups with `::` between them spell the number of eight groups
pub elided_text : (left right : List ℕ) → length left + length right ≤ 7 → AllBelowBase 65536 left
    → AllBelowBase 65536 right → ipv6_in (groups_text left ++ (58 ∷ 58 ∷ groups_text right))
    ≡ Ok (groups_number (filled left right))
unfolding elided_address
elided_text left right few fit_left fit_right =
    let at = double_at-groups_text left (58 ∷ 58 ∷ groups_text right) fit_left in
    let before : take (length (groups_text left) + 0)
    (groups_text left ++ (58 ∷ 58 ∷ groups_text right)) ≡ groups_text left =
    rw add-zero (take-append_seam (groups_text left) (58 ∷ 58 ∷ groups_text right)) in
    let after : drop (length (groups_text left) + 0 + 2)
    (groups_text left ++ (58 ∷ 58 ∷ groups_text right)) ≡ groups_text right =
    rw add-zero (drop-append-add (groups_text left) (58 ∷ 58 ∷ groups_text right) 2) in
    let count : nat_le (length left + length right) 7 ≡ true = le-leb _ _ few in
    rw (
      at,
      before,
      after,
      is_list-groups_text false left fit_left,
      is_list-groups_text true right fit_right,
      no_bad-groups_text right fit_right,
      groups_in-groups_text left fit_left,
      groups_in-groups_text right fit_right,
      count,
    ) refl

AllBelowBase-take : (n : ℕ) (gs : List ℕ) → AllBelowBase 65536 gs → AllBelowBase 65536 (take n gs)
AllBelowBase-take zero gs fit = tt
AllBelowBase-take (suc n) [] fit = tt
AllBelowBase-take (suc n) (g ∷ gs) fit = (fit.0, AllBelowBase-take n gs fit.1)

AllBelowBase-drop : (n : ℕ) (gs : List ℕ) → AllBelowBase 65536 gs → AllBelowBase 65536 (drop n gs)
AllBelowBase-drop zero gs fit = fit
AllBelowBase-drop (suc n) [] fit = tt
AllBelowBase-drop (suc n) (g ∷ gs) fit = AllBelowBase-drop n gs fit.1

-- the text of eight groups, with or without `::`, reads back as their number
hex_groups_text-reads : (gs : List ℕ) → length gs ≡ 8 → AllBelowBase 65536 gs
    → ipv6_in (hex_groups_text gs) ≡ Ok (groups_number gs)
unfolding hex_groups_text
hex_groups_text-reads gs eight fit =
    let start = (longest_zero_run gs).0 in
    let len = (longest_zero_run gs).1 in
    let (within, zeros) = IsZeroRun-longest_zero_run gs in
    let left : List ℕ = take start gs in
    let right : List ℕ = drop (start + len) gs in
    let front = length-take-le start gs (omega arith) in
    let back = length-drop (start + len) gs in
    elim (cases_lt 1 len) [
      | inl long ↦
          let gap : 8 - length left - length right ≡ len = omega arith in
          let all : filled left right ≡ gs =
          rw (gap, ← zeros, ← take-add start len gs) (take-append-drop (start + len) gs) in
          rw (lt-ltb 1 len long)
          (ap ipv6_in (append_assoc (groups_text left) (58 ∷ 58 ∷ []) (groups_text right))
          ∙ elided_text left right (omega arith) (AllBelowBase-take start gs fit)
          (AllBelowBase-drop (start + len) gs fit) ∙ ap (λ t. Ok (groups_number t)) all)
      | inr short ↦ rw (le-ltb 1 len short) (whole_text gs eight fit)
    ]

-- the groups of a number make that number again
groups_before-number : (count n : ℕ) (gs : List ℕ) → n < 65536 ^ count
    → groups_number (groups_before count n gs) ≡ number_from_digits_after 65536 n gs
groups_before-number zero n gs small = ap (λ m. number_from_digits_after 65536 m gs) (omega arith)
groups_before-number (suc count) n gs small =
    groups_before-number count (n / 65536) ((n % 65536) ∷ gs) (omega (arith, pow-suc 65536 count))
    ∙ ap (λ m. number_from_digits_after 65536 m gs) (omega arith)

pub groups_before-fit : (count n : ℕ) (gs : List ℕ) → AllBelowBase 65536 gs
    → AllBelowBase 65536 (groups_before count n gs)
groups_before-fit zero n gs fit = fit
groups_before-fit (suc count) n gs fit =
    groups_before-fit count (n / 65536) ((n % 65536) ∷ gs) (omega arith, fit)

-- an IPv6 address reads back as itself
pub text6-reads : (n : ℕ) → n < 2 ^ 128 → ipv6_in (text6 n) ≡ Ok n
unfolding text6 eight_groups
text6-reads n small =
    hex_groups_text-reads (groups_before 8 n []) refl (groups_before-fit 8 n [] tt)
    ∙ ap Ok (groups_before-number 8 n [] small)

-- it has a colon
is_six-groups_text : (g h : ℕ) (gs : List ℕ) → is_six (groups_text (g ∷ h ∷ gs)) ≡ true
is_six-groups_text g h gs =
    ap is_six (groups_text-is g (h ∷ gs))
    ∙ list_any-append (λ b. b == 58) (hex g) (more (h ∷ gs) []) ∙ or_right _ _ refl

is_six-hex_groups_text : (g h : ℕ) (gs : List ℕ) → is_six (hex_groups_text (g ∷ h ∷ gs)) ≡ true
unfolding hex_groups_text
is_six-hex_groups_text g h gs =
    let start = (longest_zero_run (g ∷ h ∷ gs)).0 in
    let len = (longest_zero_run (g ∷ h ∷ gs)).1 in
    let left : List ℕ = groups_text (take start (g ∷ h ∷ gs)) in
    let right : List ℕ = groups_text (drop (start + len) (g ∷ h ∷ gs)) in
    elim (cases_lt 1 len) [
      | inl long ↦ rw (lt-ltb 1 len long) (ap is_six (append_assoc left (58 ∷ 58 ∷ []) right)
          ∙ list_any-append (λ b. b == 58) left (58 ∷ 58 ∷ right) ∙ or_right _ _ refl)
      | inr short ↦ rw (le-ltb 1 len short) (is_six-groups_text g h gs)
    ]

pub is_six-text6 : (n : ℕ) → is_six (text6 n) ≡ true
unfolding text6 eight_groups
is_six-text6 n = is_six-hex_groups_text _ _ _
