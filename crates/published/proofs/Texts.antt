-- Texts that a line of a feed may hold: clean ones, which are UTF-8, and what is made of them.
use Rattle.std.proofs.Common.{inl, inr, ◌≡◌, ℕ, zero, ◌+◌, ◌-◌, ◌<◌, Bool, true, false}
use Rattle.std.proofs.Common.{cond, ◌==◌, List, [], ◌∷◌, ◌++◌, length}
use Rattle.std.proofs.Common.{reverse, refl, sym, ap, ◌∙◌, subst, ne_eqb, arith}
use Rattle.std.specs.Prelude.{IsUtf8}
use Rattle.std.specs.List.{list_all, onto_first, prefix_len}
use Rattle.std.proofs.lemmas.Bool.{and_parts, cases_eq}
use Rattle.std.proofs.lemmas.Bool.Decides.{nat_tests}
use Rattle.std.proofs.lemmas.List.{append_assoc, reverse-append, take_all}
use Rattle.std.proofs.lemmas.List.Folds.{list_all-append}
use Rattle.std.proofs.lemmas.Str.{IsUtf8-append, IsUtf8-from_ascii, IsUtf8-nil}
use Rattle.std.proofs.lemmas.Str.Ascii.{IsAscii-from_all}
use Rattle.geo_addr.specs.Lines.{is_blank, pieces, trimmed}
use Rattle.csv_lines.specs.Clean.{IsClean, is_clean}
use Rattle.csv_lines.specs.Fields.{Field, Plain, Quoted, doubled, joined, value, written}
use Rattle.csv_lines.specs.Rests.{rest_of}
use Rattle.csv_lines.proofs.TextLemmas.{cut_ascii}

-- a clean text of UTF-8
pub record IsGood (text : List ℕ) : Type 0 where
  pub utf8 : IsUtf8 text
  pub clean : IsClean text

-- ---- blanks at the ends

prefix_append : (xs ys : List ℕ) → prefix_len is_blank xs ≡ 0 → prefix_len is_blank ys ≡ 0
    → prefix_len is_blank (xs ++ ys) ≡ 0
prefix_append [] ys e f = f
prefix_append (x ∷ xs) ys e f = by (is_blank x) refl e
  where
    by : (b : Bool) → is_blank x ≡ b → cond b (1 + prefix_len is_blank xs) 0 ≡ 0
        → cond b (1 + prefix_len is_blank (xs ++ ys)) 0 ≡ 0
    by true g h = absurd (omega arith)
    by false g h = refl

pub good_append : (xs ys : List ℕ) → IsGood xs → IsGood ys → IsGood (xs ++ ys)
good_append xs ys g h = record {
  utf8 = IsUtf8-append xs ys g.utf8 h.utf8;
  clean = record {
    bytes = list_all-append is_clean xs ys ∙ rw (g.clean.bytes, h.clean.bytes) refl;
    start = prefix_append xs ys g.clean.start h.clean.start;
    end =
        ap (prefix_len is_blank) (reverse-append xs ys)
        ∙ prefix_append (reverse ys) (reverse xs) h.clean.end g.clean.end;
  };
}

pub good_none : IsGood []
good_none = record { utf8 = IsUtf8-nil; clean = record { bytes = refl; start = refl; end = refl } }

ascii_one : (b : ℕ) → b < 128 → IsUtf8 (b ∷ [])
ascii_one b low =
    IsUtf8-from_ascii (b ∷ [])
    (IsAscii-from_all (b ∷ []) (λ k d l. let first : k ≡ zero = omega arith in rw first low))

pub good_comma : IsGood (44 ∷ [])
good_comma = record {
  utf8 = ascii_one 44 (omega arith);
  clean = record { bytes = refl; start = refl; end = refl };
}

good_quote : IsGood (34 ∷ [])
good_quote = record {
  utf8 = ascii_one 34 (omega arith);
  clean = record { bytes = refl; start = refl; end = refl };
}

-- ---- doubled quotes

doubled_clean : (xs : List ℕ) → list_all is_clean xs ≡ true → list_all is_clean (doubled xs) ≡ true
doubled_clean [] e = refl
doubled_clean (x ∷ xs) e = elim (cases_eq x 34) [
  | inl quote ↦ let (one, more) = and_parts (is_clean x) (list_all is_clean xs) e in
      rw quote (doubled_clean xs more)
  | inr other ↦ let (one, more) = and_parts (is_clean x) (list_all is_clean xs) e in
      rw (ne_eqb x 34 other) (rw (one, doubled_clean xs more) refl)
]

doubled_utf8 : (part xs : List ℕ) → IsUtf8 (part ++ xs) → IsUtf8 (part ++ doubled xs)
doubled_utf8 part [] u = u
doubled_utf8 part (x ∷ xs) u = elim (cases_eq x 34) [
  | inl quote ↦
      let (before, after) = cut_ascii part x xs (omega arith) u in
      rw quote (IsUtf8-append part
      (34 ∷ 34 ∷ doubled xs) before (IsUtf8-append (34 ∷ []) (34 ∷ doubled xs) good_quote.utf8
      (IsUtf8-append (34 ∷ []) (doubled xs) good_quote.utf8 (doubled_utf8 [] xs after))))
  | inr other ↦
      rw (ne_eqb x 34 other) (subst IsUtf8 (append_assoc part (x ∷ []) (doubled xs))
      (doubled_utf8 (part ++ (x ∷ [])) xs (subst IsUtf8 (sym (append_assoc part (x ∷ []) xs)) u)))
]

quoted_end : (xs : List ℕ) → prefix_len is_blank (reverse (34 ∷ (xs ++ (34 ∷ [])))) ≡ 0
quoted_end xs = ap (prefix_len is_blank) (reverse-append (34 ∷ xs) (34 ∷ []))

-- ---- fields

pub good_written : (f : Field) → IsGood (value f) → IsGood (written f)
good_written (Plain x) g = g
good_written (Quoted x) g = record {
  utf8 =
      IsUtf8-append (34 ∷ []) (doubled x ++ (34 ∷ [])) good_quote.utf8
      (IsUtf8-append (doubled x) (34 ∷ []) (doubled_utf8 [] x g.utf8) good_quote.utf8);
  clean = record {
    bytes =
        list_all-append is_clean (doubled x) (34 ∷ []) ∙ rw (doubled_clean x g.clean.bytes) refl;
    start = refl;
    end = quoted_end (doubled x);
  };
}

abbrev pub AreGood : List Field → Type 0
AreGood [] = Unit {0}
AreGood (f ∷ fs) = IsGood (value f) × AreGood fs

pub good_joined : (f : Field) (fs : List Field) → AreGood (f ∷ fs) → IsGood (joined (f ∷ fs))
good_joined f [] g = good_written f g.0
good_joined f (h ∷ fs) g =
    good_append (written f) (44 ∷ joined (h ∷ fs)) (good_written f g.0)
    (good_append (44 ∷ []) (joined (h ∷ fs)) good_comma (good_joined h fs g.1))

-- ---- what is cut and trimmed of a clean text

pub trimmed_clean : (xs : List ℕ) → IsClean xs → trimmed xs ≡ xs
trimmed_clean xs c =
    rw c.start (rw c.end (take_all (length xs - 0) xs (omega arith)))

one_piece : (xs : List ℕ) → list_all is_clean xs ≡ true → pieces 35 xs ≡ xs ∷ []
one_piece [] e = refl
one_piece (x ∷ xs) e =
    let (one, more) = and_parts (is_clean x) (list_all is_clean xs) e in
    let other : (x == 35) ≡ false = grind (arith, nat_tests) in
    rw other (ap (onto_first x) (one_piece xs more))

pub rest_clean : (xs : List ℕ) → IsClean xs → rest_of xs ≡ xs
rest_clean xs c = rw (one_piece xs c.bytes) (trimmed_clean xs c)
