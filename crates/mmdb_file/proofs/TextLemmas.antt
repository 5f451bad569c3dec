-- In UTF-8 the bytes 205 and 239 are never neighbours: each begins a character.
use Rattle.std.proofs.Common.{◌≡◌, ℕ, ◌+◌, ◌/◌, ◌≢◌, ◌==◌, true, false, List, [], ◌∷◌, ◌++◌, refl}
use Rattle.std.proofs.Common.{subst, inl, inr, arith, sym}
use Rattle.std.specs.Str.{IsUtf8}
use Rattle.std.proofs.lemmas.Bool.Decides.{eqb_tells}
use Rattle.std.proofs.lemmas.Bool.{cases_lt, lt-ltb, le-ltb}
use lib.Utf8.{encode, encodes, next}
use Rattle.mmdb_file.proofs.MarkerLemmas.{parted, not_both}

pub unlike : (a b : ℕ) → a ≢ b → (a == b) ≡ false
unlike a b apart = elim (eqb_tells a b) [ inl same ↦ absurd (apart same.1) | inr told ↦ told.0 ]

-- a byte that is not 205, before parted bytes
front : (b : ℕ) (x : List ℕ) → b ≢ 205 → parted x ≡ true → parted (b ∷ x) ≡ true
front b [] apart h = refl
front b (c ∷ x) apart h = let e = unlike 205 b (λ same. apart (sym same)) in rw (e, h) refl

-- a byte before one that is not 239
lead : (b c : ℕ) (x : List ℕ) → c ≢ 239 → parted (c ∷ x) ≡ true → parted (b ∷ c ∷ x) ≡ true
lead b c x apart h =
    let e = not_both (205 == b) (239 == c) (unlike 239 c (λ same. apart (sym same))) in
    rw (e, h) refl

-- a byte that goes on with a character
inner : (b : ℕ) (x : List ℕ) → parted x ≡ true → parted (next b ∷ x) ≡ true
inner b x h = front (next b) x (omega arith) h

led : (b c : ℕ) (x : List ℕ) → parted (next c ∷ x) ≡ true → parted (b ∷ next c ∷ x) ≡ true
led b c x h = lead b (next c) x (omega arith) h

character : (c : ℕ) (x : List ℕ) → parted x ≡ true → parted (encode c ++ x) ≡ true
unfolding encode
character c x h =
    elim (cases_lt c 128) [
      | inl a ↦ rw (lt-ltb c 128 a) (front c x (omega arith) h)
      | inr a ↦ rw (le-ltb c 128 a)
          (elim (cases_lt c 2048) [
            | inl b ↦ rw (lt-ltb c 2048 b) (led (192 + c / 64) c x (inner c x h))
            | inr b ↦ rw (le-ltb c 2048 b)
                (elim (cases_lt c 65536) [
                  | inl d ↦ rw (lt-ltb c 65536 d) (led (224 + c / 4096) (c / 64) (next c ∷ x)
                      (inner (c / 64) (next c ∷ x) (inner c x h)))
                  | inr d ↦ rw (le-ltb c 65536 d)
                      (led (240 + c / 262144) (c / 4096)
                      (next (c / 64) ∷ next c ∷ x) (inner (c / 4096) (next (c / 64) ∷ next c ∷ x)
                      (inner (c / 64) (next c ∷ x) (inner c x h))))
                ])
          ])
    ]

characters : (cs : List ℕ) → parted (encodes cs) ≡ true
characters [] = refl
characters (c ∷ cs) = character c (encodes cs) (characters cs)

pub text_is_parted : (text : List ℕ) → IsUtf8 text → parted text ≡ true
text_is_parted text utf8 = subst (λ (x : List ℕ). parted x ≡ true) utf8.1.1 (characters utf8.0)
