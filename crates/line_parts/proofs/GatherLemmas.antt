-- What is gathered of the parts of a file is what the whole file gives.
use Rattle.std.proofs.Common.{◌≡◌, ℕ, ◌+◌, List, [], ◌∷◌, ◌++◌, Option, filter_map, refl, arith}
use Rattle.std.proofs.Common.{sym, ap, ap₂, ◌∙◌}
use Rattle.std.specs.List.{AllZip, flat_map}
use Rattle.std.proofs.lemmas.List.{append_assoc, map-append}
use Rattle.std.proofs.lemmas.List.Concat.{flat_map-append}
use Rattle.std.proofs.lemmas.List.Elements.{filter_map-append}
use Rattle.geo_addr.specs.Lines.{numbered_lines}
use Rattle.line_parts.specs.Parts.{behind, feeds, lines_in}
use Rattle.line_parts.specs.declared.part.LinePart.{LinePart}

module _ {A B : Type 0} (f : (ℕ × List ℕ) → Option A) (g : B → List A)
    (Reads : LinePart → B → Type 0) where
  pub by_parts : (parts : List LinePart) (found : List B)
      → ((p : LinePart) (b : B) → Reads p b → g b ≡ filter_map f (lines_in p))
      → AllZip Reads parts found → flat_map g found ≡ filter_map f (flat_map lines_in parts)
  by_parts [] [] each zipped = refl
  by_parts [] (b ∷ bs) each zipped = absurd zipped
  by_parts (p ∷ ps) [] each zipped = absurd zipped
  by_parts (p ∷ ps) (b ∷ bs) each zipped =
      ap₂ ◌++◌ (each p b zipped.0) (by_parts ps bs each zipped.1)
      ∙ sym (filter_map-append f (lines_in p) (flat_map lines_in ps))

  pub gathered : (file : List ℕ) (parts : List LinePart) (found : List B)
      → ((p : LinePart) (b : B) → Reads p b → g b ≡ filter_map f (lines_in p))
      → flat_map lines_in parts ≡ numbered_lines file
      → AllZip Reads parts found → flat_map g found ≡ filter_map f (numbered_lines file)
  gathered file parts found each cut zipped =
      by_parts parts found each zipped ∙ ap (filter_map f) cut

-- some parts more have been read
pub more_parts : {A : Type 0} (f : (ℕ × List ℕ) → Option A) (before now : List A)
    (some rest left : List LinePart)
    → now ≡ before ++ filter_map f (flat_map lines_in some) → some ++ rest ≡ left
    → now ++ filter_map f (flat_map lines_in rest) ≡ before ++ filter_map f (flat_map lines_in left)
more_parts f before now some rest left is both =
    let of_some = filter_map f (flat_map lines_in some) in
    let of_rest = filter_map f (flat_map lines_in rest) in
    ap (λ t. t ++ of_rest) is
    ∙ append_assoc before of_some of_rest
    ∙ ap (λ t. before ++ t) (sym (filter_map-append f (flat_map lines_in some)
    (flat_map lines_in rest)) ∙ ap (filter_map f) (sym (flat_map-append lines_in some rest)
    ∙ ap (flat_map lines_in) both))

-- what does not look at numbers says the same of a part as of its text
flat_map-behind : {A : Type 0} (g : List ℕ → List A) (n : ℕ) (ls : List (ℕ × List ℕ))
    → flat_map (λ l. g l.1) (behind n ls) ≡ flat_map (λ l. g l.1) ls
flat_map-behind g n [] = refl
flat_map-behind g n (l ∷ ls) = ap (λ t. g l.1 ++ t) (flat_map-behind g n ls)

pub of_text : {A : Type 0} (g : List ℕ → List A) (p : LinePart)
    → flat_map (λ l. g l.1) (lines_in p) ≡ flat_map (λ l. g l.1) (numbered_lines p.text.now)
unfolding lines_in
of_text g p = flat_map-behind g p.before (numbered_lines p.text.now)

-- lines behind so many and so many more, and behind none
pub behind_twice : (j k : ℕ) (ls : List (ℕ × List ℕ)) → behind j (behind k ls) ≡ behind (j + k) ls
behind_twice j k [] = refl
behind_twice j k (l ∷ ls) =
    let e : j + (k + l.0) ≡ j + k + l.0 = omega arith in
    ap₂ (λ m t. (m, l.1) ∷ t) e (behind_twice j k ls)

pub behind_none : (ls : List (ℕ × List ℕ)) → behind 0 ls ≡ ls
behind_none [] = refl
behind_none (l ∷ ls) =
    let e : 0 + l.0 ≡ l.0 = omega arith in ap₂ (λ m t. (m, l.1) ∷ t) e (behind_none ls)

-- the lines of a part are those of its text behind those before it
pub lines_of_part : (p : LinePart) → behind p.before (numbered_lines p.text.now) ≡ lines_in p
unfolding lines_in
lines_of_part p = refl

-- some lines were read, and the others are cut into a part and what is left
pub one_round : (read whole : List (ℕ × List ℕ)) (before : ℕ) (p : LinePart) (left some : List ℕ)
    → p.before ≡ before
    → numbered_lines some
    ≡ numbered_lines p.text.now ++ behind (feeds p.text.now) (numbered_lines left)
    → read ++ behind before (numbered_lines some) ≡ whole
    → (read ++ lines_in p) ++ behind (before + feeds p.text.now) (numbered_lines left) ≡ whole
one_round read whole before p left some at split so_far =
    let lines = numbered_lines p.text.now in
    let rest = numbered_lines left in
    let count = feeds p.text.now in
    let its : lines_in p ≡ behind before lines =
    sym (lines_of_part p) ∙ ap (λ n. behind n lines) at in
    let both : behind before lines ++ behind (before + count) rest
    ≡ behind before (lines ++ behind count rest) =
    ap (λ t. behind before lines ++ t) (sym (behind_twice before count rest))
    ∙ sym (map-append (λ l. (before + l.0, l.1)) lines (behind count rest)) in
    append_assoc read (lines_in p) (behind (before + count) rest)
    ∙ ap (λ t. read ++ t) (ap (λ t. t ++ behind (before + count) rest) its ∙ both
    ∙ ap (behind before) (sym split))
    ∙ so_far
