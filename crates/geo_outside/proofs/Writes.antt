-- What the files after some writes hold.
use Rattle.std.proofs.Common.{◌≡◌, ℕ, ◌+◌, ◌<◌, List, [], ◌∷◌, ◌++◌, Bool, true, false, cond}
use Rattle.std.proofs.Common.{length, get_or, take, Bor, refl, sym, ap, subst, ◌∙◌}
use Rattle.std.specs.Prelude.{Some, None, Option, MatchOption, nat_eq}
use Rattle.std.specs.Cmp.Lexicographic.{pointwise, slice_cmp, nat_list_cmp_total, texts_ties}
use Rattle.std.specs.Ordering.{nat_cmp}
use Rattle.std.specs.FinMap as files
use Rattle.std.proofs.lemmas.List.{take_more, map-append}
use Rattle.std.proofs.lemmas.List.Sums.{fold_push}
use Rattle.geo_outside.specs.Files.{Files, Told, Spoils, files_after}
use Rattle.geo_outside.specs.Puts.{pair_of, pairs_of}
use Rattle.geo_outside.specs.declared.put.Put.{Put}

-- one write more
pub files_after_push : (writes : List (List ℕ × List ℕ)) (name bytes : List ℕ)
    → files_after (writes ++ (name, bytes) ∷ []) ≡ files.insert (files_after writes) name bytes
unfolding files_after
files_after_push writes name bytes = fold_push _ _ writes (name, bytes)

-- no writes
pub files_after_none : files_after [] ≡ files.empty
unfolding files_after
files_after_none = refl

-- what is held after one write more
pub get-push : (writes : List (List ℕ × List ℕ)) (name bytes asked : List ℕ)
    → files.get (files_after (writes ++ (name, bytes) ∷ [])) asked
    ≡ cond (pointwise nat_eq asked name) (Some bytes) (files.get (files_after writes) asked)
get-push writes name bytes asked =
    ap (λ (m : Files). files.get m asked) (files_after_push writes name bytes)
    ∙ files.get-insert nat_list_cmp_total (files_after writes) name bytes asked
    ∙ ap (λ (b : Bool). cond b (Some bytes) (files.get (files_after writes) asked))
    (sym (texts_ties asked name))

-- the step of a search through the writes
pub get_more : (puts : List Put) (i : ℕ) (d : Put) (asked : List ℕ)
    → i < length puts → files.get (files_after (pairs_of (take (i + 1) puts))) asked
    ≡ cond (pointwise nat_eq asked (get_or puts i d).name) (Some (get_or puts i d).bytes)
    (files.get (files_after (pairs_of (take i puts))) asked)
get_more puts i d asked inside =
    ap (λ (ps : List Put). files.get (files_after (pairs_of ps)) asked) (take_more puts i d inside)
    ∙ ap (λ (ps : List (List ℕ × List ℕ)). files.get (files_after ps) asked)
    (map-append pair_of (take i puts) (get_or puts i d ∷ []))
    ∙ get-push (pairs_of (take i puts)) (get_or puts i d).name (get_or puts i d).bytes asked

-- the puts with one put more, as pairs
pub pairs_of_push : (puts : List Put) (put : Put)
    → pairs_of (puts ++ put ∷ []) ≡ pairs_of puts ++ (put.name, put.bytes) ∷ []
pairs_of_push puts put = map-append pair_of puts (put ∷ [])

-- the files with one write more
pub files_push : (puts : List Put) (put : Put) → files_after (pairs_of (puts ++ put ∷ []))
    ≡ files.insert (files_after (pairs_of puts)) put.name put.bytes
files_push puts put =
    ap files_after (pairs_of_push puts put) ∙ files_after_push (pairs_of puts) put.name put.bytes

-- nothing is held after no writes
pub get-none : (asked : List ℕ) → files.get (files_after []) asked ≡ None
get-none asked =
    ap (λ (m : Files). files.get m asked) files_after_none
    ∙ files.get-empty (slice_cmp nat_cmp) asked

-- the step at a put of the name that is asked for
pub get_more_here : (puts : List Put) (i : ℕ) (put : Put) (asked name : List ℕ) → i < length puts
    → put ≡ get_or puts i put → name ≡ put.name → true ≡ pointwise nat_eq asked name
    → files.get (files_after (pairs_of (take (i + 1) puts))) asked ≡ Some put.bytes
get_more_here puts i put asked name inside is called same =
    let tested : true ≡ pointwise nat_eq asked (get_or puts i put).name =
    same ∙ ap (pointwise nat_eq asked) (called ∙ ap (λ (p : Put). p.name) is) in
    get_more puts i put asked inside
    ∙ ap (λ (b : Bool). cond b (Some (get_or puts i put).bytes)
    (files.get (files_after (pairs_of (take i puts))) asked)) (sym tested)
    ∙ ap (λ (p : Put). Some p.bytes) (sym is)

-- the step at a put of another name
pub get_more_past : (puts : List Put) (i : ℕ) (put : Put) (asked name : List ℕ) → i < length puts
    → put ≡ get_or puts i put → name ≡ put.name → false ≡ pointwise nat_eq asked name
    → files.get (files_after (pairs_of (take (i + 1) puts))) asked
    ≡ files.get (files_after (pairs_of (take i puts))) asked
get_more_past puts i put asked name inside is called same =
    let tested : false ≡ pointwise nat_eq asked (get_or puts i put).name =
    same ∙ ap (pointwise nat_eq asked) (called ∙ ap (λ (p : Put). p.name) is) in
    get_more puts i put asked inside
    ∙ ap (λ (b : Bool). cond b (Some (get_or puts i put).bytes)
    (files.get (files_after (pairs_of (take i puts))) asked)) (sym tested)

-- what was found so far is what is held
abbrev pub IsHeld : Option (Bor (List ℕ)) → Option (List ℕ) → Type 0
IsHeld found held = MatchOption found (held ≡ None) (λ file. held ≡ Some file.now)

pub IsHeld-same : (found old : Option (Bor (List ℕ))) (held before : Option (List ℕ)) → found ≡ old
    → held ≡ before → IsHeld old before → IsHeld found held
IsHeld-same found old held before e h is =
    let P : Option (Bor (List ℕ)) → Type 0 = λ f. IsHeld f held in
    let Q : Option (List ℕ) → Type 0 = λ h. IsHeld old h in
    subst P (sym e) (subst Q (sym h) is)

-- a put that changes nothing spoils nothing
pub Spoils-none : (old new : Told) (name : List ℕ) → Some old ≡ Some new → Spoils old new name
Spoils-none old new name same =
    let e : old ≡ new = cc in
    record {
      others = λ other apart. ap (λ (w : Told). files.get w.held other) (sym e);
      puts = ap (λ (w : Told). w.puts) (sym e);
    }

pub pairs_pushed : (puts more : List Put) (put : Put) (name bytes : List ℕ)
    → more ≡ puts ++ put ∷ [] → put.name ≡ name → put.bytes ≡ bytes
    → pairs_of more ≡ pairs_of puts ++ (name, bytes) ∷ []
pairs_pushed puts more put name bytes is named filled =
    ap pairs_of is ∙ pairs_of_push puts put ∙ λ i. pairs_of puts ++ (named i, filled i) ∷ []

pub files_pushed : (puts more : List Put) (put : Put) (name bytes : List ℕ)
    → more ≡ puts ++ put ∷ [] → put.name ≡ name → put.bytes ≡ bytes
    → files_after (pairs_of more) ≡ files.insert (files_after (pairs_of puts)) name bytes
files_pushed puts more put name bytes is named filled =
    ap (λ (ps : List Put). files_after (pairs_of ps)) is ∙ files_push puts put
    ∙ λ i. files.insert (files_after (pairs_of puts)) (named i) (filled i)
