-- What stands among the bytes of all spellings stays there, whatever is put behind it.
use Rattle.std.proofs.Common.{◌≡◌, ℕ, ◌-◌, ◌≤◌, List, [], ◌∷◌, ◌++◌, length, take, drop, refl, sym}
use Rattle.std.proofs.Common.{ap, ◌∙◌, arith, length-append, length-drop, map as map_list, All}
use Rattle.std.proofs.lemmas.List.{take_all, drop_at, take-append-le, drop-append-le}
use Rattle.std.proofs.lemmas.List.Elements.{All-head, All-tail}
use Rattle.mmdb_data.specs.declared.spelled_list.Spelled.{Spelled}
use Rattle.mmdb_data.specs.FullValues.{Entries, IsWithin, spelled_in}

module _ (texts more : List ℕ) where
  stays_there : (s : Spelled) → IsWithin texts s
      → spelled_in (texts ++ more) s ≡ spelled_in texts s
  stays_there s within =
      let dropped : drop s.start (texts ++ more) ≡ drop s.start texts ++ more =
      drop-append-le s.start texts more (omega (arith, within.start, within.end)) in
      let fits : s.end - s.start ≤ length (drop s.start texts) =
      omega (arith, within.start, within.end, length-drop s.start texts) in
      ap (λ (x : List ℕ). (take (s.end - s.start) x, s.at)) dropped
      ∙ ap (λ (x : List ℕ). (x, s.at))
      (take-append-le (s.end - s.start) (drop s.start texts) more fits)

  all_stay_there : (list : List Spelled) → All (IsWithin texts) list
      → map_list (spelled_in (texts ++ more)) list ≡ map_list (spelled_in texts) list
  all_stay_there [] all = refl
  all_stay_there (s ∷ list) all =
      ap (λ (e : List ℕ × ℕ). e ∷ map_list (spelled_in (texts ++ more)) list)
      (stays_there s (All-head (IsWithin texts) s list all))
      ∙ ap (λ (es : Entries). spelled_in texts s ∷ es)
      (all_stay_there list (All-tail (IsWithin texts) s list all))

  put_behind : (s : Spelled) → s.start ≡ length texts → s.end ≡ length (texts ++ more)
      → spelled_in (texts ++ more) s ≡ (more, s.at)
  put_behind s start end =
      let rest : drop s.start (texts ++ more) ≡ more = drop_at texts more s.start (sym start) in
      let all : take (s.end - s.start) more ≡ more =
      take_all (s.end - s.start) more (omega (arith, start, end, length-append texts more)) in
      ap (λ (x : List ℕ). (take (s.end - s.start) x, s.at)) rest
      ∙ ap (λ (x : List ℕ). (x, s.at)) all

viewed_last : (f : Spelled → List ℕ × ℕ) (list : List Spelled) (s : Spelled)
    → map_list f (list ++ s ∷ []) ≡ map_list f list ++ f s ∷ []
viewed_last f [] s = refl
viewed_last f (z ∷ list) s = ap (λ (es : Entries). f z ∷ es) (viewed_last f list s)

-- one more spelling, behind the others
pub viewed_push : (texts more longer : List ℕ) (list later : List Spelled) (s : Spelled)
    (entries : Entries) → longer ≡ texts ++ more → later ≡ list ++ s ∷ []
    → s.start ≡ length texts → s.end ≡ length longer → All (IsWithin texts) list
    → map_list (spelled_in texts) list ≡ entries
    → map_list (spelled_in longer) later ≡ entries ++ (more, s.at) ∷ []
viewed_push texts more longer list later s entries longer_is later_is start end all view =
    let f = spelled_in (texts ++ more) in
    ap (λ (x : List ℕ). map_list (spelled_in x) later) longer_is
    ∙ ap (map_list f) later_is ∙ viewed_last f list s
    ∙ ap (λ (e : List ℕ × ℕ). map_list f list ++ e ∷ [])
    (put_behind texts more s start (end ∙ ap length longer_is))
    ∙ ap (λ (es : Entries). es ++ (more, s.at) ∷ []) (all_stay_there texts more list all ∙ view)
