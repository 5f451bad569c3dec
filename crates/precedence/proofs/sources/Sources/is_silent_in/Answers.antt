-- Each address of the range lies in a piece, of which nothing is said.
use Rattle.std.proofs.Common.{◌≡◌, ◌∙◌, ◌+◌, ℕ, List, Option, Some, None, get_or}
use Rattle.std.proofs.Common.{ap, arith, false, inl, inr, refl, subst, sym, true}
use Rattle.std.specs.Option.{is_some, option_copied}
use Rattle.std.proofs.lemmas.Bool.{cases_lt}
use Rattle.geo_addr.specs.Ranges.{Ends, IsWithin}
use Rattle.geo_terms.specs.Precedence.{spoken_at}
use Rattle.precedence.proofs.PieceLemmas.{found_at, pieces_have}
use Rattle.precedence.proofs.sources.Sources.is_silent_in.Goals as goal

none_told : {B : Type 0} (o : Option B) → is_some o ≡ false → o ≡ None
none_told None e = refl
none_told (Some x) e = absurd (let f : true ≡ false = e in cc)

pub loop-piece-preserved : goal.loop-piece-preserved
loop-piece-preserved c k d lt =
    let s = c.args.self.now in
    let items = c.deref-piece-items.result.now in
    let i = c.loop-piece.piece-index in
    elim (cases_lt k i) [
      | inl before ↦ c.loop-piece.invariant k d before
      | inr past ↦
          let same : k ≡ i = omega (arith, past, lt) in
          let here : get_or items k d ≡ c.piece-item.result =
          ap (λ (j : ℕ). get_or items j d) same
          ∙ found_at items i d c.piece-item.result c.loop-piece-test.true ∙ sym c.piece-item.is in
          ap (λ (r : Ends). spoken_at s r.first) here ∙ sym c.choice.ensures
          ∙ ap option_copied (none_told c.choice.result
          (sym c.is_some.ensures ∙ c.if-is_some.false))
    ]

pub returns : goal.returns
returns c silent a within =
    let s = c.args.self.now in
    let out = c.in_ok-pieces.pieces.items in
    let are = c.in_ok-pieces.ensures.pieces in
    let same = c.deref-piece-items.ensures.value in
    let has = pieces_have c.args.range.first (c.args.range.last + 1) out a are.tiles within.0
    (omega (arith, within.1)) in
    let k = has.0 in
    let r : Ends = has.1 in
    are.steady k r has.2 a (subst (λ (x : Ends). IsWithin x a) (sym has.3) has.4)
    ∙ subst (λ (rs : List Ends). spoken_at s (get_or rs k r).first ≡ None) same
    (c.loop-piece.invariant k r
    (omega (arith, has.2, c.loop-piece-test.false, c.deref-piece-items.ensures.len)))
