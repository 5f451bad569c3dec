-- What a reader holds, and what one more piece makes of it.
use Rattle.std.proofs.Common.{◌≡◌, ℕ, ◌+◌, ◌-◌, ◌<◌, ◌≤◌, List, [], ◌++◌, length, take, Result, Ok}
use Rattle.std.proofs.Common.{Err, ◌⊎◌, inl, inr, refl, sym, ap, subst, arith, ◌∙◌}
use Rattle.std.specs.Prelude.{nat_lt}
use Rattle.std.proofs.lemmas.Bool.{cond-true, cond-false, cases_Bool, cases_lt, lt-ltb, le-ltb}
use Rattle.std.proofs.lemmas.Bool.{ltb-true, ltb-false}
use Rattle.std.proofs.lemmas.Grind.{flat_map-append}
use Rattle.std.proofs.lemmas.List.{length-append, take_all, take-append-le}
use Rattle.std.proofs.Math.Seq.{take-append-add}
use Rattle.geo_terms.specs.SourceForm.{DumpParts}
use Rattle.geo_terms.specs.declared.source.SourceFault.{SourceFault}
use Rattle.geo_terms.specs.declared.source.SourceFault.TheVariants.{TooLong, TooMany}
use Rattle.geo_terms.specs.declared.statement.Reference.{Reference}
use Rattle.rpsl_reader.specs.Objects.{objects}
use Rattle.rpsl_reader.specs.Reading.{after, given, last, start}
use Rattle.rpsl_reader.specs.declared.item.Item.{Item}
use Rattle.rpsl_reader.proofs.Pieces.{after-append, given-append}
use Rattle.rpsl_reader.proofs.SoFar.{given_text}
use Rattle.rpsl_reader.proofs.WholeText.{given_is_whole}
use Rattle.feed_refs.specs.Dumps.{dump, dump_parts, in_line_order, judged, last_references, longest}
use Rattle.feed_refs.specs.Dumps.{most, noted, notes_of, references, references_of, so_far}
use Rattle.feed_refs.specs.Dumps.{whole_references, within}
use Rattle.feed_refs.specs.Laws.{EndFault, FaultStays, WholeByLines}
use Rattle.feed_refs.specs.Readings.{Kept, kept_if, kept_of}

pub noted-append : (slot : List ℕ) (xs ys : List Item)
    → noted slot (xs ++ ys) ≡ noted slot xs ++ noted slot ys
unfolding noted
noted-append slot xs ys = flat_map-append (notes_of slot) xs ys

pub references-append : (slot : List ℕ) (xs ys : List Item)
    → references slot (xs ++ ys) ≡ references slot xs ++ references slot ys
unfolding references
references-append slot xs ys = flat_map-append (references_of slot) xs ys

-- judging by cases
many : {T : Type 0} (rs : List Reference) (text : List ℕ) (x : T) → most < length rs
    → judged rs text x ≡ Err TooMany
many rs text x h = cond-true (nat_lt most (length rs)) _ _ (lt-ltb most (length rs) h)

long : {T : Type 0} (rs : List Reference) (text : List ℕ) (x : T) → length rs ≤ most
    → longest < length text → judged rs text x ≡ Err TooLong
long rs text x few h =
    cond-false (nat_lt most (length rs)) _ _ (le-ltb most (length rs) few)
    ∙ cond-true (nat_lt longest (length text)) _ _ (lt-ltb longest (length text) h)

fine : {T : Type 0} (rs : List Reference) (text : List ℕ) (x : T) → length rs ≤ most
    → length text ≤ longest → judged rs text x ≡ Ok x
fine rs text x few h =
    cond-false (nat_lt most (length rs)) _ _ (le-ltb most (length rs) few)
    ∙ cond-false (nat_lt longest (length text)) _ _ (le-ltb longest (length text) h)

-- what is judged fine has neither too many references nor too many bytes
is_fine : {T : Type 0} (rs : List Reference) (text : List ℕ) (x y : T) → judged rs text x ≡ Ok y
    → (length rs ≤ most) × (length text ≤ longest)
is_fine rs text x y e = elim (cases_Bool (nat_lt most (length rs))) [
  | inl b ↦ absurd (let f = sym (many rs text x (ltb-true most (length rs) b)) ∙ e in cc)
  | inr b ↦ elim (cases_Bool (nat_lt longest (length text))) [
    | inl d ↦ absurd (let f =
        sym (long rs text x (ltb-false most (length rs) b) (ltb-true longest (length text) d))
        ∙ e in cc)
    | inr d ↦ (ltb-false most (length rs) b, ltb-false longest (length text) d)
  ]
]

-- a fault has its cause
is_fault : {T : Type 0} (rs : List Reference) (text : List ℕ) (x : T) (f : SourceFault)
    → judged rs text x ≡ Err f
    → ((most < length rs) × (f ≡ TooMany))
    ⊎ ((longest < length text) × (length rs ≤ most) × (f ≡ TooLong))
is_fault rs text x f e = elim (cases_Bool (nat_lt most (length rs))) [
  | inl b ↦ let h = ltb-true most (length rs) b in inl (h, (let g = sym e ∙ many rs text x h in cc))
  | inr b ↦ elim (cases_Bool (nat_lt longest (length text))) [
    | inl d ↦ let h = ltb-false most (length rs) b in let k = ltb-true longest (length text) d in
        inr (k, h, (let g = sym e ∙ long rs text x h k in cc))
    | inr d ↦ absurd (let g =
        sym (fine rs text x (ltb-false most (length rs) b) (ltb-false longest (length text) d))
        ∙ e in cc)
  ]
]

-- a text that is not too long counts whole
all_within : (text : List ℕ) → length text ≤ longest → within text ≡ text
unfolding within
all_within text h = take_all longest text h

-- of what follows such a text, as much counts as there is room for
next_within : (text piece : List ℕ) → length text ≤ longest
    → within (text ++ piece) ≡ text ++ take (longest - length text) piece
unfolding within
next_within text piece h =
    let room : longest ≡ length text + (longest - length text) = omega arith in
    ap (λ n. take n (text ++ piece)) room ∙ take-append-add text piece (longest - length text)

-- nothing of what follows a text that is too long
none_within : (text piece : List ℕ) → longest ≤ length text → within (text ++ piece) ≡ within text
unfolding within
none_within text piece h = take-append-le longest text piece h

given_next : (text piece : List ℕ)
    → given start (text ++ piece) ≡ given start text ++ given (after start text) piece
given_next text piece = given-append start text piece

abbrev refs_of : List ℕ → List ℕ → List Reference
refs_of slot text = references slot (given start text)

abbrev more_refs : List ℕ → List ℕ → List ℕ → List Reference
more_refs slot text piece = references slot (given (after start text) piece)

refs_next : (slot text piece : List ℕ)
    → refs_of slot (text ++ piece) ≡ refs_of slot text ++ more_refs slot text piece
refs_next slot text piece =
    ap (references slot) (given_next text piece)
    ∙ references-append slot (given start text) (given (after start text) piece)

whole_next : (slot text piece : List ℕ) → length text ≤ longest
    → whole_references slot (text ++ piece)
    ≡ refs_of slot text ++ more_refs slot text (take (longest - length text) piece)
whole_next slot text piece h =
    ap (λ t. references slot (given start t)) (next_within text piece h)
    ∙ refs_next slot text (take (longest - length text) piece)

whole_now : (slot text : List ℕ) → length text ≤ longest
    → whole_references slot text ≡ refs_of slot text
whole_now slot text h = ap (λ t. references slot (given start t)) (all_within text h)

-- a reader that holds something was fed a text that is fine, and holds what that leaves
pub record Opened (slot text : List ℕ) (k : Kept) : Type 0 where
  pub few : length (refs_of slot text) ≤ most
  pub short : length text ≤ longest
  pub fed : k.reader.fed ≡ length text
  pub state : k.reader.state ≡ after start text
  pub refs : k.refs ≡ refs_of slot text
  pub notes : k.notes ≡ noted slot (given start text)

kept_cases : (r : Result (Unit {0}) SourceFault) (k k' : Kept) → Ok k ≡ kept_if r k'
    → (k ≡ k') × (r ≡ Ok tt)
kept_cases (Ok done) k k' e = (cc, refl)
kept_cases (Err fault) k k' e = absurd cc

fault_cases : (r : Result (Unit {0}) SourceFault) (f : SourceFault) (k : Kept) → Err f ≡ kept_if r k
    → r ≡ Err f
fault_cases (Ok done) f k e = absurd cc
fault_cases (Err fault) f k e = cc

so_far_fine : (slot text : List ℕ) → so_far slot text ≡ Ok tt
    → (length (whole_references slot text) ≤ most) × (length text ≤ longest)
unfolding so_far
so_far_fine slot text e = is_fine (whole_references slot text) text tt tt e

pub opened : (slot text : List ℕ) (k : Kept) → Ok k ≡ kept_if (so_far slot text) (kept_of slot text)
    → Opened slot text k
unfolding kept_of
opened slot text k e =
    let parts : (k ≡ kept_of slot text) × (so_far slot text ≡ Ok tt) =
    kept_cases (so_far slot text) k (kept_of slot text) e in
    let good : (length (whole_references slot text) ≤ most) × (length text ≤ longest) =
    so_far_fine slot text parts.1 in
    record {
      few = subst (λ rs. length rs ≤ most) (whole_now slot text good.1) good.0;
      short = good.1;
      fed = ap (λ (q : Kept). q.reader.fed) parts.0;
      state = ap (λ (q : Kept). q.reader.state) parts.0;
      refs = ap (λ (q : Kept). q.refs) parts.0;
      notes = ap (λ (q : Kept). q.notes) parts.0;
    }

so_far_many : (slot text : List ℕ) → most < length (whole_references slot text)
    → so_far slot text ≡ Err TooMany
unfolding so_far
so_far_many slot text h = many (whole_references slot text) text tt h

so_far_long : (slot text : List ℕ) → length (whole_references slot text) ≤ most
    → longest < length text → so_far slot text ≡ Err TooLong
unfolding so_far
so_far_long slot text few h = long (whole_references slot text) text tt few h

so_far_ok : (slot text : List ℕ) → length (whole_references slot text) ≤ most
    → length text ≤ longest → so_far slot text ≡ Ok tt
unfolding so_far
so_far_ok slot text few h = fine (whole_references slot text) text tt few h

so_far_fault : (slot text : List ℕ) (f : SourceFault) → so_far slot text ≡ Err f
    → ((most < length (whole_references slot text)) × (f ≡ TooMany))
    ⊎ ((longest < length text) × (length (whole_references slot text) ≤ most) × (f ≡ TooLong))
unfolding so_far
so_far_fault slot text f e = is_fault (whole_references slot text) text tt f e

-- what one more piece gives to such a reader
module _ (slot text piece : List ℕ) (k : Kept) (o : Opened slot text k) where
  cut_refs : whole_references slot (text ++ piece)
      ≡ k.refs ++ references slot (given k.reader.state (take (longest - k.reader.fed) piece))
  cut_refs = rw (o.refs, o.state, o.fed) (whole_next slot text piece o.short)

  cut_count : length (whole_references slot (text ++ piece)) ≡ length k.refs
      + length (references slot (given k.reader.state (take (longest - k.reader.fed) piece)))
  cut_count =
      ap length cut_refs ∙ length-append k.refs
      (references slot (given k.reader.state (take (longest - k.reader.fed) piece)))

  pub next_many : most < length k.refs
      + length (references slot (given k.reader.state (take (longest - k.reader.fed) piece)))
      → so_far slot (text ++ piece) ≡ Err TooMany
  next_many h = so_far_many slot (text ++ piece) (omega (arith, cut_count))

  pub next_long : length k.refs
      + length (references slot (given k.reader.state (take (longest - k.reader.fed) piece))) ≤ most
      → longest < k.reader.fed + length piece → so_far slot (text ++ piece) ≡ Err TooLong
  next_long few h =
      so_far_long slot (text ++ piece) (omega (arith, cut_count))
      (omega (arith, length-append text piece, o.fed))

  pub next_ok : length k.refs
      + length (references slot (given k.reader.state (take (longest - k.reader.fed) piece))) ≤ most
      → k.reader.fed + length piece ≤ longest → so_far slot (text ++ piece) ≡ Ok tt
  next_ok few h =
      so_far_ok slot (text ++ piece) (omega (arith, cut_count))
      (omega (arith, length-append text piece, o.fed))

  next_kept : (k' : Kept) → k'.reader.fed ≡ k.reader.fed + length piece
      → k'.reader.state ≡ after k.reader.state piece
      → k'.refs ≡ k.refs ++ references slot (given k.reader.state piece)
      → k'.notes ≡ k.notes ++ noted slot (given k.reader.state piece)
      → k' ≡ kept_of slot (text ++ piece)
  unfolding kept_of
  next_kept k' fed state refs notes =
      let e1 : k'.reader.fed ≡ length (text ++ piece) =
      omega (arith, fed, o.fed, length-append text piece) in
      let e2 : k'.reader.state ≡ after start (text ++ piece) =
      state ∙ ap (λ s. after s piece) o.state ∙ sym (after-append start text piece) in
      let e3 : k'.refs ≡ refs_of slot (text ++ piece) =
      refs ∙ (rw (o.refs, o.state) refl) ∙ sym (refs_next slot text piece) in
      let e4 : k'.notes ≡ noted slot (given start (text ++ piece)) =
      notes ∙ (rw (o.notes, o.state) refl) ∙ sym (ap (noted slot) (given_next text piece)
      ∙ noted-append slot (given start text) (given (after start text) piece)) in
      λ i. record { reader = record { fed = e1 i; state = e2 i }; refs = e3 i; notes = e4 i }

  pub next_reading : (k' : Kept) → k'.reader.fed ≡ k.reader.fed + length piece
      → k'.reader.state ≡ after k.reader.state piece
      → k'.refs ≡ k.refs ++ references slot (given k.reader.state piece)
      → k'.notes ≡ k.notes ++ noted slot (given k.reader.state piece)
      → so_far slot (text ++ piece) ≡ Ok tt
      → Ok k' ≡ kept_if (so_far slot (text ++ piece)) (kept_of slot (text ++ piece))
  next_reading k' fed state refs notes good =
      ap (λ q. Ok q) (next_kept k' fed state refs notes)
      ∙ sym (ap (λ r. kept_if r (kept_of slot (text ++ piece))) good)

-- a fault stays whatever follows
pub fault_stays : FaultStays
fault_stays slot text piece f e =
    let both : (longest < length text) ⊎ (length text ≤ longest) = cases_lt longest (length text) in
    elim (so_far_fault slot text f e) [
      | inl h ↦ elim both [
        | inr short ↦ so_far_many slot (text ++ piece) (omega (
          arith,
          ap length (whole_next slot text piece short),
          length-append (refs_of slot text)
              (more_refs slot text (take (longest - length text) piece)),
          ap length (whole_now slot text short),
          h.0,
        )) ∙ ap (λ g. Err g) (sym h.1)
        | inl over ↦ so_far_many slot (text ++ piece) (omega (
          arith,
          ap (λ t. length (references slot (given start t))) (none_within text piece (omega arith)),
          h.0,
        )) ∙ ap (λ g. Err g) (sym h.1)
      ]
      | inr h ↦ so_far_long slot (text ++ piece) (omega (
        arith,
        ap (λ t. length (references slot (given start t)))
            (none_within text piece (omega (arith, h.0))),
        h.1,
      )) (omega (arith, length-append text piece, h.0)) ∙ ap (λ g. Err g) (sym h.2)
    ]

-- the whole objects of a text are those of its groups of lines that have ended
pub whole_by_lines : WholeByLines
whole_by_lines slot text = ap (references slot) (given_text (within text))

pub fault_opened : (slot text : List ℕ) (f : SourceFault)
    → Err f ≡ kept_if (so_far slot text) (kept_of slot text) → so_far slot text ≡ Err f
fault_opened slot text f e = fault_cases (so_far slot text) f (kept_of slot text) e

pub fault_reading : (slot text : List ℕ) (f : SourceFault) → so_far slot text ≡ Err f
    → Err f ≡ kept_if (so_far slot text) (kept_of slot text)
fault_reading slot text f e = sym (ap (λ r. kept_if r (kept_of slot text)) e)

-- before the first byte
nothing_given : (slot : List ℕ) → references slot (given start []) ≡ []
unfolding references given
nothing_given slot = refl

nothing_noted : (slot : List ℕ) → noted slot (given start []) ≡ []
unfolding noted given
nothing_noted slot = refl

pub first_reading : (slot : List ℕ) (k : Kept) → k.reader ≡ record { fed = 0; state = start }
    → k.refs ≡ [] → k.notes ≡ [] → Ok k ≡ kept_if (so_far slot []) (kept_of slot [])
unfolding kept_of after
first_reading slot k reader refs notes =
    let good : so_far slot [] ≡ Ok tt =
    so_far_ok slot [] (rw (whole_now slot [] (omega arith), nothing_given) (omega arith))
    (omega arith) in
    let same : k ≡ kept_of slot [] = λ i. record {
      reader = reader i;
      refs = (refs ∙ sym (nothing_given slot)) i;
      notes = (notes ∙ sym (nothing_noted slot)) i;
    } in
    ap (λ q. Ok q) same ∙ sym (ap (λ r. kept_if r (kept_of slot [])) good)

-- the end of the text
whole_given : (text : List ℕ) → objects text ≡ given start text ++ last (after start text)
whole_given text = sym (given_is_whole text)

module _ (slot text : List ℕ) (k : Kept) (o : Opened slot text k) where
  end_refs : references slot (objects text) ≡ k.refs ++ references slot (last k.reader.state)
  end_refs =
      ap (references slot) (whole_given text)
      ∙ references-append slot (given start text) (last (after start text))
      ∙ (rw (o.refs, o.state) refl)

  pub end_noted : noted slot (objects text) ≡ k.notes ++ noted slot (last k.reader.state)
  end_noted =
      ap (noted slot) (whole_given text)
      ∙ noted-append slot (given start text) (last (after start text))
      ∙ (rw (o.notes, o.state) refl)

  pub end_parts : (d : DumpParts) → d.slot ≡ slot
      → d.refs ≡ k.refs ++ references slot (last k.reader.state)
      → d.notes ≡ in_line_order (k.notes ++ noted slot (last k.reader.state))
      → d ≡ dump_parts slot text
  end_parts d e refs notes =
      let f : d.refs ≡ references slot (objects text) = refs ∙ sym end_refs in
      let g : d.notes ≡ in_line_order (noted slot (objects text)) =
      notes ∙ ap in_line_order (sym end_noted) in
      λ i. record { slot = e i; refs = f i; notes = g i }

  end_last : last_references slot text ≡ references slot (objects text)
  end_last = cond-false (nat_lt longest (length text)) _ _ (le-ltb longest (length text) o.short)

  end_count : length (last_references slot text)
      ≡ length k.refs + length (references slot (last k.reader.state))
  end_count =
      ap length (end_last ∙ end_refs) ∙ length-append k.refs (references slot (last k.reader.state))

  pub end_many : most < length k.refs + length (references slot (last k.reader.state))
      → dump slot text ≡ Err TooMany
  unfolding dump
  end_many h =
      many (last_references slot text) text (dump_parts slot text) (omega (arith, end_count))

  pub end_ok : length k.refs + length (references slot (last k.reader.state)) ≤ most
      → dump slot text ≡ Ok (dump_parts slot text)
  unfolding dump
  end_ok few =
      fine (last_references slot text) text (dump_parts slot text)
      (omega (arith, end_count)) o.short

pub end_fault : EndFault
unfolding dump
end_fault slot text f e =
    let both : (longest < length text) ⊎ (length text ≤ longest) = cases_lt longest (length text) in
    let over_last =
    λ (over : longest < length text). cond-true (nat_lt longest (length text))
    (whole_references slot text) (references slot (objects text))
    (lt-ltb longest (length text) over) in
    elim (so_far_fault slot text f e) [
      | inl h ↦ elim both [
        | inr short ↦
            many (last_references slot text) text (dump_parts slot text)
            (omega (
              arith,
              ap length (cond-false (nat_lt longest (length text)) (whole_references slot text)
                  (references slot (objects text)) (le-ltb longest (length text) short)),
              ap (λ t. length (references slot t)) (whole_given text),
              ap length (references-append slot (given start text) (last (after start text))),
              length-append (refs_of slot text) (references slot (last (after start text))),
              ap length (whole_now slot text short),
              h.0,
            ))
            ∙ ap (λ g. Err g) (sym h.1)
        | inl over ↦ many (last_references slot text) text (dump_parts slot text)
            (omega (arith, ap length (over_last over), h.0)) ∙ ap (λ g. Err g) (sym h.1)
      ]
      | inr h ↦ long (last_references slot text) text (dump_parts slot text)
          (omega (arith, ap length (over_last h.0), h.1)) h.0 ∙ ap (λ g. Err g) (sym h.2)
    ]
