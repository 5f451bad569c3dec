-- What a piece changes is a change that the reader can take,
-- and it leads to the state behind the piece.
use Rattle.std.proofs.Common.{◌≡◌, ◌≢◌, ℕ, ◌<◌, ◌≤◌, ◌^◌, Bool, true, false, cond, List, [], ◌∷◌}
use Rattle.std.proofs.Common.{◌++◌, All, Option, fold, refl, sym, ap, ◌∙◌, subst, arith, append-nil}
use Rattle.rpsl_reader.specs.declared.item.Item.{Item}
use Rattle.rpsl_reader.specs.Attributes.{Numbered}
use Rattle.rpsl_reader.specs.Changes.{Change, Gathering, IsChange, IsOpen, IsReader, accepted}
use Rattle.rpsl_reader.specs.Changes.{group_of, lines_after, lines_in, open_group, open_lines}
use Rattle.rpsl_reader.specs.Reading.{Fed, after, given, grown, last, state_of}
use Rattle.rpsl_reader.proofs.PieceLemmas.{after-head, after-tail, given-head}

-- the reader of these fields
abbrev pub reader : (fed lines : ℕ) (pending : List ℕ) (first : Option ℕ) (ls : List Numbered) → Fed
reader fed lines pending first ls =
    record { fed = fed; state = state_of lines pending (group_of first ls) }

-- a piece without a line feed
abbrev pub part : (fed lines : ℕ) (piece : List ℕ) (first : Option ℕ) (bytes : ℕ)
    (more : List Numbered) (found : List Item) → Change
part fed lines piece first bytes more found = record {
  fed = fed;
  lines = lines;
  ended = false;
  tail = piece;
  keeps = true;
  first = first;
  bytes = bytes;
  more = more;
  found = found;
}

same_lines : (first : Option ℕ) (ls more : List Numbered)
    → ls ≡ lines_in (group_of first ls) → more ≡ [] → ls ≡ lines_in (group_of first ls) ++ more
same_lines first ls more kept none =
    kept ∙ sym (append-nil (lines_in (group_of first ls)))
    ∙ ap (λ t. lines_in (group_of first ls) ++ t) (sym none)

pub part_change : (old fed lines : ℕ) (pending piece : List ℕ) (first : Option ℕ) (bytes : ℕ)
    (ls more : List Numbered) (found : List Item) → IsReader old lines pending first bytes ls
    → old ≤ fed → fed < 2 ^ 63 → more ≡ []
    → IsChange (reader old lines pending first ls) (part fed lines piece first bytes more found)
part_change old fed lines pending piece first bytes ls more found r counted fits none = record {
  counts = record { fewer = omega (arith, r.counts.fewer); fits = fits };
  group =
      subst (λ (k : List Numbered). IsOpen first bytes k)
      (same_lines first ls more r.group.kept none) r.group;
  keeps = λ e. refl;
  no_more = λ e. none;
}

pub part_after : (old fed lines : ℕ) (pending piece : List ℕ) (first : Option ℕ) (bytes : ℕ)
    (ls more : List Numbered) (found : List Item) → IsReader old lines pending first bytes ls
    → All (λ b. b ≢ 10) piece → more ≡ []
    → accepted (reader old lines pending first ls) (part fed lines piece first bytes more found)
    ≡ record { fed = fed; state = after (state_of lines pending (group_of first ls)) piece }
unfolding accepted
part_after old fed lines pending piece first bytes ls more found r free none =
    ap (λ k. record {
      fed = fed;
      state = state_of lines (fold grown pending piece) (group_of first k);
    }) (sym (same_lines first ls more r.group.kept none))
    ∙ ap (λ s. record { fed = fed; state = s })
    (sym (after-tail lines pending (group_of first ls) piece free))

-- a piece with one: the lines of the open group come from what the piece left of it
abbrev pub whole : (fed lines : ℕ) (tail : List ℕ) (g : Gathering) (more : List Numbered)
    (found : List Item) → Change
whole fed lines tail g more found = record {
  fed = fed;
  lines = lines;
  ended = true;
  tail = tail;
  keeps = g.keeps;
  first = g.first;
  bytes = g.bytes;
  more = more;
  found = found;
}

lines_of_gathering : (r : Fed) (before g : Gathering) → before.held ≡ lines_in r.state.group
    → g.held ≡ before.held → open_lines g ≡ cond g.keeps (lines_in r.state.group) [] ++ g.lines
lines_of_gathering r before g same held = ap (λ t. cond g.keeps t [] ++ g.lines) (held ∙ same)

pub whole_change : (r : Fed) (fed ended : ℕ) (tail : List ℕ) (before g : Gathering)
    (found : List Item) → ended ≤ fed → fed < 2 ^ 63 → IsOpen g.first g.bytes (open_lines g)
    → before.held ≡ lines_in r.state.group → g.held ≡ before.held
    → IsChange r (whole fed ended tail g g.lines found)
whole_change r fed ended tail before g found counted fits opened same held = record {
  counts = record { fewer = counted; fits = fits };
  group =
      subst (λ (k : List Numbered). IsOpen g.first g.bytes k)
      (lines_of_gathering r before g same held) opened;
  keeps = λ e. absurd (let f : true ≡ false = e in cc);
  no_more = λ e. absurd (let f : true ≡ false = e in cc);
}

pub whole_after : (r : Fed)
    (fed lines ended : ℕ) (first head rest tail : List ℕ) (before g : Gathering) (found : List Item)
    → lines ≡ r.state.lines → first ≡ fold grown r.state.pending head → All (λ b. b ≢ 10) head
    → before.held ≡ lines_in r.state.group → open_group before ≡ r.state.group
    → g.held ≡ before.held → after (state_of lines first (open_group before)) (10 ∷ rest)
    ≡ state_of ended (fold grown [] tail) (open_group g)
    → accepted r (whole fed ended tail g g.lines found)
    ≡ record { fed = fed; state = after r.state (head ++ 10 ∷ rest) }
unfolding accepted
whole_after r fed lines ended first head rest tail before g found count line free same
    group held read =
    ap (λ k. record { fed = fed; state = state_of ended (fold grown [] tail) (group_of g.first k) })
    (sym (lines_of_gathering r before g same held))
    ∙ ap (λ s. record { fed = fed; state = s }) (sym read
    ∙ (λ i. after (state_of (count i) (line i) (group i)) (10 ∷ rest))
    ∙ sym (after-head r.state.lines r.state.pending r.state.group head (10 ∷ rest) free))

pub whole_given : (r : Fed) (lines : ℕ) (first head rest : List ℕ) (before : Gathering)
    → lines ≡ r.state.lines → first ≡ fold grown r.state.pending head → All (λ b. b ≢ 10) head
    → open_group before ≡ r.state.group
    → given (state_of lines first (open_group before)) (10 ∷ rest)
    ≡ given r.state (head ++ 10 ∷ rest)
whole_given r lines first head rest before count line free group =
    (λ i. given (state_of (count i) (line i) (group i)) (10 ∷ rest))
    ∙ sym (given-head r.state.lines r.state.pending r.state.group head (10 ∷ rest) free)

-- the end of the text is read as two line feeds
pub end_given : (r : Fed) (lines : ℕ) (first : List ℕ) (before : Gathering) → lines ≡ r.state.lines
    → first ≡ r.state.pending → open_group before ≡ r.state.group
    → given (state_of lines first (open_group before)) (10 ∷ 10 ∷ []) ≡ last r.state
unfolding last
end_given r lines first before count line group =
    λ i. given (state_of (count i) (line i) (group i)) (10 ∷ 10 ∷ [])

-- the fields of a reader that has gone on
pub gone_on : (r : Fed) (c : Change) (pending : List ℕ) (group : List Numbered)
    → pending ≡ fold grown (cond c.ended [] r.state.pending) c.tail
    → group ≡ lines_after r.state.group c
    → record { fed = c.fed; state = state_of c.lines pending (group_of c.first group) }
    ≡ accepted r c
unfolding accepted
gone_on r c pending group p g =
    λ i. record { fed = c.fed; state = state_of c.lines (p i) (group_of c.first (g i)) }

pub group_gone : (ended keeps : Bool) (first : Option ℕ) (ls more new : List Numbered)
    → new ≡ cond ended (cond keeps ls [] ++ more) ls → ls ≡ lines_in (group_of first ls)
    → (ended ≡ false → keeps ≡ true) → (ended ≡ false → more ≡ [])
    → new ≡ cond keeps (lines_in (group_of first ls)) [] ++ more
group_gone true keeps first ls more new e kept k m = e ∙ ap (λ t. cond keeps t [] ++ more) kept
group_gone false keeps first ls more new e kept k m =
    e ∙ same_lines first ls more kept (m refl)
    ∙ ap (λ t. cond t (lines_in (group_of first ls)) [] ++ more) (sym (k refl))

-- the items that a change gives are no part of it
pub found_aside : (r : Fed) (c : Change) → accepted r (record c { found = [] }) ≡ accepted r c
unfolding accepted
found_aside r c = refl

-- whatever items they are
pub found_beside : (r : Fed) (c : Change) (items : List Item)
    → accepted r (record c { found = items }) ≡ accepted r c
unfolding accepted
found_beside r c items = refl
