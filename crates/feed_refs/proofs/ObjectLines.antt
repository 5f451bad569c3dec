-- The lines on which an object's notes and its reference stand are those of its attributes.
use Rattle.std.proofs.Common.{◌≡◌, ℕ, ◌+◌, ◌≤◌, Bool, false, cond, List, [], ◌∷◌, ◌++◌, map, filter}
use Rattle.std.proofs.Common.{Option, Some, None, ◌⊎◌, inl, inr, refl, sym, subst, arith}
use Rattle.std.specs.Prelude.{◌||◌, option_to_list}
use Rattle.std.specs.List.{AllByRecursion}
use Rattle.std.proofs.lemmas.Bool.{cond_both}
use Rattle.geo_addr.specs.Ranges.{Ends}
use Rattle.geo_terms.specs.SourceForm.{note_lines}
use Rattle.geo_terms.specs.declared.note.LineNote.{LineNote}
use Rattle.geo_terms.specs.declared.note.Rule.{Rule}
use Rattle.geo_terms.specs.declared.note.Rule.TheVariants.{P04, P05, P06}
use Rattle.geo_terms.specs.declared.statement.Reference.{Reference}
use Rattle.rpsl_reader.specs.declared.item.Attribute.{Attribute}
use Rattle.rpsl_reader.specs.declared.item.Object.{Object}
use Rattle.feed_refs.specs.declared.feed_url.UrlRead.{UrlRead}
use Rattle.feed_refs.specs.declared.feed_url.UrlRead.TheVariants.{Refused, OtherScheme, Https}
use Rattle.feed_refs.specs.declared.kinds.RefKind.{RefKind}
use Rattle.feed_refs.specs.declared.reference.Class.{Class}
use Rattle.feed_refs.specs.declared.reference.Class.TheVariants.{Other, Unread, Inet}
use Rattle.feed_refs.specs.declared.reference.FoundRef.{FoundRef}
use Rattle.feed_refs.specs.Dumps.{reference_in}
use Rattle.feed_refs.specs.Kinds.{is_last_modified, is_of_kind, used_kind, url_text}
use Rattle.feed_refs.specs.References.{class_named, found, found_among, found_as, found_by}
use Rattle.feed_refs.specs.References.{found_in_parts, note_by, notes_from, rule_on}
use Rattle.feed_refs.specs.Urls.{url_read}
use Rattle.feed_refs.proofs.Rising.{In, Rises, low-le-in, rises_from_less}

-- the lines of attributes, and those of references
abbrev pub part_lines : List Attribute → List ℕ
part_lines = map (λ a. a.line)

abbrev pub reference_lines : List Reference → List ℕ
reference_lines = map (λ r. r.line)

-- a note on a line before other notes
one_rises : (low line : ℕ) (r : Option Rule) (ns : List LineNote) → low ≤ line
    → Rises (line + 1) (note_lines ns)
    → Rises low (note_lines (option_to_list (note_by line r) ++ ns))
one_rises low line None ns le h =
    rises_from_less low (line + 1) (note_lines ns) (omega arith) h
one_rises low line (Some rule) ns le h = (le, h)

one_in : (line : ℕ) (r : Option Rule) (ns : List LineNote) (x : ℕ)
    → In x (note_lines (option_to_list (note_by line r) ++ ns))
    → (x ≡ line) ⊎ In x (note_lines ns)
one_in line None ns x i = inr i
one_in line (Some rule) ns x i = i

module _ (kind : RefKind) (used : Option Rule) where
  notes_rise : (seen : Bool) (parts : List Attribute) (low : ℕ) → Rises low (part_lines parts)
      → Rises low (note_lines (notes_from kind used seen parts))
  notes_rise seen [] low r = tt
  notes_rise seen (a ∷ more) low r =
      one_rises low a.line (rule_on kind used seen a)
      (notes_from kind used (seen || is_last_modified a) more) r.0
      (notes_rise (seen || is_last_modified a) more (a.line + 1) r.1)

  notes_in : (seen : Bool) (parts : List Attribute) (x : ℕ)
      → In x (note_lines (notes_from kind used seen parts)) → In x (part_lines parts)
  notes_in seen [] x i = i
  notes_in seen (a ∷ more) x i =
      elim (one_in a.line (rule_on kind used seen a)
      (notes_from kind used (seen || is_last_modified a) more) x i) [
        | inl e ↦ inl e
        | inr j ↦ inr (notes_in (seen || is_last_modified a) more x j)
      ]

-- what is found of an object stands on lines of its attributes, in order
pub record Stands (slot : List ℕ) (low : ℕ) (parts : List Attribute) (f : FoundRef) : Type 0 where
  pub rises : Rises low (note_lines f.notes)
  pub inside : (x : ℕ) → In x (note_lines f.notes) → In x (part_lines parts)
  pub refs_rise : Rises low (reference_lines (reference_in f.what))
  pub refs_inside : (x : ℕ) → In x (reference_lines (reference_in f.what)) → In x (part_lines parts)
  pub slots : AllByRecursion (λ r. r.slot ≡ slot) (reference_in f.what)

some_in : (p : Attribute → Bool) (parts : List Attribute) (x : ℕ)
    → In x (part_lines (filter p parts)) → In x (part_lines parts)
some_in p [] x i = i
some_in p (a ∷ more) x i =
    let one : In x (part_lines (cond (p a) (a ∷ filter p more) (filter p more)))
    → In x (part_lines (a ∷ more)) =
    cond_both (p a) (a ∷ filter p more) (filter p more)
    (λ ps. In x (part_lines ps) → In x (part_lines (a ∷ more)))
    (λ e j. elim j [ inl h ↦ inl h | inr k ↦ inr (some_in p more x k) ])
    (λ e j. inr (some_in p more x j)) in
    one i

module _ (slot : List ℕ) (low : ℕ) (range : Ends) (parts : List Attribute)
    (r : Rises low (part_lines parts)) where
  stands_by : (a : Attribute) (u : UrlRead) → In a.line (part_lines parts)
      → Stands slot low parts (found_by slot range parts a u)
  stands_by a Refused here = record {
    rises = notes_rise (used_kind parts) (Some P05) false parts low r;
    inside = notes_in (used_kind parts) (Some P05) false parts;
    refs_rise = tt;
    refs_inside = λ x i. absurd i;
    slots = tt;
  }
  stands_by a OtherScheme here = record {
    rises = notes_rise (used_kind parts) (Some P06) false parts low r;
    inside = notes_in (used_kind parts) (Some P06) false parts;
    refs_rise = tt;
    refs_inside = λ x i. absurd i;
    slots = tt;
  }
  stands_by a (Https url) here = record {
    rises = notes_rise (used_kind parts) None false parts low r;
    inside = notes_in (used_kind parts) None false parts;
    refs_rise = (low-le-in low (part_lines parts) a.line r here, tt);
    refs_inside = λ x i. elim i [
      | inl e ↦ subst (λ y. In y (part_lines parts)) (sym e) here
      | inr j ↦ absurd j
    ];
    slots = (refl, tt);
  }

  stands_among : (us : List Attribute) → ((x : ℕ) → In x (part_lines us) → In x (part_lines parts))
      → Stands slot low parts (found_among slot range parts us)
  stands_among [] inside = record {
    rises = tt;
    inside = λ x i. absurd i;
    refs_rise = tt;
    refs_inside = λ x i. absurd i;
    slots = tt;
  }
  stands_among (a ∷ []) inside =
      stands_by a (url_read (url_text (used_kind parts) a)) (inside a.line (inl refl))
  stands_among (a ∷ b ∷ more) inside = record {
    rises = notes_rise (used_kind parts) (Some P04) false parts low r;
    inside = notes_in (used_kind parts) (Some P04) false parts;
    refs_rise = tt;
    refs_inside = λ x i. absurd i;
    slots = tt;
  }

stands_as : (slot : List ℕ) (low : ℕ) (a : Attribute) (more : List Attribute) (c : Class)
    → Rises low (part_lines (a ∷ more))
    → Stands slot low (a ∷ more) (found_as slot a.line (a ∷ more) c)
stands_as slot low a more Other r = record {
  rises = tt;
  inside = λ x i. absurd i;
  refs_rise = tt;
  refs_inside = λ x i. absurd i;
  slots = tt;
}
stands_as slot low a more Unread r = record {
  rises = (r.0, tt);
  inside = λ x i. elim i [ inl e ↦ inl e | inr j ↦ absurd j ];
  refs_rise = tt;
  refs_inside = λ x i. absurd i;
  slots = tt;
}
stands_as slot low a more (Inet range) r =
    stands_among slot low range (a ∷ more) r (filter (is_of_kind (used_kind (a ∷ more))) (a ∷ more))
    (some_in (is_of_kind (used_kind (a ∷ more))) (a ∷ more))

pub stands : (slot : List ℕ) (low : ℕ) (o : Object) → Rises low (part_lines o.parts)
    → Stands slot low o.parts (found slot o)
unfolding found
stands slot low o r =
    let one : (parts : List Attribute)
    → Rises low (part_lines parts) → Stands slot low parts (found_in_parts slot parts) =
    λ parts. elim parts as
    (λ ps. Rises low (part_lines ps) → Stands slot low ps (found_in_parts slot ps)) [
      | [] ↦ λ h. record {
        rises = tt;
        inside = λ x i. absurd i;
        refs_rise = tt;
        refs_inside = λ x i. absurd i;
        slots = tt;
      }
      | a ∷ more ↦ λ h. stands_as slot low a more (class_named a) h
    ] in
    one o.parts r
