-- A dump that is read for what matters here says what the whole dump says.
use Rattle.std.proofs.Common.{◌≡◌, ℕ, Bool, true, false, cond, List, [], ◌∷◌, ◌++◌, filter, find}
use Rattle.std.proofs.Common.{Option, Some, None, refl, sym, ap, ◌∙◌}
use Rattle.std.specs.Prelude.{◌||◌, codes, option_to_list}
use Rattle.std.specs.List.{cons_option, filter_map, flat_map, list_any}
use Rattle.std.proofs.lemmas.Bool.{cond-false, or_parts}
use Rattle.geo_addr.specs.Ranges.{Ends}
use Rattle.geo_terms.specs.PlaceForm.{same_text}
use Rattle.geo_terms.specs.declared.note.LineNote.{LineNote}
use Rattle.geo_terms.specs.declared.note.Rule.{Rule}
use Rattle.geo_terms.specs.declared.note.Rule.TheVariants.{P04, P05, P06}
use Rattle.rpsl_reader.specs.Selections.{class_of, wanted, wanted_of, wanted_parts, wants_class}
use Rattle.rpsl_reader.specs.Selections.{wants_name}
use Rattle.rpsl_reader.specs.declared.item.Attribute.{Attribute}
use Rattle.rpsl_reader.specs.declared.item.Item.{Item}
use Rattle.rpsl_reader.specs.declared.item.Item.TheVariants.{Whole, Passed}
use Rattle.rpsl_reader.specs.declared.item.Object.{Object}
use Rattle.feed_refs.specs.declared.feed_url.UrlRead.{UrlRead}
use Rattle.feed_refs.specs.declared.feed_url.UrlRead.TheVariants.{Refused, OtherScheme, Https}
use Rattle.feed_refs.specs.declared.kinds.RefKind.{RefKind}
use Rattle.feed_refs.specs.declared.kinds.RefKind.TheVariants.{Geofeed, Remark}
use Rattle.feed_refs.specs.declared.reference.Class.{Class}
use Rattle.feed_refs.specs.declared.reference.Class.TheVariants.{Other, Unread, Inet}
use Rattle.feed_refs.specs.declared.reference.What.TheVariants.{Nothing, NotInet, One, Void}
use Rattle.feed_refs.specs.Dumps.{noted, notes_of, reference_in, references, references_of}
use Rattle.feed_refs.specs.Kinds.{is_geofeed, is_last_modified, is_of_kind, is_reference_remark}
use Rattle.feed_refs.specs.Kinds.{url_text, used_kind}
use Rattle.feed_refs.specs.Readings.{ours}
use Rattle.feed_refs.specs.References.{class_named, found, found_among, found_as, found_by}
use Rattle.feed_refs.specs.References.{found_in, found_in_parts, modified_in, modified_of, note_by}
use Rattle.feed_refs.specs.References.{notes_from, notes_on, rule_on}
use Rattle.feed_refs.specs.Urls.{url_read}

abbrev asked : Attribute → Bool
asked a = wants_name ours a.name

abbrev kept_parts : List Attribute → List Attribute
kept_parts ps = filter asked ps

-- an attribute that is not asked for is none of those that matter
record Passes (a : Attribute) : Type 0 where
  geofeed : is_geofeed a ≡ false
  remark : is_reference_remark a ≡ false
  modified : is_last_modified a ≡ false

passes : (a : Attribute) → asked a ≡ false → Passes a
passes a e =
    let one : (is_geofeed a ≡ false)
    × ((same_text a.name (codes "remarks") || (same_text a.name (codes "last-modified") || false))
    ≡ false) = or_parts (is_geofeed a) _ e in
    let two : (same_text a.name (codes "remarks") ≡ false)
    × ((is_last_modified a || false) ≡ false) =
    or_parts (same_text a.name (codes "remarks")) _ one.1 in
    let three : (is_last_modified a ≡ false) × (false ≡ false) =
    or_parts (is_last_modified a) false two.1 in
    record { geofeed = one.0; remark = remark_not a two.0; modified = three.0 }
  where
    remark_not : (a : Attribute) → same_text a.name (codes "remarks") ≡ false
        → is_reference_remark a ≡ false
    remark_not a e = rw e refl

kind_not : (kind : RefKind) (a : Attribute) → Passes a → is_of_kind kind a ≡ false
kind_not Geofeed a p = p.geofeed
kind_not Remark a p = p.remark

-- what is asked of the attributes that are kept is what is asked of all
any_same : (p : Attribute → Bool) → ((a : Attribute) → asked a ≡ false → p a ≡ false)
    → (ps : List Attribute) → list_any p (kept_parts ps) ≡ list_any p ps
any_same p not_asked [] = refl
any_same p not_asked (a ∷ ps) =
    let later = any_same p not_asked ps in
    let one : (b : Bool) → asked a ≡ b
    → list_any p (cond b (a ∷ kept_parts ps) (kept_parts ps)) ≡ (p a || list_any p ps) =
    λ b. elim b as (λ t. asked a ≡ t
    → list_any p (cond t (a ∷ kept_parts ps) (kept_parts ps)) ≡ (p a || list_any p ps)) [
      | true ↦ λ e. ap (λ t. p a || t) later
      | false ↦ λ e. later ∙ sym (ap (λ t. t || list_any p ps) (not_asked a e))
    ] in
    one (asked a) refl

filter_same : (p : Attribute → Bool) → ((a : Attribute) → asked a ≡ false → p a ≡ false)
    → (ps : List Attribute) → filter p (kept_parts ps) ≡ filter p ps
filter_same p not_asked [] = refl
filter_same p not_asked (a ∷ ps) =
    let later = filter_same p not_asked ps in
    let one : (b : Bool) → asked a ≡ b → filter p (cond b (a ∷ kept_parts ps) (kept_parts ps))
    ≡ cond (p a) (a ∷ filter p ps) (filter p ps) =
    λ b. elim b as (λ t. asked a ≡ t → filter p (cond t (a ∷ kept_parts ps) (kept_parts ps))
    ≡ cond (p a) (a ∷ filter p ps) (filter p ps)) [
      | true ↦ λ e. ap (λ t. cond (p a) (a ∷ t) t) later
      | false ↦ λ e. later ∙ sym (cond-false (p a) (a ∷ filter p ps) (filter p ps) (not_asked a e))
    ] in
    one (asked a) refl

find_same : (p : Attribute → Bool) → ((a : Attribute) → asked a ≡ false → p a ≡ false)
    → (ps : List Attribute) → find p (kept_parts ps) ≡ find p ps
find_same p not_asked [] = refl
find_same p not_asked (a ∷ ps) =
    let later = find_same p not_asked ps in
    let one : (b : Bool) → asked a ≡ b
    → find p (cond b (a ∷ kept_parts ps) (kept_parts ps)) ≡ cond (p a) (Some a) (find p ps) =
    λ b. elim b as (λ t. asked a ≡ t
    → find p (cond t (a ∷ kept_parts ps) (kept_parts ps)) ≡ cond (p a) (Some a) (find p ps)) [
      | true ↦ λ e. ap (λ t. cond (p a) (Some a) t) later
      | false ↦ λ e. later ∙ sym (cond-false (p a) (Some a) (find p ps) (not_asked a e))
    ] in
    one (asked a) refl

-- an attribute that does not matter has no rule
no_rule : (kind : RefKind) (used : Option Rule) (seen : Bool) (a : Attribute) → Passes a
    → rule_on kind used seen a ≡ None
no_rule kind used seen a p = rw (kind_not kind a p, p.remark, p.modified) refl

notes_same : (kind : RefKind) (used : Option Rule) (seen : Bool) (ps : List Attribute)
    → notes_from kind used seen (kept_parts ps) ≡ notes_from kind used seen ps
notes_same kind used seen [] = refl
notes_same kind used seen (a ∷ ps) =
    let whole : List LineNote =
    option_to_list (note_by a.line (rule_on kind used seen a)) ++ notes_from kind used
    (seen || is_last_modified a) ps in
    let one : (b : Bool) → asked a ≡ b
    → notes_from kind used seen (cond b (a ∷ kept_parts ps) (kept_parts ps)) ≡ whole =
    λ b. elim b as (λ t. asked a ≡ t
    → notes_from kind used seen (cond t (a ∷ kept_parts ps) (kept_parts ps)) ≡ whole) [
      | true ↦ λ e. ap (λ t. option_to_list (note_by a.line (rule_on kind used seen a)) ++ t)
          (notes_same kind used (seen || is_last_modified a) ps)
      | false ↦ λ e.
          notes_same kind used seen ps
          ∙ ap (λ t. notes_from kind used t ps)
          (sym (seen_stays seen (is_last_modified a) (passes a e).modified))
          ∙ sym (ap (λ t. option_to_list (note_by a.line t) ++ notes_from kind used
          (seen || is_last_modified a) ps) (no_rule kind used seen a (passes a e)))
    ] in
    one (asked a) refl
  where
    seen_stays : (seen b : Bool) → b ≡ false → (seen || b) ≡ seen
    seen_stays true b e = refl
    seen_stays false b e = e

-- two lists of attributes that agree in what matters come to the same
module _ (slot : List ℕ) (range : Ends) (ps qs : List Attribute)
    (kinds : used_kind ps ≡ used_kind qs)
    (notes_agree : (kind : RefKind) (used : Option Rule) → notes_on kind used ps
    ≡ notes_on kind used qs) (times : modified_of ps ≡ modified_of qs) where
  noted_same : (used : Option Rule)
      → notes_on (used_kind ps) used ps ≡ notes_on (used_kind qs) used qs
  noted_same used = ap (λ kind. notes_on kind used ps) kinds ∙ notes_agree (used_kind qs) used

  same_by : (a : Attribute) (u : UrlRead) → found_by slot range ps a u ≡ found_by slot range qs a u
  same_by a Refused = λ i. record { what = Nothing; notes = noted_same (Some P05) i }
  same_by a OtherScheme = λ i. record { what = Nothing; notes = noted_same (Some P06) i }
  same_by a (Https url) = λ i. record {
    what =
        One (record { slot = slot; line = a.line; range = range; modified = times i; url = url });
    notes = noted_same None i;
  }

  same_among : (us : List Attribute) → found_among slot range ps us ≡ found_among slot range qs us
  same_among [] = refl
  same_among (a ∷ []) =
      ap (λ kind. found_by slot range ps a (url_read (url_text kind a))) kinds
      ∙ same_by a (url_read (url_text (used_kind qs) a))
  same_among (a ∷ b ∷ more) = λ i. record { what = Void; notes = noted_same (Some P04) i }

found_in_same : (slot : List ℕ) (range : Ends) (p : Attribute) (ps : List Attribute)
    → found_in slot range (p ∷ kept_parts ps) ≡ found_in slot range (p ∷ ps)
found_in_same slot range p ps =
    let kinds : used_kind (p ∷ kept_parts ps) ≡ used_kind (p ∷ ps) =
    ap (λ t. cond (is_geofeed p || t) Geofeed Remark)
    (any_same is_geofeed (λ a e. (passes a e).geofeed) ps) in
    let notes_agree : (kind : RefKind) (used : Option Rule)
    → notes_on kind used (p ∷ kept_parts ps) ≡ notes_on kind used (p ∷ ps) =
    λ kind used. ap (λ t. option_to_list (note_by p.line (rule_on kind used false p)) ++ t)
    (notes_same kind used (false || is_last_modified p) ps) in
    let times : modified_of (p ∷ kept_parts ps) ≡ modified_of (p ∷ ps) =
    ap (λ t. modified_in (cond (is_last_modified p) (Some p) t))
    (find_same is_last_modified (λ a e. (passes a e).modified) ps) in
    let used : filter (is_of_kind (used_kind (p ∷ kept_parts ps))) (p ∷ kept_parts ps)
    ≡ filter (is_of_kind (used_kind (p ∷ ps))) (p ∷ ps) =
    ap (λ kind. filter (is_of_kind kind) (p ∷ kept_parts ps)) kinds
    ∙ ap (λ t. cond (is_of_kind (used_kind (p ∷ ps)) p) (p ∷ t) t) (filter_same
    (is_of_kind (used_kind (p ∷ ps))) (λ a e. kind_not (used_kind (p ∷ ps)) a (passes a e)) ps) in
    ap (λ us. found_among slot range (p ∷ kept_parts ps) us) used
    ∙ same_among slot range (p ∷ kept_parts ps) (p ∷ ps) kinds notes_agree times
    (filter (is_of_kind (used_kind (p ∷ ps))) (p ∷ ps))

found_parts_same : (slot : List ℕ) (ps : List Attribute)
    → found_in_parts slot (wanted_parts ours ps) ≡ found_in_parts slot ps
found_parts_same slot [] = refl
found_parts_same slot (p ∷ ps) =
    let one : (c : Class)
    → found_as slot p.line (p ∷ kept_parts ps) c ≡ found_as slot p.line (p ∷ ps) c =
    λ c. elim c as
    (λ t. found_as slot p.line (p ∷ kept_parts ps) t ≡ found_as slot p.line (p ∷ ps) t) [
      | Other ↦ refl
      | Unread ↦ refl
      | Inet range ↦ found_in_same slot range p ps
    ] in
    one (class_named p)

-- an object of another class says nothing
class_not : (p : Attribute) → wants_class ours p.name ≡ false → class_named p ≡ Other
unfolding class_named
class_not p e =
    let one : (same_text p.name (codes "inetnum") ≡ false)
    × ((same_text p.name (codes "inet6num") || false) ≡ false) =
    or_parts (same_text p.name (codes "inetnum")) _ e in
    let two : (same_text p.name (codes "inet6num") ≡ false) × (false ≡ false) =
    or_parts (same_text p.name (codes "inet6num")) false one.1 in
    cond-false (same_text p.name (codes "inetnum")) _ _ one.0
    ∙ cond-false (same_text p.name (codes "inet6num")) _ Other two.0

other_class : (slot : List ℕ) (ps : List Attribute) → wants_class ours (class_of ps) ≡ false
    → found_in_parts slot ps ≡ record { what = NotInet; notes = [] }
other_class slot [] e = refl
other_class slot (p ∷ ps) e = ap (λ c. found_as slot p.line (p ∷ ps) c) (class_not p e)

found_same : (slot : List ℕ) (o : Object)
    → found slot (record { line = o.line; parts = wanted_parts ours o.parts }) ≡ found slot o
unfolding found
found_same slot o = found_parts_same slot o.parts

found_nothing : (slot : List ℕ) (o : Object) → wants_class ours (class_of o.parts) ≡ false
    → found slot o ≡ record { what = NotInet; notes = [] }
unfolding found
found_nothing slot o e = other_class slot o.parts e

abbrev less : Object → Item
less o = Whole (record { line = o.line; parts = wanted_parts ours o.parts })

pub noted_wanted : (slot : List ℕ) (items : List Item)
    → noted slot (wanted ours items) ≡ noted slot items
unfolding noted wanted
noted_wanted slot [] = refl
noted_wanted slot (Passed line rule ∷ more) =
    ap (λ t. notes_of slot (Passed line rule) ++ t) (noted_wanted slot more)
noted_wanted slot (Whole o ∷ more) =
    let rest : List Item = filter_map (wanted_of ours) more in
    let one : (b : Bool) → wants_class ours (class_of o.parts) ≡ b
    → flat_map (notes_of slot) (cons_option (cond b (Some (less o)) None) rest)
    ≡ (found slot o).notes ++ flat_map (notes_of slot) more =
    λ b. elim b as (λ t. wants_class ours (class_of o.parts) ≡ t
    → flat_map (notes_of slot) (cons_option (cond t (Some (less o)) None) rest)
    ≡ (found slot o).notes ++ flat_map (notes_of slot) more) [
      | true ↦ λ e. ap (λ f. f.notes ++ flat_map (notes_of slot) rest) (found_same slot o)
          ∙ ap (λ t. (found slot o).notes ++ t) (noted_wanted slot more)
      | false ↦ λ e. noted_wanted slot more
          ∙ sym (ap (λ f. f.notes ++ flat_map (notes_of slot) more) (found_nothing slot o e))
    ] in
    one (wants_class ours (class_of o.parts)) refl

pub references_wanted : (slot : List ℕ) (items : List Item)
    → references slot (wanted ours items) ≡ references slot items
unfolding references wanted
references_wanted slot [] = refl
references_wanted slot (Passed line rule ∷ more) = references_wanted slot more
references_wanted slot (Whole o ∷ more) =
    let rest : List Item = filter_map (wanted_of ours) more in
    let one : (b : Bool) → wants_class ours (class_of o.parts) ≡ b
    → flat_map (references_of slot) (cons_option (cond b (Some (less o)) None) rest)
    ≡ reference_in (found slot o).what ++ flat_map (references_of slot) more =
    λ b. elim b as (λ t. wants_class ours (class_of o.parts) ≡ t
    → flat_map (references_of slot) (cons_option (cond t (Some (less o)) None) rest)
    ≡ reference_in (found slot o).what ++ flat_map (references_of slot) more) [
      | true ↦ λ e.
          ap (λ f. reference_in f.what ++ flat_map (references_of slot) rest) (found_same slot o)
          ∙ ap (λ t. reference_in (found slot o).what ++ t) (references_wanted slot more)
      | false ↦ λ e. references_wanted slot more ∙ sym (ap
          (λ f. reference_in f.what ++ flat_map (references_of slot) more) (found_nothing slot o e))
    ] in
    one (wants_class ours (class_of o.parts)) refl
