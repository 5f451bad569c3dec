-- A dump that was read keeps what a `Dump` promises.
use Rattle.std.proofs.Common.{◌≡◌, ℕ, List}
use Rattle.std.proofs.lemmas.List.Elements.{All-from_recursion}
use Rattle.geo_terms.specs.SourceForm.{IsDump}
use Rattle.geo_terms.specs.declared.statement.Reference.{Reference}
use Rattle.rpsl_reader.specs.Objects.{objects}
use Rattle.feed_refs.specs.Dumps.{AreApart, dump_parts, noted, references}
use Rattle.feed_refs.proofs.GroupLines.{text_fits}
use Rattle.feed_refs.proofs.NoteOrder.{ordered_rises}
use Rattle.feed_refs.proofs.Rising.{increasing_from_rises}

pub notes_apart : (slot text : List ℕ) → AreApart (noted slot (objects text))
notes_apart slot text = (text_fits slot text).2.distinct

pub in_form : (slot text : List ℕ) → IsDump (dump_parts slot text)
in_form slot text =
    let f = (text_fits slot text).2 in
    record {
      slots =
          All-from_recursion (λ (r : Reference). r.slot ≡ slot)
          (references slot (objects text)) f.slots;
      ordered = increasing_from_rises 1 _ f.refs;
      notes = increasing_from_rises 0 _ (ordered_rises (noted slot (objects text)) f.distinct);
    }
