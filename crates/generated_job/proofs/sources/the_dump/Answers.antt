-- The dump is within its limits, and is read whole.
use Rattle.std.proofs.Common.{◌≡◌, ◌∙◌, [], ap}
use Rattle.geo_terms.specs.declared.source.SourceFault.TheVariants as faults
use Rattle.generated_job.proofs.FitLemmas.{at_slot, dump_text_is, fed_memory, whole_dump}
use Rattle.generated_job.proofs.FitLemmas.{whole_memory}
use Rattle.generated_job.proofs.sources.the_dump.Goals as goal

pub memory_of-requires : goal.memory_of-requires
memory_of-requires c =
    fed_memory _ c.as_bytes.result.now c.in_ok-reader.reader c.in-Err.fault
    (c.as_bytes.ensures.value ∙ dump_text_is) c.in_ok-reader.ensures
    (λ other before is.
    c.in-Err.ensures.answer
    (λ out. other (let e : c.in-Err.fault ≡ faults.Memory = cc in e)) before is)

pub memory_of-requires-in-Err-finish : goal.memory_of-requires-in-Err-finish
memory_of-requires-in-Err-finish c =
    whole_memory _ c.as_bytes.result.now c.feed.new.self c.in-Err-finish.fault
    (c.as_bytes.ensures.value ∙ dump_text_is)
    (c.in-Ok.ensures.read (λ out. cc) [] (at_slot _ [] _ c.in_ok-reader.ensures))
    (λ other all its.
    c.in-Err-finish.ensures.answer
    (λ out. other (let e : c.in-Err-finish.fault ≡ faults.Memory = cc in e)) all its)

pub returns-in-Ok-finish : goal.returns-in-Ok-finish
returns-in-Ok-finish c =
    whole_dump c.in_ok-reader.reader.slot c.as_bytes.result.now c.feed.new.self
    c.in-Ok-finish.dump (c.as_bytes.ensures.value ∙ dump_text_is)
    (ap (λ q. q.slot) c.in_ok-reader.ensures)
    (c.in-Ok.ensures.read (λ out. cc) [] (at_slot _ [] _ c.in_ok-reader.ensures))
    (λ all its. c.in-Ok-finish.ensures.answer (λ out. cc) all its)
