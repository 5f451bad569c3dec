-- Reading where a value was packed gives that value.
use Rattle.std.proofs.Common.{◌≡◌, ℕ, zero, suc, ◌<◌, ◌≤◌, List, [], ◌∷◌, ◌++◌, length, Ok, refl}
use Rattle.std.proofs.Common.{ap, ◌∙◌, arith, All}
use Rattle.std.proofs.lemmas.List.Elements.{All-head, All-tail}
use Rattle.std.specs.Prelude.{slice_index, slice_index_or}
use Rattle.std.proofs.lemmas.List.{length-append}
use Rattle.mmdb_data.specs.ValueTree.{ValueTree, CanBePacked, CanBeReadBack, IsWithinLimits}
use Rattle.mmdb_data.specs.Reading.{reads}
use Rattle.mmdb_data.specs.Packing.{Packed, nothing_packed, in_full, all_in_full, packed}
use Rattle.mmdb_data.specs.Packing.{offsets_in, packed_offsets, Begins}
use Rattle.mmdb_data.specs.Laws.{PackedReadsBack, PackedReadsEach, SpellingsTellApart}
use Rattle.mmdb_data.proofs.ReadsBack.{reads_full, spelled_apart}
use Rattle.mmdb_data.proofs.Packs.{AllStand, begins_append, begins_trans, all_grow, in_full_grows}
use Rattle.mmdb_data.proofs.Packs.{top_appends}

begins_len : (front whole : List ℕ) → Begins front whole → length front ≤ length whole
begins_len front whole begins = omega (arith, ap length begins.1, length-append front begins.0)

all_stand : (whole : List ℕ) (values : List ValueTree) → All CanBePacked values → (before : Packed)
    → Begins (all_in_full values before).bytes whole → AllStand whole before.full
    → AllStand whole (all_in_full values before).full
all_stand whole [] can before begins stand = stand
all_stand whole (value ∷ values) can before begins stand =
    let next = in_full value before in
    let first = All-head CanBePacked value values can in
    let begun = begins_trans next.bytes (all_in_full values next).bytes whole
    (all_grow values next).bytes begins in
    let one = top_appends whole value first.0.0 first.1 before begun stand in
    all_stand whole values (All-tail CanBePacked value values can) next begins one.all

-- a value that is put behind others
pub put_is_read : (before : List ValueTree) (value : ValueTree) (later : List ℕ)
    → All CanBePacked before
    → CanBePacked value → IsWithinLimits value
    → reads ((in_full value (all_in_full before nothing_packed)).bytes ++ later)
    (length (all_in_full before nothing_packed).bytes) ≡ Ok value
put_is_read before value later all can within =
    let section = all_in_full before nothing_packed in
    let next = in_full value section in
    let whole = next.bytes ++ later in
    let begins = begins_append next.bytes later in
    let begun = begins_trans section.bytes next.bytes whole
    (in_full_grows value section).bytes begins in
    let stand = all_stand whole before all nothing_packed begun tt in
    let one = top_appends whole value can.0.0 can.1 section begins stand in
    reads_full whole value (length section.bytes) (length next.bytes) one.here can.0.1 within

all_and_one : (values : List ValueTree) (value : ValueTree) (section : Packed)
    → all_in_full (values ++ value ∷ []) section ≡ in_full value (all_in_full values section)
all_and_one [] value section = refl
all_and_one (v ∷ values) value section = all_and_one values value (in_full v section)

pub packed_back : PackedReadsBack
packed_back before value later all can within =
    ap (λ (s : Packed). reads (s.bytes ++ later) (length (packed before)))
    (all_and_one before value nothing_packed) ∙ put_is_read before value later all can within

each_in : (whole : List ℕ) (values : List ValueTree) (default : ValueTree)
    → All CanBeReadBack values
    → (before : Packed) → Begins (all_in_full values before).bytes whole
    → AllStand whole before.full
    → (k : ℕ) → k < length values
    → reads whole (slice_index (offsets_in values before) k) ≡ Ok
    (slice_index_or values k default)
each_in whole [] default can before begins stand k inside = absurd (omega (arith, inside))
each_in whole (value ∷ values) default can before begins stand zero inside =
    let next = in_full value before in
    let first = All-head CanBeReadBack value values can in
    let begun = begins_trans next.bytes (all_in_full values next).bytes whole
    (all_grow values next).bytes begins in
    let one = top_appends whole value first.0.0.0 first.0.1 before begun stand in
    reads_full whole value (length before.bytes) (length next.bytes) one.here first.0.0.1 first.1
each_in whole (value ∷ values) default can before begins stand (suc k) inside =
    let next = in_full value before in
    let first = All-head CanBeReadBack value values can in
    let begun = begins_trans next.bytes (all_in_full values next).bytes whole
    (all_grow values next).bytes begins in
    let one = top_appends whole value first.0.0.0 first.0.1 before begun stand in
    each_in whole values default (All-tail CanBeReadBack value values can) next begins one.all k
    (omega (arith, inside))

pub packed_each : PackedReadsEach
packed_each values default later can k inside =
    each_in (packed values ++ later) values default can nothing_packed
    (begins_append (packed values) later) tt k inside

offsets-le : (values : List ValueTree) (section : Packed) (k : ℕ)
    → slice_index (offsets_in values section) k ≤ length (all_in_full values section).bytes
offsets-le [] section k = omega arith
offsets-le (value ∷ values) section zero =
    begins_len section.bytes (all_in_full (value ∷ values) section).bytes
    (all_grow (value ∷ values) section).bytes
offsets-le (value ∷ values) section (suc k) = offsets-le values (in_full value section) k

-- no value begins behind the section
pub packed_offsets-le : (values : List ValueTree) (k : ℕ)
    → slice_index (packed_offsets values) k ≤ length (packed values)
packed_offsets-le values k = offsets-le values nothing_packed k

offsets-len : (values : List ValueTree) (section : Packed)
    → length (offsets_in values section) ≡ length values
offsets-len [] section = refl
offsets-len (value ∷ values) section = ap suc (offsets-len values (in_full value section))

pub tells_apart : SpellingsTellApart
tells_apart a b can_a can_b same = spelled_apart a b can_a.0.0 can_b.0.0 can_a.1 can_b.1 same
