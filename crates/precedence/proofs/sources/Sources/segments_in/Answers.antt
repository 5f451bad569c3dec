use Rattle.std.proofs.Common.{ℕ, List, Contains, sym, subst}
use Rattle.std.specs.List.{All, Any}
use Rattle.std.specs.List.Sorted.{IsNonDecreasing}
use Rattle.std.specs.Prelude.{IsTrue}
use Rattle.geo_addr.specs.Ranges.{Ends, IsWithin}
use Rattle.source_changes.specs.Touched.{is_touched}
use Rattle.cut_segments.proofs.InsideLemmas.{rises}
use Rattle.cut_segments.specs.Segments.{AreSegments, starts_of}
use Rattle.precedence.proofs.ChunkLemmas.{in_chunk, segments_of_chunk}
use Rattle.precedence.proofs.sources.Sources.segments_in.Goals as goal

pub bounds_in-requires-clause-within : goal.bounds_in-requires-clause-within
bounds_in-requires-clause-within c a on =
    (in_chunk c.args.touched.now c.in_ok-grounds.grounds.items c.args.chunk
    c.in_ok-grounds.ensures.same a (subst (λ (gs : List Ends). IsTrue (is_touched gs a))
    c.as_slice.ensures.value on)).1

pub segments_of-requires-clause-ascending : goal.segments_of-requires-clause-ascending
segments_of-requires-clause-ascending c =
    subst IsNonDecreasing (sym c.as_slice-4.ensures.value)
    (rises c.in_ok-points.points.items c.in_ok-points.ensures.ascending)

pub returns : goal.returns
returns c =
    let grounds = c.in_ok-grounds.grounds.items in
    let points = c.in_ok-points.points.items in
    let out = c.in_ok-segments.segments.items in
    segments_of_chunk c.args.touched.now grounds c.args.chunk c.in_ok-grounds.ensures.same
    c.args.self.now c.as_slice-2.result.now points out c.in_ok-points.ensures.exact
    (λ a within on. subst (λ (rs : List Ends). Any (λ r. IsWithin r a) rs)
    (sym c.as_slice-2.ensures.value) (c.in_ok-bounds.ensures.covered a within
    (subst (λ (gs : List Ends). IsTrue (is_touched gs a)) (sym c.as_slice.ensures.value) on)))
    c.in_ok-grounds.ensures.begun
    (subst (λ (gs : List Ends). AreSegments gs points out) c.as_slice-3.ensures.value
    (subst (λ (ps : List ℕ). AreSegments c.as_slice-3.result.now ps out) c.as_slice-4.ensures.value
    c.in_ok-segments.ensures.segments))
    (subst (λ (gs : List Ends). All (λ (r : Ends). Contains (starts_of gs points) r.first) out)
    c.as_slice-3.ensures.value
    (subst (λ (ps : List ℕ).
    All (λ (r : Ends). Contains (starts_of c.as_slice-3.result.now ps) r.first) out)
    c.as_slice-4.ensures.value c.in_ok-segments.ensures.begun))
