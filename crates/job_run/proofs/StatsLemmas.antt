-- Reading a statistics file piece by piece: what was fed are the first bytes of the file.
use Rattle.std.proofs.Common.{◌≡◌, ℕ, ◌+◌, ◌<◌, ◌≤◌, ◌⊎◌, inl, inr, List, [], ◌++◌, length, take}
use Rattle.std.proofs.Common.{Option, Some, None, Ok, Err, refl, sym, ap, subst, ◌∙◌, arith}
use Rattle.std.proofs.Common.{length-append}
use Rattle.std.specs.FinMap as map
use Rattle.std.specs.Prelude.{IfErr, IfOk, IsSome, OnOk, Result}
use Rattle.geo_outside.specs.Files.{IsReadFrom, Told}
use Rattle.geo_outside.proofs.Reading.{AreFirst, first_all, first_long, first_more}
use Rattle.geo_terms.specs.SourceForm.{StatsParts}
use Rattle.nro_stats.specs.File.{longest, most, stats}
use Rattle.nro_stats.specs.Reading.{Kept, WasFed}
use Rattle.job_run.specs.declared.stop.Cause.TheVariants.{Missing, TooLong, TooMany}
use Rattle.job_run.specs.declared.stop.Stop.{Stop}
use Rattle.job_run.specs.declared.stop.Stop.TheVariants.{Blocked, ReadFailed}
use Rattle.job_run.specs.Sources.{HoldsStats, no_stats, rows_of}
use Rattle.job_run.specs.Stops.{IsHindered}
use Rattle.job_run.proofs.ActLemmas.{hindered, too_many, unreadable-long, unreadable-none}
use Rattle.job_run.proofs.ActLemmas.{unusable-unread, usable}
use Rattle.job_run.proofs.DumpLemmas.{none_first}

-- a reader was fed so many bytes, the first of the file, and they are not too many
pub record HasFed (slot : List ℕ) (told : Option Told) (name : List ℕ) (reader : Kept)
    (fed : ℕ) : Type 0 where
  pub text : List ℕ
  pub count : fed ≡ length text
  pub is : WasFed slot text reader
  pub fits : fed ≤ longest
  pub first : (w : Told) → told ≡ Some w → AreFirst (map.get w.held name) text

pub begun_fed : (slot : List ℕ) (told : Option Told) (name : List ℕ) (reader : Kept)
    → WasFed slot [] reader → HasFed slot told name reader 0
begun_fed slot told name reader is =
    record {
      text = [];
      count = refl;
      is = is;
      fits = omega arith;
      first = λ w e. none_first (map.get w.held name);
    }

-- one read
module _ (slot : List ℕ) (told : Option Told) (name : List ℕ) (old : Kept) (fed n : ℕ)
    (into piece : List ℕ) (h : HasFed slot told name old fed) (room : n ≤ length into)
    (is : piece ≡ take n into) where
  more_first : (w : Told) → told ≡ Some w → IsSome (map.get w.held name)
      → ((file : List ℕ) → map.get w.held name ≡ Some file → IsReadFrom file fed into n)
      → AreFirst (map.get w.held name) (h.text ++ piece)
  more_first w e some read =
      first_more (map.get w.held name) h.text into (h.text ++ piece) fed n h.count room some read
      (ap (λ p. h.text ++ p) is) (h.first w e)

  pub more_fed : (new : Kept) → length piece ≡ n
      → ((w : Told) → told ≡ Some w → IsSome (map.get w.held name))
      → ((w : Told) → told ≡ Some w → (file : List ℕ) → map.get w.held name ≡ Some file
      → IsReadFrom file fed into n)
      → ((s text : List ℕ) → WasFed s text old
      → WasFed s (text ++ piece) new × (length (text ++ piece) ≤ longest))
      → HasFed slot told name new (fed + n)
  more_fed new long some read takes =
      let taken = takes slot h.text h.is in
      let count = h.count in
      let both : fed + n ≡ length (h.text ++ piece) =
      omega (arith, count, long, length-append h.text piece) in
      record {
        text = h.text ++ piece;
        count = both;
        is = taken.0;
        fits = (let fits = taken.1 in omega (arith, both, fits));
        first = λ w e. more_first w e (some w e) (read w e);
      }

  pub piece_long : (why : Stop) (w : Told) → told ≡ Some w → IsSome (map.get w.held name)
      → ((file : List ℕ) → map.get w.held name ≡ Some file → IsReadFrom file fed into n)
      → ((s text : List ℕ) → WasFed s text old → IsHindered why
      (λ cause. (cause ≡ TooLong) × (longest < length (text ++ piece))))
      → IsHindered why (λ cause. no_stats slot (map.get w.held name) ≡ Some cause)
  piece_long why w e some read refused =
      hindered why _ _ (refused slot h.text h.is) (λ cause q.
      unusable-unread longest most (rows_of slot) (map.get w.held name) TooLong
      (unreadable-long longest (map.get w.held name)
      (first_long (map.get w.held name) (h.text ++ piece) longest q.1 (more_first w e some read)))
      ∙ ap Some (sym q.0))

-- the end of a file: all of it was read
module _ (slot : List ℕ) (told : Option Told) (name : List ℕ) (reader : Kept) (fed n : ℕ)
    (into : List ℕ) (r : Result StatsParts Stop) (h : HasFed slot told name reader fed)
    (none : n ≡ 0) (w : Told) (e : told ≡ Some w) (some : IsSome (map.get w.held name))
    (read : (file : List ℕ) → map.get w.held name ≡ Some file → IsReadFrom file fed into n) where
  all_there : map.get w.held name ≡ Some h.text
  all_there =
      first_all (map.get w.held name) h.text into fed n h.count none some read (h.first w e)

  short : longest < length h.text → ⊥
  short over = let fits = h.fits in let count = h.count in omega (arith, fits, count, over)

  pub whole_held : ((s text : List ℕ) → WasFed s text reader
      → IfOk r (λ found. found ≡ stats s text))
      → ((s text : List ℕ) → WasFed s text reader → OnOk r (rows_of s text ≤ most))
      → IfOk r (HoldsStats slot (map.get w.held name))
  whole_held found few = by_answer r (found slot h.text h.is) (few slot h.text h.is)
    where
      by_answer : (t : Result StatsParts Stop) → IfOk t (λ found. found ≡ stats slot h.text)
          → OnOk t (rows_of slot h.text ≤ most) → IfOk t (HoldsStats slot (map.get w.held name))
      by_answer (Ok found) is fits = record {
        bytes = h.text;
        there = all_there;
        is = is;
        usable =
            ap (no_stats slot) all_there ∙ usable longest most (rows_of slot) h.text short fits;
      }
      by_answer (Err why) is fits = tt

  pub whole_many : ((s text : List ℕ) → WasFed s text reader → IfErr r (λ why. IsHindered why
      (λ cause. (cause ≡ TooMany) × (most < rows_of s text))))
      → IfErr r (λ why. IsHindered why (λ cause. no_stats slot (map.get w.held name) ≡ Some cause))
  whole_many refused = by_answer r (refused slot h.text h.is)
    where
      by_answer : (t : Result StatsParts Stop) → IfErr t (λ why. IsHindered why
          (λ cause. (cause ≡ TooMany) × (most < rows_of slot h.text)))
          → IfErr t (λ why. IsHindered why
          (λ cause. no_stats slot (map.get w.held name) ≡ Some cause))
      by_answer (Ok found) q = tt
      by_answer (Err why) q =
          hindered why _ _ q (λ cause p. ap (no_stats slot) all_there
          ∙ too_many longest most (rows_of slot) h.text short p.1 ∙ ap Some (sym p.0))

-- a file that is not there
pub stats_hindered : (slot : List ℕ) (held : Option (List ℕ)) (why : Stop)
    → (why ≡ ReadFailed) ⊎ (why ≡ Blocked Missing) → (why ≡ Blocked Missing → held ≡ None)
    → IsHindered why (λ cause. no_stats slot held ≡ Some cause)
stats_hindered slot held why (inl failed) absent =
    subst (λ s. IsHindered s (λ cause. no_stats slot held ≡ Some cause)) (sym failed) tt
stats_hindered slot held why (inr missing) absent =
    subst (λ s. IsHindered s (λ cause. no_stats slot held ≡ Some cause)) (sym missing)
    (unusable-unread longest most (rows_of slot) held Missing
    (unreadable-none longest held (absent missing)))
