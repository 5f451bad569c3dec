-- Feeds that are set together: the reads, the counts and the sets of a group.
use Rattle.std.proofs.Common.{◌≡◌, ℕ, zero, suc, ◌+◌, ◌<◌, inl, inr, Bool, true}
use Rattle.std.proofs.Common.{false, ◌&&◌, List, [], ◌∷◌, ◌++◌, length, get_or, take, map, Option}
use Rattle.std.proofs.Common.{Some, None, Result, Ok, Err, refl, sym, ◌∙◌, ap, subst, arith}
use Rattle.std.proofs.Common.{add-one}
use Rattle.std.proofs.Math.Seq.{take-suc}
use Rattle.std.proofs.lemmas.Slice.Zip.{all_zipped_more}
use Rattle.std.proofs.lemmas.List.{append-nil, append_assoc, length-map, take-map}
use Rattle.std.proofs.lemmas.Option.{slice_get_read, slice_get_within}
use Rattle.std.specs.List.{AllZip, list_all}
use Rattle.std.specs.Prelude.{slice_get, option_map}
use Rattle.std.specs.FinMap as files
use Rattle.feed_csv.specs.File.{feed, longest}
use Rattle.geo_outside.specs.Files.{Told}
use Rattle.geo_terms.specs.SourceForm.{FeedParts}
use Rattle.source_changes.specs.Changes.{SetFeed}
use Rattle.update_session.specs.Kept.{Held as Session}
use Rattle.update_session.specs.Calls.{HaveChanged}
use Rattle.update_session.specs.Standing.{Standing, Stands, StandingStays, changed}
use Rattle.update_session.specs.State.{State}
use Rattle.job_lines.specs.declared.act.Act.{Act}
use Rattle.job_lines.specs.declared.act.Act.TheVariants as acts
use Rattle.job_lines.specs.declared.act.Act.TheVariants.{Feed, Emit}
use Rattle.job_lines.specs.declared.job.Step.{Step}
use Rattle.job_run.specs.declared.feeds.Held.{Held}
use Rattle.job_run.specs.declared.stop.Cause.{Cause}
use Rattle.job_run.specs.declared.stop.Stop.{Stop}
use Rattle.job_run.specs.declared.stop.Stop.TheVariants.{Blocked, ReadFailed, PutFailed, SinkFailed}
use Rattle.job_run.specs.declared.stop.Stop.TheVariants.{Memory}
use Rattle.job_run.specs.Acts.{Move, looks, counts, does, act_effect, after, blocked, effect}
use Rattle.job_run.specs.Acts.{step_of}
use Rattle.job_run.specs.Course.{course, ended, unless}
use Rattle.job_run.specs.Feeds.{HaltsReading, IsFirstNoFeed, IsFirstRefused, IsNoFeed, IsRead}
use Rattle.job_run.specs.Feeds.{Parses, ParsesAllBut, ParsesMore, RefusesParsing, no_read}
use Rattle.job_run.specs.Feeds.{with_feeds}
use Rattle.job_run.specs.Moves.{sets_feed, together}
use Rattle.job_run.specs.Parts.{DoesPart, FailsAt, FailsPart}
use Rattle.job_run.specs.Published.{Publishes}
use Rattle.job_run.specs.Seen.{Seen}
use Rattle.job_run.specs.Sources.{file_named, no_feed, no_source}
use Rattle.job_run.specs.Sources.{sourced, unreadable}
use Rattle.job_run.specs.Stops.{Fails, Halts, IsHindered, IsIn, Tail}
use Rattle.job_run.specs.World.{World, file_in, made}
use Rattle.job_run.proofs.ActLemmas.{append_nil, prints_none}
use Rattle.job_run.proofs.RunLemmas.{fails_before, fails_later, part_more}

-- members of lists that are made of others
get-mapped : {X Y : Type 0} (f : X → Y) (xs : List X) (k : ℕ) (x : X) → slice_get xs k ≡ Some x
    → slice_get (map f xs) k ≡ Some (f x)
get-mapped f [] k x is = absurd (cc)
get-mapped f (first ∷ rest) zero x is = (let same : first ≡ x = cc in ap (λ y. Some (f y)) same)
get-mapped f (first ∷ rest) (suc k) x is = get-mapped f rest k x is

mapped-get : {X Y : Type 0} (f : X → Y) (xs : List X) (k : ℕ) (y : Y)
    → slice_get (map f xs) k ≡ Some y → (x : X) × (slice_get xs k ≡ Some x) × (f x ≡ y)
mapped-get f [] k y is = absurd (cc)
mapped-get f (first ∷ rest) zero y is = (first, refl, (let same : f first ≡ y = cc in same))
mapped-get f (first ∷ rest) (suc k) y is = mapped-get f rest k y is

get-taken : {X : Type 0} (xs : List X) (n k : ℕ) (x : X) → slice_get (take n xs) k ≡ Some x
    → (k < n) × (slice_get xs k ≡ Some x)
get-taken xs zero k x is = absurd (cc)
get-taken [] (suc n) k x is = absurd (cc)
get-taken (first ∷ rest) (suc n) zero x is = (omega arith, is)
get-taken (first ∷ rest) (suc n) (suc k) x is = let p = get-taken rest n k x is in
    (omega (arith, p.0), p.1)

taken-get : {X : Type 0} (xs : List X) (n k : ℕ) (x : X) → k < n → slice_get xs k ≡ Some x
    → slice_get (take n xs) k ≡ Some x
taken-get [] n k x below is = absurd (cc)
taken-get (first ∷ rest) zero k x below is = absurd (omega (arith, below))
taken-get (first ∷ rest) (suc n) zero x below is = is
taken-get (first ∷ rest) (suc n) (suc k) x below is = taken-get rest n k x (omega (arith, below)) is

-- the member of the first list beside one of the second
beside : {X Y : Type 0} (R : X → Y → Type 0) (xs : List X) (ys : List Y) (k : ℕ) (x : X)
    → AllZip R xs ys → slice_get xs k ≡ Some x → (y : Y) × (slice_get ys k ≡ Some y) × R x y
beside R [] ys k x zipped is = absurd (cc)
beside R (x' ∷ xs) [] k x zipped is = absurd zipped
beside R (x' ∷ xs) (y ∷ ys) zero x zipped is =
    (let same : x' ≡ x = cc in (y, refl, subst (λ z. R z y) same zipped.0))
beside R (x' ∷ xs) (y ∷ ys) (suc k) x zipped is = beside R xs ys k x zipped.1 is

beside-left : {X Y : Type 0} (R : X → Y → Type 0) (xs : List X) (ys : List Y) (k : ℕ) (y : Y)
    → AllZip R xs ys → slice_get ys k ≡ Some y → (x : X) × (slice_get xs k ≡ Some x) × R x y
beside-left R [] [] k y zipped is = absurd (cc)
beside-left R [] (y' ∷ ys) k y zipped is = absurd zipped
beside-left R (x ∷ xs) [] k y zipped is = absurd zipped
beside-left R (x ∷ xs) (y' ∷ ys) zero y zipped is =
    (let same : y' ≡ y = cc in (x, refl, subst (λ z. R x z) same zipped.0))
beside-left R (x ∷ xs) (y' ∷ ys) (suc k) y zipped is = beside-left R xs ys k y zipped.1 is

-- the results of some items, and of one item more
AllZip-pushed : {X Y : Type 0} (R : X → Y → Type 0) (xs : List X) (ys results : List Y) (i : ℕ)
    (x : X) (y : Y) → i < length xs → x ≡ get_or xs i x → AllZip R (take i xs) ys → R x y
    → results ≡ ys ++ (y ∷ [])
    → AllZip R (take (i + 1) xs) results
AllZip-pushed R xs ys results i x y below is zipped related pushed =
    let longer : take (i + 1) xs ≡ take i xs ++ (x ∷ []) =
    ap (λ n. take n xs) (add-one i) ∙ take-suc xs i x below
    ∙ ap (λ z. take i xs ++ (z ∷ [])) (sym is) in
    subst (λ zs. AllZip R (take (i + 1) xs) zs) (sym pushed)
    (subst (λ zs. AllZip R zs (ys ++ (y ∷ []))) (sym longer)
    (all_zipped_more R (take i xs) ys x y zipped related))

-- the results of two lists, one behind the other
AllZip-append : {X Y : Type 0} (R : X → Y → Type 0) (xs xs' : List X) (ys ys' : List Y)
    → AllZip R xs ys → AllZip R xs' ys' → AllZip R (xs ++ xs') (ys ++ ys')
AllZip-append R [] xs' [] ys' here there = there
AllZip-append R [] xs' (y ∷ ys) ys' here there = absurd here
AllZip-append R (x ∷ xs) xs' [] ys' here there = absurd here
AllZip-append R (x ∷ xs) xs' (y ∷ ys) ys' here there =
    (here.0, AllZip-append R xs xs' ys ys' here.1 there)

pub parses_joined : (run rest helds : List Held) (first others all : List (Result FeedParts Stop))
    → run ++ rest ≡ helds → AllZip Parses run first → AllZip Parses rest others
    → all ≡ first ++ others → AllZip Parses helds all
parses_joined run rest helds first others all are here there joined =
    subst (λ zs. AllZip Parses helds zs) (sym joined)
    (subst (λ zs. AllZip Parses zs (first ++ others)) are
    (AllZip-append Parses run rest first others here there))

-- nothing was read yet
pub none_parsed : (run : List Held) (parsed : List (Result FeedParts Stop)) → run ≡ []
    → parsed ≡ [] → ParsesAllBut run [] parsed
none_parsed run parsed empty none = record {
  done = [];
  is = empty;
  made = subst (AllZip Parses []) (sym none) (search);
}

-- the last run is parsed too
pub run_parsed : (run held : List Held) (parsed all : List (Result FeedParts Stop))
    → ParsesAllBut run held parsed → ParsesMore run parsed all → AllZip Parses held all
run_parsed run held parsed all but more =
    subst (λ zs. AllZip Parses zs all) but.is (more but.done but.made)

-- one more of those that were read goes into the run
pub run_longer : (run held now : List Held) (parsed : List (Result FeedParts Stop)) (one : Held)
    → ParsesAllBut run held parsed → now ≡ run ++ (one ∷ [])
    → ParsesAllBut now (held ++ (one ∷ [])) parsed
run_longer run held now parsed one but pushed = record {
  done = but.done;
  is =
      ap (λ t. but.done ++ t) pushed ∙ sym (append_assoc but.done run (one ∷ []))
      ∙ ap (λ t. t ++ (one ∷ [])) but.is;
  made = but.made;
}

-- the run and a long one behind it are parsed
pub run_and_long : (run held now : List Held) (parsed short long : List (Result FeedParts Stop))
    (one : Held) → ParsesAllBut run held parsed → ParsesMore run parsed short
    → ParsesMore (one ∷ []) short long → now ≡ []
    → ParsesAllBut now (held ++ (one ∷ [])) long
run_and_long run held now parsed short long one but first second empty = record {
  done = held ++ (one ∷ []);
  is = ap (λ t. (held ++ (one ∷ [])) ++ t) empty ∙ append-nil (held ++ (one ∷ []));
  made = second held (run_parsed run held parsed short but first);
}

pub reads_pushed : (told : Told) (steps : List Step)
    (helds results : List Held) (i : ℕ) (step : Step) (held : Held) → i < length steps
    → step ≡ get_or steps i step
    → AllZip (IsRead told) (take i steps) helds → IsRead told step held
    → results ≡ helds ++ (held ∷ []) → AllZip (IsRead told) (take (i + 1) steps) results
reads_pushed told steps helds results i step held below is zipped read pushed =
    AllZip-pushed (IsRead told) steps helds results i step held below is zipped read pushed

-- an act that sets a feed is one of a feed line
pub is_feed_act : (act : Act) → sets_feed act ≡ true
    → (url : List ℕ) × (file : List ℕ) × (act ≡ Feed url file)
is_feed_act (acts.Rpsl slot file) so = absurd (cc)
is_feed_act (acts.Stats slot file) so = absurd (cc)
is_feed_act (acts.Feed url file) so = (url, file, refl)
is_feed_act (acts.Overrides file) so = absurd (cc)
is_feed_act (acts.Drop source) so = absurd (cc)
is_feed_act (acts.Emit file) so = absurd (cc)
is_feed_act acts.Report so = absurd (cc)
is_feed_act (acts.Mark name) so = absurd (cc)
is_feed_act (acts.Back name) so = absurd (cc)
is_feed_act acts.Compact so = absurd (cc)

pub all_get : (p : Step → Bool) (steps : List Step) (k : ℕ) (step : Step) → list_all p steps ≡ true
    → slice_get steps k ≡ Some step → p step ≡ true
all_get p [] k step all is = absurd (cc)
all_get p (first ∷ rest) k step all is =
    by (p first) refl k is (λ n here others. all_get p rest n step others here)
  where
    by : (b : Bool) → p first ≡ b → (k : ℕ) → slice_get (first ∷ rest) k ≡ Some step
        → ((n : ℕ) → slice_get rest n ≡ Some step → list_all p rest ≡ true → p step ≡ true)
        → p step ≡ true
    by true so zero is others = (let same : first ≡ step = cc in ap p (sym same) ∙ so)
    by true so (suc k) is others = others k is (ap (λ b. b && list_all p rest) (sym so) ∙ all)
    by false so k is others = absurd
        (let e : false ≡ true = ap (λ b. b && list_all p rest) (sym so) ∙ all in cc)

-- files that were read
read_free : (told : Told) (step : Step) (held : Held)
    → IsRead told step held → no_read told step ≡ None
read_free told step held read =
    ap (λ (a : Act). unreadable longest (files.get told.held (file_named a))) read.is
    ∙ ap (unreadable longest) read.there ∙ read.readable

pub read_before : (told : Told) (steps : List Step) (at : ℕ)
    (helds : List Held) → AllZip (IsRead told) (take at steps) helds
    → (k : ℕ) (earlier : Step) → k < at → slice_get steps k ≡ Some earlier
    → no_read told earlier ≡ None
read_before told steps at helds reads k earlier below is =
    let p = beside (IsRead told) (take at steps) helds k earlier reads
    (taken-get steps at k earlier below is) in
    read_free told earlier p.0 p.2

-- what was parsed: the first that is no feed
pub first_refused : (helds : List Held) (parsed : List (Result FeedParts Stop)) (why : Stop)
    (at : ℕ) → AllZip Parses helds parsed → IsFirstRefused parsed why at
    → IsFirstNoFeed helds why at
first_refused helds parsed why at zipped refused =
    let p = beside-left Parses helds parsed at (Err why) zipped refused.there in
    record {
      item = p.0;
      named = p.1;
      none = p.2;
      before = λ k earlier below is.
          let q = beside Parses helds parsed k earlier zipped is in
          let taken : slice_get (map Ok refused.feeds) k ≡ Some q.0 =
          ap (λ (l : List (Result FeedParts Stop)). slice_get l k) (sym refused.before)
          ∙ taken-get parsed at k q.0 below q.1 in
          let r = mapped-get Ok refused.feeds k q.0 taken in
          let few : Parses earlier (Ok r.0) = subst (Parses earlier) (sym r.2) q.2 in
          few.1;
    }

ids : {X : Type 0} (xs : List X) → map (λ x. x) xs ≡ xs
ids [] = refl
ids (x ∷ xs) = ap (λ l. x ∷ l) (ids xs)

pub first_of : (parsed : List (Result FeedParts Stop)) (feeds : List FeedParts)
    (yielded : List (Result FeedParts Stop)) (why : Stop) (at : ℕ) → yielded ≡ map Ok feeds
    → map (λ x. x) yielded ≡ take (length yielded) parsed
    → length yielded < length parsed → Err why ≡ get_or parsed (length yielded) (Err why)
    → at ≡ length feeds → IsFirstRefused parsed why at
first_of parsed feeds yielded why at are far below is count =
    let e : length yielded ≡ at = ap length are ∙ length-map feeds Ok ∙ sym count in
    record {
      there = ap (slice_get parsed) (sym e)
          ∙ slice_get_read parsed (length parsed) (length yielded) (Err why) refl below is;
      feeds = feeds;
      before = ap (λ (n : ℕ). take n parsed) (sym e) ∙ sym far ∙ ids yielded ∙ are;
    }

pub within_group : (steps : List Step) (helds : List Held) (why : Stop) (at : ℕ) → 0 < length steps
    → length helds ≡ length steps → RefusesParsing helds why at → at < length steps
within_group steps helds why at some long (inl refused) = let p =
    slice_get_within helds at refused.item refused.named in omega (arith, p, long)
within_group steps helds why at some long (inr out) = let p = out.1 in omega (arith, p, some)

-- feeds that were set one after another
pub all_were_set : StandingStays → (fs : List FeedParts) (w : Standing) (old new : Session)
    → Stands old w → HaveChanged (map SetFeed fs) old new → Stands new (with_feeds fs w)
all_were_set stays [] w old new stands same = subst (λ s. Stands s w) (sym same) stands
all_were_set stays (f ∷ fs) w old new stands has =
    let (mid, one, rest) = has in
    all_were_set stays fs (changed (SetFeed f) w) mid new
    (stays.changes (SetFeed f) old mid w stands one) rest

-- moves that change nothing
module _ (world : World) where
  text_still : record world { text = world.text ++ [] } ≡ world
  text_still = ap (λ (t : List ℕ). record world { text = t }) (append_nil world.text)

  run_still : (make : Step → Move) → ((step : Step) → after (make step) world ≡ world)
      → (steps : List Step)
      → ((k : ℕ) (step : Step) → slice_get steps k ≡ Some step → blocked (make step) world ≡ None)
      → course (map make steps) world ≡ ended world
  run_still make still [] free = refl
  run_still make still (step ∷ steps) free =
      ap (λ b. unless b (make step) world (course (map make steps) (after (make step) world)))
      (free 0 step refl)
      ∙ ap (course (map make steps)) (still step)
      ∙ run_still make still steps (λ k other is. free (suc k) other is)

  part_still : (make : Step → Move) → ((step : Step) → after (make step) world ≡ world)
      → ((step : Step) (state : State) → Publishes (make step) state) → (steps : List Step)
      → ((k : ℕ) (step : Step) → slice_get steps k ≡ Some step → blocked (make step) world ≡ None)
      → (session : Session) (now : Seen) → IsIn now.told session world
      → DoesPart (map make steps) world session now now
  part_still make still published steps free session now here = record {
    then = world;
    done = run_still make still steps free;
    stands = here;
    text = [];
    grown = sym (append_nil world.text);
    printed = prints_none now.written now.written refl;
    paid = omega arith;
    published = λ count move then there.
        let found = mapped-get make steps count move there.next in
        subst (λ (m : Move). Publishes m then.session.state) found.2
        (published found.0 then.session.state);
  }

  fails_still : (make : Step → Move) → ((step : Step) → after (make step) world ≡ world)
      → ((step : Step) → step_of (make step) ≡ Some step)
      → ((step : Step) → (effect (make step) world).session.spent ≡ world.session.spent)
      → (steps : List Step) (at : ℕ) (step : Step) → slice_get steps at ≡ Some step
      → ((k : ℕ) (earlier : Step) → k < at → slice_get steps k ≡ Some earlier
      → blocked (make earlier) world ≡ None)
      → (why : Stop) (now : Seen) → Fails why (make step) world [] now now
      → FailsPart why (map make steps) step world now now
  fails_still make still its spent steps at step named before why now fails =
      let e = spent step in
      record {
        count = at;
        move = make step;
        then = world;
        there = record {
          done =
              ap (λ (ms : List Move). course ms world) (take-map make at steps)
              ∙ run_still make still (take at steps)
              (λ k earlier is. let p = get-taken steps at k earlier is in
              before k earlier p.0 p.1);
          next = get-mapped make steps at step named;
        };
        its = its step;
        text = [];
        grown = sym (append_nil world.text);
        fails = fails;
        paid = omega (arith, e);
      }

-- the files of the lines of a group
module _ (steps : List Step) (world : World) (session : Session) (now : Seen)
    (here : IsIn now.told session world) where
  abbrev Reads : Step → Held → Type 0
  Reads = IsRead world.told

  -- a file that was read is no hindrance
  free_look : (step : Step) (held : Held) → Reads step held → blocked (looks step) world ≡ None
  free_look step held read =
      ap (λ (a : Act). unreadable longest (file_in world (file_named a))) read.is
      ∙ ap (unreadable longest) read.there ∙ read.readable

  count_is : (step : Step) (held : Held) → Reads step held
      → blocked (counts step) world ≡ no_feed (Some held.bytes.items)
  count_is step held read =
      ap (λ (a : Act). no_source a (file_in world (file_named a))) read.is ∙ ap no_feed read.there

  frees : (helds : List Held) → AllZip Reads steps helds → (k : ℕ) (step : Step)
      → slice_get steps k ≡ Some step → blocked (looks step) world ≡ None
  frees helds reads k step is = let p = beside Reads steps helds k step reads is in
      free_look step p.0 p.2

  pub looks_part : (helds : List Held) → AllZip Reads steps helds
      → DoesPart (map looks steps) world session now now
  looks_part helds reads = part_still world looks (λ step. text_still world)
      (λ step state. tt) steps (frees helds reads) session now here

  -- a file that was not read
  halts_look : (step : Step) (why : Stop)
      → IsHindered why (λ cause. no_read world.told step ≡ Some cause)
      → Halts why (looks step) world now.told
  halts_look step (Blocked cause) stop = inl (record { cause = stop; files = here.tells })
  halts_look step ReadFailed stop = record { reading = refl; files = here.tells }
  halts_look step PutFailed stop = absurd stop
  halts_look step SinkFailed stop = absurd stop
  halts_look step Memory stop = inl here.tells

  tail_still : (why : Stop) (P : Cause → Type 0) → IsHindered why P
      → Tail why [] [] now.written now.written
  tail_still (Blocked cause) P stop = prints_none now.written now.written refl
  tail_still ReadFailed P stop = prints_none now.written now.written refl
  tail_still PutFailed P stop = absurd stop
  tail_still SinkFailed P stop = absurd stop
  tail_still Memory P stop = prints_none now.written now.written refl

  looks_fail : (why : Stop) (at : ℕ) → (halts : HaltsReading world.told steps why at)
      → FailsPart why (map looks steps) halts.step world now now
  looks_fail why at halts =
      fails_still world looks (λ step. text_still world) (λ step. refl)
      (λ step. refl) steps at halts.step halts.named halts.before why now
      (record {
        files = halts_look halts.step why halts.hindered;
        printed =
            tail_still why _ halts.hindered;
      })

  pub reading_fails : (why : Stop) (at : ℕ) → HaltsReading world.told steps why at
      → FailsAt why (together steps) steps at world now now
  reading_fails why at halts = record {
    step = halts.step;
    named = halts.named;
    part = fails_before why (map looks steps)
        (map counts steps ++ map does steps) halts.step world now now (looks_fail why at halts);
  }

  -- the first line of a group is one that any want of memory may belong to
  pub memory_fails : 0 < length steps → FailsAt Memory (together steps) steps 0 world now now
  memory_fails some = by steps some
    where
      by : (group : List Step) → 0 < length group
          → FailsAt Memory (together group) group 0 world now now
      by [] some = absurd (omega (arith, some))
      by (step ∷ more) some = record {
        step = step;
        named = refl;
        part = record {
          count = 0;
          move = looks step;
          then = world;
          there = record { done = refl; next = refl };
          its = refl;
          text = [];
          grown = sym (append_nil world.text);
          fails = record {
            files = inl here.tells;
            printed =
                prints_none now.written now.written refl;
          };
          paid = omega arith;
        };
      }

  -- the statements of a file are few enough, or the first that are not
  module _ (helds : List Held) (reads : AllZip Reads steps helds) where
    counts_before : (at : ℕ) → ((k : ℕ) (earlier : Held) → k < at → slice_get helds k ≡ Some earlier
        → no_feed (Some earlier.bytes.items) ≡ None)
        → (k : ℕ) (earlier : Step) → k < at → slice_get steps k ≡ Some earlier
        → blocked (counts earlier) world ≡ None
    counts_before at before k earlier below is =
        let p = beside Reads steps helds k earlier reads is in
        count_is earlier p.0 p.2 ∙ before k p.0 below p.1

    halts_count : (step : Step) (held : Held) → Reads step held → (why : Stop) → IsNoFeed held why
        → Halts why (counts step) world now.told
    halts_count step held read (Blocked cause) stop =
        inl (record { cause = count_is step held read ∙ stop.hindered; files = here.tells })
    halts_count step held read ReadFailed stop = absurd (stop.read.0 refl)
    halts_count step held read PutFailed stop = absurd stop.hindered
    halts_count step held read SinkFailed stop = absurd stop.hindered
    halts_count step held read Memory stop = inl here.tells

    pub counting_fails : 0 < length steps → (why : Stop) (at : ℕ) → RefusesParsing helds why at
        → FailsAt why (together steps) steps at world now now
    unfolding looks_part part_still
    counting_fails some why at (inr out) =
        subst (λ (w : Stop). FailsAt w (together steps) steps at world now now) (sym out.0)
        (subst (λ (n : ℕ). FailsAt Memory (together steps) steps n world now now) (sym out.1)
        (memory_fails some))
    counting_fails some why at (inl refused) =
        let p = beside-left Reads steps helds at refused.item reads refused.named in
        record {
          step = p.0;
          named = p.1;
          part =
              fails_later why (map looks steps)
              (map counts steps ++ map does steps) p.0 world session now now now
              (looks_part helds reads)
              (fails_before why (map counts steps) (map does steps) p.0 world now now
              (fails_still world counts (λ step. text_still world) (λ step. refl)
              (λ step. refl) steps at p.0 p.1 (counts_before at refused.before) why now
              (record {
                files = halts_count p.0 refused.item p.2 why refused.none;
                printed =
                    tail_still why _ refused.none.hindered;
              })));
        }

    -- all statements are few enough, and the feeds are set
    module _ (feeds : List FeedParts) (parsed : AllZip Parses helds (map Ok feeds)) where
      counted : (k : ℕ) (step : Step) → slice_get steps k ≡ Some step
          → blocked (counts step) world ≡ None
      counted k step is =
          let p = beside Reads steps helds k step reads is in
          let q = beside Parses helds (map Ok feeds) k p.0 parsed p.1 in
          let r = mapped-get Ok feeds k q.0 q.1 in
          let few : Parses p.0 (Ok r.0) = subst (Parses p.0) (sym r.2) q.2 in
          count_is step p.0 p.2 ∙ few.1

      counts_part : DoesPart (map counts steps) world session now now
      counts_part = part_still world counts (λ step. text_still world)
          (λ step state. tt) steps counted session now here

      -- a world that differs in where the session stands
      abbrev at : Standing → World
      at standing = record world { session = standing }

      joined : (step : Step) (held : Held) (found : FeedParts) (standing : Standing)
          → Reads step held → Parses held (Ok found)
          → (blocked (does step) (at standing) ≡ None)
          × (after (does step) (at standing) ≡ at (changed (SetFeed found) standing))
      joined step held found standing read parse = (
        ap (λ (a : Act). (act_effect a (at standing)).blocked) read.is,
        ap (λ (a : Act). made (act_effect a (at standing)) (at standing)) read.is
            ∙ ap (λ (b : Option (List ℕ)). record world {
              session = sourced (option_map (λ bytes. SetFeed (feed held.url.now bytes)) b)
                  standing;
              text = world.text ++ [];
            }) read.there
            ∙ ap (λ (t : List ℕ). record world {
              session = changed (SetFeed (feed held.url.now held.bytes.items)) standing;
              text =
                  t;
            }) (append_nil world.text)
            ∙ ap (λ (f : FeedParts). at (changed (SetFeed f) standing)) (sym parse.0),
      )

      joins : (group : List Step) (hs : List Held) (fs : List FeedParts) (standing : Standing)
          → AllZip Reads group hs → AllZip Parses hs (map Ok fs)
          → course (map does group) (at standing) ≡ ended (at (with_feeds fs standing))
      joins [] [] [] standing rs ps = refl
      joins [] [] (f ∷ fs) standing rs ps = absurd ps
      joins [] (h ∷ hs) fs standing rs ps = absurd rs
      joins (step ∷ group) [] fs standing rs ps = absurd rs
      joins (step ∷ group) (h ∷ hs) [] standing rs ps = absurd ps
      joins (step ∷ group) (h ∷ hs) (f ∷ fs) standing rs ps =
          let p = joined step h f standing rs.0 ps.0 in
          ap (λ b. unless b (does step) (at standing)
          (course (map does group) (after (does step) (at standing)))) p.0
          ∙ ap (course (map does group)) p.1
          ∙ joins group hs fs (changed (SetFeed f) standing) rs.1 ps.1

      spent_same : (fs : List FeedParts) (standing : Standing)
          → (with_feeds fs standing).spent ≡ standing.spent
      spent_same [] standing = refl
      spent_same (f ∷ fs) standing = spent_same fs (changed (SetFeed f) standing)

      does_part : (session' : Session) → Stands session' (with_feeds feeds world.session)
          → DoesPart (map does steps) world session' now now
      does_part session' stands =
          let e = spent_same feeds world.session in
          record {
            then = at (with_feeds feeds world.session);
            done = joins steps helds feeds world.session reads parsed;
            stands = record { tells = here.tells; stands = stands };
            text = [];
            grown = sym (append_nil world.text);
            printed = prints_none now.written now.written refl;
            paid = omega (arith, e);
            published = λ count move then there.
                let found = mapped-get does steps count move there.next in
                let p = beside Reads steps helds count found.0 reads found.1 in
                subst (λ (m : Move). Publishes m then.session.state) found.2
                (λ name emits. absurd (let e' : Feed p.0.url.now p.2.file ≡ Emit name =
                sym p.2.is ∙ emits in cc));
          }

      pub group_done : (session' : Session) → Stands session' (with_feeds feeds world.session)
          → DoesPart (together steps) world session' now now
      unfolding counts_part part_still looks_part
      group_done session' stands =
          part_more (map looks steps) (map counts steps ++ map does steps) world session session'
          now now now (looks_part helds reads)
          (part_more (map counts steps)
          (map does steps) world session session' now now now counts_part
          (does_part session' stands))
