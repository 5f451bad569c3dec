-- One call changes what is said only of addresses on the grounds of the statements that changed.
use Rattle.std.proofs.Common.{◌≡◌, ℕ, Bool, true, false, cond, ◌&&◌, List, [], ◌∷◌, ◌++◌, Option}
use Rattle.std.proofs.Common.{None, Some, inl, inr, refl, sym, ap, ◌∙◌, subst, append-nil, arith}
use Rattle.std.specs.Cmp.Lexicographic.{bytes_decides}
use Rattle.std.specs.List.{All, find, flat_map}
use Rattle.std.specs.Option.{option_map, option_to_list}
use Rattle.std.proofs.lemmas.Bool.{and_parts}
use Rattle.std.proofs.lemmas.List.Concat.{flat_map-append}
use Rattle.std.proofs.lemmas.List.Elements.{recursion_from_All}
use Rattle.geo_addr.specs.Ranges.{Ends, IsBlock, holds, range_of_block}
use Rattle.geo_terms.specs.DelegationForm.{DelegationParts, IsCountryAlone}
use Rattle.geo_terms.specs.First.{first_at, first_of}
use Rattle.geo_terms.specs.PlaceForm.{same_text}
use Rattle.geo_terms.specs.Precedence.{delegation_before, delegation_cmp, entries_within}
use Rattle.geo_terms.specs.Precedence.{entry_before, entry_cmp, first_delegation, first_override}
use Rattle.geo_terms.specs.Precedence.{lies_within, override_before, override_cmp, reference_before}
use Rattle.geo_terms.specs.Precedence.{reference_cmp, speaker}
use Rattle.geo_terms.specs.SlotOrder.{placed, removed}
use Rattle.geo_terms.specs.SourceForm.{DumpParts, FeedParts, StatsParts, OverridesParts}
use Rattle.geo_terms.specs.Sources.{InForce, entries_in, override_rows}
use Rattle.geo_terms.specs.TotalOrders.{delegation_total, entry_total, override_total}
use Rattle.geo_terms.specs.TotalOrders.{reference_total}
use Rattle.geo_terms.specs.declared.place.Said.{Said}
use Rattle.geo_terms.specs.declared.statement.Entry.{Entry}
use Rattle.geo_terms.specs.declared.statement.Override.{Override}
use Rattle.geo_terms.specs.declared.statement.Reference.{Reference}
use Rattle.geo_terms.proofs.Members.{Among, all_among}
use Rattle.geo_terms.proofs.SlotLemmas.{ascend}
use Rattle.source_changes.specs.Changes.{SetDump, SetFeed, SetStats, SetOverrides, DropDump}
use Rattle.source_changes.specs.Changes.{DropFeed, DropStats, DropOverrides, after, changes}
use Rattle.source_changes.specs.Changes.{delegation_changes, delegations_in, entry_changes, named}
use Rattle.source_changes.specs.Changes.{override_changes, reference_changes, references_in}
use Rattle.source_changes.specs.Keeping.{AreDelegations, AreEntries, AreOverrides, AreSources}
use Rattle.source_changes.specs.Laws.{OneChange}
use Rattle.source_changes.specs.SameStatement.{same_delegation, same_entry, same_override}
use Rattle.source_changes.specs.SameStatement.{same_reference}
use Rattle.source_changes.specs.Touched.{is_touched}
use Rattle.source_changes.proofs.Firsts.{same_first}
use Rattle.source_changes.proofs.Partners.{Covers, among_parts, covers_append, covers_both}
use Rattle.source_changes.proofs.Partners.{covers_itself}
use Rattle.source_changes.proofs.Statements.{lines_do_not_count}
use Rattle.source_changes.proofs.Swaps.{Swap, placed_beside, placed_found, removed_beside}
use Rattle.source_changes.proofs.Swaps.{removed_gone, swap_placed, swap_removed}
use Rattle.source_changes.proofs.Ties.{bare_delegation, bare_entry, bare_override, bare_reference}
use Rattle.source_changes.proofs.Ties.{delegation_finer, delegation_tied, entry_finer, entry_tied}
use Rattle.source_changes.proofs.Ties.{override_finer, override_tied, reference_finer}
use Rattle.source_changes.proofs.Ties.{reference_tied, same_member}
use Rattle.source_changes.proofs.Views.{LookAlike, pointed, spoken_alike}

-- statements without their lines
abbrev unlined_reference : Reference → Reference
unlined_reference r = record r { line = 0 }

abbrev unlined_delegation : DelegationParts → DelegationParts
unlined_delegation d = record d { line = 0 }

reference_key : (x y : Reference) → same_reference x y ≡ true
    → unlined_reference x ≡ unlined_reference y
reference_key x y e = ap unlined_reference ((lines_do_not_count.references x y).0 e)

entry_key : (x y : Entry) → same_entry x y ≡ true → bare_entry x ≡ bare_entry y
entry_key x y e = ap bare_entry ((lines_do_not_count.entries x y).0 e)

delegation_key : (x y : DelegationParts) → same_delegation x y ≡ true
    → unlined_delegation x ≡ unlined_delegation y
delegation_key x y e = ap unlined_delegation ((lines_do_not_count.delegations x y).0 e)

override_key : (x y : Override) → same_override x y ≡ true → bare_override x ≡ bare_override y
override_key x y e = ap bare_override ((lines_do_not_count.overrides x y).0 e)

-- two lists that stand for one another at an address, both ways
abbrev Both : {X K : Type 0} → (X → K) → (X → Bool) → List X → List X → Type 0
Both key p xs ys = Covers key p xs ys × Covers key p ys xs

-- the statements of all sources, where one source is another
flat_both : {X Y K : Type 0} (f : X → List Y) (key : Y → K) (p : Y → Bool) (was is xs ys : List X)
    → Swap was is xs ys
    → Both key p (flat_map f was) (flat_map f is) → Both key p (flat_map f xs) (flat_map f ys)
flat_both {X} {Y} f key p was is xs ys swap both =
    let xs_are : flat_map f xs ≡ flat_map f swap.front ++ (flat_map f was ++ flat_map f swap.back) =
    ap (flat_map f) swap.before ∙ parts was in
    let ys_are : flat_map f ys ≡ flat_map f swap.front ++ (flat_map f is ++ flat_map f swap.back) =
    ap (flat_map f) swap.after ∙ parts is in
    subst (λ (zs : List Y). Both key p zs (flat_map f ys)) (sym xs_are)
    (subst (λ (zs : List Y). Both key p
    (flat_map f swap.front ++ (flat_map f was ++ flat_map f swap.back)) zs) (sym ys_are)
    (wider was is both.0, wider is was both.1))
  where
    parts : (mid : List X) → flat_map f (swap.front ++ (mid ++ swap.back))
        ≡ flat_map f swap.front ++ (flat_map f mid ++ flat_map f swap.back)
    parts mid =
        flat_map-append f swap.front (mid ++ swap.back)
        ∙ ap (λ zs. flat_map f swap.front ++ zs) (flat_map-append f mid swap.back)

    wider : (us vs : List X) → Covers key p (flat_map f us) (flat_map f vs)
        → Covers key p (flat_map f swap.front ++ (flat_map f us ++ flat_map f swap.back))
        (flat_map f swap.front ++ (flat_map f vs ++ flat_map f swap.back))
    wider us vs h =
        covers_append key p (flat_map f swap.front) (flat_map f swap.front)
        (flat_map f us ++ flat_map f swap.back) (flat_map f vs ++ flat_map f swap.back)
        (covers_itself key p (flat_map f swap.front))
        (covers_append key p (flat_map f us) (flat_map f vs) (flat_map f swap.back)
        (flat_map f swap.back) h (covers_itself key p (flat_map f swap.back)))

-- the statements of one source, as those of a list of at most one
of_dump : (o : Option DumpParts) → flat_map (λ d. d.refs) (option_to_list o) ≡ references_in o
of_dump None = refl
of_dump (Some d) = append-nil d.refs

of_stats : (o : Option StatsParts) → flat_map (λ t. t.rows) (option_to_list o) ≡ delegations_in o
of_stats None = refl
of_stats (Some t) = append-nil t.rows

-- speakers
dumps_alike : (a : ℕ) (old new : Option DumpParts) (xs ys : List DumpParts)
    → Swap (option_to_list old) (option_to_list new) xs ys
    → is_touched (reference_changes (references_in old) (references_in new)) a ≡ false
    → option_map pointed (first_at reference_before (λ r. r.range) (flat_map (λ d. d.refs) xs) a)
    ≡ option_map pointed (first_at reference_before (λ r. r.range) (flat_map (λ d. d.refs) ys) a)
dumps_alike a old new xs ys swap none =
    let p : Reference → Bool = λ r. holds r.range a in
    let refs : DumpParts → List Reference = λ d. d.refs in
    let small : Both unlined_reference p (references_in old) (references_in new) =
    covers_both same_reference unlined_reference (λ r. r.range) p a reference_key
    (λ x y e. ap (λ (r : Reference). holds r.range a) e) (λ x h. h) (references_in old)
    (references_in new) none in
    let all : Both unlined_reference p (flat_map refs xs) (flat_map refs ys) =
    flat_both refs unlined_reference p (option_to_list old) (option_to_list new) xs ys swap
    (subst (λ (us : List Reference). Both unlined_reference p us
    (flat_map refs (option_to_list new))) (sym (of_dump old))
    (subst (λ (vs : List Reference). Both unlined_reference p (references_in old) vs)
    (sym (of_dump new)) small)) in
    same_first reference_cmp reference_total unlined_reference bare_reference pointed
    (λ x y e. ap bare_reference e) (λ x y e. ap pointed e) reference_finer p (flat_map refs xs)
    (flat_map refs ys) all.0 all.1
    (λ y z y_is z_is y_holds z_holds tie. reference_tied a y z y_holds z_holds tie)

-- delegations
among_flat : {X Y : Type 0} (f : X → List Y) (y : Y) (xs : List X)
    → Among y (flat_map f xs) → (x : X) × Among x xs × Among y (f x)
among_flat f y [] is = absurd is
among_flat f y (x ∷ xs) is = elim (among_parts y (f x) (flat_map f xs) is) [
  | inl here ↦ (x, inl refl, here)
  | inr later ↦ let (z, at, h) = among_flat f y xs later in (z, inr at, h)
]

each_country : (ts : List StatsParts) → All (λ t. AreDelegations t.rows) ts
    → (d : DelegationParts) → Among d (flat_map (λ t. t.rows) ts) → IsCountryAlone d.place
each_country ts h d is =
    let (t, at, in_t) = among_flat (λ (t : StatsParts). t.rows) d ts is in
    let rows : AreDelegations t.rows = all_among (λ t. AreDelegations t.rows) t ts
    (recursion_from_All (λ t. AreDelegations t.rows) ts h) at in
    all_among (λ d. IsCountryAlone d.place) d t.rows
    (recursion_from_All (λ d. IsCountryAlone d.place) t.rows rows) in_t

stats_alike : (a : ℕ) (old new : Option StatsParts) (xs ys : List StatsParts)
    → All (λ t. AreDelegations t.rows) ys → Swap (option_to_list old) (option_to_list new) xs ys
    → is_touched (delegation_changes (delegations_in old) (delegations_in new)) a ≡ false
    → option_map (λ d. d.place)
    (first_at delegation_before (λ d. d.range) (flat_map (λ t. t.rows) xs) a) ≡ option_map
    (λ d. d.place) (first_at delegation_before (λ d. d.range) (flat_map (λ t. t.rows) ys) a)
stats_alike a old new xs ys sound swap none =
    let p : DelegationParts → Bool = λ d. holds d.range a in
    let rows : StatsParts → List DelegationParts = λ t. t.rows in
    let small : Both unlined_delegation p (delegations_in old) (delegations_in new) =
    covers_both same_delegation unlined_delegation (λ d. d.range) p a delegation_key
    (λ x y e. ap (λ (d : DelegationParts). holds d.range a) e) (λ x h. h) (delegations_in old)
    (delegations_in new) none in
    let all : Both unlined_delegation p (flat_map rows xs) (flat_map rows ys) =
    flat_both rows unlined_delegation p (option_to_list old) (option_to_list new) xs ys swap
    (subst (λ (us : List DelegationParts). Both unlined_delegation p us
    (flat_map rows (option_to_list new))) (sym (of_stats old))
    (subst (λ (vs : List DelegationParts). Both unlined_delegation p (delegations_in old) vs)
    (sym (of_stats new)) small)) in
    same_first delegation_cmp delegation_total unlined_delegation bare_delegation (λ d. d.place)
    (λ x y e. ap bare_delegation e) (λ x y e. ap (λ (d : DelegationParts). d.place) e)
    delegation_finer p (flat_map rows xs) (flat_map rows ys) all.0 all.1
    (λ y z y_is z_is y_holds z_holds tie. delegation_tied y z (each_country ys sound y y_is)
    (each_country ys sound z z_is) tie)

-- overrides
overrides_alike : (a : ℕ) (xs ys : List Override) → AreOverrides ys
    → is_touched (override_changes xs ys) a ≡ false
    → option_map (λ o. o.said) (first_at override_before (λ o. o.range) xs a)
    ≡ option_map (λ o. o.said) (first_at override_before (λ o. o.range) ys a)
overrides_alike a xs ys sound none =
    let p : Override → Bool = λ o. holds o.range a in
    let all : Both bare_override p xs ys =
    covers_both same_override bare_override (λ o. o.range) p a override_key
    (λ x y e. ap (λ (o : Override). holds o.range a) e) (λ x h. h) xs ys none in
    same_first override_cmp override_total bare_override bare_override (λ o. o.said) (λ x y e. e)
    (λ x y e. ap (λ (o : Override). o.said) e) override_finer p xs ys all.0 all.1
    (λ y z y_is z_is y_holds z_holds tie. ap (λ (o : Override). o.said) (same_member
    (λ (o : Override). o.range) ys sound y z y_is z_is (override_tied a y z y_holds z_holds tie)))

-- entries of one feed
entries_alike : (a : ℕ) (range : Ends) (xs ys : List Entry) → AreEntries ys
    → is_touched (entry_changes xs ys) a ≡ false
    → option_map (λ e. e.said) (first_of entry_before (entries_within xs range a))
    ≡ option_map (λ e. e.said) (first_of entry_before (entries_within ys range a))
entries_alike a range xs ys sound none =
    let p : Entry → Bool = λ e. holds (range_of_block e.block) a && lies_within e.block range in
    let held : (e : Entry) → p e ≡ true → holds (range_of_block e.block) a ≡ true =
    λ e h. (and_parts (holds (range_of_block e.block) a) (lies_within e.block range) h).0 in
    let all : Both bare_entry p xs ys =
    covers_both same_entry bare_entry (λ e. range_of_block e.block) p a entry_key
    (λ x y e. ap (λ (e : Entry). holds (range_of_block e.block) a && lies_within e.block range) e)
    held xs ys none in
    let block : (e : Entry) → Among e ys → IsBlock e.block =
    λ e is. all_among (λ e. IsBlock e.block) e ys
    (recursion_from_All (λ e. IsBlock e.block) ys sound.blocks) is in
    same_first entry_cmp entry_total bare_entry bare_entry (λ e. e.said) (λ x y e. e)
    (λ x y e. ap (λ (e : Entry). e.said) e) entry_finer p xs ys all.0 all.1
    (λ y z y_is z_is y_holds z_holds tie. ap (λ (e : Entry). e.said)
    (same_member (λ (e : Entry). e.block) ys sound.distinct y z y_is z_is
    (entry_tied a y z (block y y_is) (block z z_is) (held y y_holds) (held z z_holds) tie)))

among_found : {X : Type 0} (p : X → Bool) (xs : List X) (x : X) → find p xs ≡ Some x → Among x xs
among_found p [] x e = absurd (let f : None ≡ Some x = e in cc)
among_found {X} p (y ∷ ys) x e =
    elim (p y) as (λ b. cond b (Some y) (find p ys) ≡ Some x → Among x (y ∷ ys)) [
      | true ↦ λ h. inl (let f : Some y ≡ Some x = h in cc)
      | false ↦ λ h. inr (among_found p ys x h)
    ] e

entries_of : (fs : List FeedParts) (url : List ℕ) → All (λ f. AreEntries f.entries) fs
    → (o : Option FeedParts) → named (λ f. f.url) url fs ≡ o → AreEntries (entries_in o)
entries_of fs url h None e = record {
  blocks = λ k d below. absurd (omega arith);
  distinct = λ i j d lt below. absurd (omega arith);
}
entries_of fs url h (Some f) e =
    all_among (λ f. AreEntries f.entries) f fs (recursion_from_All (λ f. AreEntries f.entries) fs h)
    (among_found (λ f. same_text f.url url) fs f e)

-- a feed of one URL that is another
feeds_alike : (a : ℕ) (name : List ℕ) (new : Option FeedParts) (xs ys : List FeedParts)
    → All (λ f. AreEntries f.entries) ys
    → ((url : List ℕ) → same_text name url ≡ true → named (λ f. f.url) url ys ≡ new)
    → ((url : List ℕ) → same_text name url ≡ false
    → named (λ f. f.url) url ys ≡ named (λ f. f.url) url xs)
    → is_touched (entry_changes (entries_in (named (λ f. f.url) name xs)) (entries_in new)) a
    ≡ false → (url : List ℕ) (range : Ends)
    → option_map (λ e. e.said) (first_of entry_before
    (entries_within (entries_in (named (λ f. f.url) url xs)) range a)) ≡ option_map (λ e. e.said)
    (first_of entry_before (entries_within (entries_in (named (λ f. f.url) url ys)) range a))
feeds_alike a name new xs ys sound found beside none url range =
    elim (same_text name url) as (λ b. same_text name url ≡ b
    → said (named (λ f. f.url) url xs) ≡ said (named (λ f. f.url) url ys)) [
      | true ↦ λ e.
          let here : name ≡ url = (bytes_decides name url).0 e in
          ap (λ n. said (named (λ f. f.url) n xs)) (sym here)
          ∙ entries_alike a range (entries_in (named (λ f. f.url) name xs)) (entries_in new)
          (entries_of ys url sound new (found url e)) none
          ∙ ap said (sym (found url e))
      | false ↦ λ e. ap said (sym (beside url e))
    ] refl
  where
    said : Option FeedParts → Option Said
    said o =
        option_map (λ e. e.said) (first_of entry_before (entries_within (entries_in o) range a))

-- what each call leaves alike
dump_set : (s : InForce) (d : DumpParts) (a : ℕ) → AreSources s
    → is_touched (changes (SetDump d) s) a ≡ false → LookAlike s (after (SetDump d) s) a
unfolding speaker first_delegation first_override
dump_set s d a h none = record {
  speakers =
      dumps_alike a (named (λ x. x.slot) d.slot s.dumps) (Some d) s.dumps (placed (λ x. x.slot) d
      s.dumps) (swap_placed (λ x. x.slot) d s.dumps (ascend (λ x. x.slot) s.dumps h.dumps)) none;
  entries = λ url range. refl;
  delegations = refl;
  overrides = refl;
}

dump_dropped : (s : InForce) (slot : List ℕ) (a : ℕ) → AreSources s
    → is_touched (changes (DropDump slot) s) a ≡ false → LookAlike s (after (DropDump slot) s) a
unfolding speaker first_delegation first_override
dump_dropped s slot a h none = record {
  speakers =
      dumps_alike a
      (named (λ x. x.slot) slot s.dumps) None s.dumps (removed (λ x. x.slot) slot s.dumps)
      (swap_removed (λ x. x.slot) slot s.dumps (ascend (λ x. x.slot) s.dumps h.dumps)) none;
  entries = λ url range. refl;
  delegations = refl;
  overrides = refl;
}

stats_set : (s : InForce) (t : StatsParts) (a : ℕ) → AreSources s
    → AreSources (after (SetStats t) s) → is_touched (changes (SetStats t) s) a ≡ false
    → LookAlike s (after (SetStats t) s) a
unfolding speaker first_delegation first_override
stats_set s t a h k none = record {
  speakers = refl;
  entries = λ url range. refl;
  delegations =
      stats_alike a (named (λ x. x.slot) t.slot s.stats)
      (Some t) s.stats (placed (λ x. x.slot) t s.stats) k.delegations
      (swap_placed (λ x. x.slot) t s.stats (ascend (λ x. x.slot) s.stats h.stats)) none;
  overrides = refl;
}

stats_dropped : (s : InForce) (slot : List ℕ) (a : ℕ) → AreSources s
    → AreSources (after (DropStats slot) s) → is_touched (changes (DropStats slot) s) a ≡ false
    → LookAlike s (after (DropStats slot) s) a
unfolding speaker first_delegation first_override
stats_dropped s slot a h k none = record {
  speakers = refl;
  entries = λ url range. refl;
  delegations =
      stats_alike a (named (λ x. x.slot) slot s.stats) None s.stats
      (removed (λ x. x.slot) slot s.stats) k.delegations
      (swap_removed (λ x. x.slot) slot s.stats (ascend (λ x. x.slot) s.stats h.stats)) none;
  overrides = refl;
}

feed_set : (s : InForce) (f : FeedParts) (a : ℕ) → AreSources (after (SetFeed f) s)
    → is_touched (changes (SetFeed f) s) a ≡ false → LookAlike s (after (SetFeed f) s) a
unfolding speaker first_delegation first_override
feed_set s f a k none = record {
  speakers = refl;
  entries =
      feeds_alike a f.url (Some f) s.feeds
      (placed (λ x. x.url) f s.feeds) k.entries (λ url e. placed_found (λ x. x.url) f url s.feeds e)
      (λ url e. placed_beside (λ x. x.url) f url s.feeds e) none;
  delegations = refl;
  overrides = refl;
}

feed_dropped : (s : InForce) (name : List ℕ) (a : ℕ) → AreSources (after (DropFeed name) s)
    → is_touched (changes (DropFeed name) s) a ≡ false → LookAlike s (after (DropFeed name) s) a
unfolding speaker first_delegation first_override
feed_dropped s name a k none = record {
  speakers = refl;
  entries =
      feeds_alike a name None s.feeds (removed (λ x. x.url) name s.feeds) k.entries
      (λ url e. removed_gone (λ x. x.url) name url s.feeds e)
      (λ url e. removed_beside (λ x. x.url) name url s.feeds e) none;
  delegations = refl;
  overrides = refl;
}

overrides_set : (s : InForce) (o : OverridesParts) (a : ℕ) → AreSources (after (SetOverrides o) s)
    → is_touched (changes (SetOverrides o) s) a ≡ false → LookAlike s (after (SetOverrides o) s) a
unfolding speaker first_delegation first_override
overrides_set s o a k none = record {
  speakers = refl;
  entries = λ url range. refl;
  delegations = refl;
  overrides = overrides_alike a (override_rows s) o.rows k.overrides none;
}

overrides_dropped : (s : InForce) (a : ℕ) → AreSources (after DropOverrides s)
    → is_touched (changes DropOverrides s) a ≡ false → LookAlike s (after DropOverrides s) a
unfolding speaker first_delegation first_override
overrides_dropped s a k none = record {
  speakers = refl;
  entries = λ url range. refl;
  delegations = refl;
  overrides = overrides_alike a (override_rows s) [] k.overrides none;
}

pub one_change : OneChange
one_change s (SetDump d) a h k none = spoken_alike s (after (SetDump d) s) a (dump_set s d a h none)
one_change s (SetFeed f) a h k none = spoken_alike s (after (SetFeed f) s) a (feed_set s f a k none)
one_change s (SetStats t) a h k none =
    spoken_alike s (after (SetStats t) s) a (stats_set s t a h k none)
one_change s (SetOverrides o) a h k none =
    spoken_alike s (after (SetOverrides o) s) a (overrides_set s o a k none)
one_change s (DropDump slot) a h k none =
    spoken_alike s (after (DropDump slot) s) a (dump_dropped s slot a h none)
one_change s (DropFeed url) a h k none =
    spoken_alike s (after (DropFeed url) s) a (feed_dropped s url a k none)
one_change s (DropStats slot) a h k none =
    spoken_alike s (after (DropStats slot) s) a (stats_dropped s slot a h k none)
one_change s DropOverrides a h k none =
    spoken_alike s (after DropOverrides s) a (overrides_dropped s a k none)
