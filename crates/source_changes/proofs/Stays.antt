-- What sources keep, they keep after a call.
use Rattle.std.proofs.Common.{ℕ, not, List, [], ◌∷◌, Less, Equal, Greater, arith}
use Rattle.std.specs.List.{All, AllByRecursion}
use Rattle.std.specs.Ordering.{match_ordering}
use Rattle.std.proofs.lemmas.List.Elements.{All-filter, All-from_recursion, recursion_from_All}
use Rattle.geo_terms.specs.PlaceForm.{same_text}
use Rattle.geo_terms.specs.Precedence.{text_cmp}
use Rattle.geo_terms.specs.SlotOrder.{placed, removed}
use Rattle.geo_terms.proofs.SlotLemmas.{placed_in_order, removed_in_order}
use Rattle.source_changes.specs.Changes.{SetDump, SetFeed, SetStats, SetOverrides, DropDump}
use Rattle.source_changes.specs.Changes.{DropFeed, DropStats, DropOverrides}
use Rattle.source_changes.specs.Keeping.{AreDelegations, AreEntries, AreOverrides}
use Rattle.source_changes.specs.Laws.{SourcesStay}

module _ {X : Type 0} (name : X → List ℕ) (P : X → Type 0) where
  each_placed : (x : X) (xs : List X) → P x → AllByRecursion P xs
      → AllByRecursion P (placed name x xs)
  each_placed x [] p h = (p, tt)
  each_placed x (y ∷ ys) p h =
      elim (text_cmp (name x) (name y))
      as (λ o. AllByRecursion P (match_ordering o (x ∷ y ∷ ys) (x ∷ ys) (y ∷ placed name x ys))) [
        | Less ↦ (p, h)
        | Equal ↦ (p, h.1)
        | Greater ↦ (h.0, each_placed x ys p h.1)
      ]

  all_placed : (x : X) (xs : List X) → P x → All P xs → All P (placed name x xs)
  all_placed x xs p h =
      All-from_recursion P (placed name x xs) (each_placed x xs p (recursion_from_All P xs h))

  all_removed : (n : List ℕ) (xs : List X) → All P xs → All P (removed name n xs)
  all_removed n xs h = All-filter (λ x. not (same_text (name x) n)) P xs h

no_overrides : AreOverrides []
no_overrides i j d lt below = absurd (omega arith)

pub sources_stay : SourcesStay
sources_stay s (SetDump d) h sound = record {
  dumps = placed_in_order (λ x. x.slot) d s.dumps h.dumps;
  feeds = h.feeds;
  stats = h.stats;
  entries = h.entries;
  delegations = h.delegations;
  overrides = h.overrides;
}
sources_stay s (SetFeed f) h sound = record {
  dumps = h.dumps;
  feeds = placed_in_order (λ x. x.url) f s.feeds h.feeds;
  stats = h.stats;
  entries = all_placed (λ x. x.url) (λ x. AreEntries x.entries) f s.feeds sound h.entries;
  delegations = h.delegations;
  overrides = h.overrides;
}
sources_stay s (SetStats t) h sound = record {
  dumps = h.dumps;
  feeds = h.feeds;
  stats = placed_in_order (λ x. x.slot) t s.stats h.stats;
  entries = h.entries;
  delegations = all_placed (λ x. x.slot) (λ x. AreDelegations x.rows) t s.stats sound h.delegations;
  overrides = h.overrides;
}
sources_stay s (SetOverrides o) h sound = record {
  dumps = h.dumps;
  feeds = h.feeds;
  stats = h.stats;
  entries = h.entries;
  delegations = h.delegations;
  overrides = sound;
}
sources_stay s (DropDump slot) h sound = record {
  dumps = removed_in_order (λ x. x.slot) slot s.dumps h.dumps;
  feeds = h.feeds;
  stats = h.stats;
  entries = h.entries;
  delegations = h.delegations;
  overrides = h.overrides;
}
sources_stay s (DropFeed url) h sound = record {
  dumps = h.dumps;
  feeds = removed_in_order (λ x. x.url) url s.feeds h.feeds;
  stats = h.stats;
  entries = all_removed (λ x. x.url) (λ x. AreEntries x.entries) url s.feeds h.entries;
  delegations = h.delegations;
  overrides = h.overrides;
}
sources_stay s (DropStats slot) h sound = record {
  dumps = h.dumps;
  feeds = h.feeds;
  stats = removed_in_order (λ x. x.slot) slot s.stats h.stats;
  entries = h.entries;
  delegations = all_removed (λ x. x.slot) (λ x. AreDelegations x.rows) slot s.stats h.delegations;
  overrides = h.overrides;
}
sources_stay s DropOverrides h sound = record {
  dumps = h.dumps;
  feeds = h.feeds;
  stats = h.stats;
  entries = h.entries;
  delegations = h.delegations;
  overrides = no_overrides;
}
