use Rattle.std.proofs.Common.{◌≡◌, ◌∙◌, ◌∷◌, List, length, refl, sym, ap, subst}
use Rattle.std.specs.List.{AllZip}
use Rattle.std.specs.Prelude.{All, slice_index_or}
use Rattle.std.proofs.lemmas.List.Elements.{All-from_recursion}
use Rattle.geo_terms.specs.Sources.{InForce}
use Rattle.trie_core.specs.declared.node.Rec.TheVariants.{Leaf}
use Rattle.trie_core.specs.declared.node.Root.{Root}
use Rattle.trie_core.specs.Store.{IsRootOf}
use Rattle.update_session.specs.contracts.session.Session.{the_view}
use Rattle.update_session.specs.declared.marks.Mark.{Mark}
use Rattle.update_session.specs.Calls.{HasCompacted}
use Rattle.update_session.specs.Kept.{AnswersAll, Held}
use Rattle.update_session.specs.State.{nodes_under}
use Rattle.update_session.proofs.CompactLemmas.{HasCompacted-made, IsSession-compacted, roots_known}
use Rattle.update_session.proofs.CompactLemmas.{roots_made, roots_of}
use Rattle.update_session.proofs.session.Session.compact.Goals as goal

-- the roots that were gathered
gathered : (marks slice : List Mark) (root : Root) (items roots : List Root) → slice ≡ marks
    → items ≡ root ∷ roots_of slice → roots ≡ items → roots ≡ root ∷ roots_of marks
gathered marks slice root items roots slice-is items-is roots-is =
    roots-is ∙ items-is ∙ ap (λ (ms : List Mark). root ∷ roots_of ms) slice-is

pub without_stale-requires : goal.without_stale-requires
without_stale-requires c =
    let roots = gathered c.self.inside.marks.items _ c.self.inside.root _ _ c.as_slice.ensures.value
    c.in_ok-roots.ensures c.as_slice-2.ensures.value in
    record {
      of =
          subst (λ (rs : List Root). All (IsRootOf c.self.inside.store) rs) (sym roots)
          (All-from_recursion (IsRootOf c.self.inside.store)
          (c.self.inside.root ∷ roots_of c.self.inside.marks.items)
          (roots_known c.self.inside.store c.self.inside.places c.self.inside.root
          c.self.inside.marks.items c.self.invariant.1.now.of c.self.invariant.1.marks));
    }

pub give_roots-requires : goal.give_roots-requires
give_roots-requires c =
    let roots = gathered c.self.inside.marks.items _ c.self.inside.root _ _ c.as_slice.ensures.value
    c.in_ok-roots.ensures c.as_slice-2.ensures.value in
    (roots_made c.self.inside.store c.in_ok-store.store c.self.inside.root c.self.inside.marks.items
    _ c.in_ok-store.roots.items _ _ _ (record { 0 = Leaf 0 })
    roots c.in_ok-store.ensures.trees c.in_ok-store.ensures.of c.as_slice-3.ensures.value
    c.split_at.ensures.front c.split_at.ensures.back).long

pub invariant_of-self : goal.invariant_of-self
invariant_of-self c =
    let roots = gathered c.self.inside.marks.items _ c.self.inside.root _ _ c.as_slice.ensures.value
    c.in_ok-roots.ensures c.as_slice-2.ensures.value in
    let split = roots_made c.self.inside.store c.in_ok-store.store c.self.inside.root
    c.self.inside.marks.items _ c.in_ok-store.roots.items _ _ _ (record { 0 = Leaf 0 })
    roots c.in_ok-store.ensures.trees c.in_ok-store.ensures.of c.as_slice-3.ensures.value
    c.split_at.ensures.front c.split_at.ensures.back in (
      c.self.invariant.0,
      IsSession-compacted c.self.inside.sources c.self.inside.store
          c.in_ok-store.store c.self.inside.places c.self.inside.root _ c.self.inside.touched
          c.self.inside.marks.items _ _ c.self.invariant.1 split c.give_roots.ensures,
    )

pub returns-clause-ok : goal.returns-clause-ok
returns-clause-ok c =
    let roots = gathered c.self.inside.marks.items _ c.self.inside.root _ _ c.as_slice.ensures.value
    c.in_ok-roots.ensures c.as_slice-2.ensures.value in
    let split = roots_made c.self.inside.store c.in_ok-store.store c.self.inside.root
    c.self.inside.marks.items _ c.in_ok-store.roots.items _ _ _ (record { 0 = Leaf 0 })
    roots c.in_ok-store.ensures.trees c.in_ok-store.ensures.of c.as_slice-3.ensures.value
    c.split_at.ensures.front c.split_at.ensures.back in
    let count : (ss : List InForce) → AllZip (AnswersAll c.self.inside.store c.self.inside.places)
    (c.self.inside.root ∷ roots_of c.self.inside.marks.items) ss
    → length c.in_ok-store.store ≡ nodes_under ss =
    λ ss h. c.in_ok-store.ensures.nodes ss
    (subst (λ (rs : List Root). AllZip (AnswersAll c.self.inside.store c.self.inside.places) rs ss)
    (sym roots) h) in
    let made : Held = the_view (record c.self.inside {
      store = c.in_ok-store.store;
      root = slice_index_or c.split_at.result.0.now 0 (record { 0 = Leaf 0 });
      marks = c.give_roots.new.marks;
    }) in
    subst (λ (held : Held). HasCompacted held made) c.self.view_is
    (HasCompacted-made (the_view c.self.inside) made c.split_at.result.1.now refl refl refl split
    c.give_roots.ensures count)
