use Rattle.std.proofs.Common.{◌≡◌, ◌∙◌, List, [], ◌∷◌, ap, map, refl, subst, sym}
use Rattle.std.specs.Arc.{arc_value}
use Rattle.std.specs.Option.{option_map}
use Rattle.geo_terms.specs.SourceForm.{DumpParts, FeedParts}
use Rattle.authority.specs.Held.{AreHeard, AreMade, in_force, references_in, url_of}
use Rattle.authority.proofs.HeldLemmas.{clones_same, made_same, order_same}
use Rattle.authority.proofs.force.Authority.snapshot.Goals as goal

id_map : (fs : List FeedParts) → map (λ (f : FeedParts). f) fs ≡ fs
id_map [] = refl
id_map (f ∷ fs) = ap (λ gs. f ∷ gs) (id_map fs)

map_self : (fs gs : List FeedParts) → map (λ (f : FeedParts). f) fs
    ≡ map (λ (f : FeedParts). f) gs → fs ≡ gs
map_self fs gs e = sym (id_map fs) ∙ e ∙ id_map gs

pub invariant_of-result : goal.invariant_of-result
invariant_of-result c =
    let dumps = clones_same (arc_value {X = DumpParts}) c.self.inside.dumps.items
    c.in_ok-clone.field-0.items c.in_ok-clone.ensures.cases.0 in
    let feeds = clones_same (λ (f : FeedParts). f) c.self.inside.feeds.items
    c.in_ok-clone-2.field-0.items c.in_ok-clone-2.ensures.cases.0 in
    record {
      slots =
          order_same (arc_value {X = DumpParts}) (λ d. d.slot) c.self.inside.dumps.items
          c.in_ok-clone.field-0.items dumps c.self.invariant.slots;
      urls =
          order_same (λ (f : FeedParts). f) url_of c.self.inside.feeds.items
          c.in_ok-clone-2.field-0.items feeds c.self.invariant.urls;
      made =
          subst (λ ds. AreMade (references_in ds) c.in_ok-shared.field-0) (sym dumps)
          (made_same (references_in (map arc_value c.self.inside.dumps.items))
          c.self.inside.speakers c.in_ok-shared.field-0 c.in_ok-shared.ensures
          c.self.invariant.made);
      heard =
          subst (λ fs. AreHeard fs (option_map arc_value c.in_ok-shared-2.field-0)
          (option_map arc_value c.in_ok-shared.field-0))
          (sym (map_self c.in_ok-clone-2.field-0.items c.self.inside.feeds.items feeds))
          (subst (λ vs. AreHeard c.self.inside.feeds.items vs
          (option_map arc_value c.in_ok-shared.field-0)) (sym c.in_ok-shared-2.ensures)
          (subst (λ ss. AreHeard c.self.inside.feeds.items
          (option_map arc_value c.self.inside.voices) ss) (sym c.in_ok-shared.ensures)
          c.self.invariant.heard));
    }

pub returns : goal.returns
returns c =
    let dumps = clones_same (arc_value {X = DumpParts}) c.self.inside.dumps.items
    c.in_ok-clone.field-0.items c.in_ok-clone.ensures.cases.0 in
    let feeds = clones_same (λ (f : FeedParts). f) c.self.inside.feeds.items
    c.in_ok-clone-2.field-0.items c.in_ok-clone-2.ensures.cases.0 in
    ap (λ (ds : List DumpParts). in_force ds c.in_ok-clone-2.field-0.items) dumps
    ∙ ap (λ (fs : List FeedParts). in_force (map arc_value c.self.inside.dumps.items) fs)
    (map_self c.in_ok-clone-2.field-0.items c.self.inside.feeds.items feeds)
    ∙ c.self.view_is
