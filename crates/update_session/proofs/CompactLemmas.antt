-- What a compact store keeps: roots that mean what they meant,
-- and as many nodes as there are different ones.
use Rattle.std.proofs.Common.{◌≡◌, ℕ, zero, suc, ◌+◌, ◌<◌, ◌≤◌, inl, inr, List, [], ◌∷◌, length}
use Rattle.std.proofs.Common.{map, take, drop, get_or, add-one, Option, refl, sym, ap, ap₂, ◌∙◌}
use Rattle.std.proofs.Common.{subst, arith}
use Rattle.std.specs.Prelude.{All, nat_eq, slice_set}
use Rattle.std.specs.List.{AllByRecursion, AllZip, IsDistinct}
use Rattle.std.proofs.lemmas.List.{length-map}
use Rattle.std.proofs.lemmas.List.Elements.{recursion_from_All}
use Rattle.geo_addr.specs.Bits.{bits_of}
use Rattle.geo_addr.specs.Ranges.{Ends}
use Rattle.geo_terms.specs.Numbers.{place_at, same_place}
use Rattle.geo_terms.specs.PlaceForm.{PlaceParts}
use Rattle.geo_terms.specs.Precedence.{record_at, text_cmp}
use Rattle.geo_terms.specs.SlotOrder.{AreInOrder}
use Rattle.geo_terms.specs.Sources.{InForce}
use Rattle.trie_core.specs.declared.node.Pair.{Pair}
use Rattle.trie_core.specs.declared.node.Root.{Root}
use Rattle.trie_core.specs.Compact.{HoldsExactly, trees_of_roots}
use Rattle.trie_core.specs.Store.{tree_of, record_of, IsRootOf, IsSound}
use Rattle.trie_core.specs.Tree.{Tree, look, AllLeaves, map_tree}
use Rattle.trie_core.proofs.RenameLemmas.{leaf-AllLeaves}
use Rattle.trie_core.proofs.StoreLemmas.{IsReduced-meaning}
use Rattle.trie_core.proofs.TreeLemmas.{nat_equality}
use Rattle.least_nodes.specs.Together.{nodes_of, HaveLeaf}
use Rattle.least_nodes.proofs.CompactLemmas.{CompactCount-holds}
use Rattle.least_nodes.proofs.TogetherLemmas.{RenamedNodes-holds}
use Rattle.mmdb_file.specs.FileImage.{record_tree, same_answer}
use Rattle.mmdb_file.proofs.ImageLemmas.{numbers_known}
use Rattle.mmdb_file.proofs.PlaceTreeLemmas.{answer_equality, numbers_apart, tree_named}
use Rattle.update_session.specs.declared.marks.Mark.{Mark}
use Rattle.update_session.specs.Calls.{HasCompacted, HasStayed}
use Rattle.update_session.specs.Kept.{AnswersAll, AreBased, Held, IsBased, IsSession, RootMeans}
use Rattle.update_session.specs.Kept.{gone_back}
use Rattle.update_session.specs.Marks.{with_roots}
use Rattle.update_session.specs.State.{nodes_under}
use Rattle.update_session.proofs.WriteLemmas.{leaf_is}

-- ---- roots with the same trees

AnswersAll-moved : (pairs pairs' : List Pair) (places : List PlaceParts) (root root' : Root)
    (s : InForce) → tree_of pairs' root' ≡ tree_of pairs root
    → AnswersAll pairs places root s → AnswersAll pairs' places root' s
AnswersAll-moved pairs pairs' places root root' s same h a below =
    let old = h a below in
    record {
      leaf = old.leaf;
      is = ap (λ (t : Tree ℕ). look t (bits_of 128 a)) same ∙ old.is;
      few = old.few;
      place = old.place;
    }

pub IsBased-moved : (s : InForce) (pairs pairs' : List Pair) (places : List PlaceParts)
    (root root' : Root) (touched : List Ends) → tree_of pairs' root' ≡ tree_of pairs root
    → IsRootOf pairs' root'
    → IsBased s pairs places root touched → IsBased s pairs' places root' touched
IsBased-moved s pairs pairs' places root root' touched same of h = record {
  sources = h.sources;
  of = of;
  base = record {
    base = h.base.base;
    answers = AnswersAll-moved pairs pairs' places root root' h.base.base same h.base.answers;
    kept = h.base.kept;
  };
}

pub RootMeans-moved : (old new : Held) (s : InForce) → new.places ≡ old.places
    → tree_of new.store new.root ≡ tree_of old.store old.root → IsRootOf new.store new.root
    → RootMeans old s → RootMeans new s
RootMeans-moved old new s places same of h = record {
  of = of;
  answers =
      subst (λ (ps : List PlaceParts). AnswersAll new.store ps new.root s) (sym places)
      (AnswersAll-moved old.store new.store old.places old.root new.root s same h.answers);
}

-- ---- marks with other roots

pub with_roots-none : (ms : List Mark) → with_roots ms [] ≡ ms
with_roots-none [] = refl
with_roots-none (m ∷ ms) = refl

-- one root more
with_roots-more : (ms : List Mark) (rs : List Root) (i : ℕ) (d : Mark) (r : Root) → i < length ms
    → i < length rs
    → slice_set (with_roots ms (take i rs)) i
    (record (get_or (with_roots ms (take i rs)) i d) { root = get_or rs i r })
    ≡ with_roots ms (take (suc i) rs)
with_roots-more [] rs i d r low low' = absurd (omega (arith, low))
with_roots-more (m ∷ ms) [] i d r low low' = absurd (omega (arith, low'))
with_roots-more (m ∷ ms) (q ∷ qs) zero d r low low' =
    ap (λ xs. record m { root = q } ∷ xs) (sym (with_roots-none ms))
with_roots-more (m ∷ ms) (q ∷ qs) (suc i) d r low low' =
    ap (λ xs. record m { root = q } ∷ xs)
    (with_roots-more ms qs i d r (omega (arith, low)) (omega (arith, low')))

pub with_roots-step : (now ms : List Mark) (rs : List Root) (i : ℕ) (d : Mark) (r : Root)
    → now ≡ with_roots ms (take i rs) → i < length ms → i < length rs
    → slice_set now i (record (get_or now i d) { root = get_or rs i r })
    ≡ with_roots ms (take (i + 1) rs)
with_roots-step now ms rs i d r is low low' =
    subst (λ (xs : List Mark). slice_set xs i (record (get_or xs i d) { root = get_or rs i r })
    ≡ with_roots ms (take (i + 1) rs)) (sym is)
    (with_roots-more ms rs i d r low low' ∙ ap (λ n. with_roots ms (take n rs)) (sym (add-one i)))

-- the same marks by their names, so in the same order
with_roots-length : (ms : List Mark) (rs : List Root) → length (with_roots ms rs) ≡ length ms
with_roots-length [] rs = refl
with_roots-length (m ∷ ms) [] = refl
with_roots-length (m ∷ ms) (r ∷ rs) = ap suc (with_roots-length ms rs)

with_roots-name : (ms : List Mark) (rs : List Root) (i : ℕ) (d : Mark)
    → (get_or (with_roots ms rs) i d).name ≡ (get_or ms i d).name
with_roots-name [] rs i d = refl
with_roots-name (m ∷ ms) [] i d = refl
with_roots-name (m ∷ ms) (r ∷ rs) zero d = refl
with_roots-name (m ∷ ms) (r ∷ rs) (suc i) d = with_roots-name ms rs i d

with_roots-order : (ms : List Mark) (rs : List Root) → AreInOrder (λ (m : Mark). m.name) ms
    → AreInOrder (λ (m : Mark). m.name) (with_roots ms rs)
with_roots-order ms rs up i j d lt below =
    let long = with_roots-length ms rs in
    ap₂ text_cmp (with_roots-name ms rs i d) (with_roots-name ms rs j d)
    ∙ up i j d lt (omega (arith, below))

abbrev pub roots_of : List Mark → List Root
roots_of ms = map (λ m. m.root) ms

-- what holds of the marks holds of them with roots of the same trees
pub AreBased-moved : (pairs pairs' : List Pair) (places : List PlaceParts) (ms : List Mark)
    (rs : List Root) → trees_of_roots pairs' rs ≡ trees_of_roots pairs (roots_of ms)
    → AllByRecursion (IsRootOf pairs') rs → AreBased pairs places ms
    → AreBased pairs' places (with_roots ms rs)
AreBased-moved pairs pairs' places [] rs same of h = tt
AreBased-moved pairs pairs' places (m ∷ ms) [] same of h =
    absurd (let this : [] ≡ tree_of pairs m.root ∷ trees_of_roots pairs (roots_of ms) = same in cc)
AreBased-moved pairs pairs' places (m ∷ ms) (r ∷ rs) same of h =
    let both : tree_of pairs' r ∷ trees_of_roots pairs' rs
    ≡ tree_of pairs m.root ∷ trees_of_roots pairs (roots_of ms) = same in
    let first : tree_of pairs' r ≡ tree_of pairs m.root = cc in
    let rest : trees_of_roots pairs' rs ≡ trees_of_roots pairs (roots_of ms) = cc in (
      IsBased-moved m.sources pairs pairs' places m.root r m.touched first of.0 h.0,
      AreBased-moved pairs pairs' places ms rs rest of.1 h.1,
    )

-- and the marks stayed
pub marks_stayed : (old new : Held) → new.places ≡ old.places → (ms : List Mark) (rs : List Root)
    → trees_of_roots new.store rs ≡ trees_of_roots old.store (roots_of ms)
    → AllByRecursion (IsRootOf new.store) rs → AllZip (HasStayed old new) ms (with_roots ms rs)
marks_stayed old new places [] rs same of = tt
marks_stayed old new places (m ∷ ms) [] same of =
    absurd
    (let this : [] ≡ tree_of old.store m.root ∷ trees_of_roots old.store (roots_of ms) = same in cc)
marks_stayed old new places (m ∷ ms) (r ∷ rs) same of =
    let both : tree_of new.store r ∷ trees_of_roots new.store rs
    ≡ tree_of old.store m.root ∷ trees_of_roots old.store (roots_of ms) = same in
    let first : tree_of new.store r ≡ tree_of old.store m.root = cc in
    let rest : trees_of_roots new.store rs ≡ trees_of_roots old.store (roots_of ms) = cc in (
      record {
        name = refl;
        sources = refl;
        touched = refl;
        root =
            λ s h. RootMeans-moved (gone_back m old)
            (gone_back (record m { root = r }) new) s places first of.0 h;
      },
      marks_stayed old new places ms rs rest of.1,
    )

-- ---- all roots at once

-- the roots of a session and of its marks are roots of its store
pub roots_known : (pairs : List Pair) (places : List PlaceParts) (root : Root) (ms : List Mark)
    → IsRootOf pairs root → AreBased pairs places ms
    → AllByRecursion (IsRootOf pairs) (root ∷ roots_of ms)
roots_known pairs places root [] of h = (of, tt)
roots_known pairs places root (m ∷ ms) of h = (of, roots_known pairs places m.root ms h.0.of h.1)

-- roots that mean what a first one and others meant: the first, and the rest
pub record AreSplit (pairs pairs' : List Pair) (root : Root) (ms : List Mark) (first : Root)
    (others : List Root) : Type 0 where
  pub same : tree_of pairs' first ≡ tree_of pairs root
  pub of : IsRootOf pairs' first
  pub trees : trees_of_roots pairs' others ≡ trees_of_roots pairs (roots_of ms)
  pub all_of : AllByRecursion (IsRootOf pairs') others
  pub long : length ms ≡ length others

alike_long : (pairs pairs' : List Pair) (ms : List Mark) (rs : List Root)
    → trees_of_roots pairs' rs ≡ trees_of_roots pairs (roots_of ms) → length ms ≡ length rs
alike_long pairs pairs' ms rs same =
    sym (length-map ms (λ (m : Mark). m.root)) ∙ sym (length-map (roots_of ms) (tree_of pairs))
    ∙ sym (ap length same) ∙ length-map rs (tree_of pairs')

roots_split : (pairs pairs' : List Pair)
    (root : Root) (ms : List Mark) (roots front back : List Root) (d : Root)
    → trees_of_roots pairs' roots ≡ trees_of_roots pairs (root ∷ roots_of ms)
    → AllByRecursion (IsRootOf pairs') roots → front ≡ take 1 roots → back ≡ drop 1 roots
    → AreSplit pairs pairs' root ms (get_or front 0 d) back
roots_split pairs pairs' root ms [] front back d same of front-is back-is =
    absurd (let this : [] ≡ tree_of pairs root ∷ trees_of_roots pairs (roots_of ms) = same in cc)
roots_split pairs pairs' root ms (r ∷ rs) front back d same of front-is back-is =
    let both : tree_of pairs' r ∷ trees_of_roots pairs' rs
    ≡ tree_of pairs root ∷ trees_of_roots pairs (roots_of ms) = same in
    let first : tree_of pairs' r ≡ tree_of pairs root = cc in
    let rest : trees_of_roots pairs' rs ≡ trees_of_roots pairs (roots_of ms) = cc in
    let split : AreSplit pairs pairs' root ms r rs = record {
      same = first;
      of = of.0;
      trees = rest;
      all_of = of.1;
      long = alike_long pairs pairs' ms rs rest;
    } in
    let one : front ≡ r ∷ [] = front-is in
    let others : back ≡ rs = back-is in
    subst (λ (xs : List Root). AreSplit pairs pairs' root ms (get_or xs 0 d) back) (sym one)
    (subst (AreSplit pairs pairs' root ms r) (sym others) split)

-- the roots of a compact store: the session's own is the first,
-- and those of its marks are the others
pub roots_made : (pairs pairs' : List Pair) (root : Root) (ms : List Mark)
    (asked made all front back : List Root) (d : Root) → asked ≡ root ∷ roots_of ms
    → trees_of_roots pairs' made ≡ trees_of_roots pairs asked → All (IsRootOf pairs') made
    → all ≡ made → front ≡ take 1 all → back ≡ drop 1 all
    → AreSplit pairs pairs' root ms (get_or front 0 d) back
roots_made pairs pairs' root ms asked made all front back d asked-is same of all-is
    front-is back-is =
    roots_split pairs pairs' root ms made front back d (same ∙ ap (trees_of_roots pairs) asked-is)
    (recursion_from_All (IsRootOf pairs') made of)
    (front-is ∙ ap (take 1) all-is) (back-is ∙ ap (drop 1) all-is)

-- ---- how many nodes

module _ (pairs : List Pair) (sound : IsSound pairs) (places : List PlaceParts)
    (distinct : IsDistinct same_place places) where
  known : (root : Root) (s : InForce) → IsRootOf pairs root → AnswersAll pairs places root s
      → AllLeaves (λ k. k ≤ length places) (tree_of pairs root)
  known root s of h =
      numbers_known pairs sound places (record_of root) of
      (λ a k below is. (leaf_is pairs places root s a k (h a below) is).0)

  record_tree-is : (root : Root) (s : InForce)
      → IsRootOf pairs root → AnswersAll pairs places root s
      → map_tree (place_at places) (tree_of pairs root) ≡ record_tree s
  unfolding record_tree
  record_tree-is root s of h =
      tree_named places distinct (tree_of pairs root) (known root s of h) (
        sound.low (record_of root) of,
        IsReduced-meaning pairs sound (length pairs) (record_of root) (omega arith) of,
      )
      (record_at s) (λ a k below is. (leaf_is pairs places root s a k (h a below) is).1)

  record_trees : (roots : List Root) (ss : List InForce) → AllByRecursion (IsRootOf pairs) roots
      → AllZip (AnswersAll pairs places) roots ss
      → map (map_tree (place_at places)) (trees_of_roots pairs roots) ≡ map record_tree ss
  record_trees [] [] of h = refl
  record_trees [] (s ∷ ss) of h = absurd h
  record_trees (r ∷ rs) [] of h = absurd h
  record_trees (r ∷ rs) (s ∷ ss) of h =
      ap₂ (λ t ts. t ∷ ts) (record_tree-is r s of.0 h.0) (record_trees rs ss of.1 h.1)

  leaf_known : (roots : List Root) (ss : List InForce) → AllByRecursion (IsRootOf pairs) roots
      → AllZip (AnswersAll pairs places) roots ss
      → (k : ℕ) → HaveLeaf (trees_of_roots pairs roots) k → k ≤ length places
  leaf_known [] ss of h k has = absurd has
  leaf_known (r ∷ rs) [] of h k has = absurd h
  leaf_known (r ∷ rs) (s ∷ ss) of h k (inl has) =
      leaf-AllLeaves (λ n. n ≤ length places) (tree_of pairs r) k (known r s of.0 h.0) has
  leaf_known (r ∷ rs) (s ∷ ss) of h k (inr has) = leaf_known rs ss of.1 h.1 k has

  -- a store of the nodes under the roots alone has as many as the
  -- records' trees have different ones
  pub nodes_counted : (made : List Pair) (roots : List Root) (ss : List InForce) → IsSound made
      → HoldsExactly made (trees_of_roots pairs roots) → AllByRecursion (IsRootOf pairs) roots
      → AllZip (AnswersAll pairs places) roots ss → length made ≡ nodes_under ss
  unfolding nodes_under
  nodes_counted made roots ss made-sound exact of h =
      CompactCount-holds made made-sound (trees_of_roots pairs roots) exact
      ∙ sym (RenamedNodes-holds ℕ (Option PlaceParts) nat_eq nat_equality same_answer
      answer_equality (place_at places) (trees_of_roots pairs roots)
      (λ a b has-a has-b same. numbers_apart places distinct a b (leaf_known roots ss of h a has-a)
      (leaf_known roots ss of h b has-b) same))
      ∙ ap (λ (ts : List (Tree (Option PlaceParts))). length (nodes_of same_answer ts))
      (record_trees roots ss of h)

-- ---- a session that was compacted

answers_of : (old : Held) (ms : List Mark) (ss : List InForce)
    → AllZip (λ m s. RootMeans (gone_back m old) s) ms ss
    → AllZip (AnswersAll old.store old.places) (roots_of ms) ss
answers_of old [] [] h = tt
answers_of old [] (s ∷ ss) h = absurd h
answers_of old (m ∷ ms) [] h = absurd h
answers_of old (m ∷ ms) (s ∷ ss) h = (h.0.answers, answers_of old ms ss h.1)

pub HasCompacted-made : (old new : Held) (others : List Root) → new.state ≡ old.state
    → new.places ≡ old.places → new.touched ≡ old.touched
    → AreSplit old.store new.store old.root old.marks new.root others
    → new.marks ≡ with_roots old.marks others
    → ((ss : List InForce) → AllZip (AnswersAll old.store old.places)
    (old.root ∷ roots_of old.marks) ss → length new.store ≡ nodes_under ss) → HasCompacted old new
HasCompacted-made old new others state places touched split marks count = record {
  state = state;
  places = places;
  touched = touched;
  root = λ s h. RootMeans-moved old new s places split.same split.of h;
  marks =
      subst (AllZip (HasStayed old new) old.marks) (sym marks)
      (marks_stayed old new places old.marks others split.trees split.all_of);
  store = λ base bases h hs. count (base ∷ bases) (h.answers, answers_of old old.marks bases hs);
}

pub IsSession-compacted : (s : InForce) (pairs pairs' : List Pair) (places : List PlaceParts)
    (root root' : Root) (touched : List Ends) (marks marks' : List Mark) (others : List Root)
    → IsSession s pairs places root touched marks → AreSplit pairs pairs' root marks root' others
    → marks' ≡ with_roots marks others → IsSession s pairs' places root' touched marks'
IsSession-compacted s pairs pairs' places root root' touched marks marks' others h split is =
    record {
      now = IsBased-moved s pairs pairs' places root root' touched split.same split.of h.now;
      marks =
          subst (AreBased pairs' places) (sym is)
          (AreBased-moved pairs pairs' places marks others split.trees split.all_of h.marks);
      order =
          subst (AreInOrder (λ (m : Mark). m.name)) (sym is)
          (with_roots-order marks others h.order);
    }
