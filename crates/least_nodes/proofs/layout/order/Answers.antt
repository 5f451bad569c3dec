use Rattle.trie_core.specs.Store.{record_of}
use Rattle.least_nodes.proofs.WalkLemmas.{IsLayoutOf-from_walk}
use Rattle.least_nodes.proofs.layout.order.Goals as goal

pub returns-clause-nodes : goal.returns-clause-nodes
returns-clause-nodes c =
    let rec = c.rec_of-rec.ensures in
    let new = c.new-seen.ensures in
    let walk = c.in_ok-visit.ensures in
    let whole =
    IsLayoutOf-from_walk c.args.store.now c.rec_of-rec.result (record_of c.args.root)
    c.new-seen.result.nodes c.visit.new.seen.nodes
    c.new-seen.result.places c.visit.new.seen.places
    rec.sound rec.of rec.same new.nodes new.places walk.known walk.nodes walk.places in
    whole.nodes

pub returns-clause-of : goal.returns-clause-of
returns-clause-of c =
    let rec = c.rec_of-rec.ensures in
    let new = c.new-seen.ensures in
    let walk = c.in_ok-visit.ensures in
    let whole =
    IsLayoutOf-from_walk c.args.store.now c.rec_of-rec.result (record_of c.args.root)
    c.new-seen.result.nodes c.visit.new.seen.nodes
    c.new-seen.result.places c.visit.new.seen.places
    rec.sound rec.of rec.same new.nodes new.places walk.known walk.nodes walk.places in
    whole.of

pub returns-clause-leaves : goal.returns-clause-leaves
returns-clause-leaves c =
    let rec = c.rec_of-rec.ensures in
    let new = c.new-seen.ensures in
    let walk = c.in_ok-visit.ensures in
    let whole =
    IsLayoutOf-from_walk c.args.store.now c.rec_of-rec.result (record_of c.args.root)
    c.new-seen.result.nodes c.visit.new.seen.nodes
    c.new-seen.result.places c.visit.new.seen.places
    rec.sound rec.of rec.same new.nodes new.places walk.known walk.nodes walk.places in
    whole.leaves

pub returns-clause-least : goal.returns-clause-least
returns-clause-least c =
    let rec = c.rec_of-rec.ensures in
    let new = c.new-seen.ensures in
    let walk = c.in_ok-visit.ensures in
    let whole =
    IsLayoutOf-from_walk c.args.store.now c.rec_of-rec.result (record_of c.args.root)
    c.new-seen.result.nodes c.visit.new.seen.nodes
    c.new-seen.result.places c.visit.new.seen.places
    rec.sound rec.of rec.same new.nodes new.places walk.known walk.nodes walk.places in
    whole.least

pub returns-clause-few : goal.returns-clause-few
returns-clause-few c =
    let rec = c.rec_of-rec.ensures in
    let new = c.new-seen.ensures in
    let walk = c.in_ok-visit.ensures in
    let whole =
    IsLayoutOf-from_walk c.args.store.now c.rec_of-rec.result (record_of c.args.root)
    c.new-seen.result.nodes c.visit.new.seen.nodes
    c.new-seen.result.places c.visit.new.seen.places
    rec.sound rec.of rec.same new.nodes new.places walk.known walk.nodes walk.places in
    whole.few
