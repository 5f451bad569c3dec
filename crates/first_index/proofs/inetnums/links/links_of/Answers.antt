use Rattle.std.proofs.Common.{◌<◌, ◌∙◌, List, ap, arith, length, refl, sym, subst}
use Rattle.std.proofs.lemmas.Grind.{common_steps}
use Rattle.std.proofs.lemmas.Option.{slice_get_read}
use Rattle.first_index.specs.Links.{AreLinks}
use Rattle.first_index.specs.declared.inetnums.links.Link.{Link}
use Rattle.first_index.proofs.CoverLemmas.{links_more}
use Rattle.first_index.proofs.inetnums.links.links_of.Goals as goal

pub loop-index-preserved : goal.loop-index-preserved
loop-index-preserved c =
    let within : c.loop-index.index < length c.args.refs.now = omega arith in
    record {
      made = grind (arith, common_steps);
      links = subst (λ (ls : List Link). AreLinks c.args.refs.now ls)
          (sym c.in_ok-push.ensures.items)
          (links_more c.args.refs.now c.loop-index.links.items c.loop-index.index
          c.index-refs-index.result (record
          { reach = c.reach_of.result; outer = c.outer_of.result }) c.loop-index.invariant.links
          c.loop-index.invariant.made
          (slice_get_read c.args.refs.now
          (length c.args.refs.now) c.loop-index.index c.index-refs-index.result refl within
          c.index-refs-index.is) (record
          { outer = c.outer_of.ensures; reach = c.reach_of.ensures }));
    }

pub reach_of-requires : goal.reach_of-requires
reach_of-requires c =
    let within : c.loop-index.index < length c.args.refs.now = omega arith in
    record {
      here =
          slice_get_read c.args.refs.now (length c.args.refs.now) c.loop-index.index
          c.index-refs-index.result refl within c.index-refs-index.is;
      made = ap length c.as_slice.ensures.value ∙ c.loop-index.invariant.made;
      links = subst (λ (ls : List Link). AreLinks c.args.refs.now ls)
          (sym c.as_slice.ensures.value) c.loop-index.invariant.links;
      shelved = c.requires;
    }

pub outer_of-requires : goal.outer_of-requires
outer_of-requires c =
    let within : c.loop-index.index < length c.args.refs.now = omega arith in
    record {
      here =
          slice_get_read c.args.refs.now (length c.args.refs.now) c.loop-index.index
          c.index-refs-index.result refl within c.index-refs-index.is;
      made = ap length c.as_slice-in-loop-index.ensures.value ∙ c.loop-index.invariant.made;
      links = subst (λ (ls : List Link). AreLinks c.args.refs.now ls)
          (sym c.as_slice-in-loop-index.ensures.value) c.loop-index.invariant.links;
    }

pub returns-clause-links : goal.returns-clause-links
returns-clause-links c = c.loop-index.invariant.links
