use Rattle.std.proofs.Common.{◌∙◌, List, sym, ap, subst}
use Rattle.geo_addr.specs.Ranges.{Ends}
use Rattle.update_session.specs.declared.marks.Mark.{Mark}
use Rattle.update_session.specs.Kept.{AreBased, IsBased}
use Rattle.update_session.proofs.MarkLemmas.{all_placed}
use Rattle.update_session.proofs.session.Session.mark.Goals as goal

pub invariant_of-self-2 : goal.invariant_of-self-2
invariant_of-self-2 c =
    let grounds = c.in_ok-grounds.ensures in
    let is = c.in_ok-mark.ensures ∙ ap (λ (rs : List Ends). record {
      name = c.args.name.now;
      sources = c.self.inside.sources;
      root = c.self.inside.root;
      touched = rs;
    }) (c.in_ok-touched.ensures ∙ grounds) in
    let one : IsBased c.in_ok-mark.mark.sources c.self.inside.store c.self.inside.places
    c.in_ok-mark.mark.root c.in_ok-mark.mark.touched =
    subst (λ (m : Mark). IsBased m.sources c.self.inside.store c.self.inside.places m.root
    m.touched) (sym is) c.self.invariant.1.now in (
      (c.self.invariant.0.0, grounds),
      record {
        now = c.self.invariant.1.now;
        marks =
            subst (AreBased c.self.inside.store c.self.inside.places)
            (sym c.in_ok-put_mark.ensures.ok)
            (all_placed (λ m. m.name)
            (λ m. IsBased m.sources c.self.inside.store c.self.inside.places m.root m.touched)
            c.in_ok-mark.mark c.self.inside.marks.items one c.self.invariant.1.marks);
        order = c.in_ok-put_mark.ensures.order;
      },
    )
