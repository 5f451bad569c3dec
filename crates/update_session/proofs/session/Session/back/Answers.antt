use Rattle.std.proofs.Common.{◌≡◌, ◌∙◌, List, Some, sym, ap, subst}
use Rattle.geo_addr.specs.Ranges.{Ends}
use Rattle.geo_terms.specs.Sources.{InForce}
use Rattle.source_changes.specs.Changes.{named}
use Rattle.update_session.specs.contracts.session.Session.{the_view}
use Rattle.update_session.specs.declared.marks.Mark.{Mark}
use Rattle.update_session.specs.Kept.{Held, IsBased, gone_back}
use Rattle.update_session.proofs.MarkLemmas.{all_named}
use Rattle.update_session.proofs.session.Session.back.Goals as goal

pub invariant_of-self : goal.invariant_of-self
invariant_of-self c =
    let found : named (λ m. m.name) c.args.name.now c.self.inside.marks.items
    ≡ Some c.in-Some.mark.now =
    ap (λ (ms : List Mark). named (λ m. m.name) c.args.name.now ms) (sym c.as_slice.ensures.value)
    ∙ sym c.in-Some.ensures in
    let based = all_named (λ m. m.name)
    (λ m. IsBased m.sources c.self.inside.store c.self.inside.places m.root m.touched)
    c.args.name.now c.self.inside.marks.items c.in-Some.mark.now c.self.invariant.1.marks found in
    let touched = c.in_ok-touched.ensures ∙ c.list.ensures in (
      (c.self.invariant.0.0, c.in_ok-noted.ensures ∙ sym touched),
      record {
        now =
            subst (λ (s : InForce). IsBased s c.self.inside.store c.self.inside.places
            c.in-Some.mark.now.root c.in_ok-touched.touched) (sym c.in_ok-sources.ensures)
            (subst (λ (rs : List Ends). IsBased c.in-Some.mark.now.sources c.self.inside.store
            c.self.inside.places c.in-Some.mark.now.root rs) (sym touched) based);
        marks = c.self.invariant.1.marks;
        order = c.self.invariant.1.order;
      },
    )

pub returns-clause-ok : goal.returns-clause-ok
returns-clause-ok c =
    let marks : c.as_slice.result.now ≡ c.args.self.now.marks =
    c.as_slice.ensures.value ∙ ap (λ (h : Held). h.marks) c.self.view_is in
    let touched = c.in_ok-touched.ensures ∙ c.list.ensures in
    let sources = c.in_ok-sources.ensures in (
      c.in-Some.mark.now,
      ap (λ (ms : List Mark). named (λ m. m.name) c.args.name.now ms) (sym marks)
          ∙ sym c.in-Some.ensures,
      (λ i. gone_back (record c.in-Some.mark.now { sources = sources i; touched = touched i })
          (the_view c.self.inside)) ∙ ap (gone_back c.in-Some.mark.now) c.self.view_is,
    )
