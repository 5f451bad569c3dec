-- One part more.
use Rattle.std.proofs.Common.{◌≡◌, ◌∷◌, ◌++◌, [], List, All, arith, ap, eqb, length, rules}
use Rattle.std.proofs.Common.{◌∙◌, refl, subst, sym}
use Rattle.std.proofs.lemmas.List.{length-append}
use Rattle.std.proofs.lemmas.List.Elements.{All-nil, All-push}
use Rattle.std.proofs.lemmas.List.Sums.{count_by-le-length}
use Rattle.line_parts.specs.Parts.{AreCut, EndsBehind}
use Rattle.line_parts.specs.declared.part.LinePart.{LinePart}
use Rattle.line_parts.proofs.CutLemmas.{AreCut-more}
use Rattle.line_parts.proofs.GatherLemmas.{lines_of_part}
use Rattle.line_parts.proofs.PartLemmas.{one_part}
use Rattle.line_parts.proofs.cut.cut_part.Goals as goal

pub loop-left-init : goal.loop-left-init
loop-left-init c = record {
  lines = rw c.new-parts.ensures.items (lines_of_part c.args.lines);
  cut = rw c.new-parts.ensures.items refl;
  short =
      rw c.new-parts.ensures.items (All-nil (λ (p : LinePart). EndsBehind c.args.size p.text.now));
  within = omega arith;
}

pub loop-left-preserved : goal.loop-left-preserved
loop-left-preserved c =
    let inv = c.loop-left.invariant in
    let part = c.part_behind-part in
    let pushed : c.push.new.self.items ≡ c.loop-left.parts.items ++ part.result ∷ [] =
    search rules in
    let text = c.cut_behind.result.0.now in
    let after = c.cut_behind.result.1.now in
    record {
      lines =
          one_part c.loop-left.parts.items c.push.new.self.items part.result c.loop-left.before
          c.count_feeds-before.result text after c.loop-left.left.now _ pushed part.ensures.before
          part.ensures.text c.count_feeds-before.ensures c.cut_behind.ensures.joined
          c.cut_behind.ensures.end c.cut_behind.ensures.unmarked inv.lines;
      cut =
          subst (λ (ps : List LinePart). AreCut c.args.size c.args.lines.text.now ps after)
          (sym pushed) (AreCut-more c.args.size c.args.lines.text.now c.loop-left.parts.items
          c.loop-left.left.now part.result after inv.cut (search rules)
          (part.ensures.text ∙ c.cut_behind.ensures.first) c.cut_behind.ensures.rest);
      short =
          subst
          (λ (ps : List LinePart). All (λ (p : LinePart). EndsBehind c.args.size p.text.now) ps)
          (sym pushed) (All-push (λ (p : LinePart). EndsBehind c.args.size p.text.now)
          c.loop-left.parts.items part.result inv.short
          (subst (EndsBehind c.args.size) (sym part.ensures.text) c.cut_behind.ensures.short));
      within =
          omega (
            arith,
            inv.within,
            ap length c.cut_behind.ensures.joined,
            length-append text after,
            c.count_feeds-before.ensures,
            count_by-le-length (λ b. eqb b 10) text,
          );
    }

pub returns-clause-cut : goal.returns-clause-cut
returns-clause-cut c = search rules steps 1000000

pub returns-clause-lines : goal.returns-clause-lines
returns-clause-lines c = search rules steps 1000000
