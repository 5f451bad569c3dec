use Rattle.std.proofs.Common.{◌≡◌, ◌∙◌, List, ap, subst, sym}
use Rattle.std.specs.List.{All}
use Rattle.geo_addr.specs.Ranges.{IsBlock, range_of_block}
use Rattle.geo_terms.specs.Precedence.{entry_cmp}
use Rattle.geo_terms.specs.SourceForm.{FeedParts}
use Rattle.geo_terms.specs.declared.statement.Entry.{Entry}
use Rattle.authority.specs.Kinds.{IsKindIndex, IsReady}
use Rattle.authority.proofs.ready.index_of.Goals as goal

pub returns : goal.returns
returns c =
    let entries : c.as_slice.result.now ≡ c.args.feed.now.entries =
    c.as_slice.ensures ∙ ap (λ (f : FeedParts). f.entries) c.feed.view_is in
    subst (IsReady c.args.feed.now) (sym c.in_ok-index-2.ensures.ok)
    (record {
      blocks =
          subst (λ (es : List Entry). All (λ e. IsBlock e.block) es) entries
          c.in_ok-index.ensures.kept;
      entries =
          subst (λ (es : List Entry). IsKindIndex entry_cmp (λ e. range_of_block e.block) es
          c.in_ok-index.index) entries c.in_ok-index.ensures.index;
    })
