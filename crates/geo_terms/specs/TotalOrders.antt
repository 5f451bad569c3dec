-- Each order of precedence is total, so a sort puts statements in it.
use Rattle.std.specs.Cmp.{IsTotalOrder, nat_cmp_total, on_total, then_total, back_total}
use Rattle.std.specs.Cmp.Lexicographic.{nat_list_cmp_total}
use Rattle.geo_addr.specs.Ranges.{size}
use Rattle.geo_terms.specs.DelegationForm.{DelegationParts}
use Rattle.geo_terms.specs.Precedence.{delegation_cmp, entry_cmp, override_cmp, reference_cmp}
use Rattle.geo_terms.specs.declared.statement.Entry.{Entry}
use Rattle.geo_terms.specs.declared.statement.Override.{Override}
use Rattle.geo_terms.specs.declared.statement.Reference.{Reference}

pub reference_total : IsTotalOrder reference_cmp
unfolding reference_cmp
reference_total =
    then_total (on_total (λ (r : Reference). size r.range) nat_cmp_total)
    (then_total (back_total (on_total (λ (r : Reference). r.modified) nat_cmp_total))
    (then_total (on_total (λ (r : Reference). r.range.first) nat_cmp_total)
    (then_total (on_total (λ (r : Reference). r.url) nat_list_cmp_total)
    (then_total (on_total (λ (r : Reference). r.slot) nat_list_cmp_total)
    (on_total (λ (r : Reference). r.line) nat_cmp_total)))))

pub delegation_total : IsTotalOrder delegation_cmp
unfolding delegation_cmp
delegation_total =
    then_total (on_total (λ (d : DelegationParts). size d.range) nat_cmp_total)
    (then_total (on_total (λ (d : DelegationParts). d.range.first) nat_cmp_total)
    (then_total (on_total (λ (d : DelegationParts). d.place.country) nat_list_cmp_total)
    (then_total (on_total (λ (d : DelegationParts). d.slot) nat_list_cmp_total)
    (on_total (λ (d : DelegationParts). d.line) nat_cmp_total))))

pub override_total : IsTotalOrder override_cmp
unfolding override_cmp
override_total =
    then_total (on_total (λ (o : Override). size o.range) nat_cmp_total)
    (on_total (λ (o : Override). o.range.first) nat_cmp_total)

pub entry_total : IsTotalOrder entry_cmp
unfolding entry_cmp
entry_total = back_total (on_total (λ (e : Entry). e.block.len) nat_cmp_total)
