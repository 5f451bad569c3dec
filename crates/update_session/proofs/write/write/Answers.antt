use Rattle.std.proofs.Common.{◌≡◌, ◌∙◌, Some, ap, sym}
use Rattle.std.specs.Prelude.{Ok, Err, option_map}
use Rattle.geo_terms.specs.Precedence.{record_at}
use Rattle.std.proofs.lemmas.Result.{err_from_is_err_and}
use Rattle.mmdb_file.specs.declared.fault.FileFault.TheVariants.{TooLarge}
use Rattle.mmdb_file.specs.FileImage.{record_tree}
use Rattle.mmdb_file.specs.PlaceValue.{place_value}
use Rattle.mmdb_file.specs.Writing.{place_tree}
use Rattle.update_session.proofs.WriteLemmas.{leaf_is, file_is, is_too_large-from_none}
use Rattle.update_session.proofs.WriteLemmas.{too_large_file}
use Rattle.update_session.proofs.write.write.Goals as goal

pub returns-clause-file : goal.returns-clause-file
unfolding record_tree
returns-clause-file c = λ s answers.
    file_is s (place_tree c.args.places.now c.args.store.now c.args.root) c.args.meta.now.epoch
    c.args.meta.now.name _ _ _ _
    (c.in_ok-file.ensures.places (record_at s)
    (λ address k below is. (leaf_is _ _ _ s address k (answers address below) is).1))
    c.in_ok-file.ensures.bytes c.in_ok-file.ensures.nodes c.in_ok-file.ensures.section
    c.in_ok-file.ensures.bits

pub returns-clause-walked : goal.returns-clause-walked
returns-clause-walked c = λ s answers a below.
    let right = answers a below in
    c.in_ok-file.ensures.walked a right.leaf right.is
    ∙ ap (λ place. Ok (option_map place_value place)) right.place

pub returns-clause-fewest : goal.returns-clause-fewest
returns-clause-fewest c = λ s answers nodes finds.
    c.in_ok-file.ensures.fewest nodes (λ address k below is. finds address below
    ∙ ap Some (sym (leaf_is _ _ _ s address k (answers address below) is).1))

pub returns-in_err-file-clause-too_large : goal.returns-in_err-file-clause-too_large
unfolding record_tree
returns-in_err-file-clause-too_large c = λ e s answers.
    let p = err_from_is_err_and c.from_residual.result c.from_residual.ensures.1 in
    let large : c.in_err-file.field-0.0 ≡ TooLarge =
    too_large_file c.in_err-file.field-0.0 (cc (p.1, p.2, e)) in
    is_too_large-from_none s (place_tree c.args.places.now c.args.store.now c.args.root)
    c.args.meta.now.epoch c.args.meta.now.name
    (c.in_err-file.ensures.places (record_at s)
    (λ address k below is. (leaf_is _ _ _ s address k (answers address below) is).1))
    (c.in_err-file.ensures.too_large (ap Err large))
