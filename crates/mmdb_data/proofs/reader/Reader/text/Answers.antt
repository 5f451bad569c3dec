use Rattle.std.proofs.Common.{◌≡◌, ℕ, List, false, Ok, refl, sym, ap, ◌∙◌}
use Rattle.std.specs.Str.{is_utf8}
use Rattle.std.proofs.lemmas.Bool.{false_from_ne_true}
use Rattle.std.proofs.lemmas.Str.{is_utf8-from_IsUtf8, IsUtf8-from_is_utf8}
use Rattle.mmdb_data.specs.Reading.{text_from}
use Rattle.mmdb_data.specs.View.{budget}
use Rattle.mmdb_data.proofs.reader.Reader.text.Goals as goal

pub returns-in_ok-of-in-Ok-clause-gives : goal.returns-in_ok-of-in-Ok-clause-gives
unfolding text_from
returns-in_ok-of-in-Ok-clause-gives c =
    let content = c.in_ok-content.content.now in
    let found = c.in-Ok.ensures.cases in
    rw (c.in_ok-content.ensures.gives, is_utf8-from_IsUtf8 content found.1)
    (ap (λ (x : List ℕ). Ok (x, budget c.content_bytes.new.self.left))
    (sym found.0 ∙ sym c.in_ok-of-in-Ok.ensures))

pub returns-in-Err-clause-gives : goal.returns-in-Err-clause-gives
unfolding text_from
returns-in-Err-clause-gives c =
    let content = c.in_ok-content.content.now in
    let fails : is_utf8 content ≡ false =
    false_from_ne_true (is_utf8 content)
    (λ e. c.in-Err.ensures.cases.0 (IsUtf8-from_is_utf8 content e)) in
    rw (c.bad.ensures, c.in_ok-content.ensures.stays, c.in_ok-content.ensures.gives, fails) refl
