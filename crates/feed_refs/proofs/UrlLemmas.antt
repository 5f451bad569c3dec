-- A text is read as a URL where it is UTF-8.
use Rattle.std.proofs.Common.{◌≡◌, ℕ, List, None, sym}
use Rattle.std.specs.Str.{IsUtf8, is_utf8}
use Rattle.std.proofs.lemmas.Bool.{cond-true, cond-false, false_from_ne_true}
use Rattle.std.proofs.lemmas.Str.{IsUtf8-from_is_utf8, is_utf8-from_IsUtf8}
use Rattle.url.specs.Parser.{parse_url}
use Rattle.feed_refs.specs.declared.feed_url.UrlRead.TheVariants.{Refused}
use Rattle.feed_refs.specs.Urls.{parsed_read, url_read}

pub bytes_refused : (text : List ℕ) → (IsUtf8 text → ⊥) → Refused ≡ url_read text
unfolding url_read
bytes_refused text bad =
    sym (cond-false (is_utf8 text) (parsed_read (parse_url None text)) Refused
    (false_from_ne_true (is_utf8 text) (λ e. bad (IsUtf8-from_is_utf8 text e))))

pub text_read : (text : List ℕ) → IsUtf8 text → url_read text ≡ parsed_read (parse_url None text)
unfolding url_read
text_read text good =
    cond-true (is_utf8 text) (parsed_read (parse_url None text)) Refused
    (is_utf8-from_IsUtf8 text good)
