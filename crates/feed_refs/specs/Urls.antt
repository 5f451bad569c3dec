-- The URL of a feed: an https URL (RFC 9632, section 3), read and serialised by the URL Standard.
use Rattle.std.specs.Prelude.{ℕ, List, codes, None, Ok, Err, if◌then◌else◌}
use Rattle.std.specs.Str.{is_utf8}
use Rattle.geo_terms.specs.PlaceForm.{same_text}
use Rattle.url.specs.Parser.{Parsed, parse_url}
use Rattle.url.specs.Parts.{Parts, serialize}
use Rattle.feed_refs.specs.declared.feed_url.UrlRead.{UrlRead}
use Rattle.feed_refs.specs.declared.feed_url.UrlRead.TheVariants.{Refused, OtherScheme, Https}

-- a URL is kept as its serialised text where its scheme is https
abbrev pub https_read : Parts → UrlRead
https_read url = if same_text url.scheme (codes "https") then Https (serialize url) else OtherScheme

abbrev pub parsed_read : Parsed Parts → UrlRead
parsed_read (Ok url) = https_read url
parsed_read (Err cause) = Refused

-- what a text is as the URL of a feed; a text that is not UTF-8 is no URL
unfoldable pub url_read : List ℕ → UrlRead
url_read text = if is_utf8 text then parsed_read (parse_url None text) else Refused
