-- The act that the words of a line say: a source that is set or dropped, a file that is written, a
-- report; sources that are kept under a name or taken from there; nodes that are given up.
use Rattle.std.specs.Prelude.{ℕ, ◌&&◌, List, [], ◌∷◌, codes, Option, None, Some, option_and_then}
use Rattle.std.specs.Prelude.{option_map, if◌then◌else◌}
use Rattle.geo_terms.specs.PlaceForm.{same_text}
use Rattle.feed_refs.specs.Urls.{url_read}
use Rattle.feed_refs.specs.declared.feed_url.UrlRead.{UrlRead}
use Rattle.feed_refs.specs.declared.feed_url.UrlRead.TheVariants as reads
use Rattle.job_lines.specs.declared.act.Act.{Act}
use Rattle.job_lines.specs.declared.act.Act.TheVariants.{Rpsl, Stats, Feed, Overrides, Drop, Emit}
use Rattle.job_lines.specs.declared.act.Act.TheVariants.{Report, Mark, Back, Compact}
use Rattle.geo_terms.specs.declared.note.Origin.{Origin}
use Rattle.geo_terms.specs.declared.note.Origin.TheVariants as gone
use Rattle.job_lines.specs.Names.{is_name, is_slot}
use Rattle.job_lines.specs.Words.{both, has_none, only}

-- `FILE`
abbrev pub file_word : List ℕ → Option (List ℕ)
file_word word = if is_name word then Some word else None

abbrev pub file_alone : List (List ℕ) → Option (List ℕ)
file_alone rest = option_and_then file_word (only rest)

-- `SLOT`
abbrev pub slot_word : List ℕ → Option (List ℕ)
slot_word word = if is_slot word then Some word else None

abbrev pub slot_alone : List (List ℕ) → Option (List ℕ)
slot_alone rest = option_and_then slot_word (only rest)

-- `SLOT FILE`
abbrev pub slot_file_words : (slot file : List ℕ) → Option (List ℕ × List ℕ)
slot_file_words slot file = if is_slot slot && is_name file then Some (slot, file) else None

abbrev pub slot_and_file : List (List ℕ) → Option (List ℕ × List ℕ)
slot_and_file rest = option_and_then (λ found. slot_file_words found.0 found.1) (both rest)

-- the key of a feed: the serialised text of its https URL (RFC 9632, section 3)
abbrev pub https_text : UrlRead → Option (List ℕ)
https_text reads.Refused = None
https_text reads.OtherScheme = None
https_text (reads.Https text) = Some text

abbrev pub feed_key : List ℕ → Option (List ℕ)
feed_key url = https_text (url_read url)

-- `URL`
abbrev pub url_alone : List (List ℕ) → Option (List ℕ)
url_alone rest = option_and_then feed_key (only rest)

-- `rpsl SLOT FILE` and `stats SLOT FILE`
abbrev pub rpsl_line : List (List ℕ) → Option Act
rpsl_line rest = option_map (λ found. Rpsl found.0 found.1) (slot_and_file rest)

abbrev pub stats_line : List (List ℕ) → Option Act
stats_line rest = option_map (λ found. Stats found.0 found.1) (slot_and_file rest)

-- `feed URL FILE`
abbrev pub feed_with : (file : List ℕ) → Option (List ℕ) → Option Act
feed_with file None = None
feed_with file (Some url) = Some (Feed url file)

abbrev pub feed_form : (url file : List ℕ) → Option Act
feed_form url file = if is_name file then feed_with file (feed_key url) else None

abbrev pub feed_line : List (List ℕ) → Option Act
feed_line rest = option_and_then (λ found. feed_form found.0 found.1) (both rest)

-- `overrides FILE`
abbrev pub overrides_line : List (List ℕ) → Option Act
overrides_line rest = option_map Overrides (file_alone rest)

-- `drop rpsl SLOT`, `drop stats SLOT`, `drop feed URL` and `drop overrides`: what goes
abbrev pub gone_overrides : List (List ℕ) → Option Origin
gone_overrides rest = if has_none rest then Some gone.Overrides else None

unfoldable pub gone_by : (word : List ℕ) → (rest : List (List ℕ)) → Option Origin
gone_by word rest =
    if same_text word (codes "rpsl") then option_map gone.Rpsl (slot_alone rest)
    else (if same_text word (codes "stats") then option_map gone.Stats (slot_alone rest)
    else (if same_text word (codes "feed") then option_map gone.Feed (url_alone rest)
    else (if same_text word (codes "overrides") then gone_overrides rest else None)))

abbrev pub gone_of : List (List ℕ) → Option Origin
gone_of [] = None
gone_of (word ∷ rest) = gone_by word rest

abbrev pub drop_line : List (List ℕ) → Option Act
drop_line rest = option_map Drop (gone_of rest)

-- `emit FILE`
abbrev pub emit_line : List (List ℕ) → Option Act
emit_line rest = option_map Emit (file_alone rest)

-- `report`
abbrev pub report_line : List (List ℕ) → Option Act
report_line rest = if has_none rest then Some Report else None

-- `mark NAME` and `back NAME`: the name has the form of a slot
abbrev pub mark_line : List (List ℕ) → Option Act
mark_line rest = option_map Mark (slot_alone rest)

abbrev pub back_line : List (List ℕ) → Option Act
back_line rest = option_map Back (slot_alone rest)

-- `compact`
abbrev pub compact_line : List (List ℕ) → Option Act
compact_line rest = if has_none rest then Some Compact else None

-- the act of a line about sources that are kept, or about nodes
unfoldable pub kept_by : (word : List ℕ) → (rest : List (List ℕ)) → Option Act
kept_by word rest =
    if same_text word (codes "mark") then mark_line rest
    else (if same_text word (codes "back") then back_line rest
    else (if same_text word (codes "compact") then compact_line rest else None))

-- the act that a line says by its first word
unfoldable pub act_by : (word : List ℕ) → (rest : List (List ℕ)) → Option Act
act_by word rest =
    if same_text word (codes "rpsl") then rpsl_line rest
    else (if same_text word (codes "stats") then stats_line rest
    else (if same_text word (codes "feed") then feed_line rest
    else (if same_text word (codes "overrides") then overrides_line rest
    else (if same_text word (codes "drop") then drop_line rest
    else (if same_text word (codes "emit") then emit_line rest
    else (if same_text word (codes "report") then report_line rest else kept_by word rest))))))
