-- The voices of references: what is looked up of them behind the speaker.
use Rattle.std.specs.Prelude.{List, find}
use Rattle.geo_terms.specs.PlaceForm.{same_text}
use Rattle.geo_terms.specs.SourceForm.{FeedParts}
use Rattle.geo_terms.specs.declared.statement.Reference.{Reference}
use Rattle.authority.specs.declared.voices.Voice.{Voice}

-- the range of a reference, and the feed of its URL among these
abbrev pub voice_of : List FeedParts → Reference → Voice
voice_of feeds r = record { range = r.range; feed = find (λ f. same_text f.url r.url) feeds }
