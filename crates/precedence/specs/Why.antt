-- Why an address has its record: what is lent of it.
use Rattle.std.specs.Option.{option_copied}
use Rattle.geo_terms.specs.Precedence.{Reasons}
use Rattle.precedence.specs.declared.why.Why.{Why}

-- what is borrowed, as reasons
abbrev pub reasons_of : Why → Reasons
reasons_of w = record {
  over = option_copied w.over;
  speaker = option_copied w.speaker;
  entry = option_copied w.entry;
  delegation = option_copied w.delegation;
  place = option_copied w.place;
}
