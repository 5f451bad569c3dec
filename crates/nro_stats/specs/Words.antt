-- What the type and the status of a record say, each looked at once.
use Rattle.std.specs.Prelude.{ℕ, List, ◌||◌, codes, Option, None, Some, if◌then◌else◌}
use Rattle.geo_terms.specs.PlaceForm.{same_text}
use Rattle.nro_stats.specs.Outcomes.{placed_in, v4_range, v6_range}
use Rattle.nro_stats.specs.declared.outcome.LineOutcome.{LineOutcome}
use Rattle.nro_stats.specs.declared.outcome.LineOutcome.TheVariants.{Silent}
use Rattle.nro_stats.specs.declared.resource.Holding.{Holding}
use Rattle.nro_stats.specs.declared.resource.Holding.TheVariants.{Held, Free}
use Rattle.nro_stats.specs.declared.resource.Kind.{Kind}
use Rattle.nro_stats.specs.declared.resource.Kind.TheVariants.{Systems, V4, V6}

-- the type that a text names
unfoldable pub kind_in : List ℕ → Option Kind
kind_in kind =
    if same_text kind (codes "asn") then Some Systems
    else (if same_text kind (codes "ipv4") then Some V4
    else (if same_text kind (codes "ipv6") then Some V6 else None))

-- whether anybody holds a resource, by its status
unfoldable pub holding_in : List ℕ → Option Holding
holding_in status =
    if same_text status (codes "available") || same_text status (codes "reserved") then Some Free
    else (if same_text status (codes "allocated") || same_text status (codes "assigned")
    then Some Held else None)

-- what a resource that is held says
abbrev pub held : Kind → (country start value : List ℕ) → LineOutcome
held Systems country start value = Silent
held V4 country start value = placed_in (v4_range start value) country
held V6 country start value = placed_in (v6_range start value) country
