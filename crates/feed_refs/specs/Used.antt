-- How many references of one kind an object has.
use Rattle.std.specs.Prelude.{◌≡◌, List, [], ◌∷◌}
use Rattle.rpsl_reader.specs.declared.item.Attribute.{Attribute}
use Rattle.feed_refs.specs.declared.reference.Used.{Used}
use Rattle.feed_refs.specs.declared.reference.Used.TheVariants.{Nobody, One, Several}

-- nobody, the only one, or several
abbrev pub IsUsed : List Attribute → Used → Type 0
IsUsed [] Nobody = Unit {0}
IsUsed (a ∷ []) (One only) = only.now ≡ a
IsUsed (a ∷ b ∷ more) Several = Unit {0}
IsUsed _ _ = ⊥
