use Rattle.std.proofs.Common.{◌≡◌, map, take}
use Rattle.authority.specs.Voices.{voice_of}
use Rattle.authority.proofs.voices.list_of.Given as goal

abbrev pub invariant-loop-reference : goal.invariant-loop-reference
invariant-loop-reference l =
    l.list.items ≡ map (voice_of l.feeds) (take l.reference-index l.refs)
