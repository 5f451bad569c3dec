use Rattle.std.proofs.Common.{ap, sym, ◌∙◌}
use Rattle.geo_addr.specs.Lines.{trimmed}
use Rattle.rpsl_reader.proofs.Sides.{hash_free}
use Rattle.rpsl_reader.specs.Attributes.{said_of}
use Rattle.rpsl_reader.proofs.attribute.said_of.Goals as goal

pub returns-then-lacks_hash : goal.returns-then-lacks_hash
unfolding said_of
returns-then-lacks_hash c =
    c.trim_blanks.ensures
    ∙ ap trimmed (sym (hash_free c.args.text.now
    (c.lacks_hash.ensures c.if-lacks_hash.true)))
