-- The feeds of the generated job: so many lines, each about a block of sixteen addresses.
use Rattle.std.specs.Prelude.{ℕ, zero, suc, ◌+◌, ◌*◌, ◌%◌, ◌^◌, Bool, ◌&&◌, nat_eq, if◌then◌else◌}
use Rattle.std.specs.Prelude.{List, [], ◌++◌, codes, decimal}
use Rattle.geo_addr.specs.Printing.{block_text}

-- the country of a line, by its offset from 0 on: three in turn;
-- in the second feed the first line has another one
unfoldable pub country_of : (second : Bool) → (at : ℕ) → List ℕ
country_of second at =
    if second && nat_eq at 0 then codes "CH"
    else (if nat_eq (at % 3) 0
    then codes "DE" else (if nat_eq (at % 3) 1 then codes "FR" else codes "IT"))

-- a line: the block at its offset from 10.0.0.0 on, its country, and one of a thousand cities
unfoldable pub line_of : (second : Bool) → (at : ℕ) → List ℕ
line_of second at =
    block_text (record { first = 10 * 2 ^ 24 + 16 * at; len = 124 })
    ++ (codes "," ++ (country_of second at
    ++ (codes ",,City " ++ (decimal (at % 1000) ++ codes ",\n"))))

-- the first lines, so many
abbrev pub feed : Bool → ℕ → List ℕ
feed second zero = []
feed second (suc n) = feed second n ++ line_of second n
