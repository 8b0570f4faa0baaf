-- Bytes of a table and the big-endian numbers that they write. Assumes nothing: these are definitions.
use Rattle.std.specs.Prelude.{ℕ, ◌+◌, ◌*◌, List, get_or}

-- byte i of the list, the first being byte 0; past the end it is 0
abbrev pub byte : List ℕ → ℕ → ℕ
byte b i = get_or b i 0

-- the number of two bytes, big-endian (document 01, The table): the byte given first counts 256
abbrev pub be16_of : ℕ → ℕ → ℕ
be16_of high low = high * 256 + low

-- the number of four bytes, big-endian (document 01, The table): from the first on they count 256 ^ 3, 256 ^ 2, 256 and 1
abbrev pub be32_of : ℕ → ℕ → ℕ → ℕ → ℕ
be32_of a b c d = a * 16777216 + b * 65536 + c * 256 + d
