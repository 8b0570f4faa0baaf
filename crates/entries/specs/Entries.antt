-- The entries of a session, read from its bytes (document 01, The program `watch`). Nothing is judged here: which letters and
-- spans are refused is said of the calls. Assumes nothing: these are definitions.
use Rattle.std.specs.Prelude.{ℕ, ◌+◌, List, Bool, cond, ◌&&◌, eqb, ltb, length, Option, Some, None}
use Rattle.table.specs.Numbers.{byte, be32_of}
use Rattle.entries.specs.declared.Symbol.{Symbol}
use Rattle.entries.specs.declared.Symbol.TheVariants.{Letter, Span, Gap}
use Rattle.entries.specs.declared.Entry.{Entry}

-- an entry of that length and kind stands at the place `at`, whole: "a length byte, a kind byte and its load". The length
-- counts the kind byte and the load, so the entry's last byte is that of place at + length
unfoldable pub is_entry : List ℕ → ℕ → ℕ → ℕ → Bool
is_entry s at size kind = ltb (at + size) (length s) && eqb (byte s at) size && eqb (byte s (at + 1)) kind

-- "Once read, an entry is its ordinal with one of a letter, a span or a gap": read, with the place behind it
abbrev pub got : ℕ → Symbol → ℕ → Option (Entry × ℕ)
got ordinal symbol next = Some (record { ordinal = ordinal; symbol = symbol }, next)

-- "length 2, kind 1, a letter byte; length 5, kind 2, a 4-byte span; length 1, kind 3, a gap"; what is none of these
-- cannot be read: "one cut short, of an unknown kind, or with a length that isn't its kind's"
unfoldable pub read_at : List ℕ → ℕ → ℕ → Option (Entry × ℕ)
read_at s at ordinal =
    cond (is_entry s at 2 1) (got ordinal (Letter (byte s (at + 2))) (at + 3))
    (cond (is_entry s at 5 2)
    (got ordinal (Span (be32_of (byte s (at + 2)) (byte s (at + 3)) (byte s (at + 4)) (byte s (at + 5)))) (at + 6))
    (cond (is_entry s at 1 3) (got ordinal Gap (at + 2)) None))
