-- What the bytes of a table say: its head, and each of its lines. A head or a line whose bytes are not all there is missing,
-- and all 0 is read for it; so 0 does not mean that a 0 was there. Nothing is judged: a number out of its range is read as
-- any other. Assumes nothing: these are definitions.
use Rattle.std.specs.Prelude.{ℕ, ◌+◌, ◌*◌, List, cond, length, leb}
use Rattle.table.specs.declared.Head.{Head}
use Rattle.table.specs.declared.Line.{Line}
use Rattle.table.specs.Numbers.{byte, be16_of, be32_of}

-- the head of all zeros: what is read where the head is missing
abbrev pub no_head : Head
no_head =
    record {
      version = 0;
      length = 0;
      states = 0;
      letters = 0;
      initial = 0;
      standing = 0;
      accepting = 0;
      lines = 0;
    }

-- the line of all zeros: what is read where a line is missing
abbrev pub no_line : Line
no_line = record { from = 0; letter = 0; to = 0; flags = 0; least = 0; greatest = 0 }

-- the head that bytes 0 to 11 write (document 01, The table): version, length of the whole table in bytes 1-2, states,
-- letters, initial states in bytes 5-6, standing states in bytes 7-8, accepting states in bytes 9-10, lines
abbrev pub head_bytes : List ℕ → Head
head_bytes b =
    record {
      version = byte b 0;
      length = be16_of (byte b 1) (byte b 2);
      states = byte b 3;
      letters = byte b 4;
      initial = be16_of (byte b 5) (byte b 6);
      standing = be16_of (byte b 7) (byte b 8);
      accepting = be16_of (byte b 9) (byte b 10);
      lines = byte b 11;
    }

-- the line that the 12 bytes from `at` on write (document 01, The table): from, letter, to and flags, a byte each, then the
-- least age and the greatest age, 4 bytes each
abbrev pub line_bytes : List ℕ → ℕ → Line
line_bytes b at =
    record {
      from = byte b at;
      letter = byte b (at + 1);
      to = byte b (at + 2);
      flags = byte b (at + 3);
      least = be32_of (byte b (at + 4)) (byte b (at + 5)) (byte b (at + 6)) (byte b (at + 7));
      greatest = be32_of (byte b (at + 8)) (byte b (at + 9)) (byte b (at + 10)) (byte b (at + 11));
    }

-- the head of the table b (document 01, The table): its first 12 bytes; where b has fewer the head is missing
unfoldable pub head_of : List ℕ → Head
head_of b = cond (leb 12 (length b)) (head_bytes b) no_head

-- line k of the table b (document 01, The table): from byte 12 on stand lines of 12 bytes, so line 0 begins at byte 12, and
-- line k has bytes 12 + 12k to 23 + 12k, both in; where b ends before the last of them the line is missing
unfoldable pub line_at : List ℕ → ℕ → Line
line_at b k = cond (leb (24 + 12 * k) (length b)) (line_bytes b (12 + 12 * k)) no_line
