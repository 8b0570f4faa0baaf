-- The head and the lines of a table with the test of its length gone: `-whole` where the bytes are all there, `-short` where
-- they are not. Callers cite these and open neither `head_of` nor `line_at`. Assumes nothing.
use Prim.Native.Nat.{ℕ, ◌+◌, ◌*◌, ◌≤◌, ◌<◌}
use mathlib.Core.Path.{◌≡◌}
use mathlib.Core.List.{List}
use lib.ListN.{length}
use borrow.Author.Tests.{le-leb, lt-leb}
use Rattle.table.specs.Table.{no_head, no_line, head_bytes, line_bytes, head_of, line_at}

module _ (b : List ℕ) where
  -- a list of 12 bytes or more has a head: the record of its bytes
  pub head_of-whole : 12 ≤ length b → head_of b ≡ head_bytes b
  unfolding head_of
  head_of-whole h = rw (le-leb 12 (length b) h)

  -- a shorter list has none
  pub head_of-short : length b < 12 → head_of b ≡ no_head
  unfolding head_of
  head_of-short h = rw (lt-leb 12 (length b) h)

  -- a list that reaches the end of line k has that line: the record of its bytes
  pub line_at-whole : (k : ℕ) → 24 + 12 * k ≤ length b → line_at b k ≡ line_bytes b (12 + 12 * k)
  unfolding line_at
  line_at-whole k h = rw (le-leb (24 + 12 * k) (length b) h)

  -- a list that ends before has none
  pub line_at-short : (k : ℕ) → length b < 24 + 12 * k → line_at b k ≡ no_line
  unfolding line_at
  line_at-short k h = rw (lt-leb (24 + 12 * k) (length b) h)

-- by these a reader's contract is proved: the list is long enough, or it is not
pub ruleset by_length = (head_of-whole, head_of-short, line_at-whole, line_at-short)
