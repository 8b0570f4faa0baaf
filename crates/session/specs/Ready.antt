-- What is known where a session begins, and where its entries do, and which answer a watch that was begun stands for. Assumes
-- nothing: these are definitions.
use Rattle.std.specs.Prelude.{ℕ, ◌+◌, ◌-◌, ◌*◌, ◌≤◌, List, length, Result, Ok, Err}
use Rattle.faults.specs.Numbered.{number}
use Rattle.known.specs.declared.Known.{Known}
use Rattle.calls.specs.declared.Answer.{Answer}
use Rattle.calls.specs.declared.Refusal.{Refusal}
use Rattle.calls.specs.Calls.{accepted, refusal}

-- a start's answer, where an accepted one is told by the watch that it begins, which holds the new record
abbrev pub begun : Result Known Refusal → Answer
begun (Ok known) = accepted known.held
begun (Err x) = refusal (number x.fault) x.held

-- room for every line of a session: a line has at most 27 bytes, and there is one for the start and at most one for every two
-- of 32,768 bytes, 16,385 in all
abbrev pub room_for_lines : ℕ
room_for_lines = 442395

-- the entries of s begin at the place `from`, behind the version byte and the room byte; and a buffer of `size` bytes has room
-- for every line
pub record Begins (s : List ℕ) (from size : ℕ) : Type 0 where
  pub short : length s ≤ 32768
  pub behind : 2 ≤ from
  pub within : from ≤ length s
  pub roomy : room_for_lines ≤ size

-- the entries of s begin at the place `from`; and a buffer of `size` bytes, in which the lines are written from place `at` on,
-- has 27 for every two of the bytes that are left, and for one more. That the table passed, and that the record is proper for
-- it, is said by the type of the watch
pub record Ready (s : List ℕ) (from at size : ℕ) : Type 0 where
  pub short : length s ≤ 32768
  pub behind : 2 ≤ from
  pub within : from ≤ length s
  pub fits : 2 * at + 27 * (length s - from) + 27 ≤ 2 * size
