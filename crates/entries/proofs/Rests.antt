-- The entry at a place, by the bytes from there on, as slice patterns ask of them. Assumes nothing.
use Rattle.std.proofs.Common.{◌≡◌, sym, ap, ◌∙◌, ℕ, ◌+◌, ◌≤◌, ◌<◌, true, false, List, length, drop, slice_range, None, arith}
use lib.Dec.{ltb}
use borrow.Author.Tests.{le-ltb, lt-ltb, eq-eqb}
use native.Mathlib.Numerals.{unary_clauses}
use Rattle.std.proofs.lemmas.Bool.{false_from_ne_true}
use Rattle.std.proofs.lemmas.List.{take_rest, get_or-drop, length-drop}
use Rattle.table.specs.Numbers.{byte, be32_of}
use Rattle.entries.specs.Entries.{is_entry, got, read_at}
use Rattle.entries.specs.declared.Symbol.TheVariants.{Letter, Span, Gap}
use Rattle.entries.proofs.Laws.{entry_parts}

-- `rest` is what is left of s from the place `at` on
module _ (s rest : List ℕ) (at k : ℕ) (within : at ≤ length s) (left : rest ≡ slice_range s at (length s)) where
  dropped : rest ≡ drop at s
  dropped = left ∙ take_rest s at

  as_long : length rest + at ≡ length s
  as_long = omega (arith, ap length dropped, length-drop at s)

  same_byte : (i : ℕ) → byte rest i ≡ byte s (at + i)
  same_byte i = rw (dropped, get_or-drop at s i 0)

  same_first : byte rest 0 ≡ byte s at
  same_first = simp unary_clauses at (same_byte 0)

  module _ (size kind : ℕ) where
    there : size < length rest → byte rest 0 ≡ size → byte rest 1 ≡ kind → is_entry s at size kind ≡ true
    unfolding is_entry
    there whole sized kinded =
        let ends : at + size < length s = omega (arith, as_long) in
        let one = sym same_first ∙ sized in
        let two = sym (same_byte 1) ∙ kinded in
        rw (lt-ltb (at + size) (length s) ends, eq-eqb (byte s at) size one, eq-eqb (byte s (at + 1)) kind two)

    not_there : (size < length rest → byte rest 0 ≡ size → byte rest 1 ≡ kind → ⊥) → is_entry s at size kind ≡ false
    not_there none = false_from_ne_true _ (λ e.
        let parts = entry_parts s at size kind e in
        none (omega (arith, as_long, parts.0)) (same_first ∙ parts.1) (same_byte 1 ∙ parts.2))

  pub letter_here : 2 < length rest → byte rest 0 ≡ 2 → byte rest 1 ≡ 1
      → got k (Letter (byte rest 2)) (at + 3) ≡ read_at s at k
  unfolding read_at
  letter_here whole sized kinded = rw (there 2 1 whole sized kinded, same_byte 2)

  pub span_here : 5 < length rest → byte rest 0 ≡ 5 → byte rest 1 ≡ 2
      → got k (Span (be32_of (byte rest 2) (byte rest 3) (byte rest 4) (byte rest 5))) (at + 6) ≡ read_at s at k
  unfolding read_at
  span_here whole sized kinded =
      let letter = not_there 2 1 (λ w e f. omega arith) in
      rw (letter, there 5 2 whole sized kinded, same_byte 2, same_byte 3, same_byte 4, same_byte 5)

  pub gap_here : 1 < length rest → byte rest 0 ≡ 1 → byte rest 1 ≡ 3 → got k Gap (at + 2) ≡ read_at s at k
  unfolding read_at
  gap_here whole sized kinded =
      let letter = not_there 2 1 (λ w e f. omega arith) in
      let span = not_there 5 2 (λ w e f. omega arith) in
      rw (letter, span, there 1 3 whole sized kinded)

  pub none_here : (2 < length rest → byte rest 0 ≡ 2 → byte rest 1 ≡ 1 → ⊥)
      → (5 < length rest → byte rest 0 ≡ 5 → byte rest 1 ≡ 2 → ⊥)
      → (1 < length rest → byte rest 0 ≡ 1 → byte rest 1 ≡ 3 → ⊥)
      → None ≡ read_at s at k
  unfolding read_at
  none_here letter span gap = rw (not_there 2 1 letter, not_there 5 2 span, not_there 1 3 gap)

-- past the end there is no rest
pub none_past : (s : List ℕ) (at k : ℕ) → length s < at → None ≡ read_at s at k
unfolding read_at is_entry
none_past s at k past =
    let past_all : (i : ℕ) → ltb (at + i) (length s) ≡ false = λ i. le-ltb (at + i) (length s) (omega arith) in
    rw (past_all 2, past_all 5, past_all 1)

-- by these `read_at` is proved
pub ruleset by_rest = (letter_here, span_here, gap_here, none_here, none_past)
