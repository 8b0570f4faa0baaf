-- Writing into a buffer, one word after another; numbers in decimal; and how long a line is at most. Assumes nothing.
use Prim.Native.Nat.{ℕ, zero, suc, ◌-◌, ◌/◌, ◌^◌, ◌≤◌, ◌<◌}
use mathlib.Core.Path.{◌≡◌, refl, sym, ap, ◌∙◌}
use mathlib.Core.List.{List, ◌++◌, append_assoc}
use mathlib.Core.Bool.{Bool, true, false, cond}
use native.Mathlib.Nat.{not-suc-le-zero, pow-le-pow_right}
use native.Mathlib.Numerals.{add-one}
use native.Mathlib.Omega.{arith}
use lib.Dec.{lit≤}
use lib.ListN.{length, take, length-append}
use lib.Seq.{length-take-le, take-take, take_at}
use borrow.Author.Tests.{lt-ltb, le-ltb}
use denote.Ref.{MutBor}
use Rattle.io.specs.Digits.{last_digits, IsDigitCount}
use Rattle.record.specs.Verdicts.{Verdict, says_yes, says_no, unsure}
use Rattle.text.specs.declared.Lines.{Lines}
use Rattle.text.specs.Text.{places, decimal, verdict_word, settled_word, line_text, refusal_text, Wrote, Adds}

-- ---- writing

-- one word after another
pub wrote_then : (before mid after : List ℕ) (at here end : ℕ) (v w : List ℕ)
    → Wrote before at v mid here → Wrote mid here w after end → Wrote before at (v ++ w) after end
wrote_then before mid after at here end v w first second =
    (simp length-append (omega arith), second.1 ∙ rw (first.1, append_assoc))

-- the same of the lines, and the buffer is the same still
pub adds_then : {x y z : Lines} {v w : List ℕ} → Adds x v y → Adds y w z → Adds x (v ++ w) z
adds_then first second = record {
  same_buffer = second.same_buffer ∙ first.same_buffer;
  same_length = second.same_length ∙ first.same_length;
  wrote = wrote_then _ _ _ _ _ _ _ _ first.wrote second.wrote;
}

-- two results of one writing are the same, as far as the text goes
pub wrote-settles : (before word x y : List ℕ) (at m n : ℕ) → Wrote before at word x m → Wrote before at word y n
    → (m ≡ n) × (take m x ≡ take n y)
wrote-settles before word x y at m n v w = (v.0 ∙ sym w.0, v.1 ∙ sym w.1)

-- so it is of the lines, whose buffer is the one that was lent; and nothing is left open of lines with nothing written
pub adds_settles : (before x y : Lines) (word : List ℕ) → Adds before word x → Adds before word y
    → (x.out.ghost_name ≡ y.out.ghost_name) × ((x.at ≡ y.at) × (take x.at x.out.now ≡ take y.at y.out.now))
adds_settles before x y word v w = (
  v.same_buffer ∙ sym w.same_buffer,
  wrote-settles before.out.now word x.out.now y.out.now before.at x.at y.at v.wrote w.wrote,
)

pub lines_settle : (out : MutBor (List ℕ)) (x y : Lines) → (x.out ≡ out) × (x.at ≡ 0) → (y.out ≡ out) × (y.at ≡ 0) → x ≡ y
lines_settle out x y e f =
    let one = e.0 ∙ sym f.0 in
    let two = e.1 ∙ sym f.1 in
    λ i. record { out = one i; at = two i }

-- what stood before the word stays
pub wrote_kept : (before after word : List ℕ) (at end : ℕ) → at ≤ length before → Wrote before at word after end
    → take at after ≡ take at before
wrote_kept before after word at end within w =
    sym (take-take at end after (omega arith)) ∙ ap (take at) w.1
    ∙ take_at (take at before) word at (length-take-le at before within)

-- ---- numbers in decimal

digits_length : (b k n : ℕ) → length (last_digits b k n) ≡ k
digits_length b zero n = refl
digits_length b (suc k) n = rw (length-append, digits_length b k (n / b)) (add-one k)

-- the fewest digits are as many as `places` says: from six on they would be too many
pub fewest_places : (n k : ℕ) → n < 100000 → IsDigitCount 10 1 n k → k ≡ places n
fewest_places n zero l f = absurd (not-suc-le-zero f.0)
fewest_places n (suc zero) l f = rw (lt-ltb n 10 f.1)
fewest_places n (suc (suc zero)) l f = rw (le-ltb n 10 (f.2 (lit≤ tt)), lt-ltb n 100 f.1)
fewest_places n (suc (suc (suc zero))) l f =
    let least : 100 ≤ n = f.2 (lit≤ tt) in
    rw (le-ltb n 10 (omega arith), le-ltb n 100 least, lt-ltb n 1000 f.1)
fewest_places n (suc (suc (suc (suc zero)))) l f =
    let least : 1000 ≤ n = f.2 (lit≤ tt) in
    rw (le-ltb n 10 (omega arith), le-ltb n 100 (omega arith), le-ltb n 1000 least, lt-ltb n 10000 f.1)
fewest_places n (suc (suc (suc (suc (suc zero))))) l f =
    let least : 10000 ≤ n = f.2 (lit≤ tt) in
    rw (le-ltb n 10 (omega arith), le-ltb n 100 (omega arith), le-ltb n 1000 (omega arith), le-ltb n 10000 least)
fewest_places n (suc (suc (suc (suc (suc (suc k)))))) l f =
    let more : ℕ = suc (suc (suc (suc (suc (suc k))))) - 1 in
    let large : 100000 ≤ 10 ^ more = pow-le-pow_right {n = 10} (omega arith) {i = 5} (omega arith) in
    absurd (let none : ⊥ = omega (arith, f.2 (omega arith)) in none)

-- what a callee wrote as the fewest digits is the number's text
pub decimal-is : (n k : ℕ) (text : List ℕ) → n < 100000 → IsDigitCount 10 1 n k → text ≡ last_digits 10 k n → text ≡ decimal n
unfolding decimal
decimal-is n k text l f e = rw (← fewest_places n k l f) e

-- ---- lengths

cond_within : (b : Bool) (m x y : ℕ) → x ≤ m → y ≤ m → cond b x y ≤ m
cond_within true m x y p q = p
cond_within false m x y p q = q

pub decimal-length : (n : ℕ) → length (decimal n) ≤ 5
unfolding decimal
decimal-length n = rw digits_length (search (cond_within, lit≤, tt) depth 8)

pub verdict_length : (v : Verdict) → length (verdict_word v) ≤ 7
verdict_length says_yes = omega arith
verdict_length says_no = omega arith
verdict_length unsure = omega arith

pub settled_length : (same : Bool) → length (settled_word same) ≤ 8
settled_length true = omega arith
settled_length false = omega arith

pub line_length : (ordinal : ℕ) (v : Verdict) (same : Bool) (count : ℕ) → length (line_text ordinal v same count) ≤ 27
unfolding line_text
line_length ordinal v same count =
    simp length-append (omega (arith, decimal-length ordinal, verdict_length v, settled_length same, decimal-length count))

pub refusal-length : (ordinal number : ℕ) → length (refusal_text ordinal number) ≤ 27
unfolding refusal_text
refusal-length ordinal number = simp length-append (omega (arith, decimal-length ordinal, decimal-length number))
