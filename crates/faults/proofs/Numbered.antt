-- A number read back: what is refused has one that is not 0 (`number-some`) and no other refusal has (`number-one`). What a table
-- earns is one of them or 0 (`table_fault-earned`). A sound table is settled by its bytes (`sound_table-one`), so what
-- `check_table` promises settles its answer (`check_table_settles`). Assumes nothing.
use Prim.Native.Nat.{ℕ, zero, suc}
use mathlib.Core.Path.{◌≡◌, refl, sym, ap, ◌∙◌, PathP, Cosingl, contract'}
use mathlib.Core.Logic.{◌≢◌, ◌⊎◌, inl, inr}
use mathlib.Core.HLevel.{is_prop→PathP}
use mathlib.Core.List.{List}
use mathlib.Core.Bool.{Bool, true, false, cond}
use native.Mathlib.Nat.{ℕ_set}
use native.Mathlib.Omega.{arith}
use lib.Dec.{eqb}
use denote.Ref.{Bor}
use Rattle.std.specs.Prelude.{IfOk}
use Rattle.std.proofs.Common.{Result, Ok, Err}
use Rattle.base.specs.Checks.{◌if◌, ◌then◌, first_of}
use Rattle.table.specs.Table.{head_of}
use Rattle.faults.specs.declared.Fault.{Fault}
use Rattle.faults.specs.declared.Fault.TheVariants.{Short, Version, Counts, Length, Masks, Parts, Ages, Improper, Letter, Span, Room, Unreadable}
use Rattle.faults.specs.declared.SoundTable.{SoundTable}
use Rattle.faults.specs.Faults.{table_fault, line_fault}
use Rattle.faults.specs.Numbered.{number, number_of}

pub number-some : (f : Fault) → number f ≢ 0
number-some Short e = omega arith
number-some Version e = omega arith
number-some Counts e = omega arith
number-some Length e = omega arith
number-some Masks e = omega arith
number-some Parts e = omega arith
number-some Ages e = omega arith
number-some Improper e = omega arith
number-some Letter e = omega arith
number-some Span e = omega arith
number-some Room e = omega arith
number-some Unreadable e = omega arith

-- what has the number n
abbrev fault_at : ℕ → Fault
fault_at n =
    cond (eqb n 1) Short (cond (eqb n 2) Version (cond (eqb n 3) Counts (cond (eqb n 4) Length (cond (eqb n 5) Masks
    (cond (eqb n 6) Parts (cond (eqb n 7) Ages (cond (eqb n 8) Improper (cond (eqb n 9) Letter (cond (eqb n 10) Span
    (cond (eqb n 11) Room Unreadable))))))))))

fault_at-number : (f : Fault) → fault_at (number f) ≡ f
fault_at-number Short = refl
fault_at-number Version = refl
fault_at-number Counts = refl
fault_at-number Length = refl
fault_at-number Masks = refl
fault_at-number Parts = refl
fault_at-number Ages = refl
fault_at-number Improper = refl
fault_at-number Letter = refl
fault_at-number Span = refl
fault_at-number Room = refl
fault_at-number Unreadable = refl

pub number-one : (f g : Fault) → number f ≡ number g → f ≡ g
number-one f g e = sym (fault_at-number f) ∙ ap fault_at e ∙ fault_at-number g

-- ---- what a table earns is the number of a refusal, or 0

abbrev pub Earned : ℕ → Type 0
Earned n = (n ≡ 0) ⊎ ((f : Fault) × (number f ≡ n))

pub earned-if : (f : Fault) (t : Bool) → Earned (number f if t)
earned-if f true = inr (f, refl)
earned-if f false = inl refl

pub earned-then : (m n : ℕ) → Earned m → Earned n → Earned (m then n)
earned-then zero n a c = c
earned-then (suc m) n a c = a

earned_first : (n : ℕ) (f : ℕ → ℕ) → ((k : ℕ) → Earned (f k)) → Earned (first_of n f)
unfolding first_of
earned_first zero f all = inl refl
earned_first (suc n) f all = earned-then _ _ (earned_first n f all) (all n)

pub table_fault-earned : (b : List ℕ) → Earned (table_fault b)
unfolding table_fault line_fault
table_fault-earned b =
    earned-then _ _ (earned-if Short _) (earned-then _ _ (earned-if Version _) (earned-then _ _ (earned-if Counts _)
    (earned-then _ _ (earned-if Length _) (earned-then _ _ (earned-if Masks _)
    (earned_first _ _ (λ k. earned-then _ _ (earned-if Parts _) (earned-if Ages _)))))))

-- ---- what is accepted

-- what equals v, with the proof that it does, is settled by v
Cosingl-prop : {A : Type 0} (v : A) → IsProp (Cosingl v)
Cosingl-prop v a c = sym (contract' a.1) ∙ contract' c.1

pub Cosingl-along : {A : Type 0} {v w : A} (e : v ≡ w) (a : Cosingl v) (c : Cosingl w) → PathP (λ i. Cosingl (e i)) a c
Cosingl-along e = is_prop→PathP (λ j. Cosingl (e j)) (λ j. Cosingl-prop (e j))

-- the bytes settle the head, and each fact beside them has one proof
pub sound_table-one : (x y : SoundTable) → x.bytes ≡ y.bytes → x ≡ y
sound_table-one x y e =
    let led = Cosingl-along (ap (λ t. head_of t.now) e) (x.head, x.headed) (y.head, y.headed) in
    let sound = is_prop→PathP (λ j. table_fault (e j).now ≡ 0) (λ j. ℕ_set _ _) x.sound y.sound in
    λ i. record { bytes = e i; head = (led i).0; sound = sound i; headed = (led i).1 }

-- any two answers that meet the promise of `check_table` at the slice t are the same
pub check_table_settles : (t : Bor (List ℕ)) (x y : Result SoundTable Fault)
    → (number_of x ≡ table_fault t.now) × IfOk x (λ table. table.bytes ≡ t)
    → (number_of y ≡ table_fault t.now) × IfOk y (λ table. table.bytes ≡ t) → x ≡ y
check_table_settles t (Err m) (Err n) p q = ap Err (number-one m n (p.0 ∙ sym q.0))
check_table_settles t (Err m) (Ok c) p q = absurd (number-some m (p.0 ∙ sym q.0))
check_table_settles t (Ok a) (Err n) p q = absurd (number-some n (q.0 ∙ sym p.0))
check_table_settles t (Ok a) (Ok c) p q = ap Ok (sound_table-one a c (p.1 ∙ sym q.1))
