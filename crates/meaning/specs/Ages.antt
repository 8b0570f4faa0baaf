-- A set of configurations held age by age: a mask of states for each age 0 to H, and one for all ages above H, kept at the
-- age H + 1. What a symbol makes of such masks, and whether they accept: document 01's sets, as something that computes.
-- Assumes nothing: these are definitions.
use Rattle.std.specs.Prelude.{ℕ, suc, ◌+◌, ◌-◌, ◌^◌, ◌≤◌, min, ◌≡◌, ◌↔◌, Bool, true, false, ◌&&◌, ◌||◌, cond, not, eqb, leb, ltb}
use Rattle.std.specs.Bool.{beq}
use Rattle.std.specs.Int.Bits.{bit_or, bit_and}
use Rattle.base.specs.Masks.{Has, hasb, pick, union}
use Rattle.table.specs.declared.Line.{Line}
use Rattle.meaning.specs.Tables.{Table, no_bound, resets, horizon, accepting_at}
use Rattle.meaning.specs.Runs.{Symbol, letter, span, Word, empty, ◌▷◌}
use Rattle.meaning.specs.Sets.{Confs}

-- the age t, where all ages above H are taken as the one age H + 1
abbrev pub clip : ℕ → ℕ → ℕ
clip H t = min t (suc H)

-- how many ages are looked at then: 0 to H, and the one age H + 1
abbrev pub ages : ℕ → ℕ
ages H = suc (suc H)

-- the set S, where all ages above H are taken as one
abbrev pub Clipped : ℕ → Confs → Confs
Clipped H S q k = (t : ℕ) × (clip H t ≡ k) × S q t

-- the masks f mean the set S: f k has the states that S holds at age k, and f (H + 1) those it holds at any age above H
abbrev pub Means : ℕ → (ℕ → ℕ) → Confs → Type 0
Means H f S = (q k : ℕ) → k ≤ suc H → Has (f k) q ↔ Clipped H S q k

-- "L ≤ t ≤ U"
abbrev pub meetsb : Line → ℕ → Bool
meetsb l t = leb l.least t && (eqb l.greatest no_bound || leb t l.greatest)

-- the letter a takes a state of m at age t through the line l, one that resets the clock (r is true) or keeps it (r is false)
abbrev pub takes : Line → Bool → ℕ → ℕ → ℕ → Bool
takes l r a t m = beq (resets l) r && eqb l.letter a && meetsb l t && hasb m l.from

-- where the letter a leads from the states m at age t, by the lines that reset the clock (r is true) or keep it (r is false)
unfoldable pub image : Table → Bool → ℕ → ℕ → ℕ → ℕ
image T r a t m = union T.lines (λ i. pick (takes (T.line i) r a t m) (2 ^ (T.line i).to))

-- what the letter a adds at age 0, beside where the keeping lines lead from age 0: where the resetting lines lead from every
-- age, and then the standing states
unfoldable pub fresh_at : Table → ℕ → (ℕ → ℕ) → ℕ
fresh_at T a f = bit_or (union (ages (horizon T)) (λ u. image T true a u (f u))) T.standing

-- the states at age k after the letter a
unfoldable pub letter_at : Table → ℕ → (ℕ → ℕ) → ℕ → ℕ
letter_at T a f k = bit_or (image T false a k (f k)) (pick (eqb k 0) (fresh_at T a f))

-- the states of every age that the span s takes above H
unfoldable pub passed_at : ℕ → ℕ → (ℕ → ℕ) → ℕ
passed_at H s f = union (ages H) (λ u. pick (ltb H (u + s)) (f u))

-- the states at age k after the span s: up to H, those of age k - s, if there is such an age; above H, those that passed it
unfoldable pub span_at : ℕ → ℕ → (ℕ → ℕ) → ℕ → ℕ
span_at H s f k = cond (leb k H) (pick (leb s k) (f (k - s))) (passed_at H s f)

-- the states at age k after the symbol
unfoldable pub step_at : Table → Symbol → (ℕ → ℕ) → ℕ → ℕ
step_at T (letter a) f = letter_at T a f
step_at T (span s) f = span_at (horizon T) s f

-- the masks that f has become after the word
unfoldable pub after_at : Table → (ℕ → ℕ) → Word → ℕ → ℕ
after_at T f empty = f
after_at T f (w ▷ x) = step_at T x (after_at T f w)

-- the initial states at age 0
abbrev pub initial_at : Table → ℕ → ℕ
initial_at T k = pick (eqb k 0) T.initial

-- no state at any age
abbrev pub nothing_at : ℕ → ℕ
nothing_at k = 0

-- all n states at every age
abbrev pub everything_at : Table → ℕ → ℕ
everything_at T k = 2 ^ T.states - 1

-- the masks accept: at some age 0 to H + 1 a state is held that accepts there
unfoldable pub accepts_at : Table → (ℕ → ℕ) → Bool
accepts_at T f = not (eqb (union (ages (horizon T)) (λ k. bit_and (f k) (accepting_at T k))) 0)
