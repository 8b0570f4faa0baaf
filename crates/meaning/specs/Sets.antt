-- Sets of configurations, over all states and all ages without bound, and what a symbol makes of them (document 01,
-- Configurations and steps). Assumes nothing: these are definitions.
use Rattle.std.specs.Prelude.{ℕ, ◌<◌, ◌≤◌, ◌≡◌, ◌↔◌, ◌⊎◌}
use Rattle.base.specs.Masks.{Has}
use Rattle.meaning.specs.Tables.{Table, accepting_at}
use Rattle.meaning.specs.Runs.{Symbol, letter, span, Word, empty, ◌▷◌, Step}

-- a set of configurations: of each state and age, whether the set holds it
abbrev pub Confs : Type 1
Confs = ℕ → ℕ → Type 0

-- A is part of B
abbrev pub Within : Confs → Confs → Type 0
Within A B = (q t : ℕ) → A q t → B q t

-- where the steps of the symbol x lead from the configurations of S
abbrev pub Taken : Table → Symbol → Confs → Confs
Taken T x S q u = (p : ℕ) × (t : ℕ) × S p t × Step T x p t q u

-- "A span s adds s to every age and changes nothing else. A letter a takes each configuration (p, t) through each line with
-- from p, letter a and L ≤ t ≤ U. .. Then (q, 0) is added for every standing q."
unfoldable pub step : Table → Symbol → Confs → Confs
step T (span s) S q u = Taken T (span s) S q u
step T (letter a) S q u = Taken T (letter a) S q u ⊎ ((u ≡ 0) × Has T.standing q)

-- the set that S has become after the word
unfoldable pub after : Table → Confs → Word → Confs
after T S empty = S
after T S (w ▷ x) = step T x (after T S w)

-- "A set accepts if it holds a configuration whose state is accepting, at any age." `accepting_at` has the accepting states of an
-- age, the same ones at every age
abbrev pub Accepts : Table → Confs → Type 0
Accepts T S = (q : ℕ) × (t : ℕ) × Has (accepting_at T t) q × S q t

-- "At the start both are the initial states at age 0."
abbrev pub Initial : Table → Confs
Initial T q t = (t ≡ 0) × Has T.initial q

-- the empty set
abbrev pub Nothing : Confs
Nothing q t = ⊥

-- "all n states at every age"
abbrev pub Everything : Table → Confs
Everything T q t = q < T.states

-- S is a set "over the n states and all ages": what may have stood at a gap's end
abbrev pub Over : Table → Confs → Type 0
Over T S = Within S (Everything T)

-- S holds the state q at some age above H
abbrev pub Beyond : ℕ → Confs → ℕ → Type 0
Beyond H S q = (t : ℕ) × (H < t) × S q t

-- "the two sets are equal, all ages above H taken as one"
pub record Same (H : ℕ) (A B : Confs) : Type 0 where
  pub low : (q t : ℕ) → t ≤ H → A q t ↔ B q t
  pub beyond : (q : ℕ) → Beyond H A q ↔ Beyond H B q
