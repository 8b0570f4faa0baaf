-- Words and runs as document 001, section 2, defines them, for one clock and whole seconds, with the standing starts of
-- document 01. A configuration is a state and an age, written here as two numbers side by side. Assumes nothing: these are
-- definitions.
use Rattle.std.specs.Prelude.{ℕ, ◌+◌, ◌<◌, ◌≡◌}
use Rattle.base.specs.Masks.{Has}
use Rattle.meaning.specs.Tables.{Table, Meets, age_after, accepting_at}

-- what a stream is made of: a letter, or a span of seconds. A word may hold any letter and any span, 0 too; those of a stream
-- hold accepted ones only
pub data Symbol : Type 0 where
  letter : ℕ → Symbol
  span : ℕ → Symbol

infixl 50 ◌▷◌
-- symbols in the order of their coming, the newest last
pub data Word : Type 0 where
  empty : Word
  ◌▷◌ : Word → Symbol → Word

infixl 50 ◌⧺◌
-- the word v behind the word u
abbrev pub ◌⧺◌ : Word → Word → Word
u ⧺ empty = u
u ⧺ (v ▷ x) = (u ⧺ v) ▷ x

-- on the letter a, line `index` leads from the configuration (p, t) to (q, u). 001: "there is a transition (q_i, e_i, γ,
-- q_{i+1}, Z) ∈ E such that v_i ⊨ γ and either v_{i+1}(x) = 0 or v_{i+1}(x) = v_i(x) depending on whether x ∈ Z"
pub record Follows (T : Table) (a p t q u : ℕ) : Type 0 where
  pub index : ℕ
  pub listed : index < T.lines
  pub bears : (T.line index).letter ≡ a
  pub leaves : (T.line index).from ≡ p
  pub meets : Meets (T.line index) t
  pub enters : (T.line index).to ≡ q
  pub aged : age_after (T.line index) t ≡ u

-- one step of a run, from (p, t) to (q, u). 001, of a span: "q_{i+1} = q_i and v_{i+1}(x) = v_i(x) + e_i". There is no sink
-- state: where no line leads on, there is no step
unfoldable pub Step : Table → Symbol → ℕ → ℕ → ℕ → ℕ → Type 0
Step T (letter a) p t q u = Follows T a p t q u
Step T (span s) p t q u = (p ≡ q) × (t + s ≡ u)

-- 001's run on a word: a sequence of configurations from (p, t) on, with a step for each symbol
pub data Run (T : Table) (p t : ℕ) : Word → ℕ → ℕ → Type 0 where
  stays : Run T p t empty p t
  goes : {w : Word} {x : Symbol} {r v q u : ℕ} → Run T p t w r v → Step T x r v q u → Run T p t (w ▷ x) q u

-- where a run may begin, and in which state (document 01): "either at the start of the stream in an initial state, or
-- directly after any accepted letter in a standing state"
unfoldable pub Begins : Table → Word → ℕ → Type 0
Begins T empty p = Has T.initial p
Begins T (w ▷ letter a) p = Has T.standing p
Begins T (w ▷ span s) p = ⊥

-- a run over the word w that ends in (q, t): it begins behind some first part of w, "in both cases at age 0", and goes on
-- over the rest
pub record RunOver (T : Table) (w : Word) (q t : ℕ) : Type 0 where
  pub before : Word
  pub rest : Word
  pub whole : before ⧺ rest ≡ w
  pub first : ℕ
  pub begins : Begins T before first
  pub run : Run T first 0 rest q t

-- the word is accepted: some run over it is accepting, that is, ends in a state that accepts at its age. 001: a run is
-- "successful if q_0 ∈ I, v_0(x) = 0 for all x ∈ X, and q_n ∈ F", and a word is accepted "if there is a successful run" on it
abbrev pub Accepted : Table → Word → Type 0
Accepted T w = (q : ℕ) × (t : ℕ) × Has (accepting_at T t) q × RunOver T w q t
