-- The horizon is the largest bound (`horizon-bounds`, `horizon-attained`), and ages above it meet the same conditions
-- (`meets-above`). So masks by age, 0 to H and one above, mean a set of configurations exactly: after every symbol
-- (`step-means`, `after-means`), from a start (`initial-means`) and from a gap (`nothing-means`, `everything-means`). They
-- accept exactly if the set does (`accepts-means`), and two of them are the same exactly if their sets are, ages above H taken
-- as one (`settled_means`). Assumes nothing.
use Prim.Native.Nat.{ℕ, suc, ◌+◌, ◌-◌, ◌^◌, ◌≤◌, ◌<◌, max}
use mathlib.Core.Path.{◌≡◌, refl, sym, ap, ◌∙◌, subst}
use mathlib.Core.Logic.Iff
use mathlib.Core.Logic.{◌↔◌, ◌⊎◌, inl, inr, ◌≢◌, ⊎_elim, ⊎_map}
use mathlib.Core.Bool.{Bool, true, false, ◌&&◌, ◌||◌, cond, not, beq}
use native.Mathlib.Decide.{ℕ_discrete, dec_le}
use native.Mathlib.Omega.{arith}
use lib.Bits.{bit_or, bit_and}
use lib.Dec.{T as Is, eqb, leb, ltb}
use Rattle.base.specs.Masks.{Has, hasb, pick, union, most}
use Rattle.base.proofs.Tests.{eqb_iff, ne_iff, leb_iff, ltb_iff, beq_iff, not_iff, and_iff, or_iff, is_true, is_false}
use Rattle.base.proofs.Masks.{has-or, has-and, has-bit, has-full, has-pick, has-cond, has-union, not_has_zero, empty_mask, ext_has, nonempty, hasb-iff, le_most, most-attained}
use Rattle.table.specs.declared.Line.{Line}
use Rattle.meaning.specs.Tables.{Table, no_bound, Meets, resets, line_top, horizon, accepting_at}
use Rattle.meaning.specs.Runs.{Symbol, letter, span, Word, empty, ◌▷◌, Follows, Step}
use Rattle.meaning.specs.Sets.{Confs, step, after, Accepts, Initial, Nothing, Everything, Beyond, Same}
use Rattle.meaning.specs.Ages.{clip, ages, Clipped, Means, meetsb, takes, image, fresh_at, letter_at, passed_at, span_at, step_at, after_at, initial_at, nothing_at, everything_at, accepts_at}
use Rattle.meaning.proofs.Sets.{same-sym}

-- ---- "All ages above H meet the same conditions."

-- no bound of the line lies above H
abbrev pub Bounded : ℕ → Line → Type 0
Bounded H l = (l.least ≤ H) × ((l.greatest ≡ no_bound) ⊎ (l.greatest ≤ H))

pub horizon-bounds : (T : Table) (i : ℕ) → i < T.lines → Bounded (horizon T) (T.line i)
unfolding horizon
horizon-bounds T i l = (omega (arith, top), go (ℕ_discrete greatest no_bound))
  where
    least : ℕ
    least = (T.line i).least

    greatest : ℕ
    greatest = (T.line i).greatest

    H : ℕ
    H = most T.lines (λ k. line_top (T.line k))

    top : max least (cond (eqb greatest no_bound) 0 greatest) ≤ H
    top = le_most T.lines (λ k. line_top (T.line k)) i l

    bound : ¬ (greatest ≡ no_bound) → eqb greatest no_bound ≡ false
    bound d = is_false (eqb greatest no_bound) (λ t. d ((eqb_iff greatest no_bound).0 t))

    go : Dec (greatest ≡ no_bound) → (greatest ≡ no_bound) ⊎ (greatest ≤ H)
    go (yes e) = inl e
    go (no d) = inr (omega (arith, rw (bound d) at top))

-- and H is one of the bounds, or 0
pub horizon-attained : (T : Table)
    → (horizon T ≡ 0) ⊎ ((i : ℕ) × (i < T.lines)
    × (((T.line i).least ≡ horizon T) ⊎ (((T.line i).greatest ≢ no_bound) × ((T.line i).greatest ≡ horizon T))))
unfolding horizon
horizon-attained T =
    ⊎_map (λ e. e) (λ (i, l, e). (i, l, bound (T.line i) e)) (most-attained T.lines (λ k. line_top (T.line k)))
  where
    bound : (l : Line) {H : ℕ} → line_top l ≡ H → (l.least ≡ H) ⊎ ((l.greatest ≢ no_bound) × (l.greatest ≡ H))
    bound l {H} = by (eqb l.greatest no_bound) refl
      where
        by : (b : Bool) → eqb l.greatest no_bound ≡ b → max l.least (cond b 0 l.greatest) ≡ H
            → (l.least ≡ H) ⊎ ((l.greatest ≢ no_bound) × (l.greatest ≡ H))
        by true t e = inl (omega arith)
        by false t e = larger (dec_le l.greatest l.least)
          where
            larger : Dec (l.greatest ≤ l.least) → (l.least ≡ H) ⊎ ((l.greatest ≢ no_bound) × (l.greatest ≡ H))
            larger (yes le) = inl (omega arith)
            larger (no d) = inr ((λ n. subst Is t ((eqb_iff l.greatest no_bound).1 n)), omega arith)

-- two ages that are one, where those above H are taken as one, meet the same conditions
meets-alike : (H : ℕ) (l : Line) → Bounded H l → (t u : ℕ) → clip H t ≡ clip H u → Meets l t → Meets l u
meets-alike H l b t u e (least, greatest) = (omega (arith, b.0), upper b.1 greatest)
  where
    upper : (l.greatest ≡ no_bound) ⊎ (l.greatest ≤ H)
        → (l.greatest ≡ no_bound) ⊎ (t ≤ l.greatest) → (l.greatest ≡ no_bound) ⊎ (u ≤ l.greatest)
    upper (inl n) g = inl n
    upper (inr c) (inl n) = inl n
    upper (inr c) (inr g) = inr (omega arith)

pub meets-above : (T : Table) (i : ℕ) → i < T.lines → (t u : ℕ) → horizon T < t → horizon T < u
    → Meets (T.line i) t ↔ Meets (T.line i) u
meets-above T i l t u a b = (alike t u (omega arith), alike u t (omega arith))
  where
    alike : (t u : ℕ) → clip (horizon T) t ≡ clip (horizon T) u → Meets (T.line i) t → Meets (T.line i) u
    alike = meets-alike (horizon T) (T.line i) (horizon-bounds T i l)

-- ---- where a letter leads from a mask

pub meets-iff : (l : Line) (t : ℕ) → Is (meetsb l t) ↔ Meets l t
meets-iff l t = and_iff (leb l.least t) (eqb u no_bound || leb t u) (leb_iff l.least t) upper
  where
    u : ℕ
    u = l.greatest

    upper : Is (eqb u no_bound || leb t u) ↔ ((u ≡ no_bound) ⊎ (t ≤ u))
    upper = or_iff (eqb u no_bound) (leb t u) (eqb_iff u no_bound) (leb_iff t u)

-- a line with the letter a, that resets the clock or not, leads from a state of m at age t to q
pub record Led (T : Table) (r : Bool) (a t m q : ℕ) : Type 0 where
  pub index : ℕ
  pub listed : index < T.lines
  pub kind : resets (T.line index) ≡ r
  pub bears : (T.line index).letter ≡ a
  pub meets : Meets (T.line index) t
  pub held : Has m (T.line index).from
  pub enters : (T.line index).to ≡ q

takes-iff : (l : Line) (r : Bool) (a t m : ℕ)
    → Is (takes l r a t m) ↔ ((((resets l ≡ r) × (l.letter ≡ a)) × Meets l t) × Has m l.from)
takes-iff l r a t m = and_iff (kind && bears && meetsb l t) (hasb m l.from) met (hasb-iff m l.from)
  where
    kind : Bool
    kind = beq (resets l) r

    bears : Bool
    bears = eqb l.letter a

    borne : Is (kind && bears) ↔ ((resets l ≡ r) × (l.letter ≡ a))
    borne = and_iff kind bears (beq_iff (resets l) r) (eqb_iff l.letter a)

    met : Is (kind && bears && meetsb l t) ↔ (((resets l ≡ r) × (l.letter ≡ a)) × Meets l t)
    met = and_iff (kind && bears) (meetsb l t) borne (meets-iff l t)

pub has-image : (T : Table) (r : Bool) (a t m q : ℕ) → Has (image T r a t m) q ↔ Led T r a t m q
unfolding image
has-image T r a t m q = (to, from)
  where
    by : ℕ → ℕ
    by i = pick (takes (T.line i) r a t m) (2 ^ (T.line i).to)

    to : Has (union T.lines by) q → Led T r a t m q
    to h = let u = (has-union T.lines by q).0 h in
        let l : Line = T.line u.0 in
        let p = (has-pick (takes l r a t m) (2 ^ l.to) q).0 u.2 in
        let k = (takes-iff l r a t m).0 p.0 in
        record {
          index = u.0;
          listed = u.1;
          kind = k.0.0.0;
          bears = k.0.0.1;
          meets = k.0.1;
          held = k.1;
          enters = sym ((has-bit l.to q).0 p.1);
        }

    from : Led T r a t m q → Has (union T.lines by) q
    from h = let l : Line = T.line h.index in
        (has-union T.lines by q).1 (
          h.index,
          h.listed,
          (has-pick (takes l r a t m) (2 ^ l.to) q).1
              ((takes-iff l r a t m).1 (((h.kind, h.bears), h.meets), h.held), (has-bit l.to q).1 (sym h.enters)),
        )

-- from no state it leads nowhere
pub image-none : (T : Table) (r : Bool) (a t : ℕ) → image T r a t 0 ≡ 0
image-none T r a t = empty_mask (image T r a t 0) (λ q h. not_has_zero _ ((has-image T r a t 0 q).0 h).held)

-- two ages at which the same lines of that kind and of the letter hold lead to the same states
pub image-alike : (T : Table) (r : Bool) (a t u m : ℕ)
    → ((i : ℕ) → i < T.lines → resets (T.line i) ≡ r → (T.line i).letter ≡ a → meetsb (T.line i) t ≡ meetsb (T.line i) u)
    → image T r a t m ≡ image T r a u m
image-alike T r a t u m alike = ext_has (image T r a t m) (image T r a u m) (λ q. (half t u alike q, half u t back q))
  where
    Alike : ℕ → ℕ → Type 0
    Alike t u = (i : ℕ) → i < T.lines → resets (T.line i) ≡ r → (T.line i).letter ≡ a
        → meetsb (T.line i) t ≡ meetsb (T.line i) u

    back : Alike u t
    back i l s b = sym (alike i l s b)

    half : (t u : ℕ) → Alike t u → (q : ℕ) → Has (image T r a t m) q → Has (image T r a u m) q
    half t u e q h = let d = (has-image T r a t m q).0 h in
        let l : Line = T.line d.index in
        (has-image T r a u m q).1 record {
          index = d.index;
          listed = d.listed;
          kind = d.kind;
          bears = d.bears;
          meets = (meets-iff l u).0 (subst Is (e d.index d.listed d.kind d.bears) ((meets-iff l t).1 d.meets));
          held = d.held;
          enters = d.enters;
        }

-- ---- a letter

module _ (T : Table) (a : ℕ) (f : ℕ → ℕ) (S : Confs) (means : Means (horizon T) f S) where
  abbrev H : ℕ
  H = horizon T

  -- a step from a state of the mask at age u, by a true age that is u where those above H are taken as one
  led-step : (r : Bool) (u q : ℕ) → u ≤ suc H → Led T r a u (f u) q
      → (p : ℕ) × (t : ℕ) × (clip H t ≡ u) × S p t × Follows T a p t q (cond r 0 t)
  led-step r u q l d = let m : Line = T.line d.index in
      let c = (means m.from u l).0 d.held in (
        m.from,
        c.0,
        c.1,
        c.2,
        record {
          index = d.index;
          listed = d.listed;
          bears = d.bears;
          leaves = refl;
          enters = d.enters;
          meets = meets-alike H m (horizon-bounds T d.index d.listed) u c.0 (omega (arith, c.1)) d.meets;
          aged = ap (λ (b : Bool). cond b 0 c.0) d.kind;
        },
      )

  -- and back: a step from S at the age t is one from the mask at that age
  step-led : (r : Bool) (p t q u : ℕ) → S p t → (s : Follows T a p t q u) → resets (T.line s.index) ≡ r
      → Led T r a (clip H t) (f (clip H t)) q
  step-led r p t q u h s e = record {
    index = s.index;
    listed = s.listed;
    kind = e;
    bears = s.bears;
    enters = s.enters;
    meets = meets-alike H (T.line s.index) (horizon-bounds T s.index s.listed) t (clip H t) (omega arith) s.meets;
    held = (means (T.line s.index).from (clip H t) (omega arith)).1
        (t, refl, subst (λ (p : ℕ). S p t) (sym s.leaves) h);
  }

  abbrev reset_at : ℕ → ℕ
  reset_at u = image T true a u (f u)

  pub letter_means : Means H (letter_at T a f) (step T (letter a) S)
  unfolding letter_at fresh_at step Step
  letter_means q k l = (to, from)
    where
      Now : Type 0
      Now = Clipped H (step T (letter a) S) q k

      kept : ℕ
      kept = image T false a k (f k)

      reset : ℕ
      reset = union (ages H) reset_at

      fresh : ℕ
      fresh = bit_or reset T.standing

      -- the mask at age k
      mask : ℕ
      mask = bit_or kept (pick (eqb k 0) fresh)

      to : Has mask q → Now
      to h = ⊎_elim by_keeping at_zero ((has-or kept (pick (eqb k 0) fresh) q).0 h)
        where
          by_keeping : Has kept q → Now
          by_keeping j = let s = led-step false k q l ((has-image T false a k (f k) q).0 j) in
              (s.1, s.2, inl (s.0, s.1, s.3, s.4))

          by_reset : k ≡ 0 → Has reset q → Now
          by_reset z j = let u = (has-union (ages H) reset_at q).0 j in
              let s = led-step true u.0 q (omega (arith, u.1)) ((has-image T true a u.0 (f u.0) q).0 u.2) in
              (0, omega arith, inl (s.0, s.1, s.3, s.4))

          at_zero : Has (pick (eqb k 0) fresh) q → Now
          at_zero j = let p = (has-pick (eqb k 0) fresh q).0 j in
              let z : k ≡ 0 = (eqb_iff k 0).0 p.0 in
              ⊎_elim (by_reset z) (λ s. (0, omega arith, inr (refl, s))) ((has-or reset T.standing q).0 p.1)

      old : Has kept q → Has mask q
      old h = (has-or kept (pick (eqb k 0) fresh) q).1 (inl h)

      new : k ≡ 0 → Has reset q ⊎ Has T.standing q → Has mask q
      new z h = (has-or kept (pick (eqb k 0) fresh) q).1
          (inr ((has-pick (eqb k 0) fresh q).1 ((eqb_iff k 0).1 z, (has-or reset T.standing q).1 h)))

      from : Now → Has mask q
      from (t, e, inr h) = new (omega arith) (inr h.1)
      from (t, e, inl (p, u, h, s)) = by (resets (T.line s.index)) refl
        where
          v : ℕ
          v = clip H u

          led : (r : Bool) → resets (T.line s.index) ≡ r → Has (image T r a v (f v)) q
          led r d = (has-image T r a v (f v) q).1 (step-led r p u q t h s d)

          by : (r : Bool) → resets (T.line s.index) ≡ r → Has mask q
          by true r = let z : 0 ≡ t = ap (λ (b : Bool). cond b 0 u) (sym r) ∙ s.aged in
              new (omega arith) (inl ((has-union (ages H) reset_at q).1 (v, omega arith, led true r)))
          by false r = let z : u ≡ t = ap (λ (b : Bool). cond b 0 u) (sym r) ∙ s.aged in
              old (subst (λ (x : ℕ). Has (image T false a x (f x)) q) (ap (clip H) z ∙ e) (led false r))

-- ---- a span

pub span_means : (T : Table) (H s : ℕ) (f : ℕ → ℕ) (S : Confs) → Means H f S
    → Means H (span_at H s f) (step T (span s) S)
unfolding span_at passed_at step Step
span_means T H s f S means q k l = (to, from)
  where
    Now : Type 0
    Now = Clipped H (step T (span s) S) q k

    low : ℕ
    low = pick (leb s k) (f (k - s))

    gone : ℕ → ℕ
    gone u = pick (ltb H (u + s)) (f u)

    high : ℕ
    high = union (ages H) gone

    -- the age t of S has become t + s
    later : (t : ℕ) → clip H (t + s) ≡ k → S q t → Now
    later t e h = (t + s, e, (q, t, h, (refl, refl)))

    to : Has (cond (leb k H) low high) q → Now
    to h = ⊎_elim within above ((has-cond (leb k H) low high q).0 h)
      where
        within : Is (leb k H) × Has low q → Now
        within (b, j) = let p = (has-pick (leb s k) (f (k - s)) q).0 j in
            let b' : k ≤ H = (leb_iff k H).0 b in
            let c : s ≤ k = (leb_iff s k).0 p.0 in
            let d = (means q (k - s) (omega arith)).0 p.1 in
            later d.0 (omega (arith, d.1)) d.2

        above : Is (not (leb k H)) × Has high q → Now
        above (b, j) = let u = (has-union (ages H) gone q).0 j in
            let p = (has-pick (ltb H (u.0 + s)) (f u.0) q).0 u.2 in
            let b' : ¬ (k ≤ H) = λ z. (not_iff (leb k H)).0 b ((leb_iff k H).1 z) in
            let c : H < u.0 + s = (ltb_iff H (u.0 + s)).0 p.0 in
            let d = (means q u.0 (omega (arith, u.1))).0 p.1 in
            later d.0 (omega (arith, d.1)) d.2

    from : Now → Has (cond (leb k H) low high) q
    from (t, e, (p, u, h, (same, aged))) = (has-cond (leb k H) low high q).1 (go (dec_le k H))
      where
        v : ℕ
        v = clip H u

        held : Has (f v) q
        held = (means q v (omega arith)).1 (u, refl, subst (λ (p : ℕ). S p u) same h)

        moved : k ≤ H → Has low q
        moved b = let z : v ≡ k - s = omega arith in
            (has-pick (leb s k) (f (k - s)) q).1 ((leb_iff s k).1 (omega arith), subst (λ (x : ℕ). Has (f x) q) z held)

        passed : ¬ (k ≤ H) → Has (gone v) q
        passed b = (has-pick (ltb H (v + s)) (f v) q).1 ((ltb_iff H (v + s)).1 (omega arith), held)

        go : Dec (k ≤ H) → (Is (leb k H) × Has low q) ⊎ (Is (not (leb k H)) × Has high q)
        go (yes b) = inl ((leb_iff k H).1 b, moved b)
        go (no b) = inr (
          (not_iff (leb k H)).1 (λ z. b ((leb_iff k H).0 z)),
          (has-union (ages H) gone q).1 (v, omega arith, passed b),
        )

-- ---- every symbol, and every word

pub step-means : (T : Table) (x : Symbol) (f : ℕ → ℕ) (S : Confs) → Means (horizon T) f S
    → Means (horizon T) (step_at T x f) (step T x S)
unfolding step_at
step-means T (letter a) f S means = letter_means T a f S means
step-means T (span s) f S means = span_means T (horizon T) s f S means

pub after-means : (T : Table) (f : ℕ → ℕ) (S : Confs) → Means (horizon T) f S
    → (w : Word) → Means (horizon T) (after_at T f w) (after T S w)
unfolding after_at after
after-means T f S means empty = means
after-means T f S means (w ▷ x) = step-means T x (after_at T f w) (after T S w) (after-means T f S means w)

-- ---- a start and a gap

pub initial-means : (T : Table) (H : ℕ) → Means H (initial_at T) (Initial T)
initial-means T H q k l = (
  (λ h. let p = (has-pick (eqb k 0) T.initial q).0 h in
      let z : k ≡ 0 = (eqb_iff k 0).0 p.0 in
      (0, omega arith, (refl, p.1))),
  λ h. (has-pick (eqb k 0) T.initial q).1 ((eqb_iff k 0).1 (omega (arith, h.1, h.2.0)), h.2.1),
)

pub nothing-means : (H : ℕ) → Means H nothing_at Nothing
nothing-means H q k l = ((λ h. absurd (not_has_zero q h)), λ h. absurd h.2)

pub everything-means : (T : Table) (H : ℕ) → Means H (everything_at T) (Everything T)
everything-means T H q k l = ((λ h. (k, omega arith, (has-full T.states q).0 h)), λ h. (has-full T.states q).1 h.2)

-- ---- acceptance

-- all ages above H accept alike
accepting_clip : (T : Table) (t : ℕ) → accepting_at T (clip (horizon T) t) ≡ accepting_at T t
unfolding accepting_at
accepting_clip T t = refl

pub accepts-means : (T : Table) (f : ℕ → ℕ) (S : Confs) → Means (horizon T) f S → Is (accepts_at T f) ↔ Accepts T S
unfolding accepts_at
accepts-means T f S means = (to, from)
  where
    H : ℕ
    H = horizon T

    good : ℕ → ℕ
    good k = bit_and (f k) (accepting_at T k)

    all : ℕ
    all = union (ages H) good

    to : Is (not (eqb all 0)) → Accepts T S
    to h = go (nonempty all ((ne_iff all 0).0 h))
      where
        go : (q : ℕ) × Has all q → Accepts T S
        go (q, k) = let u = (has-union (ages H) good q).0 k in
            let p = (has-and (f u.0) (accepting_at T u.0) q).0 u.2 in
            let c = (means q u.0 (omega (arith, u.1))).0 p.0 in
            (q, c.0, subst (λ (m : ℕ). Has m q) (ap (accepting_at T) (sym c.1) ∙ accepting_clip T c.0) p.1, c.2)

    from : Accepts T S → Is (not (eqb all 0))
    from (q, t, a, h) = (ne_iff all 0).1 (λ e. not_has_zero q (subst (λ (x : ℕ). Has x q) e one))
      where
        u : ℕ
        u = clip H t

        held : Has (f u) q
        held = (means q u (omega arith)).1 (t, refl, h)

        accepting : Has (accepting_at T u) q
        accepting = subst (λ (m : ℕ). Has m q) (sym (accepting_clip T t)) a

        one : Has all q
        one = (has-union (ages H) good q).1 (u, omega arith, (has-and (f u) (accepting_at T u) q).1 (held, accepting))

-- ---- the same set, ages above H taken as one

pub same-clipped : (H : ℕ) (A B : Confs) → Same H A B ↔ ((q k : ℕ) → Clipped H A q k ↔ Clipped H B q k)
same-clipped H A B = (to, from)
  where
    half : {A B : Confs} → Same H A B → (q k : ℕ) → Clipped H A q k → Clipped H B q k
    half {A} {B} s q k (t, e, h) = go (dec_le t H)
      where
        go : Dec (t ≤ H) → Clipped H B q k
        go (yes l) = (t, e, (s.low q t l).0 h)
        go (no n) = let r = (s.beyond q).0 (t, omega arith, h) in (r.0, omega (arith, r.1), r.2)

    to : Same H A B → (q k : ℕ) → Clipped H A q k ↔ Clipped H B q k
    to s q k = (half s q k, half (same-sym s) q k)

    low : {A B : Confs} → ((q k : ℕ) → Clipped H A q k ↔ Clipped H B q k) → (q t : ℕ) → t ≤ H → A q t → B q t
    low {A} {B} e q t l h = let r = (e q t).0 (t, omega arith, h) in subst (λ (x : ℕ). B q x) (omega (arith, r.1)) r.2

    high : {A B : Confs} → ((q k : ℕ) → Clipped H A q k ↔ Clipped H B q k) → (q : ℕ) → Beyond H A q → Beyond H B q
    high e q (t, l, h) = let r = (e q (suc H)).0 (t, omega arith, h) in (r.0, omega (arith, r.1), r.2)

    from : ((q k : ℕ) → Clipped H A q k ↔ Clipped H B q k) → Same H A B
    from e = let e' : (q k : ℕ) → Clipped H B q k ↔ Clipped H A q k = λ q k. Iff.symm (e q k) in
        record { low = λ q t l. (low e q t l, low e' q t l); beyond = λ q. (high e q, high e' q) }

pub settled_means : (H : ℕ) (f g : ℕ → ℕ) (A B : Confs) → Means H f A → Means H g B
    → ((k : ℕ) → k ≤ suc H → f k ≡ g k) ↔ Same H A B
settled_means H f g A B sa sb = (to, from)
  where
    to : ((k : ℕ) → k ≤ suc H → f k ≡ g k) → Same H A B
    to e = (same-clipped H A B).1 (λ q k. (
      (λ h. let l : k ≤ suc H = omega (arith, h.1) in (sb q k l).0 (subst (λ (x : ℕ). Has x q) (e k l) ((sa q k l).1 h))),
      λ h. let l : k ≤ suc H = omega (arith, h.1) in (sa q k l).0 (subst (λ (x : ℕ). Has x q) (sym (e k l)) ((sb q k l).1 h)),
    ))

    from : Same H A B → (k : ℕ) → k ≤ suc H → f k ≡ g k
    from s k l = ext_has (f k) (g k) (λ q. Iff.trans (sa q k l) (Iff.trans ((same-clipped H A B).0 s q k) (Iff.symm (sb q k l))))

-- ---- what a span leaves at an age up to H, and above H

pub span_moved : (H s : ℕ) (f : ℕ → ℕ) (k : ℕ) → k ≤ H → s ≤ k → span_at H s f k ≡ f (k - s)
unfolding span_at
span_moved H s f k l m = rw (is_true (leb k H) ((leb_iff k H).1 l), is_true (leb s k) ((leb_iff s k).1 m))

pub span_gone : (H s : ℕ) (f : ℕ → ℕ) (k : ℕ) → k ≤ H → k < s → span_at H s f k ≡ 0
unfolding span_at
span_gone H s f k l m = rw (is_true (leb k H) ((leb_iff k H).1 l), is_false (leb s k) not_yet)
  where
    not_yet : ¬ Is (leb s k)
    not_yet t = let z : s ≤ k = (leb_iff s k).0 t in omega arith

pub span_passed : (H s : ℕ) (f : ℕ → ℕ) → span_at H s f (suc H) ≡ union (ages H) (λ u. pick (ltb H (u + s)) (f u))
unfolding span_at passed_at
span_passed H s f = rw (is_false (leb (suc H) H) above)
  where
    above : ¬ Is (leb (suc H) H)
    above t = let z : suc H ≤ H = (leb_iff (suc H) H).0 t in omega arith
