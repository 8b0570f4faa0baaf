-- A piece of ages, from x up to `until_of`, lies within what was asked (`until_within`), and at all its ages a letter
-- leads from a pair to the same states (`image-piece`). What the lines add, taken together, is where the letter leads
-- (`lines_together`); from two empty sets it leads nowhere (`image_pair-none`). A piece is made line by line (`end_next`,
-- `led-next`, `piece_all`). Assumes nothing.
use Prim.Native.Nat.{ℕ, zero, suc, ◌+◌, ◌-◌, ◌^◌, ◌/◌, ◌%◌, ◌≤◌, ◌<◌, min}
use mathlib.Core.Path.{◌≡◌, refl, sym, ap, ap₂, ◌∙◌, subst}
use mathlib.Core.Logic.Iff
use mathlib.Core.List.{List}
use mathlib.Core.Bool.{Bool, true, false, cond, ◌&&◌, ◌||◌, beq}
use native.Mathlib.Nat.{le_trans}
use native.Mathlib.Numerals.{add-one}
use native.Mathlib.Omega.{arith}
use lib.Bits.{or_zero_r}
use lib.Dec.{T as Is, eqb, leb, ltb}
use borrow.Author.Tests.{le-leb, lt-leb, ltb-true, ltb-false, leb-true, leb-false, eq-eqb, ne_eqb, le-ltb, lt-ltb}
use Rattle.base.specs.Masks.{hasb}
use Rattle.base.proofs.Tests.{is_true, is_false, bool_ext, eqb_iff, beq_iff}
use Rattle.base.proofs.Masks.{has-below, hasb-iff, has-shift}
use Rattle.table.specs.declared.Head.{Head}
use Rattle.table.specs.declared.Line.{Line}
use Rattle.table.specs.Table.{head_of, line_at}
use Rattle.meaning.specs.Tables.{Table, resets}
use Rattle.meaning.specs.Ages.{meetsb, image}
use Rattle.meaning.proofs.Ages.{image-none, image-alike}
use Rattle.faults.specs.Sound.{Sound}
use Rattle.record.specs.declared.Pair.{Pair}
use Rattle.record.specs.Pairs.{no_pair, both, together}
use Rattle.record.specs.Stretches.{same_pair}
use Rattle.record.proofs.Stretches.{pair_ext, same_pair-iff}
use Rattle.record.proofs.Together.{side-together, together-next}
use Rattle.image.specs.declared.Piece.{Piece}
use Rattle.image.specs.Images.{image_pair, is_open, led_pair, line_pair, least, line_until, until_of}
use Rattle.image.specs.Images.{up_to, piece_of, piece_with}

-- ---- a piece of ages

pub least-next : (c n : ℕ) (f : ℕ → ℕ) (v : ℕ) → v ≡ min (least c n f) (f n) → v ≡ least c (n + 1) f
unfolding least
least-next c n f v e = rw (add-one n) e

least-le : (c n : ℕ) (f : ℕ → ℕ) → least c n f ≤ c
unfolding least
least-le c zero f = omega arith
least-le c (suc n) f = omega (arith, least-le c n f)

least-each : (c n : ℕ) (f : ℕ → ℕ) (i : ℕ) → i < n → least c n f ≤ f i
unfolding least
least-each c zero f i l = absurd (let z : ⊥ = omega arith in z)
least-each c (suc n) f i l = go (leb n i) refl (λ m. least-each c n f i m)
  where
    go : (b : Bool) → leb n i ≡ b → (i < n → least c n f ≤ f i) → min (least c n f) (f n) ≤ f i
    go true e ih = let same : i ≡ n = omega (arith, leb-true n i e) in rw same (omega arith)
    go false e ih = omega (arith, ih (leb-false n i e))

least_above : (c n : ℕ) (f : ℕ → ℕ) (x : ℕ) → x ≤ c → ((i : ℕ) → i < n → x ≤ f i) → x ≤ least c n f
unfolding least
least_above c zero f x l h = l
least_above c (suc n) f x l h = omega (arith, least_above c n f x l (λ i m. h i (omega arith)), h n (omega arith))

module _ (l : Line) (r : Bool) (a x last : ℕ) where
  line_low : x ≤ last → x ≤ line_until l r a x last
  unfolding line_until
  line_low b = go (beq (resets l) r && eqb l.letter a) (ltb x l.least) (leb x l.greatest) refl refl
    where
      go : (c d e : Bool) → ltb x l.least ≡ d → leb x l.greatest ≡ e
          → x ≤ cond c (cond d (l.least - 1) (cond e l.greatest last)) last
      go false d e p q = b
      go true true e p q = omega (arith, ltb-true x l.least p)
      go true false true p q = leb-true x l.greatest q
      go true false false p q = b

  -- up to there the line holds as at x
  line_alike : resets l ≡ r → l.letter ≡ a → (k : ℕ) → x ≤ k → k ≤ line_until l r a x last → meetsb l k ≡ meetsb l x
  unfolding line_until
  line_alike kind bears k low high =
      go (ltb x l.least) (leb x l.greatest) refl refl (rw (same, eq-eqb l.letter a bears) at high)
    where
      same : beq (resets l) r ≡ true
      same = is_true (beq (resets l) r) ((beq_iff (resets l) r).1 kind)

      go : (d e : Bool) → ltb x l.least ≡ d → leb x l.greatest ≡ e
          → k ≤ cond d (l.least - 1) (cond e l.greatest last) → meetsb l k ≡ meetsb l x
      go true e p q h = let b = ltb-true x l.least p in
          rw (lt-leb l.least k (omega arith), lt-leb l.least x b)
      go false true p q h = let b = ltb-false x l.least p in
          rw (le-leb l.least k (omega arith), le-leb l.least x b, le-leb k l.greatest h, q)
      go false false p q h = let b = ltb-false x l.least p in
          let c = leb-false x l.greatest q in
          rw (le-leb l.least k (omega arith), le-leb l.least x b, lt-leb k l.greatest (omega arith), q)

module _ (T : Table) (r : Bool) (a x last : ℕ) where
  -- the piece is not empty, and lies within what was asked
  pub until_within : (end : ℕ) → end ≡ until_of T r a x last → x ≤ last → (x ≤ end) × (end ≤ last)
  unfolding until_of
  until_within end e b = rw e
      (least_above last T.lines _ x b (λ i l. line_low (T.line i) r a x last b), least-le last T.lines _)

  pub piece_within : (p : Pair) (q : Piece) → q ≡ piece_of T r a x last p → x ≤ last → (x ≤ q.end) × (q.end ≤ last)
  piece_within p q e = until_within q.end (ap (λ (q : Piece). q.end) e)

  image-until : (m k : ℕ) → x ≤ k → k ≤ until_of T r a x last → image T r a k m ≡ image T r a x m
  unfolding until_of
  image-until m k low high = image-alike T r a k x m (λ i l kind bears.
      line_alike (T.line i) r a x last kind bears k low (le_trans high (least-each last T.lines _ i l)))

  pub image-piece : (p : Pair) (k : ℕ) → x ≤ k → k ≤ until_of T r a x last → image_pair T r a k p ≡ image_pair T r a x p
  image-piece p k low high = pair_ext _ _ (image-until p.sure k low high) (image-until p.possible k low high)

-- ---- what the lines add

pub image_pair-none : (T : Table) (r : Bool) (a t : ℕ) → image_pair T r a t no_pair ≡ no_pair
image_pair-none T r a t = pair_ext _ _ (image-none T r a t) (image-none T r a t)

-- as code asks whether there is anything
pub image_nothing : (T : Table) (r : Bool) (a t : ℕ) (p none : Pair) → none ≡ no_pair → true ≡ same_pair p none
    → none ≡ image_pair T r a t p
image_nothing T r a t p none n e =
    let p-none : p ≡ none = (same_pair-iff p none).0 (subst Is e tt) in
    n ∙ sym (image_pair-none T r a t) ∙ ap (image_pair T r a t) (sym (p-none ∙ n))

pub lines_together : (T : Table) (r : Bool) (a t : ℕ) (p : Pair) (k : ℕ) (v : Pair) → k ≡ T.lines
    → v ≡ together k (λ i. line_pair (T.line i) r a t p) → v ≡ image_pair T r a t p
unfolding image
lines_together T r a t p k v all e =
    e ∙ rw all (pair_ext _ _ (side-together true T.lines _) (side-together false T.lines _))

-- as code reads it: a line of a sound table leads to one of 16 states
pub leads_low : (b : List ℕ) → Sound b → (h : Head) (l : Line) (k : ℕ) → h ≡ head_of b → k < h.lines → l ≡ line_at b k
    → l.to < 16
leads_low b s h l k head listed line =
    let here = s.line k (subst (λ (x : Head). k < x.lines) head listed) in
    rw line (omega (arith, here.to, s.states))

-- a state above 15 is in no set of 16 bits
pub has_none : (m q : ℕ) → m < 2 ^ 16 → 15 < q → false ≡ hasb m q
has_none m q small l = sym (is_false (hasb m q) (λ h. let z = has-below 16 m q small ((hasb-iff m q).0 h) in omega arith))

-- bit q is the remainder by 2 once q bits are shifted out
pub has_shifted : (m q : ℕ) → eqb (m / 2 ^ q % 2) 1 ≡ hasb m q
has_shifted m q = bool_ext _ _
    (Iff.trans (eqb_iff (m / 2 ^ q % 2) 1) (Iff.trans (Iff.symm (has-shift q m)) (Iff.symm (hasb-iff m q))))

or_true : (b : Bool) → b || true ≡ true
or_true true = refl
or_true false = refl

-- a line that is not open adds nothing, and one that is adds where it leads
module _ (q : Pair) (l : Line) (r : Bool) (a t : ℕ) (p : Pair) where
  shut_line : is_open l r a t ≡ false → q ≡ both q (line_pair l r a t p)
  shut_line e = rw e (sym (pair_ext _ q (or_zero_r q.sure) (or_zero_r q.possible)))

  open_line : is_open l r a t ≡ true → both q (led_pair l p) ≡ both q (line_pair l r a t p)
  open_line e = rw e

-- ---- a piece, line by line

module _ (q : Piece) (l : Line) (r : Bool) (a x last : ℕ) (p : Pair) where
  piece_end : q.end ≤ last → (piece_with q l r a x p).end ≡ min q.end (line_until l r a x last)
  unfolding piece_with line_until
  piece_end within = go (beq (resets l) r && eqb l.letter a) (ltb x l.least) (leb x l.greatest)
    where
      go : (c d e : Bool)
          → (cond c (cond d (up_to (min q.end (l.least - 1)) q.led)
          (cond e (up_to (min q.end l.greatest) (both q.led (led_pair l p))) q)) q).end
          ≡ min q.end (cond c (cond d (l.least - 1) (cond e l.greatest last)) last)
      go false d e = omega (arith, within)
      go true true e = refl
      go true false true = refl
      go true false false = omega (arith, within)

  piece_led : x ≤ 4294967295 → (piece_with q l r a x p).led ≡ both q.led (line_pair l r a x p)
  unfolding piece_with
  piece_led small = go (beq (resets l) r && eqb l.letter a) (ltb x l.least) (leb x l.greatest) refl refl refl
    where
      shut : is_open l r a x ≡ false → q.led ≡ both q.led (line_pair l r a x p)
      shut = shut_line q.led l r a x p

      go : (c d e : Bool) → beq (resets l) r && eqb l.letter a ≡ c → ltb x l.least ≡ d → leb x l.greatest ≡ e
          → (cond c (cond d (up_to (min q.end (l.least - 1)) q.led)
          (cond e (up_to (min q.end l.greatest) (both q.led (led_pair l p))) q)) q).led
          ≡ both q.led (line_pair l r a x p)
      go false d e u v w = shut (rw u)
      go true true e u v w = shut (rw (u, lt-leb l.least x (ltb-true x l.least v)))
      go true false true u v w = open_line q.led l r a x p
          (rw (u, le-leb l.least x (ltb-false x l.least v), w) (or_true (eqb l.greatest 4294967295)))
      go true false false u v w = let past = leb-false x l.greatest w in
          shut (rw (u, le-leb l.least x (ltb-false x l.least v), w, ne_eqb l.greatest 4294967295 (λ e. omega arith)))

-- as code asks: a line that does not hold yet at x
pub line_ahead : (q : Piece) (l : Line) (r : Bool) (a x : ℕ) (p : Pair) → beq (resets l) r ≡ true → l.letter ≡ a
    → x < l.least → (end : ℕ) → end ≡ min q.end (l.least - 1) → up_to end q.led ≡ piece_with q l r a x p
unfolding piece_with
line_ahead q l r a x p kind bears ahead end e =
    rw (kind, eq-eqb l.letter a bears, lt-ltb x l.least ahead) (ap (λ (n : ℕ). up_to n q.led) e)

-- and one that holds there
pub line_held : (q : Piece) (l : Line) (r : Bool) (a x : ℕ) (p : Pair) → beq (resets l) r ≡ true → l.letter ≡ a
    → l.least ≤ x → x ≤ l.greatest → (end : ℕ) (more led : Pair) → end ≡ min q.end l.greatest → more ≡ led_pair l p
    → led ≡ both q.led more → up_to end led ≡ piece_with q l r a x p
unfolding piece_with
line_held q l r a x p kind bears low high end more led e m d =
    rw (kind, eq-eqb l.letter a bears, le-ltb x l.least low, le-leb x l.greatest high)
    (ap₂ up_to e (d ∙ ap (both q.led) m))

-- as code goes on: the piece of the lines below k, with line k
module _ (line : ℕ → Line) (r : Bool) (a x last : ℕ) (p : Pair) (k : ℕ) (l : Line) (here : l ≡ line k)
    (out next : Piece) (e : next ≡ piece_with out l r a x p) where
  pub end_next : out.end ≡ least last k (λ i. line_until (line i) r a x last)
      → next.end ≡ least last (k + 1) (λ i. line_until (line i) r a x last)
  end_next o = least-next last k _ next.end
      (ap (λ (q : Piece). q.end) e
      ∙ piece_end out l r a x last p (omega (arith, o, least-le last k (λ i. line_until (line i) r a x last)))
      ∙ ap₂ min o (ap (λ (l : Line). line_until l r a x last) here))

  pub led-next : x ≤ 4294967295 → out.led ≡ together k (λ i. line_pair (line i) r a x p)
      → next.led ≡ together (k + 1) (λ i. line_pair (line i) r a x p)
  led-next small o = together-next k _ next.led
      (ap (λ (q : Piece). q.led) e
      ∙ piece_led out l r a x last p small
      ∙ ap₂ both o (ap (λ (l : Line). line_pair l r a x p) here))

-- all lines
pub piece_all : (T : Table) (r : Bool) (a x last : ℕ) (p : Pair) (k : ℕ) (out : Piece) → k ≡ T.lines
    → out.end ≡ least last k (λ i. line_until (T.line i) r a x last) → out.led ≡ together k (λ i. line_pair (T.line i) r a x p)
    → out ≡ piece_of T r a x last p
unfolding until_of
piece_all T r a x last p k out all end led =
    ap₂ up_to (end ∙ ap (λ (n : ℕ). least last n (λ i. line_until (T.line i) r a x last)) all)
    (lines_together T r a x p k out.led all led)
