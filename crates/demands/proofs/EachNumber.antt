-- Each number alone: it is given in its case and in no other (`each_number`). Of a call's checks one alone bears it, or those
-- of the lines do, and the checks before and behind do not (`first_in`, `given`). Assumes nothing.
use Prim.Native.Nat.{ℕ, zero, suc, ◌≤◌, ◌<◌}
use mathlib.Core.Path.{◌≡◌, refl, sym, subst}
use mathlib.Core.Logic.Iff
use mathlib.Core.Logic.{◌↔◌, ◌≢◌, ◌⊎◌, inl, inr}
use mathlib.Core.List.{List, [], ◌∷◌, ◌++◌, append-nil, append_assoc}
use mathlib.Core.Bool.{Bool, true, ◌&&◌, not}
use native.Mathlib.Nat.{not-suc-le-zero}
use native.Mathlib.Decide.{ℕ_discrete}
use native.Mathlib.Omega.{arith}
use lib.Dec.{T as Is, eqb}
use Rattle.base.proofs.Tests.{ne_iff, and_iff}
use Rattle.table.specs.declared.Head.{Head}
use Rattle.table.specs.Table.{head_of, line_at}
use Rattle.record.specs.declared.Record.{Record}
use Rattle.calls.specs.Calls.{ProperFor, verdict_reply, settled_reply, count_reply, reply_number}
use Rattle.demands.specs.Order.{Check, ◌when◌, AllPass, FirstFails, Answers}
use Rattle.demands.specs.Refusals.{Short, OtherVersion, OutOfRange, BadLength, BadMasks, BadParts, BadAges, BadRoom, NoLetter, BadSpan, WantsRoom, head_checks, line_checks, lines_checks, table_checks, record_checks}
use Rattle.demands.specs.EachNumber.{TableRows, RecordRows, Rows, EachNumber}
use Rattle.demands.proofs.Order.{first_of-both}
use Rattle.demands.proofs.Demands.{demand_1}

-- ---- which checks bear a number

-- no check bears the number k
abbrev others : List Check → ℕ → Bool
others [] k = true
others ((n when A) ∷ cs) k = not (eqb n k) && others cs k

module _ (k : ℕ) where
  others-cons : (n : ℕ) (A : Type 0) (cs : List Check) → Is (others (n when A ∷ cs) k) ↔ ((n ≢ k) × Is (others cs k))
  others-cons n A cs = and_iff (not (eqb n k)) (others cs k) (ne_iff n k) ((λ t. t), λ t. t)

  others-both : (cs ds : List Check) → Is (others cs k) → Is (others ds k) → Is (others (cs ++ ds) k)
  others-both [] ds h i = i
  others-both ((n when A) ∷ cs) ds h i = let o = (others-cons n A cs).0 h in
      (others-cons n A (cs ++ ds)).1 (o.0, others-both cs ds o.1 i)

  not_first : (cs : List Check) → Is (others cs k) → ¬ FirstFails cs k
  unfolding FirstFails
  not_first [] h = λ f. f
  not_first ((n when A) ∷ cs) h = go ((others-cons n A cs).0 h) (not_first cs)
    where
      go : (n ≢ k) × Is (others cs k) → (Is (others cs k) → ¬ FirstFails cs k) → ¬ (((n ≡ k) × A) ⊎ ((¬ A) × FirstFails cs k))
      go o ih (inl f) = o.0 f.0
      go o ih (inr f) = ih o.1 f.1

  -- of all checks those in the middle alone bear the number k
  first_in : (before mid rest : List Check) → Is (others before k) → Is (others rest k)
      → FirstFails (before ++ (mid ++ rest)) k ↔ (AllPass before × FirstFails mid k)
  first_in before mid rest early late = Iff.trans (first_of-both before (mid ++ rest) k) (to, from)
    where
      middle : FirstFails mid k ⊎ (AllPass mid × FirstFails rest k) → FirstFails mid k
      middle (inl f) = f
      middle (inr f) = absurd (not_first rest late f.1)

      to : FirstFails before k ⊎ (AllPass before × FirstFails (mid ++ rest) k) → AllPass before × FirstFails mid k
      to (inl f) = absurd (not_first before early f)
      to (inr f) = (f.0, middle ((first_of-both mid rest k).0 f.1))

      from : AllPass before × FirstFails mid k → FirstFails before k ⊎ (AllPass before × FirstFails (mid ++ rest) k)
      from f = inr (f.0, (first_of-both mid rest k).1 (inl f.1))

  alone : (A : Type 0) → FirstFails (k when A ∷ []) k ↔ A
  unfolding FirstFails
  alone A = (to, λ a. inl (refl, a))
    where
      to : ((k ≡ k) × A) ⊎ ((¬ A) × ⊥) → A
      to (inl f) = f.1
      to (inr f) = absurd f.1

  -- one check alone bears it
  first_at : (before : List Check) (A : Type 0) (rest : List Check) → Is (others before k) → Is (others rest k)
      → FirstFails (before ++ (k when A ∷ rest)) k ↔ (AllPass before × A)
  first_at before A rest early late = Iff.trans (first_in before (k when A ∷ []) rest early late)
      ((λ f. (f.0, (alone A).0 f.1)), λ f. (f.0, (alone A).1 f.1))

  -- so a number that such checks give is k in one case alone
  given : {n : ℕ} → 1 ≤ k → (before : List Check) (A : Type 0) (rest : List Check) → Answers (before ++ (k when A ∷ rest)) n
      → Is (others before k) → Is (others rest k) → (n ≡ k) ↔ (AllPass before × A)
  given l before A rest a early late = Iff.trans (a.refused k l) (first_at before A rest early late)

-- ---- the lines

module _ (b : List ℕ) where
  abbrev line : ℕ → List Check
  line i = line_checks (head_of b) (line_at b i)

  lines_others : (k : ℕ) → 6 ≢ k → 7 ≢ k → (e : ℕ) → Is (others (lines_checks b e) k)
  unfolding lines_checks
  lines_others k s v zero = tt
  lines_others k s v (suc e) = others-both k (lines_checks b e) (line e) (lines_others k s v e)
      ((others-cons k 6 (BadParts (head_of b) (line_at b e)) (7 when BadAges (line_at b e) ∷ [])).1
      (s, (others-cons k 7 (BadAges (line_at b e)) []).1 (v, tt)))

  -- the first line that fails a check with the number k; C i says when line i does
  lines_first : (k : ℕ) (C : ℕ → Type 0) → ((i : ℕ) → FirstFails (line i) k ↔ C i) → (e : ℕ)
      → FirstFails (lines_checks b e) k ↔ ((i : ℕ) × (i < e) × AllPass (lines_checks b i) × C i)
  unfolding lines_checks FirstFails
  lines_first k C c zero = ((λ f. absurd f), λ f. absurd (not-suc-le-zero f.1))
  lines_first k C c (suc e) =
      Iff.trans (first_of-both (lines_checks b e) (line e) k) (to (lines_first k C c e), from (lines_first k C c e))
    where
      Found : ℕ → Type 0
      Found e = (i : ℕ) × (i < e) × AllPass (lines_checks b i) × C i

      to : FirstFails (lines_checks b e) k ↔ Found e
          → FirstFails (lines_checks b e) k ⊎ (AllPass (lines_checks b e) × FirstFails (line e) k) → Found (suc e)
      to ih (inl f) = let g = ih.0 f in (g.0, omega (arith, g.1), g.2, g.3)
      to ih (inr f) = (e, omega arith, f.0, (c e).0 f.1)

      from : FirstFails (lines_checks b e) k ↔ Found e → Found (suc e)
          → FirstFails (lines_checks b e) k ⊎ (AllPass (lines_checks b e) × FirstFails (line e) k)
      from ih (i, l, p, h) = go (ℕ_discrete i e)
        where
          go : Dec (i ≡ e) → FirstFails (lines_checks b e) k ⊎ (AllPass (lines_checks b e) × FirstFails (line e) k)
          go (yes q) = inr (subst (λ (i : ℕ). AllPass (lines_checks b i)) q p, (c e).1 (subst C q h))
          go (no q) = inl (ih.1 (i, omega arith, p, h))

-- ---- the rows

-- what stands behind the table's checks bears none of 1 to 7
record Behind (rest : List Check) : Type 0 where
  none : (k : ℕ) → k < 8 → Is (others rest k)

nothing-behind : Behind []
nothing-behind = record { none = λ k l. tt }

behind-cons : (n : ℕ) {A : Type 0} {rest : List Check} → 8 ≤ n → Behind rest → Behind (n when A ∷ rest)
behind-cons n {A} {rest} l h = record { none = λ k m. (others-cons k n A rest).1 ((λ e. omega arith), h.none k m) }

module _ (b : List ℕ) (rest : List Check) (behind : Behind rest) (n : ℕ) (a : Answers (table_checks b ++ rest) n) where
  abbrev h : Head
  h = head_of b

  -- the checks from each row of the head on
  abbrev from_lines : List Check
  from_lines = lines_checks b h.lines ++ rest

  abbrev from_5 : List Check
  from_5 = 5 when BadMasks h ∷ from_lines

  abbrev from_4 : List Check
  from_4 = 4 when BadLength b ∷ from_5

  abbrev from_3 : List Check
  from_3 = 3 when OutOfRange h ∷ from_4

  abbrev from_2 : List Check
  from_2 = 2 when OtherVersion b ∷ from_3

  late : (k : ℕ) → k < 6 → Is (others from_lines k)
  late k l = others-both k (lines_checks b h.lines) rest
      (lines_others b k (λ e. omega arith) (λ e. omega arith) h.lines) (behind.none k (omega arith))

  -- a number that the lines' checks alone bear
  of_lines : (k : ℕ) (C : ℕ → Type 0) → 1 ≤ k → k < 8 → Is (others (head_checks b) k)
      → ((i : ℕ) → FirstFails (line_checks h (line_at b i)) k ↔ C i)
      → (n ≡ k) ↔ (AllPass (head_checks b) × ((i : ℕ) × (i < h.lines) × AllPass (lines_checks b i) × C i))
  of_lines k C l m early c = Iff.trans (a.refused k l) (Iff.trans
      (first_in k (head_checks b) (lines_checks b h.lines) rest early (behind.none k m))
      ((λ f. (f.0, (lines_first b k C c h.lines).0 f.1)), λ f. (f.0, (lines_first b k C c h.lines).1 f.1)))

  table-rows : TableRows b n
  unfolding AllPass
  table-rows = record {
    row-1 = Iff.trans (given 1 (omega arith) [] (Short b) from_2 a tt (late 1 (omega arith)))
        ((λ f. f.1), λ f. (tt, f));
    row-2 = Iff.trans (given 2 (omega arith) (1 when Short b ∷ []) (OtherVersion b) from_3 a tt (late 2 (omega arith)))
        ((λ f. (f.0.0, f.1)), λ f. ((f.0, tt), f.1));
    row-3 = Iff.trans (given 3 (omega arith) (1 when Short b ∷ 2 when OtherVersion b ∷ []) (OutOfRange h) from_4 a tt
        (late 3 (omega arith)))
        ((λ f. (f.0.0, f.0.1.0, f.1)), λ f. ((f.0, (f.1, tt)), f.2));
    row-4 = Iff.trans (given 4 (omega arith) (1 when Short b ∷ 2 when OtherVersion b ∷ 3 when OutOfRange h ∷ []) (BadLength b)
        from_5 a tt (late 4 (omega arith)))
        ((λ f. (f.0.0, f.0.1.0, f.0.1.1.0, f.1)), λ f. ((f.0, (f.1, (f.2, tt))), f.3));
    row-5 = Iff.trans (given 5 (omega arith)
        (1 when Short b ∷ 2 when OtherVersion b ∷ 3 when OutOfRange h ∷ 4 when BadLength b ∷ []) (BadMasks h)
        from_lines a tt (late 5 (omega arith)))
        ((λ f. (f.0.0, f.0.1.0, f.0.1.1.0, f.0.1.1.1.0, f.1)), λ f. ((f.0, (f.1, (f.2, (f.3, tt)))), f.4));
    row-6 = of_lines 6 _ (omega arith) (omega arith) tt
        (λ i. Iff.trans (first_at 6 [] (BadParts h (line_at b i)) (7 when BadAges (line_at b i) ∷ []) tt tt)
        ((λ f. f.1), λ f. (tt, f)));
    row-7 = of_lines 7 (λ (i : ℕ). (¬ BadParts h (line_at b i)) × BadAges (line_at b i)) (omega arith) (omega arith) tt
        (λ i. Iff.trans (first_at 7 (6 when BadParts h (line_at b i) ∷ []) (BadAges (line_at b i)) [] tt tt)
        ((λ f. (f.0.0, f.1)), λ f. ((f.0, tt), f.1)));
  }

module _ (b : List ℕ) where
  table-others : Is (others (table_checks b) 8)
  table-others = lines_others b 8 (λ e. omega arith) (λ e. omega arith) (head_of b).lines

  module _ (r : Record) where
    -- the record's check, and what may stand behind it
    record_rows : (more : List Check) (n : ℕ) → Behind more → Is (others more 8) → Answers (record_checks b r ++ more) n
        → RecordRows b r n
    record_rows more n behind none a = record {
      rows_1_to_7 = table-rows b (8 when (¬ ProperFor b r) ∷ more) (behind-cons 8 (omega arith) behind) n whole;
      row-8 = given 8 (omega arith) (table_checks b) (¬ ProperFor b r) more whole table-others none;
    }
      where
        whole : Answers (table_checks b ++ (8 when (¬ ProperFor b r) ∷ more)) n
        whole = subst (λ (cs : List Check). Answers cs n) (append_assoc (table_checks b) (8 when (¬ ProperFor b r) ∷ []) more) a

    -- behind the head's checks, nothing up to the record's bears a number above 8
    behind-head : (k : ℕ) → 8 < k → Is (others (lines_checks b (head_of b).lines ++ (8 when (¬ ProperFor b r) ∷ [])) k)
    behind-head k l = others-both k (lines_checks b (head_of b).lines) (8 when (¬ ProperFor b r) ∷ [])
        (lines_others b k (λ e. omega arith) (λ e. omega arith) (head_of b).lines)
        ((others-cons k 8 (¬ ProperFor b r) []).1 ((λ e. omega arith), tt))

    letter_behind : (a : ℕ) → Behind (9 when NoLetter b a ∷ 11 when WantsRoom b r a ∷ [])
    letter_behind a = behind-cons 9 (omega arith) (behind-cons 11 (omega arith) nothing-behind)

    -- a gap and a question: nothing behind it
    plain_rows : (n : ℕ) → Answers (record_checks b r) n → RecordRows b r n
    plain_rows n a = record_rows [] n nothing-behind tt
        (subst (λ (cs : List Check). Answers cs n) (sym (append-nil (record_checks b r))) a)

    rows : Rows b r
    unfolding AllPass
    rows = let d = demand_1 b r in record {
      start_1_to_7 = λ room x p. table-rows b (8 when BadRoom room ∷ []) (behind-cons 8 (omega arith) nothing-behind)
          x.number (d.at_start room x p).number;
      start_8 = λ room x p. given 8 (omega arith) (table_checks b) (BadRoom room) [] (d.at_start room x p).number
          table-others tt;
      letter_1_to_8 = λ a x p. record_rows _ x.number (letter_behind a) tt (d.at_letter a x p).number;
      letter_9 = λ a x p. given 9 (omega arith) (record_checks b r) (NoLetter b a) (11 when WantsRoom b r a ∷ [])
          (d.at_letter a x p).number (behind-head 9 (omega arith)) tt;
      letter_11 = λ a x p. Iff.trans ((d.at_letter a x p).number.refused 11 (omega arith)) (Iff.trans
          (first_in 11 (record_checks b r) (9 when NoLetter b a ∷ 11 when WantsRoom b r a ∷ []) []
          (behind-head 11 (omega arith)) tt)
          (let own = first_at 11 (9 when NoLetter b a ∷ []) (WantsRoom b r a) [] tt tt in
          ((λ f. (f.0, (own.0 f.1).0.0, (own.0 f.1).1)), λ f. (f.0, own.1 ((f.1, tt), f.2)))));
      span_1_to_8 = λ s x p. record_rows (10 when BadSpan s ∷ []) x.number
          (behind-cons 10 (omega arith) nothing-behind) tt (d.at_span s x p).number;
      span_10 = λ s x p. given 10 (omega arith) (record_checks b r) (BadSpan s) [] (d.at_span s x p).number
          (behind-head 10 (omega arith)) tt;
      gap_1_to_8 = λ x p. plain_rows x.number (d.at_gap x p).number;
      verdict_1_to_8 = λ v p. plain_rows (reply_number (verdict_reply v)) (d.at_verdict v p);
      settled_1_to_8 = λ v p. plain_rows (reply_number (settled_reply v)) (d.at_settled v p);
      count_1_to_8 = λ v p. plain_rows (reply_number (count_reply v)) (d.at_count v p);
    }

pub each_number : EachNumber
each_number = rows
