-- One pass over two strips is the scan over all ticks, since ticks without events move nothing. Assumes nothing.
use mathlib.Core.Path.{◌≡◌, refl, sym, ap, ap₂, ◌∙◌}
use mathlib.Core.Logic.{⊎_elim}
use mathlib.Core.List.{List}
use Prim.Native.Nat.{ℕ, zero, suc, ◌+◌, ◌≤◌, ◌<◌}
use native.Mathlib.Omega.{arith}
use native.Mathlib.Nat.{eq-or-lt_of_le}
use lib.Dec.{ltb}
use lib.ListN.{length, get_or}
use borrow.Author.Tests.{lt-ltb, le-ltb, ltb-true, ltb-false}
use Rattle.base.proofs.Truth.{either}
use Rattle.rules.specs.Kinds.{quiet}
use Rattle.event.specs.Word.{kind_of}
use Rattle.formula.specs.Formula.{History}
use Rattle.strip.specs.History.{history_of}
use Rattle.strip.proofs.Places.{tick_at, Rising, UpTo, After, after_start, quiet_till, history_here, after_hit, after_miss}
use Rattle.standing.specs.declared.Seen.{Seen}
use Rattle.standing.specs.Scan.{start, step_of, scan_to}
use Rattle.stepping.specs.declared.Head.{Head}
use Rattle.stepping.specs.Next.{never, head_of}

-- ---- the scan over ticks
module _ (model sheet : History) where
  abbrev pub Gap : ℕ → ℕ → Type 0
  Gap last t = (u : ℕ) → last < u → u < t → (model u ≡ quiet) × (sheet u ≡ quiet)

  next : (t : ℕ) → scan_to model sheet (suc t) ≡ step_of (scan_to model sheet t) (suc t) (model (suc t)) (sheet (suc t))
  unfolding scan_to
  next t = refl

  -- a quiet tick moves nothing
  still : (t : ℕ) → model (suc t) ≡ quiet → sheet (suc t) ≡ quiet → scan_to model sheet (suc t) ≡ scan_to model sheet t
  still t e f = next t ∙ ap₂ (step_of (scan_to model sheet t) (suc t)) e f

  pub over_gap : (last t : ℕ) → last ≤ t → Gap last (suc t) → scan_to model sheet t ≡ scan_to model sheet last
  over_gap last zero h g = ap (scan_to model sheet) (let e : 0 ≡ last = omega arith in e)
  over_gap last (suc t) h g = ⊎_elim
      (λ e. ap (scan_to model sheet) (sym e))
      (λ l. still t (g (suc t) l (omega arith)).0 (g (suc t) l (omega arith)).1 ∙ over_gap last t (omega arith) (λ u a b. g u a (omega arith)))
      (eq-or-lt_of_le h)

  jump : (last t : ℕ) → last < t → Gap last t → scan_to model sheet t ≡ step_of (scan_to model sheet last) t (model t) (sheet t)
  jump last zero h g = absurd (omega arith)
  jump last (suc t) h g = next t ∙ ap (λ (x : Seen). step_of x (suc t) (model (suc t)) (sheet (suc t))) (over_gap last t (omega arith) g)

-- ---- the next event of one strip
-- what a strip has at tick t, the next after `last` with an event: the history's kind, the place after t, and nothing in between
record Turn (s : List ℕ) (last t k after-t : ℕ) : Type 0 where
  kind : history_of s t ≡ k
  after : After t s after-t
  between : (u : ℕ) → last < u → u < t → history_of s u ≡ quiet

module _ (s : List ℕ) (r : Rising s) (last i : ℕ) (a : After last s i) (fits : tick_at s i < never) where
  -- where the strip has a next event, and where it has none
  within : i < length s → head_of s i ≡ record { tick = tick_at s i; kind = kind_of (get_or s i 0) }
  within h = simp (lt-ltb _ _ h)

  out : length s ≤ i → head_of s i ≡ record { tick = never; kind = quiet }
  out h = simp (le-ltb _ _ h)

  -- a next event's tick is below `never`, and only an event's is
  head_low : i < length s → (head_of s i).tick < never
  head_low h = rw (within h) fits

  head_in : (head_of s i).tick < never → i < length s
  head_in h = ⊎_elim
      (λ y. ltb-true i (length s) y)
      (λ z. let l : never < never = rw (out (ltb-false i (length s) z)) at h in absurd (omega arith))
      (either (ltb i (length s)))

  head_most : (head_of s i).tick ≤ never
  head_most = ⊎_elim
      (λ y. rw (within (ltb-true i (length s) y)) (omega arith))
      (λ z. rw (out (ltb-false i (length s) z)) (omega arith))
      (either (ltb i (length s)))

  head_upto : (head_of s i).tick < never → (n : ℕ) → UpTo n s → (head_of s i).tick ≤ n
  head_upto h n u = rw (within (head_in h)) (u i (head_in h))

  head_later : (head_of s i).tick < never → last < (head_of s i).tick
  head_later h = rw (within (head_in h)) (a.ahead i (omega arith) (head_in h))

  -- the strip's next event is taken, or a tick before it
  hit : (head_of s i).tick < never → Turn s last (head_of s i).tick (head_of s i).kind (i + 1)
  hit h =
      let l = head_in h in
      rw (within l) (record {
        kind = history_here s r last i a l;
        after = after_hit s r last i a (tick_at s i) l refl;
        between = λ u x z. quiet_till s r last i a u x (λ n. z);
      })

  miss : (t : ℕ) → last < t → t < (head_of s i).tick → Turn s last t quiet i
  miss t l h =
      let ahead : i < length s → t < tick_at s i = λ n. (let w : t < tick_at s i = rw (within n) at h in w) in
      record {
        kind = quiet_till s r last i a t l ahead;
        after = after_miss s r last i a t l ahead;
        between = λ u x z. quiet_till s r last i a u x (λ n. omega (arith, ahead n));
      }

-- ---- both strips
-- where a pass stands: the places of the next events, the last tick taken, and what is known after it
pub record Place : Type 0 where
  pub i : ℕ
  pub j : ℕ
  pub tick : ℕ
  pub seen : Seen

abbrev pub place : ℕ → ℕ → ℕ → Seen → Place
place i j t seen = record { i = i; j = j; tick = t; seen = seen }

-- the pass has taken the events up to its tick
pub record Passed (m s : List ℕ) (p : Place) : Type 0 where
  pub upto : (n : ℕ) → UpTo n m → UpTo n s → p.tick ≤ n
  pub model : After p.tick m p.i
  pub sheet : After p.tick s p.j
  pub so_far : p.seen ≡ scan_to (history_of m) (history_of s) p.tick

-- a turn of the pass: from p to q, a later tick with an event, and none in between
pub record Turned (m s : List ℕ) (p q : Place) : Type 0 where
  pub passed : Passed m s q
  pub later : p.tick < q.tick
  pub between : Gap (history_of m) (history_of s) p.tick q.tick
  pub more : p.i + p.j < q.i + q.j

module _ (m s : List ℕ) (rm : Rising m) (rs : Rising s) where
  pub pass_start : Passed m s (place 0 0 0 start)
  unfolding scan_to
  pass_start = record {
    upto = λ n a b. omega arith;
    model = after_start m rm;
    sheet = after_start s rs;
    so_far = refl;
  }

  module _ (p : Place) (x : Passed m s p) where
    -- no event left: the pass stands at every later tick, and each is quiet
    module _ (h : length m + length s ≤ p.i + p.j) where
      pub quiet_end : (u : ℕ) → p.tick < u → (history_of m u ≡ quiet) × (history_of s u ≡ quiet)
      quiet_end u a =
          let im = x.model.inside in
          let is = x.sheet.inside in
          (quiet_till m rm p.tick p.i x.model u a (λ y. absurd (omega arith)), quiet_till s rs p.tick p.j x.sheet u a (λ y. absurd (omega arith)))

      pub pass_end : (n : ℕ) → UpTo n m → UpTo n s → p.seen ≡ scan_to (history_of m) (history_of s) n
      pass_end n um us = x.so_far ∙ sym (over_gap (history_of m) (history_of s) p.tick n (x.upto n um us) (λ u a b. quiet_end u a))

    -- the events of tick t are taken
    taken : (t k l i' j' : ℕ) → p.tick < t → ((n : ℕ) → UpTo n m → UpTo n s → t ≤ n) → Turn m p.tick t k i' → Turn s p.tick t l j'
        → p.i + p.j < i' + j' → Turned m s p (place i' j' t (step_of p.seen t k l))
    taken t k l i' j' later upto tm ts more = record {
      passed = record {
        upto = upto;
        model = tm.after;
        sheet = ts.after;
        so_far =
            ap (λ (y : Seen). step_of y t k l) x.so_far
            ∙ ap₂ (step_of (scan_to (history_of m) (history_of s) p.tick) t) (sym tm.kind) (sym ts.kind)
            ∙ sym (jump (history_of m) (history_of s) p.tick t later (λ u y z. (tm.between u y z, ts.between u y z)));
      };
      later = later;
      between = λ u y z. (tm.between u y z, ts.between u y z);
      more = more;
    }

    module _ (fm : tick_at m p.i < never) (fs : tick_at s p.j < never) where
      abbrev a : Head
      a = head_of m p.i

      abbrev b : Head
      b = head_of s p.j

      -- the model's next event comes first, or the sheet's, or both come in one tick
      pub model_first : a.tick < b.tick → Turned m s p (place (p.i + 1) p.j a.tick (step_of p.seen a.tick a.kind quiet))
      model_first h =
          let low : a.tick < never = omega (arith, head_most s rs p.tick p.j x.sheet fs) in
          let later = head_later m rm p.tick p.i x.model fm low in
          taken _ _ _ _ _ later (λ n um us. head_upto m rm p.tick p.i x.model fm low n um)
          (hit m rm p.tick p.i x.model fm low) (miss s rs p.tick p.j x.sheet fs _ later h) (omega arith)

      pub sheet_first : b.tick < a.tick → Turned m s p (place p.i (p.j + 1) b.tick (step_of p.seen b.tick quiet b.kind))
      sheet_first h =
          let low : b.tick < never = omega (arith, head_most m rm p.tick p.i x.model fm) in
          let later = head_later s rs p.tick p.j x.sheet fs low in
          taken _ _ _ _ _ later (λ n um us. head_upto s rs p.tick p.j x.sheet fs low n us)
          (miss m rm p.tick p.i x.model fm _ later h) (hit s rs p.tick p.j x.sheet fs low) (omega arith)

      pub both_first : b.tick ≡ a.tick → p.i + p.j < length m + length s → Turned m s p (place (p.i + 1) (p.j + 1) a.tick (step_of p.seen a.tick a.kind b.kind))
      both_first same left =
          let low : a.tick < never = ⊎_elim
          (λ v. head_low m rm p.tick p.i x.model fm (ltb-true p.i (length m) v))
          (λ w. omega (arith, x.model.inside, ltb-false p.i (length m) w, head_low s rs p.tick p.j x.sheet fs (omega (arith, x.model.inside, ltb-false p.i (length m) w))))
          (either (ltb p.i (length m))) in
          let later = head_later m rm p.tick p.i x.model fm low in
          taken _ _ _ _ _ later (λ n um us. head_upto m rm p.tick p.i x.model fm low n um)
          (hit m rm p.tick p.i x.model fm low) (rw same at (hit s rs p.tick p.j x.sheet fs (omega arith))) (omega arith)

-- ---- the judge's own loop, which keeps no tick and has the next events in variables
abbrev pub At : List ℕ → List ℕ → ℕ → ℕ → Seen → Type 0
At m s i j seen = (t : ℕ) × Passed m s (place i j t seen)

module _ (m s : List ℕ) (rm : Rising m) (rs : Rising s) (i j : ℕ) (seen : Seen) (x : At m s i j seen) where
  abbrev here : Place
  here = place i j x.0 seen

  module _ (fm : tick_at m i < never) (fs : tick_at s j < never) (a b : Head) (ea : a ≡ head_of m i) (eb : b ≡ head_of s j) where
    pub by_model : a.tick < b.tick → At m s (i + 1) j (step_of seen a.tick a.kind quiet)
    by_model h =
        let l : (head_of m i).tick < (head_of s j).tick = rw (ea, eb) at h in
        rw ea ((head_of m i).tick, (model_first m s rm rs here x.1 fm fs l).passed)

    pub by_sheet : b.tick < a.tick → At m s i (j + 1) (step_of seen b.tick quiet b.kind)
    by_sheet h =
        let l : (head_of s j).tick < (head_of m i).tick = rw (ea, eb) at h in
        rw eb ((head_of s j).tick, (sheet_first m s rm rs here x.1 fm fs l).passed)

    pub by_both : b.tick ≤ a.tick → a.tick ≤ b.tick → i + j < length m + length s → At m s (i + 1) (j + 1) (step_of seen a.tick a.kind b.kind)
    by_both h g left =
        let k : (head_of s j).tick ≤ (head_of m i).tick = rw (ea, eb) at h in
        let l : (head_of m i).tick ≤ (head_of s j).tick = rw (ea, eb) at g in
        rw (ea, eb) ((head_of m i).tick, (both_first m s rm rs here x.1 fm fs (omega arith) left).passed)

  pub at_end : length m + length s ≤ i + j → (n : ℕ) → UpTo n m → UpTo n s → seen ≡ scan_to (history_of m) (history_of s) n
  at_end h n um us = pass_end m s rm rs here x.1 h n um us
