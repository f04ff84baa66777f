-- Exactly one list is the spans of two histories up to now, and `spans_of` computes it. Assumes nothing.
use mathlib.Core.Path.{◌≡◌, refl, sym, ap, ap₂, ◌∙◌}
use mathlib.Core.Bool.{Bool, true, false, false≢true}
use mathlib.Core.List.{List, [], ◌∷◌}
use mathlib.Core.Logic.{◌⊎◌, inl, inr, ⊎_elim, ◌↔◌}
use Prim.Native.Nat.{ℕ, zero, suc, ◌+◌, ◌≤◌, ◌<◌}
use native.Mathlib.Omega.{arith}
use native.Mathlib.Nat.{eq-or-lt_of_le}
use Rattle.base.proofs.Truth.{either}
use Rattle.formula.specs.Formula.{History}
use Rattle.formula.specs.Ticks.{grant}
use Rattle.formula.proofs.Meaning.{means_grant}
use Rattle.spanning.specs.Spans.{Span, Apart, LiesIn, Spans}
use Rattle.spanning.specs.SpansOf.{spans_from, spans_of}

-- ---- what is computed is the spans
-- a span that is open at tick b began after tick a; without one, a is not after b
abbrev Opened : ℕ → ℕ → ℕ → Type 0
Opened a zero b = a ≤ b
Opened a (suc f) b = (a ≤ f) × (suc f ≤ b)

-- t lies in the open span
abbrev Within : ℕ → ℕ → ℕ → Type 0
Within zero b t = ⊥
Within (suc f) b t = (suc f ≤ t) × (t ≤ b)

module _ (holds : ℕ → Bool) where
  apart_from : (now a n first b : ℕ) → b + n ≤ now → Opened a first b → Apart a now (spans_from holds first b n)
  unfolding spans_from Apart
  apart_from now a zero zero b h o = tt
  apart_from now a zero (suc f) b h o = (omega arith, omega arith, omega arith, tt)
  apart_from now a (suc n) zero b h o = ⊎_elim
      (λ (t : holds (suc b) ≡ true). rw t (apart_from now a n (suc b) (suc b) (omega arith) (omega arith, omega arith)))
      (λ (f : holds (suc b) ≡ false). rw f (apart_from now a n zero (suc b) (omega arith) (omega arith)))
      (either (holds (suc b)))
  apart_from now a (suc n) (suc k) b h o = ⊎_elim
      (λ (t : holds (suc b) ≡ true). rw t (apart_from now a n (suc k) (suc b) (omega arith) (omega arith, omega arith)))
      (λ (f : holds (suc b) ≡ false). rw f (omega arith, omega arith, omega arith, apart_from now (suc b) n zero (suc b) (omega arith) (omega arith)))
      (either (holds (suc b)))

  -- a tick lies in what is computed exactly when it lies in the open span, or comes later and the grant holds there
  abbrev Told : ℕ → ℕ → ℕ → ℕ → Type 0
  Told first b n t = Within first b t ⊎ ((b < t) × (t ≤ b + n) × (holds t ≡ true))

  later : (n first b t : ℕ) → Within first (suc b) t ⊎ ((suc b < t) × (t ≤ suc b + n) × (holds t ≡ true)) → Within first (suc b) t ⊎ ((b < t) × (t ≤ b + suc n) × (holds t ≡ true))
  later n first b t = ⊎_elim inl (λ z. inr (omega (arith, z.0), omega (arith, z.1), z.2))

  sound : (n first b t : ℕ) → LiesIn t (spans_from holds first b n) → Told first b n t
  unfolding spans_from LiesIn
  sound zero zero b t x = absurd x
  sound zero (suc k) b t x = ⊎_elim inl (λ z. absurd z) x
  sound (suc n) zero b t x = ⊎_elim
      (λ (y : holds (suc b) ≡ true). ⊎_elim
      (λ w. inr (omega (arith, w.0), omega (arith, w.1), (let e : t ≡ suc b = omega (arith, w.0, w.1) in rw e y)))
      inr
      (later n (suc b) b t (sound n (suc b) (suc b) t (rw y at x))))
      (λ (z : holds (suc b) ≡ false). later n zero b t (sound n zero (suc b) t (rw z at x)))
      (either (holds (suc b)))
  sound (suc n) (suc k) b t x = ⊎_elim
      (λ (y : holds (suc b) ≡ true). ⊎_elim
      (λ w. ⊎_elim
      (λ (e : t ≡ suc b). inr (omega arith, omega arith, rw e y))
      (λ l. inl (w.0, omega arith))
      (eq-or-lt_of_le w.1))
      inr
      (later n (suc k) b t (sound n (suc k) (suc b) t (rw y at x))))
      (λ (z : holds (suc b) ≡ false). ⊎_elim inl (λ w. inr (⊎_elim (λ v. absurd v) (λ u. u) (later n zero b t (sound n zero (suc b) t w)))) (rw z at x))
      (either (holds (suc b)))

  -- a later tick, one tick on: of a span that goes on, and where none is open
  open_on : (n first b t : ℕ) → first ≤ suc b → (b < t) × (t ≤ b + suc n) × (holds t ≡ true) → ((first ≤ t) × (t ≤ suc b)) ⊎ ((suc b < t) × (t ≤ suc b + n) × (holds t ≡ true))
  open_on n first b t h z = ⊎_elim
      (λ (e : suc b ≡ t). inl (omega arith, omega arith))
      (λ l. inr (l, omega (arith, z.1), z.2))
      (eq-or-lt_of_le z.0)

  closed_on : (n b t : ℕ) → holds (suc b) ≡ false → (b < t) × (t ≤ b + suc n) × (holds t ≡ true) → ⊥ ⊎ ((suc b < t) × (t ≤ suc b + n) × (holds t ≡ true))
  closed_on n b t f z = ⊎_elim
      (λ (e : suc b ≡ t). inl (false≢true (sym f ∙ ap holds e ∙ z.2)))
      (λ l. inr (l, omega (arith, z.1), z.2))
      (eq-or-lt_of_le z.0)

  complete : (n first b t : ℕ) → Opened 0 first b → Told first b n t → LiesIn t (spans_from holds first b n)
  unfolding spans_from LiesIn
  complete zero zero b t o x = ⊎_elim (λ w. w) (λ z. absurd (omega (arith, z.0, z.1))) x
  complete zero (suc k) b t o x = ⊎_elim inl (λ z. absurd (omega (arith, z.0, z.1))) x
  complete (suc n) zero b t o x = ⊎_elim
      (λ (y : holds (suc b) ≡ true). rw y (complete n (suc b) (suc b) t (omega arith, omega arith) (⊎_elim (λ w. absurd w) (open_on n (suc b) b t (omega arith)) x)))
      (λ (z : holds (suc b) ≡ false). rw z (complete n zero (suc b) t (omega arith) (⊎_elim (λ w. absurd w) (closed_on n b t z) x)))
      (either (holds (suc b)))
  complete (suc n) (suc k) b t o x = ⊎_elim
      (λ (y : holds (suc b) ≡ true). rw y (complete n (suc k) (suc b) t (omega arith, omega arith) (⊎_elim (λ w. inl (w.0, omega (arith, w.1))) (open_on n (suc k) b t (omega arith)) x)))
      (λ (z : holds (suc b) ≡ false). rw z (⊎_elim inl (λ w. inr (complete n zero (suc b) t (omega arith) (closed_on n b t z w))) x))
      (either (holds (suc b)))

module _ (model sheet : History) (now : ℕ) where
  pub spans_are : Spans model sheet now (spans_of model sheet now)
  spans_are = record {
    apart = apart_from (grant model sheet) now 0 now 0 0 (omega arith) (omega arith);
    exactly = λ t h l. (
      λ x. (means_grant model sheet t).0 (⊎_elim (λ w. absurd w) (λ z. z.2) (sound (grant model sheet) now 0 0 t x)),
      λ g. complete (grant model sheet) now 0 0 t (omega arith) (inr (h, omega arith, (means_grant model sheet t).1 g)),
    );
  }

-- ---- and nothing else is
-- a tick that lies in pairs after tick b comes after b, and not after now
pub lies_after : (b now t : ℕ) (l : List Span) → Apart b now l → LiesIn t l → b < t
unfolding Apart LiesIn
lies_after b now t [] a x = absurd x
lies_after b now t (p ∷ l) a x = ⊎_elim (λ y. omega (arith, a.0, y.0)) (λ z. omega (arith, a.0, a.1, lies_after (suc p.last) now t l a.3 z)) x

pub lies_upto : (b now t : ℕ) (l : List Span) → Apart b now l → LiesIn t l → t ≤ now
unfolding Apart LiesIn
lies_upto b now t [] a x = absurd x
lies_upto b now t (p ∷ l) a x = ⊎_elim (λ y. omega (arith, a.2, y.1)) (λ z. lies_upto (suc p.last) now t l a.3 z) x

lies_none : (t : ℕ) → LiesIn t [] → ⊥
unfolding LiesIn
lies_none t x = x

-- the first pair
module _ (b now : ℕ) (p : Span) (l : List Span) (a : Apart b now (p ∷ l)) where
  -- its own ticks
  begins : LiesIn p.first (p ∷ l)
  unfolding Apart LiesIn
  begins = inl (omega arith, a.1)

  inside : (t : ℕ) → p.first ≤ t → t ≤ p.last → LiesIn t (p ∷ l)
  unfolding LiesIn
  inside t h k = inl (h, k)

  -- no tick lies before it, nor right behind it; a later one lies in the others
  not_before : (t : ℕ) → LiesIn t (p ∷ l) → p.first ≤ t
  unfolding Apart LiesIn
  not_before t x = ⊎_elim (λ y. y.0) (λ z. omega (arith, a.1, lies_after (suc p.last) now t l a.3 z)) x

  not_behind : LiesIn (suc p.last) (p ∷ l) → ⊥
  unfolding Apart LiesIn
  not_behind x = ⊎_elim (λ y. omega (arith, y.1)) (λ z. omega (arith, lies_after (suc p.last) now (suc p.last) l a.3 z)) x

  beyond : (t : ℕ) → p.last < t → LiesIn t (p ∷ l) → LiesIn t l
  unfolding LiesIn
  beyond t h x = ⊎_elim (λ y. absurd (omega (arith, y.1))) (λ z. z) x

in_others : (t : ℕ) (p : Span) (l : List Span) → LiesIn t l → LiesIn t (p ∷ l)
unfolding LiesIn
in_others t p l x = inr x

-- two lists in which the same ticks lie are the same list
abbrev SameTicks : List Span → List Span → Type 0
SameTicks l k = (t : ℕ) → LiesIn t l → LiesIn t k

ends_first : (b now : ℕ) (p q : Span) (l k : List Span) → Apart b now (p ∷ l) → Apart b now (q ∷ k) → SameTicks (q ∷ k) (p ∷ l) → p.first ≡ q.first → p.last < q.last → ⊥
unfolding Apart
ends_first b now p q l k x y same e h = not_behind b now p l x (same (suc p.last) (inside b now q k y (suc p.last) (omega (arith, x.1)) h))

same_list : (now b : ℕ) (l k : List Span) → Apart b now l → Apart b now k → SameTicks l k → SameTicks k l → l ≡ k
unfolding Apart
same_list now b [] [] al ak f g = refl
same_list now b [] (q ∷ k) al ak f g = absurd (lies_none q.first (g q.first (begins b now q k ak)))
same_list now b (p ∷ l) [] al ak f g = absurd (lies_none p.first (f p.first (begins b now p l al)))
same_list now b (p ∷ l) (q ∷ k) al ak f g =
    let e : p.first ≡ q.first = omega (arith, not_before b now q k ak p.first (f p.first (begins b now p l al)), not_before b now p l al q.first (g q.first (begins b now q k ak))) in
    let d : p.last ≡ q.last = omega (arith, ends_first b now p q l k al ak g e, ends_first b now q p k l ak al f (sym e)) in
    let rest : Apart (suc p.last) now k = rw d ak.3 in
    ap₂ ◌∷◌ (ap₂ (λ (x y : ℕ). record { first = x; last = y }) e d)
    (same_list now (suc p.last) l k al.3 rest
    (λ t x. beyond b now q k ak t (omega (arith, lies_after (suc p.last) now t l al.3 x)) (f t (in_others t p l x)))
    (λ t x. beyond b now p l al t (omega (arith, lies_after (suc p.last) now t k rest x)) (g t (in_others t q k x))))

module _ (model sheet : History) (now : ℕ) where
  same_ticks : (l k : List Span) → Spans model sheet now l → Spans model sheet now k → SameTicks l k
  same_ticks l k x y t z =
      let from : 1 ≤ t = lies_after 0 now t l x.apart z in
      let upto = lies_upto 0 now t l x.apart z in
      (y.exactly t from upto).1 ((x.exactly t from upto).0 z)

  -- two lists that are the spans are equal
  pub one_list : (l k : List Span) → Spans model sheet now l → Spans model sheet now k → l ≡ k
  one_list l k x y = same_list now 0 l k x.apart y.apart (same_ticks l k x y) (same_ticks k l y x)

  -- exactly the computed list is the spans
  pub only_spans : (l : List Span) → Spans model sheet now l ↔ (l ≡ spans_of model sheet now)
  only_spans l = (λ x. one_list l (spans_of model sheet now) x (spans_are model sheet now), λ e. rw e (spans_are model sheet now))
