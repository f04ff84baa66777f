-- The first line met: in words, and for lines that stand one after another. Assumes nothing.
use mathlib.Core.Path.{◌≡◌, refl, sym, ap, ◌∙◌}
use mathlib.Core.Bool.{Bool, true, false, cond, ◌||◌}
use mathlib.Core.List.{List, [], ◌∷◌, ◌++◌, append-nil}
use mathlib.Core.Logic.{◌⊎◌, inl, inr, ⊎_elim}
use Prim.Native.Nat.{ℕ, zero, suc, ◌<◌}
use native.Mathlib.Omega.{arith}
use lib.Dec.{ltb}
use lib.ListN.{get_or}
use borrow.Author.Tests.{ltb-true, ltb-false, lt-ltb, le-ltb}
use Rattle.base.specs.First.{first}
use Rattle.base.proofs.First.{step_found, step_now, step_on}
use Rattle.base.proofs.Truth.{either}
use Rattle.demands.specs.Lines.{Refusal, none, Line, unmet, first_met, each_below, Met, NoneMet}

-- ---- in words

-- the line that is met first is the one told
pub met_first : (lines : List Line) (i : ℕ) → Met lines i → first_met lines ≡ (get_or lines i unmet).refusal
unfolding first_met
met_first [] i m = absurd (omega (arith, m.inside))
met_first (l ∷ lines) zero m = simp m.met
met_first (l ∷ lines) (suc i) m =
    let rest : Met lines i = record { inside = omega (arith, m.inside); met = m.met; earlier = λ j h. m.earlier (suc j) (omega arith) } in
    let first-not : l.met ≡ false = m.earlier 0 (omega arith) in
    simp first-not (met_first lines i rest)

pub none_first : (lines : List Line) → NoneMet lines → first_met lines ≡ none
unfolding first_met
none_first [] n = refl
none_first (l ∷ lines) n =
    let first-not : l.met ≡ false = n 0 (omega arith) in
    simp first-not (none_first lines (λ i h. n (suc i) (omega arith)))

-- and there is no third case
pub met_or_none : (lines : List Line) → ((i : ℕ) × Met lines i) ⊎ NoneMet lines
met_or_none [] = inr (λ i h. absurd (omega arith))
met_or_none (l ∷ lines) = ⊎_elim
    (λ (t : l.met ≡ true). inl (0, record { inside = omega arith; met = t; earlier = λ j h. absurd (omega arith) }))
    (λ (f : l.met ≡ false).
    ⊎_elim
    (λ (x : (i : ℕ) × Met lines i). inl (suc x.0, later l lines x.0 f x.1))
    (λ (n : NoneMet lines). inr (still l lines f n))
    (met_or_none lines))
    (either l.met)
  where
    later : (l : Line) (lines : List Line) (i : ℕ) → l.met ≡ false → Met lines i → Met (l ∷ lines) (suc i)
    later l lines i f m = record { inside = omega (arith, m.inside); met = m.met; earlier = before }
      where
        before : (j : ℕ) → j < suc i → (get_or (l ∷ lines) j unmet).met ≡ false
        before zero h = f
        before (suc j) h = m.earlier j (omega arith)

    still : (l : Line) (lines : List Line) → l.met ≡ false → NoneMet lines → NoneMet (l ∷ lines)
    still l lines f n zero h = f
    still l lines f n (suc i) h = n i (omega arith)

-- ---- one list after another

-- some line is met
unfoldable pub any : List Line → Bool
any [] = false
any (l ∷ lines) = l.met || any lines

any_append : (a b : List Line) → any (a ++ b) ≡ any a || any b
unfolding any
any_append [] b = refl
any_append (l ∷ a) b = ⊎_elim
    (λ (t : l.met ≡ true). simp t)
    (λ (f : l.met ≡ false). simp (f, any_append a b))
    (either l.met)

first_append : (a b : List Line) → first_met (a ++ b) ≡ cond (any a) (first_met a) (first_met b)
unfolding first_met any
first_append [] b = refl
first_append (l ∷ a) b = ⊎_elim
    (λ (t : l.met ≡ true). simp t)
    (λ (f : l.met ≡ false). simp (f, first_append a b))
    (either l.met)

-- ---- the lines of each number below n, where number k's are met as p k says, and then tell r k

module _
    (f : ℕ → List Line)
    (p : ℕ → Bool)
    (r : ℕ → Refusal)
    (meets : (k : ℕ) → any (f k) ≡ p k)
    (tells : (k : ℕ) → p k ≡ true → first_met (f k) ≡ r k)
  where
    record Below (n : ℕ) : Type 0 where
      met : any (each_below f n) ≡ ltb (first p n) n
      told : first p n < n → first_met (each_below f n) ≡ r (first p n)

    below_found : (n : ℕ) → Below n → ltb (first p n) n ≡ true → Below (suc n)
    unfolding each_below
    below_found n b t =
        let h : first p n < n = ltb-true _ _ t in
        let e = step_found p n h in
        record {
          met = any_append (each_below f n) (f n) ∙ simp (b.met, t) (sym (lt-ltb (first p (suc n)) (suc n) (omega arith)));
          told = λ l. first_append (each_below f n) (f n) ∙ simp (b.met, t) (b.told h ∙ ap r (sym e));
        }

    below_now : (n : ℕ) → Below n → ltb (first p n) n ≡ false → p n ≡ true → Below (suc n)
    unfolding each_below
    below_now n b o y =
        let e = step_now p n (ltb-false _ _ o) y in
        record {
          met = any_append (each_below f n) (f n) ∙ simp (b.met, o, meets n, y) (sym (lt-ltb (first p (suc n)) (suc n) (omega arith)));
          told = λ l. first_append (each_below f n) (f n) ∙ simp (b.met, o) (tells n y ∙ ap r (sym e));
        }

    below_on : (n : ℕ) → Below n → ltb (first p n) n ≡ false → p n ≡ false → Below (suc n)
    unfolding each_below
    below_on n b o z =
        let e = step_on p n (ltb-false _ _ o) z in
        record {
          met = any_append (each_below f n) (f n) ∙ simp (b.met, o, meets n, z) (sym (le-ltb (first p (suc n)) (suc n) (omega arith)));
          told = λ l. absurd (omega arith);
        }

    below : (n : ℕ) → Below n
    unfolding each_below any
    below zero = record { met = sym (le-ltb (first p 0) 0 (omega arith)); told = λ h. absurd (omega arith) }
    below (suc n) = ⊎_elim
        (λ t. below_found n (below n) t)
        (λ o. ⊎_elim (λ y. below_now n (below n) o y) (λ z. below_on n (below n) o z) (either (p n)))
        (either (ltb (first p n) n))

    -- the first number with a line met, and then what follows
    pub first_each : (n : ℕ) (rest : List Line) → first_met (each_below f n ++ rest) ≡ cond (ltb (first p n) n) (r (first p n)) (first_met rest)
    first_each n rest = first_append (each_below f n) rest ∙ ⊎_elim
        (λ (t : ltb (first p n) n ≡ true). simp ((below n).met, t) ((below n).told (ltb-true _ _ t)))
        (λ (o : ltb (first p n) n ≡ false). simp ((below n).met, o))
        (either (ltb (first p n) n))

    pub first_each_last : (n : ℕ) → first_met (each_below f n) ≡ cond (ltb (first p n) n) (r (first p n)) none
    unfolding first_met
    first_each_last n = ap first_met (sym (append-nil (each_below f n))) ∙ first_each n []
