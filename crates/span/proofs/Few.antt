-- No more numbers than events: two strips have at most half as many spans as events, so a list of as many numbers as the strips have words is always
-- enough. The first span needs a join and an add; each later one a strict event and a moment. Assumes nothing.
use mathlib.Core.Path.{◌≡◌, refl, sym, ap, ◌∙◌}
use mathlib.Core.Bool.{Bool, true, false, cond, not, false≢true}
use mathlib.Core.List.{List, [], ◌∷◌}
use mathlib.Core.Logic.{⊎_elim}
use Prim.Native.Nat.{ℕ, zero, suc, ◌+◌, ◌*◌, ◌≤◌}
use native.Mathlib.Omega.{arith}
use native.Mathlib.Nat.{add-zero, eq-or-lt_of_le}
use lib.Dec.{eqb}
use lib.ListN.{length}
use borrow.Author.Tests.{ne_eqb, eqb-true, eqb-false}
use Rattle.base.specs.HowMany.{how_many}
use Rattle.base.proofs.HowMany.{how_many_ext}
use Rattle.base.proofs.Truth.{either, one_le}
use Rattle.rules.specs.Kinds.{quiet}
use Rattle.event.specs.Word.{tick_of}
use Rattle.formula.specs.Formula.{History}
use Rattle.formula.specs.Ticks.{by_add, by_join, grant}
use Rattle.formula.proofs.Meaning.{means_grant}
use Rattle.formula.proofs.Move.{grant_moves}
use Rattle.strip.specs.History.{history_of}
use Rattle.span.specs.Answer.{spans_in}
use Rattle.spanning.specs.SpansOf.{spans_from, spans_of}

-- ---- the ticks in which a carrier has an event
abbrev busy : History → ℕ → Bool
busy h k = not (eqb (h (suc k)) quiet)

-- how many of the ticks 1 to t
abbrev events : History → ℕ → ℕ
events h t = how_many (busy h) t

module _ (h : History) where
  events_on : (t : ℕ) → events h t ≤ events h (suc t)
  unfolding how_many
  events_on t = omega arith

  event_counts : (t : ℕ) → (h (suc t) ≡ quiet → ⊥) → events h t + 1 ≤ events h (suc t)
  unfolding how_many
  event_counts t n = simp (ne_eqb (h (suc t)) quiet n) (omega arith)

  -- one event counts from its tick on
  some : (t k : ℕ) → 1 ≤ k → k ≤ t → (h k ≡ quiet → ⊥) → 1 ≤ events h t
  some zero k a b n = absurd (omega arith)
  some (suc t) k a b n = ⊎_elim
      (λ (e : k ≡ suc t). omega (arith, event_counts t (λ q. n (ap h e ∙ q))))
      (λ l. omega (arith, events_on t, some t k a (omega arith) n))
      (eq-or-lt_of_le b)

-- a strip has no more such ticks than words
one_more : (p q : ℕ → Bool) (c n : ℕ) → ((k : ℕ) → (c ≡ suc k → ⊥) → p k ≡ q k) → how_many p n ≤ how_many q n + 1
unfolding how_many
one_more p q c zero e = omega arith
one_more p q c (suc n) e = ⊎_elim
    (λ (y : eqb c (suc n) ≡ true).
    let same : how_many p n ≡ how_many q n = how_many_ext p q n (λ k l. e k (λ z. omega (arith, eqb-true c (suc n) y))) in
    omega (arith, one_le (p n)))
    (λ (f : eqb c (suc n) ≡ false).
    let here : p n ≡ q n = e n (eqb-false c (suc n) f) in
    let counted : ◌≡◌ {A = ℕ} (cond (p n) 1 0) (cond (q n) 1 0) = ap (λ (b : Bool). cond {A = ℕ} b 1 0) here in
    omega (arith, one_more p q c n e))
    (either (eqb c (suc n)))

none_busy : (n : ℕ) → events (history_of []) n ≡ 0
unfolding how_many history_of
none_busy zero = refl
none_busy (suc n) = omega (arith, none_busy n)

events_few : (s : List ℕ) (t : ℕ) → events (history_of s) t ≤ length s
unfolding history_of
events_few [] t = omega (arith, none_busy t)
events_few (w ∷ s) t =
    omega (arith, events_few s t, one_more (busy (history_of (w ∷ s))) (busy (history_of s)) (tick_of w) t (λ k n. simp (ne_eqb (tick_of w) (suc k) n)))

-- ---- the spans
module _ (model sheet : History) where
  abbrev all : ℕ → ℕ
  all t = events model t + events sheet t

  all_on : (t : ℕ) → all t ≤ all (suc t)
  all_on t = omega (arith, events_on model t, events_on sheet t)

  -- a grant needs a join and an add
  granted_two : (t : ℕ) → grant model sheet t ≡ true → 2 ≤ all t
  granted_two t g = ⊎_elim
      (λ x. omega (
        arith,
        some sheet t x.0 x.1 x.2 (λ q. ⊎_elim (λ (e : sheet x.0 ≡ 4). omega arith) (λ (e : sheet x.0 ≡ 5). omega arith) x.3.0),
        some model t x.3.1.0 x.3.1.1 (omega (arith, x.2, x.3.1.2)) (λ q. ⊎_elim (λ (e : model x.3.1.0 ≡ 0). omega arith) (λ (e : model x.3.1.0 ≡ 1). omega arith) x.3.1.3),
      ))
      (λ x. omega (
        arith,
        some model t x.0 x.1 x.2 (λ q. omega (arith, x.3.0)),
        some sheet t x.3.1.0 x.3.1.1 (omega (arith, x.2, x.3.1.2)) (λ q. omega (arith, x.3.1.3)),
      ))
      ((means_grant model sheet t).0 g)

  -- a quiet tick leaves the grant, so a change is an event
  quiet_grant : (t : ℕ) → model (suc t) ≡ quiet → sheet (suc t) ≡ quiet → grant model sheet (suc t) ≡ grant model sheet t
  unfolding by_add by_join
  quiet_grant t e f = grant_moves model sheet t ∙ rw (e, f)

  changed : (t : ℕ) → (grant model sheet (suc t) ≡ grant model sheet t → ⊥) → all t + 1 ≤ all (suc t)
  changed t n = ⊎_elim
      (λ (y : eqb (model (suc t)) quiet ≡ true). ⊎_elim
      (λ (z : eqb (sheet (suc t)) quiet ≡ true). absurd (n (quiet_grant t (eqb-true _ _ y) (eqb-true _ _ z))))
      (λ (z : eqb (sheet (suc t)) quiet ≡ false). omega (arith, events_on model t, event_counts sheet t (eqb-false _ _ z)))
      (either (eqb (sheet (suc t)) quiet)))
      (λ (y : eqb (model (suc t)) quiet ≡ false). omega (arith, events_on sheet t, event_counts model t (eqb-false _ _ y)))
      (either (eqb (model (suc t)) quiet))

  -- what the spans that are left cost: a strict event each, and a moment but for the one that is open
  abbrev opened : ℕ → Bool
  opened zero = false
  opened (suc f) = true

  abbrev paid : ℕ → ℕ
  paid zero = 1
  paid (suc f) = 2

  few_left : (n first b : ℕ) → grant model sheet b ≡ opened first → 2 * length (spans_from (grant model sheet) first b n) + all b ≤ paid first + all (b + n)
  unfolding spans_from
  few_left zero zero b g = rw add-zero (omega arith)
  few_left zero (suc f) b g = rw add-zero (omega arith)
  few_left (suc n) zero b g =
      let e : all (b + suc n) ≡ all (suc b + n) = ap all (let x : b + suc n ≡ suc b + n = omega arith in x) in
      ⊎_elim
      (λ (y : grant model sheet (suc b) ≡ true). rw y
      (let r = few_left n (suc b) (suc b) y in let c = changed b (λ q. false≢true (sym g ∙ sym q ∙ y)) in omega arith))
      (λ (z : grant model sheet (suc b) ≡ false). rw z (let r = few_left n zero (suc b) z in omega (arith, all_on b)))
      (either (grant model sheet (suc b)))
  few_left (suc n) (suc f) b g =
      let e : all (b + suc n) ≡ all (suc b + n) = ap all (let x : b + suc n ≡ suc b + n = omega arith in x) in
      ⊎_elim
      (λ (y : grant model sheet (suc b) ≡ true). rw y (let r = few_left n (suc f) (suc b) y in omega (arith, all_on b)))
      (λ (z : grant model sheet (suc b) ≡ false). rw z
      (let r = few_left n zero (suc b) z in let c = changed b (λ q. false≢true (sym z ∙ q ∙ g)) in omega arith))
      (either (grant model sheet (suc b)))

  few_from : (n b : ℕ) → 2 * length (spans_from (grant model sheet) 0 b n) ≤ all (b + n)
  unfolding spans_from
  few_from zero b = omega arith
  few_from (suc n) b =
      let e : all (b + suc n) ≡ all (suc b + n) = ap all (let x : b + suc n ≡ suc b + n = omega arith in x) in
      ⊎_elim
      (λ (y : grant model sheet (suc b) ≡ true). rw y (let r = few_left n (suc b) (suc b) y in omega (arith, granted_two (suc b) y)))
      (λ (z : grant model sheet (suc b) ≡ false). rw z (let r = few_from n (suc b) in omega arith))
      (either (grant model sheet (suc b)))

  few_spans : (now : ℕ) → 2 * length (spans_of model sheet now) ≤ all now
  few_spans now = let e : all (0 + now) ≡ all now = ap all (let x : 0 + now ≡ now = omega arith in x) in omega (arith, few_from now 0)

pub spans_few : (m s : List ℕ) (now : ℕ) → 2 * length (spans_in m s now) ≤ length m + length s
spans_few m s now = omega (arith, few_spans (history_of m) (history_of s) now, events_few m now, events_few s now)
