-- What is left of the spans after a tick: nothing changes over quiet ticks, and a tick with events moves it as the code's turn does. Assumes nothing.
use mathlib.Core.Path.{◌≡◌, refl, sym, ap, ◌∙◌}
use mathlib.Core.Bool.{Bool, true, false, cond, not}
use mathlib.Core.List.{List, ◌++◌}
use mathlib.Core.Logic.{⊎_elim}
use Prim.Native.Nat.{ℕ, zero, suc, ◌+◌, ◌-◌, ◌≤◌, ◌<◌}
use native.Mathlib.Omega.{arith}
use native.Mathlib.Nat.{eq-or-lt_of_le}
use lib.Dec.{eqb, eqb-suc-zero}
use lib.ListN.{length}
use borrow.Author.Tests.{ne_eqb}
use Rattle.spanning.specs.Spans.{Span}
use Rattle.spanning.specs.SpansOf.{opened_at, ended_at, spans_from}
use Rattle.spanning.specs.Steps.{pairs_from, turned, turned_list, ended, ended_list}
use Rattle.spanning.specs.declared.Spanning.{Spanning}

-- a span is open
abbrev pub is_open : ℕ → Bool
is_open first = not (eqb first 0)

open_since : (first t : ℕ) → 1 ≤ t → true ≡ is_open (cond (eqb first 0) t first)
open_since zero t h = ap not (sym (ne_eqb t 0 (λ e. omega arith)))
open_since (suc f) t h = simp eqb-suc-zero

closed_since : (first count : ℕ) → false ≡ is_open (ended (record { first = first; count = count })).first
closed_since zero count = refl
closed_since (suc f) count = simp eqb-suc-zero

-- What a turn makes of the pairs that are left, `rest` of the span that is open afterwards; and what the end makes of them.
module _ (count t : ℕ) where
  abbrev with : ℕ → Spanning
  with first = record { first = first; count = count }

  module _ (rest : ℕ → List Span) where
    abbrev coming : ℕ → Bool → List Span
    coming first g = cond g (rest (opened_at first t)) (ended_at first (t - 1) ++ rest 0)

    list_turned : (first : ℕ) (g : Bool) (list : List ℕ)
        → pairs_from list count (coming first g) ≡ pairs_from (turned_list list (with first) t g) (turned (with first) t g).count (rest (turned (with first) t g).first)
    unfolding pairs_from
    list_turned zero true list = refl
    list_turned zero false list = refl
    list_turned (suc f) true list = simp eqb-suc-zero
    list_turned (suc f) false list = simp eqb-suc-zero

    count_turned : (first : ℕ) (g : Bool) → count + length (coming first g) ≡ (turned (with first) t g).count + length (rest (turned (with first) t g).first)
    count_turned zero true = refl
    count_turned zero false = refl
    count_turned (suc f) true = simp eqb-suc-zero
    count_turned (suc f) false = simp eqb-suc-zero (omega arith)

  pub end_list : (first : ℕ) (list : List ℕ) → pairs_from list count (ended_at first t) ≡ ended_list list (with first) t
  unfolding pairs_from
  end_list zero list = refl
  end_list (suc f) list = simp eqb-suc-zero

  pub end_count : (first : ℕ) → count + length (ended_at first t) ≡ (ended (with first)).count
  end_count zero = omega arith
  end_count (suc f) = simp eqb-suc-zero

-- whether a span is open after a turn
pub turn_open : (was : Spanning) (t : ℕ) (g : Bool) → 1 ≤ t → g ≡ is_open (turned was t g).first
turn_open was t true h = open_since was.first t h
turn_open was t false h = closed_since was.first was.count

module _ (holds : ℕ → Bool) (now : ℕ) where
  -- the spans from tick b on, with the one that is open at b
  abbrev pub left : ℕ → ℕ → List Span
  left first b = spans_from holds first b (now - b)

  -- one tick on
  tick : (first b : ℕ) → b < now
      → left first b ≡ cond (holds (suc b)) (left (opened_at first (suc b)) (suc b)) (ended_at first b ++ left 0 (suc b))
  unfolding spans_from
  tick first b h = ap (spans_from holds first b) (let e : now - b ≡ suc (now - suc b) = omega arith in e)

  -- a tick that leaves the grant as it was
  still : (first b : ℕ) → b < now → holds (suc b) ≡ is_open first → left first b ≡ left first (suc b)
  still zero b h e = tick zero b h ∙ rw e
  still (suc f) b h e = tick (suc f) b h ∙ simp (e, eqb-suc-zero)

  pub over : (first b t : ℕ) → b ≤ t → t ≤ now → ((u : ℕ) → b < u → u ≤ t → holds u ≡ is_open first) → left first b ≡ left first t
  over first b zero h k q = ap (left first) (let e : b ≡ 0 = omega arith in e)
  over first b (suc t) h k q = ⊎_elim
      (λ (e : b ≡ suc t). ap (left first) e)
      (λ l. over first b t (omega arith) (omega arith) (λ u x y. q u x (omega arith)) ∙ still first t (omega arith) (q (suc t) l (omega arith)))
      (eq-or-lt_of_le h)

  -- the last tick
  pub at_end : (first : ℕ) → left first now ≡ ended_at first now
  unfolding spans_from
  at_end first = ap (spans_from holds first now) (let e : now - now ≡ 0 = omega arith in e)

  -- a tick with events, t, after quiet ones: what the turn does to the count and to the list
  module _ (was : Spanning) (b t : ℕ) (later : b < t) (upto : t ≤ now) (quiet : (u : ℕ) → b < u → u < t → holds u ≡ is_open was.first) where
    here : left was.first b ≡ cond (holds t) (left (opened_at was.first t) t) (ended_at was.first (t - 1) ++ left 0 t)
    here =
        let e : suc (t - 1) ≡ t = omega arith in
        over was.first b (t - 1) (omega arith) (omega arith) (λ u x y. quiet u x (omega arith))
        ∙ tick was.first (t - 1) (omega arith)
        ∙ ap (λ (k : ℕ). cond (holds k) (left (opened_at was.first k) k) (ended_at was.first (t - 1) ++ left 0 k)) e

    pub turn_list : (list : List ℕ)
        → pairs_from list was.count (left was.first b) ≡ pairs_from (turned_list list was t (holds t)) (turned was t (holds t)).count (left (turned was t (holds t)).first t)
    turn_list list = ap (pairs_from list was.count) here ∙ list_turned was.count t (λ f. left f t) was.first (holds t) list

    pub turn_count : was.count + length (left was.first b) ≡ (turned was t (holds t)).count + length (left (turned was t (holds t)).first t)
    turn_count = ap (λ (l : List Span). was.count + length l) here ∙ count_turned was.count t (λ f. left f t) was.first (holds t)
