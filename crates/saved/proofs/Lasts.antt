-- A carrier's last word among records with one inserted. Assumes nothing.
use mathlib.Core.Path.{◌≡◌, refl, sym, ap, ap₂, ◌∙◌, subst}
use mathlib.Core.Bool.{true, false, cond}
use mathlib.Core.List.{List}
use mathlib.Core.Logic.{⊎_elim}
use Prim.Native.Nat.{ℕ, zero, suc, ◌≤◌, ◌<◌}
use native.Mathlib.Nat.{eq-or-lt_of_le}
use native.Mathlib.Omega.{arith}
use lib.Dec.{eqb}
use lib.ListN.{length, get_or}
use borrow.Author.Tests.{eqb-true, eqb-false, eq-eqb, ne_eqb}
use Rattle.base.proofs.Truth.{either}
use Rattle.records.specs.Records.{carrier_of, last_of}
use Rattle.insert.specs.Inserted.{inserted}
use Rattle.insert.proofs.Among.{place, place_inside, at_before, at_place, at_behind, length_inserted}

-- what holds at a place and goes on from each to the next, holds from it on
pub from : (at : ℕ) (P : ℕ → Type 0) → P at → ((j : ℕ) → at ≤ j → P j → P (suc j)) → (j : ℕ) → at ≤ j → P j
from at P start next zero h = subst P (let e : at ≡ zero = omega arith in e) start
from at P start next (suc j) h = ⊎_elim
    (λ (e : at ≡ suc j). subst P e start)
    (λ (l : at < suc j). next j (omega arith) (from at P start next j (omega arith)))
    (eq-or-lt_of_le h)

-- lists that agree on the first n words agree on the last ones among them
pub last_same : (xs ys : List ℕ) (n c : ℕ) → ((k : ℕ) → k < n → get_or xs k 0 ≡ get_or ys k 0) → last_of xs n c ≡ last_of ys n c
unfolding last_of
last_same xs ys zero c e = refl
last_same xs ys (suc n) c e =
    ap₂ (λ (x l : ℕ). cond (eqb (carrier_of x) c) x l) (e n (omega arith)) (last_same xs ys n c (λ k h. e k (omega arith)))

module _ (ws : List ℕ) (w : ℕ) where
  abbrev new : List ℕ
  new = inserted ws w

  -- up to its place, and with it
  pub last_before : (i c : ℕ) → i ≤ place ws w → last_of new i c ≡ last_of ws i c
  last_before i c h = last_same new ws i c (λ k l. at_before ws w k (omega arith))

  last_with : (c : ℕ) → last_of new (suc (place ws w)) c ≡ cond (eqb (carrier_of w) c) w (last_of ws (place ws w) c)
  unfolding last_of
  last_with c =
      ap₂ (λ (x l : ℕ). cond (eqb (carrier_of x) c) x l) (at_place ws w) (last_before (place ws w) c (omega arith))

  -- behind it: of another carrier, as it was
  pub last_other : (c : ℕ) → (carrier_of w ≡ c → ⊥) → (j : ℕ) → place ws w ≤ j → last_of new (suc j) c ≡ last_of ws j c
  unfolding last_of
  last_other c apart = from (place ws w) (λ j. last_of new (suc j) c ≡ last_of ws j c)
      (last_with c ∙ simp (ne_eqb (carrier_of w) c apart))
      (λ j h e. ap₂ (λ (x l : ℕ). cond (eqb (carrier_of x) c) x l) (at_behind ws w j h) e)

  -- of its own, which no word behind it is of: it
  module _ (alone : (k : ℕ) → place ws w ≤ k → k < length ws → carrier_of (get_or ws k 0) ≡ carrier_of w → ⊥) where
    pub last_own : (j : ℕ) → place ws w ≤ j → j ≤ length ws → last_of new (suc j) (carrier_of w) ≡ w
    unfolding last_of
    last_own = from (place ws w) (λ j. j ≤ length ws → last_of new (suc j) (carrier_of w) ≡ w)
        (λ l. last_with (carrier_of w) ∙ simp (eq-eqb (carrier_of w) (carrier_of w) refl))
        (λ j h e l.
        ap (λ (x : ℕ). cond (eqb (carrier_of x) (carrier_of w)) x (last_of new (suc j) (carrier_of w))) (at_behind ws w j h)
        ∙ simp (ne_eqb (carrier_of (get_or ws j 0)) (carrier_of w) (alone j h l)) (e (omega arith)))

    -- and before it was there, the last word at its place was the last
    pub last_stays : (j : ℕ) → place ws w ≤ j → j ≤ length ws → last_of ws j (carrier_of w) ≡ last_of ws (place ws w) (carrier_of w)
    unfolding last_of
    last_stays = from (place ws w) (λ j. j ≤ length ws → last_of ws j (carrier_of w) ≡ last_of ws (place ws w) (carrier_of w))
        (λ l. refl)
        (λ j h e l. simp (ne_eqb (carrier_of (get_or ws j 0)) (carrier_of w) (alone j h l)) (e (omega arith)))

    -- all records
    pub last_all : (c : ℕ) → last_of new (length new) c ≡ cond (eqb (carrier_of w) c) w (last_of ws (length ws) c)
    last_all c = ap (λ (n : ℕ). last_of new n c) (length_inserted ws w) ∙ ⊎_elim
        (λ (t : eqb (carrier_of w) c ≡ true).
        simp t (ap (last_of new (suc (length ws))) (sym (eqb-true (carrier_of w) c t)) ∙ last_own (length ws) (place_inside ws w) (omega arith)))
        (λ (f : eqb (carrier_of w) c ≡ false). simp f (last_other c (eqb-false _ _ f) (length ws) (place_inside ws w)))
        (either (eqb (carrier_of w) c))
