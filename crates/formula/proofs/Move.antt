-- The one law that judge, running gate and book cite: how membership, the liberal stay and the grant move from one tick to the next,
-- that a quiet tick moves nothing, and that a tick's answer rests on the events up to it. Assumes nothing.
use mathlib.Core.Path.{◌≡◌, refl, ap, ap₂}
use mathlib.Core.Bool.{Bool, true, false, not, ◌&&◌, ◌||◌}
use Prim.Native.Nat.{ℕ, zero, suc, ◌≤◌}
use native.Mathlib.Omega.{arith}
use lib.Dec.{eqb}
use Rattle.rules.specs.Kinds.{LJ, SL, LA, SR, is_join, is_leave, is_add, is_remove}
use Rattle.formula.specs.Since.{since}
use Rattle.formula.specs.Formula.{History}
use Rattle.formula.specs.Ticks.{inside, liberal, by_add, by_join, moment, strict, grant}

-- two sinces with one p are one since
join_since : (a b p x y : Bool) → (a || (p && x)) || (b || (p && y)) ≡ (a || b) || (p && (x || y))
join_since true b p x y = refl
join_since false true true true y = refl
join_since false true true false y = refl
join_since false true false x y = refl
join_since false false true x y = refl
join_since false false false x y = refl

module _ (model : History) where
  pub inside_start : inside model 0 ≡ false
  unfolding inside since
  inside_start = refl

  pub inside_moves : (t : ℕ) → inside model (suc t) ≡ is_join (model (suc t)) || (not (is_leave (model (suc t))) && inside model t)
  unfolding inside since
  inside_moves t = refl

module _ (sheet : History) where
  pub liberal_start : liberal sheet 0 ≡ false
  unfolding liberal since
  liberal_start = refl

  pub liberal_moves : (t : ℕ) → liberal sheet (suc t) ≡ eqb (sheet (suc t)) LA || (not (is_remove (sheet (suc t))) && liberal sheet t)
  unfolding liberal since
  liberal_moves t = refl

module _ (model sheet : History) where
  pub grant_start : grant model sheet 0 ≡ false
  unfolding grant since
  grant_start = refl

  pub grant_moves : (t : ℕ) → grant model sheet (suc t) ≡ moment model sheet (suc t) || (not (strict model sheet (suc t)) && grant model sheet t)
  unfolding grant since
  grant_moves t =
      let free : ℕ → Bool = λ k. not (strict model sheet k) in
      join_since (by_add model sheet (suc t)) (by_join model sheet (suc t)) (free (suc t)) (since free (by_add model sheet) t) (since free (by_join model sheet) t)

-- two histories with the same events up to tick t
abbrev pub Same : ℕ → History → History → Type 0
Same t f g = (k : ℕ) → k ≤ t → f k ≡ g k

since_same : (p p' q q' : ℕ → Bool) (t : ℕ) → ((k : ℕ) → k ≤ t → p k ≡ p' k) → ((k : ℕ) → k ≤ t → q k ≡ q' k) → since p q t ≡ since p' q' t
unfolding since
since_same p p' q q' zero hp hq = refl
since_same p p' q q' (suc t) hp hq =
    ap₂ ◌||◌ (hq (suc t) (omega arith))
    (ap₂ ◌&&◌ (hp (suc t) (omega arith)) (since_same p p' q q' t (λ k h. hp k (omega arith)) (λ k h. hq k (omega arith))))

pub inside_same : (f g : History) (t : ℕ) → Same t f g → inside f t ≡ inside g t
unfolding inside
inside_same f g t e = since_same _ _ _ _ t (λ k h. ap (λ (x : ℕ). not (is_leave x)) (e k h)) (λ k h. ap is_join (e k h))

pub liberal_same : (f g : History) (t : ℕ) → Same t f g → liberal f t ≡ liberal g t
unfolding liberal
liberal_same f g t e = since_same _ _ _ _ t (λ k h. ap (λ (x : ℕ). not (is_remove x)) (e k h)) (λ k h. ap (λ (x : ℕ). eqb x LA) (e k h))

module _ (m m' s s' : History) (t : ℕ) (em : Same t m m') (es : Same t s s') where
  up_to : (k : ℕ) → k ≤ t → (f g : History) → Same t f g → Same k f g
  up_to k h f g e i hi = e i (omega arith)

  free_same : (k : ℕ) → k ≤ t → not (strict m s k) ≡ not (strict m' s' k)
  free_same k h = ap₂ (λ (x y : ℕ). not (eqb x SL || eqb y SR)) (em k h) (es k h)

  add_same : (k : ℕ) → k ≤ t → by_add m s k ≡ by_add m' s' k
  unfolding by_add
  add_same k h = ap₂ (λ (x : ℕ) (y : Bool). is_add x && y) (es k h) (inside_same m m' k (up_to k h m m' em))

  join_same : (k : ℕ) → k ≤ t → by_join m s k ≡ by_join m' s' k
  unfolding by_join
  join_same k h = ap₂ (λ (x : ℕ) (y : Bool). eqb x LJ && y) (em k h) (liberal_same s s' k (up_to k h s s' es))

  pub grant_same : grant m s t ≡ grant m' s' t
  unfolding grant
  grant_same = ap₂ ◌||◌ (since_same _ _ _ _ t free_same add_same) (since_same _ _ _ _ t free_same join_same)
