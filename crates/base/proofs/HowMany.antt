-- Laws of `how_many`. Assumes nothing.
use mathlib.Core.Path.{◌≡◌, refl, ap₂}
use mathlib.Core.Bool.{Bool, cond}
use Prim.Native.Nat.{ℕ, zero, suc, ◌+◌, ◌<◌}
use native.Mathlib.Omega.{arith}
use Rattle.base.specs.HowMany.{how_many}

-- two tests that agree below n count alike
pub how_many_ext : (p q : ℕ → Bool) (n : ℕ) → ((k : ℕ) → k < n → p k ≡ q k) → how_many p n ≡ how_many q n
unfolding how_many
how_many_ext p q zero e = refl
how_many_ext p q (suc n) e = ap₂ (λ (x : ℕ) (b : Bool). x + cond b 1 0) (how_many_ext p q n (λ k h. e k (omega arith))) (e n (omega arith))

-- the first number counted apart
pub how_many_first : (p : ℕ → Bool) (n : ℕ) → how_many p (suc n) ≡ cond (p 0) 1 0 + how_many (λ k. p (suc k)) n
unfolding how_many
how_many_first p zero = omega arith
how_many_first p (suc n) =
    let e : how_many p (suc n) ≡ cond (p 0) 1 0 + how_many (λ k. p (suc k)) n = how_many_first p n in
    omega arith
