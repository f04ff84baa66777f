-- A statement on the kinds, case by case. Assumes nothing.
use Prim.Native.Nat.{ℕ, zero, suc, ◌≤◌}
use native.Mathlib.Omega.{arith}
use Rattle.rules.specs.Kinds.{SJ, LJ, SL, LL, SA, LA, SR, LR}

pub each_kind : (P : ℕ → Type 0) → P SJ → P LJ → P SL → P LL → P SA → P LA → P SR → P LR → (k : ℕ) → k ≤ LR → P k
each_kind P a b c d e f g h zero l = a
each_kind P a b c d e f g h (suc zero) l = b
each_kind P a b c d e f g h (suc (suc zero)) l = c
each_kind P a b c d e f g h (suc (suc (suc zero))) l = d
each_kind P a b c d e f g h (suc (suc (suc (suc zero)))) l = e
each_kind P a b c d e f g h (suc (suc (suc (suc (suc zero))))) l = f
each_kind P a b c d e f g h (suc (suc (suc (suc (suc (suc zero)))))) l = g
each_kind P a b c d e f g h (suc (suc (suc (suc (suc (suc (suc zero))))))) l = h
each_kind P a b c d e f g h (suc (suc (suc (suc (suc (suc (suc (suc k)))))))) l = absurd (omega arith)
