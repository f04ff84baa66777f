-- The count of a word's ones is the count of its places whose bit is set. Assumes nothing.
use mathlib.Core.Path.{◌≡◌, refl, sym, ap, ap₂, ◌∙◌}
use mathlib.Core.Bool.{Bool, cond}
use Prim.Native.Nat.{ℕ, zero, suc, ◌+◌, ◌/◌, ◌%◌, ◌^◌, ◌<◌}
use native.Mathlib.Nat.{mod-lt, zero-lt-suc, pow-suc}
use native.Mathlib.Omega.{arith}
use lib.Dec.{eqb}
use lib.Count.{ones, ones_step}
use Rattle.base.specs.HowMany.{how_many}
use Rattle.base.proofs.HowMany.{how_many_ext, how_many_first}
use Rattle.bits.specs.Bit.{bit}
use Rattle.bits.proofs.Bit.{bit_low, bit_half}

digit : (x : ℕ) → x < 2 → x ≡ cond (eqb x 1) 1 0
digit zero h = refl
digit (suc zero) h = refl
digit (suc (suc x)) h = absurd (omega arith)

-- the lowest digit is counted apart on both sides, and the rest is the half
pub ones_how_many : (n w : ℕ) → w < 2 ^ n → ones w ≡ how_many (bit w) n
unfolding ones how_many
ones_how_many zero w h = ap ones (let e : w ≡ 0 = omega arith in e)
ones_how_many (suc n) w h =
    let e = pow-suc 2 n in
    let rest : ones (w / 2) ≡ how_many (λ k. bit w (suc k)) n =
    ones_how_many n (w / 2) (omega arith) ∙ how_many_ext (bit (w / 2)) (λ k. bit w (suc k)) n (λ k hk. sym (bit_half w k)) in
    let low : w % 2 ≡ cond (bit w 0) 1 0 = digit (w % 2) (mod-lt w (zero-lt-suc 1)) ∙ ap (λ (b : Bool). cond b 1 0) (sym (bit_low w)) in
    ones_step w ∙ ap₂ (λ (x y : ℕ). x + y) low rest ∙ sym (how_many_first (bit w) n)
