-- The promise of `add_decimal` fixes the buffer and the place behind the digits, since a number has one fewest number of digits. Assumes nothing.
use mathlib.Core.Path.{◌≡◌, sym, ap, ◌∙◌}
use mathlib.Core.List.{List}
use Prim.Native.Nat.{ℕ, ◌-◌, ◌<◌}
use native.Mathlib.Nat.{pow-le-pow_right}
use native.Mathlib.Omega.{arith}
use Rattle.text.specs.Digits.{last_digits, IsDigitCount}
use Rattle.text.specs.Text.{added, added_end, AddsDecimal}

-- fewer digits than the fewest don't hold the number
not_fewer : (n j k : ℕ) → IsDigitCount n j → IsDigitCount n k → j < k → ⊥
not_fewer n j k f g h = omega (arith, f.1, g.2 (omega (arith, f.0)), pow-le-pow_right {n = 10} (omega arith) {i = j} {j = k - 1} (omega arith))

fewest_once : (n j k : ℕ) → IsDigitCount n j → IsDigitCount n k → j ≡ k
fewest_once n j k f g = omega (arith, not_fewer n j k f g, not_fewer n k j g f)

module _ (was : List ℕ) (at n : ℕ) (now now' : List ℕ) (end end' : ℕ) (p : AddsDecimal was at n now end) (q : AddsDecimal was at n now' end') where
  same : p.places ≡ q.places
  same = fewest_once n p.places q.places p.fewest q.fewest

  pub one_decimal : (now ≡ now') × (end ≡ end')
  one_decimal = (
    p.buffer ∙ ap (λ (k : ℕ). added was at (last_digits k n)) same ∙ sym q.buffer,
    p.behind ∙ ap (λ (k : ℕ). added_end was at (last_digits k n)) same ∙ sym q.behind,
  )
