-- What the operations on words do to a bit. Assumes nothing.
use mathlib.Core.Path.{◌≡◌, refl, sym, ap, ◌∙◌, subst}
use mathlib.Core.Bool.{Bool, true, false, not, ◌&&◌, ◌||◌}
use mathlib.Core.Logic.{◌⊎◌, inl, inr, ⊎_elim}
use Prim.Native.Nat.{ℕ, zero, suc, ◌+◌, ◌-◌, ◌/◌, ◌%◌, ◌^◌, ◌≤◌, ◌<◌, zero-le, suc-le-suc}
use native.Mathlib.Nat.{not-suc-le-zero, le_of_suc-le-suc, mod-lt, zero-lt-suc, pow-suc, lt_of_le_of_lt}
use native.Mathlib.Omega.{arith}
use lib.Dec.{eqb, T, eqb-suc-zero, eqb-zero-suc, eqb-suc-suc}
use lib.Pow.{shr-shr, pow-lt}
use lib.Bits.{bit_and, bit_or, and_shr, or_shr, and_mod, or_mod, and_mask, or_lt, and_le_l}
use Rattle.bits.specs.Bit.{width, bit, with_bit, after_word}

-- ---- and, or: one law for both, since each works on the digits one by one

module _ (op : ℕ → ℕ → ℕ) (on : Bool → Bool → Bool)
    (shr : (a b k : ℕ) → op a b / 2 ^ k ≡ op (a / 2 ^ k) (b / 2 ^ k))
    (rem : (a b k : ℕ) → op a b % 2 ^ k ≡ op (a % 2 ^ k) (b % 2 ^ k))
    (digit : (x y : ℕ) → x < 2 → y < 2 → eqb (op x y) 1 ≡ on (eqb x 1) (eqb y 1)) where
  digitwise : (a b i : ℕ) → bit (op a b) i ≡ on (bit a i) (bit b i)
  unfolding bit
  digitwise a b i =
      ap (λ (x : ℕ). eqb (x % 2) 1) (shr a b i)
      ∙ ap (λ (x : ℕ). eqb x 1) (rem (a / 2 ^ i) (b / 2 ^ i) 1)
      ∙ digit (a / 2 ^ i % 2) (b / 2 ^ i % 2) (mod-lt _ (zero-lt-suc 1)) (mod-lt _ (zero-lt-suc 1))

-- a statement on two digits has four cases
digits : (P : ℕ → ℕ → Type 0) → P 0 0 → P 0 1 → P 1 0 → P 1 1 → (x y : ℕ) → x < 2 → y < 2 → P x y
digits P a b c d zero zero hx hy = a
digits P a b c d zero (suc zero) hx hy = b
digits P a b c d (suc zero) zero hx hy = c
digits P a b c d (suc zero) (suc zero) hx hy = d
digits P a b c d (suc (suc x)) y hx hy = absurd (omega arith)
digits P a b c d zero (suc (suc y)) hx hy = absurd (omega arith)
digits P a b c d (suc zero) (suc (suc y)) hx hy = absurd (omega arith)

pub bit_and_lem : (a b i : ℕ) → bit (bit_and a b) i ≡ bit a i && bit b i
bit_and_lem = digitwise bit_and ◌&&◌ and_shr and_mod (digits (λ x y. eqb (bit_and x y) 1 ≡ eqb x 1 && eqb y 1) refl refl refl refl)

pub bit_or_lem : (a b i : ℕ) → bit (bit_or a b) i ≡ bit a i || bit b i
bit_or_lem = digitwise bit_or ◌||◌ or_shr or_mod (digits (λ x y. eqb (bit_or x y) 1 ≡ eqb x 1 || eqb y 1) refl refl refl refl)

-- ---- the lowest bit, and the bits of the half

pub bit_low : (w : ℕ) → bit w 0 ≡ eqb (w % 2) 1
unfolding bit
bit_low w = ap (λ (x : ℕ). eqb (x % 2) 1) (let h : w / 1 ≡ w = omega arith in h)

pub bit_half : (w i : ℕ) → bit w (suc i) ≡ bit (w / 2) i
unfolding bit
bit_half w i = ap (λ (x : ℕ). eqb (x % 2) 1) (ap (λ (k : ℕ). w / 2 ^ k) (omega arith) ∙ sym (shr-shr w 1 i))

pub bit_zero : (i : ℕ) → bit 0 i ≡ false
bit_zero zero = bit_low 0
bit_zero (suc i) = bit_half 0 i ∙ bit_zero i

-- ---- not, at n bits

flip : (x y : ℕ) → x + y ≡ 1 → eqb x 1 ≡ not (eqb y 1)
flip zero y h = ap (λ (k : ℕ). not (eqb k 1)) (let e : 1 ≡ y = omega arith in e)
flip (suc zero) y h = ap (λ (k : ℕ). not (eqb k 1)) (let e : 0 ≡ y = omega arith in e)
flip (suc (suc x)) y h = absurd (omega arith)

pub bit_not : (n a i : ℕ) → a < 2 ^ n → i < n → bit ((2 ^ n - 1) - a) i ≡ not (bit a i)
bit_not zero a i ha hi = absurd (not-suc-le-zero hi)
bit_not (suc n) a zero ha hi =
    let e = pow-suc 2 n in
    bit_low ((2 ^ suc n - 1) - a) ∙ flip (((2 ^ suc n - 1) - a) % 2) (a % 2) (omega arith) ∙ ap not (sym (bit_low a))
bit_not (suc n) a (suc i) ha hi =
    let e = pow-suc 2 n in
    bit_half ((2 ^ suc n - 1) - a) i
    ∙ ap (λ (x : ℕ). bit x i) (let h : ((2 ^ suc n - 1) - a) / 2 ≡ (2 ^ n - 1) - a / 2 = omega arith in h)
    ∙ bit_not n (a / 2) i (omega arith) (le_of_suc-le-suc hi)
    ∙ ap not (sym (bit_half a i))

-- no bit past a number's width
pub bit_above : (n a i : ℕ) → a < 2 ^ n → n ≤ i → bit a i ≡ false
bit_above zero a i ha hi = let e : a ≡ 0 = omega arith in ap (λ (x : ℕ). bit x i) e ∙ bit_zero i
bit_above (suc n) a zero ha hi = absurd (not-suc-le-zero hi)
bit_above (suc n) a (suc i) ha hi =
    let e = pow-suc 2 n in
    bit_half a i ∙ bit_above n (a / 2) i (omega arith) (le_of_suc-le-suc hi)

-- below, or not
split : (a b : ℕ) → (a < b) ⊎ (b ≤ a)
split a zero = inr zero-le
split zero (suc b) = inl (suc-le-suc zero-le)
split (suc a) (suc b) = ⊎_elim (λ p. inl (suc-le-suc p)) (λ q. inr (suc-le-suc q)) (split a b)

-- `a & !b` at n bits
pub bit_and_not : (n a b i : ℕ) → a < 2 ^ n → b < 2 ^ n → bit (bit_and a ((2 ^ n - 1) - b)) i ≡ bit a i && not (bit b i)
bit_and_not n a b i ha hb =
    bit_and_lem a ((2 ^ n - 1) - b) i
    ∙ ⊎_elim
    (λ h. ap (λ (x : Bool). bit a i && x) (bit_not n b i hb h))
    (λ h. ap (λ (x : Bool). x && bit ((2 ^ n - 1) - b) i) (bit_above n a i ha h) ∙ ap (λ (x : Bool). x && not (bit b i)) (sym (bit_above n a i ha h)))
    (split i n)

-- ---- a bit set, a bit looked at

bit_one : (m i : ℕ) → bit (2 ^ m) i ≡ eqb i m
bit_one zero zero = bit_low 1
bit_one zero (suc i) = bit_half 1 i ∙ bit_zero i ∙ sym (eqb-suc-zero i)
bit_one (suc m) zero =
    let e = pow-suc 2 m in
    bit_low (2 ^ suc m) ∙ ap (λ (x : ℕ). eqb x 1) (let h : 2 ^ suc m % 2 ≡ 0 = omega arith in h) ∙ sym (eqb-zero-suc m)
bit_one (suc m) (suc i) =
    let e = pow-suc 2 m in
    bit_half (2 ^ suc m) i ∙ ap (λ (x : ℕ). bit x i) (let h : 2 ^ suc m / 2 ≡ 2 ^ m = omega arith in h)
    ∙ bit_one m i ∙ sym (eqb-suc-suc i m)

pub bit_with : (w m i : ℕ) → bit (with_bit w m) i ≡ bit w i || eqb i m
bit_with w m i = bit_or_lem w (2 ^ m) i ∙ ap (λ (x : Bool). bit w i || x) (bit_one m i)

pub with_lt : (n w m : ℕ) → w < 2 ^ n → m < n → with_bit w m < 2 ^ n
with_lt n w m hw hm = or_lt n w (2 ^ m) hw (pow-lt hm)

-- `(w >> m) & 1 == 1`
pub bit_test : (w m : ℕ) → eqb (bit_and (w / 2 ^ m) 1) 1 ≡ bit w m
unfolding bit
bit_test w m = ap (λ (x : ℕ). eqb x 1) (and_mask (w / 2 ^ m) 1)

-- ---- a word after a tick

pub bit_after : (was gone come i : ℕ) → was < 2 ^ width → gone < 2 ^ width
    → bit (after_word was gone come) i ≡ bit was i && not (bit gone i) || bit come i
bit_after was gone come i hw hg =
    bit_or_lem (bit_and was ((2 ^ width - 1) - gone)) come i ∙ ap (λ (x : Bool). x || bit come i) (bit_and_not width was gone i hw hg)

-- a part of a word fits where the word does
pub and_lt : (n a b : ℕ) → a < 2 ^ n → bit_and a b < 2 ^ n
and_lt n a b h = lt_of_le_of_lt (and_le_l a b) h

pub after_lt : (was gone come : ℕ) → was < 2 ^ width → come < 2 ^ width → after_word was gone come < 2 ^ width
after_lt was gone come hw hc = or_lt width _ come (and_lt width was _ hw) hc

-- ---- two numbers with the same bits are one

same_digit : (x y : ℕ) → x < 2 → y < 2 → eqb x 1 ≡ eqb y 1 → x ≡ y
same_digit = digits (λ x y. eqb x 1 ≡ eqb y 1 → x ≡ y) (λ e. refl) (λ e. absurd (let z : true ≡ false = sym e in subst T z tt)) (λ e. absurd (subst T e tt)) (λ e. refl)

pub bit_ext : (n a b : ℕ) → a < 2 ^ n → b < 2 ^ n → ((i : ℕ) → i < n → bit a i ≡ bit b i) → a ≡ b
bit_ext zero a b ha hb h = omega arith
bit_ext (suc n) a b ha hb h =
    let e = pow-suc 2 n in
    let top : a / 2 ≡ b / 2 = bit_ext n (a / 2) (b / 2) (omega arith) (omega arith) (λ i hi. sym (bit_half a i) ∙ h (suc i) (suc-le-suc hi) ∙ bit_half b i) in
    let low : a % 2 ≡ b % 2 = same_digit (a % 2) (b % 2) (mod-lt a (zero-lt-suc 1)) (mod-lt b (zero-lt-suc 1)) (sym (bit_low a) ∙ h 0 (zero-lt-suc n) ∙ bit_low b) in
    omega arith
