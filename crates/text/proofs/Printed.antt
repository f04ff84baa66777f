-- The digits that `add_digits` writes in place were added, and those that `add_decimal` adds are those that `{}` writes. Assumes nothing.
use mathlib.Core.Path.{◌≡◌, refl, sym, ap, ◌∙◌}
use mathlib.Core.Bool.{false}
use mathlib.Core.List.{List, [], ◌∷◌, ◌++◌}
use Prim.Native.Nat.{ℕ, zero, suc, ◌+◌, ◌-◌, ◌/◌, ◌%◌, ◌^◌, ◌≤◌, ◌<◌}
use native.Mathlib.Numerals.{add-one, sub-one}
use native.Mathlib.Omega.{arith}
use lib.ListN.{length, take, drop, length-append}
use lib.Seq.{take_at}
use borrow.Rule.Slice.PartMut.{put_mid}
use borrow.Author.Tests.{le-ltb}
use Rattle.std.specs.Fmt.{decimal}
use Rattle.std.specs.Str.{IsUtf8}
use Rattle.std.proofs.lemmas.Fmt.{decimal_digit, decimal_step, length-decimal-le, IsAscii-decimal}
use Rattle.std.proofs.lemmas.List.{take_all}
use Rattle.std.proofs.lemmas.Str.{IsUtf8-from_ascii}
use Rattle.wire.specs.Put.{put}
use Rattle.wire.proofs.Put.{put_front, put_lent}
use Rattle.text.specs.Digits.{last_digits, IsDigitCount}
use Rattle.text.specs.Text.{full, added, added_end, AddsDecimal}

pub digits_length : (k n : ℕ) → length (last_digits k n) ≡ k
digits_length zero n = refl
digits_length (suc k) n = simp (length-append, digits_length k (n / 10), add-one)

-- a part of a buffer whose first k bytes are the digits, and which has no more, is put
pub digits_put : (d l : List ℕ) (at k n : ℕ) → length l ≡ k → take k l ≡ last_digits k n → put_mid at (at + k - at) d l ≡ put d at (last_digits k n)
digits_put d l at k n whole digits = put_lent d l at (at + k) (omega (arith, whole)) ∙ ap (λ (x : List ℕ). put d at x) (sym (take_all k l (omega (arith, whole))) ∙ digits)

pub digits_printed : (k n : ℕ) → IsDigitCount n k → n < 2 ^ 64 → last_digits k n ≡ decimal n
digits_printed zero n f small = absurd (omega (arith, f.0))
digits_printed (suc zero) n f small =
    let one : n % 10 ≡ n = omega (arith, f.1) in
    ap (λ (d : ℕ). (48 + d) ∷ []) one ∙ sym (decimal_digit n (omega (arith, f.1)))
digits_printed (suc (suc k)) n f small =
    let most : 10 ^ suc k ≤ n = simp sub-one at f.2 (omega arith) in
    ap (λ (ds : List ℕ). ds ++ ((48 + n % 10) ∷ [])) (digits_printed (suc k) (n / 10) (omega arith, omega (arith, f.1), λ _. simp sub-one (omega (arith, most))) (omega arith))
    ∙ sym (decimal_step n (omega (arith, most)) small)

-- at the front of a buffer that has room for any number
pub number_printed : (was : List ℕ) (k n : ℕ) → 20 ≤ length was → IsDigitCount n k → n < 2 ^ 64 → take (added_end was 0 (last_digits k n)) (added was 0 (last_digits k n)) ≡ decimal n
number_printed was k n room f small =
    let text : List ℕ = last_digits k n in
    let same : text ≡ decimal n = digits_printed k n f small in
    let short : length text ≤ 20 = omega (arith, ap (λ (l : List ℕ). length l) same, length-decimal-le 20 n (omega arith) (omega arith) small) in
    let fits : full was 0 text ≡ false = le-ltb (length was) (0 + length text) (omega arith) in
    simp (fits, put_front) (take_at text (drop (length text) was) (0 + length text) (omega arith)) ∙ same

pub number_text : (was now : List ℕ) (n end : ℕ) → 20 ≤ length was → n < 2 ^ 64 → AddsDecimal was 0 n now end → IsUtf8 (take end now)
number_text was now n end room small adds = rw (adds.behind, adds.buffer, number_printed was adds.places n room adds.fewest small) (IsUtf8-from_ascii (decimal n) (IsAscii-decimal n small))
