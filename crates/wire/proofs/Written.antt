-- A word's bytes, copied over the part of a list where they are to stand, are put there. Assumes nothing.
use mathlib.Core.Path.{◌≡◌, ap, ◌∙◌}
use mathlib.Core.List.{List, [], ◌∷◌}
use Prim.Native.Nat.{ℕ, ◌+◌, ◌-◌, ◌/◌, ◌%◌, ◌^◌, ◌<◌}
use native.Mathlib.Omega.{arith}
use borrow.Rule.Slice.PartMut.{put_mid}
use Rattle.std.specs.Int.{w32, to_le_bytes}
use Rattle.wire.specs.Word.{bytes32}
use Rattle.wire.specs.Put.{put32}
use Rattle.wire.proofs.Put.{put_lent}

-- the library's bytes of a word: its last one needs no rest
bytes_are : (x : ℕ) → x < 2 ^ 32 → to_le_bytes w32 x ≡ bytes32 x
unfolding bytes32
bytes_are x h = ap (λ (s : ℕ). x % 256 ∷ x / 256 % 256 ∷ x / 65536 % 256 ∷ s ∷ []) (let e : x / 16777216 % 256 ≡ x / 16777216 = omega arith in e)

pub written : (b l : List ℕ) (at x : ℕ) → l ≡ to_le_bytes w32 x → x < 2 ^ 32 → put_mid at ((at + 4) - at) b l ≡ put32 b at x
unfolding bytes32
written b l at x e h =
    let long : 4 ≡ (at + 4) - at = omega arith in
    ap (put_mid at ((at + 4) - at) b) (e ∙ bytes_are x h) ∙ put_lent b (bytes32 x) at (at + 4) long
