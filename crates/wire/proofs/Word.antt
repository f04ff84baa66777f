-- A word and its bytes are one: what is written is read, a word has its bytes back, bytes have their word back. Assumes nothing.
use mathlib.Core.Path.{◌≡◌, refl, sym, ap, ◌∙◌}
use mathlib.Core.List.{List, [], ◌∷◌, ◌++◌}
use mathlib.Core.Logic.{◌⊎◌, ⊎_elim}
use Prim.Native.Nat.{ℕ, ◌+◌, ◌*◌, ◌/◌, ◌%◌, ◌≤◌, ◌<◌}
use native.Mathlib.Nat.{add-zero, add_assoc}
use native.Mathlib.Omega.{arith}
use lib.ListN.{length, take, drop}
use lib.Seq.{get_or-drop, get_or-take}
use Rattle.wire.specs.Word.{le32, bytes32}
use Rattle.wire.specs.Put.{put32}
use Rattle.wire.proofs.Put.{drop_put, put_before, put_behind}

pub length_bytes32 : (x : ℕ) → length (bytes32 x) ≡ 4
unfolding bytes32
length_bytes32 x = refl

-- the word at a place is the first word from there on, and is within any front that holds its bytes
pub le32_drop : (b : List ℕ) (n at : ℕ) → le32 (drop n b) at ≡ le32 b (n + at)
unfolding le32
le32_drop b n at = simp (get_or-drop, add_assoc)

pub le32_take : (b : List ℕ) (n at : ℕ) → at + 4 ≤ n → le32 (take n b) at ≡ le32 b at
unfolding le32
le32_take b n at h =
    let h0 : at < n = omega arith in
    let h1 : at + 1 < n = omega arith in
    let h2 : at + 2 < n = omega arith in
    let h3 : at + 3 < n = omega arith in
    rw (get_or-take n b at, get_or-take n b (at + 1), get_or-take n b (at + 2), get_or-take n b (at + 3))

-- a word's bytes are read as the word
pub word_of_bytes : (x : ℕ) (rest : List ℕ) → le32 (bytes32 x ++ rest) 0 ≡ x
unfolding le32 bytes32
word_of_bytes x rest = omega arith

low : (p k : ℕ) → p < 256 → (p + k * 256) % 256 ≡ p
low p k h = omega arith

-- four bytes are the bytes of their word
pub bytes_of_word : (p q r s : ℕ) (rest : List ℕ) → p < 256 → q < 256 → r < 256 → s < 256
    → bytes32 (le32 (p ∷ q ∷ r ∷ s ∷ rest) 0) ≡ p ∷ q ∷ r ∷ s ∷ []
unfolding le32 bytes32
bytes_of_word p q r s rest hp hq hr hs =
    let x : ℕ = p + q * 256 + r * 65536 + s * 16777216 in
    let from1 : x / 256 ≡ q + (r + s * 256) * 256 = omega arith in
    let from2 : x / 65536 ≡ r + s * 256 = omega arith in
    let byte0 : x % 256 ≡ p = omega arith in
    let byte1 : x / 256 % 256 ≡ q = rw from1 (low q (r + s * 256) hq) in
    let byte2 : x / 65536 % 256 ≡ r = rw from2 (low r s hr) in
    let byte3 : x / 16777216 ≡ s = omega arith in
    simp (byte0, byte1, byte2, byte3)

module _ (b : List ℕ) (at x : ℕ) (room : at + 4 ≤ length b) where
  fits : at + length (bytes32 x) ≤ length b
  fits = rw length_bytes32 room

  -- what was written is read
  pub read_written : le32 (put32 b at x) at ≡ x
  read_written =
      ap (le32 (put32 b at x)) (sym (add-zero at))
      ∙ sym (le32_drop (put32 b at x) at 0)
      ∙ ap (λ (l : List ℕ). le32 l 0) (drop_put b at (bytes32 x) fits)
      ∙ word_of_bytes x (drop (at + length (bytes32 x)) b)

  -- what was not written is read as it was
  pub read_elsewhere : (i : ℕ) → (i + 4 ≤ at) ⊎ (at + 4 ≤ i) → le32 (put32 b at x) i ≡ le32 b i
  unfolding le32
  read_elsewhere i = ⊎_elim
      (λ h.
      let stays = put_before b at (bytes32 x) fits in
      simp (stays i (omega arith), stays (i + 1) (omega arith), stays (i + 2) (omega arith), stays (i + 3) (omega arith)))
      (λ h.
      let e = length_bytes32 x in
      let stays = put_behind b at (bytes32 x) fits in
      simp (stays i (omega arith), stays (i + 1) (omega arith), stays (i + 2) (omega arith), stays (i + 3) (omega arith)))
