-- Two words and what follows them: put one after the other they are put at once, and each is read back. A delivery begins so, and so does each of its parts. Assumes nothing.
use mathlib.Core.Path.{◌≡◌, sym, ap, ◌∙◌}
use mathlib.Core.List.{List, ◌++◌, append_assoc}
use Prim.Native.Nat.{ℕ, ◌+◌, ◌≤◌}
use native.Mathlib.Omega.{arith}
use lib.ListN.{length, drop, length-append}
use lib.Seq.{drop_at}
use Rattle.wire.specs.Word.{le32, bytes32}
use Rattle.wire.specs.Put.{put, put32}
use Rattle.wire.proofs.Word.{length_bytes32, le32_drop, word_of_bytes}
use Rattle.wire.proofs.Put.{put_next}

pub put_headed : (d : List ℕ) (at x y : ℕ) (l : List ℕ) → at + (8 + length l) ≤ length d
    → put (put32 (put32 d at x) (at + 4) y) (at + 8) l ≡ put d at (bytes32 x ++ (bytes32 y ++ l))
put_headed d at x y l room =
    let head : List ℕ = bytes32 x ++ bytes32 y in
    let one = length_bytes32 x in
    let two : length head ≡ 8 = simp (length-append, length_bytes32) in
    let words : put32 (put32 d at x) (at + 4) y ≡ put d at head =
    ap (λ (k : ℕ). put (put32 d at x) (at + k) (bytes32 y)) (sym one) ∙ put_next d at (bytes32 x) (omega arith) (bytes32 y) in
    ap (λ (z : List ℕ). put z (at + 8) l) words
    ∙ ap (λ (k : ℕ). put (put d at head) (at + k) l) (sym two)
    ∙ put_next d at head (omega arith) l
    ∙ ap (put d at) (append_assoc (bytes32 x) (bytes32 y) l)

module _ (x y : ℕ) (l : List ℕ) where
  abbrev headed : List ℕ
  headed = bytes32 x ++ (bytes32 y ++ l)

  pub read_first : le32 headed 0 ≡ x
  read_first = word_of_bytes x (bytes32 y ++ l)

  pub read_second : le32 headed 4 ≡ y
  read_second =
      sym (le32_drop headed 4 0)
      ∙ ap (λ (z : List ℕ). le32 z 0) (drop_at (bytes32 x) (bytes32 y ++ l) 4 (length_bytes32 x))
      ∙ word_of_bytes y l

  pub drop_head : drop 8 headed ≡ l
  drop_head =
      ap (drop 8) (sym (append_assoc (bytes32 x) (bytes32 y) l))
      ∙ drop_at (bytes32 x ++ bytes32 y) l 8 (simp (length-append, length_bytes32))
