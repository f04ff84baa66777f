-- Two words and a lent part, one behind the other, are the sheet's part.
use mathlib.Core.Path.{◌≡◌, ap, ap₂, ◌∙◌}
use mathlib.Core.List.{List, ◌++◌}
use Prim.Native.Nat.{ℕ, ◌+◌, ◌-◌, ◌≤◌}
use native.Mathlib.Omega.{arith}
use borrow.Rule.Slice.PartMut.{put_mid}
use lib.ListN.{length, take, drop, length-drop}
use lib.Seq.{length-take-le}
use Rattle.wire.specs.Word.{bytes32}
use Rattle.wire.specs.Put.{put, put32}
use Rattle.wire.proofs.Put.{put_lent}
use Rattle.store.specs.Entry.{offset, sheet_length}
use Rattle.parts.specs.Delivery.{sheet_bytes, part}
use Rattle.parts.proofs.Head.{put_headed}
use Rattle.parts.proofs.Parts.{length_part}
use Rattle.parts.proofs.write_part.Goals as goal

-- o1 and o2 are the buffer after the words, bytes what was copied
part-put : (b out o1 o2 bytes : List ℕ) (s from z : ℕ) → from ≡ offset b s → z ≡ sheet_length b s
    → offset b s + sheet_length b s ≤ length b → 8 + sheet_length b s ≤ length out
    → o1 ≡ put32 out 0 s → o2 ≡ put32 o1 4 z → bytes ≡ take (from + z - from) (drop from b)
    → put_mid 8 (8 + z - 8) o2 bytes ≡ put out 0 (part b s)
unfolding part sheet_bytes
part-put b out o1 o2 bytes s from z ef ez inside room e1 e2 eb =
    let count : from + z - from ≡ sheet_length b s = omega arith in
    let same : bytes ≡ sheet_bytes b s = eb ∙ ap₂ (λ (k n : ℕ). take k (drop n b)) count ef in
    let left : sheet_length b s ≤ length (drop (offset b s) b) = simp length-drop (omega arith) in
    let long : length bytes ≡ sheet_length b s = ap length same ∙ length-take-le (sheet_length b s) (drop (offset b s) b) left in
    put_lent o2 bytes 8 (8 + z) (omega arith)
    ∙ ap (λ (o : List ℕ). put o 8 bytes) (e2 ∙ ap (λ (o : List ℕ). put32 o 4 z) e1)
    ∙ put_headed out 0 s z bytes (omega arith)
    ∙ ap₂ (λ (n : ℕ) (l : List ℕ). put out 0 (bytes32 s ++ (bytes32 n ++ l))) ez same

pub returns : goal.returns
returns c =
    let long = c.length_of-length in
    let inside = c.requires.1 in (
      omega (arith, long.ensures.0, length_part c.args.store.now c.args.sheet inside),
      part-put _ _ _ _ _ _ _ _ c.offset_of-from.ensures.0 long.ensures.0 inside c.requires.2 c.write32.ensures c.write32-2.ensures c.copy.ensures,
    )
