-- `parts::write_delivery` meets its contract: two words and the parts, one behind the other, are the delivery. Assumes nothing.
use mathlib.Core.Path.{◌≡◌, ap, ap₂, ◌∙◌}
use mathlib.Core.List.{List, ◌++◌}
use Prim.Native.Nat.{ℕ, ◌≤◌}
use native.Mathlib.Omega.{arith}
use lib.ListN.{length, drop, length-append}
use Rattle.wire.specs.Word.{bytes32}
use Rattle.wire.specs.Put.{put, put32}
use Rattle.wire.proofs.Word.{length_bytes32}
use Rattle.wire.proofs.Put.{put_front}
use Rattle.parts.specs.declared.Sums.{Sums}
use Rattle.parts.specs.Delivery.{parts, delivery_length, delivery_of}
use Rattle.parts.proofs.Head.{put_headed}
use Rattle.parts.proofs.write_delivery.Goals as goal

-- o1 and o2 are the buffer after the words, o3 after the parts
delivery-put : (b ss out o1 o2 o3 : List ℕ) (count total : ℕ) → count ≡ length ss → total ≡ delivery_length b ss → total ≤ length out
    → o1 ≡ put32 out 0 count → o2 ≡ put32 o1 4 total → o3 ≡ put o2 8 (parts b ss) → o3 ≡ delivery_of b ss ++ drop total out
delivery-put b ss out o1 o2 o3 count total ec et room e1 e2 e3 =
    let long : length (delivery_of b ss) ≡ total = simp (length-append, length_bytes32) (omega arith) in
    e3
    ∙ ap (λ (o : List ℕ). put o 8 (parts b ss)) (e2 ∙ ap (λ (o : List ℕ). put32 o 4 total) e1)
    ∙ put_headed out 0 count total (parts b ss) (omega arith)
    ∙ ap₂ (λ (x y : ℕ). put out 0 (bytes32 x ++ (bytes32 y ++ parts b ss))) ec et
    ∙ put_front out (delivery_of b ss)
    ∙ ap (λ (k : ℕ). delivery_of b ss ++ drop k out) long

pub returns : goal.returns
returns c =
    let pre = c.requires in
    delivery-put _ _ _ _ _ _ _ _ (ap (λ (x : Sums). x.count) pre.1) (ap (λ (x : Sums). x.total) pre.1) pre.2
    c.write32.ensures
    c.write32-2.ensures
    c.write_parts.ensures
