-- Two answers that meet the promise of a delivery are equal, and so are the buffers that they leave. Assumes nothing.
use mathlib.Core.Path.{◌≡◌, sym, ap, ◌∙◌}
use mathlib.Core.List.{List}
use Prim.Native.Nat.{ℕ}
use lib.ListN.{length}
use Rattle.std.specs.Prelude.{Result, Ok, Err}
use Rattle.rules.specs.declared.refusal.Refusal.{Refusal}
use Rattle.rules.proofs.Told.{refusal_once}
use Rattle.delivery.specs.Delivery.{delivery_told}
use Rattle.delivery.specs.Answer.{Delivers, delivery_number, delivery_place, delivered_length, buffer_after}

-- two answers that are the same in numbers are the same
told_apart : (r r' : Result ℕ Refusal) → delivery_told r ≡ delivery_told r' → r ≡ r'
told_apart (Ok n) (Ok k) e = ap Ok (ap delivered_length e)
told_apart (Ok n) (Err refusal) e = cc
told_apart (Err refusal) (Ok k) e = cc
told_apart (Err refusal) (Err other) e = ap Err (refusal_once refusal other (ap delivery_number e) (ap delivery_place e))

module _ (grants : List ℕ) (m : ℕ) (b out : List ℕ) where
  -- what the promise says of an answer and of the buffer after it
  abbrev pub Promised : Result ℕ Refusal → List ℕ → Type 0
  Promised r after = Delivers grants m b (length out) (delivery_told r) × (after ≡ buffer_after grants m b out)

  pub once : (r r' : Result ℕ Refusal) (after after' : List ℕ) → Promised r after → Promised r' after' → (r ≡ r') × (after ≡ after')
  once r r' after after' p p' = (told_apart r r' (p.0.answer ∙ sym p'.0.answer), p.1 ∙ sym p'.1)
