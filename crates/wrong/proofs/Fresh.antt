-- A fresh group grants nothing, so its delivery from a store of no sheets is the two words alone. Assumes nothing.
use mathlib.Core.Path.{◌≡◌, refl, ap, ap₂, ◌∙◌}
use mathlib.Core.Bool.{Bool, cond}
use mathlib.Core.List.{List, [], ◌∷◌, ◌++◌}
use Prim.Native.Nat.{ℕ, zero, suc, ◌≤◌, ◌<◌}
use native.Mathlib.Omega.{arith}
use lib.ListN.{length, drop}
use Rattle.base.proofs.First.{first_none}
use Rattle.rules.specs.Ranges.{sheets}
use Rattle.wire.specs.Word.{le32, bytes32}
use Rattle.group.specs.Fresh.{fresh_group}
use Rattle.group.proofs.Fresh.{fresh_granted}
use Rattle.store.specs.Store.{good_store}
use Rattle.parts.specs.Delivery.{parts, delivery_length, delivery_of, granted_sheets}
use Rattle.parts.specs.Fault.{faulty, first_faulty}
use Rattle.parts.specs.Granted.{granted_below}
use Rattle.delivery.specs.Answer.{answer, written, buffer_after}
use Rattle.delivery.specs.Delivery.{Delivery, Delivered}
use Rattle.delivery.proofs.Answer.{answer_delivered}

abbrev pub nobody : List ℕ
nobody = (fresh_group 0).grants

-- "a store of 8 bytes with n 0"
abbrev pub store : List ℕ
store = 8 ∷ 0 ∷ 0 ∷ 0 ∷ 0 ∷ 0 ∷ 0 ∷ 0 ∷ []

module _ (m : ℕ) where
  none_below : (k : ℕ) → granted_below nobody m k ≡ []
  unfolding granted_below
  none_below zero = refl
  none_below (suc k) = ap₂ (λ (l : List ℕ) (b : Bool). l ++ cond b (k ∷ []) []) (none_below k) (fresh_granted 0 m k)

  none_faulty : first_faulty nobody m store ≡ sheets
  unfolding faulty
  none_faulty = first_none (faulty nobody m store) sheets (λ k l. simp (fresh_granted 0 m k))

  delivery_empty : delivery_length store (granted_sheets nobody m) ≡ 8
  unfolding parts
  delivery_empty = ap (delivery_length store) (none_below sheets)

  pub fresh_delivers : m < 64 → (room : ℕ) → 8 ≤ room → answer nobody m store room ≡ Delivered 8
  unfolding good_store le32
  fresh_delivers known room h =
      answer_delivered nobody m store room known refl (omega (arith, none_faulty)) (omega (arith, delivery_empty)) ∙ ap Delivered delivery_empty

  pub fresh_buffer : m < 64 → (out : List ℕ) → 8 ≤ length out → buffer_after nobody m store out ≡ bytes32 0 ++ (bytes32 8 ++ drop 8 out)
  unfolding parts bytes32
  fresh_buffer known out h =
      ap (λ (d : Delivery). written d (delivery_of store (granted_sheets nobody m)) out) (fresh_delivers known (length out) h)
      ∙ ap (λ (l : List ℕ). delivery_of store l ++ drop 8 out) (none_below sheets)
