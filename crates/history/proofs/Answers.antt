-- What the answers of a group that agrees with its events say in the formula's words. Assumes nothing.
use mathlib.Core.Path.{◌≡◌, refl}
use mathlib.Core.Bool.{Bool, true, false, cond, true≢false}
use mathlib.Core.Logic.{⊎_elim, ◌↔◌}
use Prim.Native.Nat.{ℕ, ◌<◌}
use native.Mathlib.Numerals.{add-one}
use borrow.Author.Tests.{lt-leb}
use Rattle.base.proofs.Truth.{either}
use Rattle.rules.specs.Ranges.{models, sheets}
use Rattle.strip.specs.Good.{range}
use Rattle.event.specs.Carrier.{of_model, carriers}
use Rattle.bits.specs.Granted.{granted}
use Rattle.group.specs.Read.{Granted, Denied, read_answer}
use Rattle.group.specs.Request.{request_refusal}
use Rattle.group.specs.declared.Group.{Group}
use Rattle.group.proofs.Accepted.{accepted, not_refused}
use Rattle.history.specs.Run.{Reached}
use Rattle.history.specs.WellFormed.{side_of, WellFormed}
use Rattle.history.proofs.Agreed.{Agrees}
use Rattle.history.proofs.Requests.{accepted_good, good_accepted}
use Rattle.history.proofs.Sides.{of_side, carriers_range}

-- a read is granted exactly when the bit is set
granted_says : (b : Bool) → (cond b Granted Denied ≡ Granted) ↔ (b ≡ true)
granted_says true = (λ e. refl, λ e. refl)
granted_says false = (λ e. absurd (true≢false (cc e)), λ e. absurd (true≢false (cc e)))

pub read_granted : (g : Group) (m s : ℕ) → m < models → s < sheets → (read_answer g m s ≡ Granted) ↔ (granted g.grants m s ≡ true)
unfolding read_answer
read_granted g m s l b = simp (lt-leb _ _ l, lt-leb _ _ b) (granted_says (granted g.grants m s))

-- the side of a kind has the kind
own_side : (kind : ℕ) → of_side (side_of kind) kind ≡ true
own_side kind = ⊎_elim
    (λ (t : of_model kind ≡ true). simp t)
    (λ (f : of_model kind ≡ false). simp f)
    (either (of_model kind))

module _ (r : Reached) (a : Agrees r) (kind n : ℕ) where
  in_range : n < carriers kind → n < range (side_of kind)
  in_range h = rw (carriers_range (side_of kind) kind (own_side kind)) at h

  -- a request is accepted exactly when its event is well-formed
  pub accepts : (request_refusal r.group kind n ≡ 0) ↔ WellFormed r.group.closed r.events kind n
  accepts = (
    λ e.
        let p = accepted r.group kind n e in
        record {
          tick = p.tick;
          known = p.known;
          ranged = p.ranged;
          good = rw add-one (accepted_good r.group a.fits r.group.closed r.events kind n p.known p.ranged (side_of kind) (own_side kind) p
              (a.carried (side_of kind) n (in_range p.ranged)));
        },
    λ w. not_refused r.group kind n
        (good_accepted r.group a.fits r.group.closed r.events kind n w.known w.ranged (side_of kind)
        (a.carried (side_of kind) n (in_range w.ranged)) w.tick (rw add-one at w.good)),
  )
