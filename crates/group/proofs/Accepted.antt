-- A request is accepted exactly where none of the refusals' lines is met. Assumes nothing.
use mathlib.Core.Path.{◌≡◌, refl}
use mathlib.Core.Bool.{Bool, true, false, not, cond}
use Prim.Native.Nat.{ℕ}
use native.Mathlib.Omega.{arith}
use lib.Dec.{ltb, leb}
use borrow.Author.Tests.{ltb-false, leb-false, le-ltb, lt-leb}
use Rattle.rules.specs.Kinds.{LR}
use Rattle.rules.specs.Ranges.{ticks}
use Rattle.rules.specs.Refusals.{bad_kind, bad_number, no_tick_left, second_event, already_in, not_in}
use Rattle.group.specs.Accepted.{RequestAccepted}
use Rattle.event.specs.Carrier.{carriers, entering}
use Rattle.group.specs.Marks.{carrier_marked, carrier_in}
use Rattle.group.specs.Request.{request_refusal}
use Rattle.group.specs.declared.Group.{Group}

-- the order of refusals, over any tests
abbrev chain : Bool → Bool → Bool → Bool → Bool → Bool → ℕ
chain kind number tick marked enters inside =
    cond kind bad_kind
    (cond number bad_number
    (cond tick no_tick_left
    (cond marked second_event
    (cond enters
    (cond inside already_in 0)
    (cond inside 0 not_in)))))

record Passed (a b c d e i : Bool) : Type 0 where
  kind : a ≡ false
  number : b ≡ false
  tick : c ≡ false
  first : d ≡ false
  alternates : i ≡ not e

passed : (a b c d e i : Bool) → chain a b c d e i ≡ 0 → Passed a b c d e i
passed true b c d e i h = absurd (omega arith)
passed false true c d e i h = absurd (omega arith)
passed false false true d e i h = absurd (omega arith)
passed false false false true e i h = absurd (omega arith)
passed false false false false true true h = absurd (omega arith)
passed false false false false true false h = record { kind = refl; number = refl; tick = refl; first = refl; alternates = refl }
passed false false false false false true h = record { kind = refl; number = refl; tick = refl; first = refl; alternates = refl }
passed false false false false false false h = absurd (omega arith)

enters_last : (e : Bool) → cond e (cond (not e) already_in 0) (cond (not e) 0 not_in) ≡ 0
enters_last true = refl
enters_last false = refl

module _ (g : Group) (kind n : ℕ) where
  pub accepted : request_refusal g kind n ≡ 0 → RequestAccepted g kind n
  unfolding request_refusal
  accepted h =
      let p = passed (ltb LR kind) (leb (carriers kind) n) (leb ticks g.closed) (carrier_marked g kind n) (entering kind) (carrier_in g kind n) h in
      record {
        known = ltb-false _ _ p.kind;
        ranged = leb-false _ _ p.number;
        tick = leb-false _ _ p.tick;
        first = p.first;
        alternates = p.alternates;
      }

  pub not_refused : RequestAccepted g kind n → request_refusal g kind n ≡ 0
  unfolding request_refusal
  not_refused a =
      simp (le-ltb _ _ a.known, lt-leb _ _ a.ranged, lt-leb _ _ a.tick, a.first, a.alternates) (enters_last (entering kind))
