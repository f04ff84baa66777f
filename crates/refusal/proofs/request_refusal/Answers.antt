-- `refusal::request_refusal` meets its contract: past the ranges the four tests are those of the definition, in its order.
use Rattle.std.proofs.Common.{◌≡◌, ◌≤◌, ◌<◌, sym, arith}
use mathlib.Core.Bool.{cond}
use lib.Dec.{leb}
use borrow.Author.Tests.{lt-ltb, le-ltb, le-leb, lt-leb}
use Rattle.rules.specs.Kind.{kind_number}
use Rattle.rules.specs.Kinds.{LR}
use Rattle.rules.specs.Ranges.{ticks}
use Rattle.rules.specs.Refusals.{no_tick_left, second_event, already_in, not_in}
use Rattle.rules.specs.declared.kind.Kind.{Kind}
use Rattle.rules.specs.declared.kind.Kind.TheVariants.{SJ, LJ, SL, LL, SA, LA, SR, LR as LR'}
use Rattle.event.specs.Carrier.{carriers, entering}
use Rattle.group.specs.Marks.{carrier_marked, carrier_in}
use Rattle.group.specs.Request.{request_refusal}
use Rattle.refusal.proofs.request_refusal.Goals as goal
use Rattle.refusal.proofs.request_refusal.Goals.{Else-number-carriers_of, After-carrier_in}

known : (k : Kind) → kind_number k ≤ LR
known SJ = omega arith
known LJ = omega arith
known SL = omega arith
known LL = omega arith
known SA = omega arith
known LA = omega arith
known SR = omega arith
known LR' = omega arith

-- what is left of the order where the kind and the number are in range
in_range : (c : Else-number-carriers_of) → request_refusal c.args.group.now c.args.kind c.args.number
    ≡ cond (leb ticks c.args.group.now.closed) no_tick_left
    (cond (carrier_marked c.args.group.now (kind_number c.in-Ok.known) c.args.number) second_event
    (cond (entering c.args.kind)
    (cond (carrier_in c.args.group.now (kind_number c.in-Ok.known) c.args.number) already_in 0)
    (cond (carrier_in c.args.group.now (kind_number c.in-Ok.known) c.args.number) 0 not_in)))
unfolding request_refusal
in_range c =
    let kind : c.args.kind ≤ LR = omega (arith, c.in-Ok.ensures, known c.in-Ok.known) in
    let number : c.args.number < carriers c.args.kind = omega (arith, c.carriers_of.ensures) in
    rw c.in-Ok.ensures (simp (le-ltb _ _ kind, lt-leb _ _ number))

pub returns-in_default : goal.returns-in_default
unfolding request_refusal
returns-in_default c = simp (lt-ltb _ _ c.in_default.ensures)

pub returns-then-number-carriers_of : goal.returns-then-number-carriers_of
unfolding request_refusal
returns-then-number-carriers_of c =
    let kind : c.args.kind ≤ LR = omega (arith, c.in-Ok.ensures, known c.in-Ok.known) in
    simp (le-ltb _ _ kind, sym c.carriers_of.ensures, le-leb _ _ c.if-number-carriers_of.true)

-- and where a tick is left and the carrier has no event in the open one
last : (c : After-carrier_in) → request_refusal c.args.group.now c.args.kind c.args.number
    ≡ cond (entering c.args.kind)
    (cond (carrier_in c.args.group.now (kind_number c.in-Ok.known) c.args.number) already_in 0)
    (cond (carrier_in c.args.group.now (kind_number c.in-Ok.known) c.args.number) 0 not_in)
last c = simp (in_range (goal.at.After-carrier_in c).Else-number-carriers_of, lt-leb _ _ c.if-group-ge-TICKS.false, sym c.if-carrier_marked.ensures)

pub returns-then-group-ge-TICKS : goal.returns-then-group-ge-TICKS
returns-then-group-ge-TICKS c = simp (in_range (goal.at.returns-then-group-ge-TICKS c).Else-number-carriers_of, le-leb _ _ c.if-group-ge-TICKS.true)

pub returns-then-carrier_marked : goal.returns-then-carrier_marked
returns-then-carrier_marked c =
    simp (in_range (goal.at.returns-then-carrier_marked c).Else-number-carriers_of, lt-leb _ _ c.if-group-ge-TICKS.false, sym c.if-carrier_marked.ensures)

pub returns-in-true-true : goal.returns-in-true-true
returns-in-true-true c = simp (last (goal.at.returns-in-true-true c).After-carrier_in, sym c.in-true-true.ensures, sym c.in-true-true.ensures')

pub returns-in-false-false : goal.returns-in-false-false
returns-in-false-false c = simp (last (goal.at.returns-in-false-false c).After-carrier_in, sym c.in-false-false.ensures, sym c.in-false-false.ensures')

pub returns-in-true-false : goal.returns-in-true-false
returns-in-true-false c = simp (last (goal.at.returns-in-true-false c).After-carrier_in, sym c.in-true-false.ensures, sym c.in-true-false.ensures')

pub returns-in-false-true : goal.returns-in-false-true
returns-in-false-true c = simp (last (goal.at.returns-in-false-true c).After-carrier_in, sym c.in-false-true.ensures, sym c.in-false-true.ensures')
