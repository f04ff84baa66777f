use Prim.Native.Nat.{ℕ, ◌<◌}
use native.Mathlib.Omega.{arith}
use mathlib.Core.List.{List}
use lib.ListN.{get_or}
use mir.Syntax.{w32}
use mir.Val.{Fits}
use Rattle.strip.proofs.Places.{tick_at}
use Rattle.stepping.specs.Next.{never}
use Rattle.stepping.proofs.Pass.{pass_start, at_end, by_model, by_sheet, by_both}
use Rattle.judge.proofs.scan.scan.Goals as goal

-- a word's tick is below `never`
fits : (s : List ℕ) → ((i : ℕ) → Fits w32 (get_or s i 0)) → (i : ℕ) → tick_at s i < never
fits s h i = omega (arith, h i)

pub loop-i-init : goal.loop-i-init
loop-i-init c = ((0, pass_start _ _ c.requires.0 c.requires.1), c.next_event-a.ensures, c.next_event-b.ensures)

pub loop-i-preserved-then-a-b : goal.loop-i-preserved-then-a-b
loop-i-preserved-then-a-b c =
    let pre = c.requires in
    let inv = c.loop-i.invariant in
    let p = by_model _ _ pre.0 pre.1 _ _ _ inv.0 (fits c.args.m.now c.type_inv.m c.loop-i.i) (fits c.args.s.now c.type_inv.s c.loop-i.j) _ _ inv.1 inv.2 c.if-a-b.true in
    (rw c.step-seen.ensures p, c.next_event-a-then-a-b.ensures, inv.2)

pub loop-i-preserved-then-b-a : goal.loop-i-preserved-then-b-a
loop-i-preserved-then-b-a c =
    let pre = c.requires in
    let inv = c.loop-i.invariant in
    let p = by_sheet _ _ pre.0 pre.1 _ _ _ inv.0 (fits c.args.m.now c.type_inv.m c.loop-i.i) (fits c.args.s.now c.type_inv.s c.loop-i.j) _ _ inv.1 inv.2 c.if-b-a.true in
    (rw c.step-seen-then-b-a.ensures p, inv.1, c.next_event-b-then-b-a.ensures)

pub loop-i-preserved : goal.loop-i-preserved
loop-i-preserved c =
    let pre = c.requires in
    let inv = c.loop-i.invariant in
    let p = by_both _ _ pre.0 pre.1 _ _ _ inv.0 (fits c.args.m.now c.type_inv.m c.loop-i.i) (fits c.args.s.now c.type_inv.s c.loop-i.j) _ _ inv.1 inv.2
    c.if-a-b.false c.if-b-a.false c.loop-i-test.true in
    (rw c.step-seen-else-b-a.ensures p, c.next_event-a-else-b-a.ensures, c.next_event-b-else-b-a.ensures)

pub returns : goal.returns
returns c = at_end _ _ c.requires.0 c.requires.1 _ _ _ c.loop-i.invariant.0 (omega arith)
