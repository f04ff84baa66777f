use mathlib.Core.Path.{sym, ap, ◌∙◌, subst, subst₂}
use mathlib.Core.List.{List}
use Prim.Native.Nat.{ℕ, ◌<◌, ◌≤◌}
use native.Mathlib.Omega.{arith}
use Rattle.strip.proofs.Places.{tick_at, good_rising, good_upto}
use Rattle.stepping.specs.Next.{never}
use Rattle.pass.specs.declared.Pass.{Pass}
use Rattle.pass.proofs.Turn.{Turns, turns}
use Rattle.spanning.specs.Steps.{most, turned, turned_list}
use Rattle.spanning.specs.declared.Spanning.{Spanning}
use Rattle.span.proofs.Going.{Going, going_start, going_on, going_count, going_list}
use Rattle.span.proofs.pairs.Goals as goal
use Rattle.span.proofs.pairs.Goals.{After-advance-pass, At-loop-pass}

-- the pass has turned
went : (c : After-advance-pass) → Turns c.args.m.now c.args.s.now c.loop-pass.pass c.advance-pass.result
went c =
    let fm : tick_at c.args.m.now c.loop-pass.pass.i < never = omega (arith, c.type_inv.m c.loop-pass.pass.i) in
    let fs : tick_at c.args.s.now c.loop-pass.pass.j < never = omega (arith, c.type_inv.s c.loop-pass.pass.j) in
    subst (λ (q : Pass). Turns c.args.m.now c.args.s.now c.loop-pass.pass q) (sym c.advance-pass.ensures)
    (turns _ _ (good_rising _ _ _ c.requires.good_m) (good_rising _ _ _ c.requires.good_s) c.loop-pass.pass c.loop-pass.invariant.stands fm fs c.loop-pass-test.true)

-- the count stays small
small : (c : At-loop-pass) → c.loop-pass.spanning.count ≤ most
small c =
    let x = c.loop-pass.invariant in
    omega (arith, x.few, x.stands.passed.model.inside, x.stands.passed.sheet.inside, c.requires.short_m, c.requires.short_s)

pub loop-pass-init : goal.loop-pass-init
loop-pass-init c =
    subst (λ (p : Pass). Going c.args.m.now c.args.s.now c.args.now c.args.list.now p (record { first = 0; count = 0 }) c.args.list.now) (sym c.begin-pass.ensures)
    (going_start c.args.m.now c.args.s.now c.args.now (good_rising _ _ _ c.requires.good_m) (good_rising _ _ _ c.requires.good_s) c.args.list.now)

pub advance-pass-requires : goal.advance-pass-requires
advance-pass-requires c = (c.loop-pass.invariant.stands.passed.model.inside, c.loop-pass.invariant.stands.passed.sheet.inside)

pub turn-spanning-requires : goal.turn-spanning-requires
turn-spanning-requires c =
    let at = goal.at.turn-spanning-requires c in
    (omega (arith, (went at.After-advance-pass).turned.later), small at.At-loop-pass)

pub loop-pass-smaller : goal.loop-pass-smaller
loop-pass-smaller c = omega (arith, (went (goal.at.loop-pass-smaller c).After-advance-pass).turned.more, c.loop-pass-test.true)

pub loop-pass-preserved : goal.loop-pass-preserved
loop-pass-preserved c =
    let q = c.advance-pass.result in
    let so = c.loop-pass.spanning in
    let e = c.turn-spanning.ensures in
    let g = c.holds.ensures in
    subst₂ (λ (x : Spanning) (l : List ℕ). Going c.args.m.now c.args.s.now c.args.now c.args.list.now q x l)
    (sym (e.0 ∙ ap (turned so q.tick) g)) (sym (e.1 ∙ ap (turned_list c.loop-pass.list so q.tick) g))
    (going_on c.args.m.now c.args.s.now c.args.now (good_rising _ _ _ c.requires.good_m) (good_rising _ _ _ c.requires.good_s) (good_upto _ _ _ c.requires.good_m)
    (good_upto _ _ _ c.requires.good_s) c.args.list.now c.loop-pass.pass so c.loop-pass.list c.loop-pass.invariant q (went (goal.at.loop-pass-preserved c).After-advance-pass))

pub end-last-requires : goal.end-last-requires
end-last-requires c = small (goal.at.end-last-requires c).At-loop-pass

pub returns : goal.returns
returns c =
    let h = c.loop-pass-test.false in
    let rm = good_rising _ _ _ c.requires.good_m in
    let rs = good_rising _ _ _ c.requires.good_s in
    let um = good_upto _ _ _ c.requires.good_m in
    let us = good_upto _ _ _ c.requires.good_s in
    let x = c.loop-pass.invariant in
    let e = c.end-last.ensures in (
      ap (λ (y : Spanning). y.count) e.0 ∙ going_count c.args.m.now c.args.s.now c.args.now rm rs um us c.args.list.now c.loop-pass.pass c.loop-pass.spanning c.loop-pass.list x h,
      e.1 ∙ going_list c.args.m.now c.args.s.now c.args.now rm rs um us c.args.list.now c.loop-pass.pass c.loop-pass.spanning c.loop-pass.list x h,
    )
