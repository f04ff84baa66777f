use mathlib.Core.Path.{◌≡◌, sym, ap, ◌∙◌}
use mathlib.Core.Bool.{true}
use mathlib.Core.List.{List}
use Prim.Native.Nat.{ℕ, ◌+◌}
use native.Mathlib.Omega.{arith}
use borrow.Author.Tests.{lt-ltb}
use Rattle.rules.specs.Ranges.{sheets}
use Rattle.rules.specs.Refusal.{Told}
use Rattle.rules.proofs.Told.{placed_refused, placed_none}
use Rattle.bits.specs.Granted.{granted}
use Rattle.store.specs.Entry.{sheet_length, entry_fault}
use Rattle.store.proofs.Store.{good}
use Rattle.store.proofs.Entry.{sound}
use Rattle.parts.specs.Fault.{first_faulty}
use Rattle.parts.proofs.Summed.{Sums, sums_none, sums_out, sums_in, sums_stop, sums_end}
use Rattle.look.specs.Look.{Checked, checked_to, checked}
use Rattle.look.proofs.check.Goals as goal
use Rattle.look.proofs.check.Goals.{Else-not-is_granted, In_default}

-- where the look ends, the sums are the answer's
summed : (grants : List ℕ) (m : ℕ) (b : List ℕ) (stop s count total : ℕ) → Sums grants m b s count total → stop ≡ s → first_faulty grants m b ≡ s
    → ◌≡◌ {A = Checked} (record { stop = stop; count = count; total = total }) (checked grants m b)
summed grants m b stop s count total so e first =
    rw (e, so.counted, so.summed) (ap (checked_to grants m b) (sym first))

-- past the tests the sheet is granted, and its entry has no fault
yes : (c : Else-not-is_granted) → granted c.args.grants.now c.args.model c.loop-sheet.sheet ≡ true
yes c = sym c.is_granted.ensures ∙ c.if-not-is_granted.false

free : (c : In_default) → entry_fault c.args.store.now c.loop-sheet.sheet ≡ 0
free c = placed_none c.loop-sheet.sheet _ (c.in_default.ensures {u = tt})

-- and the sums take it in
more : (c : In_default) → Sums c.args.grants.now c.args.model c.args.store.now (c.loop-sheet.sheet + 1) (c.loop-sheet.count + 1) (c.loop-sheet.total + (8 + sheet_length c.args.store.now c.loop-sheet.sheet))
more c = sums_in _ _ _ _ _ _ c.loop-sheet.invariant (good c.args.store.now c.requires.1) (yes (goal.at.In_default c).Else-not-is_granted) (free c)

pub loop-sheet-init : goal.loop-sheet-init
loop-sheet-init c = sums_none _ _ _

pub loop-sheet-preserved-then-not-is_granted : goal.loop-sheet-preserved-then-not-is_granted
loop-sheet-preserved-then-not-is_granted c = sums_out _ _ _ _ _ _ c.loop-sheet.invariant (sym c.is_granted.ensures ∙ c.if-not-is_granted.true)

pub returns-in-Err : goal.returns-in-Err
returns-in-Err c =
    let so = c.loop-sheet.invariant in
    let p = placed_refused c.loop-sheet.sheet _ c.in-Err.refusal (c.in-Err.ensures {u = tt}) in
    let first = sums_stop _ _ _ _ _ _ so c.loop-sheet-test.true (yes (goal.at.returns-in-Err c).Else-not-is_granted) p.0 in
    record {
      summed = summed _ _ _ _ _ _ _ so (ap (λ (t : Told). t.place) p.1) first;
      refused = p.1 ∙ simp (first, lt-ltb _ _ c.loop-sheet-test.true);
    }

pub length_of-requires : goal.length_of-requires
length_of-requires c =
    let g = good c.args.store.now c.requires.1 in
    let entry = sound _ _ (free (goal.at.length_of-requires c).In_default) in
    omega (arith, entry.inside, g.table)

pub overflow_add-total : goal.overflow_add-total
overflow_add-total c =
    let so = more (goal.at.overflow_add-total c).In_default in
    omega (arith, so.short, c.length_of.ensures.0)

pub overflow_add-total-in-loop-sheet : goal.overflow_add-total-in-loop-sheet
overflow_add-total-in-loop-sheet c =
    let so = more (goal.at.overflow_add-total-in-loop-sheet c).In_default in
    omega (arith, so.short, c.length_of.ensures.0)

pub loop-sheet-preserved : goal.loop-sheet-preserved
loop-sheet-preserved c = rw c.length_of.ensures.0 (more (goal.at.loop-sheet-preserved c).In_default)

pub returns : goal.returns
returns c =
    let so = c.loop-sheet.invariant in
    let all : c.loop-sheet.sheet ≡ sheets = omega arith in
    let last = sums_end _ _ _ _ _ _ so all in
    record {
      summed = summed _ _ _ _ _ _ _ so (sym all) last;
      refused = simp (last ∙ all);
    }
