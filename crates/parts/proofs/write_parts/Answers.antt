use mathlib.Core.Path.{◌≡◌, sym, ap, ◌∙◌}
use Prim.Native.Nat.{ℕ, ◌+◌, ◌*◌, ◌-◌, ◌≤◌}
use native.Mathlib.Omega.{arith}
use mathlib.Core.Bool.{true}
use mathlib.Core.List.{List}
use borrow.Rule.Slice.PartMut.{put_mid}
use lib.ListN.{length, length-drop}
use Rattle.base.proofs.Part.{tail}
use Rattle.bits.specs.Granted.{granted}
use Rattle.wire.specs.Put.{put}
use Rattle.store.specs.Entry.{offset, sheet_length}
use Rattle.store.proofs.Store.{good}
use Rattle.store.proofs.Entry.{sound}
use Rattle.parts.specs.Delivery.{part}
use Rattle.parts.proofs.Fault.{fault_free}
use Rattle.parts.proofs.Parts.{length_part}
use Rattle.parts.proofs.Filled.{filled_none, filled_out, filled_in, part_fits, length_filled, put_rest}
use Rattle.parts.proofs.write_parts.Goals as goal
use Rattle.parts.proofs.write_parts.Goals.{Else-not-is_granted}

-- past the test the sheet is granted, its entry lies in the store, and its part has room
record Turn (c : Else-not-is_granted) : Type 0 where
  yes : granted c.args.grants.now c.args.model c.loop-sheet.sheet ≡ true
  entry : 16 + 8 * c.loop-sheet.sheet ≤ length c.args.store.now
  inside : offset c.args.store.now c.loop-sheet.sheet + sheet_length c.args.store.now c.loop-sheet.sheet ≤ length c.args.store.now
  room : c.loop-sheet.at + length (part c.args.store.now c.loop-sheet.sheet) ≤ length c.args.out.now
  long : length (part c.args.store.now c.loop-sheet.sheet) ≡ 8 + sheet_length c.args.store.now c.loop-sheet.sheet
  kept : length c.loop-sheet.out ≡ length c.args.out.now

turn : (c : Else-not-is_granted) → Turn c
turn c =
    let store = c.args.store.now in
    let sheet = c.loop-sheet.sheet in
    let test = c.loop-sheet-test.true in
    let yes : granted c.args.grants.now c.args.model sheet ≡ true = sym c.is_granted.ensures ∙ c.if-not-is_granted.false in
    let g = good store c.requires.0.taken in
    let entry = sound store sheet (fault_free _ _ _ _ c.requires.0.sound test yes) in
    let inside : offset store sheet + sheet_length store sheet ≤ length store = omega (arith, entry.within, g.total) in
    record {
      yes = yes;
      entry = omega (arith, entry.inside, g.table);
      inside = inside;
      room = part_fits _ _ _ _ c.requires.1 _ _ _ test c.loop-sheet.invariant yes;
      long = length_part store sheet inside;
      kept = length_filled _ _ _ _ c.requires.1 _ _ _ (omega arith) c.loop-sheet.invariant;
    }

pub loop-sheet-init : goal.loop-sheet-init
loop-sheet-init c = filled_none _ _ _ _

pub loop-sheet-preserved-then-not-is_granted : goal.loop-sheet-preserved-then-not-is_granted
loop-sheet-preserved-then-not-is_granted c = filled_out _ _ _ _ _ _ _ c.loop-sheet.invariant (sym c.is_granted.ensures ∙ c.if-not-is_granted.true)

pub slice_bounds-write_part-count : goal.slice_bounds-write_part-count
slice_bounds-write_part-count c = let t = turn (goal.at.slice_bounds-write_part-count c).Else-not-is_granted in omega (arith, t.room, t.kept)

pub slice_bounds-write_part-start : goal.slice_bounds-write_part-start
slice_bounds-write_part-start c = let t = turn (goal.at.slice_bounds-write_part-start c).Else-not-is_granted in omega (arith, t.room, t.kept)

pub write_part-at-requires : goal.write_part-at-requires
write_part-at-requires c =
    let t = turn (goal.at.write_part-at-requires c).Else-not-is_granted in
    (t.entry, t.inside, rw (tail c.loop-sheet.out c.loop-sheet.at) (simp length-drop (omega (arith, t.room, t.long, t.kept))))

pub overflow_add-at : goal.overflow_add-at
overflow_add-at c =
    let t = turn (goal.at.overflow_add-at c).Else-not-is_granted in
    omega (arith, t.room, c.write_part-at.ensures.0)

pub loop-sheet-preserved : goal.loop-sheet-preserved
loop-sheet-preserved c =
    let t = turn (goal.at.loop-sheet-preserved c).Else-not-is_granted in
    let out = c.loop-sheet.out in
    let at = c.loop-sheet.at in
    let new = part c.args.store.now c.loop-sheet.sheet in
    let written = ap (put_mid at (length out - at) out) (c.write_part-at.ensures.1 ∙ ap (λ (l : List ℕ). put l 0 new) (tail out at)) ∙ put_rest out new at (omega (arith, t.room, t.kept)) in
    filled_in _ _ _ _ c.requires.1 _ _ _ _ _ (omega arith) c.loop-sheet.invariant t.yes (ap (λ (k : ℕ). at + k) c.write_part-at.ensures.0) written

pub returns : goal.returns
returns c =
    let all : c.loop-sheet.sheet ≡ 256 = omega arith in
    rw (← all) c.loop-sheet.invariant.filled
