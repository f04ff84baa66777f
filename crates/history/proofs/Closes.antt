-- A close keeps every carrier beside its strip. Assumes nothing.
use mathlib.Core.Path.{◌≡◌, sym, ap, ◌∙◌}
use mathlib.Core.Bool.{not, not-not}
use mathlib.Core.List.{List}
use Prim.Native.Nat.{ℕ, suc, ◌<◌}
use native.Mathlib.Omega.{arith}
use lib.ListN.{length}
use Rattle.event.specs.Word.{word_of}
use Rattle.strip.specs.declared.Side.{Side}
use Rattle.strip.specs.Good.{range}
use Rattle.strip.proofs.Places.{UpTo}
use Rattle.strip.proofs.Append.{length_more}
use Rattle.event.specs.Carrier.{entering}
use Rattle.group.specs.Close.{closed_group}
use Rattle.group.specs.Fits.{Fits}
use Rattle.group.specs.declared.Group.{Group}
use Rattle.group.proofs.Clear.{closed_mark}
use Rattle.strip.specs.Strips.{strip_of}
use Rattle.history.proofs.Strips.{strip_all}
use Rattle.history.proofs.Sides.{even, even_suc, turn_is, turn_side, same_turn, in_on, closed_idle, closed_event}
use Rattle.history.proofs.Carried.{Open, idle, event, Carried, carried_good, not_quiet}

module _ (g : Group) (z : Fits g) (side : Side) (n t : ℕ) (l : n < range side) where
  in_after : (s w : List ℕ) → in_on side g n ≡ not (even (length s)) → Open g side n t s w → in_on side (closed_group g) n ≡ not (even (length w))
  in_after s w i (idle m e) = closed_idle g z side n l m ∙ i ∙ ap (λ (x : List ℕ). not (even (length x))) (sym e)
  in_after s w i (event k h turns m e) =
      let own = turn_side side (length s) k h turns in
      closed_event g z side n k l h own m
      ∙ sym ((same_turn (even (length s)) (entering k)).0 (sym (turn_is side (length s) k h own) ∙ turns))
      ∙ sym (rw (e, length_more s (word_of (suc t) k n), even_suc (length s)) (not-not (even (length s))))

  -- a close keeps every carrier
  pub close_carried : (ws : List ℕ) → UpTo (suc t) ws → Carried g t ws side n → Carried (closed_group g) (suc t) ws side n
  close_carried ws u c = record {
    good = carried_good g t ws side n l c;
    alternates = in_after (strip_of side n t ws) (strip_of side n (suc t) ws) c.alternates c.tick;
    tick = idle (λ k h e. closed_mark g k n h ∙ not_quiet k h) (strip_all side n ws (suc t) (suc (suc t)) u (omega arith));
  }
