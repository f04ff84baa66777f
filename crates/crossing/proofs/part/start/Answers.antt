-- Both cases of where the records of a tick start.
use mathlib.Core.Path.{◌≡◌, refl, sym, ◌∙◌}
use mathlib.Core.Bool.{true, false}
use mathlib.Core.List.{List}
use Prim.Native.Nat.{ℕ}
use Rattle.tick.specs.Tick.{rising, place_from, tick_start}
use Rattle.crossing.proofs.part.start.Goals as goal

start-falling : (ws : List ℕ) (t : ℕ) → rising ws ≡ false → 0 ≡ tick_start ws t
unfolding tick_start
start-falling ws t e = rw e refl

start-rising : (ws : List ℕ) (t : ℕ) → rising ws ≡ true → place_from ws t ≡ tick_start ws t
unfolding tick_start
start-rising ws t e = rw e refl

pub returns-then-not-is_rising : goal.returns-then-not-is_rising
returns-then-not-is_rising c = start-falling _ _ (sym c.is_rising.ensures ∙ c.if-not-is_rising.true)

pub returns : goal.returns
returns c = c.place_from.ensures.0 ∙ start-rising _ _ (sym c.is_rising.ensures ∙ c.if-not-is_rising.false)
