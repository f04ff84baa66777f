-- Runs one after the other are one run. Assumes nothing.
use mathlib.Core.Path.{◌≡◌, refl}
use mathlib.Core.List.{List, [], ◌∷◌, ◌++◌}
use Prim.Native.Nat.{ℕ}
use Rattle.history.specs.Run.{Move, Reached, step, run, fresh, reached}

pub run_append : (first next : List Move) (r : Reached) → run (first ++ next) r ≡ run next (run first r)
unfolding run
run_append [] next r = refl
run_append (c ∷ first) next r = run_append first next (step c r)

pub reached_append : (number : ℕ) (first next : List Move) → reached number (first ++ next) ≡ run next (reached number first)
reached_append number first next = run_append first next (fresh number)
