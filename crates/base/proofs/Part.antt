-- A part of a list that runs to its end. Assumes nothing.
use mathlib.Core.Path.{◌≡◌}
use mathlib.Core.List.{List}
use Prim.Native.Nat.{ℕ, ◌-◌}
use native.Mathlib.Nat.{le_refl}
use lib.ListN.{length, take, drop, length-drop}
use lib.Seq.{take_all}

-- it is the tail from where it starts
pub tail : (s : List ℕ) (i : ℕ) → take (length s - i) (drop i s) ≡ drop i s
tail s i = take_all (length s - i) (drop i s) (simp length-drop (le_refl _))
