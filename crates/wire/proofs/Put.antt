-- What putting a list into another does: its length, what stays, and one put after another. Assumes nothing.
use mathlib.Core.Path.{◌≡◌, sym, ap, ap₂, ◌∙◌}
use mathlib.Core.List.{List, [], ◌∷◌, ◌++◌, append_assoc}
use Prim.Native.Nat.{ℕ, ◌+◌, ◌-◌, ◌≤◌, ◌<◌}
use native.Mathlib.Nat.{add-zero, zero-add, add_assoc}
use native.Mathlib.Numerals.{add-one}
use native.Mathlib.Omega.{arith}
use lib.ListN.{length, get_or, take, drop, set, take-append-drop, length-append, length-drop, get_or-append}
use lib.Seq.{length-take-le, take_at, drop_at, drop-drop, get_or-take, get_or-drop, get_or-append-add, set_split}
use borrow.Rule.Slice.PartMut.{put_mid}
use Rattle.wire.specs.Put.{put}

-- nothing put is nothing changed
pub put_none : (d : List ℕ) (at : ℕ) → put d at [] ≡ d
unfolding put
put_none d at = rw (add-zero, take-append-drop)

-- a store is a put of one
pub put_one : (d : List ℕ) (at x : ℕ) → at < length d → set d at x ≡ put d at (x ∷ [])
unfolding put
put_one d at x h = rw (add-one, set_split)

-- at the front: the list, and what lies beyond it
pub put_front : (d l : List ℕ) → put d 0 l ≡ l ++ drop (length l) d
unfolding put
put_front d l = rw zero-add

-- a part that was lent and is back, is put
pub put_lent : (d l : List ℕ) (at end : ℕ) → length l ≡ end - at → put_mid at (end - at) d l ≡ put d at l
unfolding put
put_lent d l at end e = simp (drop-drop, e)

module _ (d : List ℕ) (at : ℕ) (l : List ℕ) (room : at + length l ≤ length d) where
  before : length (take at d) ≡ at
  before = length-take-le at d (omega arith)

  pub length_put : length (put d at l) ≡ length d
  unfolding put
  length_put = simp (length-append, before, length-drop) (omega arith)

  -- cut where the list was put, the rest of the list shows
  pub drop_put : drop at (put d at l) ≡ l ++ drop (at + length l) d
  unfolding put
  drop_put = drop_at (take at d) (l ++ drop (at + length l) d) at before

  -- what is put right behind what was put, was put with it
  pub put_next : (m : List ℕ) → put (put d at l) (at + length l) m ≡ put d at (l ++ m)
  unfolding put
  put_next m =
      let rest : List ℕ = drop (at + length l) d in
      let whole : List ℕ = take at d ++ l in
      let long : length whole ≡ at + length l = simp (length-append, before) in
      let split : take at d ++ (l ++ rest) ≡ whole ++ rest = sym (append_assoc (take at d) l rest) in
      let front : take (at + length l) (take at d ++ (l ++ rest)) ≡ whole = ap (take (at + length l)) split ∙ take_at whole rest (at + length l) long in
      let behind : drop (at + length l + length m) (take at d ++ (l ++ rest)) ≡ drop (at + length l + length m) d =
      sym (drop-drop (length m) (at + length l) (take at d ++ (l ++ rest)))
      ∙ ap (λ (x : List ℕ). drop (length m) x) (ap (drop (at + length l)) split ∙ drop_at whole rest (at + length l) long)
      ∙ drop-drop (length m) (at + length l) d in
      ap₂ (λ (x y : List ℕ). x ++ (m ++ y)) front behind ∙ simp (append_assoc, length-append, add_assoc)

  -- what stands before and behind stays
  pub put_before : (i : ℕ) → i < at → get_or (put d at l) i 0 ≡ get_or d i 0
  unfolding put
  put_before i h =
      let inside : i < length (take at d) = omega (arith, before) in
      rw (get_or-append, get_or-take)

  pub put_behind : (i : ℕ) → at + length l ≤ i → get_or (put d at l) i 0 ≡ get_or d i 0
  put_behind i h =
      let k : ℕ = i - (at + length l) in
      let e : i ≡ at + (length l + k) = omega arith in
      ap (λ (n : ℕ). get_or (put d at l) n 0) e
      ∙ sym (get_or-drop at (put d at l) (length l + k) 0)
      ∙ ap (λ (x : List ℕ). get_or x (length l + k) 0) drop_put
      ∙ get_or-append-add l (drop (at + length l) d) k 0
      ∙ get_or-drop (at + length l) d k 0
      ∙ ap (λ (n : ℕ). get_or d n 0) (let back : at + length l + k ≡ i = omega arith in back)
