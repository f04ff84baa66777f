-- One carrier of a group beside its strip: the strip up to the last close is good, the carrier is in exactly when it has entered last,
-- and its marks are its event of the open tick. True of a fresh group; Requests.antt and Closes.antt show that every call keeps it. Assumes nothing.
use mathlib.Core.Path.{◌≡◌, refl, sym, ap, ◌∙◌}
use mathlib.Core.Bool.{true, false, not}
use mathlib.Core.List.{List, [], ◌∷◌, ◌++◌}
use Prim.Native.Nat.{ℕ, suc, ◌≤◌, ◌<◌}
use native.Mathlib.Omega.{arith}
use lib.Dec.{eqb}
use lib.ListN.{length, get_or}
use borrow.Author.Tests.{ne_eqb}
use Rattle.rules.specs.Kinds.{LR, quiet}
use Rattle.event.specs.Word.{word_of, number_of}
use Rattle.event.proofs.Word.{tick_word, kind_word, number_word}
use Rattle.formula.proofs.Move.{Same}
use Rattle.strip.specs.declared.Side.{Side}
use Rattle.strip.specs.declared.Side.TheVariants.{Model, Sheet}
use Rattle.strip.specs.Good.{range, turn, Good}
use Rattle.strip.specs.History.{history_of}
use Rattle.strip.proofs.Places.{UpTo}
use Rattle.strip.proofs.Append.{good_later, good_next, history_other, history_last, history_past}
use Rattle.group.specs.declared.Group.{Group}
use Rattle.group.proofs.Quiet.{Unmarked}
use Rattle.strip.specs.Strips.{strip_of}
use Rattle.base.specs.Keep.{keep}
use Rattle.history.proofs.Strips.{strip_upto, strip_number}
use Rattle.history.proofs.Sides.{even, in_on, Marks}

-- the open tick, after t closed ones: no event of the carrier yet, or one, whose turn it is
pub data Open (g : Group) (side : Side) (n t : ℕ) (closed whole : List ℕ) : Type 0 where
  idle : Marks g side n quiet → whole ≡ closed → Open g side n t closed whole
  event : (k : ℕ) → k ≤ LR → turn side (length closed) k ≡ true → Marks g side n k → whole ≡ closed ++ (word_of (suc t) k n ∷ []) → Open g side n t closed whole

pub record Carried (g : Group) (t : ℕ) (ws : List ℕ) (side : Side) (n : ℕ) : Type 0 where
  pub good : Good side t (strip_of side n t ws)
  pub alternates : in_on side g n ≡ not (even (length (strip_of side n t ws)))
  pub tick : Open g side n t (strip_of side n t ws) (strip_of side n (suc t) ws)

-- a number in range has its place in a word
pub small : (side : Side) (n : ℕ) → n < range side → n < 512
small Model n h = omega arith
small Sheet n h = omega arith

-- ---- what the open tick tells

module _ (g : Group) (side : Side) (n t : ℕ) (l : n < range side) (s w : List ℕ) where
  -- the marks are the history of the open tick
  tells : UpTo t s → Open g side n t s w → Marks g side n (history_of w (suc t))
  tells u (idle m e) = rw (e, history_past s t (suc t) u (omega arith)) m
  tells u (event k h turns m e) =
      let tick = tick_word (suc t) k n h (small side n l) in
      let told : history_of (s ++ (word_of (suc t) k n ∷ [])) (suc t) ≡ k =
      ap (history_of (s ++ (word_of (suc t) k n ∷ []))) (sym tick) ∙ history_last s (word_of (suc t) k n) t u (omega arith) ∙ kind_word (suc t) k n h (small side n l) in
      rw (e, told) m

  -- the open tick does not show in the ticks before
  before : Open g side n t s w → Same t (history_of w) (history_of s)
  before (idle m e) j h = ap (λ (x : List ℕ). history_of x j) e
  before (event k b turns m e) j h =
      ap (λ (x : List ℕ). history_of x j) e
      ∙ history_other s (word_of (suc t) k n) j (λ q. omega (arith, tick_word (suc t) k n b (small side n l)))

  whole_good : Good side t s → ((i : ℕ) → i < length s → number_of (get_or s i 0) ≡ n) → Open g side n t s w → Good side (suc t) w
  whole_good good own (idle m e) = rw e (good_later side t (suc t) s (omega arith) good)
  whole_good good own (event k h turns m e) =
      let tick = tick_word (suc t) k n h (small side n l) in
      let kind = kind_word (suc t) k n h (small side n l) in
      let number = number_word (suc t) k n h (small side n l) in
      rw e (good_next s (word_of (suc t) k n) side t (suc t) good (omega arith) (omega arith) (ap (turn side (length s)) kind ∙ turns) (rw number l) (λ i b. number ∙ sym (own i b)))

module _ (g : Group) (t : ℕ) (ws : List ℕ) (side : Side) (n : ℕ) (l : n < range side) (c : Carried g t ws side n) where
  pub carried_marks : Marks g side n (history_of (strip_of side n (suc t) ws) (suc t))
  carried_marks = tells g side n t l (strip_of side n t ws) (strip_of side n (suc t) ws) (strip_upto side n ws t) c.tick

  pub carried_before : Same t (history_of (strip_of side n (suc t) ws)) (history_of (strip_of side n t ws))
  carried_before = before g side n t l (strip_of side n t ws) (strip_of side n (suc t) ws) c.tick

  pub carried_good : Good side (suc t) (strip_of side n (suc t) ws)
  carried_good = whole_good g side n t l (strip_of side n t ws) (strip_of side n (suc t) ws) c.good (strip_number side n ws t) c.tick

-- ---- fresh

-- a kind is not quiet
pub not_quiet : (k : ℕ) → k ≤ LR → false ≡ eqb quiet k
not_quiet k h = sym (ne_eqb quiet k (λ e. omega arith))

pub fresh_carried : (g : Group) (side : Side) (n : ℕ) → Unmarked g → in_on side g n ≡ false → Carried g 0 [] side n
unfolding keep
fresh_carried g side n none out = record {
  good = λ i h. absurd (omega arith);
  alternates = out;
  tick = idle (λ k h e. none k n h ∙ not_quiet k h) refl;
}
