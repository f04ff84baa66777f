-- A loop that goes over an array once: after i turns its first i entries are new and the rest is old. `turn` and `last` answer the loop's
-- invariant `out ≡ front (table n f) old i`, for an array of any length. Assumes nothing.
use mathlib.Core.Path.{◌≡◌, refl, sym, ap, ap₂, ◌∙◌, subst}
use mathlib.Core.List.{List, [], ◌∷◌}
use Prim.Native.Nat.{ℕ, zero, suc, ◌+◌, ◌≤◌, ◌<◌}
use native.Mathlib.Nat.{not-suc-le-zero, le_of_suc-le-suc}
use native.Mathlib.Numerals.{add-one}
use native.Mathlib.Omega.{arith}
use lib.ListN.{length, get_or, set}
use Rattle.base.specs.Table.{table}
use Rattle.base.proofs.Table.{length_table, get_or_table}

-- the first i of s, then d from i on
unfoldable pub front : List ℕ → List ℕ → ℕ → List ℕ
front s d zero = d
front [] d (suc i) = d
front (x ∷ s) [] (suc i) = []
front (x ∷ s) (y ∷ d) (suc i) = x ∷ front s d i

pub front_none : (s d : List ℕ) → front s d 0 ≡ d
unfolding front
front_none [] d = refl
front_none (x ∷ s) d = refl

-- what is at i is still d's
front_at : (s d : List ℕ) (i z : ℕ) → get_or (front s d i) i z ≡ get_or d i z
unfolding front
front_at s d zero z = refl
front_at [] d (suc i) z = refl
front_at (x ∷ s) [] (suc i) z = refl
front_at (x ∷ s) (y ∷ d) (suc i) z = front_at s d i z

-- a store of s's next element
front_more : (s d : List ℕ) (i z : ℕ) → i < length s → set (front s d i) i (get_or s i z) ≡ front s d (suc i)
unfolding front
front_more [] d i z h = absurd (not-suc-le-zero h)
front_more (x ∷ s) [] zero z h = refl
front_more (x ∷ s) [] (suc i) z h = refl
front_more (x ∷ s) (y ∷ d) zero z h = refl
front_more (x ∷ s) (y ∷ d) (suc i) z h = ap (λ (l : List ℕ). x ∷ l) (front_more s d i z (le_of_suc-le-suc h))

front_all : (s d : List ℕ) (n : ℕ) → length s ≡ n → length d ≡ n → front s d n ≡ s
unfolding front
front_all [] [] zero h k = refl
front_all [] [] (suc n) h k = refl
front_all [] (y ∷ d) n h k = absurd (omega arith)
front_all (x ∷ s) [] n h k = absurd (omega arith)
front_all (x ∷ s) (y ∷ d) zero h k = absurd (omega arith)
front_all (x ∷ s) (y ∷ d) (suc n) h k = ap (λ (l : List ℕ). x ∷ l) (front_all s d n (omega arith) (omega arith))

-- one turn: what is stored at i is the rule's value of what stood there
pub turn : (n : ℕ) (f : ℕ → ℕ → ℕ) (d out : List ℕ) (i r : ℕ) → i < n → out ≡ front (table n (λ k. f k (get_or d k 0))) d i
    → r ≡ f i (get_or out i 0) → set out i r ≡ front (table n (λ k. f k (get_or d k 0))) d (i + 1)
turn n f d out i r h e er =
    let g : ℕ → ℕ = λ k. f k (get_or d k 0) in
    let t : List ℕ = table n g in
    let v : r ≡ get_or t i 0 = er ∙ ap (λ (l : List ℕ). f i (get_or l i 0)) e ∙ ap (f i) (front_at t d i 0) ∙ sym (get_or_table n g i 0 h) in
    ap₂ (λ (l : List ℕ) (x : ℕ). set l i x) e v ∙ front_more t d i 0 (subst (λ (k : ℕ). i < k) (sym (length_table n g)) h)
    ∙ ap (front t d) (sym (add-one i))

-- turns that would change nothing: where old and new are the same, the front may be longer at once
pub front_same : (s d : List ℕ) (i j : ℕ) → i ≤ j → ((k : ℕ) → i ≤ k → k < j → get_or s k 0 ≡ get_or d k 0) → front s d i ≡ front s d j
unfolding front
front_same s d zero zero l h = refl
front_same [] d zero (suc j) l h = refl
front_same (x ∷ s) [] zero (suc j) l h = refl
front_same (x ∷ s) (y ∷ d) zero (suc j) l h =
    ap₂ (λ (z : ℕ) (r : List ℕ). z ∷ r) (sym (h 0 (omega arith) (omega arith))) (sym (front_none s d) ∙ front_same s d 0 j (omega arith) (λ k a b. h (suc k) (omega arith) (omega arith)))
front_same s d (suc i) zero l h = absurd (omega arith)
front_same [] d (suc i) (suc j) l h = refl
front_same (x ∷ s) [] (suc i) (suc j) l h = refl
front_same (x ∷ s) (y ∷ d) (suc i) (suc j) l h =
    ap (λ (r : List ℕ). x ∷ r) (front_same s d i j (omega arith) (λ k a b. h (suc k) (omega arith) (omega arith)))

-- after the last turn
pub last : (n i : ℕ) (f : ℕ → ℕ) (d out : List ℕ) → length d ≡ n → i ≡ n → out ≡ front (table n f) d i → out ≡ table n f
last n i f d out h ei e = e ∙ ap (front (table n f) d) ei ∙ front_all (table n f) d n (length_table n f) h
