-- Events put into book order one after the other: as many pass any test as did before. Assumes nothing.
use mathlib.Core.Path.{◌≡◌, refl, sym, ap, ◌∙◌}
use mathlib.Core.Bool.{Bool, true, false, cond, ◌&&◌}
use mathlib.Core.List.{List, [], ◌∷◌, ◌++◌}
use mathlib.Core.Logic.{⊎_elim}
use Prim.Native.Nat.{ℕ, ◌+◌}
use native.Mathlib.Omega.{arith}
use lib.Dec.{eqb, leb}
use lib.ListN.{length, take, drop, take-append-drop, length-append}
use Rattle.base.proofs.Truth.{either}
use Rattle.event.specs.Word.{tick_of}
use Rattle.base.specs.Keep.{keep}
use Rattle.base.proofs.Keep.{keep_append}
use Rattle.insert.specs.Inserted.{inserted}
use Rattle.insert.proofs.Among.{place, length_inserted}
use Rattle.saved.specs.Saved.{up_to, how_often}

-- the words, and then the events one after the other, each in its place
unfoldable pub in_order : List ℕ → List ℕ → List ℕ
in_order ws [] = ws
in_order ws (e ∷ es) = in_order (inserted ws e) es

pub order_more : (ws es : List ℕ) (e : ℕ) → in_order ws (es ++ (e ∷ [])) ≡ inserted (in_order ws es) e
unfolding in_order
order_more ws [] e = refl
order_more ws (x ∷ es) e = order_more (inserted ws x) es e

length_order : (ws es : List ℕ) → length (in_order ws es) ≡ length ws + length es
unfolding in_order
length_order ws [] = omega arith
length_order ws (e ∷ es) = length_order (inserted ws e) es ∙ omega (arith, length_inserted ws e)

pub length_ordered : (es : List ℕ) → length (in_order [] es) ≡ length es
length_ordered es = length_order [] es ∙ omega arith

module _ (p : ℕ → Bool) where
  -- how many words pass
  abbrev passing : List ℕ → ℕ
  passing ws = length (keep p ws)

  passing_append : (xs ys : List ℕ) → passing (xs ++ ys) ≡ passing xs + passing ys
  passing_append xs ys = ap length (keep_append p xs ys) ∙ length-append (keep p xs) (keep p ys)

  pub passing_one : (x : ℕ) (ws : List ℕ) → passing (x ∷ ws) ≡ cond (p x) 1 0 + passing ws
  unfolding keep
  passing_one x ws = ⊎_elim
      (λ (t : p x ≡ true). simp t (omega arith))
      (λ (f : p x ≡ false). simp f (omega arith))
      (either (p x))

  passing_inserted : (ws : List ℕ) (x : ℕ) → passing (inserted ws x) ≡ cond (p x) 1 0 + passing ws
  unfolding inserted
  passing_inserted ws x =
      let a = passing_append (take (place ws x) ws) (x ∷ drop (place ws x) ws) in
      let b = passing_one x (drop (place ws x) ws) in
      let c = ap passing (take-append-drop (place ws x) ws) in
      omega (arith, passing_append (take (place ws x) ws) (drop (place ws x) ws))

  passing_order : (ws es : List ℕ) → passing (in_order ws es) ≡ passing ws + passing es
  unfolding in_order keep
  passing_order ws [] = omega arith
  passing_order ws (e ∷ es) =
      passing_order (inserted ws e) es ∙ omega (arith, passing_inserted ws e, passing_one e es)

  pub passing_ordered : (es : List ℕ) → passing (in_order [] es) ≡ passing es
  unfolding keep
  passing_ordered es = passing_order [] es ∙ omega arith

-- one test after the other
keep_keep : (p q : ℕ → Bool) (ws : List ℕ) → keep p (keep q ws) ≡ keep (λ w. q w && p w) ws
unfolding keep
keep_keep p q [] = refl
keep_keep p q (x ∷ ws) = ⊎_elim
    (λ (t : q x ≡ true). simp t (ap (λ (l : List ℕ). cond (p x) (x ∷ l) l) (keep_keep p q ws)))
    (λ (f : q x ≡ false). simp f (keep_keep p q ws))
    (either (q x))

-- each event as often, also among those up to a tick
pub each_ordered : (T : ℕ) (es : List ℕ) (w : ℕ) → how_often w (up_to T (in_order [] es)) ≡ how_often w (up_to T es)
each_ordered T es w =
    let early : ℕ → Bool = λ v. leb (tick_of v) T in
    let this : ℕ → Bool = λ v. eqb v w in
    ap length (keep_keep this early (in_order [] es))
    ∙ passing_ordered (λ v. early v && this v) es
    ∙ sym (ap length (keep_keep this early es))
