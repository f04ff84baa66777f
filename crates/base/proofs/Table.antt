-- Laws of `table`: its length, what stands at a place, and when two are equal. Assumes nothing.
use mathlib.Core.Path.{◌≡◌, refl, ap, ap₂}
use mathlib.Core.List.{List, ◌∷◌}
use Prim.Native.Nat.{ℕ, zero, suc, ◌<◌, zero-le, suc-le-suc}
use native.Mathlib.Nat.{not-suc-le-zero, le_of_suc-le-suc}
use lib.ListN.{length, get_or}
use Rattle.base.specs.Table.{table}

module _ {A : Type 0} where
  pub length_table : (n : ℕ) (f : ℕ → A) → length (table n f) ≡ n
  unfolding table
  length_table zero f = refl
  length_table (suc n) f = ap suc (length_table n (λ k. f (suc k)))

  pub get_or_table : (n : ℕ) (f : ℕ → A) (i : ℕ) (d : A) → i < n → get_or (table n f) i d ≡ f i
  unfolding table
  get_or_table zero f i d h = absurd (not-suc-le-zero h)
  get_or_table (suc n) f zero d h = refl
  get_or_table (suc n) f (suc i) d h = get_or_table n (λ k. f (suc k)) i d (le_of_suc-le-suc h)

  -- two rules that agree below n have one list
  pub table_ext : (n : ℕ) (f h : ℕ → A) → ((i : ℕ) → i < n → f i ≡ h i) → table n f ≡ table n h
  unfolding table
  table_ext zero f h e = refl
  table_ext (suc n) f h e = ap₂ (λ (x : A) (l : List A). x ∷ l) (e 0 (suc-le-suc zero-le)) (table_ext n (λ k. f (suc k)) (λ k. h (suc k)) (λ i hi. e (suc i) (suc-le-suc hi)))
