-- On any gate, two lists of calls that have the same shared calls, in the same order, are alike, wherever and however many the other calls are. Assumes nothing.
use mathlib.Core.Path.{◌≡◌, sym, ◌∙◌, subst}
use mathlib.Core.Bool.{true, false, true≢false}
use mathlib.Core.List.{List, [], ◌∷◌}
use mathlib.Core.Logic.{⊎_elim}
use Prim.Native.Nat.{ℕ}
use Rattle.base.proofs.Truth.{either}
use Rattle.demands.specs.Calls.{Call, Run, next}
use Rattle.demands.specs.Alike.{shared, shared_in, Alike, done, both, left, right}
use Rattle.demands.specs.Gate.{Gate}

module _ (m : ℕ) where
  in_shared : (c : Call) (calls : List Call) → shared m c ≡ true → shared_in m (c ∷ calls) ≡ c ∷ shared_in m calls
  unfolding shared_in
  in_shared c calls t = simp t

  not_shared : (c : Call) (calls : List Call) → shared m c ≡ false → shared_in m (c ∷ calls) ≡ shared_in m calls
  unfolding shared_in
  not_shared c calls f = simp f

module _ {State : Type 0} (G : Gate State) (m : ℕ) where
  -- the first list has no shared call left
  from_none : (r : Run State) (calls' : List Call) → [] ≡ shared_in m calls' → Alike G m r [] calls'
  from_none r [] e = done
  from_none r (d ∷ calls') e = ⊎_elim
      (λ (t : shared m d ≡ true). absurd (true≢false (cc (in_shared m d calls' t))))
      (λ (f : shared m d ≡ false). right f (from_none r calls' (rw (not_shared m d calls' f) at e)))
      (either (shared m d))

  -- the first list's next call is shared: the second comes to it
  from_shared : (r : Run State) (c : Call) (calls : List Call) → shared m c ≡ true
      → ((calls' : List Call) → shared_in m calls ≡ shared_in m calls' → Alike G m (next G r c) calls calls')
      → (calls' : List Call) → c ∷ shared_in m calls ≡ shared_in m calls' → Alike G m r (c ∷ calls) calls'
  unfolding shared_in
  from_shared r c calls s next [] e = absurd (true≢false (cc e))
  from_shared r c calls s next (d ∷ calls') e = ⊎_elim
      (λ (t : shared m d ≡ true).
      let same : c ∷ shared_in m calls ≡ d ∷ shared_in m calls' = rw (in_shared m d calls' t) at e in
      let head : c ≡ d = cc same in
      let rest : shared_in m calls ≡ shared_in m calls' = cc same in
      subst (λ (x : Call). Alike G m r (c ∷ calls) (x ∷ calls')) head (both s (next calls' rest)))
      (λ (f : shared m d ≡ false). right f (from_shared r c calls s next calls' (rw (not_shared m d calls' f) at e)))
      (either (shared m d))

  pub same_shared : (r : Run State) (calls calls' : List Call) → shared_in m calls ≡ shared_in m calls' → Alike G m r calls calls'
  unfolding shared_in
  same_shared r [] calls' e = from_none r calls' e
  same_shared r (c ∷ calls) calls' e = ⊎_elim
      (λ (t : shared m c ≡ true). from_shared r c calls t (same_shared (next G r c) calls) calls' (sym (in_shared m c calls t) ∙ e))
      (λ (f : shared m c ≡ false). left f (same_shared (next G r c) calls calls' (sym (not_shared m c calls f) ∙ e)))
      (either (shared m c))
