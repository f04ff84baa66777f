-- Calls that are all well-formed. Of any gate that meets demand 2 it is known, without a look at the gate, which ticks they close and which events they
-- leave: it accepts them all. Assumes nothing.
use mathlib.Core.Path.{◌≡◌, refl, sym, ap, ap₂, ◌∙◌, subst}
use mathlib.Core.Bool.{Bool, true, false, cond, ◌&&◌, true≢false}
use mathlib.Core.List.{List, [], ◌∷◌, ◌++◌, append_assoc}
use Prim.Native.Nat.{ℕ, ◌+◌}
use lib.Dec.{eqb, leb, ltb}
use lib.ListN.{length}
use borrow.Author.Tests.{leb-true, ltb-true, eq-eqb}
use Rattle.base.proofs.Truth.{both}
use Rattle.rules.specs.Kinds.{LR}
use Rattle.rules.specs.Ranges.{ticks}
use Rattle.event.specs.Word.{word_of}
use Rattle.formula.specs.Ticks.{grant}
use Rattle.formula.proofs.Meaning.{means_grant}
use Rattle.event.specs.Carrier.{carriers}
use Rattle.strip.specs.declared.Side.TheVariants.{Model, Sheet}
use Rattle.strip.specs.Good.{first_bad}
use Rattle.strip.specs.History.{history_of}
use Rattle.strip.proofs.Bad.{all_good}
use Rattle.strip.specs.Strips.{strip_of}
use Rattle.history.specs.WellFormed.{side_of, WellFormed}
use Rattle.demands.specs.Calls.{Call, request, close, Run, start_fresh, next, reach}
use Rattle.demands.specs.Gate.{Gate}
use Rattle.demands.specs.Gated.{Granting, Gated}

-- a request of a kind for a carrier, or a close
pub data Turn : Type 0 where
  ask : ℕ → ℕ → Turn
  tick : Turn

abbrev pub call : Turn → Call
call (ask kind n) = request kind n
call tick = close

-- the ticks and the events that a story leaves, where all is accepted; and whether each request is well-formed where it stands
pub record Told : Type 0 where
  pub closed : ℕ
  pub events : List ℕ

abbrev pub tell : Told → Turn → Told
tell x (ask kind n) = record { closed = x.closed; events = x.events ++ (word_of (x.closed + 1) kind n ∷ []) }
tell x tick = record { closed = x.closed + 1; events = x.events }

abbrev strip_with : Told → ℕ → ℕ → List ℕ
strip_with x kind n = strip_of (side_of kind) n (x.closed + 1) x.events ++ (word_of (x.closed + 1) kind n ∷ [])

abbrev pub fits : Told → Turn → Bool
fits x (ask kind n) = ltb x.closed ticks && leb kind LR && ltb n (carriers kind) && leb (length (strip_with x kind n)) (first_bad (side_of kind) (x.closed + 1) (strip_with x kind n))
fits x tick = ltb x.closed ticks

unfoldable pub tell_all : Told → List Turn → Told
tell_all x [] = x
tell_all x (c ∷ story) = tell_all (tell x c) story

unfoldable pub all_fit : Told → List Turn → Bool
all_fit x [] = true
all_fit x (c ∷ story) = fits x c && all_fit (tell x c) story

unfoldable pub calls_of : List Turn → List Call
calls_of [] = []
calls_of (c ∷ story) = call c ∷ calls_of story

abbrev pub begins : Told
begins = record { closed = 0; events = [] }

-- whether the formula grants a model a sheet at its end
abbrev pub tests : List Turn → ℕ → ℕ → Bool
tests story m s = let x = tell_all begins story in grant (history_of (strip_of Model m x.closed x.events)) (history_of (strip_of Sheet s x.closed x.events)) x.closed

pub well_formed : (x : Told) (kind n : ℕ) → fits x (ask kind n) ≡ true → WellFormed x.closed x.events kind n
well_formed x kind n t =
    let s = strip_with x kind n in
    let a = both (ltb x.closed ticks && leb kind LR && ltb n (carriers kind)) (leb (length s) (first_bad (side_of kind) (x.closed + 1) s)) t in
    let b = both (ltb x.closed ticks && leb kind LR) (ltb n (carriers kind)) a.0 in
    let c = both (ltb x.closed ticks) (leb kind LR) b.0 in
    record {
      tick = ltb-true x.closed ticks c.0;
      known = leb-true kind LR c.1;
      ranged = ltb-true n (carriers kind) b.1;
      good = all_good (side_of kind) (x.closed + 1) s (leb-true (length s) (first_bad (side_of kind) (x.closed + 1) s) a.1);
    }

module _ {State : Type 0} (G : Gate State) (number : ℕ) (gated : (calls : List Call) → Gated G (reach G (start_fresh G number) calls)) where
  -- where the run stands is what was told
  abbrev At : Run State → Told → Type 0
  At r x = (r.closed ≡ x.closed) × (r.events ≡ x.events)

  at_next : (r : Run State) (x : Told) (c : Turn) → Gated G r → At r x → fits x c ≡ true → At (next G r (call c)) (tell x c)
  unfolding next
  at_next r x (ask kind n) g a t =
      let well = subst (λ (k : ℕ). WellFormed k r.events kind n) (sym a.0) (subst (λ (l : List ℕ). WellFormed x.closed l kind n) (sym a.1) (well_formed x kind n t)) in
      let code : eqb (G.request r.group kind n).code 0 ≡ true = eq-eqb _ _ ((g.accepts kind n).1 well) in (
        a.0,
        ap (λ (b : Bool). cond b (r.events ++ (word_of (r.closed + 1) kind n ∷ [])) r.events) code
            ∙ ap₂ (λ (l : List ℕ) (k : ℕ). l ++ (word_of (k + 1) kind n ∷ [])) a.1 a.0,
      )
  at_next r x tick g a t =
      (ap (λ (k : ℕ). cond (ltb k ticks) (k + 1) k) a.0 ∙ ap (λ (b : Bool). cond b (x.closed + 1) x.closed) t, a.1)

  reach_more : (before : List Call) (c : Call) (r : Run State) → reach G r (before ++ (c ∷ [])) ≡ next G (reach G r before) c
  unfolding reach
  reach_more [] c r = refl
  reach_more (d ∷ before) c r = reach_more before c (next G r d)

  at_all : (story : List Turn) (before : List Call) (x : Told) → At (reach G (start_fresh G number) before) x → all_fit x story ≡ true
      → At (reach G (start_fresh G number) (before ++ calls_of story)) (tell_all x story)
  unfolding tell_all all_fit calls_of
  at_all [] before x a t = subst (λ (l : List Call). At (reach G (start_fresh G number) l) x) (sym (append_nil before)) a
    where
      append_nil : (l : List Call) → l ++ [] ≡ l
      append_nil [] = refl
      append_nil (y ∷ l) = ap (λ (k : List Call). y ∷ k) (append_nil l)
  at_all (c ∷ story) before x a t =
      let b = both (fits x c) (all_fit (tell x c) story) t in
      let here = at_next (reach G (start_fresh G number) before) x c (gated before) a b.0 in
      let more = subst (λ (r : Run State). At r (tell x c)) (sym (reach_more before (call c) (start_fresh G number))) here in
      subst (λ (l : List Call). At (reach G (start_fresh G number) l) (tell_all (tell x c) story)) (append_assoc before (call c ∷ []) (calls_of story))
      (at_all story (before ++ (call c ∷ [])) (tell x c) more b.1)

  module _ (story : List Turn) (fine : all_fit begins story ≡ true) where
    abbrev pub end : Run State
    end = reach G (start_fresh G number) (calls_of story)

    pub stands : At end (tell_all begins story)
    unfolding reach
    stands = at_all story [] begins (refl, refl) fine

    -- and so it is known whether the formula grants
    grants_by : (m s : ℕ) → grant (history_of (strip_of Model m end.closed end.events)) (history_of (strip_of Sheet s end.closed end.events)) end.closed ≡ tests story m s
    grants_by m s = ap₂ (λ (k : ℕ) (l : List ℕ). grant (history_of (strip_of Model m k l)) (history_of (strip_of Sheet s k l)) k) stands.0 stands.1

    pub does_grant : (m s : ℕ) → tests story m s ≡ true → Granting end m s
    does_grant m s t = (means_grant _ _ _).0 (grants_by m s ∙ t)

    pub grants_not : (m s : ℕ) → tests story m s ≡ false → Granting end m s → ⊥
    grants_not m s f x = true≢false (sym ((means_grant _ _ _).1 x) ∙ grants_by m s ∙ f)
