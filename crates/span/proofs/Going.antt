-- The loop of `pairs`: the pass over the strips, the span that is open, and what is left to write. Assumes nothing.
use mathlib.Core.Path.{◌≡◌, refl, sym, ap, ◌∙◌, subst}
use mathlib.Core.Bool.{Bool, true, false}
use mathlib.Core.List.{List}
use mathlib.Core.Logic.{⊎_elim}
use Prim.Native.Nat.{ℕ, zero, suc, ◌+◌, ◌-◌, ◌/◌, ◌≤◌, ◌<◌}
use native.Mathlib.Omega.{arith}
use lib.Dec.{eqb, ltb, eqb-suc-zero}
use lib.ListN.{length, length-set}
use Rattle.base.proofs.Truth.{either}
use Rattle.formula.specs.Ticks.{grant}
use Rattle.formula.proofs.Move.{grant_start}
use Rattle.strip.specs.History.{history_of}
use Rattle.strip.proofs.Places.{Rising, UpTo}
use Rattle.standing.specs.Scan.{holding}
use Rattle.standing.specs.declared.Seen.{Seen}
use Rattle.stepping.proofs.Pass.{Gap, Turned, over_gap, quiet_end}
use Rattle.standing.proofs.Tells.{scan_holds}
use Rattle.pass.specs.Pass.{begun}
use Rattle.pass.specs.declared.Pass.{Pass}
use Rattle.pass.proofs.Turn.{place_of, Stands, Turns, begins}
use Rattle.span.specs.Answer.{spans_in}
use Rattle.spanning.specs.Spans.{Span}
use Rattle.spanning.specs.SpansOf.{ended_at, spans_from}
use Rattle.spanning.specs.Steps.{pair_at, pairs_from, turned, turned_list, ended, ended_list}
use Rattle.spanning.specs.declared.Spanning.{Spanning}
use Rattle.spanning.proofs.Left.{is_open, left, over, at_end, turn_list, turn_count, turn_open, end_list, end_count}

-- a list keeps its length
long_pair : (list : List ℕ) (place first last : ℕ) → length (pair_at list place first last) ≡ length list
long_pair list place first last = ⊎_elim
    (λ (t : ltb place (length list / 2) ≡ true). rw t (simp length-set))
    (λ (f : ltb place (length list / 2) ≡ false). rw f)
    (either (ltb place (length list / 2)))

pub long_ended : (list : List ℕ) (so : Spanning) (last : ℕ) → length (ended_list list so last) ≡ length list
long_ended list so last = ⊎_elim
    (λ (t : eqb so.first 0 ≡ true). rw t)
    (λ (f : eqb so.first 0 ≡ false). rw f (long_pair list so.count so.first last))
    (either (eqb so.first 0))

long_turned : (list : List ℕ) (so : Spanning) (t : ℕ) (g : Bool) → length (turned_list list so t g) ≡ length list
long_turned list so t true = refl
long_turned list so t false = long_ended list so (t - 1)

module _ (m s : List ℕ) (now : ℕ) where
  abbrev holds : ℕ → Bool
  holds = grant (history_of m) (history_of s)

  pub record Going (was : List ℕ) (p : Pass) (so : Spanning) (list : List ℕ) : Type 0 where
    pub stands : Stands m s p
    -- a span is open exactly where the grant holds
    pub opened : holds p.tick ≡ is_open so.first
    -- no more spans than events
    pub few : so.count ≤ p.i + p.j
    pub count : length (spans_in m s now) ≡ so.count + length (left holds now so.first p.tick)
    pub long : length list ≡ length was
    pub pairs : pairs_from was 0 (spans_in m s now) ≡ pairs_from list so.count (left holds now so.first p.tick)

  module _ (rm : Rising m) (rs : Rising s) where
    pub going_start : (list : List ℕ) → Going list (begun m s) (record { first = 0; count = 0 }) list
    going_start list =
        let all : spans_in m s now ≡ left holds now 0 0 = ap (spans_from holds 0 0) (let e : now ≡ now - 0 = omega arith in e) in
        record {
          stands = begins m s rm rs;
          opened = grant_start (history_of m) (history_of s);
          few = omega arith;
          count = ap length all ∙ (let e : length (left holds now 0 0) ≡ 0 + length (left holds now 0 0) = omega arith in e);
          long = refl;
          pairs = ap (pairs_from list 0) all;
        }

    module _ (um : UpTo now m) (us : UpTo now s) (was : List ℕ) (p : Pass) (so : Spanning) (list : List ℕ) (x : Going was p so list) where
      -- over quiet ticks the grant stays
      stays : (u : ℕ) → p.tick ≤ u → Gap (history_of m) (history_of s) p.tick (suc u) → holds u ≡ is_open so.first
      stays u h g =
          sym (scan_holds (history_of m) (history_of s) u)
          ∙ ap (λ (y : Seen). holding y.standing) (over_gap (history_of m) (history_of s) p.tick u h g)
          ∙ scan_holds (history_of m) (history_of s) p.tick
          ∙ x.opened

      module _ (q : Pass) (turns : Turns m s p q) where
        abbrev t : Turned m s (place_of p) (place_of q)
        t = turns.turned

        -- the grant after the tick, as the pass tells it
        told : holding q.seen.standing ≡ holds q.tick
        told = ap (λ (y : Seen). holding y.standing) t.passed.so_far ∙ scan_holds (history_of m) (history_of s) q.tick

        quiet : (u : ℕ) → p.tick < u → u < q.tick → holds u ≡ is_open so.first
        quiet u a b = stays u (omega arith) (λ v y z. t.between v y (omega arith))

        more : (first count : ℕ) (g : Bool) → (turned (record { first = first; count = count }) q.tick g).count ≤ count + 1
        more first count true = omega arith
        more zero count false = omega arith
        more (suc f) count false = simp eqb-suc-zero (omega arith)

        on : (g : Bool) → g ≡ holds q.tick → Going was q (turned so q.tick g) (turned_list list so q.tick g)
        on g e =
            let upto = t.passed.upto now um us in
            subst (λ (b : Bool). Going was q (turned so q.tick b) (turned_list list so q.tick b)) (sym e) (record {
              stands = turns.stands;
              opened = turn_open so q.tick (holds q.tick) (omega (arith, t.later));
              few = omega (arith, more so.first so.count (holds q.tick), x.few, t.more);
              count = x.count ∙ turn_count holds now so p.tick q.tick t.later upto quiet;
              long = long_turned list so q.tick (holds q.tick) ∙ x.long;
              pairs = x.pairs ∙ turn_list holds now so p.tick q.tick t.later upto quiet list;
            })

        pub going_on : Going was q (turned so q.tick (holding q.seen.standing)) (turned_list list so q.tick (holding q.seen.standing))
        going_on = on (holding q.seen.standing) told

      -- no event is left: an open span ends at now
      module _ (h : length m + length s ≤ p.i + p.j) where
        rest : left holds now so.first p.tick ≡ ended_at so.first now
        rest =
            over holds now so.first p.tick now (x.stands.passed.upto now um us) (omega arith)
            (λ u a b. stays u (omega arith) (λ v y z. quiet_end m s rm rs (place_of p) x.stands.passed h v y))
            ∙ at_end holds now so.first

        pub going_count : (ended so).count ≡ length (spans_in m s now)
        going_count = sym (x.count ∙ ap (λ (l : List Span). so.count + length l) rest ∙ end_count so.count now so.first)

        pub going_list : ended_list list so now ≡ pairs_from was 0 (spans_in m s now)
        going_list = sym (x.pairs ∙ ap (pairs_from list so.count) rest ∙ end_list so.count now so.first list)
