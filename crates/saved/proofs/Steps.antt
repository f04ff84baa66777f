-- Each call on the group, with the keeping that follows it: the keeper stays tied to what the calls reach. Assumes nothing.
use mathlib.Core.Path.{◌≡◌, refl, ap}
use mathlib.Core.Bool.{true, false}
use mathlib.Core.List.{List, [], ◌∷◌, ◌++◌}
use mathlib.Core.Logic.{⊎_elim}
use Prim.Native.Nat.{ℕ, ◌%◌, ◌+◌, ◌<◌}
use native.Mathlib.Omega.{arith}
use lib.Dec.{eqb, leb}
use lib.ListN.{length}
use borrow.Author.Tests.{eqb-true, leb-false, lt-leb}
use Rattle.base.proofs.Truth.{either}
use Rattle.rules.specs.Ranges.{ticks}
use Rattle.event.specs.Word.{word_of, kind_of, number_of}
use Rattle.event.proofs.Word.{tick_word, kind_word, number_word}
use Rattle.group.specs.Accepted.{RequestAccepted}
use Rattle.group.specs.Close.{close_answer}
use Rattle.group.specs.Request.{request_refusal, marked_group, request_answer}
use Rattle.group.specs.declared.Group.{Group}
use Rattle.group.proofs.Accepted.{accepted}
use Rattle.event.proofs.Carrier.{sheet_number}
use Rattle.group.proofs.Close.{closed_closed}
use Rattle.history.specs.Run.{Move, request, close, Reached, step, run, fresh}
use Rattle.base.specs.Keep.{keep}
use Rattle.insert.specs.Inserted.{inserted_list, inserted_count}
use Rattle.kept.specs.Kept.{open_word}
use Rattle.kept.specs.declared.Kept.{Kept}
use Rattle.saved.specs.Keeping.{Keeping, keep_step, keep_run, fresh_keeping}
use Rattle.saved.proofs.Order.{in_order, order_more}
use Rattle.saved.proofs.Ordered.{Ordered, fresh_ordered, request_ordered, close_ordered}
use Rattle.saved.proofs.Follows.{Follows, request_follows, close_follows}

-- the accepted events in book order
abbrev pub ordered : Reached → List ℕ
ordered r = in_order [] r.events

pub record Tied (N : ℕ) (r : Reached) (k : Keeping) : Type 0 where
  pub group : k.group ≡ r.group
  pub book : Ordered r.group (ordered r)
  pub follows : Follows N r.group.closed (ordered r) k.list k.kept

-- ---- a request

-- an accepted request's word
module _ (g : Group) (kind n : ℕ) (a : RequestAccepted g kind n) where
  n_small : n < 512
  n_small = omega (arith, sheet_number kind n a.ranged)

  abbrev word : ℕ
  word = word_of (g.closed + 1) kind n

  word_kept : open_word g.closed kind n ≡ word
  word_kept =
      let s = n_small in
      let k = a.known in
      let e : kind % 8 ≡ kind = omega arith in
      let f : n % 512 ≡ n = omega arith in
      simp (lt-leb ticks g.closed a.tick, e, f)

  module _ (N : ℕ) (es list : List ℕ) (kept : Kept) where
    abbrev was : Reached
    was = record { group = g; events = es }

    marked_tied : Tied N was (record { group = g; list = list; kept = kept })
        → Tied N (record { group = marked_group g kind n; events = es ++ (word ∷ []) })
        (record { group = marked_group g kind n; list = inserted_list list kept.count word; kept = record { count = inserted_count (length list) kept.count; closed = kept.closed } })
    unfolding marked_group
    marked_tied t =
        let now = tick_word (g.closed + 1) kind n a.known n_small in
        let is-kind = kind_word (g.closed + 1) kind n a.known n_small in
        let is_number = number_word (g.closed + 1) kind n a.known n_small in
        let mine : RequestAccepted g (kind_of word) (number_of word) = rw (is-kind, is_number) a in
        let more = order_more [] es word in
        record {
          group = refl;
          book = rw more (rw (is-kind, is_number) at (request_ordered g (in_order [] es) t.book word now mine));
          follows = rw more (request_follows N g (in_order [] es) list kept t.book t.follows word now mine);
        }

module _ (N : ℕ) (r : Reached) (k : Keeping) (t : Tied N r k) where
  abbrev g : Group
  g = r.group

  -- the keeper's group is the one reached
  own_group : k ≡ record { group = g; list = k.list; kept = k.kept }
  own_group = ap (λ (h : Group). record { group = h; list = k.list; kept = k.kept }) t.group

  own : Tied N r (record { group = g; list = k.list; kept = k.kept })
  own = record { group = refl; book = t.book; follows = t.follows }

  request_tied : (kind n : ℕ) → Tied N (step (request kind n) r) (keep_step (request kind n) k)
  unfolding step keep_step request_answer marked_group
  request_tied kind n = rw own_group (⊎_elim
      (λ (y : eqb (request_refusal g kind n) 0 ≡ true).
      let a = accepted g kind n (eqb-true _ _ y) in
      simp (y, word_kept g kind n a) (marked_tied g kind n a N r.events k.list k.kept own))
      (λ (f : eqb (request_refusal g kind n) 0 ≡ false). simp f own)
      (either (eqb (request_refusal g kind n) 0)))

  close_tied : Tied N (step close r) (keep_step close k)
  unfolding step keep_step close_answer
  close_tied = rw own_group (⊎_elim
      (λ (y : leb ticks g.closed ≡ true). simp y own)
      (λ (f : leb ticks g.closed ≡ false).
      let left = leb-false _ _ f in
      simp f (record {
        group = refl;
        book = close_ordered g (ordered r) t.book left;
        follows = rw (closed_closed g) (close_follows N g (ordered r) k.list k.kept t.book left t.follows);
      }))
      (either (leb ticks g.closed)))

-- ---- runs

pub run_tied : (N : ℕ) (calls : List Move) (r : Reached) (k : Keeping) → Tied N r k → Tied N (run calls r) (keep_run calls k)
unfolding run keep_run
run_tied N [] r k t = t
run_tied N (request kind n ∷ calls) r k t = run_tied N calls (step (request kind n) r) (keep_step (request kind n) k) (request_tied N r k t kind n)
run_tied N (close ∷ calls) r k t = run_tied N calls (step close r) (keep_step close k) (close_tied N r k t)

pub fresh_tied : (number : ℕ) (list : List ℕ) → Tied (length list) (fresh number) (fresh_keeping number list)
unfolding in_order keep
fresh_tied number list = record {
  group = refl;
  book = fresh_ordered number;
  follows = record {
    long = refl;
    all = record { held = λ h. refl; words = λ h. refl; full = λ h. absurd (omega arith) };
    closed = record { held = λ h. refl; words = λ h. refl; full = λ h. absurd (omega arith) };
  };
}
