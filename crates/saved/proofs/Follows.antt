-- What the keeper holds, beside a group and its accepted events in book order: where its list has room for them they are its first words, and where
-- it hasn't it is full; and likewise those of closed ticks. True at a start, and kept by every call. Assumes nothing.
use mathlib.Core.Path.{◌≡◌, ap, ◌∙◌}
use mathlib.Core.Bool.{true, false}
use mathlib.Core.List.{List, ◌++◌}
use mathlib.Core.Logic.{⊎_elim}
use Prim.Native.Nat.{ℕ, suc, ◌+◌, ◌≤◌, ◌<◌}
use native.Mathlib.Omega.{arith}
use lib.Dec.{leb, ltb}
use lib.ListN.{length, take, drop, length-append, length-drop}
use lib.Seq.{take-append-le, take-append_seam}
use borrow.Author.Tests.{ltb-true, ltb-false, leb-true, leb-false, lt-ltb, le-ltb}
use Rattle.base.proofs.Truth.{either}
use Rattle.rules.specs.Ranges.{ticks}
use Rattle.event.specs.Word.{tick_of, kind_of, number_of}
use Rattle.group.specs.Accepted.{RequestAccepted}
use Rattle.group.specs.declared.Group.{Group}
use Rattle.insert.specs.Inserted.{inserted, inserted_list, inserted_count}
use Rattle.kept.specs.Kept.{started_with}
use Rattle.kept.specs.declared.Kept.{Kept}
use Rattle.insert.proofs.Among.{place, place_inside, length_inserted, take_inserted}
use Rattle.saved.specs.Saved.{up_to}
use Rattle.saved.proofs.Ordered.{Ordered, behind_closed, closed_same, all_closed}

-- of words that are to stand in front of a list of N: their count, and they, where it has room; N where it hasn't
pub record Front (N : ℕ) (list : List ℕ) (count : ℕ) (ws : List ℕ) : Type 0 where
  pub held : length ws ≤ N → count ≡ length ws
  pub words : length ws ≤ N → take (length ws) list ≡ ws
  pub full : N < length ws → count ≡ N

pub record Follows (N t : ℕ) (ws list : List ℕ) (kept : Kept) : Type 0 where
  pub long : length list ≡ N
  pub all : Front N list kept.count ws
  pub closed : Front N list kept.closed (up_to t ws)

-- ---- a request

module _ (N : ℕ) (g : Group) (ws list : List ℕ) (kept : Kept) (o : Ordered g ws) (f : Follows N g.closed ws list kept)
    (w : ℕ) (now : tick_of w ≡ g.closed + 1) (r : RequestAccepted g (kind_of w) (number_of w)) where
  abbrev new : List ℕ
  new = inserted ws w

  abbrev then : Kept
  then = record { count = inserted_count (length list) kept.count; closed = kept.closed }

  grown : length new ≡ suc (length ws)
  grown = length_inserted ws w

  abbrev old : List ℕ
  old = up_to g.closed ws

  early : length old ≤ place ws w
  early = behind_closed g ws o w now r

  still : up_to g.closed new ≡ old
  still = closed_same g ws o w now r

  -- the list has room
  module _ (room : length ws < N) where
    count_is : kept.count ≡ length ws
    count_is = f.all.held (omega arith)

    abbrev rest : List ℕ
    rest = drop (kept.count + 1) list

    list_is : inserted_list list kept.count w ≡ new ++ rest
    unfolding inserted_list
    list_is =
        let long = f.long in
        let c = count_is in
        simp (lt-ltb kept.count (length list) (omega arith))
        (ap (λ (x : List ℕ). inserted x w ++ rest) (ap (λ (n : ℕ). take n list) c ∙ f.all.words (omega arith)))

    counts : inserted_count (length list) kept.count ≡ length new
    unfolding inserted_count
    counts =
        let long = f.long in
        let c = count_is in
        simp (lt-ltb kept.count (length list) (omega arith)) (omega (arith, grown))

    length_rest : length rest + length new ≡ N
    length_rest =
        let long = f.long in
        let c = count_is in
        omega (arith, length-drop (kept.count + 1) list, grown)

    with_room : Follows N g.closed new (inserted_list list kept.count w) then
    with_room =
        let inner = place_inside ws w in
        let e = early in
        rw (list_is) (record {
          long = length-append new rest ∙ omega (arith, length_rest);
          all = record { held = λ h. counts; words = λ h. take-append_seam new rest; full = λ h. absurd (omega (arith, grown)) };
          closed = rw still (record {
            held = λ h. f.closed.held h;
            words = λ h. take-append-le (length old) new rest (omega (arith, grown)) ∙ take_inserted ws w (length old) e ∙ o.front;
            full = λ h. absurd (omega arith);
          });
        })

  -- it is full
  module _ (none : N ≤ length ws) where
    count_full : kept.count ≡ N
    count_full = ⊎_elim
        (λ (t : leb (length ws) N ≡ true). let h = leb-true _ _ t in f.all.held h ∙ omega arith)
        (λ (x : leb (length ws) N ≡ false). f.all.full (leb-false _ _ x))
        (either (leb (length ws) N))

    list_stays : inserted_list list kept.count w ≡ list
    unfolding inserted_list
    list_stays =
        let long = f.long in
        let c = count_full in
        simp (le-ltb kept.count (length list) (omega arith))

    count_stays : inserted_count (length list) kept.count ≡ N
    unfolding inserted_count
    count_stays =
        let long = f.long in
        let c = count_full in
        simp (le-ltb kept.count (length list) (omega arith)) c

    without_room : Follows N g.closed new (inserted_list list kept.count w) then
    without_room = rw list_stays (record {
      long = f.long;
      all = record { held = λ h. absurd (omega (arith, grown)); words = λ h. absurd (omega (arith, grown)); full = λ h. count_stays };
      closed = rw still f.closed;
    })

  pub request_follows : Follows N g.closed new (inserted_list list kept.count w) then
  request_follows = ⊎_elim
      (λ (t : ltb (length ws) N ≡ true). with_room (ltb-true _ _ t))
      (λ (x : ltb (length ws) N ≡ false). without_room (ltb-false _ _ x))
      (either (ltb (length ws) N))

-- ---- a close

pub close_follows : (N : ℕ) (g : Group) (ws list : List ℕ) (kept : Kept) → Ordered g ws → g.closed < ticks → Follows N g.closed ws list kept
    → Follows N (g.closed + 1) ws list (started_with kept.count)
close_follows N g ws list kept o left f = record { long = f.long; all = f.all; closed = rw (all_closed g ws o left) f.all }
