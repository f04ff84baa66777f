-- Every group that calls reach is gated by the formula over the events that it accepted, and a station's mask is its groups' reads. Assumes nothing.
use mathlib.Core.Path.{◌≡◌, refl, sym, ap, ◌∙◌, subst}
use mathlib.Core.Bool.{Bool, true, false, cond, true≢false, false≢true}
use mathlib.Core.Logic.{◌↔◌, ⊎_elim}
use mathlib.Core.List.{List, ◌++◌}
use Prim.Native.Nat.{ℕ, ◌≤◌, ◌<◌}
use native.Mathlib.Omega.{arith}
use lib.Dec.{eqb}
use lib.ListN.{length, get_or}
use borrow.Author.Tests.{le-ltb, lt-leb, ne_eqb}
use Rattle.base.proofs.Truth.{either}
use Rattle.rules.specs.Ranges.{models, sheets, groups}
use Rattle.bits.specs.Bit.{bit}
use Rattle.bits.specs.Granted.{granted}
use Rattle.bits.proofs.Bit.{bit_zero}
use Rattle.group.specs.Read.{Granted, Denied, read_refusal, read_answer}
use Rattle.group.specs.declared.Group.{Group}
use Rattle.group.proofs.Request.{request_code}
use Rattle.station.specs.Mask.{mask_of, list_refusal, answer_with, mask_answer}
use Rattle.station.proofs.Positions.{mask_bit, mask_none, grants_granted}
use Rattle.history.specs.Run.{Move, Reached, run, reached}
use Rattle.history.proofs.Answers.{read_granted}
use Rattle.history.proofs.Gate as gate
use Rattle.history.proofs.Runs.{reached_append}
use Rattle.replay.specs.Calls.{book_calls}
use Rattle.book.specs.Read.{records_in, book_read}
use Rattle.format.specs.Header.{ticks_in, number_in}
use Rattle.replay.specs.Replay.{replayed_group}
use Rattle.book.specs.declared.BookRead.{BookRead}
use Rattle.book.proofs.Accepted.{read_code, read_headed, read_formed, good_read}
use Rattle.replay.proofs.Replaying.{replay_reached, replay_calls}
use Rattle.demands.specs.Calls.{Call, Run, start_fresh, start_book, reach}
use Rattle.demands.specs.Gated.{Gated}
use Rattle.demands.specs.Ours.{ours}
use Rattle.demands.proofs.Counted.{book_stands}
use Rattle.demands.proofs.Judgement.{said_granted}
use Rattle.demands.proofs.Moving.{moving, standing, of, asked, reach_moving, fresh_number, fresh_reach, run_number}
use Rattle.demands.proofs.Parts.{delivered_holds}

-- a read in range that isn't granted is denied
denied_case : (b : Bool) → (cond b Granted Denied ≡ Denied) ↔ (b ≡ false)
denied_case true = (λ e. absurd (true≢false (cc e)), λ e. absurd (true≢false e))
denied_case false = (λ e. refl, λ e. refl)

read_denied : (g : Group) (m s : ℕ) → m < models → s < sheets → (read_answer g m s ≡ Denied) ↔ (granted g.grants m s ≡ false)
unfolding read_answer
read_denied g m s l b = simp (lt-leb _ _ l, lt-leb _ _ b) (denied_case (granted g.grants m s))

-- a bit that says P is off exactly where P doesn't hold
unsaid : {P : Type 0} (b : Bool) → (b ≡ true) ↔ P → (b ≡ false) ↔ (P → ⊥)
unsaid true says = (λ e. absurd (true≢false e), λ n. absurd (n (says.0 refl)))
unsaid false says = (λ e p. false≢true (says.1 p), λ n. refl)

pub reached_gated : (number asks : ℕ) (moves : List Move) → (reached number moves).group.number ≡ asks → Gated ours (of asks (reached number moves))
reached_gated number asks moves same =
    let g = (reached number moves).group in
    let says = gate.gate_is_formula number moves in
    record {
      closed = refl;
      number = same;
      read = gate.read_is_formula number moves;
      denied = λ m s l b.
          let d = read_denied g m s l b in
          let u = unsaid (granted g.grants m s) (says m s l b) in
          (λ e. u.0 (d.0 e), λ n. d.1 (u.1 n));
      count = gate.count_is_formula number moves;
      good = gate.closed_good number moves;
      judge = λ m s l b short_m short_s.
          let j = gate.judge_agrees number moves m s l b short_m short_s in
          said_granted (λ x. (says m s l b).0 (j.0 x), λ y. j.1 ((says m s l b).1 y));
      accepts = λ kind n.
          let w = gate.accepts_well_formed number moves kind n in
          let c = request_code g kind n in
          (λ e. w.0 (sym c ∙ e), λ x. c ∙ w.1 x);
      delivery = λ m l store out n e. delivered_holds g.grants m _ (λ s b. says m s l b) store out n e;
    }

-- a run on a group that calls had reached before it
pub run_gated : (number asks : ℕ) (before : List Move) (calls : List Call) → (reached number before).group.number ≡ asks
    → Gated ours (reach ours (of asks (reached number before)) calls)
run_gated number asks before calls same =
    let whole : Reached = run (moving calls) (reached number before) in
    let one : reached number (before ++ moving calls) ≡ whole = reached_append number before (moving calls) in
    let kept : (reached number (before ++ moving calls)).group.number ≡ asks = ap (λ (r : Reached). r.group.number) one ∙ run_number (moving calls) (reached number before) ∙ same in
    subst (Gated ours) (ap (of asks) one ∙ sym (reach_moving asks calls (reached number before)))
    (reached_gated number asks (before ++ moving calls) kept)

pub fresh_gated : (number : ℕ) (calls : List Call) → Gated ours (reach ours (start_fresh ours number) calls)
fresh_gated number calls =
    subst (Gated ours) (sym (fresh_reach number calls))
    (reached_gated number (asked number) (moving calls) (run_number (moving calls) _ ∙ fresh_number number))

-- a run on the group that an accepted book was read into
pub book_gated : (b list : List ℕ) (calls : List Call) → (book_read b (length list)).code ≡ 0 → Gated ours (reach ours (start_book ours b list) calls)
book_gated b list calls e =
    let T = ticks_in b in
    let ws = records_in b in
    let formed = read_formed b (length list) e in
    let limit = (read_headed b (length list) e).range.time in
    let answer = good_read b list (read_code b (length list) e) formed in
    let read : Group = (book_read b (length list)).group in
    let group : replayed_group T (number_in b) ws ≡ read = replay_calls T (number_in b) ws limit formed ∙ ap (λ (r : BookRead). r.group) (sym answer) in
    let from : Group → Reached = λ g. record { group = g; events = ws } in
    let same : reached (number_in b) (book_calls ws T) ≡ from read = replay_reached T (number_in b) ws limit formed ∙ ap from group in
    let stands = book_stands b list e in
    let begins : of (number_in b) (reached (number_in b) (book_calls ws T)) ≡ start_book ours b list =
    ap (of (number_in b)) same ∙ ap (standing read (number_in b) ws) stands.time in
    subst (λ (r : Run Group). Gated ours (reach ours r calls)) begins
    (run_gated (number_in b) (number_in b) (book_calls ws T) calls (ap (λ (r : Reached). r.group.number) same ∙ stands.number))

-- Position i of a list, asked for a model and a sheet within the ranges; d is what stands past its end.
module _ (gs : List Group) (m s i : ℕ) (d : Group) (few : length gs ≤ groups) (l : m < models) (b : s < sheets) (h : i < length gs) where
  mask_answered : (mask_answer gs m s).mask ≡ mask_of gs m s
  unfolding mask_answer answer_with list_refusal read_refusal
  mask_answered = simp (ne_eqb (length gs) 0 (λ e. absurd (omega arith)), le-ltb _ _ few, lt-leb _ _ l, lt-leb _ _ b)

  mask_grants : bit (mask_answer gs m s).mask i ≡ granted (get_or gs i d).grants m s
  mask_grants = ap (λ (w : ℕ). bit w i) mask_answered ∙ mask_bit gs m s i d h ∙ grants_granted (get_or gs i d) m s l b

  pub mask_reads : (bit (mask_answer gs m s).mask i ≡ true) ↔ (read_answer (get_or gs i d) m s ≡ Granted)
  mask_reads =
      let read = read_granted (get_or gs i d) m s l b in
      (λ t. read.1 (sym mask_grants ∙ t), λ y. mask_grants ∙ read.0 y)

-- no bit past the list's end; a refused question has none at all
pub mask_ends : (gs : List Group) (m s i : ℕ) → length gs ≤ i → bit (mask_answer gs m s).mask i ≡ false
unfolding mask_answer answer_with
mask_ends gs m s i h = ⊎_elim
    (λ (t : eqb (list_refusal (length gs) m s) 0 ≡ true). simp t (mask_none gs m s i h))
    (λ (f : eqb (list_refusal (length gs) m s) 0 ≡ false). simp f (bit_zero i))
    (either (eqb (list_refusal (length gs) m s) 0))
