-- The demands shut out every gate of specs/Gates.antt, and a gate that answers everybody alike meets demand 3 alone. Assumes nothing.
use mathlib.Core.Path.{◌≡◌, refl, sym, ap, ap₂, ◌∙◌, subst}
use mathlib.Core.Bool.{Bool, true, false, cond, ◌||◌, true≢false}
use mathlib.Core.List.{List, [], ◌∷◌, ◌++◌}
use Prim.Native.Nat.{ℕ, ◌+◌, ◌<◌}
use native.Mathlib.Omega.{arith}
use lib.Dec.{eqb}
use lib.ListN.{length, get_or, drop}
use borrow.Author.Tests.{eq-eqb, ne_eqb, lt-leb}
use Rattle.base.specs.First.{first}
use Rattle.rules.specs.Ranges.{sheets}
use Rattle.rules.specs.Refusals.{bad_number, bad_store}
use Rattle.rules.specs.Kinds.{SJ, LJ, LL, SA, LA}
use Rattle.event.specs.Word.{word_of}
use Rattle.formula.specs.Since.{since}
use Rattle.formula.specs.Ticks.{inside, liberal, by_add, by_join, grant}
use Rattle.formula.proofs.Meaning.{means_grant}
use Rattle.strip.specs.Good.{tick_before, good_place, first_bad}
use Rattle.strip.specs.History.{history_of}
use Rattle.strip.specs.declared.Side.TheVariants.{Model, Sheet}
use Rattle.strip.proofs.Bad.{all_good}
use Rattle.judge.specs.Judge.{StripsAccepted}
use Rattle.bits.specs.Bit.{bit}
use Rattle.replay.specs.Replay.{counted}
use Rattle.bits.specs.Granted.{granted}
use Rattle.bits.proofs.Bit.{bit_zero}
use Rattle.group.specs.Close.{close_answer}
use Rattle.group.specs.Fresh.{fresh_group, fresh_answer}
use Rattle.group.specs.Marks.{model_in, sheet_in}
use Rattle.group.specs.Read.{Granted, Denied}
use Rattle.group.specs.Request.{request_answer, request_refusal, marked_group}
use Rattle.group.specs.declared.Group.{Group}
use Rattle.delivery.specs.Answer.{buffer_after}
use Rattle.delivery.specs.Delivery.{Delivery, Delivered, Refused}
use Rattle.wire.specs.Word.{le32, bytes32}
use Rattle.group.proofs.Fresh.{fresh_granted}
use Rattle.group.proofs.Request.{bit_marked, request_keeps}
use Rattle.base.specs.Keep.{keep}
use Rattle.history.proofs.Answers.{read_granted}
use Rattle.demands.specs.Alike.{shared, answers_of, Alike, done, both, stores, left, right}
use Rattle.demands.specs.Calls.{Call, request, close, read, count, deliver, Answer, delivered, answer_to, Run, start_fresh, start_book, next, reach}
use Rattle.demands.specs.Delivered.{parts_of, parts_in, flat_parts}
use Rattle.demands.specs.Gated.{Gated}
use Rattle.demands.specs.One.{DemandOne}
use Rattle.demands.specs.Two.{DemandTwo}
use Rattle.demands.specs.Three.{DemandThree}
use Rattle.demands.specs.Ours.{ours}
use Rattle.demands.specs.Refusals.{refused_delivery}
use Rattle.demands.proofs.One.{demand_one}
use Rattle.demands.proofs.Two.{demand_two}
use Rattle.wrong.specs.Gates.{taken, unsaid, padded, hidden, refuses_all, denies_all, undated, undated_in_c, moment_dated, held_dated, early_dated, late_dated, misnaming, idle, counting, frozen, late, nameless, leak, unsaying, telling, overhanging, storing, undelivering, inventing, padding}
use Rattle.wrong.proofs.Causes.{undates, undates_in_c, dates_by_moment, dates_by_hold, dates_early, dates_late, misnames}
use Rattle.wrong.proofs.Story.{Turn, ask, tick, begins, tell_all, all_fit, calls_of, tests, well_formed, does_grant, grants_not}
use Rattle.wrong.proofs.In.{same_reach, in_after}
use Rattle.wrong.proofs.Fresh.{nobody, store, fresh_delivers, fresh_buffer}

-- ---- the stories

-- model 0 joins and sheet 0 is added, both liberally, in one tick: granted
abbrev meeting : List Turn
meeting = ask LJ 0 ∷ ask LA 0 ∷ tick ∷ []

meeting_fits : all_fit begins meeting ≡ true
unfolding all_fit first first_bad good_place tick_before keep
meeting_fits = refl

meeting_grants : tests meeting 0 0 ≡ true
unfolding tell_all keep history_of since inside liberal by_add by_join grant
meeting_grants = refl

-- the leak: the model was in and stepped out, the sheet was added, the model joined again, strictly
abbrev leaking : List Turn
leaking = ask SJ 0 ∷ tick ∷ ask LL 0 ∷ tick ∷ ask LA 0 ∷ tick ∷ ask SJ 0 ∷ tick ∷ []

leaking_fits : all_fit begins leaking ≡ true
unfolding all_fit first first_bad good_place tick_before keep
leaking_fits = refl

leaking_grants : tests leaking 0 0 ≡ false
unfolding tell_all keep history_of since inside liberal by_add by_join grant
leaking_grants = refl

-- ---- calls that don't do their work

refuses_all_lem : DemandTwo refuses_all → ⊥
unfolding reach first_bad good_place tick_before keep first
refuses_all_lem d = let e = ((d.gate 0 []).accepts LJ 0).1 (well_formed begins LJ 0 refl) in absurd (omega (arith, e))

-- what a read that is granted needs, and a group with a fresh one's grants doesn't have
not_granted : (g : Group) → g.grants ≡ nobody → ours.read g 0 0 ≡ Granted → ⊥
not_granted g same e =
    let t : granted g.grants 0 0 ≡ true = (read_granted g 0 0 (omega arith) (omega arith)).0 e in
    true≢false (sym t ∙ ap (λ (l : List ℕ). granted l 0 0) same ∙ fresh_granted 0 0 0)

does_nothing : DemandTwo idle → ⊥
unfolding reach next fresh_answer fresh_group
does_nothing d = let e = (d.gate 0 (close ∷ [])).closed in absurd (omega (arith, e))

only_counts : DemandTwo counting → ⊥
unfolding counted reach next calls_of fresh_answer
only_counts d =
    let granting = does_grant counting 0 (d.gate 0) meeting meeting_fits 0 0 meeting_grants in
    let g = (request_answer (fresh_answer 0).group LJ 0).group in
    not_granted _ ((request_keeps g LA 0).grants ∙ (request_keeps (fresh_answer 0).group LJ 0).grants)
    (((d.gate 0 (calls_of meeting)).read 0 0 (omega arith) (omega arith)).1 granting)

-- a quiet tick, and then the meeting in the next
abbrev second : List Turn
second = tick ∷ ask LJ 0 ∷ ask LA 0 ∷ tick ∷ []

second_fits : all_fit begins second ≡ true
unfolding all_fit first first_bad good_place tick_before keep
second_fits = refl

second_grants : tests second 0 0 ≡ true
unfolding tell_all keep history_of since inside liberal by_add by_join grant
second_grants = refl

quiet_fits : all_fit begins (tick ∷ []) ≡ true
unfolding all_fit
quiet_fits = refl

quiet_grants : tests (tick ∷ []) 0 0 ≡ false
unfolding tell_all keep history_of since inside liberal by_add by_join grant
quiet_grants = refl

-- the first close is right, so it grants nothing; the second leaves the grants
freezes : DemandTwo frozen → ⊥
unfolding counted reach next calls_of fresh_answer fresh_group
freezes d =
    let g0 = (close_answer (fresh_answer 0).group).group in
    let g1 = (request_answer g0 LJ 0).group in
    let g2 = (request_answer g1 LA 0).group in
    let once : g2.closed ≡ 1 = (d.gate 0 (close ∷ request LJ 0 ∷ request LA 0 ∷ [])).closed in
    let later : eqb g2.closed 0 ≡ false = ne_eqb g2.closed 0 (λ e. absurd (omega arith)) in
    let end : Group = (cond (eqb g2.closed 0) (ours.close g2) (taken (counted g2 (g2.closed + 1)))).group in
    let same : end.grants ≡ g0.grants =
    ap (λ (b : Bool). (cond b (ours.close g2) (taken (counted g2 (g2.closed + 1)))).group.grants) later ∙ (request_keeps g1 LA 0).grants ∙ (request_keeps g0 LJ 0).grants in
    let granting = does_grant frozen 0 (d.gate 0) second second_fits 0 0 second_grants in
    let read = ((d.gate 0 (calls_of second)).read 0 0 (omega arith) (omega arith)).1 granting in
    let bit-on : granted end.grants 0 0 ≡ true = (read_granted end 0 0 (omega arith) (omega arith)).0 read in
    let before = (read_granted g0 0 0 (omega arith) (omega arith)).1 (ap (λ (l : List ℕ). granted l 0 0) (sym same) ∙ bit-on) in
    grants_not frozen 0 (d.gate 0) (tick ∷ []) quiet_fits 0 0 quiet_grants (((d.gate 0 (close ∷ [])).read 0 0 (omega arith) (omega arith)).0 before)

is_late : DemandTwo late → ⊥
unfolding reach next calls_of fresh_answer
is_late d =
    let granting = does_grant late 0 (d.gate 0) meeting meeting_fits 0 0 meeting_grants in
    let g = (request_answer (fresh_answer 0).group LJ 0).group in
    not_granted _ ((request_keeps g LA 0).grants ∙ (request_keeps (fresh_answer 0).group LJ 0).grants)
    (((d.gate 0 (calls_of meeting)).read 0 0 (omega arith) (omega arith)).1 granting)

has_no_number : DemandTwo nameless → ⊥
unfolding reach fresh_answer fresh_group
has_no_number d = let e = (d.gate 1 []).number in absurd (omega (arith, e))

denies_all_lem : DemandTwo denies_all → ⊥
unfolding first_bad good_place tick_before first history_of since inside liberal by_add by_join grant
denies_all_lem d =
    let m = word_of 1 SJ 0 ∷ [] in
    let s = word_of 1 SA 0 ∷ [] in
    let accepted : StripsAccepted m s 1 = record {
      tick = omega arith;
      short_m = omega arith;
      short_s = omega arith;
      good_m = all_good Model 1 m (omega arith);
      good_s = all_good Sheet 1 s (omega arith);
    } in
    let x = (d.judge m s 1 accepted).0.1 ((means_grant (history_of m) (history_of s) 1).0 refl) in
    true≢false (cc x.1)

-- ---- reads

-- the leak's story: the model is in and the sheet is in, and the formula grants nothing
leaks : DemandTwo leak → ⊥
unfolding keep tell_all
leaks d =
    let into = in_after leak.read leak.mask leak.deliver leak.delivered leak.judge leaking leaking_fits in
    let model : model_in (reach leak (start_fresh leak 0) (calls_of leaking)).group 0 ≡ true = into Model 0 (omega arith) in
    let sheet : sheet_in (reach leak (start_fresh leak 0) (calls_of leaking)).group 0 ≡ true = into Sheet 0 (omega arith) in
    grants_not leak 0 (d.gate 0) leaking leaking_fits 0 0 leaking_grants
    (((d.gate 0 (calls_of leaking)).read 0 0 (omega arith) (omega arith)).0 (simp (model, sheet)))

fresh_grants : tests [] 0 0 ≡ false
unfolding tell_all keep history_of since inside liberal by_add by_join grant
fresh_grants = refl

nothing_fits : all_fit begins [] ≡ true
unfolding all_fit
nothing_fits = refl

unsays : DemandTwo unsaying → ⊥
unfolding reach calls_of fresh_answer
unsays d =
    let e = ((d.gate 0 []).denied 0 0 (omega arith) (omega arith)).1 (grants_not unsaying 0 (d.gate 0) [] nothing_fits 0 0 fresh_grants) in
    let denied : ours.read (fresh_answer 0).group 0 0 ≡ Denied = ((demand_two.gate 0 []).denied 0 0 (omega arith) (omega arith)).1 (grants_not ours 0 (demand_two.gate 0) [] nothing_fits 0 0 fresh_grants) in
    true≢false (cc (sym (ap unsaid denied) ∙ e))

overhangs : DemandTwo overhanging → ⊥
unfolding bit
overhangs d = true≢false (d.mask_ends [] 0 0 0 (omega arith))

-- ---- refusals

-- a model that there isn't: refused, and marked
marks_refused : DemandOne storing → ⊥
unfolding request_answer request_refusal marked_group fresh_group
marks_refused d =
    let e : marked_group (fresh_group 0) SJ 64 ≡ fresh_group 0 = (d.request (fresh_group 0) SJ 64).unchanged (λ z. absurd (omega (arith, z))) in
    let marked : bit (marked_group (fresh_group 0) SJ 64).sj 64 ≡ true = bit_marked SJ 0 SJ 64 64 ∙ ap (λ (b : Bool). b || true) (bit_zero 64) in
    true≢false (sym marked ∙ ap (λ (g : Group). bit g.sj 64) e ∙ bit_zero 64)

-- ---- deliveries

abbrev room : List ℕ
room = 0 ∷ 0 ∷ 0 ∷ 0 ∷ 0 ∷ 0 ∷ 0 ∷ 0 ∷ 0 ∷ 0 ∷ 0 ∷ 0 ∷ 0 ∷ 0 ∷ 0 ∷ 0 ∷ []

delivers_nothing : DemandOne undelivering → ⊥
delivers_nothing d =
    let none-met = sym (demand_one.delivery (fresh_group 0) 0 store room).first ∙ ap refused_delivery (fresh_delivers 0 (omega arith) 16 (omega arith)) in
    true≢false (cc (d.delivers (fresh_group 0) 0 store room none-met).1)

invents : DemandTwo inventing → ⊥
unfolding reach fresh_answer bytes32 le32 parts_of flat_parts
invents d =
    let h = (d.gate 0 []).delivery 0 (omega arith) store room 8 (fresh_delivers 0 (omega arith) 16 (omega arith)) in
    let made = fresh_buffer 0 (omega arith) room (omega arith) in
    let e : 8 ≡ 8 + length (flat_parts (parts_in (bytes32 (le32 (bytes32 0 ++ (bytes32 8 ++ drop 8 room)) 0 + 1) ++ drop 4 (bytes32 0 ++ (bytes32 8 ++ drop 8 room))))) =
    subst (λ (b : List ℕ). 8 ≡ 8 + length (flat_parts (parts_in (bytes32 (le32 b 0 + 1) ++ drop 4 b)))) made h.exact in
    absurd (omega (arith, e))

pads : DemandTwo padding → ⊥
unfolding reach fresh_answer bytes32 le32 parts_of flat_parts
pads d =
    let given = fresh_delivers 0 (omega arith) 12 (omega arith) in
    let made = fresh_buffer 0 (omega arith) (drop 4 room) (omega arith) in
    let h = (d.gate 0 []).delivery 0 (omega arith) store room 12 (ap padded given) in
    let e : 12 ≡ 8 + length (flat_parts (parts_in (hidden (Delivered 8) (bytes32 0 ++ (bytes32 8 ++ drop 8 (drop 4 room))) room))) =
    subst (λ (b : List ℕ). 12 ≡ 8 + length (flat_parts (parts_in (hidden (Delivered 8) b room)))) made
    (subst (λ (a : Delivery). 12 ≡ 8 + length (flat_parts (parts_in (hidden a (buffer_after nobody 0 store (drop 4 room)) room)))) given h.exact) in
    absurd (omega (arith, e))

-- ---- what a model is told

joined_fits : all_fit begins (ask SJ 5 ∷ tick ∷ []) ≡ true
unfolding all_fit first first_bad good_place tick_before keep
joined_fits = refl

-- model 5 joins in one run and not in the other; model 0 asks for a sheet that there isn't
tells : DemandThree telling → ⊥
unfolding reach next calls_of keep tell_all shared answers_of answer_to
tells d =
    let into = in_after telling.read telling.mask telling.deliver telling.delivered telling.judge in
    let asks = close ∷ read 0 256 ∷ [] in
    let alike : Alike telling 0 (start_fresh telling 0) (request SJ 5 ∷ asks) asks = left refl (both refl (both refl done)) in
    let g = (close_answer (request_answer (fresh_answer 0).group SJ 5).group).group in
    let h = (close_answer (fresh_answer 0).group).group in
    let there : model_in g 5 ≡ true = into (ask SJ 5 ∷ tick ∷ []) joined_fits Model 5 (omega arith) in
    let away : model_in h 5 ≡ false = into (tick ∷ []) quiet_fits Model 5 (omega arith) in
    let same = d 0 0 (request SJ 5 ∷ asks) asks alike in
    let told : Bool → ℕ = λ b. cond b (bad_number + 1) bad_number in
    let numbers : told (model_in g 5) ≡ told (model_in h 5) = cc same in
    let differ : told true ≡ told false = ap told (sym there) ∙ numbers ∙ ap told away in
    absurd (omega (arith, differ))

-- and yet its reads in range are ours: demand 2 has nothing to say against it
reads_in_range : (g : Group) (m s : ℕ) → s < sheets → telling.read g m s ≡ ours.read g m s
reads_in_range g m s b = simp (lt-leb sheets s b)

telling_gated : (r : Run Group) → Gated ours r → Gated telling r
telling_gated r x = record {
  closed = x.closed;
  number = x.number;
  read = λ m s l b. let e = reads_in_range r.group m s b in (λ y. (x.read m s l b).0 (sym e ∙ y), λ y. e ∙ (x.read m s l b).1 y);
  denied = λ m s l b. let e = reads_in_range r.group m s b in (λ y. (x.denied m s l b).0 (sym e ∙ y), λ y. e ∙ (x.denied m s l b).1 y);
  count = x.count;
  good = x.good;
  judge = x.judge;
  accepts = x.accepts;
  delivery = x.delivery;
}

meets_two : DemandTwo telling
meets_two =
    let same = same_reach telling.read telling.mask telling.deliver telling.delivered telling.judge in
    record {
      judge = demand_two.judge;
      gate = λ number calls. subst (Gated telling) (sym (same calls (start_fresh ours number))) (telling_gated _ (demand_two.gate number calls));
      book = λ b list calls e. subst (Gated telling) (sym (same calls (start_book ours b list))) (telling_gated _ (demand_two.book b list calls e));
      written = λ T number ws buffer list e fits.
          let x = demand_two.written T number ws buffer list e fits in
          record { taken = x.taken; same_ticks = x.same_ticks; same_number = x.same_number; same_events = x.same_events; words = x.words };
      again = demand_two.again;
      mask = λ gs m s i d few l b h.
          let e = reads_in_range (get_or gs i d) m s b in
          let x = demand_two.mask gs m s i d few l b h in
          (λ y. e ∙ x.0 y, λ y. x.1 (sym e ∙ y));
      mask_ends = demand_two.mask_ends;
    }

-- whatever is asked of it, a gate that refuses all answers alike
module _ (m : ℕ) where
  answers_same : (c : Call) (x y : Run Group) → answer_to refuses_all x.group c ≡ answer_to refuses_all y.group c
  unfolding answer_to
  answers_same (request kind n) x y = refl
  answers_same close x y = refl
  answers_same (read n s) x y = refl
  answers_same (count s) x y = refl
  answers_same (deliver n b out) x y = refl

  answered : (c : Call) (calls : List Call) (x : Run Group) → shared m c ≡ true
      → answers_of refuses_all m x (c ∷ calls) ≡ answer_to refuses_all x.group c ∷ answers_of refuses_all m (next refuses_all x c) calls
  unfolding answers_of
  answered c calls x t = simp t

  passed_over : (c : Call) (calls : List Call) (x : Run Group) → shared m c ≡ false → answers_of refuses_all m x (c ∷ calls) ≡ answers_of refuses_all m (next refuses_all x c) calls
  unfolding answers_of
  passed_over c calls x f = simp f

  constant_alike : {r : Run Group} {calls calls' : List Call} → Alike refuses_all m r calls calls' → (y : Run Group) → answers_of refuses_all m r calls ≡ answers_of refuses_all m y calls'
  unfolding answers_of answer_to next shared
  constant_alike done y = refl
  constant_alike (both {r} {c} {calls} {calls'} s a) y =
      answered c calls r s ∙ ap₂ ◌∷◌ (answers_same c r y) (constant_alike a (next refuses_all y c)) ∙ sym (answered c calls' y s)
  constant_alike (stores {r} {store} {store'} {out} {calls} {calls'} agrees a) y =
      let own = eq-eqb m m refl in
      answered (deliver m store out) calls r own ∙ ap (λ (l : List Answer). delivered (Refused bad_store 0) out ∷ l) (constant_alike a y) ∙ sym (answered (deliver m store' out) calls' y own)
  constant_alike (left {r} {c} {calls} s a) y = passed_over c calls r s ∙ constant_alike a y
  constant_alike (right {r} {c} {calls} {calls'} s a) y = constant_alike a (next refuses_all y c) ∙ sym (passed_over c calls' y s)

constant_three : DemandThree refuses_all
constant_three number m calls calls' a = constant_alike m a (start_fresh refuses_all number)

-- ---- all of them

pub record ShutOut : Type 0 where
  -- demand 2
  pub refuses_all_lem : DemandTwo refuses_all → ⊥
  pub denies_all_lem : DemandTwo denies_all → ⊥
  pub undates : DemandTwo undated → ⊥
  pub dates_by_moment : DemandTwo moment_dated → ⊥
  pub dates_by_hold : DemandTwo held_dated → ⊥
  pub dates_early : DemandTwo early_dated → ⊥
  pub dates_late : DemandTwo late_dated → ⊥
  pub misnames : DemandTwo misnaming → ⊥
  pub does_nothing : DemandTwo idle → ⊥
  pub only_counts : DemandTwo counting → ⊥
  pub freezes : DemandTwo frozen → ⊥
  pub is_late : DemandTwo late → ⊥
  pub has_no_number : DemandTwo nameless → ⊥
  pub leaks : DemandTwo leak → ⊥
  pub unsays : DemandTwo unsaying → ⊥
  pub overhangs : DemandTwo overhanging → ⊥
  pub invents : DemandTwo inventing → ⊥
  pub pads : DemandTwo padding → ⊥
  -- demand 1
  pub undates_in_c : DemandOne undated_in_c → ⊥
  pub marks_refused : DemandOne storing → ⊥
  pub delivers_nothing : DemandOne undelivering → ⊥
  -- demand 3
  pub tells : DemandThree telling → ⊥
  -- which demand 2 would let through
  pub tells_by_two : DemandTwo telling
  -- "A constant gate meets demand 3 alone"
  pub constant : DemandThree refuses_all

pub wrong_gates_shut_out : ShutOut
wrong_gates_shut_out = record {
  refuses_all_lem = refuses_all_lem;
  denies_all_lem = denies_all_lem;
  undates = undates;
  dates_by_moment = dates_by_moment;
  dates_by_hold = dates_by_hold;
  dates_early = dates_early;
  dates_late = dates_late;
  misnames = misnames;
  does_nothing = does_nothing;
  only_counts = only_counts;
  freezes = freezes;
  is_late = is_late;
  has_no_number = has_no_number;
  leaks = leaks;
  unsays = unsays;
  overhangs = overhangs;
  invents = invents;
  pads = pads;
  undates_in_c = undates_in_c;
  marks_refused = marks_refused;
  delivers_nothing = delivers_nothing;
  tells = tells;
  tells_by_two = meets_two;
  constant = constant_three;
}
