-- Wrong gates. Each is ours but for what its comment says.
use Rattle.std.specs.Prelude.{cond, ◌&&◌, List, [], ◌∷◌, ◌++◌, ℕ, zero, suc, ◌+◌, ◌-◌, ◌^◌, eqb, leb, length, take, drop}
use Rattle.rules.specs.Kinds.{SR}
use Rattle.rules.specs.Ranges.{sheets}
use Rattle.rules.specs.Refusals.{bad_kind, bad_number, no_tick_left, bad_list, bad_group, late_now, bad_length, bad_header, bad_store}
use Rattle.wire.specs.Word.{le32, bytes32}
use Rattle.replay.specs.Replay.{counted}
use Rattle.formula.specs.Answer.{verdict_value}
use Rattle.formula.specs.Formula.{History}
use Rattle.formula.specs.Ticks.{strict}
use Rattle.formula.specs.Verdict.{latest, earliest}
use Rattle.formula.specs.declared.Cause.TheVariants.{None, StrictLeave, StrictRemove}
use Rattle.formula.specs.declared.Verdict.TheVariants as verdict
use Rattle.strip.specs.History.{history_of}
use Rattle.judge.specs.Judge.{judged_by}
use Rattle.loader.specs.Judge.{judged_from}
use Rattle.group.specs.Fresh.{fresh_answer, fresh_group}
use Rattle.group.specs.Marks.{model_in, sheet_in}
use Rattle.group.specs.Read.{ReadAnswer, Granted, Denied, Refused}
use Rattle.group.specs.Request.{marked_group}
use Rattle.group.specs.declared.Group.{Group}
use Rattle.station.specs.declared.MaskAnswer.{MaskAnswer}
use Rattle.delivery.specs.Delivery.{Delivery}
use Rattle.delivery.specs.Delivery as delivery
use Rattle.demands.specs.Gate.{Left, Gate}
use Rattle.demands.specs.Judgement.{Judgement, Said, judgement_told, packed_judgement}
use Rattle.demands.specs.Judgement as judgement
use Rattle.demands.specs.Ours.{ours}

-- our gate with some of its calls replaced
abbrev pub replacing : (ℕ → Left Group) → (Group → ℕ → ℕ → Left Group) → (Group → Left Group) → (Group → ℕ → ℕ → ReadAnswer) → (List Group → ℕ → ℕ → MaskAnswer)
    → (Group → ℕ → List ℕ → List ℕ → Delivery) → (Group → ℕ → List ℕ → List ℕ → List ℕ) → (List ℕ → List ℕ → ℕ → Judgement) → (List ℕ → List ℕ → ℕ → ℕ) → Gate Group
replacing fresh request close read mask deliver delivered judge judge_bytes = record {
  number = ours.number;
  closed = ours.closed;
  fresh = fresh;
  request = request;
  close = close;
  read = read;
  count = ours.count;
  mask = mask;
  deliver = deliver;
  delivered = delivered;
  judge = judge;
  evidence = ours.evidence;
  judge_bytes = judge_bytes;
  spans = ours.spans;
  spans_left = ours.spans_left;
  read_book = ours.read_book;
  words_left = ours.words_left;
  write_book = ours.write_book;
  book_left = ours.book_left;
}

abbrev pub refuse : {State : Type 0} → ℕ → State → Left State
refuse code g = record { code = code; place = 0; group = g }

abbrev pub taken : {State : Type 0} → State → Left State
taken g = record { code = 0; place = 0; group = g }

-- ---- calls that don't do their work

-- refuses every call; its answers depend on nothing at all
abbrev pub refuses_all : Gate Group
refuses_all = record {
  number = ours.number;
  closed = ours.closed;
  fresh = λ number. refuse bad_group (fresh_group 0);
  request = λ g kind n. refuse bad_kind g;
  close = λ g. refuse no_tick_left g;
  read = λ g m s. Refused bad_number;
  count = λ g s. record { code = bad_number; count = 0 };
  mask = λ gs m s. record { code = bad_list; mask = 0 };
  deliver = λ g m store out. delivery.Refused bad_store 0;
  delivered = λ g m store out. out;
  judge = λ m s now. judgement.Refused late_now 0;
  evidence = λ m s now. [];
  judge_bytes = λ m s now. 0;
  spans = λ m s now list. record { code = late_now; place = 0; count = 0 };
  spans_left = λ m s now list. list;
  read_book = λ b list. refuse bad_length (fresh_group 0);
  words_left = λ b list. list;
  write_book = λ T number ws buffer. record { code = bad_header; place = 0; length = 0 };
  book_left = λ T number ws buffer. buffer;
}

-- a close that does nothing
abbrev pub idle : Gate Group
idle = replacing ours.fresh ours.request taken ours.read ours.mask ours.deliver ours.delivered ours.judge ours.judge_bytes

-- a close that counts the tick, and does nothing else
abbrev pub counting : Gate Group
counting = replacing ours.fresh ours.request (λ g. taken (counted g (g.closed + 1))) ours.read ours.mask ours.deliver ours.delivered ours.judge ours.judge_bytes

-- right in the first tick; later ticks are counted, and nothing else happens
abbrev pub frozen : Gate Group
frozen = replacing ours.fresh ours.request (λ g. cond (eqb g.closed 0) (ours.close g) (taken (counted g (g.closed + 1)))) ours.read ours.mask ours.deliver ours.delivered ours.judge ours.judge_bytes

-- keeps the group as it was before the last close, and shows that one: late by one tick
pub record Late : Type 0 where
  pub now : Group
  pub before : Group

abbrev pub both : Group → Left Group → Left Late
both before a = record { code = a.code; place = a.place; group = record { now = a.group; before = before } }

abbrev pub late : Gate Late
late = record {
  number = λ g. g.now.number;
  closed = λ g. g.now.closed;
  fresh = λ number. both (fresh_answer number).group (ours.fresh number);
  request = λ g kind n. both g.before (ours.request g.now kind n);
  close = λ g. both g.now (ours.close g.now);
  read = λ g m s. ours.read g.before m s;
  count = λ g s. ours.count g.before s;
  mask = λ gs m s. ours.mask [] m s;
  deliver = λ g m store out. ours.deliver g.before m store out;
  delivered = λ g m store out. ours.delivered g.before m store out;
  judge = ours.judge;
  evidence = ours.evidence;
  judge_bytes = ours.judge_bytes;
  spans = ours.spans;
  spans_left = ours.spans_left;
  read_book = λ b list. both (ours.read_book b list).group (ours.read_book b list);
  words_left = ours.words_left;
  write_book = ours.write_book;
  book_left = ours.book_left;
}

-- every fresh group is group 0
abbrev pub nameless : Gate Group
nameless = replacing (λ number. ours.fresh 0) ours.request ours.close ours.read ours.mask ours.deliver ours.delivered ours.judge ours.judge_bytes

-- ---- the judge

-- our gate with another judge, and with another judge from C
abbrev pub judging : (List ℕ → List ℕ → ℕ → Judgement) → (List ℕ → List ℕ → ℕ → ℕ) → Gate Group
judging = replacing ours.fresh ours.request ours.close ours.read ours.mask ours.deliver ours.delivered

-- always denies
abbrev pub denies_all : Gate Group
denies_all = judging (λ m s now. Said (verdict.Denied None)) ours.judge_bytes

-- a strict cause told with another tick
abbrev pub dated : ℕ → Judgement → Judgement
dated t (Said (verdict.Granted moment)) = Said (verdict.Granted moment)
dated t (Said (verdict.Denied None)) = Said (verdict.Denied None)
dated t (Said (verdict.Denied (StrictLeave e))) = Said (verdict.Denied (StrictLeave t))
dated t (Said (verdict.Denied (StrictRemove e))) = Said (verdict.Denied (StrictRemove t))
dated t (judgement.Refused number place) = judgement.Refused number place

-- with tick 0
abbrev pub undated : Gate Group
undated = judging (λ m s now. dated 0 (ours.judge m s now)) ours.judge_bytes

-- with tick 0 only from C
abbrev pub undated_in_c : Gate Group
undated_in_c = judging ours.judge (λ m s now. packed_judgement (dated 0 (judgement_told (judged_from m s now))))

-- with the latest moment's tick
abbrev pub moment_dated : Gate Group
moment_dated = judging (λ m s now. dated (latest (history_of m) (history_of s) now) (ours.judge m s now)) ours.judge_bytes

-- with the last tick in which the grant held
abbrev pub held_dated : Gate Group
held_dated = judging (λ m s now. dated (verdict_value (judged_by m s now) - 1) (ours.judge m s now)) ours.judge_bytes

-- with the tick of the earliest strict event of the whole history
abbrev pub early_dated : Gate Group
early_dated = judging (λ m s now. dated (earliest (history_of m) (history_of s) 0 now) (ours.judge m s now)) ours.judge_bytes

-- the tick of the latest strict event, 0 where there is none
unfoldable pub latest_strict : History → History → ℕ → ℕ
latest_strict model sheet zero = 0
latest_strict model sheet (suc t) = cond (strict model sheet (suc t)) (suc t) (latest_strict model sheet t)

-- with the tick of the latest strict event
abbrev pub late_dated : Gate Group
late_dated = judging (λ m s now. dated (latest_strict (history_of m) (history_of s) now) (ours.judge m s now)) ours.judge_bytes

-- names the remove where a strict leave and a strict remove fall in one tick
abbrev pub renamed : History → Judgement → Judgement
renamed sheet (Said (verdict.Granted moment)) = Said (verdict.Granted moment)
renamed sheet (Said (verdict.Denied None)) = Said (verdict.Denied None)
renamed sheet (Said (verdict.Denied (StrictLeave e))) = Said (cond (eqb (sheet e) SR) (verdict.Denied (StrictRemove e)) (verdict.Denied (StrictLeave e)))
renamed sheet (Said (verdict.Denied (StrictRemove e))) = Said (verdict.Denied (StrictRemove e))
renamed sheet (judgement.Refused number place) = judgement.Refused number place

abbrev pub misnaming : Gate Group
misnaming = judging (λ m s now. renamed (history_of s) (ours.judge m s now)) ours.judge_bytes

-- ---- reads

-- our leak: whoever is in today is granted what is in today
abbrev pub leak : Gate Group
leak = replacing ours.fresh ours.request ours.close (λ g m s. cond (model_in g m && sheet_in g s) Granted Denied) ours.mask ours.deliver ours.delivered ours.judge ours.judge_bytes

-- denies by a refusal with number 0
abbrev pub unsaid : ReadAnswer → ReadAnswer
unsaid Granted = Granted
unsaid Denied = Refused 0
unsaid (Refused n) = Refused n

abbrev pub unsaying : Gate Group
unsaying = replacing ours.fresh ours.request ours.close (λ g m s. unsaid (ours.read g m s)) ours.mask ours.deliver ours.delivered ours.judge ours.judge_bytes

-- answers a sheet out of range by one number more where model 5 is in
abbrev pub telling : Gate Group
telling = replacing ours.fresh ours.request ours.close
    (λ g m s. cond (leb sheets s) (Refused (cond (model_in g 5) (bad_number + 1) bad_number)) (ours.read g m s))
    ours.mask ours.deliver ours.delivered ours.judge ours.judge_bytes

-- a mask with a bit past the list's end
abbrev pub overhanging : Gate Group
overhanging = replacing ours.fresh ours.request ours.close ours.read (λ gs m s. record { code = 0; mask = 2 ^ length gs }) ours.deliver ours.delivered ours.judge ours.judge_bytes

-- ---- refusals

-- a refused request is marked all the same
abbrev pub storing : Gate Group
storing = replacing ours.fresh (λ g kind n. record { code = (ours.request g kind n).code; place = 0; group = marked_group g kind n }) ours.close ours.read ours.mask
    ours.deliver ours.delivered ours.judge ours.judge_bytes

-- ---- deliveries

-- refuses every delivery, by number 0
abbrev pub undelivering : Gate Group
undelivering = replacing ours.fresh ours.request ours.close ours.read ours.mask (λ g m store out. delivery.Refused 0 0) (λ g m store out. out) ours.judge ours.judge_bytes

-- says one sheet more than there is
abbrev pub inventing : Gate Group
inventing = replacing ours.fresh ours.request ours.close ours.read ours.mask ours.deliver
    (λ g m store out. bytes32 (le32 (ours.delivered g m store out) 0 + 1) ++ drop 4 (ours.delivered g m store out)) ours.judge ours.judge_bytes

-- hides four bytes behind the last part, and counts them in the total
abbrev pub padded : Delivery → Delivery
padded (delivery.Delivered n) = delivery.Delivered (n + 4)
padded (delivery.Refused number place) = delivery.Refused number place

abbrev pub hidden : Delivery → List ℕ → List ℕ → List ℕ
hidden (delivery.Delivered n) made out = take 4 made ++ (bytes32 (n + 4) ++ (take (n - 8) (drop 8 made) ++ (7 ∷ 7 ∷ 7 ∷ 7 ∷ drop (n + 4) out)))
hidden (delivery.Refused number place) made out = out

abbrev pub padding : Gate Group
padding = replacing ours.fresh ours.request ours.close ours.read ours.mask
    (λ g m store out. padded (ours.deliver g m store (drop 4 out)))
    (λ g m store out. hidden (ours.deliver g m store (drop 4 out)) (ours.delivered g m store (drop 4 out)) out) ours.judge ours.judge_bytes
