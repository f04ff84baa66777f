-- The running gate over its whole history: a fresh group, then any calls in any order, refused ones too. Assumes nothing.
use mathlib.Core.Path.{◌≡◌, sym, ◌∙◌}
use mathlib.Core.Bool.{true}
use mathlib.Core.Logic.{◌↔◌}
use mathlib.Core.List.{List}
use Prim.Native.Nat.{ℕ, ◌≤◌, ◌<◌}
use native.Mathlib.Numerals.{add-one}
use lib.ListN.{length, get_or}
use borrow.Author.Tests.{lt-leb}
use Rattle.base.specs.HowMany.{how_many}
use Rattle.base.proofs.HowMany.{how_many_ext}
use Rattle.rules.specs.Ranges.{models, sheets, ticks, events}
use Rattle.formula.specs.Formula.{History, Grant}
use Rattle.formula.specs.Ticks.{grant}
use Rattle.formula.specs.declared.Moment.{Moment}
use Rattle.std.specs.Prelude.{Ok}
use Rattle.formula.specs.declared.Verdict.TheVariants.{Granted as Judged}
use Rattle.formula.proofs.Meaning.{means_grant}
use Rattle.strip.specs.declared.Side.{Side}
use Rattle.strip.specs.declared.Side.TheVariants.{Model, Sheet}
use Rattle.strip.specs.Good.{range, Good}
use Rattle.strip.specs.History.{history_of}
use Rattle.judge.specs.Judge.{judged_by}
use Rattle.judge.proofs.Promise.{judge_grants}
use Rattle.group.specs.Count.{models_granted, count_answer}
use Rattle.bits.specs.Granted.{granted}
use Rattle.group.specs.Read.{Granted, read_answer}
use Rattle.group.specs.Request.{request_refusal}
use Rattle.group.specs.declared.Group.{Group}
use Rattle.history.specs.Run.{Move, open_tick, reached}
use Rattle.strip.specs.Strips.{strip_of}
use Rattle.history.specs.WellFormed.{WellFormed}
use Rattle.history.proofs.Agreed.{Ranged, reached_agrees}
use Rattle.history.proofs.Answers.{read_granted, accepts}
use Rattle.history.proofs.Carried.{carried_good}

module _ (number : ℕ) (calls : List Move) where
  -- the group that the calls reach, its closed ticks, and of any carrier the strip of its accepted events up to a tick
  abbrev pub gate : Group
  gate = (reached number calls).group

  abbrev pub now : ℕ
  now = gate.closed

  abbrev pub strip : Side → ℕ → ℕ → List ℕ
  strip side n t = strip_of side n t (reached number calls).events

  -- what the events of the closed ticks tell of a model, and of a sheet
  abbrev pub model : ℕ → History
  model m = history_of (strip Model m now)

  abbrev pub sheet : ℕ → History
  sheet s = history_of (strip Sheet s now)

  -- ---- 1. The gate is the published formula.

  -- A model is granted a sheet exactly when the formula holds of their accepted events, as of the last close.
  pub gate_is_formula : (m s : ℕ) → m < models → s < sheets → (granted gate.grants m s ≡ true) ↔ Grant (model m) (sheet s) now
  gate_is_formula m s l b =
      let e = (reached_agrees number calls).grants m s l b in
      let says = means_grant (model m) (sheet s) now in
      (λ x. says.0 (sym e ∙ x), λ y. e ∙ says.1 y)

  -- A read is answered `Granted` exactly then.
  pub read_is_formula : (m s : ℕ) → m < models → s < sheets → (read_answer gate m s ≡ Granted) ↔ Grant (model m) (sheet s) now
  read_is_formula m s l b =
      let read = read_granted gate m s l b in
      let says = gate_is_formula m s l b in
      (λ x. says.0 (read.0 x), λ y. read.1 (says.1 y))

  -- The models counted for a sheet are those that the formula grants it (`grant` is its test: `means_grant` of the formula's proofs/Meaning.antt).
  pub models_are_formula : (s : ℕ) → s < sheets → models_granted gate s ≡ how_many (λ m. grant (model m) (sheet s) now) models
  unfolding models_granted
  models_are_formula s b = how_many_ext _ _ models (λ m l. (reached_agrees number calls).grants m s l b)

  pub count_is_formula : (s : ℕ) → s < sheets → count_answer gate s ≡ record { code = 0; count = how_many (λ m. grant (model m) (sheet s) now) models }
  unfolding count_answer
  count_is_formula s b = simp (lt-leb _ _ b, models_are_formula s b)

  -- ---- 2. Accepted events are well-formed.

  -- Every carrier's strip of the closed ticks is good up to the last close.
  pub closed_good : (side : Side) (n : ℕ) → n < range side → Good side now (strip side n now)
  closed_good side n l = ((reached_agrees number calls).carried side n l).good

  -- With the open tick it is good up to the open tick.
  pub open_good : (side : Side) (n : ℕ) → n < range side → Good side (open_tick gate) (strip side n (open_tick gate))
  open_good side n l = rw add-one (carried_good gate now (reached number calls).events side n l ((reached_agrees number calls).carried side n l))

  -- No event is of another carrier, or of another tick.
  pub all_ranged : (i : ℕ) → i < length (reached number calls).events → Ranged now (get_or (reached number calls).events i 0)
  all_ranged = (reached_agrees number calls).words

  -- No more ticks are closed than there are.
  pub now_bounded : now ≤ ticks
  now_bounded = (reached_agrees number calls).limit

  -- ---- 3. The judge agrees.

  -- Asked for the two strips at the last close, the judge grants exactly what the gate grants.
  pub judge_agrees : (m s : ℕ) → m < models → s < sheets → length (strip Model m now) ≤ events → length (strip Sheet s now) ≤ events
      → ((x : Moment) × (judged_by (strip Model m now) (strip Sheet s now) now ≡ Ok (Judged x))) ↔ (granted gate.grants m s ≡ true)
  judge_agrees m s l b short_m short_s =
      let judge = judge_grants (strip Model m now) (strip Sheet s now) now
      (record { tick = now_bounded; short_m = short_m; short_s = short_s; good_m = closed_good Model m l; good_s = closed_good Sheet s b }) in
      let says = gate_is_formula m s l b in
      (λ x. says.1 (judge.0 x), λ y. judge.1 (says.0 y))

  -- ---- 4. Every well-formed event is accepted.

  -- A request is accepted exactly when its event is well-formed.
  pub accepts_well_formed : (kind n : ℕ) → (request_refusal gate kind n ≡ 0) ↔ WellFormed now (reached number calls).events kind n
  accepts_well_formed = accepts (reached number calls) (reached_agrees number calls)
