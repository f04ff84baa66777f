-- What demand 2 says of a run, wherever it stands. Everything is said of the calls' own record of the run: how many ticks it closed, which events it
-- accepted. Nothing is read off the group.
use Rattle.std.specs.Prelude.{◌≡◌, List, ◌↔◌, ℕ, ◌≤◌, ◌<◌, length}
use Rattle.base.specs.HowMany.{how_many}
use Rattle.rules.specs.Ranges.{models, sheets, events}
use Rattle.formula.specs.Formula.{History, Grant}
use Rattle.formula.specs.Ticks.{grant}
use Rattle.formula.specs.declared.Moment.{Moment}
use Rattle.formula.specs.declared.Verdict.TheVariants.{Granted as VerdictGranted}
use Rattle.strip.specs.declared.Side.{Side}
use Rattle.strip.specs.declared.Side.TheVariants.{Model, Sheet}
use Rattle.strip.specs.Good.{range, Good}
use Rattle.strip.specs.History.{history_of}
use Rattle.delivery.specs.Delivery.{Delivered}
use Rattle.strip.specs.Strips.{strip_of}
use Rattle.history.specs.WellFormed.{WellFormed}
use Rattle.demands.specs.Calls.{Run}
use Rattle.demands.specs.Delivered.{Holds}
use Rattle.demands.specs.Gate.{Gate}
use Rattle.demands.specs.Judgement.{Said}
use Rattle.group.specs.Read.{Granted, Denied}

module _ {State : Type 0} (r : Run State) where
  -- the strip of a carrier's accepted events of closed ticks
  abbrev pub strip : Side → ℕ → List ℕ
  strip side n = strip_of side n r.closed r.events

  -- what they tell of a model, and of a sheet
  abbrev pub model : ℕ → History
  model m = history_of (strip Model m)

  abbrev pub sheet : ℕ → History
  sheet s = history_of (strip Sheet s)

  -- the formula for a model and a sheet, over the accepted events of closed ticks
  abbrev pub Granting : ℕ → ℕ → Type 0
  Granting m s = Grant (model m) (sheet s) r.closed

pub record Gated {State : Type 0} (G : Gate State) (r : Run State) : Type 0 where
  -- the group's record: the closed ticks are the closes, and the number is the one asked for
  pub closed : G.closed r.group ≡ r.closed
  pub number : G.number r.group ≡ r.number
  -- the running gate: granted is granted, and denied is denied
  pub read : (m s : ℕ) → m < models → s < sheets → (G.read r.group m s ≡ Granted) ↔ Granting r m s
  pub denied : (m s : ℕ) → m < models → s < sheets → (G.read r.group m s ≡ Denied) ↔ (Granting r m s → ⊥)
  pub count : (s : ℕ) → s < sheets → G.count r.group s ≡ record { code = 0; count = how_many (λ m. grant (model r m) (sheet r s) r.closed) models }
  -- the judge, asked for the history
  pub good : (side : Side) (n : ℕ) → n < range side → Good side r.closed (strip r side n)
  pub judge : (m s : ℕ) → m < models → s < sheets → length (strip r Model m) ≤ events → length (strip r Sheet s) ≤ events
      → ((x : Moment) × (G.judge (strip r Model m) (strip r Sheet s) r.closed ≡ Said (VerdictGranted x))) ↔ Granting r m s
  -- an event is accepted exactly when it is well-formed
  pub accepts : (kind n : ℕ) → ((G.request r.group kind n).code ≡ 0) ↔ WellFormed r.closed r.events kind n
  -- a delivery
  pub delivery : (m : ℕ) → m < models → (store out : List ℕ) (n : ℕ) → G.deliver r.group m store out ≡ Delivered n
      → Holds (Granting r m) store out n (G.delivered r.group m store out)
