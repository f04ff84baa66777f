-- Demand 2. "A model is granted a sheet through a group exactly when the published temporal formula of technical report CS-TR-2011-016 holds over
-- the accepted events of closed ticks, whether the answer comes from the history or from the running gate. A delivery holds exactly the granted
-- sheets, by number, unaltered. A written event book reads back as the same events, and an accepted book written again gives the same bytes."
--
-- `Grant` is the formula (the formula's specs/Formula.antt), of the events that a run has accepted; a run is any list of calls, of any length,
-- refused ones among them.
use Rattle.std.specs.Prelude.{◌≡◌, true, false, ◌↔◌, List, ◌++◌, ℕ, ◌≤◌, ◌<◌, length, get_or, take, drop, Ok}
use Rattle.rules.specs.Ranges.{models, sheets, groups}
use Rattle.bits.specs.Bit.{bit}
use Rattle.formula.specs.Formula.{Grant}
use Rattle.formula.specs.Judged.{Judged}
use Rattle.formula.specs.declared.Moment.{Moment}
use Rattle.formula.specs.declared.Verdict.{Verdict}
use Rattle.formula.specs.declared.Verdict.TheVariants.{Granted as VerdictGranted}
use Rattle.strip.specs.History.{history_of}
use Rattle.judge.specs.Judge.{StripsAccepted}
use Rattle.wire.specs.Word.{AllBytes}
use Rattle.book.specs.Read.{records_in}
use Rattle.format.specs.Header.{ticks_in, count_in, number_in}
use Rattle.demands.specs.Calls.{Call, start_fresh, start_book, reach}
use Rattle.demands.specs.Gate.{Gate}
use Rattle.demands.specs.Gated.{Gated}
use Rattle.demands.specs.Judgement.{Said}
use Rattle.group.specs.Read.{Granted}

-- what a reader makes of a book of T, number and words: the same ones
pub record ReadBack {State : Type 0} (G : Gate State) (T number : ℕ) (ws b list : List ℕ) : Type 0 where
  pub taken : (G.read_book b list).code ≡ 0
  pub same_ticks : ticks_in b ≡ T
  pub same_number : number_in b ≡ number
  pub same_events : records_in b ≡ ws
  pub words : G.words_left b list ≡ ws ++ drop (length ws) list

pub record DemandTwo {State : Type 0} (G : Gate State) : Type 0 where
  -- from the history: of any strips that the judge takes
  pub judge : (m s : List ℕ) (now : ℕ) → StripsAccepted m s now
      → (((x : Moment) × (G.judge m s now ≡ Said (VerdictGranted x))) ↔ Grant (history_of m) (history_of s) now)
      × ((v : Verdict) × (G.judge m s now ≡ Said v) × Judged (history_of m) (history_of s) now (Ok v))
  -- from the running gate: of any group that calls have reached from fresh
  pub gate : (number : ℕ) (calls : List Call) → Gated G (reach G (start_fresh G number) calls)
  -- the same from an accepted book, and any calls on the group that it was read into
  pub book : (b list : List ℕ) (calls : List Call) → (G.read_book b list).code ≡ 0 → Gated G (reach G (start_book G b list) calls)
  -- "A written event book reads back as the same events"
  pub written : (T number : ℕ) (ws buffer list : List ℕ) → (G.write_book T number ws buffer).code ≡ 0 → length ws ≤ length list
      → ReadBack G T number ws (take (G.write_book T number ws buffer).length (G.book_left T number ws buffer)) list
  -- "an accepted book written again gives the same bytes"
  pub again : (b list buffer : List ℕ) → AllBytes b → (G.read_book b list).code ≡ 0 → length b ≤ length buffer
      → let ws = take (count_in b) (G.words_left b list) in
      (G.write_book (ticks_in b) (number_in b) ws buffer ≡ record { code = 0; place = 0; length = length b })
      × (G.book_left (ticks_in b) (number_in b) ws buffer ≡ b ++ drop (length b) buffer)
  -- through a station's list: bit i of the mask is the read of the group that stands at position i, and there is no bit past the list's end
  pub mask : (gs : List State) (m s i : ℕ) (d : State) → length gs ≤ groups → m < models → s < sheets → i < length gs
      → (bit (G.mask gs m s).mask i ≡ true) ↔ (G.read (get_or gs i d) m s ≡ Granted)
  pub mask_ends : (gs : List State) (m s i : ℕ) → length gs ≤ i → bit (G.mask gs m s).mask i ≡ false
