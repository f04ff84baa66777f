-- Two runs that one model can't tell apart, and what it is answered in a run.
use Rattle.std.specs.Prelude.{◌≡◌, Bool, true, false, cond, ◌||◌, List, [], ◌∷◌, ℕ, ◌<◌, eqb, length, take}
use Rattle.rules.specs.Kinds.{is_add, is_remove}
use Rattle.rules.specs.Ranges.{sheets}
use Rattle.store.specs.Entry.{offset, sheet_length, entry_fault}
use Rattle.store.specs.Store.{sheet_count}
use Rattle.parts.specs.Delivery.{sheet_bytes}
use Rattle.demands.specs.Calls.{Call, request, close, read, count, deliver, Answer, answer_to, Run, next}
use Rattle.demands.specs.Gate.{Gate}
use Rattle.demands.specs.Gated.{Granting}

-- A request is for a sheet where its kind is an add or a remove, and else for the model of its number. That is so of a kind above 7 too: it is nobody's
-- event, but whoever files it is answered, and it is filed under a number.
abbrev pub for_sheet : ℕ → Bool
for_sheet kind = is_add kind || is_remove kind

-- "the same tick closes, the same requests for that model and for every sheet, and the same reads and deliveries for that model"
unfoldable pub shared : ℕ → Call → Bool
shared m (request kind n) = for_sheet kind || eqb n m
shared m close = true
shared m (read n s) = eqb n m
-- "The keeper can also ask how many models may read a sheet; that is no answer to a model and demand 3 doesn't cover it."
shared m (count s) = false
shared m (deliver n store out) = eqb n m

-- the shared calls of a list, in their order
unfoldable pub shared_in : ℕ → List Call → List Call
shared_in m [] = []
shared_in m (c ∷ calls) = cond (shared m c) (c ∷ shared_in m calls) (shared_in m calls)

-- "The stores may differ in every ungranted sheet, if their length, first eight bytes and granted entries and bytes agree": P are the granted sheets.
-- An entry counts where the store has it, its bytes where it has no fault.
pub record Agreeing (P : ℕ → Type 0) (b b' : List ℕ) : Type 0 where
  pub long : length b ≡ length b'
  pub header : take 8 b ≡ take 8 b'
  pub offsets : (s : ℕ) → s < sheets → P s → s < sheet_count b → offset b s ≡ offset b' s
  pub lengths : (s : ℕ) → s < sheets → P s → s < sheet_count b → sheet_length b s ≡ sheet_length b' s
  pub bytes : (s : ℕ) → s < sheets → P s → entry_fault b s ≡ 0 → sheet_bytes b s ≡ sheet_bytes b' s

module _ {State : Type 0} (G : Gate State) (m : ℕ) where
  -- "that model's answers, refusals and deliveries": the answers to the shared calls, in their order
  unfoldable pub answers_of : Run State → List Call → List Answer
  answers_of r [] = []
  answers_of r (c ∷ calls) = cond (shared m c) (answer_to G r.group c ∷ answers_of (next G r c) calls) (answers_of (next G r c) calls)

  -- Two lists of calls that differ for model m in nothing but what it isn't granted; the first is run from where r stands.
  pub data Alike : Run State → List Call → List Call → Type 0 where
    done : {r : Run State} → Alike r [] []
    -- a shared call stands in both
    both : {r : Run State} {c : Call} {calls calls' : List Call} → shared m c ≡ true → Alike (next G r c) calls calls' → Alike r (c ∷ calls) (c ∷ calls')
    -- so does a delivery to the model, "with equal delivery buffers", from stores that agree on what the formula grants at this moment
    stores : {r : Run State} {store store' out : List ℕ} {calls calls' : List Call} → Agreeing (Granting r m) store store'
        → Alike r calls calls' → Alike r (deliver m store out ∷ calls) (deliver m store' out ∷ calls')
    -- "Other models' calls may differ freely": in one run alone, anywhere, as many as there are
    left : {r : Run State} {c : Call} {calls calls' : List Call} → shared m c ≡ false → Alike (next G r c) calls calls' → Alike r (c ∷ calls) calls'
    right : {r : Run State} {c : Call} {calls calls' : List Call} → shared m c ≡ false → Alike r calls calls' → Alike r calls (c ∷ calls')
