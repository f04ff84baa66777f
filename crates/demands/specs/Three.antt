-- Demand 3. "Fix a model and run one group twice from fresh, reading no book. Let both runs have the same tick closes, the same requests for that
-- model and for every sheet, and the same reads and deliveries for that model, in the same order, with equal delivery buffers. Other models' calls
-- may differ freely. The stores may differ in every ungranted sheet, if their length, first eight bytes and granted entries and bytes agree. Then
-- that model's answers, refusals and deliveries are equal."
--
-- `Alike` says when two lists of calls are such runs (Alike.antt): with equal stores, whenever their shared calls are the same list (`same_shared`,
-- proofs/Shared.antt). What is granted is what the formula of demand 2 grants over the first run. A call may have any numbers, and may be refused.
-- A gate that answers everybody alike meets this demand alone, and not demand 2.
use Rattle.std.specs.Prelude.{◌≡◌, List, ℕ}
use Rattle.demands.specs.Alike.{answers_of, Alike}
use Rattle.demands.specs.Calls.{Call, start_fresh}
use Rattle.demands.specs.Gate.{Gate}

abbrev pub DemandThree : {State : Type 0} → Gate State → Type 0
DemandThree G = (number m : ℕ) (calls calls' : List Call) → Alike G m (start_fresh G number) calls calls'
    → answers_of G m (start_fresh G number) calls ≡ answers_of G m (start_fresh G number) calls'
