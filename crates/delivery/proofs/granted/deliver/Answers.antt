-- `delivery::granted::deliver` meets its contract: each return is one case of the answer, in the definition's order. Assumes nothing.
use mathlib.Core.Path.{◌≡◌, sym, ap, ◌∙◌}
use mathlib.Core.Bool.{true}
use mathlib.Core.List.{List}
use mathlib.Core.Logic.{⊎_elim}
use Prim.Native.Nat.{ℕ, ◌≤◌, ◌<◌}
use native.Mathlib.Omega.{arith}
use borrow.Author.Tests.{lt-ltb, le-ltb}
use lib.ListN.{length}
use Rattle.std.specs.Prelude.{Err, ⊤}
use Rattle.std.proofs.lemmas.Bool.{cases_lt}
use Rattle.std.proofs.lemmas.Result.{err_from_is_err_and}
use Rattle.rules.specs.Ranges.{models, sheets}
use Rattle.rules.specs.Refusal.{Told, told}
use Rattle.rules.specs.declared.refusal.Refusal.{Refusal}
use Rattle.rules.proofs.Told.{never_zero}
use Rattle.store.specs.Store.{good_store}
use Rattle.store.specs.Entry.{entry_fault}
use Rattle.parts.specs.Fault.{first_faulty}
use Rattle.parts.specs.Delivery.{granted_sheets, delivery_length, sums_of}
use Rattle.look.specs.Look.{Checked, checked_to, found}
use Rattle.delivery.specs.Answer.{answer}
use Rattle.delivery.specs.Delivery.{Delivered, Refused, delivery_told}
use Rattle.delivery.proofs.Answer.{promised, answer_number, answer_store, answer_sheet, answer_long, answer_delivered}
use Rattle.delivery.proofs.granted.deliver.Goals as goal
use Rattle.delivery.proofs.granted.deliver.Goals.{Else-not-good_store, Else-model-ge-MODELS, In_ok-sums}

-- where the look finds a refusal, that one is the answer
refused : (grants : List ℕ) (m : ℕ) (b : List ℕ) (room : ℕ) (refusal : Refusal) → m < models → good_store b ≡ true → told {A = ⊤} (Err refusal) ≡ found grants m b
    → answer grants m b room ≡ delivery_told (Err refusal)
refused grants m b room refusal known taken e = ⊎_elim
    (λ (h : first_faulty grants m b < sheets).
    let same : told {A = ⊤} (Err refusal) ≡ record { code = entry_fault b (first_faulty grants m b); place = first_faulty grants m b } = simp (lt-ltb _ _ h) at e in
    answer_sheet grants m b room known taken h ∙ ap (λ (t : Told). Refused t.code t.place) (sym same))
    (λ (h : sheets ≤ first_faulty grants m b). absurd (never_zero refusal (ap (λ (t : Told). t.code) (simp (le-ltb _ _ h) at e))))
    (cases_lt (first_faulty grants m b) sheets)

-- past the first test the model is one
known : (c : Else-model-ge-MODELS) → c.args.model < models
known c = omega (arith, c.if-model-ge-MODELS.false)

-- past the second test the store is good
taken : (c : Else-not-good_store) → good_store c.args.store.now ≡ true
taken c = sym c.good_store.ensures ∙ c.if-not-good_store.false

pub returns-then-model-ge-MODELS : goal.returns-then-model-ge-MODELS
returns-then-model-ge-MODELS c =
    let both = promised _ _ _ c.args.out.now _ (answer_number _ _ _ _ c.if-model-ge-MODELS.true) in
    record { answered = both.0; left = both.1 }

pub returns-then-not-good_store : goal.returns-then-not-good_store
returns-then-not-good_store c =
    let both = promised _ _ _ c.args.out.now _ (answer_store _ c.args.model _ _ (known (goal.at.returns-then-not-good_store c).Else-model-ge-MODELS) (sym c.good_store.ensures ∙ c.if-not-good_store.true)) in
    record { answered = both.0; left = both.1 }

pub check-requires : goal.check-requires
check-requires c = ((known (goal.at.check-requires c).Else-model-ge-MODELS), (taken (goal.at.check-requires c).Else-not-good_store))

-- past the look no granted sheet is faulty, and the sums are those of the granted sheets
record Through (c : In_ok-sums) : Type 0 where
  sound : first_faulty c.args.grants.now c.args.model c.args.store.now ≡ sheets
  sums : c.in_ok-sums.sums ≡ sums_of c.args.grants.now c.args.model c.args.store.now
  total : c.in_ok-sums.sums.total ≡ delivery_length c.args.store.now (granted_sheets c.args.grants.now c.args.model)

past : (c : In_ok-sums) → Through c
past c =
    let seen = (c.in_ok-sums.ensures {u = tt}).summed in
    let sound : first_faulty c.args.grants.now c.args.model c.args.store.now ≡ sheets = sym (ap (λ (x : Checked). x.stop) seen) in
    let whole = seen ∙ ap (checked_to c.args.grants.now c.args.model c.args.store.now) sound in
    record { sound = sound; sums = ap (λ (x : Checked). record { count = x.count; total = x.total }) whole; total = ap (λ (x : Checked). x.total) whole }

pub returns-in_err-sums : goal.returns-in_err-sums
returns-in_err-sums c =
    let p = err_from_is_err_and c.from_residual.result c.from_residual.ensures.1 in
    let before = goal.at.returns-in_err-sums c in
    let both = promised _ _ _ c.args.out.now _ (refused _ _ _ _ _ (known before.Else-model-ge-MODELS) (taken before.Else-not-good_store) (c.in_err-sums.ensures {u = tt}).refused) in
    rw (p.1, p.2) (record { answered = both.0; left = both.1 })

pub returns-then-out-sums : goal.returns-then-out-sums
returns-then-out-sums c =
    let before = goal.at.returns-then-out-sums c in
    let all = past before.In_ok-sums in
    let both = promised _ _ _ c.args.out.now _
    (answer_long c.args.grants.now c.args.model c.args.store.now (length c.args.out.now) (known before.Else-model-ge-MODELS) (taken before.Else-not-good_store) (omega (arith, all.sound)) (omega (arith, all.total, c.if-out-sums.true))) in
    record { answered = both.0; left = both.1 }

pub write_delivery-requires : goal.write_delivery-requires
write_delivery-requires c =
    let before = goal.at.write_delivery-requires c in
    let all = past before.In_ok-sums in
    (record { known = known before.Else-model-ge-MODELS; taken = taken before.Else-not-good_store; sound = all.sound }, all.sums, c.if-out-sums.false)

pub returns : goal.returns
returns c =
    let before = goal.at.returns c in
    let all = past before.In_ok-sums in
    let fits = c.if-out-sums.false in
    let done = promised c.args.grants.now c.args.model c.args.store.now c.args.out.now (Delivered c.in_ok-sums.sums.total)
    (answer_delivered c.args.grants.now c.args.model c.args.store.now (length c.args.out.now) (known before.Else-model-ge-MODELS) (taken before.Else-not-good_store) (omega (arith, all.sound)) (omega (arith, all.total, fits)) ∙ ap Delivered (sym all.total)) in
    record { answered = done.0; left = c.write_delivery.ensures ∙ done.1 }
