-- A refusal's number and place say which refusal it is: what a check tells in numbers is no less than what it answers.
use Rattle.std.specs.Prelude.{◌≡◌, ◌<◌, ℕ, zero, suc, cond, eqb, Result, Ok, Err, ⊤}
use Rattle.std.proofs.Common.{ap, ap₂, sym, ◌∙◌, refl, ⊎_elim, arith}
use Rattle.std.proofs.lemmas.Bool.{cases_eq, ne_eqb}
use Rattle.rules.specs.declared.refusal.Refusal.{Refusal}
use Rattle.rules.specs.declared.refusal.Refusal.TheVariants.{BadKind, BadNumber, NoTickLeft, SecondEvent, AlreadyIn, NotIn, BadList, BadGroup, LateNow, LongModel, LongSheet, BadModel, BadSheet, BadLength, BadTotal, BadHeader, BadCount, BadRecord, NotRising, IllFormed, ShortBuffer, ShortList, BadStore, NotInStore, BadEntry, DeliveryTooLong, TooManySpans}
use Rattle.rules.specs.Refusal.{Told, told, alone, placed, refusal_number, refusal_place}

-- the refusal of a number and a place
named : ℕ → ℕ → Result ⊤ Refusal
named n place =
    cond (eqb n 1) (Err BadKind) (
    cond (eqb n 2) (Err BadNumber) (
    cond (eqb n 3) (Err NoTickLeft) (
    cond (eqb n 4) (Err SecondEvent) (
    cond (eqb n 5) (Err AlreadyIn) (
    cond (eqb n 6) (Err NotIn) (
    cond (eqb n 7) (Err BadList) (
    cond (eqb n 9) (Err BadGroup) (
    cond (eqb n 10) (Err LateNow) (
    cond (eqb n 11) (Err LongModel) (
    cond (eqb n 12) (Err LongSheet) (
    cond (eqb n 13) (Err (BadModel place)) (
    cond (eqb n 14) (Err (BadSheet place)) (
    cond (eqb n 20) (Err BadLength) (
    cond (eqb n 21) (Err BadTotal) (
    cond (eqb n 22) (Err BadHeader) (
    cond (eqb n 23) (Err BadCount) (
    cond (eqb n 24) (Err (BadRecord place)) (
    cond (eqb n 25) (Err (NotRising place)) (
    cond (eqb n 26) (Err (IllFormed place)) (
    cond (eqb n 27) (Err ShortBuffer) (
    cond (eqb n 28) (Err ShortList) (
    cond (eqb n 31) (Err BadStore) (
    cond (eqb n 32) (Err (NotInStore place)) (
    cond (eqb n 33) (Err (BadEntry place)) (
    cond (eqb n 34) (Err DeliveryTooLong) (
    cond (eqb n 40) (Err TooManySpans) (
    Ok tt)))))))))))))))))))))))))))

named_told : (r : Result ⊤ Refusal) → named (told r).code (told r).place ≡ r
unfolding named
named_told (Ok u) = refl
named_told (Err BadKind) = refl
named_told (Err BadNumber) = refl
named_told (Err NoTickLeft) = refl
named_told (Err SecondEvent) = refl
named_told (Err AlreadyIn) = refl
named_told (Err NotIn) = refl
named_told (Err BadList) = refl
named_told (Err BadGroup) = refl
named_told (Err LateNow) = refl
named_told (Err LongModel) = refl
named_told (Err LongSheet) = refl
named_told (Err (BadModel place)) = refl
named_told (Err (BadSheet place)) = refl
named_told (Err BadLength) = refl
named_told (Err BadTotal) = refl
named_told (Err BadHeader) = refl
named_told (Err BadCount) = refl
named_told (Err (BadRecord place)) = refl
named_told (Err (NotRising place)) = refl
named_told (Err (IllFormed place)) = refl
named_told (Err ShortBuffer) = refl
named_told (Err ShortList) = refl
named_told (Err BadStore) = refl
named_told (Err (NotInStore sheet)) = refl
named_told (Err (BadEntry sheet)) = refl
named_told (Err DeliveryTooLong) = refl
named_told (Err TooManySpans) = refl

pub told_once : {r s : Result ⊤ Refusal} → told r ≡ told s → r ≡ s
told_once {r} {s} e = sym (named_told r) ∙ ap (λ (t : Told). named t.code t.place) e ∙ named_told s

-- the refusal that was answered
refused : Result ⊤ Refusal → Refusal
refused (Ok u) = BadKind
refused (Err refusal) = refusal

pub refusal_once : (r s : Refusal) → refusal_number r ≡ refusal_number s → refusal_place r ≡ refusal_place s → r ≡ s
unfolding refused
refusal_once r s n p = ap refused (told_once {r = Err r} {s = Err s} (ap₂ (λ (code place : ℕ). record { code = code; place = place }) n p))

-- no refusal has the number 0, which stands for none
pub never_zero : (refusal : Refusal) → refusal_number refusal ≡ 0 → ⊥
unfolding named
never_zero refusal e =
    let none : Err refusal ≡ Ok tt = sym (named_told (Err refusal)) ∙ ap (λ (n : ℕ). named n (refusal_place refusal)) e in
    cc

-- what a number with its place says: a refusal's is that refusal's, and nothing refused is the number 0
module _ (place code : ℕ) where
  pub placed_refused : (refusal : Refusal) → told {A = ⊤} (Err refusal) ≡ placed place code
      → (code ≡ 0 → ⊥) × (told {A = ⊤} (Err refusal) ≡ record { code = code; place = place })
  placed_refused refusal e =
      let some : code ≡ 0 → ⊥ = λ z. never_zero refusal (ap (λ (t : Told). t.code) (simp z at e)) in
      (some, simp (ne_eqb code 0 some) at e)

  pub placed_none : alone 0 ≡ placed place code → code ≡ 0
  placed_none e = ⊎_elim
      (λ z. z)
      (λ (some : code ≡ 0 → ⊥). sym (ap (λ (t : Told). t.code) (simp (ne_eqb code 0 some) at e)))
      (cases_eq code 0)

-- of a number without its place: the first nine have no place
named_alone : (n p q : ℕ) → n < 10 → named n p ≡ named n q
unfolding named
named_alone zero p q h = refl
named_alone (suc zero) p q h = refl
named_alone (suc (suc zero)) p q h = refl
named_alone (suc (suc (suc zero))) p q h = refl
named_alone (suc (suc (suc (suc zero)))) p q h = refl
named_alone (suc (suc (suc (suc (suc zero))))) p q h = refl
named_alone (suc (suc (suc (suc (suc (suc zero)))))) p q h = refl
named_alone (suc (suc (suc (suc (suc (suc (suc zero))))))) p q h = refl
named_alone (suc (suc (suc (suc (suc (suc (suc (suc zero)))))))) p q h = refl
named_alone (suc (suc (suc (suc (suc (suc (suc (suc (suc zero))))))))) p q h = refl
named_alone (suc (suc (suc (suc (suc (suc (suc (suc (suc (suc n)))))))))) p q h = absurd (omega arith)

pub alone_once : (r s : Refusal) → refusal_number r ≡ refusal_number s → refusal_number r < 10 → r ≡ s
unfolding refused
alone_once r s e h =
    ap refused (sym (named_told (Err r)) ∙ named_alone (refusal_number r) (refusal_place r) (refusal_place s) h ∙ ap (λ (n : ℕ). named n (refusal_place s)) e ∙ named_told (Err s))
