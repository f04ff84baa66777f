-- What a check's answer tells: a refusal is every call's refusal, and without one the strips are accepted. Assumes nothing.
use mathlib.Core.Path.{◌≡◌, refl, sym, ap, ◌∙◌}
use mathlib.Core.Bool.{Bool, true, false, cond, true≢false}
use mathlib.Core.List.{List}
use Prim.Native.Nat.{ℕ}
use native.Mathlib.Omega.{arith}
use lib.Dec.{ltb}
use lib.ListN.{length}
use borrow.Author.Tests.{ltb-false, le-ltb}
use Rattle.std.specs.Prelude.{Result, Ok, Err, ⊤}
use Rattle.rules.specs.Ranges.{ticks, events}
use Rattle.rules.specs.declared.refusal.Refusal.{Refusal}
use Rattle.formula.specs.Answer.{verdict_number, verdict_value}
use Rattle.formula.specs.Verdict.{verdict}
use Rattle.formula.specs.declared.Verdict.{Verdict}
use Rattle.strip.specs.declared.Side.TheVariants.{Model, Sheet}
use Rattle.strip.specs.Good.{first_bad}
use Rattle.strip.specs.History.{history_of}
use Rattle.strip.proofs.Bad.{all_good, good_none}
use Rattle.judge.specs.Judge.{checked, StripsAccepted, judged_by, Judges}

-- five tests in a row, none of which was met
abbrev tested : Bool → Bool → Bool → Bool → Bool → Refusal → Refusal → Refusal → Refusal → Refusal → Result ⊤ Refusal
tested u v w x y p q r k l = cond u (Err p) (cond v (Err q) (cond w (Err r) (cond x (Err k) (cond y (Err l) (Ok tt)))))

none_met : (u v w x y : Bool) (p q r k l : Refusal) → tested u v w x y p q r k l ≡ Ok tt
    → (u ≡ false) × (v ≡ false) × (w ≡ false) × (x ≡ false) × (y ≡ false)
none_met true v w x y p q r k l e = absurd (true≢false (cc e))
none_met false true w x y p q r k l e = absurd (true≢false (cc e))
none_met false false true x y p q r k l e = absurd (true≢false (cc e))
none_met false false false true y p q r k l e = absurd (true≢false (cc e))
none_met false false false false true p q r k l e = absurd (true≢false (cc e))
none_met false false false false false p q r k l e = (refl, refl, refl, refl, refl)

-- what is made of an answer
abbrev made : {A : Type 0} → (Refusal → A) → A → Result ⊤ Refusal → A
made refuse a (Ok u) = a
made refuse a (Err refusal) = refuse refusal

module _ (m s : List ℕ) (now : ℕ) where
  abbrev answer : Result ⊤ Refusal
  answer = checked m s now Err (Ok tt)

  pub checks : {A : Type 0} (refuse : Refusal → A) (a : A) → StripsAccepted m s now → checked m s now refuse a ≡ a
  checks refuse a x = simp (
    le-ltb _ _ x.tick,
    le-ltb _ _ x.short_m,
    le-ltb _ _ x.short_s,
    le-ltb (first_bad Model now m) (length m) (omega (arith, good_none Model now m x.good_m)),
    le-ltb (first_bad Sheet now s) (length s) (omega (arith, good_none Sheet now s x.good_s)),
  )

  pub check_accepts : answer ≡ Ok tt → StripsAccepted m s now
  check_accepts e =
      let f = none_met (ltb ticks now) (ltb events (length m)) (ltb events (length s)) (ltb (first_bad Model now m) (length m)) (ltb (first_bad Sheet now s) (length s)) _ _ _ _ _ e in
      record {
        tick = ltb-false _ _ f.0;
        short_m = ltb-false _ _ f.1;
        short_s = ltb-false _ _ f.2;
        good_m = all_good Model now m (ltb-false _ _ f.3);
        good_s = all_good Sheet now s (ltb-false _ _ f.4);
      }

  -- what is made of an answer is made of each of its cases
  module _ {A B : Type 0} (f : A → B) (refuse : Refusal → A) (a : A) where
    each_case : (u v w x y : Bool) (p q r k l : Refusal)
        → f (cond u (refuse p) (cond v (refuse q) (cond w (refuse r) (cond x (refuse k) (cond y (refuse l) a)))))
        ≡ cond u (f (refuse p)) (cond v (f (refuse q)) (cond w (f (refuse r)) (cond x (f (refuse k)) (cond y (f (refuse l)) (f a)))))
    each_case true v w x y p q r k l = refl
    each_case false true w x y p q r k l = refl
    each_case false false true x y p q r k l = refl
    each_case false false false true y p q r k l = refl
    each_case false false false false true p q r k l = refl
    each_case false false false false false p q r k l = refl

    check_through : f (checked m s now refuse a) ≡ checked m s now (λ refusal. f (refuse refusal)) (f a)
    check_through = each_case (ltb ticks now) (ltb events (length m)) (ltb events (length s)) (ltb (first_bad Model now m) (length m)) (ltb (first_bad Sheet now s) (length s)) _ _ _ _ _

  pub check_refuses : {A : Type 0} (refuse : Refusal → A) (a : A) {r : Refusal} → answer ≡ Err r → checked m s now refuse a ≡ refuse r
  check_refuses refuse a e = sym (check_through (made refuse a) Err (Ok tt)) ∙ ap (made refuse a) e

  -- what makes something else of each refusal has accepted
  pub check_passes : {A : Type 0} (refuse : Refusal → A) (a : A) → ((r : Refusal) → checked m s now refuse a ≡ refuse r → ⊥) → StripsAccepted m s now
  check_passes refuse a n = go answer refl
    where
      go : (r : Result ⊤ Refusal) → answer ≡ r → StripsAccepted m s now
      go (Ok u) e = check_accepts e
      go (Err r) e = absurd (n r (check_refuses refuse a e))

  -- the judge's answer has the number and the value of its case
  pub judges : (r : Result Verdict Refusal) → r ≡ judged_by m s now → Judges m s now r
  judges r e =
      let v = verdict (history_of m) (history_of s) now in
      record {
        answer = e;
        number = ap verdict_number e ∙ check_through verdict_number Err (Ok v);
        value = ap verdict_value e ∙ check_through verdict_value Err (Ok v);
      }
