-- An answer's numbers say which answer it is. Assumes nothing.
use mathlib.Core.Path.{◌≡◌, sym, ap}
use Prim.Native.Nat.{ℕ}
use Rattle.std.specs.Prelude.{Result, Ok, Err}
use Rattle.rules.specs.declared.refusal.Refusal.{Refusal}
use Rattle.rules.proofs.Told.{never_zero, refusal_once}
use Rattle.span.specs.Answer.{counted}
use Rattle.span.specs.declared.SpansAnswer.{SpansAnswer}

pub counted_once : (r t : Result ℕ Refusal) → counted r ≡ counted t → r ≡ t
counted_once (Ok n) (Ok k) e = ap Ok (ap (λ (a : SpansAnswer). a.count) e)
counted_once (Ok n) (Err q) e = absurd (never_zero q (sym (ap (λ (a : SpansAnswer). a.code) e)))
counted_once (Err p) (Ok k) e = absurd (never_zero p (ap (λ (a : SpansAnswer). a.code) e))
counted_once (Err p) (Err q) e = ap Err (refusal_once p q (ap (λ (a : SpansAnswer). a.code) e) (ap (λ (a : SpansAnswer). a.place) e))
