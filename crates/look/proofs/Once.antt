-- What is seen of the look's answer, and of its refusal, says which answer it is. Assumes nothing.
use mathlib.Core.Path.{◌≡◌, sym, ap}
use Rattle.std.specs.Prelude.{Result, Ok, Err}
use Rattle.rules.specs.Refusal.{Told}
use Rattle.rules.proofs.Told.{never_zero, refusal_once}
use Rattle.parts.specs.declared.Sums.{Sums}
use Rattle.look.specs.declared.Fault.{Fault}
use Rattle.look.specs.Look.{Checked, seen, refusal_seen}

pub seen_once : (r t : Result Sums Fault) → seen r ≡ seen t → refusal_seen r ≡ refusal_seen t → r ≡ t
seen_once (Ok a) (Ok b) e f = λ i. Ok (record { count = ap (λ (c : Checked). c.count) e i; total = ap (λ (c : Checked). c.total) e i })
seen_once (Ok a) (Err q) e f = absurd (never_zero q.refusal (sym (ap (λ (x : Told). x.code) f)))
seen_once (Err p) (Ok b) e f = absurd (never_zero p.refusal (ap (λ (x : Told). x.code) f))
seen_once (Err p) (Err q) e f =
    let same = refusal_once p.refusal q.refusal (ap (λ (x : Told). x.code) f) (ap (λ (x : Told). x.place) f) in
    λ i. Err (record {
      refusal = same i;
      before = record { count = ap (λ (c : Checked). c.count) e i; total = ap (λ (c : Checked). c.total) e i };
    })
