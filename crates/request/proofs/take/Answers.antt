-- `request::take` meets its contract: the mark is set only where no refusal is given.
use Rattle.std.proofs.Common.{sym, ap, ◌∙◌, rules}
use Rattle.std.specs.Prelude.{◌≡◌, Err}
use Rattle.rules.specs.Refusal.{Told}
use Rattle.rules.proofs.Told.{never_zero}
use Rattle.group.proofs.Accepted.{accepted}
use Rattle.group.proofs.Request.{request_code, request_refused, request_accepted}
use Rattle.group.specs.Request.{request_refusal}
use Rattle.request.proofs.take.Goals as goal
use Rattle.request.proofs.take.Goals.{In_ok-request_refusal}

-- no refusal was told
none : (c : In_ok-request_refusal) → request_refusal c.args.g.now c.args.kind c.args.number ≡ 0
none c = sym (ap (λ (t : Told). t.code) c.in_ok-request_refusal.ensures)

pub returns-in_err-request_refusal-clause-answer : goal.returns-in_err-request_refusal-clause-answer
returns-in_err-request_refusal-clause-answer c =
    let same : c.from_residual.result ≡ Err c.in_err-request_refusal.field-0.0 = search rules in
    rw (same, request_code) c.in_err-request_refusal.ensures

pub returns-in_err-request_refusal-clause-group : goal.returns-in_err-request_refusal-clause-group
returns-in_err-request_refusal-clause-group c =
    sym (request_refused c.args.g.now c.args.kind c.args.number
    (λ z. never_zero c.in_err-request_refusal.field-0.0 (ap (λ (t : Told). t.code) c.in_err-request_refusal.ensures ∙ z)))

pub mark-requires : goal.mark-requires
mark-requires c = (accepted c.args.g.now c.args.kind c.args.number (none (goal.at.mark-requires c).In_ok-request_refusal)).ranged

pub returns-clause-answer : goal.returns-clause-answer
returns-clause-answer c = simp (request_code, none (goal.at.returns-clause-answer c).In_ok-request_refusal)

pub returns-clause-group : goal.returns-clause-group
returns-clause-group c = c.mark.ensures ∙ sym (request_accepted c.args.g.now c.args.kind c.args.number (none (goal.at.returns-clause-group c).In_ok-request_refusal))
