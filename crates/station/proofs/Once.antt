-- What a mask tells in numbers is no less than what it answers. Assumes nothing.
use Rattle.std.specs.Prelude.{◌≡◌, ◌<◌, ◌||◌, ℕ, Bool, true, false, cond, eqb, ltb, leb, List, length, Result, Ok, Err}
use Rattle.std.proofs.Common.{sym, ap, ◌∙◌, arith}
use Rattle.rules.specs.Ranges.{models, sheets, groups}
use Rattle.rules.specs.Refusals.{bad_number, bad_list}
use Rattle.rules.specs.declared.refusal.Refusal.{Refusal}
use Rattle.rules.proofs.Told.{never_zero, alone_once}
use Rattle.group.specs.Read.{read_refusal}
use Rattle.group.specs.declared.Group.{Group}
use Rattle.station.specs.Mask.{mask_told, mask_of, list_refusal, answer_with, mask_answer}
use Rattle.station.specs.declared.MaskAnswer.{MaskAnswer}

told_mask : (r t : Result ℕ Refusal) → mask_told r ≡ mask_told t → (mask_told r).code < 10 → r ≡ t
told_mask (Ok a) (Ok b) e h = ap Ok (ap (λ (c : MaskAnswer). c.mask) e)
told_mask (Ok a) (Err b) e h = absurd (never_zero b (sym (ap (λ (c : MaskAnswer). c.code) e)))
told_mask (Err a) (Ok b) e h = absurd (never_zero a (ap (λ (c : MaskAnswer). c.code) e))
told_mask (Err a) (Err b) e h = ap Err (alone_once a b (ap (λ (c : MaskAnswer). c.code) e) h)

mask_small : (gs : List Group) (m s : ℕ) → (mask_answer gs m s).code < 10
unfolding mask_answer answer_with list_refusal read_refusal
mask_small gs m s = go (eqb (length gs) 0 || ltb groups (length gs)) (leb models m) (leb sheets s)
  where
    go : (a b c : Bool)
        → let code : ℕ = cond a bad_list (cond b bad_number (cond c bad_number 0)) in
        let r : MaskAnswer = cond (eqb code 0) (record { code = 0; mask = mask_of gs m s }) (record { code = code; mask = 0 }) in
        r.code < 10
    go true b c = omega arith
    go false true c = omega arith
    go false false true = omega arith
    go false false false = omega arith

pub mask_once : (gs : List Group) (m s : ℕ) (r t : Result ℕ Refusal) → mask_told r ≡ mask_answer gs m s → mask_told t ≡ mask_answer gs m s → r ≡ t
mask_once gs m s r t p q = told_mask r t (p ∙ sym q) (rw p (mask_small gs m s))
