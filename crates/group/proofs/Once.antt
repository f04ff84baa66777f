-- What a read and a count tell in numbers is no less than what they answer. Assumes nothing.
use Rattle.std.specs.Prelude.{◌≡◌, ◌<◌, ℕ, Bool, true, false, cond, leb, Result, Ok, Err}
use Rattle.std.proofs.Common.{sym, ap, ◌∙◌, refl, arith}
use Rattle.rules.specs.Ranges.{models, sheets}
use Rattle.rules.specs.Refusals.{bad_number}
use Rattle.rules.specs.Refusal.{refusal_number}
use Rattle.rules.specs.declared.refusal.Refusal.{Refusal}
use Rattle.rules.proofs.Told.{never_zero, alone_once}
use Rattle.group.specs.Count.{models_granted, count_told, count_answer}
use Rattle.group.specs.Read.{Granted, Denied, Refused, read_told, read_number, read_refusal, Reads}
use Rattle.group.specs.declared.CountAnswer.{CountAnswer}
use Rattle.group.specs.declared.Group.{Group}

told_read : (r t : Result Bool Refusal) → read_told r ≡ read_told t → read_number (read_told r) < 10 → r ≡ t
told_read (Ok true) (Ok true) e h = refl
told_read (Ok true) (Ok false) e h = cc
told_read (Ok true) (Err b) e h = cc
told_read (Ok false) (Ok true) e h = cc
told_read (Ok false) (Ok false) e h = refl
told_read (Ok false) (Err b) e h = cc
told_read (Err a) (Ok true) e h = cc
told_read (Err a) (Ok false) e h = cc
told_read (Err a) (Err b) e h = ap Err (alone_once a b (ap read_number e) h)

read_small : (m s : ℕ) → read_refusal m s < 10
unfolding read_refusal
read_small m s = go (leb models m) (leb sheets s)
  where
    go : (a b : Bool) → cond a bad_number (cond b bad_number 0) < 10
    go true b = omega arith
    go false true = omega arith
    go false false = omega arith

pub read_once : (g : Group) (m s : ℕ) (r t : Result Bool Refusal) → Reads g m s (read_told r) → Reads g m s (read_told t) → r ≡ t
read_once g m s r t p q = told_read r t (p.answer ∙ sym q.answer) (rw p.number (read_small m s))

told_count : (r t : Result ℕ Refusal) → count_told r ≡ count_told t → (count_told r).code < 10 → r ≡ t
told_count (Ok a) (Ok b) e h = ap Ok (ap (λ (c : CountAnswer). c.count) e)
told_count (Ok a) (Err b) e h = absurd (never_zero b (sym (ap (λ (c : CountAnswer). c.code) e)))
told_count (Err a) (Ok b) e h = absurd (never_zero a (ap (λ (c : CountAnswer). c.code) e))
told_count (Err a) (Err b) e h = ap Err (alone_once a b (ap (λ (c : CountAnswer). c.code) e) h)

count_small : (g : Group) (s : ℕ) → (count_answer g s).code < 10
unfolding count_answer
count_small g s = go (leb sheets s)
  where
    go : (c : Bool) → let r : CountAnswer = cond c (record { code = bad_number; count = 0 }) (record { code = 0; count = models_granted g s }) in r.code < 10
    go true = omega arith
    go false = omega arith

pub count_once : (g : Group) (s : ℕ) (r t : Result ℕ Refusal) → count_told r ≡ count_answer g s → count_told t ≡ count_answer g s → r ≡ t
count_once g s r t p q = told_count r t (p ∙ sym q) (rw p (count_small g s))
