-- The judge's refusals, line by line. Assumes nothing.
use mathlib.Core.Path.{◌≡◌, refl, ap, sym, ◌∙◌, subst}
use mathlib.Core.Bool.{Bool, true, false, not, cond, or-false}
use mathlib.Core.List.{List, [], ◌∷◌, ◌++◌}
use mathlib.Core.Logic.{⊎_elim}
use Prim.Native.Nat.{ℕ, ◌+◌, ◌*◌, ◌/◌, ◌%◌, ◌^◌, ◌≤◌}
use native.Mathlib.Omega.{arith}
use lib.Dec.{eqb, ltb, leb}
use Rattle.std.specs.Prelude.{Result, Ok, Err}
use lib.ListN.{length}
use borrow.Author.Tests.{leb-true, le-ltb, not-false}
use Rattle.base.proofs.Truth.{both, either}
use Rattle.rules.specs.Ranges.{ticks, events}
use Rattle.rules.specs.Refusals.{late_now, long_model, long_sheet, bad_model, bad_sheet}
use Rattle.rules.specs.Refusal.{refusal_number}
use Rattle.rules.specs.declared.refusal.Refusal.{Refusal as Reason}
use Rattle.rules.specs.declared.refusal.Refusal.TheVariants.{LateNow, LongModel, LongSheet, BadModel, BadSheet}
use Rattle.formula.specs.Verdict.{verdict}
use Rattle.formula.specs.declared.Verdict.{Verdict}
use Rattle.strip.specs.declared.Side.{Side}
use Rattle.strip.specs.declared.Side.TheVariants.{Model, Sheet}
use Rattle.strip.specs.Good.{good_place, first_bad}
use Rattle.strip.specs.History.{history_of}
use Rattle.evidence.specs.Evidence.{evidence_of}
use Rattle.judge.specs.Judge.{judged_by}
use Rattle.wire.proofs.Words.{length_words}
use Rattle.wire.specs.Words.{words_in}
use Rattle.loader.specs.Judge.{whole_strip, packed, judged_from}
use Rattle.demands.specs.Judgement.{judgement_told, packed_judgement}
use Rattle.demands.specs.Lines.{Refusal, at, plain, none, Line, line, first_met, Refuses}
use Rattle.demands.specs.Refusals.{strip_lines, judge_lines, bytes_lines, refused_verdict}
use Rattle.demands.proofs.Lines.{any, first_each, first_each_last}

-- the refusal in the call's own answer
abbrev told_refusal : Result Verdict Reason → Refusal
told_refusal answer = refused_verdict (judgement_told answer)

-- ---- the strips

module _ (side : Side) (now : ℕ) (s : List ℕ) (number : ℕ) where
  abbrev bad : ℕ → Bool
  bad i = not (good_place side now s i)

  bad_met : (i : ℕ) → any (line (bad i) (at number i) ∷ []) ≡ bad i
  unfolding any
  bad_met i = or-false (bad i)

  bad_told : (i : ℕ) → bad i ≡ true → first_met (line (bad i) (at number i) ∷ []) ≡ at number i
  unfolding first_met
  bad_told i t = simp t

  pub strip_first : (rest : List Line)
      → first_met (strip_lines side now s number ++ rest) ≡ cond (ltb (first_bad side now s) (length s)) (at number (first_bad side now s)) (first_met rest)
  unfolding first_bad
  strip_first rest = first_each (λ i. line (bad i) (at number i) ∷ []) bad (at number) bad_met bad_told (length s) rest

  strip_last : first_met (strip_lines side now s number) ≡ cond (ltb (first_bad side now s) (length s)) (at number (first_bad side now s)) none
  unfolding first_bad
  strip_last = first_each_last (λ i. line (bad i) (at number i) ∷ []) bad (at number) bad_met bad_told (length s)

module _ (m s : List ℕ) (now : ℕ) where
  strips_first : first_met (strip_lines Model now m bad_model ++ strip_lines Sheet now s bad_sheet)
      ≡ cond (ltb (first_bad Model now m) (length m)) (at bad_model (first_bad Model now m))
      (cond (ltb (first_bad Sheet now s) (length s)) (at bad_sheet (first_bad Sheet now s)) none)
  strips_first =
      strip_first Model now m bad_model (strip_lines Sheet now s bad_sheet)
      ∙ ap (λ (r : Refusal). cond (ltb (first_bad Model now m) (length m)) (at bad_model (first_bad Model now m)) r) (strip_last Sheet now s bad_sheet)

-- ---- the judge

-- 13 and 14, or a verdict
strips_order : (d e : Bool) (x y : ℕ) (v : Verdict)
    → told_refusal (cond d (Err (BadModel x)) (cond e (Err (BadSheet y)) (Ok v))) ≡ cond d (at bad_model x) (cond e (at bad_sheet y) none)
strips_order true e x y v = refl
strips_order false true x y v = refl
strips_order false false x y v = refl

-- 10, 11 and 12 before
judge_order : (a b c : Bool) (v : Result Verdict Reason) (rest : List Line) → (a ≡ false → b ≡ false → c ≡ false → told_refusal v ≡ first_met rest)
    → told_refusal (cond a (Err LateNow) (cond b (Err LongModel) (cond c (Err LongSheet) v)))
    ≡ first_met (line a (plain late_now) ∷ line b (plain long_model) ∷ line c (plain long_sheet) ∷ rest)
unfolding first_met
judge_order true b c v rest e = refl
judge_order false true c v rest e = refl
judge_order false false true v rest e = refl
judge_order false false false v rest e = e refl refl refl

module _ (m s : List ℕ) (now : ℕ) where
  strips_told : told_refusal (cond (ltb (first_bad Model now m) (length m)) (Err (BadModel (first_bad Model now m)))
      (cond (ltb (first_bad Sheet now s) (length s)) (Err (BadSheet (first_bad Sheet now s))) (Ok (verdict (history_of m) (history_of s) now))))
      ≡ first_met (strip_lines Model now m bad_model ++ strip_lines Sheet now s bad_sheet)
  strips_told =
      strips_order (ltb (first_bad Model now m) (length m)) (ltb (first_bad Sheet now s) (length s)) (first_bad Model now m) (first_bad Sheet now s)
      (verdict (history_of m) (history_of s) now)
      ∙ sym (strips_first m s now)

  judge_first : told_refusal (judged_by m s now) ≡ first_met (judge_lines m s now)
  judge_first = judge_order (ltb ticks now) (ltb events (length m)) (ltb events (length s)) _ _ (λ a b c. strips_told)

-- a refused verdict has no evidence, and goes to C as its number and place
no_evidence : (v : Result Verdict Reason) (m s : List ℕ) → ((told_refusal v).number ≡ 0 → ⊥) → evidence_of v m s ≡ []
no_evidence (Ok verdict) m s r = absurd (r refl)
no_evidence (Err refusal) m s r = refl

packed_verdict : (v : Result Verdict Reason) → packed v ≡ cond (eqb (told_refusal v).number 0) (packed_judgement (judgement_told v)) ((told_refusal v).number * 2 ^ 32 + (told_refusal v).place)
packed_verdict (Ok verdict) = refl
packed_verdict (Err refusal) =
    ⊎_elim (λ (t : eqb (refusal_number refusal) 0 ≡ true). simp t) (λ (f : eqb (refusal_number refusal) 0 ≡ false). simp f) (either (eqb (refusal_number refusal) 0))

packed_cases : (a b c : Bool) (v : Result Verdict Reason) → let w = cond a (Err LateNow) (cond b (Err LongModel) (cond c (Err LongSheet) v)) in
    packed w ≡ cond (eqb (told_refusal w).number 0) (packed_judgement (judgement_told v)) ((told_refusal w).number * 2 ^ 32 + (told_refusal w).place)
packed_cases true b c v = refl
packed_cases false true c v = refl
packed_cases false false true v = refl
packed_cases false false false v = packed_verdict v

whole_short : (b : List ℕ) → whole_strip (length b) ≡ true → length (words_in b) ≤ events
whole_short b w =
    let few : length b ≤ 4 * events = leb-true _ _ (both (eqb (length b % 4) 0) (leb (length b) (4 * events)) w).1 in
    omega (arith, length_words b (length b / 4))

module _ (m s : List ℕ) (now : ℕ) where
  pub judge_refuses : Refuses (judge_lines m s now) (refused_verdict (judgement_told (judged_by m s now))) (evidence_of (judged_by m s now) m s ≡ [])
  judge_refuses = record { first = judge_first m s now; unchanged = no_evidence (judged_by m s now) m s }

  -- whole words, and not too many, are a strip that is not too long
  bytes_first : told_refusal (judged_from m s now) ≡ first_met (bytes_lines m s now)
  bytes_first = judge_order (ltb ticks now) (not (whole_strip (length m))) (not (whole_strip (length s))) _ _
      (λ a b c. simp (a, le-ltb _ _ (whole_short m (not-false _ b)), le-ltb _ _ (whole_short s (not-false _ c))) (strips_told (words_in m) (words_in s) now))

  -- a refusal goes to C as its number and place; what isn't refused is the judge's verdict on the words
  pub bytes_packed : let refusal = first_met (bytes_lines m s now) in
      packed (judged_from m s now) ≡ cond (eqb refusal.number 0) (packed_judgement (judgement_told (judged_by (words_in m) (words_in s) now))) (refusal.number * 2 ^ 32 + refusal.place)
  bytes_packed = subst (λ (r : Refusal). packed (judged_from m s now) ≡ cond (eqb r.number 0) (packed_judgement (judgement_told (judged_by (words_in m) (words_in s) now))) (r.number * 2 ^ 32 + r.place))
      bytes_first (packed_cases (ltb ticks now) (not (whole_strip (length m))) (not (whole_strip (length s))) (judged_by (words_in m) (words_in s) now))
