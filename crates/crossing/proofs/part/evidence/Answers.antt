-- The evidence is a tail of one strip: its length says where it starts, the verdict of which strip.
use mathlib.Core.Path.{◌≡◌, sym, ap, ap₂, ◌∙◌}
use mathlib.Core.List.{List}
use Prim.Native.Nat.{ℕ, ◌-◌, ◌≤◌}
use native.Mathlib.Omega.{arith}
use lib.ListN.{length, drop, length-drop}
use Rattle.std.specs.Prelude.{Result, Ok}
use Rattle.base.proofs.First.{first_le}
use Rattle.rules.specs.declared.refusal.Refusal.{Refusal}
use Rattle.formula.specs.declared.Verdict.{Verdict}
use Rattle.formula.specs.declared.Verdict.TheVariants.{Granted}
use Rattle.evidence.specs.Evidence.{place_of, evidence_of}
use Rattle.crossing.specs.declared.part.Part.{Part}
use Rattle.crossing.specs.Part.{model_strip, sheet_strip, tail_part}
use Rattle.crossing.proofs.part.evidence.Goals as goal

abbrev part : ℕ → ℕ → ℕ → Part
part list first count = record { list = list; first = first; count = count }

place_le : (s : List ℕ) (t : ℕ) → place_of s t ≤ length s
unfolding place_of
place_le s t = first_le _ (length s)

tail-length : (s e : List ℕ) (t : ℕ) → e ≡ drop (place_of s t) s → length e ≡ length s - place_of s t
tail-length s e t q = ap length q ∙ length-drop (place_of s t) s

tail-le : (s e : List ℕ) (t : ℕ) → e ≡ drop (place_of s t) s → length e ≤ length s
tail-le s e t q = omega (arith, tail-length s e t q)

tail-is : (list : ℕ) (s e : List ℕ) (t : ℕ) → e ≡ drop (place_of s t) s → part list (length s - length e) (length e) ≡ tail_part list (place_of s t) s
tail-is list s e t q =
    let n = tail-length s e t q in
    let f : length s - length e ≡ place_of s t = omega (arith, n, place_le s t) in
    ap₂ (part list) f n

pub returns-in-Ok-Granted-Add : goal.returns-in-Ok-Granted-Add
returns-in-Ok-Granted-Add c =
    let e = sym c.judge.ensures.answer ∙ c.in-Ok-Granted-Add.is ∙ ap Ok (c.in-Ok-Granted-Add.field-0-is ∙ ap Granted c.in-Ok-Granted-Add.field-0-0-is) in
    rw e (tail-is sheet_strip c.args.s.now _ _ (c.evidence-part.ensures.0 ∙ ap (λ (v : Result Verdict Refusal). evidence_of v c.args.m.now c.args.s.now) e))

pub returns-in-Ok-Granted-Join : goal.returns-in-Ok-Granted-Join
returns-in-Ok-Granted-Join c =
    let e = sym c.judge.ensures.answer ∙ c.in-Ok-Granted-Join.is ∙ ap Ok (c.in-Ok-Granted-Join.field-0-is ∙ ap Granted c.in-Ok-Granted-Join.field-0-0-is) in
    rw e (tail-is model_strip c.args.m.now _ _ (c.evidence-part.ensures.0 ∙ ap (λ (v : Result Verdict Refusal). evidence_of v c.args.m.now c.args.s.now) e))
