-- The refusals of the spans, line by line: the judge's, then 40. Assumes nothing.
use mathlib.Core.Path.{◌≡◌, refl, sym, ap, ◌∙◌}
use mathlib.Core.Bool.{Bool, true, false, cond}
use mathlib.Core.List.{List, [], ◌∷◌, ◌++◌, append_assoc}
use Prim.Native.Nat.{ℕ, ◌*◌}
use lib.Dec.{ltb}
use lib.ListN.{length}
use Rattle.rules.specs.Ranges.{ticks, events}
use Rattle.rules.specs.Refusals.{late_now, long_model, long_sheet, bad_model, bad_sheet, too_many_spans}
use Rattle.strip.specs.declared.Side.TheVariants.{Model, Sheet}
use Rattle.strip.specs.Good.{first_bad}
use Rattle.wire.specs.Put.{put}
use Rattle.span.specs.Answer.{flat, spans_in, refused, spans_answer, list_after}
use Rattle.span.specs.declared.SpansAnswer.{SpansAnswer}
use Rattle.demands.specs.Lines.{Refusal, at, plain, none, Line, line, first_met, Refuses}
use Rattle.demands.specs.Refusals.{strip_lines, spans_lines}
use Rattle.demands.proofs.RefusedJudge.{strip_first}

abbrev told : SpansAnswer → Refusal
told r = at r.code r.place

-- six tests in a row: what is refused, and what becomes of a list
module _ (x y n : ℕ) (list new : List ℕ) where
  abbrev said : Bool → Bool → Bool → Bool → Bool → Bool → SpansAnswer
  said a b c d e f =
      cond a (refused late_now 0) (cond b (refused long_model 0) (cond c (refused long_sheet 0) (cond d (refused bad_model x) (cond e (refused bad_sheet y)
      (cond f (refused too_many_spans 0) (record { code = 0; place = 0; count = n }))))))

  abbrev left : Bool → Bool → Bool → Bool → Bool → Bool → List ℕ
  left a b c d e f = cond a list (cond b list (cond c list (cond d list (cond e list (cond f list new)))))

  order : (a b c d e f : Bool) (strips : List Line) → first_met strips ≡ cond d (at bad_model x) (cond e (at bad_sheet y) (cond f (plain too_many_spans) none))
      → told (said a b c d e f) ≡ first_met (line a (plain late_now) ∷ line b (plain long_model) ∷ line c (plain long_sheet) ∷ strips)
  unfolding first_met
  order true b c d e f strips h = refl
  order false true c d e f strips h = refl
  order false false true d e f strips h = refl
  order false false false true e f strips h = sym h
  order false false false false true f strips h = sym h
  order false false false false false true strips h = sym h
  order false false false false false false strips h = sym h

  kept : (a b c d e f : Bool) → ((told (said a b c d e f)).number ≡ 0 → ⊥) → left a b c d e f ≡ list
  kept true b c d e f h = refl
  kept false true c d e f h = refl
  kept false false true d e f h = refl
  kept false false false true e f h = refl
  kept false false false false true f h = refl
  kept false false false false false true h = refl
  kept false false false false false false h = absurd (h refl)

module _ (m s : List ℕ) (now : ℕ) (list : List ℕ) where
  abbrev count : ℕ
  count = length (spans_in m s now)

  abbrev crowded : Bool
  crowded = ltb (length list) (2 * count)

  strips : first_met ((strip_lines Model now m bad_model ++ strip_lines Sheet now s bad_sheet) ++ (line crowded (plain too_many_spans) ∷ []))
      ≡ cond (ltb (first_bad Model now m) (length m)) (at bad_model (first_bad Model now m))
      (cond (ltb (first_bad Sheet now s) (length s)) (at bad_sheet (first_bad Sheet now s)) (cond crowded (plain too_many_spans) none))
  unfolding first_met
  strips =
      ap first_met (append_assoc (strip_lines Model now m bad_model) (strip_lines Sheet now s bad_sheet) (line crowded (plain too_many_spans) ∷ []))
      ∙ strip_first Model now m bad_model (strip_lines Sheet now s bad_sheet ++ (line crowded (plain too_many_spans) ∷ []))
      ∙ ap (λ (r : Refusal). cond (ltb (first_bad Model now m) (length m)) (at bad_model (first_bad Model now m)) r)
      (strip_first Sheet now s bad_sheet (line crowded (plain too_many_spans) ∷ []))

  pub spans_refuses : let r = spans_answer m s now (length list) in Refuses (spans_lines m s now (length list)) (at r.code r.place) (list_after m s now list ≡ list)
  spans_refuses =
      let a = ltb ticks now in
      let b = ltb events (length m) in
      let c = ltb events (length s) in
      let d = ltb (first_bad Model now m) (length m) in
      let e = ltb (first_bad Sheet now s) (length s) in
      record {
        first = order (first_bad Model now m) (first_bad Sheet now s) count list list a b c d e crowded _ strips;
        unchanged = kept (first_bad Model now m) (first_bad Sheet now s) count list (put list 0 (flat (spans_in m s now))) a b c d e crowded;
      }
