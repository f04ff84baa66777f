-- The numbers that name a part, in the list that they name, are the part that the call behind the export shows: the same words at the same place.
-- Assumes nothing.
use mathlib.Core.Path.{◌≡◌, refl, sym, ap, ◌∙◌}
use mathlib.Core.Bool.{Bool, true, false, cond}
use mathlib.Core.List.{List}
use Prim.Native.Nat.{ℕ, ◌+◌, ◌-◌}
use lib.Dec.{eqb}
use Rattle.std.specs.Prelude.{Result, Ok, Err}
use Rattle.rules.specs.declared.refusal.Refusal.{Refusal}
use lib.ListN.{length, take, drop, take-append-drop}
use lib.Seq.{take-append_seam}
use denote.Ref.{Bor}
use Rattle.base.specs.Part.{word_at}
use Rattle.base.proofs.Part.{tail}
use Rattle.formula.specs.declared.Verdict.{Verdict}
use Rattle.formula.specs.declared.Verdict.TheVariants.{Granted, Denied}
use Rattle.formula.specs.declared.Moment.TheVariants.{Add, Join}
use Rattle.evidence.specs.Evidence.{place_of, evidence_of, start_of}
use Rattle.tick.specs.Tick.{rising, place_from, tick_part}
use Rattle.tick.proofs.Part.{no_part, part_here}
use Rattle.crossing.specs.declared.part.Part.{Part}
use Rattle.crossing.specs.Part.{sheet_strip, evidence_part, records_part}

-- the words that a part's numbers name in a list
abbrev pub words_of : Part → List ℕ → List ℕ
words_of p l = take p.count (drop p.first l)

-- the strip that they name
abbrev pub strip_in : Part → {A : Type 0} → A → A → A
strip_in p m s = cond (eqb p.list sheet_strip) s m

pub evidence_words : (v : Result Verdict Refusal) (m s : List ℕ) → words_of (evidence_part v m s) (strip_in (evidence_part v m s) m s) ≡ evidence_of v m s
evidence_words (Ok (Granted (Add t))) m s = tail s (place_of s t)
evidence_words (Ok (Granted (Join t))) m s = tail m (place_of m t)
evidence_words (Ok (Denied cause)) m s = refl
evidence_words (Err refusal) m s = refl

pub evidence_start : (v : Result Verdict Refusal) (m s : Bor (List ℕ)) → word_at (strip_in (evidence_part v m.now s.now) m s) (evidence_part v m.now s.now).first ≡ start_of v m s
evidence_start (Ok (Granted (Add t))) m s = refl
evidence_start (Ok (Granted (Join t))) m s = refl
evidence_start (Ok (Denied cause)) m s = refl
evidence_start (Err refusal) m s = refl

-- the front of a list, taken again by its own length
front : (n : ℕ) (l p : List ℕ) → take n l ≡ p → take (length p) l ≡ p
front n l p e = rw (← e) (ap (take (length (take n l))) (sym (take-append-drop n l)) ∙ take-append_seam (take n l) (drop n l))

tick_words : (ws : List ℕ) (t : ℕ) (up : Bool) → rising ws ≡ up → words_of (records_part ws t) ws ≡ tick_part ws t
tick_words ws t true e =
    let p = part_here ws t (place_from ws t) (place_from ws (t + 1)) e refl refl in
    rw (← p.1) (front (place_from ws (t + 1) - place_from ws t) (drop (place_from ws t) ws) (tick_part ws t) p.0)
tick_words ws t false e = let p = no_part ws t e in rw (← p.0) refl

-- the start is `records_part`'s own: `first` is `tick_start`
pub records_words : (ws : List ℕ) (t : ℕ) → words_of (records_part ws t) ws ≡ tick_part ws t
records_words ws t = tick_words ws t (rising ws) refl
