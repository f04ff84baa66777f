-- The pass before the first tick, and one turn of it: what the code does. proofs/Turn.antt ties it to the scan over all ticks.
use Rattle.std.specs.Prelude.{cond, List, ℕ, ◌+◌, ltb}
use Rattle.rules.specs.Kinds.{quiet}
use Rattle.standing.specs.Scan.{start, step_of}
use Rattle.stepping.specs.Next.{head_of}
use Rattle.stepping.specs.declared.Head.{Head}
use Rattle.pass.specs.declared.Pass.{Pass}

-- the pass before the first tick
abbrev pub begun : List ℕ → List ℕ → Pass
begun m s = record { i = 0; j = 0; model = head_of m 0; sheet = head_of s 0; tick = 0; seen = start }

-- the pass with the model's next event taken, the sheet's, or both in one tick
abbrev pub model_taken : List ℕ → Pass → Head → Pass
model_taken m p a =
    record { i = p.i + 1; j = p.j; model = head_of m (p.i + 1); sheet = p.sheet; tick = a.tick; seen = step_of p.seen a.tick a.kind quiet }

abbrev pub sheet_taken : List ℕ → Pass → Head → Pass
sheet_taken s p b =
    record { i = p.i; j = p.j + 1; model = p.model; sheet = head_of s (p.j + 1); tick = b.tick; seen = step_of p.seen b.tick quiet b.kind }

abbrev pub both_taken : List ℕ → List ℕ → Pass → Head → Head → Pass
both_taken m s p a b = record {
  i = p.i + 1;
  j = p.j + 1;
  model = head_of m (p.i + 1);
  sheet = head_of s (p.j + 1);
  tick = a.tick;
  seen = step_of p.seen a.tick a.kind b.kind;
}

-- the pass with the events of the next tick taken
abbrev pub advanced : List ℕ → List ℕ → Pass → Pass
advanced m s p =
    cond (ltb p.model.tick p.sheet.tick) (model_taken m p p.model)
    (cond (ltb p.sheet.tick p.model.tick) (sheet_taken s p p.sheet) (both_taken m s p p.model p.sheet))
