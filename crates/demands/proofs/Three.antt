-- Our gate meets demand 3 (specs/Three.antt). Assumes nothing.
use mathlib.Core.Path.{refl}
use Rattle.group.proofs.Fits.{fresh_answer_fits}
use Rattle.demands.specs.Ours.{ours}
use Rattle.demands.specs.Three.{DemandThree}
use Rattle.demands.proofs.Alike.{answers_alike, reached_start}

pub demand_three : DemandThree ours
demand_three number m calls calls' a = answers_alike m number a (reached_start number) _ (fresh_answer_fits number) (fresh_answer_fits number) refl
