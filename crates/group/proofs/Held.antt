-- Every group that a machine holds fits. Assumes nothing.
use mathlib.Core.List.{List}
use lib.ListN.{get_or}
use mir.Val.{Val, Fits as FitsIn}
use mir.Syntax.{w64}
use borrow.Author.Rules.{rules}
use denote.Laws.{Is}
use denote.Struct.Laws as LL
use Rattle.group.specs.Fits.{Fits}
use Rattle.group.specs.declared.Group.{Group}
use Rattle.group.specs.contracts.Group as T
use Rattle.group.proofs.Group.TheLaws as T'

pub held_fits : (g : Group) (vs : List Val) → Is T.the_row g vs → Fits g
held_fits g vs is =
    let owed = LL.owed T.the_type T'.the_laws g vs is in
    record {
      number = search rules;
      closed = search rules;
      members = search rules;
      sj = search rules;
      lj = search rules;
      sl = search rules;
      ll = search rules;
      added = record { long = search rules; words = λ k. let w : FitsIn w64 (get_or g.added k 0) = search rules in w.fits };
      liberal = record { long = search rules; words = λ k. let w : FitsIn w64 (get_or g.liberal k 0) = search rules in w.fits };
      sa = record { long = search rules; words = λ k. let w : FitsIn w64 (get_or g.sa k 0) = search rules in w.fits };
      la = record { long = search rules; words = λ k. let w : FitsIn w64 (get_or g.la k 0) = search rules in w.fits };
      sr = record { long = search rules; words = λ k. let w : FitsIn w64 (get_or g.sr k 0) = search rules in w.fits };
      lr = record { long = search rules; words = λ k. let w : FitsIn w64 (get_or g.lr k 0) = search rules in w.fits };
      grants = record { long = search rules; words = λ k. let w : FitsIn w64 (get_or g.grants k 0) = search rules in w.fits };
    }
