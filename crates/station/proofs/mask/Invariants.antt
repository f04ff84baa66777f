-- The loop goes from the last position to the first: the mask is that of the groups from there on.
use Rattle.std.proofs.Common.{◌≡◌, ◌-◌, ◌<◌, length, drop}
use Rattle.group.specs.Read.{read_refusal}
use Rattle.station.specs.Mask.{mask_of}
use Rattle.station.proofs.mask.Given as goal

abbrev pub invariant-loop-g : goal.invariant-loop-g
invariant-loop-g l =
    (l.found ≡ mask_of (drop (length l.gs - length l.yielded) l.gs) l.model l.sheet) × (0 < length l.yielded → read_refusal l.model l.sheet ≡ 0)
