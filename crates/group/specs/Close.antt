-- What closing the open tick does.
use Rattle.std.specs.Prelude.{cond, List, ℕ, ◌+◌, leb}
use Rattle.std.specs.Int.Bits.{bit_or}
use Rattle.rules.specs.Ranges.{ticks}
use Rattle.rules.specs.Refusals.{no_tick_left}
use Rattle.bits.specs.Bit.{after_word}
use Rattle.sets.specs.Set.{none, either, after}
use Rattle.group.specs.SheetWords.{sheet_words}
use Rattle.group.specs.declared.Group.{Group}
use Rattle.group.specs.declared.Answer.{Answer}
use Rattle.grants.specs.Words.{closed_words}

-- a model is in: "(no SL and no LL) since a join of either kind"
unfoldable pub closed_members : Group → ℕ
closed_members g = after_word g.members (bit_or g.sl g.ll) (bit_or g.sj g.lj)

-- the sheets with a remove, and with an add, of either kind
abbrev pub removes : Group → List ℕ
removes g = either sheet_words g.sr g.lr

abbrev pub adds : Group → List ℕ
adds g = either sheet_words g.sa g.la

-- a sheet is in: (no SR and no LR) since an add of either kind
unfoldable pub closed_added : Group → List ℕ
closed_added g = after sheet_words g.added (removes g) (adds g)

-- a sheet is in by LA: "(no SR and no LR) since an LA"
unfoldable pub closed_liberal : Group → List ℕ
closed_liberal g = after sheet_words g.liberal (removes g) g.la

-- "Closing applies all its accepted requests together."
unfoldable pub closed_group : Group → Group
closed_group g = record {
  number = g.number;
  closed = g.closed + 1;
  members = closed_members g;
  sj = 0;
  lj = 0;
  sl = 0;
  ll = 0;
  added = closed_added g;
  liberal = closed_liberal g;
  sa = none sheet_words;
  la = none sheet_words;
  sr = none sheet_words;
  lr = none sheet_words;
  grants = closed_words g.grants g.sr (adds g) (closed_liberal g) (closed_members g) g.sl g.lj;
}

-- "3: 1,000,000 or more ticks closed (request or close)"
unfoldable pub close_answer : Group → Answer
close_answer g =
    cond (leb ticks g.closed)
    (record { code = no_tick_left; group = g })
    (record { code = 0; group = closed_group g })
