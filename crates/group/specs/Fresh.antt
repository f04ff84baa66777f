-- A fresh group.
use Rattle.std.specs.Prelude.{cond, ℕ, leb}
use Rattle.rules.specs.Ranges.{sheets, groups}
use Rattle.rules.specs.Refusals.{bad_group}
use Rattle.sets.specs.Set.{none}
use Rattle.group.specs.SheetWords.{sheet_words}
use Rattle.group.specs.declared.Group.{Group}
use Rattle.group.specs.declared.Answer.{Answer}

-- "It starts fresh with its number: no ticks closed, nobody in."
unfoldable pub fresh_group : ℕ → Group
fresh_group n = record {
  number = n;
  closed = 0;
  members = 0;
  sj = 0;
  lj = 0;
  sl = 0;
  ll = 0;
  added = none sheet_words;
  liberal = none sheet_words;
  sa = none sheet_words;
  la = none sheet_words;
  sr = none sheet_words;
  lr = none sheet_words;
  grants = none sheets;
}

-- "9: fresh group asked for with a number above 15; gets a fresh group 0"
unfoldable pub fresh_answer : ℕ → Answer
fresh_answer n =
    cond (leb groups n)
    (record { code = bad_group; group = fresh_group 0 })
    (record { code = 0; group = fresh_group n })
