-- What holds of the words of every group that a machine holds: each fits its place, and each list is as long as its array.
use Rattle.std.specs.Prelude.{◌^◌, ◌<◌}
use Rattle.rules.specs.Ranges.{sheets}
use Rattle.bits.specs.Bit.{width}
use Rattle.group.specs.SheetWords.{sheet_words}
use Rattle.group.specs.declared.Group.{Group}
use Rattle.grants.specs.Words.{Sized}

pub record Fits (g : Group) : Type 0 where
  pub number : g.number < 2 ^ 32
  pub closed : g.closed < 2 ^ 32
  pub members : g.members < 2 ^ width
  pub sj : g.sj < 2 ^ width
  pub lj : g.lj < 2 ^ width
  pub sl : g.sl < 2 ^ width
  pub ll : g.ll < 2 ^ width
  pub added : Sized sheet_words g.added
  pub liberal : Sized sheet_words g.liberal
  pub sa : Sized sheet_words g.sa
  pub la : Sized sheet_words g.la
  pub sr : Sized sheet_words g.sr
  pub lr : Sized sheet_words g.lr
  pub grants : Sized sheets g.grants
