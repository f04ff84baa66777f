-- What a store that is taken is like. Assumes nothing.
use mathlib.Core.Path.{◌≡◌}
use mathlib.Core.Bool.{true}
use mathlib.Core.List.{List}
use Prim.Native.Nat.{ℕ, ◌≤◌}
use native.Mathlib.Omega.{arith}
use lib.ListN.{length}
use borrow.Author.Tests.{leb-true, eqb-true}
use Rattle.base.proofs.Truth.{both}
use Rattle.rules.specs.Ranges.{sheets, store_bytes}
use Rattle.store.specs.Store.{total_length, sheet_count, bytes_start, good_store}

-- what refusal 31 leaves
pub record Good (b : List ℕ) : Type 0 where
  pub long : 8 ≤ length b
  pub short : length b ≤ store_bytes
  pub total : total_length b ≡ length b
  pub few : sheet_count b ≤ sheets
  pub table : bytes_start b ≤ length b

pub good : (b : List ℕ) → good_store b ≡ true → Good b
unfolding good_store
good b e =
    let p = both _ _ e in
    let q = both _ _ p.0 in
    let r = both _ _ q.0 in
    let s = both _ _ r.0 in
    let same : total_length b ≡ length b = eqb-true _ _ r.1 in
    let room : bytes_start b ≤ total_length b = leb-true _ _ p.1 in
    record {
      long = leb-true _ _ s.0;
      short = leb-true _ _ s.1;
      total = same;
      few = leb-true _ _ q.1;
      table = omega arith;
    }
