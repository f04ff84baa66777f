-- Closing a tick without accepted requests counts the tick and moves nothing else. Assumes nothing.
use mathlib.Core.Path.{◌≡◌, refl, sym, ◌∙◌}
use mathlib.Core.Bool.{Bool, true, false}
use mathlib.Core.List.{List}
use Prim.Native.Nat.{ℕ, zero, suc, ◌+◌, ◌-◌, ◌*◌, ◌^◌, ◌≤◌, ◌<◌}
use native.Mathlib.Nat.{mod-eq_of_lt}
use native.Mathlib.Omega.{arith}
use lib.Bits.{bit_and, or_zero_r, and_mask}
use lib.ListN.{get_or}
use lib.Seq.{ext_get_or}
use Rattle.base.specs.Table.{table}
use Rattle.base.proofs.Table.{length_table, get_or_table}
use Rattle.rules.specs.Kinds.{SJ, LJ, SL, LL, SA, LA, SR, LR}
use Rattle.rules.specs.Ranges.{sheets}
use Rattle.bits.specs.Bit.{width, bit, after_word}
use Rattle.sets.specs.Set.{none, has, either, after}
use Rattle.bits.proofs.Bit.{bit_zero, bit_ext}
use Rattle.sets.proofs.Set.{bit_has, has_none, words_none}
use Rattle.group.specs.SheetWords.{sheet_words}
use Rattle.group.specs.Close.{closed_members, adds, closed_added, closed_liberal, closed_group}
use Rattle.grants.specs.Words.{closed_word, closed_words, Sized}
use Rattle.group.specs.Fits.{Fits}
use Rattle.group.specs.Fresh.{fresh_group}
use Rattle.group.specs.Marks.{mark}
use Rattle.group.specs.declared.Group.{Group}
use Rattle.group.proofs.Clear.{fresh_mark, closed_mark}

-- no carrier has an event in the open tick
abbrev pub Unmarked : Group → Type 0
Unmarked g = (k i : ℕ) → k ≤ LR → mark g k i ≡ false

pub closed_unmarked : (g : Group) → Unmarked (closed_group g)
closed_unmarked = closed_mark

pub fresh_unmarked : (number : ℕ) → Unmarked (fresh_group number)
fresh_unmarked = fresh_mark

-- ---- a word and a set without marks

word_none : (w : ℕ) → w < 2 ^ width → ((i : ℕ) → bit w i ≡ false) → w ≡ 0
word_none w h e = bit_ext width w 0 h (omega arith) (λ i l. e i ∙ sym (bit_zero i))

set_none : (ws : List ℕ) → Sized sheet_words ws → ((i : ℕ) → has ws i ≡ false) → ws ≡ none sheet_words
set_none ws z e = ext_get_or 0 ws (none sheet_words) z.long (λ k h. bit_ext width (get_or ws k 0) (get_or (none sheet_words) k 0) (z.words k) (words_none sheet_words k)
    (λ i l. bit_has ws k i l ∙ e (k * width + i) ∙ sym (bit_has (none sheet_words) k i l ∙ has_none sheet_words (k * width + i))))

-- ---- nothing gone, nothing come

after_nothing : (w : ℕ) → w < 2 ^ width → after_word w 0 0 ≡ w
after_nothing w h = or_zero_r (bit_and w (2 ^ width - 1)) ∙ and_mask w width ∙ mod-eq_of_lt h

nothing : either sheet_words (none sheet_words) (none sheet_words) ≡ none sheet_words
unfolding either table
nothing = refl

none_at : (k : ℕ) → get_or (none sheet_words) k 0 ≡ 0
none_at zero = refl
none_at (suc zero) = refl
none_at (suc (suc zero)) = refl
none_at (suc (suc (suc zero))) = refl
none_at (suc (suc (suc (suc k)))) = refl

set_after_nothing : (ws : List ℕ) → Sized sheet_words ws → after sheet_words ws (none sheet_words) (none sheet_words) ≡ ws
unfolding after
set_after_nothing ws z =
    let long = length_table sheet_words (λ k. after_word (get_or ws k 0) (get_or (none sheet_words) k 0) (get_or (none sheet_words) k 0)) in
    ext_get_or 0 _ ws (long ∙ sym z.long) (λ k h. get_or_table sheet_words _ k 0 (rw long at h) ∙ simp (none_at k) (after_nothing (get_or ws k 0) (z.words k)))

closed_word_nothing : (w : ℕ) (liberal : Bool) (members : ℕ) → w < 2 ^ width → closed_word w false false liberal members 0 0 ≡ w
unfolding closed_word
closed_word_nothing w true members h = or_zero_r _ ∙ after_nothing w h
closed_word_nothing w false members h = or_zero_r _ ∙ after_nothing w h

-- ---- the group

-- one more tick closed, and nothing else moved
abbrev pub tick_on : Group → Group
tick_on g = record {
  number = g.number;
  closed = g.closed + 1;
  members = g.members;
  sj = g.sj;
  lj = g.lj;
  sl = g.sl;
  ll = g.ll;
  added = g.added;
  liberal = g.liberal;
  sa = g.sa;
  la = g.la;
  sr = g.sr;
  lr = g.lr;
  grants = g.grants;
}

module _ (g : Group) (z : Fits g) (none-marked : Unmarked g) where
  sj_none : g.sj ≡ 0
  sj_none = word_none g.sj z.sj (λ i. none-marked SJ i (omega arith))

  lj_none : g.lj ≡ 0
  lj_none = word_none g.lj z.lj (λ i. none-marked LJ i (omega arith))

  sl_none : g.sl ≡ 0
  sl_none = word_none g.sl z.sl (λ i. none-marked SL i (omega arith))

  ll_none : g.ll ≡ 0
  ll_none = word_none g.ll z.ll (λ i. none-marked LL i (omega arith))

  sa_none : g.sa ≡ none sheet_words
  sa_none = set_none g.sa z.sa (λ i. none-marked SA i (omega arith))

  la_none : g.la ≡ none sheet_words
  la_none = set_none g.la z.la (λ i. none-marked LA i (omega arith))

  sr_none : g.sr ≡ none sheet_words
  sr_none = set_none g.sr z.sr (λ i. none-marked SR i (omega arith))

  lr_none : g.lr ≡ none sheet_words
  lr_none = set_none g.lr z.lr (λ i. none-marked LR i (omega arith))

  members_stay : closed_members g ≡ g.members
  unfolding closed_members
  members_stay = rw (sj_none, lj_none, sl_none, ll_none) (after_nothing g.members z.members)

  added_stay : closed_added g ≡ g.added
  unfolding closed_added
  added_stay = rw (sa_none, la_none, sr_none, lr_none, nothing) (set_after_nothing g.added z.added)

  liberal_stay : closed_liberal g ≡ g.liberal
  unfolding closed_liberal
  liberal_stay = rw (la_none, sr_none, lr_none, nothing) (set_after_nothing g.liberal z.liberal)

  grants_stay : closed_words g.grants g.sr (adds g) (closed_liberal g) (closed_members g) g.sl g.lj ≡ g.grants
  unfolding closed_words
  grants_stay =
      let long = length_table sheets (λ s. closed_word (get_or g.grants s 0) (has g.sr s) (has (adds g) s) (has (closed_liberal g) s) (closed_members g) g.sl g.lj) in
      ext_get_or 0 _ g.grants (long ∙ sym z.grants.long) (λ s h.
      get_or_table sheets _ s 0 (rw long at h)
      ∙ rw (members_stay, liberal_stay, sa_none, la_none, sr_none, sl_none, lj_none, nothing, has_none sheet_words s)
      (closed_word_nothing (get_or g.grants s 0) (has g.liberal s) g.members (z.grants.words s)))

  -- the close of a tick without marks
  pub quiet_close : closed_group g ≡ tick_on g
  unfolding closed_group
  quiet_close = λ i. record {
    number = g.number;
    closed = g.closed + 1;
    members = members_stay i;
    sj = sym sj_none i;
    lj = sym lj_none i;
    sl = sym sl_none i;
    ll = sym ll_none i;
    added = added_stay i;
    liberal = liberal_stay i;
    sa = sym sa_none i;
    la = sym la_none i;
    sr = sym sr_none i;
    lr = sym lr_none i;
    grants = grants_stay i;
  }
