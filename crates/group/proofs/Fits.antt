-- Fresh, request and close keep every word in its place. Assumes nothing.
use mathlib.Core.Path.{◌≡◌, refl}
use mathlib.Core.Bool.{Bool, true, false, cond}
use mathlib.Core.List.{List}
use mathlib.Core.Logic.{⊎_elim}
use Prim.Native.Nat.{ℕ, ◌^◌, ◌<◌}
use native.Mathlib.Omega.{arith}
use lib.Dec.{eqb, leb}
use lib.Bits.{bit_or, or_lt}
use lib.ListN.{length-replicate}
use borrow.Author.Tests.{leb-false}
use Rattle.base.proofs.Truth.{either as truth}
use Rattle.base.proofs.Table.{length_table}
use Rattle.rules.specs.Kinds.{SJ, LJ, SL, LL, SA, LA, SR, LR}
use Rattle.rules.specs.Ranges.{models, sheets, groups, ticks}
use Rattle.bits.specs.Bit.{width}
use Rattle.sets.specs.Set.{none}
use Rattle.bits.proofs.Bit.{with_lt, and_lt, after_lt}
use Rattle.sets.proofs.Set.{length_with, words_with, words_none, words_table, words_either, length_after, words_after}
use Rattle.group.specs.SheetWords.{sheet_words}
use Rattle.event.specs.Carrier.{of_model, carriers}
use Rattle.group.specs.Close.{closed_members, removes, adds, closed_added, closed_liberal, closed_group, close_answer}
use Rattle.grants.specs.Words.{closed_word, closed_words, Sized}
use Rattle.group.specs.Fits.{Fits}
use Rattle.group.specs.Fresh.{fresh_group, fresh_answer}
use Rattle.group.specs.Request.{marked_word, marked_set, marked_group, request_answer}
use Rattle.group.specs.declared.Group.{Group}
use Rattle.event.proofs.Carrier.{sheet_number, model_number}
use Rattle.group.proofs.Close.{close_cases}
use Rattle.group.proofs.Request.{sheet_word, request_cases}

-- ---- fresh

none_sized : (n : ℕ) → Sized n (none n)
none_sized n = record { long = length-replicate n 0; words = words_none n }

pub fresh_fits : (n : ℕ) → n < 2 ^ 32 → Fits (fresh_group n)
unfolding fresh_group
fresh_fits n h = record {
  number = h;
  closed = omega arith;
  members = omega arith;
  sj = omega arith;
  lj = omega arith;
  sl = omega arith;
  ll = omega arith;
  added = none_sized sheet_words;
  liberal = none_sized sheet_words;
  sa = none_sized sheet_words;
  la = none_sized sheet_words;
  sr = none_sized sheet_words;
  lr = none_sized sheet_words;
  grants = none_sized sheets;
}

pub fresh_answer_fits : (n : ℕ) → Fits (fresh_answer n).group
unfolding fresh_answer
fresh_answer_fits n = ⊎_elim
    (λ (t : leb groups n ≡ true). simp t (fresh_fits 0 (omega arith)))
    (λ (f : leb groups n ≡ false). let h : n < groups = leb-false _ _ f in simp f (fresh_fits n (omega arith)))
    (truth (leb groups n))

-- ---- request

word_marked : (k word kind n : ℕ) → word < 2 ^ width → (eqb kind k ≡ true → n < models) → marked_word k word kind n < 2 ^ width
word_marked k word kind n hw hn = ⊎_elim
    (λ (t : eqb kind k ≡ true). simp t (with_lt width word n hw (hn t)))
    (λ (f : eqb kind k ≡ false). simp f hw)
    (truth (eqb kind k))

set_marked : (k : ℕ) (words : List ℕ) (kind n : ℕ) → Sized sheet_words words → n < sheets → Sized sheet_words (marked_set k words kind n)
set_marked k words kind n z h = ⊎_elim
    (λ (t : eqb kind k ≡ true). simp t (record { long = simp length_with z.long; words = words_with words n z.words (sheet_word n words z h) }))
    (λ (f : eqb kind k ≡ false). simp f z)
    (truth (eqb kind k))

module _ (g : Group) (kind n : ℕ) (z : Fits g) where
  pub marked_fits : n < carriers kind → Fits (marked_group g kind n)
  unfolding marked_group
  marked_fits h =
      let model : (k : ℕ) → of_model k ≡ true → eqb kind k ≡ true → n < models = λ k t. model_number k kind n t h in
      let s : n < sheets = sheet_number kind n h in
      record {
        number = z.number;
        closed = z.closed;
        members = z.members;
        sj = word_marked SJ g.sj kind n z.sj (model SJ refl);
        lj = word_marked LJ g.lj kind n z.lj (model LJ refl);
        sl = word_marked SL g.sl kind n z.sl (model SL refl);
        ll = word_marked LL g.ll kind n z.ll (model LL refl);
        added = z.added;
        liberal = z.liberal;
        sa = set_marked SA g.sa kind n z.sa s;
        la = set_marked LA g.la kind n z.la s;
        sr = set_marked SR g.sr kind n z.sr s;
        lr = set_marked LR g.lr kind n z.lr s;
        grants = z.grants;
      }

  pub request_fits : Fits (request_answer g kind n).group
  request_fits = request_cases g kind n Fits z (λ a. marked_fits a.ranged)

-- ---- close

zero_fits : 0 < 2 ^ width
zero_fits = omega arith

cond_lt : (b : Bool) (x y : ℕ) → x < 2 ^ width → y < 2 ^ width → cond b x y < 2 ^ width
cond_lt true x y hx hy = hx
cond_lt false x y hx hy = hy

word_closed : (word : ℕ) (sr add liberal : Bool) (members sl lj : ℕ) → word < 2 ^ width → members < 2 ^ width → lj < 2 ^ width
    → closed_word word sr add liberal members sl lj < 2 ^ width
unfolding closed_word
word_closed word sr add liberal members sl lj hw hm hl =
    or_lt width _ _ (or_lt width _ _ (cond_lt sr _ _ zero_fits (and_lt width word _ hw)) (cond_lt add _ _ hm zero_fits)) (cond_lt liberal _ _ hl zero_fits)

module _ (g : Group) (z : Fits g) where
  members_closed : closed_members g < 2 ^ width
  unfolding closed_members
  members_closed = after_lt g.members (bit_or g.sl g.ll) (bit_or g.sj g.lj) z.members (or_lt width g.sj g.lj z.sj z.lj)

  pub closed_fits : g.closed < ticks → Fits (closed_group g)
  unfolding closed_group closed_added closed_liberal closed_words
  closed_fits h = record {
    number = z.number;
    closed = omega arith;
    members = members_closed;
    sj = omega arith;
    lj = omega arith;
    sl = omega arith;
    ll = omega arith;
    added = record { long = length_after sheet_words g.added (removes g) (adds g); words = words_after sheet_words g.added (removes g) (adds g) z.added.words (words_either sheet_words g.sa g.la z.sa.words z.la.words) };
    liberal = record { long = length_after sheet_words g.liberal (removes g) g.la; words = words_after sheet_words g.liberal (removes g) g.la z.liberal.words z.la.words };
    sa = none_sized sheet_words;
    la = none_sized sheet_words;
    sr = none_sized sheet_words;
    lr = none_sized sheet_words;
    grants = record { long = length_table sheets _; words = words_table sheets _ (λ s. word_closed _ _ _ _ (closed_members g) g.sl g.lj (z.grants.words s) members_closed z.lj) };
  }

  pub close_fits : Fits (close_answer g).group
  close_fits = close_cases g Fits z closed_fits
