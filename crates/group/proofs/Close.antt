-- What a close does, bit by bit: who is in, what is in, and who may read what. Assumes nothing.
use mathlib.Core.Path.{◌≡◌, refl, ap, ◌∙◌}
use mathlib.Core.Bool.{Bool, true, false, not, cond, ◌&&◌, ◌||◌}
use mathlib.Core.Logic.{⊎_elim}
use Prim.Native.Nat.{ℕ, ◌+◌, ◌/◌, ◌^◌, ◌<◌}
use native.Mathlib.Omega.{arith}
use lib.Dec.{leb}
use lib.Bits.{bit_or, or_lt}
use lib.ListN.{get_or}
use borrow.Author.Tests.{leb-false, lt-leb}
use Rattle.base.proofs.Truth.{either as truth}
use Rattle.base.proofs.Table.{get_or_table}
use Rattle.rules.specs.Kinds.{SJ, LJ, SL, LL, SA, LA, SR, LR}
use Rattle.rules.specs.Ranges.{sheets, ticks}
use Rattle.bits.specs.Bit.{width, bit, bit_in}
use Rattle.sets.specs.Set.{has, Words}
use Rattle.bits.proofs.Bit.{bit_zero, bit_or_lem, bit_and_not, bit_after}
use Rattle.sets.proofs.Set.{has_either, has_after, words_either}
use Rattle.group.specs.SheetWords.{sheet_words}
use Rattle.group.specs.Close.{closed_members, removes, adds, closed_added, closed_liberal, closed_group, close_answer}
use Rattle.grants.specs.Words.{closed_word, closed_words}
use Rattle.group.specs.Fits.{Fits}
use Rattle.group.specs.Marks.{mark, model_in, sheet_in, sheet_in_by_la}
use Rattle.bits.specs.Granted.{granted}
use Rattle.group.specs.declared.Group.{Group}

-- ---- a word

bit_cond : (c : Bool) (a b i : ℕ) → bit (cond c a b) i ≡ cond c (bit a i) (bit b i)
bit_cond true a b i = refl
bit_cond false a b i = refl

cond_off : (c x : Bool) → cond c x false ≡ c && x
cond_off true x = refl
cond_off false x = refl

cond_on : (c x : Bool) → cond c false x ≡ not c && x
cond_on true x = refl
cond_on false x = refl

-- kept where neither SR nor SL ends it, or an add and the model is in now, or in by LA and the model has an LJ
pub bit_closed_word : (word : ℕ) (sr add liberal : Bool) (members sl lj m : ℕ) → word < 2 ^ width → sl < 2 ^ width
    → bit (closed_word word sr add liberal members sl lj) m ≡ not sr && (bit word m && not (bit sl m)) || add && bit members m || liberal && bit lj m
unfolding closed_word
bit_closed_word word sr add liberal members sl lj m hw hs = simp (bit_or_lem, bit_cond, bit_zero, bit_and_not width word sl m hw hs, cond_off, cond_on)

-- ---- a group

-- a sheet's number is in a set's words
in_words : (s : ℕ) → s < sheets → s / width < sheet_words
in_words s h = omega arith

module _ (g : Group) (z : Fits g) where
  -- "(no SL and no LL) since a join of either kind"
  pub closed_model_in : (m : ℕ) → model_in (closed_group g) m ≡ model_in g m && not (mark g SL m || mark g LL m) || (mark g SJ m || mark g LJ m)
  unfolding closed_group closed_members
  closed_model_in m =
      bit_after g.members (bit_or g.sl g.ll) (bit_or g.sj g.lj) m z.members (or_lt width g.sl g.ll z.sl z.ll)
      ∙ simp bit_or_lem

  -- the sheets that go, as words
  removes_words : Words (removes g)
  removes_words = words_either sheet_words g.sr g.lr z.sr.words z.lr.words

  -- (no SR and no LR) since an add of either kind
  pub closed_sheet_in : (s : ℕ) → s < sheets → sheet_in (closed_group g) s ≡ sheet_in g s && not (mark g SR s || mark g LR s) || (mark g SA s || mark g LA s)
  unfolding closed_group closed_added
  closed_sheet_in s h =
      has_after sheet_words g.added (removes g) (adds g) s z.added.words removes_words (in_words s h)
      ∙ simp (has_either sheet_words g.sr g.lr s (in_words s h), has_either sheet_words g.sa g.la s (in_words s h))

  -- "(no SR and no LR) since an LA"
  pub closed_sheet_in_by_la : (s : ℕ) → s < sheets → sheet_in_by_la (closed_group g) s ≡ sheet_in_by_la g s && not (mark g SR s || mark g LR s) || mark g LA s
  unfolding closed_group closed_liberal
  closed_sheet_in_by_la s h =
      has_after sheet_words g.liberal (removes g) g.la s z.liberal.words removes_words (in_words s h)
      ∙ simp (has_either sheet_words g.sr g.lr s (in_words s h))

  -- the grant: kept by "no SL and no SR"; made by an add while the model is in, or by an LJ while the sheet is in by LA
  pub closed_granted : (m s : ℕ) → s < sheets
      → granted (closed_group g).grants m s
      ≡ not (mark g SR s) && (granted g.grants m s && not (mark g SL m))
      || (mark g SA s || mark g LA s) && model_in (closed_group g) m
      || sheet_in_by_la (closed_group g) s && mark g LJ m
  unfolding closed_group closed_words bit_in
  closed_granted m s h =
      ap (λ (w : ℕ). bit w m) (get_or_table sheets _ s 0 h)
      ∙ bit_closed_word (get_or g.grants s 0) (has g.sr s) (has (adds g) s) (has (closed_liberal g) s) (closed_members g) g.sl g.lj m (z.grants.words s) z.sl
      ∙ simp (has_either sheet_words g.sa g.la s (in_words s h))

pub closed_number : (g : Group) → (closed_group g).number ≡ g.number
unfolding closed_group
closed_number g = refl

pub closed_closed : (g : Group) → (closed_group g).closed ≡ g.closed + 1
unfolding closed_group
closed_closed g = refl

-- ---- the answer

module _ (g : Group) where
  -- what holds of the group as it was, and of the closed one where a tick is left, holds of the answer's
  pub close_cases : (P : Group → Type 0) → P g → (g.closed < ticks → P (closed_group g)) → P (close_answer g).group
  unfolding close_answer
  close_cases P was new = ⊎_elim
      (λ (t : leb ticks g.closed ≡ true). simp t was)
      (λ (f : leb ticks g.closed ≡ false). simp f (new (leb-false _ _ f)))
      (truth (leb ticks g.closed))

  pub close_accepted : g.closed < ticks → close_answer g ≡ record { code = 0; group = closed_group g }
  unfolding close_answer
  close_accepted h = simp (lt-leb _ _ h)
