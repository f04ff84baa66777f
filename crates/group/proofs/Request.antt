-- What a request does to a group: it moves one mark, or nothing. Assumes nothing.
use mathlib.Core.Path.{◌≡◌, refl, sym}
use mathlib.Core.Bool.{true, false, ◌&&◌, ◌||◌, or-false}
use mathlib.Core.List.{List}
use mathlib.Core.Logic.{⊎_elim}
use Prim.Native.Nat.{ℕ, ◌/◌, ◌≤◌, ◌<◌}
use native.Mathlib.Omega.{arith}
use lib.Dec.{eqb}
use lib.ListN.{length}
use borrow.Author.Tests.{eqb-true, eq-eqb, ne_eqb}
use Rattle.base.proofs.Truth.{either}
use Rattle.rules.specs.Kinds.{SJ, LJ, SL, LL, SA, LA, SR, LR}
use Rattle.rules.specs.Ranges.{sheets}
use Rattle.bits.specs.Bit.{width, bit}
use Rattle.sets.specs.Set.{has}
use Rattle.bits.proofs.Bit.{bit_with}
use Rattle.sets.proofs.Set.{has_with}
use Rattle.group.specs.Accepted.{RequestAccepted}
use Rattle.group.proofs.Cases.{each_kind}
use Rattle.group.specs.SheetWords.{sheet_words}
use Rattle.event.specs.Carrier.{carriers}
use Rattle.group.specs.Fits.{Fits}
use Rattle.grants.specs.Words.{Sized}
use Rattle.group.specs.Marks.{mark}
use Rattle.group.specs.Request.{request_refusal, marked_word, marked_set, marked_group, request_answer}
use Rattle.group.specs.declared.Group.{Group}
use Rattle.group.proofs.Accepted.{accepted}
use Rattle.event.proofs.Carrier.{sheet_number}

-- ---- the mark

-- a sheet's number has its word
pub sheet_word : (n : ℕ) (ws : List ℕ) → Sized sheet_words ws → n < sheets → n / width < length ws
sheet_word n ws z h = let l = z.long in omega arith

pub bit_marked : (k word kind n i : ℕ) → bit (marked_word k word kind n) i ≡ bit word i || (eqb kind k && eqb i n)
bit_marked k word kind n i = ⊎_elim
    (λ (t : eqb kind k ≡ true). simp (t, bit_with))
    (λ (f : eqb kind k ≡ false). simp (f, or-false))
    (either (eqb kind k))

has_marked : (k : ℕ) (words : List ℕ) (kind n i : ℕ) → Sized sheet_words words → n < sheets
    → has (marked_set k words kind n) i ≡ has words i || (eqb kind k && eqb i n)
has_marked k words kind n i z h = ⊎_elim
    (λ (t : eqb kind k ≡ true). simp t (has_with words n i (sheet_word n words z h)))
    (λ (f : eqb kind k ≡ false). simp (f, or-false))
    (either (eqb kind k))

module _ (g : Group) (kind n : ℕ) where
  -- an accepted request sets the mark of its own kind and carrier, and no other
  pub mark_marked : Fits g → n < carriers kind → (k i : ℕ) → k ≤ LR → mark (marked_group g kind n) k i ≡ mark g k i || (eqb kind k && eqb i n)
  unfolding marked_group
  mark_marked z h k i =
      let sheet = sheet_number kind n h in
      each_kind (λ x. mark (marked_group g kind n) x i ≡ mark g x i || (eqb kind x && eqb i n))
      (bit_marked SJ g.sj kind n i)
      (bit_marked LJ g.lj kind n i)
      (bit_marked SL g.sl kind n i)
      (bit_marked LL g.ll kind n i)
      (has_marked SA g.sa kind n i z.sa sheet)
      (has_marked LA g.la kind n i z.la sheet)
      (has_marked SR g.sr kind n i z.sr sheet)
      (has_marked LR g.lr kind n i z.lr sheet)
      k

  -- ---- the answer

  -- what holds of the group as it was, and of the marked one where the request is accepted, holds of the answer's
  pub request_cases : (P : Group → Type 0) → P g → (RequestAccepted g kind n → P (marked_group g kind n)) → P (request_answer g kind n).group
  unfolding request_answer
  request_cases P was new = ⊎_elim
      (λ (t : eqb (request_refusal g kind n) 0 ≡ true). simp t (new (accepted g kind n (eqb-true _ _ t))))
      (λ (f : eqb (request_refusal g kind n) 0 ≡ false). simp f was)
      (either (eqb (request_refusal g kind n) 0))

  pub request_code : (request_answer g kind n).code ≡ request_refusal g kind n
  unfolding request_answer
  request_code = ⊎_elim
      (λ (t : eqb (request_refusal g kind n) 0 ≡ true). simp t (sym (eqb-true _ _ t)))
      (λ (f : eqb (request_refusal g kind n) 0 ≡ false). simp f)
      (either (eqb (request_refusal g kind n) 0))

  -- "A refused call leaves the group .. unchanged."
  pub request_refused : (request_refusal g kind n ≡ 0 → ⊥) → (request_answer g kind n).group ≡ g
  unfolding request_answer
  request_refused r = simp (ne_eqb _ _ r)

  pub request_accepted : request_refusal g kind n ≡ 0 → (request_answer g kind n).group ≡ marked_group g kind n
  unfolding request_answer
  request_accepted e = simp (eq-eqb _ _ e)

-- a request changes no grant, nobody's membership, not the number and not the closed ticks
pub record Kept (g h : Group) : Type 0 where
  pub number : h.number ≡ g.number
  pub closed : h.closed ≡ g.closed
  pub members : h.members ≡ g.members
  pub added : h.added ≡ g.added
  pub liberal : h.liberal ≡ g.liberal
  pub grants : h.grants ≡ g.grants

kept : (g : Group) → Kept g g
kept g = record { number = refl; closed = refl; members = refl; added = refl; liberal = refl; grants = refl }

marked_keeps : (g : Group) (kind n : ℕ) → Kept g (marked_group g kind n)
unfolding marked_group
marked_keeps g kind n = record { number = refl; closed = refl; members = refl; added = refl; liberal = refl; grants = refl }

pub request_keeps : (g : Group) (kind n : ℕ) → Kept g (request_answer g kind n).group
request_keeps g kind n = request_cases g kind n (Kept g) (kept g) (λ a. marked_keeps g kind n)
