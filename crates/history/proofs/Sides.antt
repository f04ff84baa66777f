-- The two sides of a group: which kinds are a side's, who is in on it, who is marked, and how a close moves it. Assumes nothing.
use mathlib.Core.Path.{◌≡◌, refl, sym, ap, ◌∙◌}
use mathlib.Core.Bool.{Bool, true, false, not, cond, ◌&&◌, ◌||◌, or_comm, and_comm}
use mathlib.Core.Logic.{⊎_elim, ◌↔◌}
use Prim.Native.Nat.{ℕ, suc, ◌%◌, ◌≤◌, ◌<◌}
use native.Mathlib.Omega.{arith}
use lib.Dec.{eqb}
use borrow.Author.Tests.{not-true, eqb-true, eqb-false, eq-eqb, ne_eqb}
use Rattle.base.proofs.Truth.{either, both}
use Rattle.rules.specs.Kinds.{SJ, LJ, SL, LL, SA, LA, SR, LR, quiet}
use Rattle.rules.specs.Ranges.{models, sheets}
use Rattle.event.specs.Word.{kind_of, number_of}
use Rattle.strip.specs.declared.Side.{Side}
use Rattle.strip.specs.declared.Side.TheVariants.{Model, Sheet}
use Rattle.strip.specs.Good.{enters, leaves, range, turn}
use Rattle.event.specs.Carrier.{of_model, carriers, entering}
use Rattle.group.specs.Close.{closed_group}
use Rattle.group.specs.Fits.{Fits}
use Rattle.group.specs.Fresh.{fresh_group}
use Rattle.group.specs.Marks.{mark, model_marked, sheet_marked, model_in, sheet_in}
use Rattle.group.specs.declared.Group.{Group}
use Rattle.group.proofs.Close.{closed_model_in, closed_sheet_in}
use Rattle.group.proofs.Cases.{each_kind}
use Rattle.group.proofs.Fresh.{fresh_model_in, fresh_sheet_in}
use Rattle.strip.specs.Strips.{carried_by}

-- ---- kinds

-- the kind is one of the side's
abbrev pub of_side : Side → ℕ → Bool
of_side Model kind = of_model kind
of_side Sheet kind = not (of_model kind)

-- the side's kinds come or go
pub comes : (side : Side) (k : ℕ) → k ≤ LR → enters side k ≡ of_side side k && entering k
comes Model = each_kind _ refl refl refl refl refl refl refl refl
comes Sheet = each_kind _ refl refl refl refl refl refl refl refl

pub goes : (side : Side) (k : ℕ) → k ≤ LR → leaves side k ≡ of_side side k && not (entering k)
goes Model = each_kind _ refl refl refl refl refl refl refl refl
goes Sheet = each_kind _ refl refl refl refl refl refl refl refl

-- places count from 0, so after an even number of events the carrier is out
abbrev pub even : ℕ → Bool
even place = eqb (place % 2) 0

pub even_suc : (place : ℕ) → even (suc place) ≡ not (even place)
even_suc place = ⊎_elim
    (λ (t : even place ≡ true). let h : place % 2 ≡ 0 = eqb-true _ _ t in ne_eqb (suc place % 2) 0 (λ e. omega arith) ∙ sym (ap not t))
    (λ (f : even place ≡ false). eq-eqb (suc place % 2) 0 (omega (arith, eqb-false (place % 2) 0 f)) ∙ sym (ap not f))
    (either (even place))

-- whose turn it is at a place, of the side's kinds
pub turn_is : (side : Side) (place k : ℕ) → k ≤ LR → of_side side k ≡ true → turn side place k ≡ cond (even place) (entering k) (not (entering k))
turn_is side place k h e = simp (comes side k h, goes side k h, e)

-- a kind whose turn it is is one of the side's
pub turn_side : (side : Side) (place k : ℕ) → k ≤ LR → turn side place k ≡ true → of_side side k ≡ true
turn_side side place k h e = ⊎_elim
    (λ (t : even place ≡ true). (both (of_side side k) (entering k) (sym (comes side k h) ∙ simp t at e)).0)
    (λ (f : even place ≡ false). (both (of_side side k) (not (entering k)) (sym (goes side k h) ∙ simp f at e)).0)
    (either (even place))

-- after an even number of events a kind that enters is due, after an odd one a kind that leaves
pub same_turn : (b e : Bool) → (cond b e (not e) ≡ true) ↔ (b ≡ e)
same_turn true true = (λ x. refl, λ y. refl)
same_turn true false = (λ x. sym x, λ y. sym y)
same_turn false true = (λ x. x, λ y. y)
same_turn false false = (λ x. refl, λ y. refl)

-- ---- carriers

-- of two values, a model's and a sheet's, the side's
abbrev pub by_side : {A : Type 0} → Side → A → A → A
by_side Model a b = a
by_side Sheet a b = b

-- the side of a kind decides what its carrier is looked up in
pub by_kind : {A : Type 0} (side : Side) (kind : ℕ) (a b : A) → of_side side kind ≡ true → cond (of_model kind) a b ≡ by_side side a b
by_kind Model kind a b e = simp e
by_kind Sheet kind a b e = simp (not-true (of_model kind) e)

-- the carrier is in; it has a mark
abbrev pub in_on : Side → Group → ℕ → Bool
in_on side g n = by_side side (model_in g n) (sheet_in g n)

abbrev pub marked_on : Side → Group → ℕ → Bool
marked_on side g n = by_side side (model_marked g n) (sheet_marked g n)

pub in_fresh : (number : ℕ) (side : Side) (n : ℕ) → in_on side (fresh_group number) n ≡ false
in_fresh number Model n = fresh_model_in number n
in_fresh number Sheet n = fresh_sheet_in number n

pub carriers_range : (side : Side) (kind : ℕ) → of_side side kind ≡ true → carriers kind ≡ range side
carriers_range Model kind e = by_kind Model kind models sheets e
carriers_range Sheet kind e = by_kind Sheet kind models sheets e

-- a word carried by n on a side has a kind of the side and the number n
pub carried_is : (side : Side) (n w : ℕ) → carried_by side n w ≡ of_side side (kind_of w) && eqb (number_of w) n
carried_is Model n w = refl
carried_is Sheet n w = refl

pub carried_parts : (side : Side) (n w : ℕ) → carried_by side n w ≡ true → (of_side side (kind_of w) ≡ true) × (number_of w ≡ n)
carried_parts side n w e =
    let p = both (of_side side (kind_of w)) (eqb (number_of w) n) (sym (carried_is side n w) ∙ e) in
    (p.0, eqb-true _ _ p.1)

-- ---- marks

-- of the side's kinds, carrier n has the mark of o and no other; none where o is quiet
abbrev pub Marks : Group → Side → ℕ → ℕ → Type 0
Marks g side n o = (k : ℕ) → k ≤ LR → of_side side k ≡ true → mark g k n ≡ eqb o k

-- o is a kind of the side, and not quiet
abbrev pub known : Side → ℕ → Bool
known side o = by_side side (eqb o SJ || eqb o LJ || eqb o SL || eqb o LL) (eqb o SA || eqb o LA || eqb o SR || eqb o LR)

pub known_side : (side : Side) (k : ℕ) → k ≤ LR → known side k ≡ of_side side k
known_side Model = each_kind _ refl refl refl refl refl refl refl refl
known_side Sheet = each_kind _ refl refl refl refl refl refl refl refl

pub marked_known : (g : Group) (side : Side) (n o : ℕ) → Marks g side n o → marked_on side g n ≡ known side o
marked_known g Model n o h = simp (h SJ (omega arith) refl, h LJ (omega arith) refl, h SL (omega arith) refl, h LL (omega arith) refl)
marked_known g Sheet n o h = simp (h SA (omega arith) refl, h LA (omega arith) refl, h SR (omega arith) refl, h LR (omega arith) refl)

-- ---- a close

-- in the gate's order and in the formula's
pub stays : (was gone come : Bool) → was && not gone || come ≡ come || (not gone && was)
stays was gone come = or_comm (was && not gone) come ∙ ap (λ (x : Bool). come || x) (and_comm was (not gone))

-- who is in after the close: whoever comes, and whoever was in and does not go
pub in_closed : (g : Group) → Fits g → (side : Side) (n o : ℕ) → n < range side → Marks g side n o
    → in_on side (closed_group g) n ≡ enters side o || (not (leaves side o) && in_on side g n)
in_closed g z Model n o l h =
    closed_model_in g z n
    ∙ simp (h SJ (omega arith) refl, h LJ (omega arith) refl, h SL (omega arith) refl, h LL (omega arith) refl) (stays (model_in g n) (leaves Model o) (enters Model o))
in_closed g z Sheet n o l h =
    closed_sheet_in g z n l
    ∙ simp (h SA (omega arith) refl, h LA (omega arith) refl, h SR (omega arith) refl, h LR (omega arith) refl) (stays (sheet_in g n) (leaves Sheet o) (enters Sheet o))

-- a carrier without an event stays as it was
pub closed_idle : (g : Group) → Fits g → (side : Side) (n : ℕ) → n < range side → Marks g side n quiet → in_on side (closed_group g) n ≡ in_on side g n
closed_idle g z Model n l h = in_closed g z Model n quiet l h
closed_idle g z Sheet n l h = in_closed g z Sheet n quiet l h

-- one with an event is in exactly when it entered
comes_last : (e b : Bool) → e || (not (not e) && b) ≡ e
comes_last true b = refl
comes_last false b = refl

pub closed_event : (g : Group) → Fits g → (side : Side) (n k : ℕ) → n < range side → k ≤ LR → of_side side k ≡ true → Marks g side n k
    → in_on side (closed_group g) n ≡ entering k
closed_event g z side n k l known own h =
    in_closed g z side n k l h ∙ simp (comes side k known, goes side k known, own) (comes_last (entering k) (in_on side g n))
