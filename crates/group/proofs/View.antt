-- What a model sees after a request or a close, and what it is answered, are functions of what it saw before. Another model's request moves nothing
-- of it. Assumes nothing.
use mathlib.Core.Path.{◌≡◌, refl, sym, ◌∙◌}
use mathlib.Core.Bool.{true, false, cond, or-false, and-false}
use mathlib.Core.Logic.{⊎_elim}
use Prim.Native.Nat.{ℕ, ◌+◌, ◌≤◌, ◌<◌}
use native.Mathlib.Omega.{arith}
use lib.Dec.{eqb, leb}
use lib.ListN.{get_or}
use borrow.Author.Tests.{ltb-true, ne_eqb, leb-false}
use Rattle.base.specs.Table.{table}
use Rattle.base.proofs.Truth.{either as truth}
use Rattle.base.proofs.Table.{get_or_table, table_ext}
use Rattle.rules.specs.Kinds.{SA, LA, SR, LR}
use Rattle.rules.specs.Ranges.{sheets, ticks}
use Rattle.rules.specs.Refusals.{no_tick_left}
use Rattle.sets.specs.Set.{none}
use Rattle.bits.specs.Bit.{bit_in}
use Rattle.bits.proofs.Bit.{bit_zero}
use Rattle.group.specs.SheetWords.{sheet_words}
use Rattle.event.specs.Carrier.{of_model}
use Rattle.group.specs.Close.{closed_added, closed_liberal, closed_group, close_answer}
use Rattle.group.specs.Fits.{Fits}
use Rattle.bits.specs.Granted.{granted}
use Rattle.group.specs.Read.{read_answer}
use Rattle.group.specs.Request.{request_refusal, marked_group, request_answer}
use Rattle.group.specs.View.{View, view, view_refusal, marked_view, view_request, view_granted, closed_view, view_close, view_read}
use Rattle.group.specs.declared.Group.{Group}
use Rattle.group.proofs.Close.{closed_model_in, closed_granted}
use Rattle.group.proofs.Request.{bit_marked, request_code, request_cases}

-- ---- requests

module _ (m : ℕ) (g : Group) (kind n : ℕ) where
  pub view_marked : view m (marked_group g kind n) ≡ marked_view m (view m g) kind n
  unfolding view marked_view marked_group bit_in
  view_marked = simp bit_marked

-- a model's kind is no sheet's kind
sheet_kind : (kind k : ℕ) → of_model kind ≡ true → SA ≤ k → eqb kind k ≡ false
sheet_kind kind k t h = let l : kind < SA = ltb-true _ _ t in ne_eqb kind k (λ e. absurd (omega arith))

unmoved : (m : ℕ) (v : View) (kind n : ℕ) → of_model kind ≡ true → (m ≡ n → ⊥) → marked_view m v kind n ≡ v
unfolding marked_view
unmoved m v kind n t other = simp (
  ne_eqb m n other,
  and-false,
  or-false,
  sheet_kind kind SA t (omega arith),
  sheet_kind kind LA t (omega arith),
  sheet_kind kind SR t (omega arith),
  sheet_kind kind LR t (omega arith),
)

-- another model's request shows nothing, accepted or not
pub other_model : (m : ℕ) (g : Group) (kind n : ℕ) → of_model kind ≡ true → (m ≡ n → ⊥) → view m (request_answer g kind n).group ≡ view m g
other_model m g kind n t other =
    request_cases g kind n (λ h. view m h ≡ view m g) refl (λ a. view_marked m g kind n ∙ unmoved m (view m g) kind n t other)

-- its own requests, and the sheets', are answered by the view
own_refusal : (m : ℕ) (g : Group) (kind n : ℕ) → of_model kind ≡ true → n ≡ m → request_refusal g kind n ≡ view_refusal (view m g) kind n
unfolding request_refusal view_refusal view
own_refusal m g kind n t e = simp (e, t)

sheet_refusal : (m : ℕ) (g : Group) (kind n : ℕ) → of_model kind ≡ false → request_refusal g kind n ≡ view_refusal (view m g) kind n
unfolding request_refusal view_refusal view
sheet_refusal m g kind n f = simp f

pub view_refusal_lem : (m : ℕ) (g : Group) (kind n : ℕ) → (of_model kind ≡ true → n ≡ m) → (request_answer g kind n).code ≡ view_refusal (view m g) kind n
view_refusal_lem m g kind n own =
    request_code g kind n ∙ ⊎_elim (λ t. own_refusal m g kind n t (own t)) (λ f. sheet_refusal m g kind n f) (truth (of_model kind))

pub view_request_lem : (m : ℕ) (g : Group) (kind n : ℕ) → (of_model kind ≡ true → n ≡ m) → view m (request_answer g kind n).group ≡ view_request m (view m g) kind n
unfolding request_answer view_request
view_request_lem m g kind n own =
    let e : request_refusal g kind n ≡ view_refusal (view m g) kind n = sym (request_code g kind n) ∙ view_refusal_lem m g kind n own in
    ⊎_elim
    (λ (t : eqb (request_refusal g kind n) 0 ≡ true). simp (t, sym e) (view_marked m g kind n))
    (λ (f : eqb (request_refusal g kind n) 0 ≡ false). simp (f, sym e))
    (truth (eqb (request_refusal g kind n) 0))

-- ---- close

module _ (m : ℕ) (g : Group) where
  granted_seen : (s : ℕ) → s < sheets → get_or (view m g).grants s false ≡ granted g.grants m s
  unfolding view
  granted_seen s h = get_or_table sheets (λ s. granted g.grants m s) s false h

  pub view_closed : Fits g → view m (closed_group g) ≡ closed_view (view m g)
  unfolding view closed_view closed_group closed_added closed_liberal
  view_closed z =
      let seen : (s : ℕ) → s < sheets → granted (closed_group g).grants m s ≡ view_granted (view m g) s =
      λ s h. closed_granted g z m s h ∙ simp (closed_model_in g z m, granted_seen s h) in
      let words : table sheets (λ s. granted (closed_group g).grants m s) ≡ table sheets (view_granted (view m g)) = table_ext sheets _ _ seen in
      λ i. record {
        number = g.number;
        closed = g.closed + 1;
        inside = closed_model_in g z m i;
        sj = bit_zero m i;
        lj = bit_zero m i;
        sl = bit_zero m i;
        ll = bit_zero m i;
        added = closed_added g;
        liberal = closed_liberal g;
        sa = none sheet_words;
        la = none sheet_words;
        sr = none sheet_words;
        lr = none sheet_words;
        grants = words i;
      }

  pub view_close_lem : Fits g → view m (close_answer g).group ≡ view_close (view m g)
  unfolding close_answer view_close view
  view_close_lem z = ⊎_elim
      (λ (t : leb ticks g.closed ≡ true). simp t)
      (λ (f : leb ticks g.closed ≡ false). simp f (view_closed z))
      (truth (leb ticks g.closed))

  pub view_close_code : (close_answer g).code ≡ cond (leb ticks (view m g).closed) no_tick_left 0
  unfolding close_answer view
  view_close_code = ⊎_elim
      (λ (t : leb ticks g.closed ≡ true). simp t)
      (λ (f : leb ticks g.closed ≡ false). simp f)
      (truth (leb ticks g.closed))

  -- ---- what it is answered

  pub view_read_lem : (s : ℕ) → read_answer g m s ≡ view_read m (view m g) s
  unfolding read_answer view_read
  view_read_lem s = ⊎_elim
      (λ (t : leb sheets s ≡ true). simp t)
      (λ (f : leb sheets s ≡ false). simp (f, granted_seen s (leb-false _ _ f)))
      (truth (leb sheets s))
