-- What a model can see of a group: its number and closed ticks, its own membership and marks, every sheet's membership and marks, and its own bit
-- of every grant word. What a model is answered is stated as a function of this alone.
use Rattle.std.specs.Prelude.{Bool, false, not, cond, ◌&&◌, ◌||◌, List, ℕ, ◌+◌, eqb, ltb, leb, get_or}
use Rattle.base.specs.Table.{table}
use Rattle.rules.specs.Kinds.{SJ, LJ, SL, LL, SA, LA, SR, LR}
use Rattle.rules.specs.Ranges.{models, sheets, ticks}
use Rattle.rules.specs.Refusals.{bad_kind, bad_number, no_tick_left, second_event, already_in, not_in}
use Rattle.sets.specs.Set.{none, has, either, after}
use Rattle.group.specs.SheetWords.{sheet_words}
use Rattle.event.specs.Carrier.{of_model, carriers, entering}
use Rattle.group.specs.Marks.{mark, model_in}
use Rattle.bits.specs.Granted.{granted}
use Rattle.group.specs.Request.{marked_set}
use Rattle.group.specs.Read.{ReadAnswer, Granted, Denied, Refused}
use Rattle.group.specs.declared.Group.{Group}

pub record View : Type 0 where
  pub number : ℕ
  pub closed : ℕ
  pub inside : Bool
  pub sj : Bool
  pub lj : Bool
  pub sl : Bool
  pub ll : Bool
  pub added : List ℕ
  pub liberal : List ℕ
  pub sa : List ℕ
  pub la : List ℕ
  pub sr : List ℕ
  pub lr : List ℕ
  pub grants : List Bool

-- model m's view of a group
unfoldable pub view : ℕ → Group → View
view m g = record {
  number = g.number;
  closed = g.closed;
  inside = model_in g m;
  sj = mark g SJ m;
  lj = mark g LJ m;
  sl = mark g SL m;
  ll = mark g LL m;
  added = g.added;
  liberal = g.liberal;
  sa = g.sa;
  la = g.la;
  sr = g.sr;
  lr = g.lr;
  grants = table sheets (λ s. granted g.grants m s);
}

-- ---- a request, as model m sees it

-- the refusal of a request of its own, or of a sheet
unfoldable pub view_refusal : View → ℕ → ℕ → ℕ
view_refusal v kind n =
    cond (ltb LR kind) bad_kind
    (cond (leb (carriers kind) n) bad_number
    (cond (leb ticks v.closed) no_tick_left
    (cond (cond (of_model kind) (v.sj || v.lj || v.sl || v.ll) (has v.sa n || has v.la n || has v.sr n || has v.lr n)) second_event
    (cond (entering kind)
    (cond (cond (of_model kind) v.inside (has v.added n)) already_in 0)
    (cond (cond (of_model kind) v.inside (has v.added n)) 0 not_in)))))

-- the view after a request of any carrier is accepted
unfoldable pub marked_view : ℕ → View → ℕ → ℕ → View
marked_view m v kind n = record {
  number = v.number;
  closed = v.closed;
  inside = v.inside;
  sj = v.sj || (eqb kind SJ && eqb m n);
  lj = v.lj || (eqb kind LJ && eqb m n);
  sl = v.sl || (eqb kind SL && eqb m n);
  ll = v.ll || (eqb kind LL && eqb m n);
  added = v.added;
  liberal = v.liberal;
  sa = marked_set SA v.sa kind n;
  la = marked_set LA v.la kind n;
  sr = marked_set SR v.sr kind n;
  lr = marked_set LR v.lr kind n;
  grants = v.grants;
}

unfoldable pub view_request : ℕ → View → ℕ → ℕ → View
view_request m v kind n = cond (eqb (view_refusal v kind n) 0) (marked_view m v kind n) v

-- ---- a close, as it sees it

abbrev pub view_inside : View → Bool
view_inside v = v.inside && not (v.sl || v.ll) || (v.sj || v.lj)

abbrev pub view_liberal : View → List ℕ
view_liberal v = after sheet_words v.liberal (either sheet_words v.sr v.lr) v.la

abbrev pub view_granted : View → ℕ → Bool
view_granted v s =
    not (has v.sr s) && (get_or v.grants s false && not v.sl)
    || (has v.sa s || has v.la s) && view_inside v
    || has (view_liberal v) s && v.lj

unfoldable pub closed_view : View → View
closed_view v = record {
  number = v.number;
  closed = v.closed + 1;
  inside = view_inside v;
  sj = false;
  lj = false;
  sl = false;
  ll = false;
  added = after sheet_words v.added (either sheet_words v.sr v.lr) (either sheet_words v.sa v.la);
  liberal = view_liberal v;
  sa = none sheet_words;
  la = none sheet_words;
  sr = none sheet_words;
  lr = none sheet_words;
  grants = table sheets (view_granted v);
}

unfoldable pub view_close : View → View
view_close v = cond (leb ticks v.closed) v (closed_view v)

-- ---- a read, as it sees it

unfoldable pub view_read : ℕ → View → ℕ → ReadAnswer
view_read m v s = cond (leb models m) (Refused bad_number) (cond (leb sheets s) (Refused bad_number) (cond (get_or v.grants s false) Granted Denied))
