-- The refusals of a group's calls, line by line. Each is its definition computed on the truth values of its tests. Assumes nothing.
use mathlib.Core.Path.{◌≡◌, refl, ap, ◌∙◌}
use mathlib.Core.Bool.{Bool, true, false, not, cond, ◌&&◌, ◌||◌}
use mathlib.Core.List.{List, [], ◌∷◌}
use Prim.Native.Nat.{ℕ}
use lib.Dec.{eqb, ltb, leb}
use lib.ListN.{length}
use Rattle.rules.specs.Kinds.{LR}
use Rattle.rules.specs.Ranges.{models, sheets, groups, ticks}
use Rattle.rules.specs.Refusals.{bad_kind, bad_number, no_tick_left, second_event, already_in, not_in, bad_list, bad_group}
use Rattle.event.specs.Carrier.{carriers, entering}
use Rattle.group.specs.Close.{closed_group, close_answer}
use Rattle.group.specs.Count.{models_granted, count_answer}
use Rattle.group.specs.Fresh.{fresh_group, fresh_answer}
use Rattle.group.specs.Marks.{carrier_marked, carrier_in}
use Rattle.bits.specs.Granted.{granted}
use Rattle.group.specs.Read.{ReadAnswer, Granted, Denied, Refused, read_refusal, read_number, grant_of, read_answer}
use Rattle.group.specs.Request.{request_refusal, request_answer}
use Rattle.group.specs.declared.Answer.{Answer}
use Rattle.group.specs.declared.CountAnswer.{CountAnswer}
use Rattle.group.specs.declared.Group.{Group}
use Rattle.group.proofs.Request.{request_code, request_refused}
use Rattle.station.specs.Mask.{mask_of, list_refusal, answer_with, mask_answer}
use Rattle.station.specs.declared.MaskAnswer.{MaskAnswer}
use Rattle.demands.specs.Lines.{plain, line, first_met, Refuses}
use Rattle.demands.specs.Refusals.{fresh_lines, request_lines, close_lines, read_lines, count_lines, mask_lines}

-- ---- fresh, close, count

pub fresh_refuses : (n : ℕ) → Refuses (fresh_lines n) (plain (fresh_answer n).code) ((fresh_answer n).group ≡ fresh_group 0)
unfolding fresh_answer first_met
fresh_refuses n = go (leb groups n)
  where
    go : (c : Bool) → let r : Answer = cond c (record { code = bad_group; group = fresh_group 0 }) (record { code = 0; group = fresh_group n }) in
        Refuses (line c (plain bad_group) ∷ []) (plain r.code) (r.group ≡ fresh_group 0)
    go true = record { first = refl; unchanged = λ r. refl }
    go false = record { first = refl; unchanged = λ r. absurd (r refl) }

pub close_refuses : (g : Group) → Refuses (close_lines g) (plain (close_answer g).code) ((close_answer g).group ≡ g)
unfolding close_answer first_met
close_refuses g = go (leb ticks g.closed)
  where
    go : (c : Bool) → let r : Answer = cond c (record { code = no_tick_left; group = g }) (record { code = 0; group = closed_group g }) in
        Refuses (line c (plain no_tick_left) ∷ []) (plain r.code) (r.group ≡ g)
    go true = record { first = refl; unchanged = λ r. refl }
    go false = record { first = refl; unchanged = λ r. absurd (r refl) }

pub count_refuses : (g : Group) (s : ℕ) → Refuses (count_lines s) (plain (count_answer g s).code) ((count_answer g s).count ≡ 0)
unfolding count_answer first_met
count_refuses g s = go (leb sheets s)
  where
    go : (c : Bool) → let r : CountAnswer = cond c (record { code = bad_number; count = 0 }) (record { code = 0; count = models_granted g s }) in
        Refuses (line c (plain bad_number) ∷ []) (plain r.code) (r.count ≡ 0)
    go true = record { first = refl; unchanged = λ r. refl }
    go false = record { first = refl; unchanged = λ r. absurd (r refl) }

-- ---- read

pub read_refuses : (g : Group) (m s : ℕ) → Refuses (read_lines m s) (plain (read_number (read_answer g m s))) (grant_of (read_answer g m s) ≡ false)
unfolding read_answer first_met
read_refuses g m s = go (leb models m) (leb sheets s) (granted g.grants m s)
  where
    go : (a b c : Bool) → let r : ReadAnswer = cond a (Refused bad_number) (cond b (Refused bad_number) (cond c Granted Denied)) in
        Refuses (line a (plain bad_number) ∷ line b (plain bad_number) ∷ []) (plain (read_number r)) (grant_of r ≡ false)
    go true b c = record { first = refl; unchanged = λ r. refl }
    go false true c = record { first = refl; unchanged = λ r. refl }
    go false false true = record { first = refl; unchanged = λ r. absurd (r refl) }
    go false false false = record { first = refl; unchanged = λ r. refl }

-- ---- a list of groups

pub mask_refuses : (gs : List Group) (m s : ℕ) → Refuses (mask_lines (length gs) m s) (plain (mask_answer gs m s).code) ((mask_answer gs m s).mask ≡ 0)
unfolding mask_answer answer_with list_refusal read_refusal first_met
mask_refuses gs m s = go (eqb (length gs) 0 || ltb groups (length gs)) (leb models m) (leb sheets s)
  where
    go : (a b c : Bool)
        → let code : ℕ = cond a bad_list (cond b bad_number (cond c bad_number 0)) in
        let r : MaskAnswer = cond (eqb code 0) (record { code = 0; mask = mask_of gs m s }) (record { code = code; mask = 0 }) in
        Refuses (line a (plain bad_list) ∷ line b (plain bad_number) ∷ line c (plain bad_number) ∷ []) (plain r.code) (r.mask ≡ 0)
    go true b c = record { first = refl; unchanged = λ r. refl }
    go false true c = record { first = refl; unchanged = λ r. refl }
    go false false true = record { first = refl; unchanged = λ r. refl }
    go false false false = record { first = refl; unchanged = λ r. absurd (r refl) }

-- ---- request

-- "then 5 or 6": a join or add while in, a leave or remove while out
order : (a b c d e i : Bool)
    → plain (cond a bad_kind (cond b bad_number (cond c no_tick_left (cond d second_event (cond e (cond i already_in 0) (cond i 0 not_in))))))
    ≡ first_met (line a (plain bad_kind) ∷ line b (plain bad_number) ∷ line c (plain no_tick_left) ∷ line d (plain second_event) ∷ line (e && i) (plain already_in)
    ∷ line (not e && not i) (plain not_in) ∷ [])
unfolding first_met
order true b c d e i = refl
order false true c d e i = refl
order false false true d e i = refl
order false false false true e i = refl
order false false false false true true = refl
order false false false false true false = refl
order false false false false false true = refl
order false false false false false false = refl

request_first : (g : Group) (kind n : ℕ) → plain (request_refusal g kind n) ≡ first_met (request_lines g kind n)
unfolding request_refusal
request_first g kind n = order (ltb LR kind) (leb (carriers kind) n) (leb ticks g.closed) (carrier_marked g kind n) (entering kind) (carrier_in g kind n)

pub request_refuses : (g : Group) (kind n : ℕ) → Refuses (request_lines g kind n) (plain (request_answer g kind n).code) ((request_answer g kind n).group ≡ g)
request_refuses g kind n = record {
  first = ap plain (request_code g kind n) ∙ request_first g kind n;
  unchanged = λ r. request_refused g kind n (λ e. r (request_code g kind n ∙ e));
}
