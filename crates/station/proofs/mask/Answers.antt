-- `station::mask` meets its contract: each turn reads the group before those that are read already.
use Rattle.std.proofs.Common.{◌≡◌, ◌-◌, ◌<◌, cond, Bool, true, false, length, get_or, sym, ap, ◌∙◌, refl, arith, rules}
use mathlib.Core.List.{List, reverse}
use mir.Val.{bool_byte}
use Rattle.std.proofs.lemmas.List.{length_push, length-reverse, get_or-reverse, at_drop_all}
use Rattle.std.proofs.lemmas.Iterator.Adapters.{YieldsList-from_rev_slice}
use Rattle.std.proofs.lemmas.Iterator.Consumers.{YieldsList-turn}
use Rattle.std.specs.Prelude.{Ok}
use Rattle.base.proofs.Truth.{one_le}
use Rattle.group.specs.Read.{read_told, grant_of, read_number}
use Rattle.group.specs.declared.Group.{Group}
use Rattle.station.specs.Mask.{mask_of, grants}
use Rattle.station.proofs.Scan.{mask_more, tail_fits}
use Rattle.station.proofs.mask.Goals as goal
use Rattle.station.proofs.mask.Goals.{In-Some}

byte_of : (b : Bool) → bool_byte b ≡ cond b 1 0
byte_of true = refl
byte_of false = refl

granted_of : (b : Bool) → grant_of (read_told (Ok b)) ≡ b
granted_of true = refl
granted_of false = refl

answered : (b : Bool) → read_number (read_told (Ok b)) ≡ 0
answered true = refl
answered false = refl

-- the group of this turn is the last that is left
turn : (c : In-Some) → (length c.loop-g.yielded < length (reverse c.args.gs.now)) × (c.in-Some.g.now ≡ get_or (reverse c.args.gs.now) (length c.loop-g.yielded) c.in-Some.g.now)
turn c = YieldsList-turn (YieldsList-from_rev_slice c.args.gs.now (search rules)) c.loop-g.yielded _ c.loop-g.yielded_by _ _ c.in-Some.g c.in-Some.is c.next.ensures.steps

pub loop-g-init : goal.loop-g-init
unfolding mask_of
loop-g-init c = (sym (at_drop_all (λ (xs : List Group). mask_of xs c.args.model c.args.sheet) c.args.gs.now (length c.args.gs.now - 0) (omega arith)), λ h. absurd (omega arith))

-- what is found so far fits sixteen bits
small : (c : In-Some) → c.loop-g.found < 65536
small c =
    let fits = tail_fits c.args.gs.now (length c.args.gs.now - length c.loop-g.yielded) c.args.model c.args.sheet c.if-gs.false in
    omega (arith, c.loop-g.invariant.0)

pub overflow_mul-found : goal.overflow_mul-found
overflow_mul-found c = let fits = small (goal.at.overflow_mul-found c).In-Some in search rules

pub overflow_add-found : goal.overflow_add-found
overflow_add-found c =
    let fits = small (goal.at.overflow_add-found c).In-Some in
    let bit = one_le c.in_ok-read.field-0 in
    let byte = c.from.ensures ∙ byte_of c.in_ok-read.field-0 in
    search rules

pub loop-g-preserved : goal.loop-g-preserved
loop-g-preserved c =
    let gs = c.args.gs.now in
    let k = length c.loop-g.yielded in
    let t = turn (goal.at.loop-g-preserved c).In-Some in
    let within : k < length gs = rw (sym (length-reverse gs)) t.0 in
    let own : c.in-Some.g.now ≡ get_or gs (length gs - 1 - k) c.in-Some.g.now = t.1 ∙ get_or-reverse gs k c.in-Some.g.now within in
    let bit : c.from.result ≡ cond (grants c.in-Some.g.now c.args.model c.args.sheet) 1 0 =
    c.from.ensures ∙ byte_of c.in_ok-read.field-0 ∙ ap (λ (b : Bool). cond b 1 0) (sym (granted_of c.in_ok-read.field-0) ∙ ap grant_of c.in_ok-read.ensures.answer) in
    rw (length_push c.loop-g.yielded c.in-Some.g) (
      rw (bit, c.loop-g.invariant.0) (mask_more gs c.args.model c.args.sheet k c.in-Some.g.now within own),
      λ h. sym c.in_ok-read.ensures.number ∙ answered c.in_ok-read.field-0,
    )
