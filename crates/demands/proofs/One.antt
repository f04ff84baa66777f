-- Our gate meets demand 1 (specs/One.antt). Assumes nothing.
use mathlib.Core.Path.{refl}
use Rattle.demands.specs.One.{DemandOne}
use Rattle.demands.specs.Ours.{ours}
use Rattle.demands.proofs.Lines.{met_first, none_first, met_or_none}
use Rattle.demands.proofs.Refused.{fresh_refuses, request_refuses, close_refuses, read_refuses, count_refuses, mask_refuses}
use Rattle.demands.proofs.RefusedBook.{reader_refuses, writer_refuses}
use Rattle.demands.proofs.RefusedJudge.{judge_refuses, bytes_packed}
use Rattle.demands.proofs.RefusedSpans.{spans_refuses}
use Rattle.demands.proofs.RefusedDelivery.{delivery_refuses, unrefused_delivered}

pub demand_one : DemandOne ours
demand_one = record {
  numbers = refl;
  given = met_first;
  nothing = none_first;
  one_of_them = met_or_none;
  fresh = fresh_refuses;
  request = request_refuses;
  close = close_refuses;
  read = read_refuses;
  count = count_refuses;
  mask = mask_refuses;
  judge = judge_refuses;
  judge_of_bytes = bytes_packed;
  spans = spans_refuses;
  reader = reader_refuses;
  writer = writer_refuses;
  delivery = λ g. delivery_refuses g.grants;
  delivers = λ g. unrefused_delivered g.grants;
}
