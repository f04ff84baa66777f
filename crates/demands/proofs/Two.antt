-- Our gate meets demand 2 (specs/Two.antt). Assumes nothing.
use mathlib.Core.Path.{ap}
use Rattle.judge.proofs.Promise.{judge_means, judge_grants}
use Rattle.book.specs.declared.BookRead.{BookRead}
use Rattle.book.proofs.Promise.{write_then_read, read_then_write}
use Rattle.demands.specs.Two.{DemandTwo}
use Rattle.demands.specs.Ours.{ours}
use Rattle.demands.proofs.Gates.{fresh_gated, book_gated, mask_reads, mask_ends}
use Rattle.demands.proofs.Judgement.{said_granted, said_judged}

pub demand_two : DemandTwo ours
demand_two = record {
  judge = λ m s now a. (said_granted (judge_grants m s now a), said_judged (judge_means m s now a));
  gate = fresh_gated;
  book = book_gated;
  written = λ T number ws buffer list e fits.
      let r = write_then_read T number ws buffer list e fits in
      record {
        taken = ap (λ (x : BookRead). x.code) r.answer;
        same_ticks = r.same_ticks;
        same_number = r.same_number;
        same_events = r.same_events;
        words = r.words;
      };
  again = read_then_write;
  mask = mask_reads;
  mask_ends = mask_ends;
}
