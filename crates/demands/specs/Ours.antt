-- Our gate: each call as its public promise has it, over the record that a group is. These are the definitions that the contracts cite.
use Rattle.std.specs.Prelude.{length}
use Rattle.book.specs.Read.{book_read, list_read}
use Rattle.book.specs.Write.{book_written, buffer_written}
use Rattle.book.specs.declared.BookRead.{BookRead}
use Rattle.loader.specs.Judge.{packed, judged_from}
use Rattle.group.specs.Close.{close_answer}
use Rattle.group.specs.Count.{count_answer}
use Rattle.group.specs.Fresh.{fresh_answer}
use Rattle.group.specs.Read.{read_answer}
use Rattle.group.specs.Request.{request_answer}
use Rattle.group.specs.declared.Answer.{Answer}
use Rattle.group.specs.declared.Group.{Group}
use Rattle.evidence.specs.Evidence.{evidence_of}
use Rattle.judge.specs.Judge.{judged_by}
use Rattle.span.specs.Answer.{spans_answer, list_after}
use Rattle.station.specs.Mask.{mask_answer}
use Rattle.delivery.specs.Answer.{answer, buffer_after}
use Rattle.demands.specs.Gate.{Left, Gate}
use Rattle.demands.specs.Judgement.{judgement_told}

-- a fresh group, a request and a close name no place
abbrev pub left : Answer → Left Group
left a = record { code = a.code; place = 0; group = a.group }

abbrev pub loaded : BookRead → Left Group
loaded r = record { code = r.code; place = r.place; group = r.group }

abbrev pub ours : Gate Group
ours = record {
  number = λ g. g.number;
  closed = λ g. g.closed;
  fresh = λ number. left (fresh_answer number);
  request = λ g kind n. left (request_answer g kind n);
  close = λ g. left (close_answer g);
  read = read_answer;
  count = count_answer;
  mask = mask_answer;
  deliver = λ g m store out. answer g.grants m store (length out);
  delivered = λ g m store out. buffer_after g.grants m store out;
  judge = λ m s now. judgement_told (judged_by m s now);
  evidence = λ m s now. evidence_of (judged_by m s now) m s;
  judge_bytes = λ m s now. packed (judged_from m s now);
  spans = λ m s now list. spans_answer m s now (length list);
  spans_left = list_after;
  read_book = λ b list. loaded (book_read b (length list));
  words_left = list_read;
  write_book = λ T number ws buffer. book_written T number ws (length buffer);
  book_left = buffer_written;
}
