-- Any gate, over whatever it keeps of a group: what each of its calls answers, and what it leaves. The three demands are stated over any gate, so that
-- they can be asked of a wrong one too.
use Rattle.std.specs.Prelude.{List, ℕ}
use Rattle.book.specs.declared.BookWritten.{BookWritten}
use Rattle.group.specs.Read.{ReadAnswer}
use Rattle.group.specs.declared.CountAnswer.{CountAnswer}
use Rattle.span.specs.declared.SpansAnswer.{SpansAnswer}
use Rattle.station.specs.declared.MaskAnswer.{MaskAnswer}
use Rattle.delivery.specs.Delivery.{Delivery}
use Rattle.demands.specs.Judgement.{Judgement}

-- a refusal's number, 0 where there is none, and its place; and the group afterwards
pub record Left (State : Type 0) : Type 0 where
  pub code : ℕ
  pub place : ℕ
  pub group : State

pub record Gate (State : Type 0) : Type 0 where
  -- what a group's record says of itself
  pub number : State → ℕ
  pub closed : State → ℕ
  -- the calls on a group: with a number; with a kind and a number; with a model and a sheet; with a sheet
  pub fresh : ℕ → Left State
  pub request : State → ℕ → ℕ → Left State
  pub close : State → Left State
  pub read : State → ℕ → ℕ → ReadAnswer
  pub count : State → ℕ → CountAnswer
  -- with a list of groups, a model and a sheet
  pub mask : List State → ℕ → ℕ → MaskAnswer
  -- a delivery to a model, from a store into a buffer: its answer, and the buffer afterwards
  pub deliver : State → ℕ → List ℕ → List ℕ → Delivery
  pub delivered : State → ℕ → List ℕ → List ℕ → List ℕ
  -- the judge, with a model's strip, a sheet's strip and now: its verdict, its evidence, and from C, with the strips in bytes
  pub judge : List ℕ → List ℕ → ℕ → Judgement
  pub evidence : List ℕ → List ℕ → ℕ → List ℕ
  pub judge_bytes : List ℕ → List ℕ → ℕ → ℕ
  -- the spans, with a list besides: the answer, and the list afterwards
  pub spans : List ℕ → List ℕ → ℕ → List ℕ → SpansAnswer
  pub spans_left : List ℕ → List ℕ → ℕ → List ℕ → List ℕ
  -- the reader, with a book and a word list: the answer with the group, and the word list afterwards
  pub read_book : List ℕ → List ℕ → Left State
  pub words_left : List ℕ → List ℕ → List ℕ
  -- the writer, with T, a group's number, words and a buffer: the answer, and the buffer afterwards
  pub write_book : ℕ → ℕ → List ℕ → List ℕ → BookWritten
  pub book_left : ℕ → ℕ → List ℕ → List ℕ → List ℕ
