-- Each refusal's number, and what it is about; and what a check tells in numbers.
use Rattle.std.specs.Prelude.{ℕ, cond, eqb, Ok, Err}
use Rattle.std.specs.declared.result.Result.{Result}
use Rattle.rules.specs.Refusals as numbers
use Rattle.rules.specs.declared.refusal.Refusal.{Refusal}
use Rattle.rules.specs.declared.refusal.Refusal.TheVariants.{BadKind, BadNumber, NoTickLeft, SecondEvent, AlreadyIn, NotIn, BadList, BadGroup, LateNow, LongModel, LongSheet, BadModel, BadSheet, BadLength, BadTotal, BadHeader, BadCount, BadRecord, NotRising, IllFormed, ShortBuffer, ShortList, BadStore, NotInStore, BadEntry, DeliveryTooLong, TooManySpans}

abbrev pub refusal_number : Refusal → ℕ
refusal_number BadKind = numbers.bad_kind
refusal_number BadNumber = numbers.bad_number
refusal_number NoTickLeft = numbers.no_tick_left
refusal_number SecondEvent = numbers.second_event
refusal_number AlreadyIn = numbers.already_in
refusal_number NotIn = numbers.not_in
refusal_number BadList = numbers.bad_list
refusal_number BadGroup = numbers.bad_group
refusal_number LateNow = numbers.late_now
refusal_number LongModel = numbers.long_model
refusal_number LongSheet = numbers.long_sheet
refusal_number (BadModel place) = numbers.bad_model
refusal_number (BadSheet place) = numbers.bad_sheet
refusal_number BadLength = numbers.bad_length
refusal_number BadTotal = numbers.bad_total
refusal_number BadHeader = numbers.bad_header
refusal_number BadCount = numbers.bad_count
refusal_number (BadRecord place) = numbers.bad_record
refusal_number (NotRising place) = numbers.not_rising
refusal_number (IllFormed place) = numbers.ill_formed
refusal_number ShortBuffer = numbers.short_buffer
refusal_number ShortList = numbers.short_list
refusal_number BadStore = numbers.bad_store
refusal_number (NotInStore sheet) = numbers.not_in_store
refusal_number (BadEntry sheet) = numbers.bad_entry
refusal_number DeliveryTooLong = numbers.delivery_too_long
refusal_number TooManySpans = numbers.too_many_spans

-- the word's or the record's place, or the sheet; 0 where a refusal is about none
abbrev pub refusal_place : Refusal → ℕ
refusal_place BadKind = 0
refusal_place BadNumber = 0
refusal_place NoTickLeft = 0
refusal_place SecondEvent = 0
refusal_place AlreadyIn = 0
refusal_place NotIn = 0
refusal_place BadList = 0
refusal_place BadGroup = 0
refusal_place LateNow = 0
refusal_place LongModel = 0
refusal_place LongSheet = 0
refusal_place (BadModel place) = place
refusal_place (BadSheet place) = place
refusal_place BadLength = 0
refusal_place BadTotal = 0
refusal_place BadHeader = 0
refusal_place BadCount = 0
refusal_place (BadRecord place) = place
refusal_place (NotRising place) = place
refusal_place (IllFormed place) = place
refusal_place ShortBuffer = 0
refusal_place ShortList = 0
refusal_place BadStore = 0
refusal_place (NotInStore sheet) = sheet
refusal_place (BadEntry sheet) = sheet
refusal_place DeliveryTooLong = 0
refusal_place TooManySpans = 0

-- in numbers: a refusal's number with its place, or 0 and 0
pub record Told : Type 0 where
  pub code : ℕ
  pub place : ℕ

abbrev pub told : {A : Type 0} → Result A Refusal → Told
told (Ok a) = record { code = 0; place = 0 }
told (Err refusal) = record { code = refusal_number refusal; place = refusal_place refusal }

-- a refusal's number that stands alone, or 0
abbrev pub alone : ℕ → Told
alone code = record { code = code; place = 0 }

-- a number with the place that it is about; 0 and 0 where the number is 0
abbrev pub placed : ℕ → ℕ → Told
placed place code = cond (eqb code 0) (alone 0) (record { code = code; place = place })
