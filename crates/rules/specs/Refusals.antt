-- The refusal numbers.
use Rattle.std.specs.Prelude.{ℕ}

-- a request, a close, a read, a list of groups, a fresh group: 1 to 9
abbrev pub bad_kind : ℕ
bad_kind = 1

abbrev pub bad_number : ℕ
bad_number = 2

abbrev pub no_tick_left : ℕ
no_tick_left = 3

abbrev pub second_event : ℕ
second_event = 4

abbrev pub already_in : ℕ
already_in = 5

abbrev pub not_in : ℕ
not_in = 6

abbrev pub bad_list : ℕ
bad_list = 7

abbrev pub bad_group : ℕ
bad_group = 9

-- the judge: 10 to 14
abbrev pub late_now : ℕ
late_now = 10

abbrev pub long_model : ℕ
long_model = 11

abbrev pub long_sheet : ℕ
long_sheet = 12

abbrev pub bad_model : ℕ
bad_model = 13

abbrev pub bad_sheet : ℕ
bad_sheet = 14

-- the event book: 20 to 28
abbrev pub bad_length : ℕ
bad_length = 20

abbrev pub bad_total : ℕ
bad_total = 21

abbrev pub bad_header : ℕ
bad_header = 22

abbrev pub bad_count : ℕ
bad_count = 23

abbrev pub bad_record : ℕ
bad_record = 24

abbrev pub not_rising : ℕ
not_rising = 25

abbrev pub ill_formed : ℕ
ill_formed = 26

abbrev pub short_buffer : ℕ
short_buffer = 27

abbrev pub short_list : ℕ
short_list = 28

-- a delivery: 31 to 34
abbrev pub bad_store : ℕ
bad_store = 31

abbrev pub not_in_store : ℕ
not_in_store = 32

abbrev pub bad_entry : ℕ
bad_entry = 33

abbrev pub delivery_too_long : ℕ
delivery_too_long = 34

-- the spans: 40
abbrev pub too_many_spans : ℕ
too_many_spans = 40
