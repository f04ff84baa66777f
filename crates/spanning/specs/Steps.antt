-- What the code does turn by turn. proofs/Left.antt ties the turns to the spans.
use Rattle.std.specs.Prelude.{Bool, cond, List, [], ◌∷◌, ℕ, ◌+◌, ◌*◌, ◌-◌, ◌/◌, eqb, ltb, length, set}
use Rattle.rules.specs.Ranges.{events}
use Rattle.spanning.specs.Spans.{Span}
use Rattle.spanning.specs.declared.Spanning.{Spanning}

-- no two strips have more events, and so no more spans
abbrev pub most : ℕ
most = 2 * events

-- the list with a pair at its place, where it has room for it
abbrev pub pair_at : List ℕ → ℕ → ℕ → ℕ → List ℕ
pair_at list place first last = cond (ltb place (length list / 2)) (set (set list (2 * place) first) (2 * place + 1) last) list

-- pairs from a place on
unfoldable pub pairs_from : List ℕ → ℕ → List Span → List ℕ
pairs_from list place [] = list
pairs_from list place (p ∷ l) = pairs_from (pair_at list place p.first p.last) (place + 1) l

-- the open span ends at tick `last`, where one is open
abbrev pub ended : Spanning → Spanning
ended was = cond (eqb was.first 0) was (record { first = 0; count = was.count + 1 })

abbrev pub ended_list : List ℕ → Spanning → ℕ → List ℕ
ended_list list was last = cond (eqb was.first 0) list (pair_at list was.count was.first last)

-- a tick with events: the grant holds after it, or not
abbrev pub turned : Spanning → ℕ → Bool → Spanning
turned was tick holds = cond holds (record { first = cond (eqb was.first 0) tick was.first; count = was.count }) (ended was)

abbrev pub turned_list : List ℕ → Spanning → ℕ → Bool → List ℕ
turned_list list was tick holds = cond holds list (ended_list list was (tick - 1))
