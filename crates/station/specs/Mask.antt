-- Which groups of a station's list grant a model a sheet.
use Rattle.std.specs.Prelude.{Bool, cond, ◌||◌, List, [], ◌∷◌, ℕ, ◌+◌, ◌*◌, eqb, ltb, length, Result, Ok, Err}
use Rattle.rules.specs.Ranges.{groups}
use Rattle.rules.specs.Refusal.{refusal_number}
use Rattle.rules.specs.Refusals.{bad_list}
use Rattle.rules.specs.declared.refusal.Refusal.{Refusal}
use Rattle.group.specs.Read.{read_refusal, grant_of, read_answer}
use Rattle.group.specs.declared.Group.{Group}
use Rattle.station.specs.declared.MaskAnswer.{MaskAnswer}

-- what the code answers, in numbers
abbrev pub mask_told : Result ℕ Refusal → MaskAnswer
mask_told (Ok mask) = record { code = 0; mask = mask }
mask_told (Err refusal) = record { code = refusal_number refusal; mask = 0 }

-- the group answers a read of the sheet by granted
abbrev pub grants : Group → ℕ → ℕ → Bool
grants g model sheet = grant_of (read_answer g model sheet)

-- "a 16-bit mask of the positions that grant, bit 0 the first"
unfoldable pub mask_of : List Group → ℕ → ℕ → ℕ
mask_of [] model sheet = 0
mask_of (g ∷ gs) model sheet = cond (grants g model sheet) 1 0 + 2 * mask_of gs model sheet

-- "7: group list empty or longer than 16"; "list 7, 2"; 0 where neither is met
unfoldable pub list_refusal : ℕ → ℕ → ℕ → ℕ
list_refusal n model sheet = cond (eqb n 0 || ltb groups n) bad_list (read_refusal model sheet)

-- the answer for n groups with this mask: a refusal has the mask 0
unfoldable pub answer_with : ℕ → ℕ → ℕ → ℕ → MaskAnswer
answer_with n model sheet mask =
    cond (eqb (list_refusal n model sheet) 0)
    (record { code = 0; mask = mask })
    (record { code = list_refusal n model sheet; mask = 0 })

-- "The groups of a station stand side by side in one lent list"
unfoldable pub mask_answer : List Group → ℕ → ℕ → MaskAnswer
mask_answer gs model sheet = answer_with (length gs) model sheet (mask_of gs model sheet)
