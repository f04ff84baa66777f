-- Pairs written one by one: nothing where the list has no room for one, and a put at the front where all fit. Assumes nothing.
use mathlib.Core.Path.{◌≡◌, refl, sym, ap, ◌∙◌}
use mathlib.Core.List.{List, [], ◌∷◌}
use Prim.Native.Nat.{ℕ, ◌+◌, ◌*◌, ◌/◌, ◌≤◌, ◌<◌}
use native.Mathlib.Omega.{arith}
use lib.ListN.{length, set, length-set}
use borrow.Author.Tests.{lt-ltb, le-ltb}
use Rattle.wire.specs.Put.{put}
use Rattle.wire.proofs.Put.{put_none, put_one, put_next, length_put}
use Rattle.span.specs.Answer.{flat}
use Rattle.spanning.specs.Spans.{Span}
use Rattle.spanning.specs.Steps.{pair_at, pairs_from}

-- a list of fewer than two numbers stays
pub no_room : (l : List Span) (list : List ℕ) (place : ℕ) → length list < 2 → pairs_from list place l ≡ list
unfolding pairs_from
no_room [] list place h = refl
no_room (p ∷ l) list place h = simp (le-ltb place (length list / 2) (omega arith)) (no_room l list (place + 1) h)

-- a pair that fits
pair_put : (list : List ℕ) (place first last : ℕ) → 2 * (place + 1) ≤ length list → pair_at list place first last ≡ put list (2 * place) (first ∷ (last ∷ []))
pair_put list place first last h =
    simp (lt-ltb place (length list / 2) (omega arith))
    (put_one (set list (2 * place) first) (2 * place + 1) last (omega (arith, length-set list (2 * place) first))
    ∙ ap (λ (x : List ℕ). put x (2 * place + 1) (last ∷ [])) (put_one list (2 * place) first (omega arith))
    ∙ put_next list (2 * place) (first ∷ []) (omega arith) (last ∷ []))

pub all_put : (l : List Span) (list : List ℕ) (place : ℕ) → 2 * (place + length l) ≤ length list → pairs_from list place l ≡ put list (2 * place) (flat l)
unfolding pairs_from flat
all_put [] list place h = sym (put_none list (2 * place))
all_put (p ∷ l) list place h =
    let pair : List ℕ = p.first ∷ (p.last ∷ []) in
    let room : 2 * place + length pair ≤ length list = omega arith in
    let one = pair_put list place p.first p.last (omega arith) in
    ap (λ (x : List ℕ). pairs_from x (place + 1) l) one
    ∙ all_put l (put list (2 * place) pair) (place + 1) (omega (arith, length_put list (2 * place) pair room))
    ∙ ap (λ (n : ℕ). put (put list (2 * place) pair) n (flat l)) (let e : 2 * (place + 1) ≡ 2 * place + length pair = omega arith in e)
    ∙ put_next list (2 * place) pair room (flat l)
