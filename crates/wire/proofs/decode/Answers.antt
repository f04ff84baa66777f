use mathlib.Core.Path.{◌≡◌, refl, ap, ◌∙◌}
use mathlib.Core.List.{List, [], ◌++◌}
use Prim.Native.Nat.{ℕ, ◌+◌, ◌*◌, ◌/◌, ◌<◌}
use native.Mathlib.Numerals.{add-one}
use native.Mathlib.Omega.{arith}
use lib.ListN.{length, get_or, set}
use lib.Seq.{drop-cons, set_at, append_snoc}
use Rattle.std.specs.Int.{w32, from_le_bytes}
use Rattle.wire.specs.Word.{le32}
use Rattle.wire.specs.Words.{words}
use Rattle.wire.proofs.Words.{length_words, words_more, chunk_word}
use Rattle.wire.proofs.decode.Invariants.{filled}
use Rattle.wire.proofs.decode.Goals as goal

-- a store of the next word fills one place more
more : (b out : List ℕ) (i x : ℕ) → i < length out → x ≡ le32 b (i * 4) → set (filled b out i) i x ≡ filled b out (i + 1)
more b out i x room e =
    ap (λ (l : List ℕ). set (words b i ++ l) i x) (drop-cons out i 0 room)
    ∙ rw (set_at (words b i) _ _ _ i (length_words b i), e, add-one i, words_more b i, append_snoc)

pub loop-i-init : goal.loop-i-init
unfolding words
loop-i-init c = refl

pub loop-i-preserved : goal.loop-i-preserved
loop-i-preserved c =
    let i = c.loop-i.i in
    let cut = c.as_chunks.ensures in
    let word : c.from_le_bytes.result ≡ le32 c.args.b.now (i * 4) =
    c.from_le_bytes.ensures ∙ ap (λ (ws : List (List ℕ)). from_le_bytes w32 (get_or ws i [])) cut.front
    ∙ chunk_word c.args.b.now (length c.args.b.now / 4) i [] (omega (arith, cut.front_len)) in
    ap (λ (l : List ℕ). set l i c.from_le_bytes.result) c.loop-i.invariant ∙ more _ _ _ _ (omega (arith, cut.front_len)) word

pub returns : goal.returns
returns c =
    let all : c.loop-i.i ≡ length c.as_chunks.result.0.now = omega arith in
    (c.as_chunks.ensures.front_len, rw (← all) c.loop-i.invariant)
