-- Words and their bytes are inverse both ways; the words of bytes, one by one. Assumes nothing.
use mathlib.Core.Path.{◌≡◌, refl, sym, ap, ap₂, ◌∙◌}
use mathlib.Core.List.{List, [], ◌∷◌, ◌++◌, append_assoc, append-nil}
use Prim.Native.Nat.{ℕ, zero, suc, ◌+◌, ◌-◌, ◌*◌, ◌/◌, ◌≤◌, ◌<◌}
use native.Mathlib.Omega.{arith}
use lib.ListN.{length, get_or, take, drop, length-append}
use lib.Seq.{drop_at, take_at, take-add}
use Rattle.std.specs.Int.{w32, from_le_bytes}
use Rattle.std.specs.Simd.{first_chunks}
use Rattle.wire.specs.Word.{le32, bytes32, AllBytes}
use Rattle.wire.specs.Words.{words, words_in, bytes}
use Rattle.wire.proofs.Word.{length_bytes32, le32_drop, le32_take, word_of_bytes, bytes_of_word}

pub length_words : (b : List ℕ) (n : ℕ) → length (words b n) ≡ n
unfolding words
length_words b zero = refl
length_words b (suc n) = ap suc (length_words (drop 4 b) n)

-- the part of a list that holds the decoded words is those words
pub lent : (b : List ℕ) (n : ℕ) (l rest : List ℕ) → n ≡ length b / 4 → l ≡ words b n ++ rest → take (n - 0) (drop 0 l) ≡ words_in b
lent b n l rest e q =
    let z : n - 0 ≡ n = omega arith in
    rw (z, q) (take_at (words b n) rest n (length_words b n) ∙ ap (words b) e)

pub length_bytes : (ws : List ℕ) → length (bytes ws) ≡ length ws * 4
unfolding bytes
length_bytes [] = refl
length_bytes (w ∷ ws) = simp (length-append, length_bytes32, length_bytes ws) (omega arith)

pub bytes_append : (vs ws : List ℕ) → bytes (vs ++ ws) ≡ bytes vs ++ bytes ws
unfolding bytes
bytes_append [] ws = refl
bytes_append (v ∷ vs) ws = simp (append_assoc, bytes_append vs ws)

pub bytes_one : (w : ℕ) → bytes (w ∷ []) ≡ bytes32 w
unfolding bytes
bytes_one w = append-nil (bytes32 w)

-- the word in its place
pub words_at : (b : List ℕ) (n i : ℕ) → i < n → get_or (words b n) i 0 ≡ le32 b (i * 4)
unfolding words
words_at b zero i h = absurd (omega arith)
words_at b (suc n) zero h = refl
words_at b (suc n) (suc i) h =
    words_at (drop 4 b) n i (omega arith) ∙ le32_drop b 4 (i * 4) ∙ ap (le32 b) (let e : 4 + i * 4 ≡ suc i * 4 = omega arith in e)

-- the word of four bytes cut out
pub chunk_word : (b : List ℕ) (n i : ℕ) (d : List ℕ) → i < n → from_le_bytes w32 (get_or (first_chunks 4 n b) i d) ≡ le32 b (i * 4)
unfolding le32
chunk_word b zero i d h = absurd (omega arith)
chunk_word b (suc n) zero d h = le32_take b 4 0 (omega arith)
chunk_word b (suc n) (suc i) d h =
    chunk_word (drop 4 b) n i d (omega arith) ∙ le32_drop b 4 (i * 4) ∙ ap (le32 b) (let e : 4 + i * 4 ≡ suc i * 4 = omega arith in e)

-- one word more
pub words_more : (b : List ℕ) (n : ℕ) → words b (suc n) ≡ words b n ++ (le32 b (n * 4) ∷ [])
unfolding words
words_more b zero = refl
words_more b (suc n) =
    ap (λ (l : List ℕ). le32 b 0 ∷ l)
    (words_more (drop 4 b) n
    ∙ ap (λ (x : ℕ). words (drop 4 b) n ++ (x ∷ []))
    (le32_drop b 4 (n * 4) ∙ ap (le32 b) (let e : 4 + n * 4 ≡ suc n * 4 = omega arith in e)))

-- the words of words' bytes are the words, whatever follows
pub words_of_bytes : (ws rest : List ℕ) → words (bytes ws ++ rest) (length ws) ≡ ws
unfolding words bytes
words_of_bytes [] rest = refl
words_of_bytes (w ∷ ws) rest =
    let e = append_assoc (bytes32 w) (bytes ws) rest in
    ap₂ (λ (x : ℕ) (l : List ℕ). x ∷ l)
    (ap (λ (l : List ℕ). le32 l 0) e ∙ word_of_bytes w (bytes ws ++ rest))
    (ap (λ (l : List ℕ). words (drop 4 l) (length ws)) e
    ∙ ap (λ (l : List ℕ). words l (length ws)) (drop_at (bytes32 w) (bytes ws ++ rest) 4 (length_bytes32 w))
    ∙ words_of_bytes ws rest)

-- the bytes of bytes' words are the bytes
pub bytes_of_words : (b : List ℕ) (n : ℕ) → AllBytes b → n * 4 ≤ length b → bytes (words b n) ≡ take (n * 4) b
unfolding words bytes
bytes_of_words b zero h long = refl
bytes_of_words [] (suc n) h long = absurd (omega arith)
bytes_of_words (p ∷ []) (suc n) h long = absurd (omega arith)
bytes_of_words (p ∷ q ∷ []) (suc n) h long = absurd (omega arith)
bytes_of_words (p ∷ q ∷ r ∷ []) (suc n) h long = absurd (omega arith)
bytes_of_words (p ∷ q ∷ r ∷ s ∷ b) (suc n) h long =
    let e : suc n * 4 ≡ 4 + n * 4 = omega arith in
    ap₂ (λ (x y : List ℕ). x ++ y)
    (bytes_of_word p q r s b (h 0) (h 1) (h 2) (h 3))
    (bytes_of_words b n (λ i. h (suc (suc (suc (suc i))))) (omega arith))
    ∙ sym (ap (λ (k : ℕ). take k (p ∷ q ∷ r ∷ s ∷ b)) e ∙ take-add 4 (n * 4) (p ∷ q ∷ r ∷ s ∷ b))
