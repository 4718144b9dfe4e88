-- Bytes are their numbers and what stands behind these.
-- Assumes nothing.
use Rattle.std.proofs.Common.{ℕ, ◌≡◌, ◌∙◌, ◌*◌, ◌<◌, List, ◌++◌, length, set, drop, sym, ap, length-set}
use Rattle.rows.specs.Buffers.{written}
use Rattle.wire.specs.Wire.{numbers, bytes_of, with_number, Bytes}
use Rattle.wire.proofs.Numbers.{written_is, with_written, write_read}

-- bytes that hold the numbers v, with what stood behind the numbers of b behind them, are b with v written over its numbers
pub numbers_over : (b b' v : List ℕ) → Bytes b' → length v ≡ length (numbers b) → numbers b' ≡ v → drop (2 * length (numbers b')) b' ≡ drop (2 * length (numbers b)) b
    → b' ≡ written b 0 (bytes_of v)
numbers_over b b' v small many are odd =
    sym (write_read b' small)
    ∙ written_is b' (numbers b')
    ∙ ap (λ (l : List ℕ). bytes_of (numbers b') ++ l) odd
    ∙ ap (λ (l : List ℕ). bytes_of l ++ drop (2 * length (numbers b)) b) are
    ∙ ap (λ (n : ℕ). bytes_of v ++ drop (2 * n) b) (sym many)
    ∙ sym (written_is b v)

-- so is a store of one number
pub number_over : (b b' : List ℕ) (i v : ℕ) → Bytes b → Bytes b' → i < length (numbers b) → numbers b' ≡ set (numbers b) i v
    → drop (2 * length (numbers b')) b' ≡ drop (2 * length (numbers b)) b → b' ≡ with_number b i v
number_over b b' i v small small' h are odd =
    numbers_over b b' (set (numbers b) i v) small' (length-set (numbers b) i v) are odd
    ∙ sym (with_written b (numbers b) i v h)
    ∙ ap (λ (l : List ℕ). with_number l i v) (write_read b small)
