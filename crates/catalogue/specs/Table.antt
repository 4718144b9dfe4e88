-- The lines of the table of refusals (docs/SCOPE.md) that are a catalogue's: each check refuses exactly when the table says so, with the
-- number and the place that stand there. Proved in proofs/Table.
use Rattle.std.specs.Prelude.{ℕ, zero, suc, ◌+◌, ◌-◌, ◌*◌, ◌<◌, ◌≤◌, ◌≡◌, List, [], ◌∷◌, map, ◌↔◌, ◌⊎◌, length, get_or, Ok, Err}
use Rattle.rows.specs.Limits.{row_most}
use Rattle.rows.specs.Row.{reading}
use Rattle.rows.specs.declared.Fault.{Fault}
use Rattle.rows.specs.declared.Leaves.TheVariants.{Symbols}
use Rattle.rows.specs.declared.Refusal.{Refusal}
use Rattle.rows.specs.declared.Refusal.TheVariants.{Programme}
use Rattle.refusal_numbers.specs.Table.{Refuses}
use Rattle.catalogue.specs.Catalogue.{Numbered, number_of, row_of}
use Rattle.catalogue.specs.Refusals.{file_size, holds, few, rises, placed, rows_fit, total, lengths_fit}
use Rattle.catalogue.specs.declared.Entry.{Entry}

-- number i is the first that is not above the one before it
pub record FirstNotAbove (ns : List ℕ) (i : ℕ) : Type 0 where
  pub behind : 0 < i
  pub within : i < length ns
  pub not_above : get_or ns i 0 ≤ get_or ns (i - 1) 0
  pub before : (k : ℕ) → suc k < i → get_or ns k 0 < get_or ns (suc k) 0

-- the byte behind the rows of the first i entries, of which the first starts at byte `next`
unfoldable pub end_of : ℕ → List Entry → ℕ → ℕ
end_of next es zero = next
end_of next [] (suc i) = next
end_of next (e ∷ es) (suc i) = end_of (next + 2 * e.length) es i

-- the start that entry i tells
abbrev pub start_at : List Entry → ℕ → ℕ
start_at es i = get_or (map (λ e. e.start) es) i 0

-- entry i is placed right: it starts at the next free byte, and its row ends within the file
pub record Right (size next : ℕ) (es : List Entry) (i : ℕ) : Type 0 where
  pub starts : start_at es i ≡ end_of next es i
  pub ends : end_of next es (suc i) ≤ size

-- entry i is the first that is not
pub record FirstMisplaced (size next : ℕ) (es : List Entry) (i : ℕ) : Type 0 where
  pub within : i < length es
  pub wrong : (start_at es i ≡ end_of next es i → ⊥) ⊎ (size < end_of next es (suc i))
  pub before : (k : ℕ) → k < i → Right size next es k

-- row i is the first that is not one tree's, with this fault
pub record FirstFaulty (A : List ℕ) (ps : List Numbered) (i : ℕ) (f : Fault) : Type 0 where
  pub within : i < length ps
  pub faulty : reading A Symbols row_most (get_or (map row_of ps) i []) ≡ Err f
  pub before : (k : ℕ) → k < i → reading A Symbols row_most (get_or (map row_of ps) k []) ≡ Ok tt

pub record Table : Type 0 where
  -- 66: a file over 65,536 bytes. Its length.
  pub file_long : (n k q : ℕ) → Refuses (file_size n) k q ↔ ((k ≡ 66) × (q ≡ n) × (65536 < n))
  -- 65: a file too short for head, contents and arities, which are m bytes. Its length.
  pub file_short : (n m k q : ℕ) → Refuses (holds n m) k q ↔ ((k ≡ 65) × (q ≡ n) × (n < m))
  -- 88: over 256 programmes. Their number.
  pub programmes_many : (n k q : ℕ) → Refuses (few n) k q ↔ ((k ≡ 88) × (q ≡ n) × (256 < n))
  -- 67: numbers that do not rise strictly. The first that is not above the one before it: in the writer its place among the numbers, in
  -- the reader the first byte of its entry.
  pub not_rising : (ns : List ℕ) (k q : ℕ) → Refuses (rises 1 0 0 ns) k q ↔ ((k ≡ 67) × FirstNotAbove ns q)
  pub not_rising_in_file : (ns : List ℕ) (k q : ℕ) → Refuses (rises 12 4 0 ns) k q ↔ ((i : ℕ) × (k ≡ 67) × (q ≡ 4 + 12 * i) × FirstNotAbove ns i)
  -- 68 of the reader: a start that is not the next free byte, or a row past the end. The first byte of the first such entry. 69: bytes left
  -- over. The first of them.
  pub misplaced_in_file : (size next : ℕ) (es : List Entry) (k q : ℕ) → next ≤ size
      → Refuses (placed size 4 next es) k q
      ↔ (((i : ℕ) × (k ≡ 68) × (q ≡ 4 + 12 * i) × FirstMisplaced size next es i)
      ⊎ ((k ≡ 69) × (q ≡ end_of next es (length es)) × (q < size) × ((i : ℕ) → i < length es → Right size next es i)))
  -- 68 of the writer: lengths not as many as the numbers, or not adding up to the m symbols of the rows. How many these are.
  pub misplaced : (ns ls : List ℕ) (m k q : ℕ)
      → Refuses (lengths_fit ns ls m) k q ↔ ((k ≡ 68) × (q ≡ m) × ((length ls ≡ length ns → ⊥) ⊎ (total ls ≡ m → ⊥)))
  -- 4, 5, 7, 8, 9: the first row that is not one tree's, as the plain matcher refuses it, with the programme's number beside it
  pub row_faulty : (A : List ℕ) (ps : List Numbered) (x : Refusal)
      → (rows_fit A ps ≡ Err x) ↔ ((i : ℕ) × (f : Fault) × (x ≡ Programme (get_or (map number_of ps) i 0) f) × FirstFaulty A ps i f)
