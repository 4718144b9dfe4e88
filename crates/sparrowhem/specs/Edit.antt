-- What replace answers, and what it leaves in the row's buffer and beside it.
use Rattle.std.specs.Prelude.{ℕ, ◌≡◌, List, pos, ◌-ℤ◌, ℤ, Result, Ok, Err, ⊤}
use Rattle.rows.specs.Limits.{freed_symbol, freed_entry, freed_class}
use Rattle.rows.specs.Programme.{Alphabet, Programme, front}
use Rattle.rows.specs.Tree.{Forest, size, prefix, ends}
use Rattle.rows.specs.Classes.{classes_of}
use Rattle.rows.specs.Buffers.{after}
use Rattle.buffers.specs.Renewed.{renewed}
use Rattle.edits.specs.Put.{changed}
use Rattle.checks.specs.Checks.{replace_check}
use Rattle.rows.specs.declared.Refusal.{Refusal}

-- the tree of the first n symbols once the subtree at p has given way to that of the row `v`
abbrev pub new_tree : Alphabet → Programme → ℕ → List ℕ → ℕ → Forest
new_tree a P n v p = changed a.arities (front n P).row p v

-- the row, the table and the classes of the tree f; the places that are freed are marked, and what stood behind them stays
abbrev pub holding : Programme → ℕ → Forest → Programme
holding P n f =
    record {
      row = renewed P.row n freed_symbol (prefix f);
      table = renewed P.table n freed_entry (ends 0 f);
      classes = renewed P.classes n freed_class (classes_of f);
    }

-- the new length m and how much it is over the old one; or the refusal
abbrev pub answered : Result ⊤ Refusal → ℕ → ℕ → Result (ℕ × ℤ) Refusal
answered (Ok _) m n = Ok (m, (pos m -ℤ pos n))
answered (Err r) m n = Err r

-- `r` answers a replacement by the row `v` at position p of the row of the first n places of its buffer; `P'` is what the lists hold
-- afterwards
pub record Replacement (a : Alphabet) (P : Programme) (n : ℕ) (v : List ℕ) (p : ℕ) (r : Result (ℕ × ℤ) Refusal) (P' : Programme) : Type 0 where
  pub answer : r ≡ answered (replace_check a P n v p) (size (new_tree a P n v p)) n
  pub lists : P' ≡ after (replace_check a P n v p) (holding P n (new_tree a P n v p)) P
