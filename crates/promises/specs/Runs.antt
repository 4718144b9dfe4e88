-- Runs of replacements: one call after another on the same lists, and what they make of the tree.
use Rattle.std.specs.Prelude.{ℕ, ◌≡◌, List, [], ◌∷◌, ℤ, Result, Ok, Err}
use Rattle.rows.specs.Programme.{Alphabet, Programme}
use Rattle.rows.specs.Tree.{Forest}
use Rattle.rows.specs.Parse.{tree_of}
use Rattle.edits.specs.Put.{put}
use Rattle.sparrowhem.specs.Edit.{Replacement}
use Rattle.rows.specs.declared.Refusal.{Refusal}

-- What a caller holds between two calls: the lists, and the row length that was last answered.
pub record State : Type 0 where
  pub lists : Programme
  pub length : ℕ

-- A call of replace, with any row length, and its answer.
pub record Call : Type 0 where
  pub length : ℕ
  pub replacement : List ℕ
  pub position : ℕ
  pub answer : Result (ℕ × ℤ) Refusal

-- the row length to go on with: the one answered, or after a refusal the old one
abbrev pub length_after : ℕ → Result (ℕ × ℤ) Refusal → ℕ
length_after n (Ok (m, change)) = m
length_after n (Err r) = n

-- the call leads from the one state to the other
pub record Step (a : Alphabet) (s : State) (c : Call) (s' : State) : Type 0 where
  pub outcome : Replacement a s.lists c.length c.replacement c.position c.answer s'.lists
  pub goes_on : s'.length ≡ length_after s.length c.answer

-- the calls, one after the other, lead from the one state to the other
unfoldable pub Run : Alphabet → State → List Call → State → Type 0
Run a s [] s' = s' ≡ s
Run a s (c ∷ cs) s' = (m : State) × Step a s c m × Run a m cs s'

-- what a call makes of the tree: the same replacement, or nothing if it was refused
abbrev pub edit : List ℕ → Forest → ℕ → List ℕ → Result (ℕ × ℤ) Refusal → Forest
edit A f p v (Ok (m, change)) = put f p (tree_of A v)
edit A f p v (Err r) = f

unfoldable pub edits : List ℕ → Forest → List Call → Forest
edits A f [] = f
edits A f (c ∷ cs) = edits A (edit A f c.position c.replacement c.answer) cs
