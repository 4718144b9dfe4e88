-- Runs of exported replacements: one call after another on the same bytes, and what they make of the tree.
use Rattle.std.specs.Prelude.{ℕ, ◌≡◌, List, [], ◌∷◌, eqb}
use Rattle.rows.specs.Programme.{Alphabet}
use Rattle.rows.specs.Row.{pick}
use Rattle.rows.specs.Tree.{Forest}
use Rattle.rows.specs.Parse.{tree_of}
use Rattle.edits.specs.Put.{put}
use Rattle.promises.specs.Runs.{State}
use Rattle.c_lent.specs.Lent.{Lent, numbers_of}
use Rattle.c_lent.specs.Calls.{ReplacedBytes}
use Rattle.c_lent.specs.declared.Answer.{Answer}

-- What a caller holds between two calls: the bytes, and the row length that was last answered.
pub record StateForC : Type 0 where
  pub lists : Lent
  pub length : ℕ

-- the same, with the numbers that the bytes hold
abbrev pub held_numbers : StateForC → State
held_numbers s = record { lists = numbers_of s.lists; length = s.length }

-- A call of the exported replace, with any row length; the replacement's numbers; and the answer.
pub record CallForC : Type 0 where
  pub length : ℕ
  pub replacement : List ℕ
  pub position : ℕ
  pub answer : Answer

-- the one if the answer's refusal is 0, else the other
abbrev pub if_answered {ℓ} : {X : Type ℓ} → Answer → X → X → X
if_answered r new old = pick (eqb r.refusal 0) new old

-- the call leads from the one state to the other; the row length to go on with is the answer's count, or after a refusal the old one
pub record StepForC (a : Alphabet) (s : StateForC) (c : CallForC) (s' : StateForC) : Type 0 where
  pub outcome : ReplacedBytes a s.lists c.length c.replacement c.position c.answer s'.lists
  pub goes_on : s'.length ≡ if_answered c.answer c.answer.count s.length

-- the calls, one after the other, lead from the one state to the other
unfoldable pub RunForC : Alphabet → StateForC → List CallForC → StateForC → Type 0
RunForC a s [] s' = s' ≡ s
RunForC a s (c ∷ cs) s' = (m : StateForC) × StepForC a s c m × RunForC a m cs s'

-- what the calls make of the tree: the same replacements, but for those that were refused
unfoldable pub edits_for_c : List ℕ → Forest → List CallForC → Forest
edits_for_c A f [] = f
edits_for_c A f (c ∷ cs) = edits_for_c A (if_answered c.answer (put f c.position (tree_of A c.replacement)) f) cs
