-- What is handed back as a part of a lent row.
use Rattle.std.specs.Prelude.{ℕ, ◌+◌, ◌*◌, ◌<◌, ◌≡◌, List, [], length, get_or, Option, Some, None, Result, Ok, Err, ⊤}
use Rattle.rows.specs.Programme.{Alphabet, Programme}
use Rattle.rows.specs.Tree.{single, prefix, subtree_at}
use Rattle.rows.specs.Parse.{parse, table}
use Rattle.rows.specs.Buffers.{after}
use Rattle.patterns.specs.Answers.{MatchesAt}
use Rattle.checks.specs.Checks.{subtree_check, newer_check}
use Rattle.sparrowhem.specs.declared.parts.Newest.{Newest}
use Rattle.sparrowhem.specs.declared.parts.Newest.TheVariants.{Corrected, OnRecord as OnRecordAt, Nowhere}
use Rattle.rows.specs.declared.Refusal.{Refusal}

-- the row of the subtree at p; nothing where the call refuses
unfoldable pub subtree_part : Alphabet → Programme → ℕ → List ℕ
subtree_part a P p = after (subtree_check a P p) (prefix (single (subtree_at (parse a.arities P.row) p))) []

-- begin and end, or the refusal
abbrev pub placed : Result ⊤ Refusal → ℕ → ℕ → Result (ℕ × ℕ) Refusal
placed (Ok _) b e = Ok (b, e)
placed (Err r) b e = Err r

unfoldable pub subtree_answer : Alphabet → Programme → ℕ → Result (ℕ × ℕ) Refusal
subtree_answer a P p = placed (subtree_check a P p) p (get_or (table a.arities P.row) p 0)

-- A slice points to a byte of a block of memory, and each of its numbers takes two bytes. The part lies in the row itself, from
-- position b on.
abbrev pub LiesAt : ℕ × ℕ → ℕ → ℕ × ℕ → Type 0
LiesAt row b part = (part.0 ≡ row.0) × (part.1 ≡ b * 2 + row.1)

-- where the part of a subtree lies: from its begin on; an empty one at the row's front
abbrev pub SubtreeLies : Result (ℕ × ℕ) Refusal → ℕ × ℕ → ℕ × ℕ → Type 0
SubtreeLies (Ok (b, e)) row part = LiesAt row b part
SubtreeLies (Err r) row part = LiesAt row 0 part

-- the first match in the row w is at position p, and the subtree there ends at e
pub record FirstMatch (a : Alphabet) (w q : List ℕ) (p e : ℕ) : Type 0 where
  pub within : p < length w
  pub here : MatchesAt a w q p
  pub before : (k : ℕ) → k < p → MatchesAt a w q k → ⊥
  pub end : e ≡ get_or (table a.arities w) p 0

abbrev pub NoMatch : Alphabet → List ℕ → List ℕ → Type 0
NoMatch a w q = (k : ℕ) → k < length w → MatchesAt a w q k → ⊥

-- begin and end of the first match's subtree, or that there is none
abbrev pub FirstIs : Alphabet → List ℕ → List ℕ → Option (ℕ × ℕ) → Type 0
FirstIs a w q (Some (p, e)) = FirstMatch a w q p e
FirstIs a w q None = NoMatch a w q

-- what an answer says, for the corrected row in P and the row on record in O
abbrev pub NewestSays : Alphabet → Programme → Programme → List ℕ → Result Newest Refusal → Type 0
NewestSays a P O q (Ok (Corrected p e)) = (newer_check a P O q ≡ Ok tt) × FirstMatch a P.row q p e
NewestSays a P O q (Ok (OnRecordAt p e)) = (newer_check a P O q ≡ Ok tt) × NoMatch a P.row q × FirstMatch a O.row q p e
NewestSays a P O q (Ok Nowhere) = (newer_check a P O q ≡ Ok tt) × NoMatch a P.row q × NoMatch a O.row q
NewestSays a P O q (Err r) = newer_check a P O q ≡ Err r

-- the row of the subtree that an answer speaks of; nothing where it speaks of none
abbrev pub newest_part : Alphabet → Programme → Programme → Result Newest Refusal → List ℕ
newest_part a P O (Ok (Corrected p e)) = prefix (single (subtree_at (parse a.arities P.row) p))
newest_part a P O (Ok (OnRecordAt p e)) = prefix (single (subtree_at (parse a.arities O.row) p))
newest_part a P O (Ok Nowhere) = []
newest_part a P O (Err r) = []

-- the part `x` is that of an answer
pub record NewerPart (a : Alphabet) (P O : Programme) (q x : List ℕ) : Type 0 where
  pub answer : Result Newest Refusal
  pub says : NewestSays a P O q answer
  pub part : x ≡ newest_part a P O answer

-- where the part of an answer lies, by where the two rows do: in the row that the answer names, from the position on; an empty
-- one at the front of the corrected row
abbrev pub NewestLies : Result Newest Refusal → ℕ × ℕ → ℕ × ℕ → ℕ × ℕ → Type 0
NewestLies (Ok (Corrected p e)) corrected older part = LiesAt corrected p part
NewestLies (Ok (OnRecordAt p e)) corrected older part = LiesAt older p part
NewestLies (Ok Nowhere) corrected older part = LiesAt corrected 0 part
NewestLies (Err r) corrected older part = LiesAt corrected 0 part

pub record NewerLies (a : Alphabet) (P O : Programme) (q : List ℕ) (corrected older part : ℕ × ℕ) : Type 0 where
  pub answer : Result Newest Refusal
  pub says : NewestSays a P O q answer
  pub lies : NewestLies answer corrected older part
