-- What an answer of the companion of `subtree` tells.
-- Assumes nothing.
use Rattle.std.specs.Prelude.{Result, Ok, Err, ⊤}
use Prim.Native.Nat.{ℕ, ◌-◌, ◌<◌, ◌≤◌}
use mathlib.Core.Path.{◌≡◌, refl, ap, ◌∙◌}
use mathlib.Core.List.{[]}
use native.Mathlib.Omega.{arith}
use lib.ListN.{length, get_or, take, drop}
use Rattle.rows.specs.Programme.{Alphabet, Programme}
use Rattle.rows.specs.Tree.{single, prefix, subtree_at}
use Rattle.rows.specs.Parse.{parse, table}
use Rattle.rows.specs.Buffers.{after}
use Rattle.rows.specs.declared.Refusal.{Refusal}
use Rattle.rows.proofs.Entry.{entry_bounds}
use Rattle.rows.proofs.Subtrees.{subtree_row}
use Rattle.checks.specs.Checks.{subtree_check}
use Rattle.checks.proofs.Passing.{subtree_stands}
use Rattle.sparrowhem.specs.Parts.{subtree_part, subtree_answer, placed}

-- a span answers: it is that of the subtree at p
pub record Spans (a : Alphabet) (P : Programme) (p b e : ℕ) : Type 0 where
  pub fine : subtree_check a P p ≡ Ok tt
  pub begin : b ≡ p
  pub end : e ≡ get_or (table a.arities P.row) p 0

pub answer_span : (a : Alphabet) (P : Programme) (p b e : ℕ) → subtree_answer a P p ≡ Ok (b, e) → Spans a P p b e
unfolding subtree_answer
answer_span a P p b e h = go (subtree_check a P p) refl h
  where
    go : (c : Result ⊤ Refusal) → subtree_check a P p ≡ c → placed c p (get_or (table a.arities P.row) p 0) ≡ Ok (b, e) → Spans a P p b e
    go (Ok _) f h =
        let same : ◌≡◌ {A = ℕ × ℕ} (b, e) (p, get_or (table a.arities P.row) p 0) = cc in
        record { fine = f; begin = ap (λ (x : ℕ × ℕ). x.0) same; end = ap (λ (x : ℕ × ℕ). x.1) same }
    go (Err r) f h = let z : ◌≡◌ {A = ℕ} 0 1 = cc in absurd (omega arith)

-- it lies within the row
pub span_within : (a : Alphabet) (P : Programme) (p b e : ℕ) → Spans a P p b e → (b < e) × (e ≤ length P.row)
span_within a P p b e s =
    let bounds = entry_bounds a.arities P.row p (subtree_stands a P p s.fine).below in
    (omega (arith, s.begin, s.end), omega (arith, s.end))

pub span_part : (a : Alphabet) (P : Programme) (p b e : ℕ) → Spans a P p b e → subtree_part a P p ≡ take (e - b) (drop b P.row)
unfolding subtree_part
span_part a P p b e s =
    ap (λ (c : Result ⊤ Refusal). after c (prefix (single (subtree_at (parse a.arities P.row) p))) []) s.fine
    ∙ subtree_row a.arities P.row p (subtree_stands a P p s.fine).below
    ∙ simp (s.begin, s.end)

pub answer_none : (a : Alphabet) (P : Programme) (p : ℕ) (r : Refusal) → subtree_answer a P p ≡ Err r → subtree_part a P p ≡ []
unfolding subtree_answer subtree_part
answer_none a P p r h = go (subtree_check a P p) refl h
  where
    go : (c : Result ⊤ Refusal) → subtree_check a P p ≡ c → placed c p (get_or (table a.arities P.row) p 0) ≡ Err r
        → after (subtree_check a P p) (prefix (single (subtree_at (parse a.arities P.row) p))) [] ≡ []
    go (Ok _) f h = let z : ◌≡◌ {A = ℕ} 0 1 = cc in absurd (omega arith)
    go (Err q) f h = simp f
