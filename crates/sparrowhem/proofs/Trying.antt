-- What the plain matcher tries: a part of the row that the pattern can be tried at.
-- Assumes nothing.
use Rattle.std.specs.Prelude.{Bool, Result, Ok, Err, ⊤, is_ok}
use Prim.Native.Nat.{ℕ, ◌<◌}
use mathlib.Core.Path.{◌≡◌, sym, ap, ◌∙◌, subst}
use mathlib.Core.List.{List}
use native.Mathlib.Nat.{add-zero}
use native.Mathlib.Omega.{arith}
use lib.ListN.{length, get_or, drop, length-drop}
use lib.Seq.{get_or-drop}
use Rattle.rows.specs.Programme.{Alphabet}
use Rattle.rows.specs.Tree.{Forest.none, Tree, subtree_at, subtrees}
use Rattle.rows.specs.Parse.{parse, tree_of, behind}
use Rattle.rows.specs.Row.{symbol}
use Rattle.rows.proofs.Accept.{ranked_parse}
use Rattle.rows.proofs.Entry.{behind_some}
use Rattle.rows.proofs.Subtrees.{drop-subtrees}
use Rattle.patterns.specs.Pattern.{Match}
use Rattle.patterns.specs.Answers.{MatchesAt}
use Rattle.plain.specs.Plain.{Tryable, TriesRight}
use Rattle.checks.specs.Checks.{plain_check}
use Rattle.sparrowhem.specs.Plain.{PlainSays}
use Rattle.plain.proofs.Spelling.{tail, tail_is, ranked_drop}
use Rattle.checks.proofs.Passing.{Open}

-- the tree of the part from p on is the subtree at p
pub tree_there : (A w : List ℕ) (p : ℕ) → p < length w → tree_of A (drop p w) ≡ subtree_at (parse A w) p
unfolding behind
tree_there A w p h =
    let bud : Tree = record { symbol = 0; children = none } in
    ap (λ (l : List Tree). get_or l 0 bud) (sym (drop-subtrees A w p (omega arith)))
    ∙ get_or-drop p (subtrees (parse A w)) 0 bud
    ∙ ap (λ (n : ℕ). get_or (subtrees (parse A w)) n bud) (add-zero p)

module _ (a : Alphabet) (w q : List ℕ) (p : ℕ) (o : Open a w q p) where
  pub open_tryable : Tryable a (tail w p) q
  unfolding behind
  open_tryable =
      subst (λ (l : List ℕ). Tryable a l q) (sym (tail_is w p))
      (record {
        few = o.few;
        most = omega (arith, o.most, length-drop p w);
        row =
            record {
              ranked = ranked_drop a.arities (symbol a.arities) p w (ranked_parse a.arities (symbol a.arities) w 1 0 o.accepted);
              many = behind_some a.arities w p o.below;
            };
        pattern = o.pattern;
      })

  -- the pattern matches there exactly if it matches the tree of the part
  pub there : Match (tree_of a.arities q) (tree_of a.arities (tail w p)) ≡ MatchesAt a w q p
  there = ap (Match (tree_of a.arities q)) (ap (tree_of a.arities) (tail_is w p) ∙ tree_there a.arities w p o.below)

  -- what is tried tells
  pub plain_tried : plain_check a w q p ≡ Ok tt → (r : Result ⊤ (ℕ × ℕ)) → TriesRight a (tail w p) q r → (b : Bool) → b ≡ is_ok r → PlainSays a w q p (Ok b)
  plain_tried e r t b z = subst (λ (x : Bool). PlainSays a w q p (Ok x)) (sym z) (go r t)
    where
      go : (r : Result ⊤ (ℕ × ℕ)) → TriesRight a (tail w p) q r → PlainSays a w q p (Ok (is_ok r))
      go (Ok _) t = (e, subst (λ (X : Type 0). X) there t)
      go (Err k) t = (e, subst (λ (X : Type 0). X → ⊥) there t.0)
