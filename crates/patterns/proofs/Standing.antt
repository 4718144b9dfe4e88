-- Forests that stand at a position of a row with its table.
-- Assumes nothing.
use Prim.Native.Nat.{ℕ, zero, suc, ◌+◌, ◌-◌, ◌<◌}
use mathlib.Core.Path.{◌≡◌, sym, ap, ◌∙◌, subst, subst₂}
use mathlib.Core.List.{List, [], ◌∷◌, ◌++◌, append_assoc, append-nil}
use native.Mathlib.Omega.{arith}
use native.Mathlib.Nat.{add-zero, zero-add}
use native.Mathlib.Decide.{dec_lt}
use lib.ListN.{get_or, length, take, drop, take-append-drop, get_or-append}
use lib.Seq.{drop-drop, drop-append_seam, get_or-drop, get_or-append-add, take_at}
use Rattle.rows.specs.Tree.{Forest, Forest.none, Forest.grow, Tree, single, size, prefix, ends, Ranked, subtrees, subtree_at}
use Rattle.rows.specs.Parse.{parse, table}
use Rattle.rows.specs.Row.{symbol}
use Rattle.rows.proofs.Tree.{beside, length-prefix, length-ends}
use Rattle.rows.proofs.Parse.{prefix-parse, size-parse, parse-beside}
use Rattle.rows.proofs.Accept.{ranked_parse}
use Rattle.rows.proofs.Subtrees.{length-subtrees}
use Rattle.tables.specs.Given.{Right}

-- a list that starts with `a` at position j goes on after it at j + length a
drop_on : (l a b : List ℕ) (j : ℕ) → drop j l ≡ a ++ b → drop (j + length a) l ≡ b
drop_on l a b j q = sym (drop-drop (length a) j l) ∙ ap (λ (m : List ℕ). drop (length a) m) q ∙ drop-append_seam a b

drop_head : (l b : List ℕ) (j x : ℕ) → drop j l ≡ x ∷ b → get_or l j 0 ≡ x
drop_head l b j x q = ap (λ (k : ℕ). get_or l k 0) (sym (add-zero j)) ∙ sym (get_or-drop j l 0 0) ∙ ap (λ (m : List ℕ). get_or m 0 0) q

drop_next : (l b : List ℕ) (j x : ℕ) → drop j l ≡ x ∷ b → drop (j + 1) l ≡ b
drop_next l b j x q = drop_on l (x ∷ []) b j q

-- in the row w with the table e the forest F stands at position j
pub record Stands (w e : List ℕ) (j : ℕ) (F : Forest) : Type 0 where
  pub more : List ℕ
  pub later : List ℕ
  pub row : drop j w ≡ prefix F ++ more
  pub table : drop j e ≡ ends j F ++ later

module _ (w e : List ℕ) (j s : ℕ) (cs f : Forest) (h : Stands w e j (grow s cs f)) where
  row_on : drop j w ≡ s ∷ (prefix cs ++ (prefix f ++ h.more))
  unfolding prefix
  row_on = h.row ∙ ap (λ (m : List ℕ). s ∷ m) (append_assoc (prefix cs) (prefix f) h.more)

  table_on : drop j e ≡ (j + size cs + 1) ∷ (ends (j + 1) cs ++ (ends (j + size cs + 1) f ++ h.later))
  unfolding ends
  table_on = h.table ∙ ap (λ (m : List ℕ). (j + size cs + 1) ∷ m) (append_assoc (ends (j + 1) cs) (ends (j + size cs + 1) f) h.later)

  pub stands_symbol : get_or w j 0 ≡ s
  stands_symbol = drop_head w _ j s row_on

  pub stands_end : get_or e j 0 ≡ j + size cs + 1
  stands_end = drop_head e _ j _ table_on

  pub stands_children : Stands w e (j + 1) cs
  stands_children = record {
    more = prefix f ++ h.more;
    later = ends (j + size cs + 1) f ++ h.later;
    row = drop_next w _ j s row_on;
    table = drop_next e _ j _ table_on;
  }

  pub stands_siblings : Stands w e (j + size cs + 1) f
  unfolding stands_children
  stands_siblings = record {
    more = h.more;
    later = h.later;
    row = subst (λ (k : ℕ). drop k w ≡ prefix f ++ h.more) (place (length-prefix cs)) (drop_on w (prefix cs) _ (j + 1) stands_children.row);
    table = subst (λ (k : ℕ). drop k e ≡ ends (j + size cs + 1) f ++ h.later) (place (length-ends (j + 1) cs)) (drop_on e (ends (j + 1) cs) _ (j + 1) stands_children.table);
  }
    where
      place : {n : ℕ} → n ≡ size cs → j + 1 + n ≡ j + size cs + 1
      place q = omega arith

  -- the first tree of the forest stands there alone
  pub stands_first : Stands w e j (grow s cs none)
  unfolding prefix ends
  stands_first = record {
    more = prefix f ++ h.more;
    later = ends (j + size cs + 1) f ++ h.later;
    row = row_on ∙ ap (λ (m : List ℕ). s ∷ m) (sym (append_assoc (prefix cs) [] (prefix f ++ h.more)));
    table = table_on ∙ ap (λ (m : List ℕ). (j + size cs + 1) ∷ m) (sym (append_assoc (ends (j + 1) cs) [] (ends (j + size cs + 1) f ++ h.later)));
  }

-- a ranked tree that stands at a position of a row with its table
pub record Planted (A : List ℕ) (w e : List ℕ) (j : ℕ) (t : Tree) : Type 0 where
  pub stands : Stands w e j (single t)
  pub ranked : Ranked A (symbol A) (single t)

module _ (A w e : List ℕ) where
  -- the symbols of a planted tree, up to the end that the table has
  pub planted_row : (j : ℕ) (t : Tree) → Planted A w e j t → take (get_or e j 0 - j) (drop j w) ≡ prefix (single t)
  unfolding size
  planted_row j t h =
      let n : get_or e j 0 - j ≡ size (single t) = rw (stands_end w e j t.symbol t.children none h.stands) (omega arith) in
      rw (n, h.stands.row) (take_at (prefix (single t)) h.stands.more (size (single t)) (length-prefix (single t)))

  -- a tree whose row stands at a position is the one that is planted there
  pub planted_is : (j : ℕ) (t u : Tree) (more : List ℕ) → Planted A w e j t → Ranked A (symbol A) (single u) → drop j w ≡ prefix (single u) ++ more → t ≡ u
  unfolding beside
  planted_is j t u more p r q =
      let e : beside (single t) (parse A p.stands.more) ≡ beside (single u) (parse A more) =
      sym (parse-beside A (symbol A) (single t) p.stands.more p.ranked) ∙ ap (parse A) (sym p.stands.row ∙ q) ∙ parse-beside A (symbol A) (single u) more r in
      let sy : t.symbol ≡ u.symbol = cc in
      let ch : t.children ≡ u.children = cc in
      λ i. record { symbol = sy i; children = ch i }

  pub planted_once : (j : ℕ) (t u : Tree) → Planted A w e j t → Planted A w e j u → t ≡ u
  planted_once j t u p r = planted_is j t u r.stands.more p r.ranked r.stands.row

  -- the subtree at place k of a forest stands k places further on in the row
  planted : (d : Tree) (F : Forest) (j k : ℕ) → Stands w e j F → Ranked A (symbol A) F → k < size F → Planted A w e (j + k) (get_or (subtrees F) k d)
  unfolding size subtrees Ranked
  planted d none j k h r l = absurd (omega arith)
  planted d (grow s cs f) j zero h r l =
      record {
        stands = subst (λ (n : ℕ). Stands w e n (grow s cs none)) (sym (add-zero j)) (stands_first w e j s cs f h);
        ranked = (r.0, r.1, r.2, tt);
      }
  planted d (grow s cs f) j (suc k) h r l =
      pick (dec_lt k (size cs)) (planted d cs (j + 1) k (stands_children w e j s cs f h) r.2)
      (planted d f (j + size cs + 1) (k - size cs) (stands_siblings w e j s cs f h) r.3)
    where
      pick : Dec (k < size cs) → (k < size cs → Planted A w e (j + 1 + k) (get_or (subtrees cs) k d))
          → (k - size cs < size f → Planted A w e (j + size cs + 1 + (k - size cs)) (get_or (subtrees f) (k - size cs) d))
          → Planted A w e (j + suc k) (get_or (subtrees cs ++ subtrees f) k d)
      pick (yes m) a b =
          let n : length (subtrees cs) ≡ size cs = length-subtrees cs in
          subst₂ (λ (i : ℕ) (t : Tree). Planted A w e i t) (omega arith) (sym (get_or-append (subtrees cs) (subtrees f) d k (omega arith))) (a m)
      pick (no m) a b =
          let n : length (subtrees cs) ≡ size cs = length-subtrees cs in
          let i : length (subtrees cs) + (k - size cs) ≡ k = omega arith in
          subst₂ (λ (i : ℕ) (t : Tree). Planted A w e i t) (omega arith)
          (sym (get_or-append-add (subtrees cs) (subtrees f) (k - size cs) d) ∙ ap (λ (i : ℕ). get_or (subtrees cs ++ subtrees f) i d) i) (b (omega arith))

  -- in a row with its table the subtree at p is planted at p
  pub planted_at : Right A w e → (p : ℕ) → p < length w → Planted A w e p (subtree_at (parse A w) p)
  unfolding table
  planted_at r p l =
      subst (λ (n : ℕ). Planted A w e n (subtree_at (parse A w) p)) (zero-add p)
      (planted _ (parse A w) 0 p root (ranked_parse A (symbol A) w 1 0 r.accepted) (let n = size-parse A w in omega arith))
    where
      root : Stands w e 0 (parse A w)
      root = record {
        more = [];
        later = drop (length w) e;
        row = sym (append-nil (prefix (parse A w)) ∙ prefix-parse A w);
        table = sym (take-append-drop (length w) e) ∙ ap (λ (l : List ℕ). l ++ drop (length w) e) r.right;
      }
