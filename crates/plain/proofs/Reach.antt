-- Reading a tree off the rest of a row from left to right, counting the symbols that are due.
-- Assumes nothing.
use Prim.Native.Nat.{ℕ, suc, ◌+◌, ◌-◌, ◌≤◌, ◌<◌}
use mathlib.Core.Path.{◌≡◌, sym, ap, ◌∙◌, subst}
use mathlib.Core.List.{List}
use native.Mathlib.Nat.{add-zero, zero-add}
use native.Mathlib.Omega.{arith}
use lib.Dec.{T, ltb→lt}
use lib.ListN.{length, get_or, drop, length-drop}
use Rattle.rows.specs.Tree.{Forest, size}
use Rattle.rows.specs.Parse.{first, over, parse, behind}
use Rattle.rows.specs.Row.{symbol}
use Rattle.rows.proofs.Scan.{drop_more}
use Rattle.rows.proofs.Behind.{behind-over}
use Rattle.plain.specs.Plain.{Spells, Counting, reach}
use Rattle.plain.proofs.Spelling.{size_add, spells_fits, spells_next}

pub reach_start : (A w : List ℕ) → reach A w 1 0 ≡ size (first 1 (parse A w))
unfolding reach behind
reach_start A w = zero-add (size (first 1 (parse A w)))

-- no tree is to come
pub reach_none : (A w : List ℕ) (i : ℕ) → reach A w 0 i ≡ i
unfolding reach first size
reach_none A w i = add-zero i

-- one symbol on: its children are to come in its place
pub reach_more : (A w : List ℕ) (n i : ℕ) → 0 < n → i < length w → reach A w n i ≡ reach A w (n - 1 + get_or A (get_or w i 0) 0) (i + 1)
unfolding reach over first size
reach_more A w n i some h =
    let a : ℕ = get_or A (get_or w i 0) 0 in
    let g : Forest = behind A w (i + 1) in
    let down : n ≡ suc (n - 1) = omega arith in
    let turn : n - 1 + a ≡ a + (n - 1) = omega arith in
    ap (λ (m : ℕ). i + size (first m (behind A w i))) down
    ∙ ap (λ (f : Forest). i + size (first (suc (n - 1)) f)) (behind-over A w i h)
    ∙ omega (arith, size_add a (n - 1) g, ap (λ (m : ℕ). size (first m g)) turn)

-- a tree that is to be counted
pub counting_start : (A w : List ℕ) → Spells A (symbol A) 1 w → Counting A w 0 1
counting_start A w s =
    record { on = omega arith; within = spells_fits A (symbol A) 1 w s; trees = s; ends = reach_start A w }

-- all of it is counted
pub counting_end : (A w : List ℕ) (i due : ℕ) → Counting A w i due → due ≤ i → i ≡ size (first 1 (parse A w))
counting_end A w i due c h =
    let none : 0 ≡ due - i = omega arith in
    sym (reach_none A w i) ∙ ap (λ (n : ℕ). reach A w n i) none ∙ c.ends

-- while symbols are due, one stands there: it is one of the alphabet, and its children are due in its place
module _ (A w : List ℕ) (i due : ℕ) (c : Counting A w i due) (h : i < due) where
  pub counting_inside : i < length w
  counting_inside = omega (arith, c.within)

  next : T (symbol A (get_or w i 0)) × Spells A (symbol A) (due - i - 1 + get_or A (get_or w i 0) 0) (drop (i + 1) w)
  next =
      spells_next A (symbol A) (due - i) (get_or w i 0) (drop (i + 1) w) (omega arith)
      (subst (Spells A (symbol A) (due - i)) (drop_more w i counting_inside) c.trees)

  pub counting_symbol : get_or w i 0 < length A
  counting_symbol = ltb→lt (get_or w i 0) (length A) next.0

  pub counting_next : Counting A w (i + 1) (due + get_or A (get_or w i 0) 0)
  counting_next =
      let same : due - i - 1 + get_or A (get_or w i 0) 0 ≡ due + get_or A (get_or w i 0) 0 - (i + 1) = omega arith in
      let trees : Spells A (symbol A) (due + get_or A (get_or w i 0) 0 - (i + 1)) (drop (i + 1) w) =
      subst (λ (n : ℕ). Spells A (symbol A) n (drop (i + 1) w)) same next.1 in
      record {
        on = omega arith;
        within = omega (arith, counting_inside, spells_fits A (symbol A) _ _ trees, length-drop (i + 1) w);
        trees = trees;
        ends =
            ap (λ (n : ℕ). reach A w n (i + 1)) (sym same)
            ∙ sym (reach_more A w (due - i) i (omega arith) counting_inside)
            ∙ c.ends;
      }
