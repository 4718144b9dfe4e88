-- How the bar form of a row is written, from left to right: what is still to be written, and what a turn of the loop writes.
-- Assumes nothing.
use Rattle.std.specs.Prelude.{Ok}
use Prim.Native.Nat.{ℕ, zero, suc, ◌+◌, ◌-◌, ◌≤◌, ◌<◌}
use mathlib.Core.Path.{◌≡◌, refl, sym, ap, ap₂, ◌∙◌}
use mathlib.Core.List.{List, [], ◌∷◌, ◌++◌, append_assoc}
use native.Mathlib.Nat.{zero-add}
use native.Mathlib.Omega.{arith}
use lib.Dec.{ltb→lt}
use lib.ListN.{length, get_or, take, drop, set, length-drop, length-set}
use lib.Seq.{take_all, set-set, drop-set-lt, length-take-le}
use Rattle.rows.specs.Tree.{Forest, Forest.none, count}
use Rattle.rows.specs.Parse.{first, rest, over, behind}
use Rattle.rows.specs.Reading.{Accepted}
use Rattle.rows.specs.Row.{symbol, allowed, verdict}
use Rattle.rows.specs.declared.Leaves.TheVariants.{Symbols}
use Rattle.rows.specs.Buffers.{written}
use Rattle.rows.proofs.Tree.{no_trees, count-rest}
use Rattle.rows.proofs.Behind.{few-behind, behind-over, count-behind, enough_behind}
use Rattle.rows.proofs.Accept.{picked, count-parse, whole_drop}
use Rattle.rows.proofs.Scan.{drop_more}
use Rattle.rows.proofs.Buffers.{written_nil}
use Rattle.buffers.proofs.Written.{turn}
use Rattle.rows.specs.Limits.{bar}
use Rattle.bars.specs.Bars.{bar_form, bars_of}
use Rattle.bars.proofs.Lacking.{lacking, lacking_top, lacking_more, lacking_child}

-- what is still to be written where the open nodes lack so many children, the innermost first, and the trees g stand behind
unfoldable pub due : List ℕ → Forest → List ℕ
due [] g = []
due (k ∷ ks) g = bar_form (first k g) ++ (bar ∷ due ks (rest k g))

-- how many children the open nodes lack in all
unfoldable pub total : List ℕ → ℕ
total [] = 0
total (k ∷ ks) = k + total ks

due_bar : (ks : List ℕ) (g : Forest) → due (0 ∷ ks) g ≡ bar ∷ due ks g
unfolding due first rest bar_form
due_bar ks g = refl

due_symbol : (k : ℕ) (ks : List ℕ) (s a : ℕ) (g : Forest) → due (suc k ∷ ks) (over s a g) ≡ s ∷ due (a ∷ (k ∷ ks)) g
unfolding due first rest bar_form over
due_symbol k ks s a g =
    ap (λ (l : List ℕ). s ∷ l) (append_assoc (bar_form (first a g)) (bar ∷ bar_form (first k (rest a g))) (bar ∷ due ks (rest k (rest a g))))

-- a list from a place on, taken apart
pub record Next (l : List ℕ) (at x : ℕ) (m : List ℕ) : Type 0 where
  pub below : at < length l
  pub here : get_or l at 0 ≡ x
  pub later : drop (at + 1) l ≡ m

pub next : (l : List ℕ) (at x : ℕ) (m : List ℕ) → drop at l ≡ x ∷ m → Next l at x m
next l at x m e =
    let below : at < length l = omega (arith, length-drop at l, ap length e) in
    let both : get_or l at 0 ∷ drop (at + 1) l ≡ x ∷ m = sym (drop_more l at below) ∙ e in
    record { below = below; here = cc; later = cc }

-- what a turn writes; and the first number, which is written before the loop
pub write_turn : (b v l : List ℕ) (at x : ℕ) → l ≡ written b 0 (take at v) → get_or v at 0 ≡ x → at < length v → length v ≤ length b
    → set l at x ≡ written b 0 (take (at + 1) v)
write_turn b v l at x e here below room =
    ap₂ (λ (m : List ℕ) (y : ℕ). set m at y) e (sym here) ∙ rw zero-add at (turn b 0 v at below (omega arith))

pub first-written : (b v : List ℕ) (x : ℕ) → get_or v 0 0 ≡ x → 0 < length v → length v ≤ length b → set b 0 x ≡ written (set b 0 x) 0 (take 1 v)
first-written b v x e some room =
    sym (set-set b 0 x x)
    ∙ write_turn (set b 0 x) v (set b 0 x) 0 x (sym (written_nil (set b 0 x) 0)) e some (omega (arith, length-set b 0 x))

pub written_again : (b v : List ℕ) (x : ℕ) → 0 < length v → written (set b 0 x) 0 v ≡ written b 0 v
unfolding written
written_again b v x some = ap (λ (d : List ℕ). v ++ d) (drop-set-lt (0 + length v) b 0 x (omega arith))

-- each number of an accepted row is a symbol
symbol-first : (A : List ℕ) (s : ℕ) (w : List ℕ) (k at : ℕ) → verdict A (allowed Symbols A) k at (s ∷ w) ≡ Ok tt → s < length A
unfolding verdict
symbol-first A s w zero at e = let z : ◌≡◌ {A = ℕ} 0 1 = cc in absurd (omega arith)
symbol-first A s w (suc k) at e = ltb→lt s (length A) (picked (symbol A s) _ at e).0

pub symbol_at : (A w : List ℕ) (p : ℕ) → Accepted A w → p < length w → get_or w p 0 < length A
symbol_at A w p acc h =
    let d = whole_drop A (allowed Symbols A) p w 1 0 acc in
    symbol-first A (get_or w p 0) (drop (p + 1) w) d.0 d.1
    (ap (verdict A (allowed Symbols A) d.0 d.1) (sym (drop_more w p h)) ∙ d.2)

-- an accepted row has a root, with which its bar form begins
pub some_row : (A w : List ℕ) → Accepted A w → 0 < length w
unfolding behind
some_row A w acc = omega (arith, few-behind A w 0 (omega arith), count-parse A (allowed Symbols A) w 1 0 acc)

pub begins : (A w : List ℕ) → 0 < length w → get_or (bars_of A w) 0 0 ≡ get_or w 0 0
unfolding bars_of behind over bar_form
begins A w some = ap (λ (f : Forest). get_or (bar_form f) 0 0) (behind-over A w 0 some)

-- The state of the loop: the row is read up to p, `depth` nodes are open, the list l tells how many children each lacks, and the
-- bar form is written up to `at`.
pub record Midway (A w l : List ℕ) (depth p at : ℕ) : Type 0 where
  pub within : p ≤ length w
  pub shallow : depth ≤ p
  pub counted : total (lacking l depth) ≡ count (behind A w p)
  pub left : drop at (bars_of A w) ≡ due (lacking l depth) (behind A w p)

-- the root is written and open
pub midway_root : (A w l : List ℕ) → Accepted A w → 0 < length l → Midway A w (set l 0 (get_or A (get_or w 0 0) 0)) 1 1 1
unfolding bars_of behind due total over bar_form lacking
midway_root A w l acc room =
    let a = get_or A (get_or w 0 0) 0 in
    let g = behind A w 1 in
    let some = some_row A w acc in
    let one : count (behind A w 0) ≡ 1 = count-parse A (allowed Symbols A) w 1 0 acc in
    let top : lacking (set l 0 a) 1 ≡ a ∷ [] = lacking_more l 0 a room in
    let deep = enough_behind A (allowed Symbols A) w 1 0 acc 0 some in
    let all : count g ≡ a = omega (arith, count-behind A w 0 some deep, one) in
    let nothing : rest a g ≡ none = no_trees (rest a g) (omega (arith, count-rest a g deep, all)) in
    record {
      within = some;
      shallow = omega arith;
      counted = ap total top ∙ omega (arith, all);
      left = ap (λ (f : Forest). drop 1 (bar_form f)) (behind-over A w 0 some)
          ∙ ap (λ (f : Forest). bar_form (first a g) ++ (bar ∷ bar_form f)) nothing
          ∙ ap (λ (ks : List ℕ). due ks g) (sym top);
    }

module _ (A w l : List ℕ) (depth p at : ℕ) (m : Midway A w l depth p at) (some : 0 < depth) where
  -- the innermost node lacks nothing: its bar is written
  module _ (full : get_or l (depth - 1) 0 ≡ 0) where
    shut : lacking l depth ≡ 0 ∷ lacking l (depth - 1)
    shut = lacking_top l depth some ∙ ap (λ (k : ℕ). k ∷ lacking l (depth - 1)) full

    pub bar_next : Next (bars_of A w) at bar (due (lacking l (depth - 1)) (behind A w p))
    bar_next = next (bars_of A w) at _ _ (m.left ∙ ap (λ (ks : List ℕ). due ks (behind A w p)) shut ∙ due_bar (lacking l (depth - 1)) (behind A w p))

    pub bar_midway : Midway A w l (depth - 1) p (at + 1)
    unfolding total
    bar_midway =
        record {
          within = m.within;
          shallow = omega (arith, m.shallow);
          counted = sym (zero-add _) ∙ ap total (sym shut) ∙ m.counted;
          left = bar_next.later;
        }

  -- it lacks a child: the next symbol is written
  module _ (lack : 0 < get_or l (depth - 1) 0) (acc : Accepted A w) where
    -- the symbol, how many children it has, and the trees behind it
    abbrev s : ℕ
    s = get_or w p 0

    abbrev a : ℕ
    a = get_or A s 0

    abbrev g : Forest
    g = behind A w (p + 1)

    abbrev k : ℕ
    k = get_or l (depth - 1) 0 - 1

    wanted : lacking l depth ≡ suc k ∷ lacking l (depth - 1)
    wanted =
        let e : get_or l (depth - 1) 0 ≡ suc (get_or l (depth - 1) 0 - 1) = omega arith in
        lacking_top l depth some ∙ ap (λ (n : ℕ). n ∷ lacking l (depth - 1)) e

    sums : suc k + total (lacking l (depth - 1)) ≡ count (behind A w p)
    unfolding total
    sums = ap total (sym wanted) ∙ m.counted

    pub symbol-below : p < length w
    symbol-below = omega (arith, few-behind A w p m.within, sums)

    pub symbol_next : Next (bars_of A w) at s (due (a ∷ (k ∷ lacking l (depth - 1))) g)
    symbol_next =
        next (bars_of A w) at _ _
        (m.left
        ∙ ap₂ due wanted (behind-over A w p symbol-below)
        ∙ due_symbol k (lacking l (depth - 1)) s a g)

    pub symbol_midway : length w ≤ length l → Midway A w (set (set l (depth - 1) k) depth a) (depth + 1) (p + 1) (at + 1)
    unfolding total
    symbol_midway room =
        let inner = lacking_child l depth k a some (omega (arith, m.shallow, symbol-below)) in
        let deep = enough_behind A (allowed Symbols A) w 1 0 acc p symbol-below in
        record {
          within = omega (arith, symbol-below);
          shallow = omega (arith, m.shallow);
          counted = ap total inner ∙ omega (arith, sums, count-behind A w p symbol-below deep);
          left = symbol_next.later ∙ ap (λ (ks : List ℕ). due ks g) (sym inner);
        }

-- nothing is open: all is written
pub all_written : (A w l : List ℕ) (p at : ℕ) → Midway A w l 0 p at → take at (bars_of A w) ≡ bars_of A w
unfolding lacking due
all_written A w l p at m = take_all at (bars_of A w) (omega (arith, length-drop at (bars_of A w), ap length m.left))

-- while something is left to write, a node is open
pub some_open : (A w l : List ℕ) (depth p at : ℕ) → Midway A w l depth p at → at < length (bars_of A w) → 0 < depth
some_open A w l zero p at m h =
    absurd (omega (arith, length-take-le at (bars_of A w) (omega arith), ap length (all_written A w l p at m)))
some_open A w l (suc depth) p at m h = omega arith
