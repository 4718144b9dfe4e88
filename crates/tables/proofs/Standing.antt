-- The ends of the trees that stand side by side, kept from the last tree on: what a pass from right to left knows of a row.
-- Assumes nothing.
use Prim.Native.Nat.{ℕ, zero, suc, ◌+◌, ◌-◌, ◌≤◌, ◌<◌}
use mathlib.Core.Path.{◌≡◌, sym, ap, ◌∙◌, subst}
use mathlib.Core.List.{List}
use native.Mathlib.Nat.{add-zero}
use native.Mathlib.Omega.{arith}
use lib.ListN.{length, get_or, set}
use lib.Seq.{get_or-set_same, get_or-set_other, drop-length}
use Rattle.rows.specs.Tree.{Forest, Forest.none, Forest.grow, count, size}
use Rattle.rows.specs.Parse.{first, rest, over, parse, behind}
use Rattle.rows.proofs.Tree.{count-rest, size_split}
use Rattle.rows.proofs.Behind.{behind-over, size-behind, few-behind, count-behind}
use Rattle.tables.specs.Beside.{Standing}

-- what is written past them leaves them
standing_set : (l : List ℕ) (b : ℕ) (g : Forest) (k x : ℕ) → count g ≤ k → Standing l b g → Standing (set l k x) b g
unfolding Standing count
standing_set l b none k x h c = tt
standing_set l b (grow s cs f) k x h c =
    (get_or-set_other l k (count f) x 0 (λ e. omega arith) ∙ c.0, standing_set l (b + size cs + 1) f k x (omega arith) c.1)

-- the trees behind the first a
standing_rest : (a : ℕ) (g : Forest) (l : List ℕ) (b : ℕ) → Standing l b g → Standing l (b + size (first a g)) (rest a g)
unfolding Standing first rest size
standing_rest zero g l b c = subst (λ (n : ℕ). Standing l n g) (sym (add-zero b)) c
standing_rest (suc a) none l b c = tt
standing_rest (suc a) (grow s cs f) l b c =
    let same : b + size cs + 1 + size (first a f) ≡ b + (size cs + size (first a f) + 1) = omega arith in
    subst (λ (n : ℕ). Standing l n (rest a f)) same (standing_rest a f l (b + size cs + 1) c.1)

-- where the forest's begin stands past its ends, the end of its first a trees stands a places before
standing_end : (a : ℕ) (g : Forest) (l : List ℕ) (b : ℕ) → Standing l b g → get_or l (count g) 0 ≡ b → a ≤ count g
    → get_or l (count g - a) 0 ≡ b + size (first a g)
unfolding Standing first count size
standing_end zero g l b c e h =
    let all : count g - 0 ≡ count g = omega arith in
    ap (λ (n : ℕ). get_or l n 0) all ∙ e ∙ sym (add-zero b)
standing_end (suc a) none l b c e h = absurd (omega arith)
standing_end (suc a) (grow s cs f) l b c e h =
    let down : count f + 1 - suc a ≡ count f - a = omega arith in
    ap (λ (n : ℕ). get_or l n 0) down ∙ standing_end a f l (b + size cs + 1) c.1 c.0 (omega arith) ∙ omega arith

-- behind the whole row nothing stands
pub standing_none : (A w l : List ℕ) (b : ℕ) → (0 ≡ count (behind A w (length w))) × Standing l b (behind A w (length w))
unfolding Standing behind parse count
standing_none A w l b =
    let nothing : none ≡ behind A w (length w) = ap (parse A) (sym (drop-length w)) in
    (ap count nothing, subst (Standing l b) nothing tt)

-- A turn of a pass from right to left, at the row's place p, which stands at position b: `trees` trees stand side by side
-- behind p, and the symbol there has a children.
pub record Turn (A w l : List ℕ) (b p trees a : ℕ) : Type 0 where
  pub below : p < length w
  pub room : length w ≤ length l
  pub counted : trees ≡ count (behind A w (p + 1))
  pub standing : Standing l (b + 1) (behind A w (p + 1))
  pub arity : a ≡ get_or A (get_or w p 0) 0
  pub deep : a ≤ trees

module _ {A w l : List ℕ} {b p trees a : ℕ} (c : Turn A w l b p trees a) where
  -- the trees behind p
  abbrev G : Forest
  G = behind A w (p + 1)

  -- the begin of them is written past their ends
  abbrev L : List ℕ
  L = set l trees (b + 1)

  begun : Standing L (b + 1) G
  begun = standing_set l (b + 1) G trees (b + 1) (omega (arith, c.counted)) c.standing

  begin_at : get_or L (count G) 0 ≡ b + 1
  begin_at =
      ap (λ (n : ℕ). get_or L n 0) (sym c.counted)
      ∙ get_or-set_same l trees (b + 1) 0 (omega (arith, c.counted, c.room, few-behind A w (p + 1) (omega (arith, c.below))))

  deep_enough : a ≤ count G
  deep_enough = omega (arith, c.counted, c.deep)

  -- the symbol's own end
  pub turn_end : get_or L (trees - a) 0 ≡ b + 1 + size (first (get_or A (get_or w p 0) 0) G)
  turn_end =
      ap (λ (n : ℕ). get_or L (n - a) 0) c.counted
      ∙ standing_end a G L (b + 1) begun begin_at deep_enough
      ∙ ap (λ (n : ℕ). b + 1 + size (first n G)) c.arity

  -- it is where the row ends, or before
  pub turn_within : get_or L (trees - a) 0 ≤ b + (length w - p)
  turn_within =
      omega (arith, c.below, turn_end, size_split (get_or A (get_or w p 0) 0) G, size-behind A w (p + 1))

  -- one tree more stands at p, and those that it has taken do so no longer
  pub turn_count : trees - a + 1 ≡ count (behind A w p)
  turn_count =
      omega (arith, c.counted, c.arity, c.deep, count-behind A w p c.below (subst (λ (n : ℕ). n ≤ count G) c.arity deep_enough))

  pub turn_standing : Standing L b (behind A w p)
  unfolding Standing over
  turn_standing =
      let k : ℕ = get_or A (get_or w p 0) 0 in
      let deep : k ≤ count G = subst (λ (n : ℕ). n ≤ count G) c.arity deep_enough in
      let left : count (rest k G) ≡ trees - a = omega (arith, c.counted, c.arity, count-rest k G deep) in
      let same : b + 1 + size (first k G) ≡ b + size (first k G) + 1 = omega arith in
      subst (Standing L b) (sym (behind-over A w p c.below))
      (ap (λ (n : ℕ). get_or L n 0) left ∙ turn_end ∙ same, subst (λ (n : ℕ). Standing L n (rest k G)) same (standing_rest k G L (b + 1) begun))
