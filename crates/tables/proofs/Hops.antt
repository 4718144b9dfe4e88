-- Hops from tree to tree, by the ends that a table holds.
-- Assumes nothing.
use Prim.Native.Nat.{ℕ, zero, suc, ◌+◌, ◌≤◌, ◌<◌}
use mathlib.Core.Path.{◌≡◌, sym, ap, ap₂, ◌∙◌, subst}
use mathlib.Core.List.{List, ◌++◌, append_assoc}
use native.Mathlib.Nat.{add-zero}
use native.Mathlib.Omega.{arith}
use lib.ListN.{length, get_or, set, take, drop, length-append, length-drop}
use lib.Seq.{get_or-drop, drop_at, drop-drop, length-take-le}
use Rattle.rows.specs.Limits.{row_most}
use Rattle.rows.specs.Tree.{Forest, Forest.none, Forest.grow, count, size, ends}
use Rattle.rows.specs.Parse.{first, over, parse, behind}
use Rattle.rows.specs.Row.{allowed}
use Rattle.rows.specs.Buffers.{written}
use Rattle.rows.specs.declared.Leaves.TheVariants.{Symbols}
use Rattle.rows.proofs.Behind.{size-behind, behind-over, enough_behind, few-behind}
use Rattle.rows.proofs.Tree.{length-ends, size-first_lt, size_split}
use Rattle.tables.specs.Given.{Fillable}
use Rattle.tables.specs.Hops.{Holds, Hopping}
use Rattle.tables.proofs.Fill.{partly, partly_none, partly_all, partly_more}

-- a table that is filled in from the row's place p on
holds_partly : (A w t : List ℕ) (p : ℕ) → p ≤ length t → Holds (partly A w t 0 p) p (behind A w p)
unfolding partly
holds_partly A w t p h =
    let here : 0 + p ≡ p = omega arith in
    record {
      later = drop (0 + length w) t;
      right =
          ap (λ (n : ℕ). drop p (take n t ++ (ends n (behind A w p) ++ drop (0 + length w) t))) here
          ∙ drop_at (take p t) (ends p (behind A w p) ++ drop (0 + length w) t) p (length-take-le p t h);
    }

-- one tree less
holds-rest : (t : List ℕ) (b s : ℕ) (cs f : Forest) → Holds t b (grow s cs f) → Holds t (b + size cs + 1) f
unfolding ends
holds-rest t b s cs f h =
    let more : b + suc (size cs) ≡ b + size cs + 1 = omega arith in
    let e = b + size cs + 1 in
    record {
      later = h.later;
      right =
          ap (λ (n : ℕ). drop n t) (sym more)
          ∙ sym (drop-drop (suc (size cs)) b t)
          ∙ ap (drop (suc (size cs))) h.right
          ∙ ap (drop (size cs)) (append_assoc (ends (b + 1) cs) (ends e f) h.later)
          ∙ drop_at (ends (b + 1) cs) (ends e f ++ h.later) (size cs) (length-ends (b + 1) cs);
    }

-- where k trees end, the entry says where one tree more does
pub hop : (t : List ℕ) (b : ℕ) (g : Forest) (k : ℕ) → Holds t b g → k < count g → get_or t (b + size (first k g)) 0 ≡ b + size (first (suc k) g)
unfolding first size count ends
hop t b none k h l = absurd (omega arith)
hop t b (grow s cs f) zero h l =
    sym (get_or-drop b t 0 0) ∙ ap (λ (z : List ℕ). get_or z 0 0) h.right ∙ omega arith
hop t b (grow s cs f) (suc k) h l =
    let on : b + (size cs + size (first k f) + 1) ≡ b + size cs + 1 + size (first k f) = omega arith in
    ap (λ (n : ℕ). get_or t n 0) on ∙ hop t (b + size cs + 1) f k (holds-rest t b s cs f h) (omega arith) ∙ omega arith

-- and that entry is there
pub hop_within : (t : List ℕ) (b : ℕ) (g : Forest) (k : ℕ) → Holds t b g → k < count g → b + size (first k g) < length t
hop_within t b g k h l =
    omega (arith, size-first_lt k g l, length-drop b t, ap length h.right, length-append (ends b g) h.later, length-ends b g)

-- without a tree nothing is hopped over
pub hopped_none : (b a : ℕ) (g : Forest) → a ≡ 0 → b ≡ b + size (first a g)
unfolding first size
hopped_none b a g e = sym (ap (λ (n : ℕ). b + size (first n g)) e ∙ add-zero b)

-- the first tree from p on is the symbol there over as many trees as its arity says
first-behind : (A w : List ℕ) (p : ℕ) → p < length w
    → size (first 1 (behind A w p)) ≡ size (first (get_or A (get_or w p 0) 0) (behind A w (p + 1))) + 1
unfolding first size over
first-behind A w p h = ap (λ (g : Forest). size (first 1 g)) (behind-over A w p h) ∙ omega arith

-- A table that is filled in by hops, from right to left: it is so from the row's place p on, and the first tree there ends at e.
pub record Filling (A w t₀ t : List ℕ) (p e : ℕ) : Type 0 where
  pub within : p ≤ length w
  pub table : t ≡ partly A w t₀ 0 p
  pub next : 0 < count (behind A w p) → e ≡ p + size (first 1 (behind A w p))

pub filling_none : (A w t : List ℕ) (n e : ℕ) → n ≡ length w → Filling A w t t n e
filling_none A w t n e all =
    subst (λ (m : ℕ). Filling A w t t m e) (sym all)
    (record { within = omega arith; table = partly_none A w t 0; next = λ some. absurd (omega (arith, few-behind A w (length w) (omega arith))) })

pub filling_all : {A w t₀ t : List ℕ} {p e : ℕ} → Filling A w t₀ t p e → p ≡ 0 → t ≡ written t₀ 0 (ends 0 (parse A w))
filling_all {A = A} {w = w} {t₀ = t₀} f done = f.table ∙ ap (partly A w t₀ 0) done ∙ partly_all A w t₀ 0

-- one entry more, that of the symbol at q, right before p, which has a children
module _ {A w t₀ t : List ℕ} {p e : ℕ} (k : Fillable A w t₀ 0) (f₀ : Filling A w t₀ t p e) (q a : ℕ) (up : p ≡ q + 1) (arity : a ≡ get_or A (get_or w q 0) 0) where
  f : Filling A w t₀ t (q + 1) e
  f = subst (λ (n : ℕ). Filling A w t₀ t n e) up f₀

  below : q < length w
  below = omega (arith, f.within)

  pub filling_hopping : Hopping t (q + 1) e a (behind A w (q + 1))
  filling_hopping =
      let enough = enough_behind A (allowed Symbols A) w 1 0 k.accepted q below in
      record {
        holds = subst (λ (l : List ℕ). Holds l (q + 1) (behind A w (q + 1))) (sym f.table) (holds_partly A w t₀ (q + 1) (omega (arith, f.within, k.fits)));
        most = omega (arith, f.within, size-behind A w (q + 1), k.most);
        enough = omega (arith, enough);
        next = λ h. f.next (omega (arith, enough));
      }

  -- the end that was found is small enough to be kept
  pub filling_small : (x : ℕ) → x ≡ q + 1 + size (first a (behind A w (q + 1))) → x ≤ row_most
  filling_small x there = omega (arith, filling_hopping.most, size_split a (behind A w (q + 1)))

  pub filling_more : (x : ℕ) → x ≡ q + 1 + size (first a (behind A w (q + 1))) → Filling A w t₀ (set t q x) q x
  filling_more x there =
      let ending : x ≡ 0 + q + 1 + size (first (get_or A (get_or w q 0) 0) (behind A w (q + 1))) = there ∙ ap (λ (n : ℕ). q + 1 + size (first n (behind A w (q + 1)))) arity ∙ omega arith in
      let here : q ≡ 0 + q = omega arith in
      record {
        within = omega (arith, below);
        table =
            ap₂ (λ (l : List ℕ) (i : ℕ). set l i x) f.table here
            ∙ ap (set (partly A w t₀ 0 (q + 1)) (0 + q)) ending
            ∙ partly_more A w t₀ 0 q k.fits below;
        next = λ h. ending ∙ omega (arith, first-behind A w q below);
      }
