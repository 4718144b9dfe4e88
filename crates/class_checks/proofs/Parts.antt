-- Equal parts of a row are equal subtrees.
-- Assumes nothing.
use Prim.Native.Nat.{ℕ, ◌+◌, ◌≤◌, ◌<◌}
use mathlib.Core.Path.{◌≡◌, refl, sym, ap, ap₂, ◌∙◌, subst}
use mathlib.Core.List.{List}
use native.Mathlib.Nat.{add-zero}
use native.Mathlib.Omega.{arith}
use mathlib.Core.Bool.{Bool, true, false, true≢false}
use lib.Dec.{eqb}
use lib.ListN.{length, get_or, take, drop, length-drop}
use lib.Seq.{get_or-drop, get_or-take, ext_get_or, length-take-le}
use lib.Pointwise.{pointwise}
use Rattle.std.specs.Bool.{Decides}
use Rattle.std.proofs.Math.Logic.{∥∥₁_elim}
use Rattle.std.proofs.Props.{props}
use Rattle.std.proofs.lemmas.Bool.Decides.{Decides-eqb}
use Rattle.std.proofs.lemmas.Slice.Eq.{slice_eq-Decides}
use Rattle.rows.specs.Tree.{Forest, Forest.none, Forest.grow, Tree, count, size, subtree_at}
use Rattle.rows.specs.Classes.{said, SameSign}
use Rattle.classes.specs.Shown.{look, Shown, Seen, Says}
use Rattle.class_checks.specs.Repeats.{SamePart}
use Rattle.rows.proofs.Alike.{same_tree}
use Rattle.rows.proofs.Children.{Stands, kids_stand}
use Rattle.classes.proofs.Within.{fits_within}

-- the first place of the same parts
pub part_first : (l : List ℕ) (a b n : ℕ) → SamePart l a b n → 0 < n → get_or l a 0 ≡ get_or l b 0
part_first l a b n s h = ap (λ (n : ℕ). get_or l n 0) (sym (add-zero a)) ∙ s 0 h ∙ ap (λ (n : ℕ). get_or l n 0) (add-zero b)

-- what a list says of the trees of a forest, where two parts of it are the same
pub said_part : (c : List ℕ) (g : Forest) (a b : ℕ) → SamePart c a b (size g) → said c a g ≡ said c b g
unfolding said size
said_part c none a b k = refl
said_part c (grow s cs g) a b k =
    let here : get_or c a 0 ≡ get_or c b 0 = part_first c a b (size cs + size g + 1) k (omega arith) in
    let more : said c (a + size cs + 1) g ≡ said c (b + size cs + 1) g =
    said_part c g (a + size cs + 1) (b + size cs + 1)
    (λ i h.
    let x : a + (size cs + 1 + i) ≡ a + size cs + 1 + i = omega arith in
    let y : b + (size cs + 1 + i) ≡ b + size cs + 1 + i = omega arith in
    ap (λ (n : ℕ). get_or c n 0) (sym x) ∙ k (size cs + 1 + i) (omega arith) ∙ ap (λ (n : ℕ). get_or c n 0) y) in
    cc

pub part_sign : (f : Forest) (c : List ℕ) (p q : ℕ) → subtree_at f p ≡ subtree_at f q → SamePart c (p + 1) (q + 1) (size (subtree_at f p).children)
    → SameSign f c p q
part_sign f c p q e k =
    record {
      symbol = ap (λ (t : Tree). t.symbol) e;
      children = said_part c (subtree_at f p).children (p + 1) (q + 1) k ∙ ap (λ (t : Tree). said c (q + 1) t.children) e;
    }

-- later places of the same parts
pub part_on : (l : List ℕ) (a b n k m : ℕ) → SamePart l a b n → k + m ≤ n → SamePart l (a + k) (b + k) m
part_on l a b n k m s h = λ i j.
    let x : a + (k + i) ≡ a + k + i = omega arith in
    let y : b + (k + i) ≡ b + k + i = omega arith in
    ap (λ (n : ℕ). get_or l n 0) (sym x) ∙ s (k + i) (omega arith) ∙ ap (λ (n : ℕ). get_or l n 0) y

-- equal parts of the row are equal forests
same_shape : {f : Forest} {w t : List ℕ} → Shown f w t → (g h : Forest) (a b : ℕ) → Stands f a g → Stands f b h → count g ≡ count h
    → SamePart w a b (size g) → g ≡ h
unfolding Stands count size
same_shape s none none a b x y e k = refl
same_shape s none (grow u cs h) a b x y e k = absurd (omega arith)
same_shape s (grow u cs g) none a b x y e k = absurd (omega arith)
same_shape {f} {w} {t} s (grow u cs g) (grow v ds h) a b x y e k =
    let la : a < length w = omega (arith, x.0, s.many) in
    let lb : b < length w = omega (arith, y.0, s.many) in
    let look-same : look w a ≡ look w b = part_first w a b (size cs + size g + 1) k (omega arith) in
    let sa : look w a ≡ u = s.symbols a la ∙ ap (λ (z : Tree). z.symbol) x.1 in
    let sb : look w b ≡ v = s.symbols b lb ∙ ap (λ (z : Tree). z.symbol) y.1 in
    let uv : u ≡ v = sym sa ∙ look-same ∙ sb in
    let ka : (subtree_at f a).children ≡ cs = ap (λ (z : Tree). z.children) x.1 in
    let kb : (subtree_at f b).children ≡ ds = ap (λ (z : Tree). z.children) y.1 in
    let counts : count cs ≡ count ds = sym (ap count ka) ∙ s.arities a b la lb look-same ∙ ap count kb in
    let below : cs ≡ ds =
    same_shape s cs ds (a + 1) (b + 1) (subst (Stands f (a + 1)) ka (kids_stand f a x.0)) (subst (Stands f (b + 1)) kb (kids_stand f b y.0)) counts
    (part_on w a b (size cs + size g + 1) 1 (size cs) k (omega arith)) in
    let sizes : size cs ≡ size ds = ap size below in
    let far : b + size cs + 1 ≡ b + size ds + 1 = omega arith in
    let beside : g ≡ h =
    same_shape s g h (a + size cs + 1) (b + size cs + 1) x.2 (subst (λ (n : ℕ). Stands f n h) (sym far) y.2) (omega arith)
    (λ i m.
    let p : a + (size cs + 1 + i) ≡ a + size cs + 1 + i = omega arith in
    let q : b + (size cs + 1 + i) ≡ b + size cs + 1 + i = omega arith in
    ap (λ (n : ℕ). get_or w n 0) (sym p) ∙ k (size cs + 1 + i) (omega arith) ∙ ap (λ (n : ℕ). get_or w n 0) q) in
    cc

pub part_equal : {f : Forest} {w t : List ℕ} → Shown f w t → (p q : ℕ) → p < length w → q < length w → SamePart w p q (1 + size (subtree_at f p).children)
    → subtree_at f p ≡ subtree_at f q
part_equal {f} {w} {t} s p q h m k =
    let here : look w p ≡ look w q = part_first w p q (1 + size (subtree_at f p).children) k (omega arith) in
    same_tree (subtree_at f p) (subtree_at f q) (sym (s.symbols p h) ∙ here ∙ s.symbols q m)
    (same_shape s (subtree_at f p).children (subtree_at f q).children (p + 1) (q + 1) (kids_stand f p (omega (arith, s.many))) (kids_stand f q (omega (arith, s.many)))
    (s.arities p q h m here) (part_on w p q (1 + size (subtree_at f p).children) 1 (size (subtree_at f p).children) k (omega arith)))

-- a subtree's end, by the table
pub end_fits : {f : Forest} {w t : List ℕ} → Shown f w t → (p : ℕ) → p < length w → (p < get_or t p 0) × (get_or t p 0 ≤ length w)
end_fits {f} {w} {t} s p h =
    let m : p < size f = omega (arith, s.many) in
    (omega (arith, s.ends p h), omega (arith, s.ends p h, s.many, fits_within f p m))

-- the same of a row that shows some forest
pub seen_end : {w t c : List ℕ} → ∥ Seen w t c ∥₁ → (p : ℕ) → p < length w → (p < get_or t p 0) × (get_or t p 0 ≤ length w)
seen_end z p h = ∥∥₁_elim z (hlevel props) (λ y. end_fits y.shown p h)

pub part_one : (l : List ℕ) (p q n : ℕ) → n ≡ 1 → get_or l p 0 ≡ get_or l q 0 → SamePart l p q n
part_one l p q n e k = λ i h.
    let x : p + i ≡ p = omega arith in
    let y : q ≡ q + i = omega arith in
    ap (λ (n : ℕ). get_or l n 0) x ∙ k ∙ ap (λ (n : ℕ). get_or l n 0) y

-- what `==` says of two parts of a list
said_same : (l : List ℕ) (p q n : ℕ) (r : Bool) → p + n ≤ length l → q + n ≤ length l → Decides r (take n (drop p l) ≡ take n (drop q l)) → Says r (SamePart l p q n)
said_same l p q n true h k d = λ i m.
    let e = d.0 refl in
    sym (get_or-drop p l i 0) ∙ sym (get_or-take n (drop p l) i 0 m) ∙ ap (λ (x : List ℕ). get_or x i 0) e ∙ get_or-take n (drop q l) i 0 m ∙ get_or-drop q l i 0
said_same l p q n false h k d = λ s.
    let left : length (take n (drop p l)) ≡ n = length-take-le n (drop p l) (omega (arith, length-drop p l)) in
    let right : length (take n (drop q l)) ≡ n = length-take-le n (drop q l) (omega (arith, length-drop q l)) in
    true≢false (sym (d.1 (ext_get_or 0 (take n (drop p l)) (take n (drop q l)) (left ∙ sym right)
    (λ i h.
    let m : i < n = omega (arith, left) in
    get_or-take n (drop p l) i 0 m ∙ get_or-drop p l i 0 ∙ s i m ∙ sym (get_or-drop q l i 0) ∙ sym (get_or-take n (drop q l) i 0 m)))))

pub same_slices : (l : List ℕ) (p q n a b : ℕ) (r : Bool) → p + n ≤ length l → q + n ≤ length l → a ≡ n → b ≡ n
    → r ≡ pointwise eqb (take a (drop p l)) (take b (drop q l)) → Says r (SamePart l p q n)
same_slices l p q n a b r h k x y e =
    said_same l p q n r h k
    (slice_eq-Decides Decides-eqb (take n (drop p l)) (take n (drop q l)) r (e ∙ ap₂ (λ (i j : ℕ). pointwise eqb (take i (drop p l)) (take j (drop q l))) x y))
