-- The table of a forest once a subtree is replaced, from the old table; and how its entries nest.
-- Assumes nothing.
use Prim.Native.Nat.{ℕ, zero, suc, ◌+◌, ◌-◌, ◌≤◌, ◌<◌}
use mathlib.Core.Path.{◌≡◌, refl, sym, ap, ◌∙◌}
use mathlib.Core.List.{List, ◌∷◌, ◌++◌, map, map-append, append_assoc, append-nil}
use native.Mathlib.Nat.{suc-add}
use native.Mathlib.Omega.{arith}
use lib.ListN.{length, take, drop, get_or, get_or-append}
use lib.Seq.{take-append-le, drop-append-le, take-append-add, drop-append-add, drop_at, get_or-append-add}
use borrow.Author.Tests.{lt-ltb, le-ltb}
use Rattle.rows.specs.Tree.{Forest, Forest.none, Forest.grow, Tree, single, size, ends, subtree_at}
use Rattle.rows.proofs.Tree.{length-ends}
use Rattle.buffers.specs.Shift.{shifted}
use Rattle.edits.specs.Put.{put, extent}
use Rattle.edits.specs.Moved.{moved, spliced_ends}
use Rattle.edits.proofs.Put.{put_ind, put_in, put_right, put-size, at_fits, extent_in, extent_right, extent_root, size-single}

pub moved_past : (e to x : ℕ) → e ≤ x → moved e to x ≡ shifted e to x
moved_past e to x h = rw (le-ltb x e h)

pub moved_upto : (e to x : ℕ) → x < e → moved e to x ≡ x
moved_upto e to x h = rw (lt-ltb x e h)

-- the ends of a forest that ends before the old subtree does stay; those of one that starts where it ends, or later, are shifted
ends_stay : (e to b : ℕ) (f : Forest) → b + size f < e → map (moved e to) (ends b f) ≡ ends b f
unfolding ends size
ends_stay e to b none h = refl
ends_stay e to b (grow s cs f) h =
    rw (
      map-append (moved e to) (ends (b + 1) cs) (ends (b + size cs + 1) f),
      moved_upto e to (b + size cs + 1) (omega arith),
      ends_stay e to (b + 1) cs (omega arith),
      ends_stay e to (b + size cs + 1) f (omega arith),
    )

ends_shift : (e to b c : ℕ) (f : Forest) → e ≤ b → c ≡ shifted e to b → map (shifted e to) (ends b f) ≡ ends c f
unfolding ends size
ends_shift e to b c none h q = refl
ends_shift e to b c (grow s cs f) h q =
    let r : b + size cs + 1 - e + to ≡ c + size cs + 1 = omega arith in
    rw (
      map-append (shifted e to) (ends (b + 1) cs) (ends (b + size cs + 1) f),
      r,
      ends_shift e to (b + 1) (c + 1) cs (omega arith) (omega arith),
      ends_shift e to (b + size cs + 1) (c + size cs + 1) f (omega arith) (omega arith),
    )

ends-single : (b : ℕ) (u : Tree) → ends b (single u) ≡ (b + size u.children + 1) ∷ ends (b + 1) u.children
unfolding ends
ends-single b u = ap (λ (r : List ℕ). (b + size u.children + 1) ∷ r) (append-nil (ends (b + 1) u.children))

-- the table of the new forest, over positions from b on: the subtree stood there from q to e, and u stands from q to `to`, with its table U
abbrev Ends : Tree → Forest → ℕ → Type 0
Ends u f p =
    (b q e to : ℕ) (U : List ℕ) → q ≡ b + p → e ≡ q + extent f p → to ≡ q + size (single u) → U ≡ ends q (single u)
    → ends b (put f p u) ≡ map (moved e to) (take p (ends b f)) ++ (U ++ map (shifted e to) (drop (p + extent f p) (ends b f)))

module _ (u : Tree) (s : ℕ) (cs f : Forest) where
  ends_here : Ends u (grow s cs f) zero
  unfolding ends put
  ends_here b q e to U eq ee et eU =
      let x = extent_root s cs f in
      let k : 0 + extent (grow s cs f) zero ≡ suc (length (ends (b + 1) cs)) = omega (arith, length-ends (b + 1) cs) in
      let g : q ≡ b = omega arith in
      let w : U ≡ (b + size u.children + 1) ∷ ends (b + 1) u.children = eU ∙ ends-single q u ∙ rw g in
      rw (
        w,
        k,
        drop_at (ends (b + 1) cs) (ends (b + size cs + 1) f) (length (ends (b + 1) cs)) refl,
        ends_shift e to (b + size cs + 1) (b + size u.children + 1) f (omega arith) (omega (arith, size-single u)),
      )

  ends_inside : (p : ℕ) → p < size cs → Ends u cs p → Ends u (grow s cs f) (suc p)
  unfolding ends
  ends_inside p i ih b q e to U eq ee et eU =
      let l : length (ends (b + 1) cs) ≡ size cs = length-ends (b + 1) cs in
      let x : extent (grow s cs f) (suc p) ≡ extent cs p = extent_in s cs f p i in
      let a : p ≤ length (ends (b + 1) cs) = omega arith in
      let g : p + extent cs p ≤ length (ends (b + 1) cs) = omega (arith, at_fits cs p i) in
      let r : b + size cs + 1 - e + to ≡ b + size (put cs p u) + 1 = omega (arith, put-size u cs p i) in
      rw (
        put_in s cs f p u i,
        x,
        suc-add,
        take-append-le p (ends (b + 1) cs) (ends (b + size cs + 1) f) a,
        drop-append-le (p + extent cs p) (ends (b + 1) cs) (ends (b + size cs + 1) f) g,
        map-append (shifted e to) (drop (p + extent cs p) (ends (b + 1) cs)) (ends (b + size cs + 1) f),
        ends_shift e to (b + size cs + 1) (b + size (put cs p u) + 1) f (omega arith) (sym r),
        moved_past e to (b + size cs + 1) (omega arith),
        r,
        ih (b + 1) q e to U (omega arith) (omega arith) et eU,
      )
      (simp append_assoc)

  ends-beside : (p : ℕ) → size cs ≤ p → p - size cs < size f → Ends u f (p - size cs) → Ends u (grow s cs f) (suc p)
  unfolding ends
  ends-beside p i h ih b q e to U eq ee et eU =
      let S = ends (b + 1) cs in
      let F = ends (b + size cs + 1) f in
      let k = p - size cs in
      let x = extent f k in
      let l : length S ≡ size cs = length-ends (b + 1) cs in
      let y : extent (grow s cs f) (suc p) ≡ x = extent_right s cs f p i in
      let m : p ≡ length S + k = omega arith in
      let m' : p + x ≡ length S + (k + x) = omega arith in
      let t : take p (S ++ F) ≡ S ++ take k F = ap (λ (n : ℕ). take n (S ++ F)) m ∙ take-append-add S F k in
      let d : drop (p + x) (S ++ F) ≡ drop (k + x) F = ap (λ (n : ℕ). drop n (S ++ F)) m' ∙ drop-append-add S F (k + x) in
      rw (
        put_right s cs f p u i,
        y,
        suc-add,
        t,
        d,
        moved_upto e to (b + size cs + 1) (omega (arith, size-single (subtree_at f k))),
        map-append (moved e to) S (take k F),
        ends_stay e to (b + 1) cs (omega (arith, size-single (subtree_at f k))),
        ih (b + size cs + 1) q e to U (omega arith) (omega arith) et eU,
      )
      (ap (λ (r : List ℕ). (b + size cs + 1) ∷ r)
      (sym (append_assoc S (map (moved e to) (take k F)) (U ++ map (shifted e to) (drop (k + x) F)))))

-- the new table from the old one: before the position, ends that lie before the old subtree's end stay and the others are shifted;
-- then stands the table of u; and then all ends are shifted
pub put-ends : (u : Tree) (f : Forest) (p e to : ℕ) → p < size f → e ≡ p + extent f p → to ≡ p + size (single u)
    → ends 0 (put f p u) ≡ spliced_ends (ends 0 f) p e to (ends p (single u))
unfolding spliced_ends
put-ends u f p e to h ee et =
    put_ind (Ends u) (ends_here u) (ends_inside u) (ends-beside u) f p h 0 p e to (ends p (single u)) (omega arith) ee et refl
    ∙ ap (λ (n : ℕ). map (moved e to) (take p (ends 0 f)) ++ (ends p (single u) ++ map (shifted e to) (drop n (ends 0 f)))) (sym ee)

-- entry p of a table is where the subtree at p ends
pub end_at : (f : Forest) (p : ℕ) → p < size f → (b : ℕ) → get_or (ends b f) p 0 ≡ b + p + extent f p
unfolding ends
end_at =
    put_ind (λ f p. (b : ℕ) → get_or (ends b f) p 0 ≡ b + p + extent f p)
    (λ s cs f b. omega (arith, extent_root s cs f))
    (λ s cs f p i ih b.
    get_or-append (ends (b + 1) cs) (ends (b + size cs + 1) f) 0 p (omega (arith, length-ends (b + 1) cs))
    ∙ ih (b + 1)
    ∙ omega (arith, extent_in s cs f p i))
    (λ s cs f p i h ih b.
    let S = ends (b + 1) cs in
    let F = ends (b + size cs + 1) f in
    let e : p ≡ length S + (p - size cs) = omega (arith, length-ends (b + 1) cs) in
    ap (λ (n : ℕ). get_or (S ++ F) n 0) e
    ∙ get_or-append-add S F (p - size cs) 0
    ∙ ih (b + size cs + 1)
    ∙ omega (arith, extent_right s cs f p i))

-- a subtree that begins within another ends within it
abbrev Nests : Forest → ℕ → Type 0
Nests f q = (k : ℕ) → q ≤ k → k < q + extent f q → k + extent f k ≤ q + extent f q

module _ (s : ℕ) (cs f : Forest) where
  nests_here : Nests (grow s cs f) zero
  nests_here zero o h = omega arith
  nests_here (suc k) o h =
      let i : k < size cs = omega (arith, extent_root s cs f) in
      omega (arith, extent_root s cs f, extent_in s cs f k i, at_fits cs k i)

  nests_in : (q : ℕ) → q < size cs → Nests cs q → Nests (grow s cs f) (suc q)
  nests_in q i ih zero o h = absurd (omega arith)
  nests_in q i ih (suc k) o h =
      let x = extent_in s cs f q i in
      let j : k < size cs = omega (arith, at_fits cs q i) in
      omega (arith, extent_in s cs f k j, ih k (omega arith) (omega arith))

  nests_right : (q : ℕ) → size cs ≤ q → q - size cs < size f → Nests f (q - size cs) → Nests (grow s cs f) (suc q)
  nests_right q i j ih zero o h = absurd (omega arith)
  nests_right q i j ih (suc k) o h =
      let x = extent_right s cs f q i in
      omega (arith, extent_right s cs f k (omega arith), ih (k - size cs) (omega arith) (omega arith))

pub nests : (f : Forest) (q : ℕ) → q < size f → Nests f q
nests = put_ind Nests nests_here nests_in nests_right
