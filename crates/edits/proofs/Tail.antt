-- The tail of a table, which is moved and then shifted.
-- Assumes nothing.
use Prim.Native.Nat.{ℕ, ◌+◌, ◌-◌, ◌≤◌, ◌<◌}
use mathlib.Core.Path.{◌≡◌, sym, ap, ◌∙◌}
use mathlib.Core.List.{List, ◌++◌, map}
use native.Mathlib.Nat.{zero-add}
use native.Mathlib.Omega.{arith}
use lib.ListN.{length, take, drop, get_or, length-map, length-take, length-drop}
use lib.Seq.{take-take, get_or-take, get_or-drop}
use Rattle.rows.specs.Buffers.{written}
use Rattle.buffers.specs.Shift.{shifted, Shiftable}
use Rattle.buffers.proofs.Written.{get_d_written, drop-written, take-written, written_over, written_same, get_d_map}
use Rattle.rows.proofs.Buffers.{length-written}
use Rattle.buffers.proofs.Renewed.{drop-take}
use Rattle.edits.specs.Moved.{moved, spliced_ends}
use Rattle.edits.specs.Given.{Movable}
use Rattle.edits.proofs.Ends.{moved_past, moved_upto}
use Rattle.rows.proofs.Passing.{below}
use Rattle.edits.proofs.Before.{before, before_at, length_before}

module _ (t : List ℕ) (n p e to : ℕ) (m : Movable t n p e to) where
  -- the table once the ends of the subtrees that hold p have moved; the tail's entries; and the table once they stand at their new place
  abbrev pub held : List ℕ
  held = written t 0 (map (moved e to) (take p t))

  abbrev pub tail : List ℕ
  tail = take (n - e) (drop e t)

  abbrev pub carried : List ℕ
  carried = written held to tail

  first_fits : 0 + length (before t n p e to m) ≤ length t
  first_fits = omega (arith, length_before t n p e to m, m.room.starts, m.room.stops, m.room.old)

  pub length_held : length held ≡ length t
  length_held = length-written t 0 (before t n p e to m) first_fits

  pub drop_held : drop e held ≡ drop e t
  drop_held = drop-written t 0 (before t n p e to m) first_fits e (omega (arith, length_before t n p e to m, m.room.starts))

  pub length_tail : length tail ≡ n - e
  length_tail = simp (length-take, length-drop) (omega (arith, m.room.old))

  tail_fits : to + length tail ≤ length held
  tail_fits = omega (arith, length_tail, length_held, m.room.new)

  -- an entry of the tail lies behind the old subtree's end, and within the row
  tail_at : (k : ℕ) → k < n - e → get_or tail k 0 ≡ get_or t (e + k) 0
  tail_at k h = get_or-take (n - e) (drop e t) k 0 h ∙ get_or-drop e t k 0

  tail_behind : (k : ℕ) → k < n - e → (e ≤ get_or tail k 0) × (get_or tail k 0 ≤ n)
  tail_behind k h =
      let x = m.behind (e + k) (omega arith) in
      let y = m.within (e + k) (omega arith) in
      let z = tail_at k h in
      (omega arith, omega arith)

  pub tail_shiftable : Shiftable carried to (n - e) e to
  tail_shiftable =
      record {
        fits = omega (arith, length-written held to tail tail_fits, length_held, m.room.new);
        behind = λ k h. omega (arith, get_d_written held to tail tail_fits k (omega (arith, length_tail)), tail_behind k h);
        small =
            λ k h.
            omega (arith, get_d_written held to tail tail_fits k (omega (arith, length_tail)), tail_behind k h, m.room.stops, m.room.new_most);
      }

  pub tail_shifted : written carried to (map (shifted e to) (take (n - e) (drop to carried))) ≡ written held to (map (shifted e to) tail)
  tail_shifted =
      ap (λ (l : List ℕ). written carried to (map (shifted e to) l)) (take-written held to tail tail_fits (n - e) length_tail)
      ∙ written_over held to tail tail_fits (map (shifted e to) tail) (sym (length-map tail (shifted e to)))

-- a subtree that ends where the old one did moves no end
module _ (t : List ℕ) (n p e : ℕ) (m : Movable t n p e e) where
  moved_still : (x : ℕ) → moved e e x ≡ x
  moved_still x = below x e (λ h. moved_upto e e x h) (λ h. moved_past e e x h ∙ omega arith)

  pub still : written (held t n p e e m) e (map (shifted e e) (tail t n p e e m)) ≡ t
  still =
      let g = shifted e e in
      let first : held t n p e e m ≡ t =
      written_same t 0 (before t n p e e m) (first_fits t n p e e m)
      (λ k h.
      let i : k < p = omega (arith, length_before t n p e e m) in
      before_at t n p e e m k i ∙ moved_still (get_or t k 0) ∙ ap (λ (j : ℕ). get_or t j 0) (sym (zero-add k))) in
      let long : length (map g (tail t n p e e m)) ≡ n - e = length-map (tail t n p e e m) g ∙ length_tail t n p e e m in
      ap (λ (l : List ℕ). written l e (map g (tail t n p e e m))) first
      ∙ written_same t e (map g (tail t n p e e m)) (omega (arith, m.room.stops, m.room.old))
      (λ k h.
      let i : k < n - e = omega arith in
      let b = tail_behind t n p e e m k i in
      get_d_map g (tail t n p e e m) k (omega (arith, length_tail t n p e e m))
      ∙ omega (arith, tail_at t n p e e m k i))

-- a table at the front of a buffer, spliced
pub spliced_ends-front : (t : List ℕ) (n p e to : ℕ) (new : List ℕ) → p ≤ e → e ≤ n → n ≤ length t
    → spliced_ends (take n t) p e to new ≡ map (moved e to) (take p t) ++ (new ++ map (shifted e to) (take (n - e) (drop e t)))
unfolding spliced_ends
spliced_ends-front t n p e to new pe en nt =
    let q : p ≤ n = omega arith in
    rw (take-take p n t q, drop-take e n t en nt)
