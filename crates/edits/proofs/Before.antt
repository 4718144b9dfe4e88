-- The entries before a position, moved one after the other.
-- Assumes nothing.
use Prim.Native.Nat.{ℕ, ◌+◌, ◌<◌}
use mathlib.Core.Path.{◌≡◌, ap, ◌∙◌}
use mathlib.Core.List.{List, map}
use native.Mathlib.Nat.{zero-add}
use native.Mathlib.Omega.{arith}
use lib.ListN.{length, take, get_or, set, length-map, length-take}
use lib.Seq.{get_or-take}
use Rattle.rows.specs.Buffers.{written}
use Rattle.buffers.proofs.Written.{turn, unturned, get_d_map}
use Rattle.edits.specs.Moved.{moved}
use Rattle.edits.specs.Given.{Movable}
use Rattle.edits.proofs.Ends.{moved_past, moved_upto}
use Rattle.rows.proofs.Passing.{below}

module _ (t : List ℕ) (n p e to : ℕ) (m : Movable t n p e to) where
  -- the entries before p as they are to be
  abbrev pub before : List ℕ
  before = map (moved e to) (take p t)

  pub length_before : length before ≡ p
  length_before = simp (length-map, length-take) (omega (arith, m.room.starts, m.room.stops, m.room.old))

  pub before_at : (k : ℕ) → k < p → get_or before k 0 ≡ moved e to (get_or t k 0)
  before_at k h =
      get_d_map (moved e to) (take p t) k (simp length-take (omega (arith, m.room.starts, m.room.stops, m.room.old)))
      ∙ ap (moved e to) (get_or-take p t k 0 h)

  -- each is a 16-bit number again
  pub before_small : (k : ℕ) → k < p → moved e to (get_or t k 0) < 65536
  before_small k h =
      let w = m.within k (omega (arith, m.room.starts, m.room.stops)) in
      below (get_or t k 0) e
      (λ o. omega (arith, moved_upto e to (get_or t k 0) o, m.room.most))
      (λ o. omega (arith, moved_past e to (get_or t k 0) o, m.room.stops, m.room.new_most))

  -- turn k, in a table whose first k entries have been moved: it reads the old entry, and leaves one more moved
  module _ (table : List ℕ) (k : ℕ) (i : table ≡ written t 0 (take k before)) (h : k < p) where
    turn_reads : get_or table k 0 ≡ get_or t k 0
    turn_reads =
        ap (λ (l : List ℕ). get_or l k 0) i
        ∙ unturned t 0 before k k (omega (arith, length_before)) (omega arith)
        (omega (arith, m.room.starts, m.room.stops, m.room.old))

    pub turn_fits : moved e to (get_or table k 0) < 65536
    turn_fits = rw turn_reads (before_small k h)

    pub turn_leaves : (x : ℕ) → x ≡ moved e to (get_or table k 0) → set table k x ≡ written t 0 (take (k + 1) before)
    turn_leaves x w =
        rw (i, w, turn_reads, ← before_at k h)
        (rw zero-add at (turn t 0 before k (omega (arith, length_before)) (omega (arith, m.room.starts, m.room.stops, m.room.old))))
