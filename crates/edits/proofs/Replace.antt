-- From a row and its table, spliced, to the tree with a subtree replaced.
-- Assumes nothing.
use Rattle.std.specs.Prelude.{Ok}
use Prim.Native.Nat.{ℕ, ◌+◌, ◌-◌, ◌≤◌, ◌<◌}
use mathlib.Core.Path.{◌≡◌, sym, ap, ap₂, ◌∙◌, subst}
use mathlib.Core.List.{List}
use mathlib.Core.Bool.{Bool}
use native.Mathlib.Omega.{arith}
use lib.ListN.{length, take, get_or}
use lib.Seq.{length-take-le}
use Rattle.rows.specs.Tree.{Forest, single, size, count, prefix, ends, Ranked}
use Rattle.rows.specs.Parse.{parse, tree_of, table}
use Rattle.rows.specs.Classes.{classes_of, classes as classesOfRow}
use Rattle.rows.specs.Row.{verdict, allowed}
use Rattle.rows.specs.Reading.{Accepted}
use Rattle.rows.specs.declared.Leaves.TheVariants.{Symbols}
use Rattle.rows.proofs.Tree.{length-prefix, length-ends}
use Rattle.rows.proofs.Parse.{prefix-parse, size-parse, parse-prefix}
use Rattle.rows.proofs.Accept.{parse_whole, ranked_parse, count-parse, lone, whole_of_row}
use Rattle.tables.specs.Given.{Right}
use Rattle.tables.proofs.Given.{right_entry, right_bounds}
use Rattle.buffers.specs.Renewed.{renewed}
use Rattle.buffers.specs.Shift.{spliced}
use Rattle.buffers.proofs.Renewed.{take-renewed, length-renewed}
use Rattle.edits.specs.Put.{put, extent, changed}
use Rattle.edits.specs.Moved.{spliced_ends}
use Rattle.edits.specs.Given.{Room, Movable}
use Rattle.edits.specs.Replace.{Replaceable, Replacing, Reclassing}
use Rattle.edits.proofs.Put.{put-size, put-prefix, put_count, put_ranked}
use Rattle.edits.proofs.Ends.{put-ends, end_at}

-- a ranked forest of one tree is read as a row
accepted_forest : (A : List ℕ) (ok : ℕ → Bool) (f : Forest) → Ranked A ok f → count f ≡ 1 → verdict A ok 1 0 (prefix f) ≡ Ok tt
accepted_forest A ok f ranked one =
    let it = lone f one in
    whole_of_row A ok (prefix f) (record { tree = it.0; ranked = subst (Ranked A ok) it.1 ranked; reads = ap prefix (sym it.1) })

-- an accepted row has as many symbols as its tree has nodes
pub size_tree : (A v : List ℕ) → Accepted A v → size (single (tree_of A v)) ≡ length v
size_tree A v h = ap size (sym (parse_whole A (allowed Symbols A) v h)) ∙ size-parse A v

-- entry k of a right table is where the subtree at k ends
pub right_end : (A w t : List ℕ) → Right A w t → (k : ℕ) → k < length w → get_or t k 0 ≡ k + extent (parse A w) k
unfolding table
right_end A w t r k h =
    right_entry A w t r k h ∙ end_at (parse A w) k (omega (arith, size-parse A w)) 0 ∙ omega arith

-- the new length, from the entry at the position
pub new_length : (A w t v : List ℕ) (p : ℕ) → Right A w t → Accepted A v → p < length w
    → size (changed A w p v) ≡ p + length v + (length w - get_or t p 0)
new_length A w t v p r h i =
    let j : p < size (parse A w) = omega (arith, size-parse A w) in
    omega (arith, size-parse A w, right_end A w t r p i, right_bounds A w t r p i, size_tree A v h, put-size (tree_of A v) (parse A w) p j)

module _ (A row t : List ℕ) (n : ℕ) (v : List ℕ) (p : ℕ) (r : Replaceable A row t n v p) where
  abbrev w : List ℕ
  w = take n row

  abbrev e : ℕ
  e = get_or t p 0

  long : length w ≡ n
  long = length-take-le n row r.within

  pub entry_in : p < length t
  entry_in = omega (arith, long, r.position, r.right.sized.fits)

  -- each entry lies behind its position and within the row
  pub bounds : (k : ℕ) → k < n → (k < get_or t k 0) × (get_or t k 0 ≤ n)
  bounds k h =
      let b = right_bounds A w t r.right k (omega (arith, long)) in
      (b.0, omega (arith, long, b.1))

  pub length_new : size (changed A w p v) ≡ p + length v + (n - e)
  length_new =
      new_length A w t v p r.right r.accepted (omega (arith, long, r.position)) ∙ ap (λ (k : ℕ). p + length v + (k - e)) long

  room : (places : ℕ) → n ≤ places → size (changed A w p v) ≤ places → Room n p e (p + length v) places
  room places old new =
      record {
        starts = (bounds p r.position).0;
        stops = (bounds p r.position).1;
        most = omega (arith, long, r.right.sized.most);
        old = old;
        new_most = omega (arith, length_new, r.most);
        new = omega (arith, length_new);
      }

  pub row_room : Room n p e (p + length v) (length row)
  row_room = room (length row) r.within r.row_room

  pub table_movable : Movable t n p e (p + length v)
  table_movable =
      record {
        behind = λ k h. (bounds k h).0;
        within = λ k h. (bounds k h).1;
        room = room (length t) (omega (arith, long, r.right.sized.fits)) r.table-room;
      }

  -- both splices together are the replacement
  pub replaced : (row' t' : List ℕ) (m : ℕ)
      → row' ≡ renewed row n 65535 (spliced w p e v)
      → t' ≡ renewed t n 0 (spliced_ends (take n t) p e (p + length v) (ends p (parse A v)))
      → m ≡ p + length v + (n - e)
      → Replacing A row t n v p row' t' m
  unfolding table
  replaced row' t' m er et em =
      let F = parse A w in
      let u = tree_of A v in
      let one = parse_whole A (allowed Symbols A) v r.accepted in
      let i : p < length w = omega (arith, long, r.position) in
      let j : p < size F = omega (arith, size-parse A w) in
      let ee : e ≡ p + extent F p = right_end A w t r.right p i in
      let eu : p + length v ≡ p + size (single u) = omega (arith, size_tree A v r.accepted) in
      let tabled : take n t ≡ ends 0 F = ap (λ (k : ℕ). take k t) (sym long) ∙ r.right.right in
      let x : prefix (put F p u) ≡ spliced w p e v =
      put-prefix u F p j
      ∙ rw (prefix-parse A w, ← ee)
      (ap (spliced w p e) (ap prefix (sym one) ∙ prefix-parse A v)) in
      let y : ends 0 (put F p u) ≡ spliced_ends (take n t) p e (p + length v) (ends p (parse A v)) =
      put-ends u F p e (p + length v) j ee eu
      ∙ ap₂ (λ (a b : List ℕ). spliced_ends a p e (p + length v) b) (sym tabled) (ap (ends p) (sym one)) in
      record {
        length_now = em ∙ sym length_new;
        row_now = er ∙ ap (renewed row n 65535) (sym x);
        table_now = et ∙ ap (renewed t n 0) (sym y);
      }

  -- what a replacement leaves is the row of the changed tree with its table
  pub changed_right : (row' t' : List ℕ) (m : ℕ) → Replacing A row t n v p row' t' m
      → (m ≤ length row') × (parse A (take m row') ≡ changed A w p v) × Right A (take m row') t'
  unfolding table
  changed_right row' t' m c =
      let ok = allowed Symbols A in
      let F = changed A w p v in
      let u = tree_of A v in
      let ranked-u : Ranked A ok (single u) = subst (Ranked A ok) (parse_whole A ok v r.accepted) (ranked_parse A ok v 1 0 r.accepted) in
      let ranked : Ranked A ok F = put_ranked A ok u ranked-u (parse A w) p (ranked_parse A ok w 1 0 r.right.accepted) in
      let one : count F ≡ 1 = put_count u (parse A w) p ∙ count-parse A ok w 1 0 r.right.accepted in
      let lr : length row' ≡ length row = ap length c.row_now ∙ length-renewed row n 65535 (prefix F) r.within (omega (arith, length-prefix F, r.row_room)) in
      let lt : length t' ≡ length t =
      ap length c.table_now ∙ length-renewed t n 0 (ends 0 F) (omega (arith, long, r.right.sized.fits)) (omega (arith, length-ends 0 F, r.table-room)) in
      let reads : take m row' ≡ prefix F = ap (take m) c.row_now ∙ take-renewed row n 65535 (prefix F) m (length-prefix F ∙ sym c.length_now) in
      let tree : parse A (take m row') ≡ F = ap (parse A) reads ∙ parse-prefix A ok F ranked in
      let many : length (take m row') ≡ m = ap length reads ∙ length-prefix F ∙ sym c.length_now in (
        omega (arith, lr, c.length_now, r.row_room),
        tree,
        record {
          accepted = ap (verdict A ok 1 0) reads ∙ accepted_forest A ok F ranked one;
          sized = record { most = omega (arith, many, c.length_now, r.most); fits = omega (arith, many, lt, c.length_now, r.table-room) };
          right =
              ap (λ (k : ℕ). take k t') many
              ∙ ap (take m) c.table_now
              ∙ take-renewed t n 0 (ends 0 F) m (length-ends 0 F ∙ sym c.length_now)
              ∙ ap (ends 0) (sym tree);
        },
      )

  -- and its classes are those of that tree
  pub reclassed : (classes classes' row' t' : List ℕ) (m : ℕ) → Replacing A row t n v p row' t' m
      → classes' ≡ renewed classes n 0 (classesOfRow A (take m row')) → Reclassing A row classes n v p classes'
  unfolding classesOfRow
  reclassed classes classes' row' t' m c e =
      record { classes_now = e ∙ ap (λ f. renewed classes n 0 (classes_of f)) (changed_right row' t' m c).1 }
