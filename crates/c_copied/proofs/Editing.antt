-- Replace on copies: they are changed as the row, its table and its classes are to be, and as much of them is written back as can have changed.
-- Assumes nothing.
use Rattle.std.specs.Prelude.{Result, Ok, Err, ⊤}
use Prim.Native.Nat.{ℕ, ◌+◌, ◌-◌, ◌≤◌, min, max}
use mathlib.Core.Path.{◌≡◌, refl, sym, ap, ap₂, subst, ◌∙◌}
use mathlib.Core.List.{List, ◌++◌, append_assoc}
use native.Mathlib.Nat.{zero-add}
use native.Mathlib.Omega.{arith}
use lib.IntN.{ℤ, pos, ◌-ℤ◌}
use lib.ListN.{length, take, drop, get_or, replicate, length-append, length-replicate}
use lib.Seq.{length-take-le, take_at}
use Rattle.rows.specs.Limits.{row_most, freed_symbol, freed_entry, freed_class}
use Rattle.rows.specs.Programme.{Alphabet, Programme, programme, room}
use Rattle.rows.specs.Buffers.{written, after}
use Rattle.rows.specs.Tree.{Forest, size, prefix, ends}
use Rattle.rows.specs.Classes.{classes_of}
use Rattle.rows.specs.Refusals.{◌then◌, given, replacement, position, grown}
use Rattle.rows.specs.declared.Refusal.{Refusal}
use Rattle.rows.proofs.Tree.{length-prefix, length-ends}
use Rattle.rows.proofs.Alike.{length-classes}
use Rattle.tables.specs.Given.{Right, Classed}
use Rattle.tables.proofs.Given.{Held, right_bounds}
use Rattle.buffers.specs.Renewed.{renewed}
use Rattle.edits.specs.Put.{changed}
use Rattle.edits.specs.Replace.{Replaceable, Replacing, ClassRoom, Reclassing}
use Rattle.edits.proofs.Replace.{new_length}
use Rattle.checks.specs.Checks.{replace_check}
use Rattle.checks.proofs.Replacing.{given_held, place-behind, replace_held, replace_able, replace_classes}
use Rattle.wire.specs.Wire.{numbers, bytes_of, Bytes}
use Rattle.wire.proofs.Numbers.{written_again}
use Rattle.sparrowhem.specs.Edit.{new_tree, holding}
use Rattle.c_lent.specs.Answer.{granted, replace_answer}
use Rattle.c_lent.specs.Lent.{Lent, AreBytes, numbers_of}
use Rattle.c_lent.specs.Calls.{ReplacedBytes}
use Rattle.c_lent.proofs.Lists.{same_lent, rewritten_same}
use Rattle.c_copied.specs.Copies.{Copied}

-- a replacement that is refused leaves the bytes
pub replaced_refused : (a : Alphabet) (b : Lent) (n : ℕ) (v : List ℕ) (p : ℕ) → AreBytes b → (r : Result (ℕ × ℤ) Refusal) (x : Refusal)
    → r ≡ Err x → replace_check a (numbers_of b) n v p ≡ Err x → ReplacedBytes a b n v p (replace_answer r) b
replaced_refused a b n v p small r x z e =
    let P : Programme = numbers_of b in
    record {
      outcome = Err x;
      left = P;
      call = record { answer = simp e; lists = sym (ap (λ (q : Result ⊤ Refusal). after q (holding P n (new_tree a P n v p)) P) e) };
      answer = ap replace_answer z;
      bytes = sym (rewritten_same b small);
    }

-- Copies of the first n numbers of a row that is right, of its table and of its classes, in lists that have room for them.
module _ (a : Alphabet) (P : Programme) (n : ℕ) (w t k : List ℕ) (c : Copied P n w t k) (h : Held a P n) (fits : n ≤ room (programme w t k)) where
  row_long : length (take n P.row) ≡ n
  row_long = length-take-le n P.row (omega (arith, h.fits))

  copy_right : Right a.arities (take n w) t
  copy_right =
      subst (λ (l : List ℕ). Right a.arities l t) (sym c.row)
      (record {
        accepted = h.order.row.accepted;
        sized = record { most = h.order.row.sized.most; fits = omega (arith, row_long) };
        right = ap (λ (k : ℕ). take k t) row_long ∙ c.table ∙ ap (λ (k : ℕ). take k P.table) (sym row_long) ∙ h.order.row.right;
      })

  copy_classed : Classed a.arities (take n w) k
  copy_classed =
      subst (λ (l : List ℕ). Classed a.arities l k) (sym c.row)
      (record {
        fits = omega (arith, row_long);
        right = ap (λ (i : ℕ). take i k) row_long ∙ c.classes ∙ ap (λ (i : ℕ). take i P.classes) (sym row_long) ∙ h.order.classed.right;
      })

  pub copy_held : Held a (programme w t k) n
  copy_held = record { some = h.some; most = h.most; fits = fits; order = record { row = copy_right; classed = copy_classed } }

  -- refusals 24 to 29, 17 and 18, told by the copy of the table
  pub copy_decides : (v : List ℕ) (p : ℕ) → given a P n ≡ Ok tt
      → replace_check a P n v p ≡ replacement a.arities v then position n p then grown (p + length v + (n - get_or t p 0)) (room P)
  unfolding replace_check
  copy_decides v p e =
      ap (λ (g : Result ⊤ Refusal). g then replacement a.arities v then position n p then grown (size (new_tree a P n v p)) (room P)) e
      ∙ ap (λ (l : List ℕ). replacement a.arities v then position n p then grown (size (changed a.arities l p v)) (room P)) (sym c.row)
      ∙ sym (place-behind a (programme w t k) n v p (room P) copy_held)

  -- the copies can be changed
  module _ (v : List ℕ) (p : ℕ) (e : replace_check a P n v p ≡ Ok tt) where
    abbrev A : List ℕ
    A = a.arities

    able : Replaceable A P.row P.table n v p
    able = replace_able a P n v p e

    few : (size (changed A (take n w) p v) ≤ n + length v) × (size (changed A (take n w) p v) ≤ row_most)
    few =
        let same : size (changed A (take n w) p v) ≡ size (changed A (take n P.row) p v) = ap (λ (l : List ℕ). size (changed A l p v)) c.row in
        let long : length (take n w) ≡ n = ap length c.row ∙ row_long in
        let new = new_length A (take n w) t v p copy_right able.accepted (omega (arith, able.position)) in
        let end = right_bounds A (take n w) t copy_right p (omega (arith, able.position)) in
        (omega (arith, new, end), omega (arith, able.most))

    pub copy_able : min row_most (n + length v) ≤ length w → min row_most (n + length v) ≤ length t → Replaceable A w t n v p
    copy_able row_fits table_fits =
        record {
          within = omega arith;
          right = copy_right;
          accepted = able.accepted;
          position = able.position;
          most = few.1;
          row_room = omega (arith, few);
          table-room = omega (arith, few);
        }

    pub copy_classes : min row_most (n + length v) ≤ length k → ClassRoom A w k n v p
    copy_classes classes-fit = record { old = omega arith; new = omega (arith, few) }

-- written back: as far as the old row goes or the new one, whatever the copy holds behind them
back : (b w new : List ℕ) (n x : ℕ) → Bytes b → n ≤ length (numbers b) → length new ≤ length (numbers b)
    → written b 0 (bytes_of (take (max n (length new)) (renewed w n x new))) ≡ written b 0 (bytes_of (renewed (numbers b) n x new))
unfolding renewed written
back b w new n x small h k =
    let front : List ℕ = new ++ replicate (n - length new) x in
    let m : ℕ = max n (length new) in
    let long : length front ≡ m = length-append new (replicate (n - length new) x) ∙ omega (arith, length-replicate (n - length new) x) in
    let split : (l : List ℕ) → new ++ (replicate (n - length new) x ++ drop m l) ≡ front ++ drop m l =
    λ l. sym (append_assoc new (replicate (n - length new) x) (drop m l)) in
    let whole : written (numbers b) 0 front ≡ new ++ (replicate (n - length new) x ++ drop m (numbers b)) =
    ap (λ (i : ℕ). front ++ drop i (numbers b)) (zero-add (length front) ∙ long) ∙ sym (split (numbers b)) in
    ap (λ (l : List ℕ). written b 0 (bytes_of l)) (ap (take m) (split w) ∙ take_at front (drop m w) m long)
    ∙ sym (written_again b front small (omega (arith, long)))
    ∙ ap (λ (l : List ℕ). written b 0 (bytes_of l)) whole

-- a replacement that refuses nothing: the copies as they are left, and their fronts written back
pub replaced_done : (a : Alphabet) (b : Lent) (n : ℕ) (v : List ℕ) (p : ℕ) → AreBytes b → (w t k w' t' k' : List ℕ) (m : ℕ) (d : ℤ) → Copied (numbers_of b) n w t k
    → replace_check a (numbers_of b) n v p ≡ Ok tt → Replacing a.arities w t n v p w' t' m → Reclassing a.arities w k n v p k' → d ≡ pos m -ℤ pos n → (b' : Lent)
    → b'.row ≡ written b.row 0 (bytes_of (take (max n m) w')) → b'.table ≡ written b.table 0 (bytes_of (take (max n m) t'))
    → b'.classes ≡ written b.classes 0 (bytes_of (take (max n m) k')) → ReplacedBytes a b n v p (granted m d) b'
replaced_done a b n v p small w t k w' t' k' m d c e now named by b' row_now table_now classes_now =
    let A : List ℕ = a.arities in
    let P : Programme = numbers_of b in
    let f : Forest = new_tree a P n v p in
    let r = replace_able a P n v p e in
    let room = replace_classes a P n v p e in
    let h = given_held a P n (replace_held a P n v p e) in
    let same : changed A (take n w) p v ≡ f = ap (λ (l : List ℕ). changed A l p v) c.row in
    let m-is : m ≡ size f = now.length_now ∙ ap size same in
    let row_is : w' ≡ renewed w n freed_symbol (prefix f) = now.row_now ∙ ap (λ (g : Forest). renewed w n freed_symbol (prefix g)) same in
    let table_is : t' ≡ renewed t n freed_entry (ends 0 f) = now.table_now ∙ ap (λ (g : Forest). renewed t n freed_entry (ends 0 g)) same in
    let classes_are : k' ≡ renewed k n freed_class (classes_of f) = named.classes_now ∙ ap (λ (g : Forest). renewed k n freed_class (classes_of g)) same in
    let fronts : (y l l' new : List ℕ) (x : ℕ) → Bytes y → n ≤ length (numbers y) → size f ≤ length (numbers y) → length new ≡ size f → l' ≡ renewed l n x new → (z : List ℕ)
    → z ≡ written y 0 (bytes_of (take (max n m) l')) → z ≡ written y 0 (bytes_of (renewed (numbers y) n x new)) =
    λ y l l' new x bytes old fits long is z told.
    told
    ∙ ap₂ (λ (i : ℕ) (g : List ℕ). written y 0 (bytes_of (take (max n i) g))) (m-is ∙ sym long) is
    ∙ back y l new n x bytes old (omega (arith, long)) in
    record {
      outcome = Ok (m, d);
      left = holding P n f;
      call = record {
        answer = simp e (ap (λ (x : ℤ). Ok (m, x)) by ∙ ap (λ (k : ℕ). Ok (k, (pos k -ℤ pos n))) m-is);
        lists = sym (ap (λ (q : Result ⊤ Refusal). after q (holding P n f) P) e);
      };
      answer = refl;
      bytes =
          same_lent
          (fronts b.row w w' (prefix f) freed_symbol small.row (omega (arith, h.fits)) r.row_room (length-prefix f) row_is b'.row row_now)
          (fronts b.table t t' (ends 0 f) freed_entry small.table (omega (arith, h.fits)) r.table-room (length-ends 0 f) table_is b'.table table_now)
          (fronts b.classes k k' (classes_of f) freed_class small.classes (omega (arith, h.fits)) room.new (length-classes f) classes_are b'.classes classes_now);
    }
