-- What a build on lent bytes leaves.
-- Assumes nothing.
use Rattle.std.specs.Prelude.{Result, Ok, Err, ⊤}
use Rattle.std.proofs.Common.{ℕ, ◌≡◌, ◌≤◌, ◌*◌, sym, ap, List, length, drop, arith}
use Rattle.rows.specs.Programme.{Alphabet}
use Rattle.rows.specs.Parse.{table as table_of}
use Rattle.rows.specs.Classes.{classes as classesOfRow}
use Rattle.rows.specs.Buffers.{written, after}
use Rattle.rows.specs.declared.Refusal.{Refusal}
use Rattle.rows.proofs.Buffers.{length-written}
use Rattle.rows.proofs.Classes.{class_of_row}
use Rattle.rows.proofs.Entry.{length-table}
use Rattle.wire.specs.Wire.{numbers, bytes_of, Bytes}
use Rattle.wire.proofs.Odd.{numbers_over}
use Rattle.checks.specs.Checks.{build_check}
use Rattle.checks.proofs.Building.{build_fillable, build_classes}
use Rattle.sparrowhem.specs.Build.{built}
use Rattle.c_lent.specs.Answer.{find_answer}
use Rattle.c_lent.specs.Lent.{Lent, numbers_of}
use Rattle.c_lent.specs.Calls.{BuiltBytes}
use Rattle.c_lent.proofs.Lists.{same_lent, beside_same}

-- a refusal leaves the bytes, which are those of their numbers
pub built_refused : (a : Alphabet) (b : Lent) → Bytes b.table → Bytes b.classes → (r : Result ℕ Refusal) (x : Refusal) → r ≡ Err x → build_check a (numbers_of b) ≡ Err x
    → BuiltBytes a b (find_answer r) b
built_refused a b t c r x is e =
    record {
      outcome = Err x;
      left = numbers_of b;
      call = record { answer = sym e; lists = sym (ap (λ (d : Result ⊤ Refusal). after d (built a (numbers_of b)) (numbers_of b)) e) };
      answer = ap find_answer is;
      bytes = sym (beside_same b t c);
    }

-- numbers written at the front of bytes, with what is no number left as it was
over : (b b' v : List ℕ) → Bytes b' → length v ≤ length (numbers b) → numbers b' ≡ written (numbers b) 0 v → drop (2 * length (numbers b')) b' ≡ drop (2 * length (numbers b)) b
    → b' ≡ written b 0 (bytes_of (written (numbers b) 0 v))
over b b' v small fits are odd = numbers_over b b' (written (numbers b) 0 v) small (length-written (numbers b) 0 v (omega arith)) are odd

-- table and classes are filled in
pub built_done : (a : Alphabet) (b b' : Lent) (r : Result ℕ Refusal) → Bytes b'.table → Bytes b'.classes → build_check a (numbers_of b) ≡ Ok tt
    → r ≡ Ok (length (numbers_of b).row) → b'.row ≡ b.row → numbers b'.table ≡ written (numbers b.table) 0 (table_of a.arities (numbers b.row))
    → drop (2 * length (numbers b'.table)) b'.table ≡ drop (2 * length (numbers b.table)) b.table
    → numbers b'.classes ≡ written (numbers b.classes) 0 (classesOfRow a.arities (numbers b.row))
    → drop (2 * length (numbers b'.classes)) b'.classes ≡ drop (2 * length (numbers b.classes)) b.classes
    → BuiltBytes a b (find_answer r) b'
built_done a b b' r t c e is row table table-odd classes classes-odd =
    let f = build_fillable a (numbers_of b) e in
    let k = build_classes a (numbers_of b) e in
    record {
      outcome = Ok tt;
      left = built a (numbers_of b);
      call = record { answer = sym e; lists = sym (ap (λ (d : Result ⊤ Refusal). after d (built a (numbers_of b)) (numbers_of b)) e) };
      answer = ap find_answer is;
      bytes =
          same_lent row
          (over b.table b'.table _ t (omega (arith, length-table a.arities (numbers b.row), f.fits)) table table-odd)
          (over b.classes b'.classes _ c (omega (arith, (class_of_row a.arities (numbers b.row)).0, k)) classes classes-odd);
    }
