-- Laws of the records with a file's entries written to the front.
-- Assumes nothing.
use Rattle.std.specs.Prelude.{Result, Ok, Err, ⊤}
use Prim.Native.Nat.{ℕ, zero, suc, ◌+◌, ◌*◌, ◌≤◌, ◌<◌}
use mathlib.Core.Path.{◌≡◌, refl, sym, ap, ap₂, ◌∙◌}
use mathlib.Core.List.{List, [], ◌∷◌, ◌++◌}
use native.Mathlib.Omega.{arith}
use lib.ListN.{length, set, drop, length-set}
use lib.Seq.{drop-drop}
use Rattle.wire.specs.Wire.{numbers}
use Rattle.catalogue.specs.Catalogue.{first_row}
use Rattle.catalogue.specs.Reading.{entry_at, entries_of, programmes_in, symbols_in, entries_in, first_row_in}
use Rattle.rows.specs.Refusals.{output}
use Rattle.catalogue.specs.Refusals.{head_fits, file_check, read_check}
use Rattle.rows.proofs.Passing.{both_fine, output_fine}
use Rattle.catalogue.proofs.Scan.{entry-drop}
use Rattle.catalogue.proofs.Read.{entries_of-length, heads}
use Rattle.catalogue.specs.declared.Entry.{Entry}
use Rattle.catalogue_read.specs.Records.{stored}
use Rattle.catalogue_read.specs.Answers.{holding, opened}
use Rattle.catalogue_read.specs.declared.Opened.{Opened}
use Rattle.rows.specs.declared.Refusal.{Refusal}

pub length-stored : (w : List ℕ) (n : ℕ) (es : List Entry) → length (stored w n es) ≡ length es
unfolding stored
length-stored w zero es = refl
length-stored w (suc n) es = length-set (stored w n es) n (entry_at w (2 + 6 * n)) ∙ length-stored w n es

-- the entries written one after the other stand in front of the later records
next : (bs es : List Entry) (n : ℕ) (e : Entry) → length bs ≡ n → n < length es → set (bs ++ drop n es) n e ≡ (bs ++ (e ∷ [])) ++ drop (suc n) es
next [] es zero e h k = first es k
  where
    first : (es : List Entry) → 0 < length es → set es 0 e ≡ e ∷ drop 1 es
    first [] k = absurd (omega arith)
    first (x ∷ es) k = refl
next [] es (suc n) e h k = absurd (omega arith)
next (b ∷ bs) es zero e h k = absurd (omega arith)
next (b ∷ bs) [] (suc n) e h k = absurd (omega arith)
next (b ∷ bs) (x ∷ es) (suc n) e h k = ap (λ (l : List Entry). b ∷ l) (next bs es n e (omega arith) (omega arith))

-- one entry more at the end
entries_last : (n : ℕ) (w : List ℕ) (i : ℕ) → entries_of (suc n) (drop i w) ≡ entries_of n (drop i w) ++ (entry_at w (i + 6 * n) ∷ [])
unfolding entries_of
entries_last zero w i = let on : i ≡ i + 6 * 0 = omega arith in ap (λ (e : Entry). e ∷ []) (entry-drop w i ∙ ap (entry_at w) on)
entries_last (suc n) w i =
    let on : i + 6 + 6 * n ≡ i + 6 * suc n = omega arith in
    ap (λ (l : List Entry). entry_at (drop i w) 0 ∷ l)
    (ap (entries_of (suc n)) (drop-drop 6 i w)
    ∙ entries_last n w (i + 6)
    ∙ ap₂ (λ (l : List Entry) (e : Entry). l ++ (e ∷ [])) (ap (entries_of n) (sym (drop-drop 6 i w))) (ap (entry_at w) on))

pub stored_is : (w : List ℕ) (n : ℕ) (es : List Entry) → n ≤ length es → stored w n es ≡ entries_of n (drop 2 w) ++ drop n es
unfolding stored entries_of
stored_is w zero es h = refl
stored_is w (suc n) es h =
    ap (λ (l : List Entry). set l n (entry_at w (2 + 6 * n))) (stored_is w n es (omega arith))
    ∙ next (entries_of n (drop 2 w)) es n (entry_at w (2 + 6 * n)) (entries_of-length n (drop 2 w)) (omega arith)
    ∙ ap (λ (l : List Entry). l ++ drop (suc n) es) (sym (entries_last n w 2))

-- what an accepted file says of the records
pub record Accepts (f : List ℕ) (m : ℕ) : Type 0 where
  pub room_for : programmes_in f ≤ m
  pub long : 4 + 12 * programmes_in f ≤ length f

pub accepts : (f : List ℕ) (m : ℕ) → read_check f m ≡ Ok tt → Accepts f m
unfolding read_check file_check output first_row_in first_row
accepts f m h =
    let a = both_fine (file_check f) _ h in
    let o = (heads f (both_fine (head_fits f) _ a.0).0).long in
    record {
      room_for = output_fine (programmes_in f) m a.1;
      long = omega arith;
    }

-- the entries of an accepted file stand in front of the later records
pub stored_all : (f : List ℕ) (es : List Entry) → read_check f (length es) ≡ Ok tt
    → stored (numbers f) (programmes_in f) es ≡ entries_in f ++ drop (length (entries_in f)) es
unfolding entries_in
stored_all f es h =
    let n = programmes_in f in
    let w = drop 2 (numbers f) in
    stored_is (numbers f) n es (accepts f (length es) h).room_for ∙ ap (λ (k : ℕ). entries_of n w ++ drop k es) (sym (entries_of-length n w))

-- where the answer is no refusal, nothing is refused, and it says what the head says
pub opened_fine : (c : Result ⊤ Refusal) (f : List ℕ) (o : Opened) → opened c f ≡ Ok o → (c ≡ Ok tt) × (o ≡ holding (programmes_in f) (symbols_in f))
opened_fine (Ok _) f o e = (refl, cc)
opened_fine (Err r) f o e = cc
