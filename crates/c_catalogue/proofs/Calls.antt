-- What meets the writer's contract under an alphabet that is too long.
-- Assumes nothing.
use Rattle.std.specs.Prelude.{Result, Ok, Err, ⊤}
use Prim.Native.Nat.{ℕ, ◌<◌}
use mathlib.Core.Path.{◌≡◌, refl, sym, ap, ◌∙◌}
use mathlib.Core.List.{List}
use lib.ListN.{length}
use Rattle.rows.specs.Limits.{alphabet_most}
use Rattle.rows.specs.Buffers.{written, after}
use Rattle.rows.specs.Refusals.{◌then◌}
use Rattle.rows.specs.declared.Arities.TheVariants.{Count}
use Rattle.rows.specs.declared.Refusal.{Refusal}
use Rattle.rows.specs.declared.Refusal.TheVariants.{Arities}
use Rattle.rows.proofs.Passing.{alphabet_long}
use Rattle.catalogue.specs.Catalogue.{file_of}
use Rattle.catalogue.specs.Refusals.{few, catalogue_of, given_fits, write_check}
use Rattle.catalogue_write.specs.Answers.{filed, Writes}

-- a refusal, with the buffer as it was
refused : (A ns ls w b : List ℕ) (x : Refusal) (r : Result ℕ Refusal) → write_check A ns ls w (length b) ≡ Err x → r ≡ Err x → Writes A ns ls w b r b
refused A ns ls w b x r h e =
    let file = file_of (catalogue_of A ns ls w) in
    record {
      answer = e ∙ sym (ap (λ (c : Result ⊤ Refusal). filed c (length file)) h);
      file = sym (ap (λ (c : Result ⊤ Refusal). after c (written b 0 file) b) h);
    }

-- the number of the programmes and that of the symbols decide
pub long_refused : (A ns ls w b : List ℕ) → alphabet_most < length A → (r : Result ℕ Refusal)
    → ((size : ℕ) → r ≡ filed (few (length ns) then Err (Arities (Count (length A)))) size)
    → Writes A ns ls w b r b
unfolding write_check given_fits
long_refused A ns ls w b h r e = go (few (length ns)) refl
  where
    go : (c : Result ⊤ Refusal) → few (length ns) ≡ c → Writes A ns ls w b r b
    go (Err x) q = refused A ns ls w b x r (simp q) (e 0 ∙ simp q)
    go (Ok _) q = refused A ns ls w b (Arities (Count (length A))) r (simp (q, alphabet_long A h)) (e 0 ∙ simp q)
