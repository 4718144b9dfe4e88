-- Laws of lists that are rewritten before a place alone.
-- Assumes nothing.
use Rattle.std.proofs.Common.{ℕ, ◌<◌, List, length-set, set, refl, ◌∙◌}
use lib.Seq.{drop-set-lt}
use Rattle.classes.specs.Lasts.{Rewrote}

pub rewrote_none : (n : ℕ) (c : List ℕ) → Rewrote n c c
rewrote_none n c = record { long = refl; stays = refl }

-- one number is put
pub rewrote_set : (n : ℕ) (c : List ℕ) (p v : ℕ) → p < n → Rewrote n c (set c p v)
rewrote_set n c p v h = record { long = length-set c p v; stays = drop-set-lt n c p v h }

-- one call after another
pub rewrote_then : {n : ℕ} {a b c : List ℕ} → Rewrote n a b → Rewrote n b c → Rewrote n a c
rewrote_then x y = record { long = y.long ∙ x.long; stays = y.stays ∙ x.stays }
