-- Inside: no public contract cites what stands in this file, and no reader has to believe it.
-- What a pass from right to left over a row and its table keeps: the ends of the trees that stand side by side, and the first
-- entry that is not the row's.
use Rattle.std.specs.Prelude.{ℕ, ◌+◌, ◌≡◌, List, ltb, length, get_or, drop, Result, Ok, Err, ⊤, Option, Some, None}
use Rattle.rows.specs.Tree.{Forest, Forest.none, Forest.grow, count, size, ends, Ranked}
use Rattle.rows.specs.Parse.{first, behind}
use Rattle.rows.specs.Row.{pick, allowed}
use Rattle.rows.specs.Reading.{Accepted}
use Rattle.rows.specs.Refusals.{differs}
use Rattle.rows.specs.declared.Leaves.TheVariants.{Symbols}
use Rattle.rows.specs.declared.Kept.{Kept}
use Rattle.rows.specs.declared.Kept.TheVariants.{Stale}
use Rattle.rows.specs.declared.Refusal.{Refusal}

-- the list holds the ends of the trees of a forest that starts at b: at place k that of the tree with k trees to its right
unfoldable pub Standing : List ℕ → ℕ → Forest → Type 0
Standing l b none = Unit {0}
Standing l b (grow s cs f) = (get_or l (count f) 0 ≡ b + size cs + 1) × Standing l (b + size cs + 1) f

-- what is refused where the first stale entry of a row of n symbols stands at k, nothing where k is past the row
abbrev pub stale_from : (Kept → Refusal) → ℕ → ℕ → Result ⊤ Refusal
stale_from whose n k = pick (ltb k n) (Err (whose (Stale k))) (Ok tt)

-- at place p: the row is read from there on, `trees` stand there side by side, and the list l holds their ends
pub record Stands (A w l : List ℕ) (trees p : ℕ) : Type 0 where
  pub ranked : Ranked A (allowed Symbols A) (behind A w p)
  pub counted : trees ≡ count (behind A w p)
  pub standing : Standing l p (behind A w p)

-- what the symbol at p adds to that: the row is no tree's; or it is read from p on, and its subtree ends at e
abbrev pub Places : List ℕ → List ℕ → ℕ → List ℕ → Option (ℕ × ℕ) → Type 0
Places A w p l None = Accepted A w → ⊥
Places A w p l (Some (trees, e)) = Stands A w l trees p × (e ≡ p + 1 + size (first (get_or A (get_or w p 0) 0) (behind A w (p + 1))))

-- and of the entries from place p on the first that is not the row's stands at `stale`
pub record Passed (A w t l : List ℕ) (trees stale p : ℕ) : Type 0 where
  pub stands : Stands A w l trees p
  pub told : (whose : Kept → Refusal) → differs (λ k. whose (Stale k)) p (ends p (behind A w p)) (drop p t) ≡ stale_from whose (length w) stale

-- what the symbol at p and its entry add to that where row and table agree behind p: row and table are read from p on, and agree there; a no says nothing
abbrev pub Agrees : List ℕ → List ℕ → List ℕ → ℕ → List ℕ → Option ℕ → Type 0
Agrees A w t p l None = Unit {0}
Agrees A w t p l (Some trees) = Passed A w t l trees (length w) p
