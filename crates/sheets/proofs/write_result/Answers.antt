-- `sheets::write_result` meets its contract: three numbers, one behind the other.
use Rattle.std.proofs.Common.{◌≡◌, ℕ, ◌+◌, ◌*◌, List, [], ◌∷◌, sym, ap, ◌∙◌, arith, add-zero}
use mathlib.Core.Path.{ap₂}
use Rattle.std.proofs.Math.ListN.{set}
use Rattle.rows.specs.Limits.{result_places}
use Rattle.rows.specs.Buffers.{written}
use Rattle.rows.proofs.Buffers.{written_nil, written_snoc}
use Rattle.sheets.proofs.write_result.Goals as goal

pub returns : goal.returns
returns c =
    let z : List ℕ = c.args.results.now in
    let at : ℕ = result_places * c.args.i in
    let x : ℕ = c.args.refusal in
    let y : ℕ = c.args.place in
    let n : ℕ = c.args.count in
    let one : set z at x ≡ written z at (x ∷ []) =
    ap₂ (λ (b : List ℕ) (k : ℕ). set b k x) (sym (written_nil z at)) (sym (add-zero at)) ∙ written_snoc z at [] x (omega (arith, c.requires.3)) in
    ap (λ (b : List ℕ). set (set b (at + 1) y) (at + 2) n) one
    ∙ ap (λ (b : List ℕ). set b (at + 2) n) (written_snoc z at (x ∷ []) y (omega (arith, c.requires.3)))
    ∙ written_snoc z at (x ∷ y ∷ []) n (omega (arith, c.requires.3))
