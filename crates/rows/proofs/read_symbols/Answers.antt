-- `rows::read_symbols` meets its contract. Of the stretches that are due only the children are counted.
use Rattle.std.proofs.Common.{ℕ, ◌≡◌, ◌≤◌, ◌+◌, ◌-◌, ◌*◌, ◌/◌, List, length, sym, ap, ◌∙◌, take, drop, subst, arith}
use Rattle.rows.specs.Reading.{SymbolsTo, children}
use Rattle.rows.proofs.Stretches.{symbols_start, read_many, part_length, part_at, part_children}
use Rattle.rows.proofs.read_symbols.Goals as goal

-- m symbols from i on
from : (w s : List ℕ) (i m : ℕ) → s ≡ take (i + m - i) (drop i w) → s ≡ take m (drop i w)
from w s i m e = let long : i + m - i ≡ m = omega arith in e ∙ ap (λ (n : ℕ). take n (drop i w)) long

pub loop-i-init : goal.loop-i-init
loop-i-init g c = symbols_start c.args.arities.now (g.E.Piece.numbers c.args.row.now)

pub add_arities-due-requires : goal.add_arities-due-requires
add_arities-due-requires g c =
    let w = g.E.Piece.numbers c.args.row.now in
    let s = g.E.Piece.numbers c.part.result.now in
    let i = c.loop-i.i in
    let m = (c.min.result - i) / 16 * 16 in
    let within : i + m ≤ length w = omega (arith, c.requires.0.0, c.min.ensures, c.loop-i-test.true) in
    let is = from w s i m c.part.ensures in
    let long = part_length w s i m within is in
    (omega (arith, long, c.requires.1), λ k h. omega (arith, c.requires.0.1 (i + k) (omega (arith, long, c.min.ensures)), part_at w s i m within is k (omega (arith, long))))

pub loop-i-preserved-then-whole-gt0 : goal.loop-i-preserved-then-whole-gt0
loop-i-preserved-then-whole-gt0 g c =
    let A = c.args.arities.now in
    let w = g.E.Piece.numbers c.args.row.now in
    let s = g.E.Piece.numbers c.part.result.now in
    let i = c.loop-i.i in
    let due = c.loop-i.due in
    let m = (c.min.result - i) / 16 * 16 in
    let within : i + m ≤ length w = omega (arith, c.requires.0.0, c.min.ensures, c.loop-i-test.true) in
    let is = from w s i m c.part.ensures in
    let sum : c.add_arities-due.result ≡ children A w i m = c.add_arities-due.ensures.0 ∙ part_children w s i m within is A in
    let read = read_many A w i due c.loop-i.invariant m within (omega (arith, c.min.ensures, c.loop-i.invariant.1)) (λ j h. c.requires.0.1 (i + j) (omega (arith, c.min.ensures))) (λ k. omega (arith, c.type_inv.arities k)) in
    subst (λ (k : ℕ). SymbolsTo A w (i + m) (due + k)) (sym sum) read
