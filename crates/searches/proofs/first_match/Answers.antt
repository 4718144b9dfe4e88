-- `searches::first_match` meets its contract.
use Rattle.std.proofs.Common.{◌≡◌, ◌-◌, ◌≤◌, ◌<◌, ℕ, Bool, false, length, get_or, ◌∙◌, arith}
use mathlib.Core.Path.{subst}
use Rattle.rows.specs.Programme.{programme_of}
use Rattle.patterns.specs.Walk.{comes_through}
use Rattle.patterns.proofs.Matching.{checked_pattern}
use Rattle.searches.specs.Searches.{BareIs, range, passing}
use Rattle.searches.proofs.Passing.{passing_each, passing_empty, passing-first}
use Rattle.searches.proofs.Searching.{bare_here, clear_on, stopped, first_here, none_without}
use Rattle.searches.proofs.Keeping.{kept-first}
use Rattle.searches.proofs.first_match.Goals as goal

pub is_bare-requires : goal.is_bare-requires
is_bare-requires c = (checked_pattern c.requires.0 (programme_of c.args.programme) c.args.pattern.now c.requires.1).some

pub returns-then-is_bare : goal.returns-then-is_bare
returns-then-is_bare c a k =
    let q = c.args.pattern.now in
    bare_here (programme_of c.args.programme) q (subst (BareIs q) c.if-is_bare.true c.is_bare.ensures) a k

pub bounds-pattern-0 : goal.bounds-pattern-0
bounds-pattern-0 c = (checked_pattern c.requires.0 (programme_of c.args.programme) c.args.pattern.now c.requires.1).some

pub list_within-many-requires : goal.list_within-many-requires
list_within-many-requires c =
    let q = c.args.pattern.now in
    let P = programme_of c.args.programme in
    let over = c.pass_over-from.ensures in (
      record { searchable = c.requires; outlined = c.outline_of-outline.ensures P; symbol = subst (BareIs q) c.if-is_bare.false c.is_bare.ensures },
      record { on = omega (arith, c.min-to.ensures, over.1); short = omega (arith, c.min-to.ensures); within = omega (arith, c.min-to.ensures) },
      omega (arith, c.min-to.ensures, c.loop-p.invariant.1),
    )

pub returns-then-many-gt0 : goal.returns-then-many-gt0
returns-then-many-gt0 c a k =
    let q = c.args.pattern.now in
    let P = programme_of c.args.programme in
    let f : ℕ → Bool = comes_through P.row P.table q in
    let over = c.pass_over-from.ensures in
    let from = c.pass_over-from.result in
    let n = c.min-to.result - from in
    let kept = c.list_within-many.ensures in
    let same : c.from.result ≡ get_or (passing f (range from n)) 0 0 = c.from.ensures ∙ kept-first f _ (range from n) _ _ kept c.if-many-gt0.true in
    let each = passing_each f from n 0 (omega (arith, kept.end, c.if-many-gt0.true)) in
    let none : (x : ℕ) → c.loop-p.p ≤ x → x < from → f x ≡ false
    = none_without P q c.requires (subst (BareIs q) c.if-is_bare.false c.is_bare.ensures) c.loop-p.p from over.1 over.2 in
    rw same
    (first_here a P q k (get_or (passing f (range from n)) 0 0) (omega (arith, each.1, c.min-to.ensures, over.1)) each.2
    (clear_on f c.loop-p.p from (get_or (passing f (range from n)) 0 0) c.loop-p.invariant.2 none (λ x l u. passing-first f from n x l u)))

pub loop-p-preserved : goal.loop-p-preserved
loop-p-preserved c =
    let q = c.args.pattern.now in
    let P = programme_of c.args.programme in
    let f : ℕ → Bool = comes_through P.row P.table q in
    let over = c.pass_over-from.ensures in
    let from = c.pass_over-from.result in
    let to = c.min-to.result in
    let empty : length (passing f (range from (to - from))) ≡ 0 = omega (arith, c.list_within-many.ensures.end, c.if-many-gt0.false) in
    let none : (x : ℕ) → c.loop-p.p ≤ x → x < from → f x ≡ false
    = none_without P q c.requires (subst (BareIs q) c.if-is_bare.false c.is_bare.ensures) c.loop-p.p from over.1 over.2 in (
      omega (arith, c.min-to.ensures),
      omega (arith, c.list_within-many.auto, c.loop-p.invariant.1),
      clear_on f c.loop-p.p from to c.loop-p.invariant.2 none (λ x b u. passing_empty f from (to - from) empty x b (omega (arith, u, c.min-to.ensures, over.1))),
    )

pub returns : goal.returns
returns c a k x b u =
    stopped a (programme_of c.args.programme) c.args.pattern.now k x u (c.loop-p.invariant.2 x (omega (arith, u, c.loop-p-test.false)))
