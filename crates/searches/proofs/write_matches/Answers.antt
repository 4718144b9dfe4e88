-- `searches::write_matches` meets its contract.
use Rattle.std.proofs.Common.{◌≡◌, ◌+◌, ◌-◌, ◌≤◌, ◌<◌, ℕ, Bool, false, length, drop, length-take, length-drop, refl, sym, ap, ◌∙◌, arith}
use mathlib.Core.Path.{subst}
use borrow.Rule.Slice.PartMut.{same_len_mid}
use Rattle.rows.specs.Programme.{programme_of}
use Rattle.rows.specs.Buffers.{written}
use Rattle.patterns.specs.Walk.{comes_through, below}
use Rattle.patterns.proofs.Matching.{checked_pattern}
use Rattle.patterns.proofs.Listing.{listing}
use Rattle.searches.specs.Searches.{BareIs, positions_below, range, passing}
use Rattle.searches.proofs.Passing.{range_length, passing-length, below-passing}
use Rattle.searches.proofs.Searching.{none_without}
use Rattle.searches.proofs.Keeping.{kept_none, kept_on}
use Rattle.searches.proofs.Stretch.{kept_behind}
use Rattle.searches.proofs.Counting.{positions_length, listed_everywhere}
use Rattle.searches.proofs.write_matches.Goals as goal

pub is_bare-requires : goal.is_bare-requires
is_bare-requires c = (checked_pattern c.requires.0.0 (programme_of c.args.programme) c.args.pattern.now c.requires.0.1).some

pub write_positions-requires : goal.write_positions-requires
write_positions-requires c = (c.requires.1, c.requires.0.1.row.sized.most)

pub returns-then-is_bare : goal.returns-then-is_bare
returns-then-is_bare c a k =
    let q = c.args.pattern.now in
    let P = programme_of c.args.programme in
    let n = length P.row in
    record {
      positions = positions_below n;
      listed = listed_everywhere a P q k (subst (BareIs q) c.if-is_bare.true c.is_bare.ensures) n;
      told = (sym (positions_length n), c.requires.1, c.write_positions.ensures);
    }

pub loop-p-init : goal.loop-p-init
unfolding range
loop-p-init c = (omega arith, omega arith, refl, kept_none (comes_through c.args.programme.row.now c.args.programme.table.now c.args.pattern.now) c.args.out.now 0)

pub bounds-pattern-0 : goal.bounds-pattern-0
bounds-pattern-0 c = (checked_pattern c.requires.0.0 (programme_of c.args.programme) c.args.pattern.now c.requires.0.1).some

pub pass_over-from-requires : goal.pass_over-from-requires
pass_over-from-requires c = (c.loop-p.invariant.1, c.requires.0.1.row.sized.most)

pub list_within-count-requires : goal.list_within-count-requires
list_within-count-requires c =
    let q = c.args.pattern.now in
    let P = programme_of c.args.programme in
    let over = c.pass_over-from.ensures in (
      record { searchable = c.requires.0; outlined = c.outline_of-outline.ensures P; symbol = subst (BareIs q) c.if-is_bare.false c.is_bare.ensures },
      record { on = omega (arith, c.min-to.ensures, over.1); short = omega (arith, c.min-to.ensures); within = omega (arith, c.min-to.ensures) },
      omega (arith, length-take (length c.loop-p.out - c.loop-p.count) (drop c.loop-p.count c.loop-p.out), length-drop c.loop-p.count c.loop-p.out, c.loop-p.invariant, c.requires.1, over.0, over.1, c.min-to.ensures),
    )

pub overflow_add-count : goal.overflow_add-count
overflow_add-count c =
    let P = programme_of c.args.programme in
    let from = c.pass_over-from.result in
    let n = c.min-to.result - from in
    record {
      fits =
          omega (
            arith,
            c.list_within-count.ensures.end,
            passing-length (comes_through P.row P.table c.args.pattern.now) (range from n),
            range_length from n,
            c.min-to.ensures,
            c.loop-p.invariant.0,
            c.loop-p.invariant.1,
            c.requires.0.1.row.sized.most,
          );
    }

pub loop-p-preserved : goal.loop-p-preserved
loop-p-preserved c =
    let q = c.args.pattern.now in
    let P = programme_of c.args.programme in
    let f : ℕ → Bool = comes_through P.row P.table q in
    let over = c.pass_over-from.ensures in
    let from = c.pass_over-from.result in
    let to = c.min-to.result in
    let l = c.loop-p in
    let s = c.list_within-count.ensures in
    let none : (x : ℕ) → l.p ≤ x → x < from → f x ≡ false
    = none_without P q c.requires.0 (subst (BareIs q) c.if-is_bare.false c.is_bare.ensures) l.p from over.1 over.2 in (
      omega (arith, l.invariant.0, s.end, passing-length f (range from (to - from)), range_length from (to - from), c.min-to.ensures, over.0, over.1),
      omega (arith, c.min-to.ensures),
      same_len_mid l.count (length l.out - l.count) l.out c.list_within-count.new.out c.list_within-count.auto.out ∙ l.invariant.2,
      kept_on f c.args.out.now l.p from to l.count (l.count + c.list_within-count.result) l.out _ l.invariant.3 over.0 (omega (arith, c.min-to.ensures, over.1)) none
          (kept_behind f (range from (to - from)) l.out l.count c.list_within-count.result c.list_within-count.new.out (omega (arith, l.invariant.0, l.invariant.1, l.invariant.2, c.requires.1)) s),
    )

pub returns : goal.returns
returns c a k =
    let P = programme_of c.args.programme in
    let f : ℕ → Bool = comes_through P.row P.table c.args.pattern.now in
    let n = length P.row in
    let l = c.loop-p in
    let at_end : l.p ≡ n = omega (arith, l.invariant.1, c.loop-p-test.false) in
    let same : passing f (range 0 l.p) ≡ below f n = ap (λ (m : ℕ). passing f (range 0 m)) at_end ∙ sym (below-passing f n) in
    record {
      positions = below f n;
      listed = listing a P c.args.pattern.now k n (omega arith);
      told = (
        omega (arith, l.invariant.3.end, ap length same),
        omega (arith, l.invariant.0, l.invariant.1, c.requires.1),
        l.invariant.3.buffer ∙ ap (written c.args.out.now 0) same,
      );
    }
