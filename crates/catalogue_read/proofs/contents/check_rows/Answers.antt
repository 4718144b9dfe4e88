-- `catalogue_read::contents::check_rows` meets its contract. The row of the entry at k decides what is said from k on.
use Rattle.std.proofs.Common.{ℕ, List, ◌≡◌, ◌+◌, ◌-◌, ◌*◌, ◌<◌, length, take, drop, map, sym, ap, subst, ◌∙◌, arith, Result, Ok, Err}
use Rattle.std.proofs.lemmas.Grind.{common_steps}
use Rattle.std.specs.Prelude.{⊤}
use Rattle.rows.specs.Limits.{row_most}
use Rattle.rows.specs.Row.{reading}
use Rattle.rows.specs.Refusals.{◌then◌}
use Rattle.rows.specs.declared.Fault.{Fault}
use Rattle.rows.specs.declared.Leaves.TheVariants.{Symbols}
use Rattle.wire.specs.Wire.{numbers}
use Rattle.catalogue.specs.Reading.{wide, programme_in}
use Rattle.catalogue.specs.Refusals.{placed, as_programme, rows_fit}
use Rattle.catalogue.specs.declared.Entry.{Entry}
use Rattle.catalogue.proofs.Scan.{entries_all, entries_from, placed_lies, row_lies, rows_at, rows_done}
use Rattle.catalogue_read.proofs.contents.check_rows.Goals as goal

-- what is said from entry k on, by the verdict on the row there
step : (A f : List ℕ) (n k next long : ℕ) (v : Result ⊤ Fault) → k < n → placed (length f) (4 + 12 * k) next (entries_from (numbers f) n k) ≡ Ok tt
    → long ≡ wide (numbers f) (6 + 6 * k)
    → v ≡ reading A Symbols row_most (numbers (take (next + 2 * long - next) (drop next f)))
    → rows_fit A (map (programme_in f) (entries_from (numbers f) n k))
    ≡ as_programme (wide (numbers f) (2 + 6 * k)) v then rows_fit A (map (programme_in f) (entries_from (numbers f) n (k + 1)))
step A f n k next long v h p e q =
    let lies = placed_lies (length f) next (numbers f) n k h p in
    rows_at A f (numbers f) n k h
    ∙ ap (λ (x : Result ⊤ Fault). as_programme (wide (numbers f) (2 + 6 * k)) x then rows_fit A (map (programme_in f) (entries_from (numbers f) n (k + 1))))
    (ap (reading A Symbols row_most) (row_lies f (numbers f) next k long lies.begins e) ∙ sym q)

pub loop-k-init : goal.loop-k-init
loop-k-init c =
    let a = c.args in (
      c.requires.n_in_bounds.1,
      ap (placed (length a.file.now) 4 a.first) (sym (entries_all a.n (numbers a.file.now))) ∙ c.requires.file_value,
      ap (λ (es : List Entry). rows_fit a.arities.now (map (programme_in a.file.now) es)) (entries_all a.n (numbers a.file.now)),
    )

pub overflow_add-end : goal.overflow_add-end
overflow_add-end c =
    let f = c.args.file.now in
    let lies = placed_lies (length f) c.loop-k.next (numbers f) c.args.n c.loop-k.k (omega arith) c.loop-k.invariant.1 in
    record { fits = omega (arith, lies.within, c.wide_at.ensures, c.requires.n_in_bounds.2) }

pub slice_bounds-check_reading-end : goal.slice_bounds-check_reading-end
slice_bounds-check_reading-end c =
    let f = c.args.file.now in
    let lies = placed_lies (length f) c.loop-k.next (numbers f) c.args.n c.loop-k.k (omega arith) c.loop-k.invariant.1 in
    omega (arith, lies.within)

pub returns-in_err-map_err : goal.returns-in_err-map_err
returns-in_err-map_err c =
    let l = c.loop-k in
    let on = step c.args.arities.now c.args.file.now c.args.n l.k l.next c.wide_at.result c.check_reading.result (omega arith) l.invariant.1 c.wide_at.ensures c.check_reading.ensures in
    let told : c.map_err.result ≡ as_programme c.wide_at-number.result c.check_reading.result = grind (arith, common_steps) in
    let failed : c.from_residual.result ≡ c.map_err.result = grind (arith, common_steps) in
    let said : as_programme (wide (numbers c.args.file.now) (2 + 6 * l.k)) c.check_reading.result ≡ Err c.in_err-map_err.field-0.0 =
    ap (λ (n : ℕ). as_programme n c.check_reading.result) (sym c.wide_at-number.ensures) ∙ sym told ∙ c.in_err-map_err.was in
    failed ∙ c.in_err-map_err.was ∙ sym (l.invariant.2 ∙ on ∙ simp said)

pub loop-k-preserved : goal.loop-k-preserved
loop-k-preserved c =
    let f = c.args.file.now in
    let l = c.loop-k in
    let lies = placed_lies (length f) l.next (numbers f) c.args.n l.k (omega arith) l.invariant.1 in
    let on = step c.args.arities.now f c.args.n l.k l.next c.wide_at.result c.check_reading.result (omega arith) l.invariant.1 c.wide_at.ensures c.check_reading.ensures in
    let fine : c.check_reading.result ≡ Ok tt = grind (arith, common_steps) in (
      omega (arith, c.wide_at.ensures, lies.within),
      subst (λ (m : ℕ). placed (length f) (4 + 12 * (l.k + 1)) (l.next + 2 * m) (entries_from (numbers f) c.args.n (l.k + 1)) ≡ Ok tt) (sym c.wide_at.ensures) lies.rest,
      l.invariant.2 ∙ on ∙ simp fine,
    )

pub returns : goal.returns
returns c =
    let f = c.args.file.now in
    sym (c.loop-k.invariant.2 ∙ rows_done c.args.arities.now f (numbers f) c.args.n c.loop-k.k (omega arith))
