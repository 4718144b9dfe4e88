use Rattle.std.proofs.Common.{◌≡◌, ◌∙◌, ◌<◌, ◌≤◌, ◌+◌, ◌-◌, ap, ℕ, List, map, length, take, drop, get_or, arith, append-nil, length-take, length-drop}
use Rattle.std.proofs.lemmas.List.{length-map, get_or-take, get_or-drop, get_or_default, take_all, drop_all}
use Rattle.std.proofs.lemmas.List.Edits.{map_over_more}
use Rattle.buffers.specs.Shift.{shifted}
use Rattle.rows.specs.Buffers.{written}
use Rattle.buffers.proofs.Written.{written_part, mapped_next}
use Rattle.buffers.proofs.shift.Goals as goal

module _ (c : goal.After-row_known-1) where
  abbrev n : ℕ
  n = c.args.at + c.args.len - c.args.at

  abbrev old : List ℕ
  old = take n (drop c.args.at c.args.b.now)

  abbrev i : ℕ
  i = c.loop-x.x-index

  within : i < c.args.len
  within = omega (arith, length-take n (drop c.args.at c.args.b.now))

  read : get_or c.loop-x.x-items i 0 ≡ get_or c.args.b.now (c.args.at + i) 0
  read =
      ap (λ l. get_or l i 0) c.loop-x.invariant
      ∙ mapped_next (shifted c.args.from c.args.to) old i (omega arith)
      ∙ get_or-take n (drop c.args.at c.args.b.now) i 0 (omega (arith, within))
      ∙ get_or-drop c.args.at c.args.b.now i 0

pub overflow_sub-x : goal.overflow_sub-x
overflow_sub-x c = omega (arith, read c, c.requires.behind c.loop-x.x-index (within c))

pub overflow_add-x : goal.overflow_add-x
overflow_add-x c = record { fits = omega (arith, read c, c.requires.small c.loop-x.x-index (within c)) }

pub loop-x-preserved : goal.loop-x-preserved
loop-x-preserved c =
    let items = c.loop-x.x-items in
    let here = get_or items (i c) 0 in
    map_over_more (shifted c.args.from c.args.to) (old c) items (i c) here (omega arith) c.loop-x.invariant (get_or_default items (i c) 0 here (omega arith))

pub returns : goal.returns
returns c =
    let n = c.args.at + c.args.len - c.args.at in
    let all : n ≡ c.args.len = omega arith in
    let old = take n (drop c.args.at c.args.b.now) in
    let new = map (shifted c.args.from c.args.to) old in
    let long : length new ≡ n = simp (length-map, length-take, length-drop) (omega arith) in
    let end : length old ≤ c.loop-x.x-index = omega arith in
    let done : c.loop-x.x-items ≡ new = c.loop-x.invariant ∙ rw (take_all c.loop-x.x-index old end, drop_all c.loop-x.x-index old end) (append-nil new) in
    rw done (written_part c.args.b.now new c.args.at n long) ∙ ap (λ k. written c.args.b.now c.args.at (map (shifted c.args.from c.args.to) (take k (drop c.args.at c.args.b.now)))) all
