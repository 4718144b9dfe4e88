-- `edits::move_holders` meets its contract.
use Rattle.std.proofs.Common.{◌≤◌, sym, subst, ◌≡◌, ◌∙◌, ◌<◌, ◌++◌, ap, ℕ, List, map, length, take, drop, get_or, arith, append-nil, length-take}
use Rattle.std.proofs.lemmas.List.{get_or-take, get_or_default, take_all, drop_all}
use Rattle.std.proofs.lemmas.List.Edits.{map_over_more}
use Rattle.buffers.proofs.Written.{mapped_next, written_to}
use Rattle.edits.specs.Moved.{moved}
use Rattle.edits.proofs.Before.{length_before, before_small}
use Rattle.edits.proofs.move_holders.Goals as goal

-- the entry that is next is still as it was
read : (f : ℕ → ℕ) (t items : List ℕ) (p i : ℕ) → items ≡ map f (take i (take p t)) ++ drop i (take p t) → i < length (take p t) → get_or items i 0 ≡ get_or t i 0
read f t items p i e h = ap (λ l. get_or l i 0) e ∙ mapped_next f (take p t) i h ∙ get_or-take p t i 0 (omega (arith, length-take p t))

pub moved_end-requires : goal.moved_end-requires
moved_end-requires c =
    let a = c.args in
    let l = c.loop-x in
    subst (λ (x : ℕ). moved a.e a.to x < 65536) (sym (read (moved a.e a.to) a.table.now l.x-items a.p l.x-index l.invariant c.loop-x-test.true))
    (before_small a.table.now c.requires.0 a.p a.e a.to c.requires.1 l.x-index (omega (arith, c.loop-x-test.true, length-take a.p a.table.now)))

pub loop-x-preserved : goal.loop-x-preserved
loop-x-preserved c =
    let a = c.args in
    let l = c.loop-x in
    let items : List ℕ = l.x-items in
    let i : ℕ = l.x-index in
    let here : ℕ = get_or items i 0 in
    let long : i < length items = omega (arith, c.loop-x-test.true, l.auto.x-items) in
    rw c.moved_end.ensures
    (map_over_more (moved a.e a.to) (take a.p a.table.now) items i here c.loop-x-test.true l.invariant (get_or_default items i 0 here long))

pub returns : goal.returns
returns c =
    let a = c.args in
    let t = a.table.now in
    let old : List ℕ = take a.p t in
    let new : List ℕ = map (moved a.e a.to) old in
    let end : length old ≤ c.loop-x.x-index = c.loop-x-test.false in
    let done : c.loop-x.x-items ≡ new = c.loop-x.invariant ∙ rw (take_all c.loop-x.x-index old end, drop_all c.loop-x.x-index old end) (append-nil new) in
    rw done (written_to t new 0 a.p (omega (arith, length_before t c.requires.0 a.p a.e a.to c.requires.1)))
