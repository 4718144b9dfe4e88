-- The copies are changed, and their fronts written back.
use Rattle.std.proofs.Common.{ℕ, ◌≡◌, ◌∙◌, ◌≤◌, sym, ap, List, length, take, rules, arith, length-take-le}
use lib.IntN.{pos, ◌-ℤ◌}
use mir.Syntax.{w32}
use mir.Val.{to_z, of_z}
use mir.Facts.{to_z-of_z}
use Rattle.rows.specs.Programme.{Alphabet, alphabet_of, programme, room}
use Rattle.rows.specs.Limits.{freed_symbol, freed_entry, freed_class}
use Rattle.rows.specs.Tree.{size, prefix, ends}
use Rattle.rows.specs.Classes.{classes_of}
use Rattle.buffers.proofs.Renewed.{length-renewed}
use Rattle.rows.proofs.Tree.{length-prefix, length-ends}
use Rattle.rows.proofs.Alike.{length-classes}
use Rattle.edits.specs.declared.Buffers.{Buffers}
use Rattle.edits.specs.Buffers.{buffers_of}
use Rattle.rows.specs.Buffers.{written}
use Rattle.tables.proofs.Given.{Held}
use Rattle.edits.specs.Put.{changed}
use Rattle.edits.specs.Replace.{Replaceable, ClassRoom, Changing}
use Rattle.checks.proofs.Replacing.{given_held, replace_held, replace_able, replace_classes, replace_short}
use Rattle.wire.specs.Wire.{bytes_of, Bytes}
use Rattle.c_lent.specs.Lent.{Lent, lent, AreBytes, numbers_of}
use Rattle.c_copied.proofs.Editing.{copy_able, copy_classes, replaced_done}
use Rattle.c_copied.proofs.edit.write_replaced.Given.{Over}
use Rattle.c_copied.proofs.edit.write_replaced.Goals as goal
use Rattle.c_copied.proofs.edit.write_replaced.Goals.{Start}

-- what the call is lent, and what the checks leave
module _ (g : Over) (s : Start g) where
  abbrev a : Alphabet
  a = alphabet_of s.args.arities.now

  abbrev b : Lent
  b = lent s.args.row.now s.args.table.now s.args.classes.now

  abbrev n : ℕ
  n = s.args.n

  held : Held a (numbers_of b) n
  held = given_held a (numbers_of b) n (replace_held a (numbers_of b) n s.args.v.now s.args.p s.requires.p_value)

  fits : n ≤ room (programme s.args.copies.now.row s.args.copies.now.table s.args.copies.now.classes)
  fits = let r = s.requires.copied.1 in omega (arith, held.most, r.row, r.table, r.classes)

  able : Replaceable a.arities s.args.copies.now.row s.args.copies.now.table n s.args.v.now s.args.p
  able =
      let r = s.requires.copied.1 in
      copy_able a (numbers_of b) n _ _ _ s.requires.copied.0 held fits s.args.v.now s.args.p s.requires.p_value r.row r.table

  class_room : ClassRoom a.arities s.args.copies.now.row s.args.copies.now.classes n s.args.v.now s.args.p
  class_room = copy_classes a (numbers_of b) n _ _ _ s.requires.copied.0 held fits s.args.v.now s.args.p s.requires.p_value s.requires.copied.1.classes

-- the new length, of the copies that are left, is within the sizes, the copies and the buffers
record Sizes (g : Over) (s : Start g) (m : ℕ) : Type 0 where
  in_row : m ≤ length s.args.copies.now.row
  in_table : m ≤ length s.args.copies.now.table
  in_classes : m ≤ length s.args.copies.now.classes
  in_buffers : m ≤ room (numbers_of (b g s))

sizes : (g : Over) (s : Start g) (m : ℕ) → m ≡ size (changed (a g s).arities (take (n g s) s.args.copies.now.row) s.args.p s.args.v.now) → Sizes g s m
sizes g s m e =
    let r = able g s in
    let q = replace_able (a g s) (numbers_of (b g s)) (n g s) s.args.v.now s.args.p s.requires.p_value in
    let same = ap (λ (l : List ℕ). size (changed (a g s).arities l s.args.p s.args.v.now)) s.requires.copied.0.row in
    let k = replace_classes (a g s) (numbers_of (b g s)) (n g s) s.args.v.now s.args.p s.requires.p_value in
    record {
      in_row = omega (arith, e, r.row_room);
      in_table = omega (arith, e, r.table-room);
      in_classes = omega (arith, e, (class_room g s).new);
      in_buffers = omega (arith, e, same, q.row_room, q.table-room, k.new);
    }

pub replace_beside-length-requires : goal.replace_beside-length-requires
replace_beside-length-requires g c =
    let s = (goal.at.replace_beside-length-requires g c).Start in (
      (able g s, class_room g s),
      omega (arith, c.requires.copied.1.ends, replace_short (a g s) (numbers_of (b g s)) (n g s) c.args.v.now c.args.p c.requires.p_value),
      c.requires.copied.1.heads,
    )

-- the copies that are left are as long as they were
record Long (s : Over) (t : Start s) (b' : Buffers) : Type 0 where
  row : length b'.row.now ≡ length t.args.copies.now.row
  table : length b'.table.now ≡ length t.args.copies.now.table
  classes : length b'.classes.now ≡ length t.args.copies.now.classes

long : (g : Over) (s : Start g) (b' : Buffers) (m : ℕ)
    → Changing (a g s).arities (programme s.args.copies.now.row s.args.copies.now.table s.args.copies.now.classes) (n g s) s.args.v.now s.args.p (buffers_of b') m
    → Long g s b'
long g s b' m k =
    let f = changed (a g s).arities (take (n g s) s.args.copies.now.row) s.args.p s.args.v.now in
    let r = able g s in
    let l = class_room g s in
    record {
      row = ap length k.0.row_now ∙ length-renewed s.args.copies.now.row (n g s) freed_symbol (prefix f) r.within (omega (arith, length-prefix f, r.row_room));
      table = ap length k.0.table_now ∙ length-renewed s.args.copies.now.table (n g s) freed_entry (ends 0 f) (omega (arith, fits g s)) (omega (arith, length-ends 0 f, r.table-room));
      classes = ap length k.1.classes_now ∙ length-renewed s.args.copies.now.classes (n g s) freed_class (classes_of f) l.old (omega (arith, length-classes f, l.new));
    }

pub slice_bounds-encode-end : goal.slice_bounds-encode-end
slice_bounds-encode-end g c =
    let s = (goal.at.slice_bounds-encode-end g c).Start in
    let l = c.replace_beside-length in
    let z = sizes g s _ l.ensures.changing.0.length_now in
    sym (length-take-le c.max-most.result l.new.lent.row.now (omega (arith, c.max-most.ensures, z.in_row, (able g s).within, (long g s l.new.lent _ l.ensures.changing).row)))

pub encode-requires : goal.encode-requires
encode-requires g c =
    let s = (goal.at.encode-requires g c).Start in
    let l = c.replace_beside-length in
    let z = sizes g s _ l.ensures.changing.0.length_now in
    let in_copy : c.max-most.result ≤ length l.new.lent.row.now = omega (arith, c.max-most.ensures, z.in_row, (able g s).within, (long g s l.new.lent _ l.ensures.changing).row) in
    omega (arith, length-take-le c.max-most.result l.new.lent.row.now in_copy, c.max-most.ensures, z.in_buffers, (held g s).fits)

pub slice_bounds-encode-end-2 : goal.slice_bounds-encode-end-2
slice_bounds-encode-end-2 g c =
    let s = (goal.at.slice_bounds-encode-end-2 g c).Start in
    let l = c.replace_beside-length in
    let z = sizes g s _ l.ensures.changing.0.length_now in
    sym (length-take-le c.max-most.result l.new.lent.table.now (omega (arith, c.max-most.ensures, z.in_table, fits g s, (long g s l.new.lent _ l.ensures.changing).table)))

pub encode-requires-2 : goal.encode-requires-2
encode-requires-2 g c =
    let s = (goal.at.encode-requires-2 g c).Start in
    let l = c.replace_beside-length in
    let z = sizes g s _ l.ensures.changing.0.length_now in
    let in_copy : c.max-most.result ≤ length l.new.lent.table.now = omega (arith, c.max-most.ensures, z.in_table, fits g s, (long g s l.new.lent _ l.ensures.changing).table) in
    omega (arith, length-take-le c.max-most.result l.new.lent.table.now in_copy, c.max-most.ensures, z.in_buffers, (held g s).fits)

pub slice_bounds-encode-end-3 : goal.slice_bounds-encode-end-3
slice_bounds-encode-end-3 g c =
    let s = (goal.at.slice_bounds-encode-end-3 g c).Start in
    let l = c.replace_beside-length in
    let z = sizes g s _ l.ensures.changing.0.length_now in
    sym (length-take-le c.max-most.result l.new.lent.classes.now (omega (arith, c.max-most.ensures, z.in_classes, fits g s, (long g s l.new.lent _ l.ensures.changing).classes)))

pub encode-requires-3 : goal.encode-requires-3
encode-requires-3 g c =
    let s = (goal.at.encode-requires-3 g c).Start in
    let l = c.replace_beside-length in
    let z = sizes g s _ l.ensures.changing.0.length_now in
    let in_copy : c.max-most.result ≤ length l.new.lent.classes.now = omega (arith, c.max-most.ensures, z.in_classes, fits g s, (long g s l.new.lent _ l.ensures.changing).classes) in
    omega (arith, length-take-le c.max-most.result l.new.lent.classes.now in_copy, c.max-most.ensures, z.in_buffers, (held g s).fits)

pub change-requires : goal.change-requires
change-requires g c =
    let s = (goal.at.change-requires g c).Start in
    let z = sizes g s _ c.replace_beside-length.ensures.changing.0.length_now in
    (omega (arith, c.replace_beside-length.ensures.changing.0.length_now, (able g s).most), (held g s).most)

pub returns : goal.returns
returns g c =
    let s = (goal.at.returns g c).Start in
    let z = c.replace_beside-length in
    let by : to_z w32 (of_z w32 c.change.result) ≡ pos z.result -ℤ pos c.args.n = to_z-of_z {w = w32} {z = c.change.result} (search rules) ∙ c.change.ensures in
    let most = c.max-most.ensures in
    let row : Bytes c.args.row.now = search rules in
    let table : Bytes c.args.table.now = search rules in
    let classes : Bytes c.args.classes.now = search rules in
    let small : AreBytes (b g s) = record { row = row; table = table; classes = classes } in
    replaced_done (a g s) (b g s) (n g s) c.args.v.now c.args.p small _ _ _ z.new.lent.row.now z.new.lent.table.now z.new.lent.classes.now z.result _
    c.requires.copied.0 c.requires.p_value z.ensures.changing.0 z.ensures.changing.1 by
    (lent c.encode.new.bytes c.encode-2.new.bytes c.encode-3.new.bytes)
    (c.encode.ensures ∙ ap (λ (k : ℕ). written (b g s).row 0 (bytes_of (take k z.new.lent.row.now))) most)
    (c.encode-2.ensures ∙ ap (λ (k : ℕ). written (b g s).table 0 (bytes_of (take k z.new.lent.table.now))) most)
    (c.encode-3.ensures ∙ ap (λ (k : ℕ). written (b g s).classes 0 (bytes_of (take k z.new.lent.classes.now))) most)
