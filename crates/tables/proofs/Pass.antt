-- The one pass from right to left over a row and its table: what it knows at a place, and why it stops.
-- Assumes nothing.
use Rattle.std.specs.Prelude.{Result, Err, ⊤, Some}
use Prim.Native.Nat.{ℕ, ◌+◌, ◌-◌, ◌≤◌, ◌<◌}
use mathlib.Core.Path.{◌≡◌, sym, ap, ap₂, ◌∙◌, subst}
use mathlib.Core.List.{List, []}
use mathlib.Core.Bool.{Bool, true, false}
use native.Mathlib.Omega.{arith}
use borrow.Author.Tests.{lt-ltb, le-ltb, eq-eqb, ne_eqb}
use lib.Dec.{T, ltb, eqb, ltb→lt, lt→ltb}
use lib.ListN.{length, get_or, drop, set}
use lib.Seq.{drop-length}
use Rattle.rows.specs.Tree.{Forest, count, size, prefix, ends, Ranked}
use Rattle.rows.specs.Parse.{first, over, parse, table, behind}
use Rattle.rows.specs.Row.{pick, allowed}
use Rattle.rows.specs.Reading.{Accepted}
use Rattle.rows.specs.Refusals.{differs, fresh}
use Rattle.rows.specs.declared.Leaves.TheVariants.{Symbols}
use Rattle.rows.specs.declared.Kept.{Kept}
use Rattle.rows.specs.declared.Kept.TheVariants.{Stale}
use Rattle.rows.specs.declared.Refusal.{Refusal}
use Rattle.rows.proofs.Tree.{count-first, ranked_first, ranked_rest}
use Rattle.rows.proofs.Parse.{prefix-parse}
use Rattle.rows.proofs.Scan.{drop_more}
use Rattle.rows.proofs.Accept.{enough, count-parse, lone, whole_of_row}
use Rattle.rows.proofs.Behind.{behind-over, enough_behind, ends-behind}
use Rattle.tables.specs.Given.{Sized, Sees}
use Rattle.tables.specs.Beside.{Standing, stale_from, Stands, Places, Passed}
use Rattle.tables.proofs.Standing.{standing_none, Turn, turn_end, turn_count, turn_standing}

-- nothing is read yet
pub passed_none : (A w t l : List ℕ) → Passed A w t l 0 (length w) (length w)
unfolding behind parse Ranked ends differs
passed_none A w t l =
    let nothing : [] ≡ drop (length w) w = sym (drop-length w) in
    let none : (0 ≡ count (behind A w (length w))) × Standing l (length w) (behind A w (length w)) = standing_none A w l (length w) in
    record {
      stands = record { ranked = subst (λ (x : List ℕ). Ranked A (allowed Symbols A) (parse A x)) nothing tt; counted = none.0; standing = none.1 };
      told = λ whose. ap (λ (x : List ℕ). differs (λ k. whose (Stale k)) (length w) (ends (length w) (parse A x)) (drop (length w) t)) (drop-length w) ∙ simp (le-ltb (length w) (length w) (omega arith));
    }

-- a number that is no symbol
pub stop_stray : (A w : List ℕ) (p : ℕ) → p < length w → length A ≤ get_or w p 0 → Accepted A w → ⊥
stop_stray A w p below h e =
    omega (arith, ltb→lt (get_or w p 0) (length A) (enough A (allowed Symbols A) w 1 0 e p below).0)

-- fewer trees than the symbol has children
pub stop_few : (A w : List ℕ) (trees p : ℕ) → p < length w → trees ≡ count (behind A w (p + 1)) → trees < get_or A (get_or w p 0) 0
    → Accepted A w → ⊥
stop_few A w trees p below counted h e =
    omega (arith, counted, enough_behind A (allowed Symbols A) w 1 0 e p below)

-- the entry at p decides between p and what is told of the entries behind it
chosen : (whose : Kept → Refusal) (b : Bool) (n stale p : ℕ) (c : Result ⊤ Refusal) → p < n → c ≡ stale_from whose n stale
    → pick b c (Err (whose (Stale p))) ≡ stale_from whose n (pick b stale p)
chosen whose true n stale p c h e = e
chosen whose false n stale p c h e = sym (simp (lt-ltb p n h))

-- the symbol is read
pub stands_more : (A w l : List ℕ) (trees p a : ℕ) → length w ≤ length l → p < length w → Stands A w l trees (p + 1)
    → get_or w p 0 < length A → a ≡ get_or A (get_or w p 0) 0 → a ≤ trees
    → Places A w p (set l trees (p + 1)) (Some ((trees - a + 1), (get_or (set l trees (p + 1)) (trees - a) 0)))
unfolding over Ranked
stands_more A w l trees p a room below c symbol arity deep =
    let g : Forest = behind A w (p + 1) in
    let k : ℕ = get_or A (get_or w p 0) 0 in
    let enough-trees : k ≤ count g = omega (arith, arity, deep, c.counted) in
    let one : T (ltb (get_or w p 0) (length A)) = lt→ltb (get_or w p 0) (length A) symbol in
    let turn : Turn A w l p p trees a =
    record { below = below; room = room; counted = c.counted; standing = c.standing; arity = arity; deep = deep } in (
      record {
        ranked =
            subst (Ranked A (allowed Symbols A)) (sym (behind-over A w p below))
            (one, count-first k g enough-trees, ranked_first A (allowed Symbols A) k g c.ranked, ranked_rest A (allowed Symbols A) k g c.ranked);
        counted = turn_count turn;
        standing = turn_standing turn;
      },
      turn_end turn,
    )

-- and its entry is looked at
passed_more : (A w t l m : List ℕ) (trees stale p more e : ℕ) → Sized w t → p < length w → Passed A w t l trees stale (p + 1)
    → Places A w p m (Some (more, e)) → Passed A w t m more (pick (eqb (get_or t p 0) e) stale p) p
unfolding differs
passed_more A w t l m trees stale p more e sized below c s =
    let g : Forest = behind A w (p + 1) in
    record {
      stands = s.0;
      told = λ whose.
          ap₂ (differs (λ k. whose (Stale k)) p) (ends-behind A w p p below) (drop_more t p (omega (arith, sized.fits)))
          ∙ chosen whose (eqb (get_or t p 0) (p + 1 + size (first (get_or A (get_or w p 0) 0) g))) (length w) stale p (differs (λ k. whose (Stale k)) (p + 1) (ends (p + 1) g) (drop (p + 1) t)) below (c.told whose)
          ∙ ap (λ (n : ℕ). stale_from whose (length w) (pick (eqb (get_or t p 0) n) stale p)) (sym s.1);
    }

-- where the entry at p is the row's
pub fresh_more : (A w t l m : List ℕ) (trees stale p more e : ℕ) → Sized w t → p < length w → Passed A w t l trees stale (p + 1)
    → Places A w p m (Some (more, e)) → get_or t p 0 ≡ e → Passed A w t m more stale p
fresh_more A w t l m trees stale p more e sized below c s same =
    subst (λ (b : Bool). Passed A w t m more (pick b stale p) p) (eq-eqb _ _ same)
    (passed_more A w t l m trees stale p more e sized below c s)

-- and where it is not
pub stale_more : (A w t l m : List ℕ) (trees stale p more e : ℕ) → Sized w t → p < length w → Passed A w t l trees stale (p + 1)
    → Places A w p m (Some (more, e)) → (get_or t p 0 ≡ e → ⊥) → Passed A w t m more p p
stale_more A w t l m trees stale p more e sized below c s other =
    subst (λ (b : Bool). Passed A w t m more (pick b stale p) p) (ne_eqb _ _ other)
    (passed_more A w t l m trees stale p more e sized below c s)

-- the whole row is read: it is one tree's exactly if one tree is there
pub stop_count : (A w t l : List ℕ) (trees stale : ℕ) → Passed A w t l trees stale 0 → (trees ≡ 1 → ⊥) → Accepted A w → ⊥
unfolding behind
stop_count A w t l trees stale c n e = n (c.stands.counted ∙ count-parse A (allowed Symbols A) w 1 0 e)

pub passed_all : (A w t l : List ℕ) (trees stale : ℕ) → Passed A w t l trees stale 0 → trees ≡ 1 → Sees A w t (Some stale)
unfolding behind fresh table
passed_all A w t l trees stale c one =
    let it = lone (parse A w) (sym c.stands.counted ∙ one) in
    let whole : Accepted A w =
    whole_of_row A (allowed Symbols A) w
    (record { tree = it.0; ranked = subst (Ranked A (allowed Symbols A)) it.1 c.stands.ranked; reads = ap prefix (sym it.1) ∙ prefix-parse A w }) in
    (whole, c.told)
