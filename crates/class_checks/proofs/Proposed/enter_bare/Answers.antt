-- `class_checks::Proposed::enter_bare` meets its contract.
use Rattle.std.proofs.Common.{ℕ, List, ◌≡◌, ◌+◌, length, get_or, set, refl, sym, ap, ◌∙◌, subst, arith}
use Rattle.std.proofs.Math.Logic.{∥∥₁_elim}
use Rattle.std.proofs.Props.{props}
use Rattle.classes.specs.Shown.{sign_of, shelf}
use Rattle.classes.proofs.Signs.{sign_small}
use Rattle.class_checks.specs.Repeats.{Falls, Falling, Unseen}
use Rattle.class_checks.proofs.Falls.{falling_put, falls_new, entered_put}
use Rattle.class_checks.proofs.Proposed.enter_bare.Goals as goal

pub shelf_of-h-requires : goal.shelf_of-h-requires
shelf_of-h-requires c =
    let s = c.requires.p_in_bounds.1 in (
      s.some,
      s.most,
      ∥∥₁_elim c.args.self.seen (hlevel props) (λ z. omega (arith, (c.in-Some.ensures z.forest z.shown).0, sign_small z.forest c.args.self.programme.classes.now c.args.p)),
    )

pub returns-then-is_unseen : goal.returns-then-is_unseen
returns-then-is_unseen c f h =
    let a = c.args in
    let own = a.self.programme.classes.now in
    let z = c.requires.entered f h in
    let s = c.in-Some.ensures f h in
    let put = c.put_above in
    let m : ℕ = length a.heads.now in
    let D : ℕ = shelf m (sign_of f own a.p) in
    let same : c.shelf_of-h.result ≡ D = c.shelf_of-h.ensures.0 ∙ ap (shelf m) s.0 in
    let heads : put.new.heads ≡ set a.heads.now D (a.p + 1) = put.ensures.0 ∙ ap (λ (k : ℕ). set a.heads.now k (a.p + 1)) same in
    let links : put.new.links ≡ set a.links.now a.p (get_or a.heads.now D 0) =
    put.ensures.1 ∙ ap (λ (k : ℕ). set a.links.now a.p (get_or a.heads.now k 0)) same in
    let first : ℕ = c.from-first.result in
    let from_first : get_or a.heads.now D 0 ≡ first = ap (λ (k : ℕ). get_or a.heads.now k 0) (sym same) ∙ sym c.from-first.ensures in
    let new : Unseen f own a.links.now a.p first = c.if-is_unseen.ensures f h in
    entered_put z
    (subst (λ (l : List ℕ). Falling f own l put.new.links m (a.p + 1)) (sym heads)
    (subst (λ (l : List ℕ). Falling f own (set a.heads.now D (a.p + 1)) l m (a.p + 1)) (sym links)
    (falling_put z.falling c.requires.p_in_bounds.0 refl c.requires.p_in_bounds.1)))
    (record {
      bare = falls_new z.falling (λ q k. new q (subst (λ (x : ℕ). Falls a.links.now x q) from_first k));
      twins = s.1;
    })
