-- Laws of the second pass, in which last places become first ones.
-- Assumes nothing.
use Prim.Native.Nat.{ℕ, ◌+◌, ◌-◌, ◌≤◌, ◌<◌}
use mathlib.Core.Path.{◌≡◌, refl, sym, ap, ◌∙◌, subst}
use mathlib.Core.List.{List}
use mathlib.Core.Bool.{Bool, true, false}
use native.Mathlib.Decide.{dec_lt}
use borrow.Author.Tests.{ltb-true, ltb-false}
use lib.Dec.{ltb}
use native.Mathlib.Omega.{arith}
use lib.ListN.{length, get_or, set, length-set}
use lib.Seq.{get_or-set_same, get_or-set_other, set-set}
use Rattle.rows.specs.Tree.{Forest, size, subtree_at}
use Rattle.rows.specs.Row.{pick}
use Rattle.rows.specs.Classes.{FirstEqual}
use Rattle.classes.proofs.Rewrote.{rewrote_set, rewrote_then}
use Rattle.classes.specs.Lasts.{LastEqual, last_of, Kept, Lead, Naming, Nameable, Named}
use Rattle.classes.proofs.Lasts.{last_equal, last_same, last_twice, kept_leader}

pub naming_start : (f : Forest) (c : List ℕ) → ((x : ℕ) → x < size f → Kept f c x) → Naming f c 0
naming_start f c all =
    record {
      done = λ x h. absurd (omega arith);
      follow = λ x a b h. go x h (all x b) (dec_lt (get_or c x 0) 32768);
      lead = λ x a b e.
          let k = all x b in
          record {
            low = kept_leader f c x k e;
            new = λ m y h. absurd (omega arith);
            old = λ m. absurd (omega (arith, k.most));
            past = λ m. absurd (omega (arith, k.most));
          };
    }
  where
    go : (x : ℕ) → x < last_of f x → Kept f c x → Dec (get_or c x 0 < 32768) → get_or c x 0 ≡ last_of f x
    go x h k (yes m) = k.follower m
    go x h k (no m) = absurd (omega (arith, k.leader (omega arith)))

module _ {f : Forest} {c : List ℕ} {p : ℕ} (z : Naming f c p) (h : p < size f) where
  place : LastEqual f p (last_of f p)
  place = last_equal f p h

  -- an entry without a flag is the last place, behind p; one with a flag stands at the last place
  pub low_behind : get_or c p 0 < 32768 → p < last_of f p
  low_behind m = go (dec_lt p (last_of f p))
    where
      go : Dec (p < last_of f p) → p < last_of f p
      go (yes a) = a
      go (no a) =
          let e : last_of f p ≡ p = omega (arith, place.from) in
          absurd (omega (arith, (z.lead p (omega arith) h e).low))

  pub low_last : get_or c p 0 < 32768 → get_or c p 0 ≡ last_of f p
  low_last m = z.follow p (omega arith) h (low_behind m)

  pub high_last : size f ≤ 16384 → 32768 ≤ get_or c p 0 → last_of f p ≡ p
  high_last small m = go (dec_lt p (last_of f p))
    where
      go : Dec (p < last_of f p) → last_of f p ≡ p
      go (yes a) = absurd (omega (arith, z.follow p (omega arith) h a, place.before))
      go (no a) = omega (arith, place.from)

  pub last_lead : Lead f (get_or c (last_of f p) 0) (last_of f p) p
  last_lead = z.lead (last_of f p) place.from place.before (last_twice f p h)

  -- the first place of p, by the entry at its last place: known, or p itself
  pub first_known : 49152 ≤ get_or c (last_of f p) 0 → FirstEqual f p (get_or c (last_of f p) 0 - 49152)
  first_known m =
      let a = last_lead.old m in
      record { upto = last_lead.past m; equal = a.equal ∙ place.equal; first = λ r b e. a.first r b (e ∙ sym place.equal) }

  pub first_here : get_or c (last_of f p) 0 < 49152 → FirstEqual f p p
  first_here m = record { upto = omega arith; equal = refl; first = λ r b e. last_lead.new m r b (e ∙ sym place.equal) }

  -- a last place behind p that is p's
  same_place : (x : ℕ) → x < size f → last_of f x ≡ x → subtree_at f p ≡ subtree_at f x → last_of f p ≡ x
  same_place x b e i = last_same f p x h b i ∙ e

  -- p gets its first place u, where its last place has a first place noted, or is p
  pub naming_set : (u : ℕ) → p < length c → FirstEqual f p u → (p < last_of f p → 49152 ≤ get_or c (last_of f p) 0) → Naming f (set c p u) (p + 1)
  naming_set u room first noted =
      record {
        done = λ x a. done_at x a (dec_lt x p);
        follow = λ x a b m. other x a ∙ z.follow x (omega arith) b m;
        lead = λ x a b e.
            let l = z.lead x (omega arith) b e in
            subst (λ (v : ℕ). Lead f v x (p + 1)) (sym (other x a))
            (record {
              low = l.low;
              new = λ m y k i. earlier x a b e m y k i (dec_lt y p);
              old = l.old;
              past = λ m. omega (arith, l.past m);
            });
      }
    where
      other : (x : ℕ) → p + 1 ≤ x → get_or (set c p u) x 0 ≡ get_or c x 0
      other x a = get_or-set_other c p x u 0 (λ e. omega arith)

      done_at : (x : ℕ) → x < p + 1 → Dec (x < p) → FirstEqual f x (get_or (set c p u) x 0)
      done_at x a (yes m) = subst (FirstEqual f x) (sym (get_or-set_other c p x u 0 (λ e. omega arith))) (z.done x m)
      done_at x a (no m) =
          let e : p ≡ x = omega arith in
          subst (λ (y : ℕ). FirstEqual f y (get_or (set c p u) y 0)) e (subst (FirstEqual f p) (sym (get_or-set_same c p u 0 room)) first)

      earlier : (x : ℕ) → p + 1 ≤ x → x < size f → last_of f x ≡ x → get_or c x 0 < 49152 → (y : ℕ) → y < p + 1
          → subtree_at f y ≡ subtree_at f x → Dec (y < p) → ⊥
      earlier x a b e m y k i (yes d) = (z.lead x (omega arith) b e).new m y d i
      earlier x a b e m y k i (no d) =
          let same : y ≡ p = omega arith in
          let at : last_of f p ≡ x = same_place x b e (ap (subtree_at f) (sym same) ∙ i) in
          let n = noted (omega arith) in
          omega (arith, ap (λ (q : ℕ). get_or c q 0) at)

  -- the last place of p, behind it, gets p noted as the first place
  module _ (v : ℕ) (ev : v ≡ last_of f p) (up : p < v) (room : v < length c) (m : get_or c v 0 < 49152) where
    other_entry : (x : ℕ) → (x ≡ v → ⊥) → get_or (set c v (49152 + p)) x 0 ≡ get_or c x 0
    other_entry x d = get_or-set_other c v x (49152 + p) 0 d

    here_entry : get_or (set c v (49152 + p)) v 0 ≡ 49152 + p
    here_entry = get_or-set_same c v (49152 + p) 0 room

    v_lead : last_of f v ≡ v
    v_lead = ap (last_of f) ev ∙ last_twice f p h ∙ sym ev

    first_v : FirstEqual f v p
    first_v =
        let a : get_or c (last_of f p) 0 < 49152 = omega (arith, ap (λ (q : ℕ). get_or c q 0) ev) in
        let same : subtree_at f v ≡ subtree_at f p = ap (subtree_at f) ev ∙ place.equal in
        record { upto = omega arith; equal = sym same; first = λ r b e. (first_here a).first r b (e ∙ same) }

    mark_lead : (x : ℕ) → p ≤ x → x < size f → last_of f x ≡ x → Dec (x < v) → Dec (v < x) → Lead f (get_or (set c v (49152 + p)) x 0) x p
    mark_lead x a b e (yes l) d = subst (λ (n : ℕ). Lead f n x p) (sym (other_entry x (λ i. omega arith))) (z.lead x a b e)
    mark_lead x a b e (no l) (yes d) = subst (λ (n : ℕ). Lead f n x p) (sym (other_entry x (λ i. omega arith))) (z.lead x a b e)
    mark_lead x a b e (no l) (no d) =
        let same : v ≡ x = omega arith in
        let back : p ≡ 49152 + p - 49152 = omega arith in
        subst (λ (y : ℕ). Lead f (get_or (set c v (49152 + p)) y 0) y p) same
        (subst (λ (n : ℕ). Lead f n v p) (sym here_entry)
        (record { low = omega arith; new = λ k. absurd (omega arith); old = λ k. subst (FirstEqual f v) back first_v; past = λ k. omega arith }))

    pub naming_mark : Naming f (set c v (49152 + p)) p
    naming_mark =
        record {
          done = λ x a. subst (FirstEqual f x) (sym (other_entry x (λ e. omega arith))) (z.done x a);
          follow = λ x a b l. other_entry x (λ e. omega (arith, ap (last_of f) e, v_lead)) ∙ z.follow x a b l;
          lead = λ x a b e. mark_lead x a b e (dec_lt x v) (dec_lt v x);
        }

-- a turn of the second pass, by the entry v of p
module _ (f : Forest) (c : List ℕ) (p v : ℕ) (z : Nameable f c p) (here : get_or c p 0 ≡ v) where
  module _ (low : v < 32768) where
    last_is : v ≡ last_of f p
    last_is = sym here ∙ low_last z.naming z.inside (omega arith)

    pub follower_in : (p < v) × (v < size f)
    follower_in =
        (omega (arith, last_is, low_behind z.naming z.inside (omega arith)), omega (arith, last_is, (last_equal f p z.inside).before))

    pub follower_first : 49152 ≤ get_or c v 0 → FirstEqual f p (get_or c v 0 - 49152)
    follower_first m =
        subst (λ (q : ℕ). FirstEqual f p (get_or c q 0 - 49152)) (sym last_is)
        (first_known z.naming z.inside (subst (λ (q : ℕ). 49152 ≤ get_or c q 0) last_is m))

    pub follower_named : 49152 ≤ get_or c v 0 → Named f c (set c p (get_or c v 0 - 49152)) p
    follower_named m =
        record {
          naming =
              naming_set z.naming z.inside (get_or c v 0 - 49152) (omega (arith, z.inside, z.room)) (follower_first m)
              (λ k. subst (λ (q : ℕ). 49152 ≤ get_or c q 0) last_is m);
          rewrote = rewrote_set (size f) c p (get_or c v 0 - 49152) z.inside;
        }

    pub follower_marked : get_or c v 0 < 49152 → Named f c (set (set c v (49152 + p)) p p) p
    follower_marked m =
        let long : v < length c = omega (arith, follower_in, z.room) in
        let marked = naming_mark z.naming z.inside v last_is follower_in.0 long m in
        let noted : 49152 ≤ get_or (set c v (49152 + p)) v 0 = omega (arith, get_or-set_same c v (49152 + p) 0 long) in
        let wide : p < length (set c v (49152 + p)) = simp length-set (omega (arith, z.inside, z.room)) in
        record {
          naming =
              naming_set marked z.inside p wide
              (first_here z.naming z.inside (subst (λ (q : ℕ). get_or c q 0 < 49152) last_is m))
              (λ k. subst (λ (q : ℕ). 49152 ≤ get_or (set c v (49152 + p)) q 0) last_is noted);
          rewrote = rewrote_then (rewrote_set (size f) c v (49152 + p) follower_in.1) (rewrote_set (size f) (set c v (49152 + p)) p p z.inside);
        }

  module _ (high : 32768 ≤ v) where
    itself : last_of f p ≡ p
    itself = high_last z.naming z.inside z.small (omega arith)

    entry : get_or c (last_of f p) 0 ≡ v
    entry = ap (λ (q : ℕ). get_or c q 0) itself ∙ here

    pub leader_first : 49152 ≤ v → FirstEqual f p (v - 49152)
    leader_first m = subst (λ (n : ℕ). FirstEqual f p (n - 49152)) entry (first_known z.naming z.inside (omega (arith, entry)))

    leader_set : (u : ℕ) → FirstEqual f p u → Named f c (set c p u) p
    leader_set u first =
        record {
          naming = naming_set z.naming z.inside u (omega (arith, z.inside, z.room)) first (λ k. absurd (omega (arith, itself)));
          rewrote = rewrote_set (size f) c p u z.inside;
        }

    pub leader_named : 49152 ≤ v → Named f c (set c p (v - 49152)) p
    leader_named m = leader_set (v - 49152) (leader_first m)

    pub leader_marked : v < 49152 → Named f c (set c p p) p
    leader_marked m = leader_set p (first_here z.naming z.inside (omega (arith, entry)))

-- a turn, by the last place r of p: p is its own first place, and is noted there; or that place has a first place noted
pub record Turn (f : Forest) (c : List ℕ) (p r : ℕ) : Type 0 where
  pub last : r < size f
  pub new : get_or c r 0 < 49152 → Named f c (set (set c r (49152 + p)) p p) p
  pub old : 49152 ≤ get_or c r 0 → (get_or c r 0 - 49152 ≤ p) × Named f c (set c p (get_or c r 0 - 49152)) p

module _ (f : Forest) (c : List ℕ) (p : ℕ) (z : Nameable f c p) where
  abbrev E : ℕ
  E = get_or c p 0

  turn_by : (b : Bool) → ltb E 32768 ≡ b → Turn f c p (pick b E p)
  turn_by true e =
      let low = ltb-true E 32768 e in
      record {
        last = (follower_in f c p E z refl low).1;
        new = follower_marked f c p E z refl low;
        old = λ m. ((follower_first f c p E z refl low m).upto, follower_named f c p E z refl low m);
      }
  turn_by false e =
      let high = ltb-false E 32768 e in
      record {
        last = z.inside;
        new = λ m. subst (λ (l : List ℕ). Named f c l p) (sym (set-set c p (49152 + p) p)) (leader_marked f c p E z refl high m);
        old = λ m. ((leader_first f c p E z refl high m).upto, leader_named f c p E z refl high m);
      }

  pub turn : (r : ℕ) → r ≡ pick (ltb E 32768) E p → Turn f c p r
  turn r e = subst (Turn f c p) (sym e) (turn_by (ltb E 32768) refl)
