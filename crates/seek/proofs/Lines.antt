-- Lines that go out page by page.
use Rattle.std.proofs.Common.{◌≡◌, ℕ, ◌+◌, ◌-◌, ◌≤◌, List, [], ◌∷◌, ◌++◌, None, Some, Option, take, drop, refl, sym, ap, ◌∙◌, subst, arith, append_assoc, append-nil}
use Rattle.std.proofs.Math.Seq.{take-add}
use Rattle.std.specs.Io.KnownBytes.{Appends}
use Rattle.seek_text.specs.Seek.{joined}
use Rattle.seek_text.specs.Pages.{PagePrinted}
use Rattle.seek_text.specs.declared.pages.Page.{Page}

-- A writer that held what it held has nothing more.
pub nothing_more : (a : Option (List ℕ)) → Appends a a []
nothing_more None = tt
nothing_more (Some x) = sym (append-nil x)

appended : (a b c : Option (List ℕ)) (bs cs : List ℕ) → Appends a b bs → Appends b c cs → Appends a c (bs ++ cs)
appended None b c bs cs p q = tt
appended (Some x) None c bs cs p q = absurd p
appended (Some x) (Some y) None bs cs p q = absurd q
appended (Some x) (Some y) (Some z) bs cs p q = q ∙ ap (λ l. l ++ cs) p ∙ append_assoc x bs cs

joined-append : (ls ms : List (List ℕ)) → joined (ls ++ ms) ≡ joined ls ++ joined ms
unfolding joined
joined-append [] ms = refl
joined-append (l ∷ ls) ms = rw (joined-append ls ms, append_assoc)

-- The lines before a page and those of the page are the lines before the next one.
up-to : (ls : List (List ℕ)) (first next : ℕ) → first ≤ next
    → joined (take first ls) ++ joined (take (next - first) (drop first ls)) ≡ joined (take next ls)
up-to ls first next on =
    let all : first + (next - first) ≡ next = omega (arith, on) in
    sym (ap (λ n. joined (take n ls)) (sym all) ∙ ap joined (take-add first (next - first) ls) ∙ joined-append (take first ls) (take (next - first) (drop first ls)))

-- The lines before a page went out, and then the page's bytes.
pub page_more : (a b c : Option (List ℕ)) (ls : List (List ℕ)) (first : ℕ) (page : Page) (out : List ℕ) → PagePrinted ls first page out
    → Appends a b (joined (take first ls)) → Appends b c (take page.bytes out) → Appends a c (joined (take page.next ls))
page_more a b c ls first page out printed before now =
    subst (Appends a c) (up-to ls first page.next printed.on)
    (appended a b c (joined (take first ls)) (joined (take (page.next - first) (drop first ls))) before (subst (Appends b c) printed.text now))
