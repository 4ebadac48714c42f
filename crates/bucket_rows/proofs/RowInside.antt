-- The collector's walk over a chain that is whole stands in the table, and has passed fewer slots than there are.
use Rattle.std.proofs.Common.{◌≡◌, ◌≢◌, ℕ, ◌+◌, ◌<◌, ◌≤◌, false, List, [], ◌∷◌, ◌++◌, length, set, get_or, sym, ap, ◌∙◌, subst, arith, Some, length-append}
use mathlib.Core.Option.{some}
use lib.ListN.{get_elem?}
use Rattle.std.proofs.lemmas.List.{length-map}
use Rattle.atomic_table.proofs.Lists.{set_here}
use Rattle.atom_words.specs.Layout.{first_of}
use Rattle.atom_words.specs.Board.{Board}
use Rattle.atom_words.specs.Chains.{Chain}
use Rattle.atom_words.specs.Kinds.{view_after, Does}
use Rattle.atom_words.specs.Kept.{slots, Kept}
use Rattle.atom_words.specs.declared.size.Size.{Size}
use Rattle.atom_words.specs.declared.view.Held.{Held}
use Rattle.atom_words.specs.declared.view.Sweeping.{Sweeping}
use Rattle.atom_words.specs.declared.view.Growing.{Growing}
use Rattle.atom_words.specs.declared.view.View.{View}
use Rattle.atom_words.specs.declared.kind.Kind.{Kind}
use Rattle.atom_words.proofs.Slices.{at_inside, chain_few}
use Rattle.atom_words.proofs.Rowing.{chains_still}
use Rattle.atom_words.proofs.Every.{keep_kind}
use Rattle.bucket_rows.specs.RowPlays.{Inside}

-- where a path stands
stands_in : (links : List ℕ) (p n : ℕ) (path : List ℕ) → Chain links p path → n + length path ≤ length links → (p ≤ length links) × (p ≢ 0 → n < length links)
stands_in links p n [] c few = (omega (arith, c), λ ne. absurd (ne c))
stands_in links p n (q ∷ qs) c few = let at : p ≡ q + 1 = c.0 in let inside : q < length links = c.1 in (omega (arith, at, inside), λ _. omega (arith, few))

pub inside_of : (z : Size) (b : Board) (vs : List View) → Kept z b vs → (id : ℕ) (v : View) → get_elem? vs id ≡ some v → v.gone ≡ false → (y : Sweeping) → v.sweep ≡ Some y → v.growing.moving ≡ 0 → Inside v
inside_of z b vs r id v at here y sweep still w walk = let s = r.seats id v at here in let t = s.trail y w sweep walk in let ok = s.walk w walk in
    let none_moves : r.plan.grow.moving ≡ 0 = ap (λ (g : Growing). g.moving) (s.grows y sweep) ∙ still in
    let many : length b.links ≡ v.size.slots = r.sized.links ∙ sym (ap (λ (x : Size). x.slots) s.size) in
    let few : length (t.news ++ (slots w.seen ++ t.path)) ≤ length b.links = subst (λ (l : List ℕ). length l ≤ length b.links) t.whole
    (chain_few b.links (first_of (get_or b.heads w.head 0)) (r.plan.chain w.head) (chains_still z b.row r.plan.grow b.links b.heads b.texts r.plan.chain r.plan.place r.plan.fate r.rows none_moves w.head ok.inside)) in
    let one : length (t.news ++ (slots w.seen ++ t.path)) ≡ length t.news + length (slots w.seen ++ t.path) = length-append t.news (slots w.seen ++ t.path) in
    let two : length (slots w.seen ++ t.path) ≡ length (slots w.seen) + length t.path = length-append (slots w.seen) t.path in
    let three : length (slots w.seen) ≡ length w.seen = length-map w.seen (λ (a : Held). a.slot) in
    let in_ = stands_in b.links w.place (length w.seen) t.path t.reached (omega (arith, few, one, two, three)) in
    (subst (λ (n : ℕ). w.place ≤ n) many in_.0, λ ne. subst (λ (n : ℕ). length w.seen < n) many (in_.1 ne))

-- so after a step
pub inside_after : (z : Size) (b : Board) (vs : List View) → (r : Kept z b vs) → (id : ℕ) (v : View) → get_elem? vs id ≡ some v → v.gone ≡ false → (kind : Kind) (b' : Board) → Does z b v kind b' → (view_after v kind).gone ≡ false
    → (y : Sweeping) → (view_after v kind).sweep ≡ Some y → (view_after v kind).growing.moving ≡ 0 → Inside (view_after v kind)
inside_after z b vs r id v at here kind b' d alive y sweep still = inside_of z b' (set vs id (view_after v kind)) (keep_kind z b vs r id v (r.seats id v at here) b' kind d) id (view_after v kind) (set_here vs id (view_after v kind) (at_inside vs id v at)) alive y sweep still
