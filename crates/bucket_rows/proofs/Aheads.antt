-- The collector's walk does not miss the slot that the sweep has come to.
use Rattle.std.proofs.Common.{◌≡◌, ◌≢◌, ℕ, ◌+◌, ◌<◌, ◌≤◌, false, List, [], ◌∷◌, ◌++◌, length, set, get_or, sym, ap, ◌∙◌, subst, inl, inr, ⊎_elim, arith, length-append}
use mathlib.Core.Option.{some}
use lib.ListN.{get_elem?}
use Rattle.std.proofs.lemmas.List.{length-map}
use Rattle.atomic_table.proofs.Lists.{set_here}
use Rattle.atom_words.specs.Layout.{first_of, phase_of}
use Rattle.atom_words.specs.Texts.{bucket, padded}
use Rattle.atom_words.specs.Board.{Board}
use Rattle.atom_words.specs.Chains.{In, Chain}
use Rattle.atom_words.specs.Kinds.{view_after, Does}
use Rattle.atom_words.specs.Kept.{slots, Kept}
use Rattle.atom_words.specs.declared.size.Size.{Size}
use Rattle.atom_words.specs.declared.view.Held.{Held}
use Rattle.atom_words.specs.declared.view.Sweeping.{Sweeping}
use Rattle.atom_words.specs.declared.view.Growing.{Growing}
use Rattle.atom_words.specs.declared.view.View.{View}
use Rattle.atom_words.specs.declared.kind.Kind.{Kind}
use Rattle.atom_words.proofs.Slices.{in_none, in_either, at_inside, chain_few}
use Rattle.atom_words.proofs.Rowing.{chains_at_work}
use Rattle.atom_words.proofs.Every.{keep_kind}
use Rattle.bucket_rows.specs.Treads.{Ahead}

-- a path with a slot in it stands at a slot
stands : (links : List ℕ) (p k n : ℕ) (path : List ℕ) → Chain links p path → In k path → n + length path ≤ length links → (p ≢ 0) × (p ≤ length links) × (n < length links)
stands links p k n [] c i few = absurd (in_none k i)
stands links p k n (q ∷ qs) c i few = let at : p ≡ q + 1 = c.0 in let inside : q < length links = c.1 in ((λ none. omega arith), omega arith, omega arith)

pub ahead_of : (z : Size) (b : Board) (vs : List View) → Kept z b vs → (id : ℕ) (v : View) → get_elem? vs id ≡ some v → v.gone ≡ false → Ahead v
ahead_of z b vs r id v at here y w sweep walk phase sure whole linked head = let s = r.seats id v at here in let t = s.trail y w sweep walk in let ok = s.walk w walk in
    let swept : phase_of b.epoch ≡ 2 = ap phase_of (sym r.cycle.word ∙ ap (λ (q : Sweeping). q.word) (s.sweeps y sweep).1) ∙ phase in
    let row : b.row ≡ v.growing.row = sym r.grow.known ∙ ap (λ (g : Growing). g.row) (s.grows y sweep) in
    let many : length b.links ≡ v.size.slots = r.sized.links ∙ sym (ap (λ (x : Size). x.slots) s.size) in
    let few : length (t.news ++ (slots w.seen ++ t.path)) ≤ length b.links = subst (λ (l : List ℕ). length l ≤ length b.links) t.whole (chain_few b.links (first_of (get_or b.heads w.head 0)) (r.plan.chain w.head) (chains_at_work z b vs r swept w.head ok.inside)) in
    let one : length (t.news ++ (slots w.seen ++ t.path)) ≡ length t.news + length (slots w.seen ++ t.path) = length-append t.news (slots w.seen ++ t.path) in
    let two : length (slots w.seen ++ t.path) ≡ length (slots w.seen) + length t.path = length-append (slots w.seen) t.path in
    let three : length (slots w.seen) ≡ length w.seen = length-map w.seen (λ (a : Held). a.slot) in
    ⊎_elim
    (λ (i : In y.cursor (slots w.seen)). inl i)
    (λ (i : In y.cursor t.path). let at = stands b.links w.place y.cursor (length w.seen) t.path t.reached i (omega arith) in
    inr (at.0, subst (λ (n : ℕ). w.place ≤ n) many at.1, subst (λ (n : ℕ). length w.seen < n) many at.2))
    (in_either y.cursor (slots w.seen) t.path (t.ahead swept sure whole linked (ap (λ (n : ℕ). bucket n (padded y.text)) row ∙ head)))

-- so after each step
pub ahead_after : (z : Size) (b : Board) (vs : List View) → Kept z b vs → (id : ℕ) (v : View) → get_elem? vs id ≡ some v → v.gone ≡ false → (kind : Kind) (b' : Board) → Does z b v kind b' → (view_after v kind).gone ≡ false → Ahead (view_after v kind)
ahead_after z b vs r id v at here kind b' d still = ahead_of z b' (set vs id (view_after v kind)) (keep_kind z b vs r id v (r.seats id v at here) b' kind d) id (view_after v kind) (set_here vs id (view_after v kind) (at_inside vs id v at)) still
