-- Terms whose names are fixed atoms, which are always held.
use Rattle.std.proofs.Common.{◌≡◌, ℕ, pos, [], ◌∷◌, map, Some, IsSome, IfOk, Result, Ok, Err, codes, refl, sym, ap, ap₂, subst, ◌∙◌}
use Rattle.std.specs.Prelude.{is_some}
use Rattle.std.specs.List.{All}
use Rattle.std.proofs.lemmas.List.Elements.{All-nil, All-cons}
use Rattle.pl_term.specs.Tree.{Chars, Tree, int, atom, comp, none, more, compound}
use Rattle.atom_api.specs.Fixed.{fixed, fixed_texts}
use Rattle.atom_api.specs.Names.{Names, FixedStand}
use Rattle.term_store.specs.declared.words.Place.{Place}
use Rattle.term_store.specs.Heap.{atom_name}
use Rattle.term_store.specs.Contents.{Contents, Holds, Makes, term_at}
use Rattle.world_builtins.specs.Naming.{IsHeldAt, atoms_in}

with_ok : {A E : Type 0} (P Q : A → Type 0) (r : Result A E) → ((a : A) → P a → Q a) → IfOk r P → IfOk r Q
with_ok P Q (Ok a) f h = f a h
with_ok P Q (Err e) f h = tt

plus_stands : fixed 3 ≡ Some (codes "+")
unfolding fixed_texts
plus_stands = refl

comma_stands : fixed 4 ≡ Some (codes ",")
unfolding fixed_texts
comma_stands = refl

nl_stands : fixed 128 ≡ Some (codes "nl")
unfolding fixed_texts
nl_stands = refl

cut_stands : fixed 0 ≡ Some (codes "!")
unfolding fixed_texts
cut_stands = refl

some : (m : Names) (a : ℕ) (t : Chars) → FixedStand m → fixed a ≡ Some t → IsSome (m a)
some m a t stand f = ap is_some (stand a t f)

held_atom : (m : Names) (s : Contents) (p : Place) (a : ℕ) (t : Chars) → FixedStand m → fixed a ≡ Some t → term_at s p ≡ atom (atom_name a) → IsHeldAt m s p
held_atom m s p a t stand f e =
    subst (λ (u : Tree). All (λ b. IsSome (m b)) (atoms_in u)) (sym e)
    (All-cons (λ b. IsSome (m b)) a [] (some m a t stand f) (All-nil (λ b. IsSome (m b))))

pub nl_held : (m : Names) (s : Contents) (p : Place) → FixedStand m → term_at s p ≡ atom (atom_name 128) → IsHeldAt m s p
nl_held m s p stand e = held_atom m s p 128 (codes "nl") stand nl_stands e

pub cut_held : (m : Names) (s : Contents) (p : Place) → FixedStand m → term_at s p ≡ atom (atom_name 0) → IsHeldAt m s p
cut_held m s p stand e = held_atom m s p 0 (codes "!") stand cut_stands e

pub two_places : (s : Contents) (i j : Place) → Holds s i → Holds s j → All (Holds s) (i ∷ j ∷ [])
two_places s i j h k = All-cons (Holds s) i (j ∷ []) h (All-cons (Holds s) j [] k (All-nil (Holds s)))

sum_held : (s t : Contents) (i j p : Place) → term_at s i ≡ int (pos 1) → term_at s j ≡ atom (atom_name 4)
    → Makes s (compound (atom_name 3) (map (term_at s) (i ∷ j ∷ []))) t p → (m : Names) → FixedStand m → IsHeldAt m t p
sum_held s t i j p one comma made m stand =
    let e : term_at t p ≡ comp (atom_name 3) (int (pos 1)) (more (atom (atom_name 4)) none) =
    made.means ∙ ap₂ (λ (x : Tree) (y : Tree). comp (atom_name 3) x (more y none)) one comma
    in subst (λ (u : Tree). All (λ b. IsSome (m b)) (atoms_in u)) (sym e)
    (All-cons (λ b. IsSome (m b)) 3 (4 ∷ []) (some m 3 (codes "+") stand plus_stands)
    (All-cons (λ b. IsSome (m b)) 4 [] (some m 4 (codes ",") stand comma_stands) (All-nil (λ b. IsSome (m b)))))

pub sums_held : {E : Type 0} (r : Result Place E) (s t : Contents) (i j : Place) → term_at s i ≡ int (pos 1) → term_at s j ≡ atom (atom_name 4)
    → IfOk r (λ p. Makes s (compound (atom_name 3) (map (term_at s) (i ∷ j ∷ []))) t p) → IfOk r (λ p. (m : Names) → FixedStand m → IsHeldAt m t p)
sums_held r s t i j one comma made =
    with_ok (λ p. Makes s (compound (atom_name 3) (map (term_at s) (i ∷ j ∷ []))) t p) (λ p. (m : Names) → FixedStand m → IsHeldAt m t p) r
    (λ p k. sum_held s t i j p one comma k) made
