-- A walk that looks for any variable.
use Rattle.std.proofs.Common.{◌≡◌, ℕ, Bool, true, false, ◌||◌, List, [], ◌∷◌, ◌++◌, None, refl, sym, ap, subst, ◌∙◌}
use Rattle.std.proofs.lemmas.Bool.{false≢true}
use Rattle.pl_term.specs.Tree.{Tree}
use Rattle.pl_term.specs.Variables.{has, is_in, occurrences, distinct}
use Rattle.pl_model.specs.Terms.{is_ground}
use Rattle.pl_model.proofs.UnifyReplace.{eqb_same}
use Rattle.term_store.specs.declared.words.Word.{Word}
use Rattle.term_store.specs.declared.words.Word.TheVariants.{Var, Int, Atom}
use Rattle.term_store.specs.Heap.{Heap, atom_name, bindings, meaning, numbered, find}
use Rattle.term_store.specs.Fit.{IsIn, Fit}
use Rattle.term_store.specs.Grounds.{AreClear}
use Rattle.term_store.specs.Unifying.{any_has}
use Rattle.term_store.proofs.Equations.{bound-int, bound-atom}
use Rattle.term_store.proofs.Following.{stands}
use Rattle.term_store.proofs.Occurring.{looked}
use Rattle.term_store.proofs.Visiting.{none_clear}

-- A term without variables is one in which none occurs.
abbrev none_left : List ℕ → Bool
none_left xs = elim (distinct xs) [ [] ↦ true | x ∷ ys ↦ false ]

absent_all : (xs : List ℕ) → ((x : ℕ) → is_in x xs ≡ false) → none_left xs ≡ true
absent_all [] h = refl
absent_all (x ∷ xs) h = absurd (false≢true (sym (h x) ∙ ap (λ b. b || is_in x xs) (eqb_same x)))

present : (xs : List ℕ) (x : ℕ) → is_in x xs ≡ true → none_left xs ≡ false
present [] x e = absurd (false≢true e)
present (y ∷ ys) x e = refl

pub is_ground-from : (t : Tree) → ((x : ℕ) → has x t ≡ false) → true ≡ is_ground t
is_ground-from t h = sym (absent_all (occurrences t) h)

pub not_ground : (t : Tree) (x : ℕ) → has x t ≡ true → false ≡ is_ground t
not_ground t x e = sym (present (occurrences t) x e)

or_right : (a b : Bool) → b ≡ true → (a || b) ≡ true
or_right true b e = refl
or_right false b e = e

-- The word that was looked at is a variable.
pub var_has : (h : Heap) (i : ℕ) (at : Word) → Fit h → IsIn h at → at ≡ Var i → find i h.trail ≡ None → (x : ℕ) × (has x (meaning h at) ≡ true)
var_has h i at fit inside is free = (
  numbered h i,
  ap (λ w. has (numbered h i) (meaning h w)) is ∙ ap (has (numbered h i)) (stands h i fit (subst (IsIn h) is inside) free)
      ∙ ap (λ b. b || false) (eqb_same (numbered h i)),
)

pub var_met : (h : Heap) (ws vs : List Word) (w at : Word) (t : Tree) → ws ≡ vs ++ w ∷ [] → meaning h at ≡ meaning h w
    → ((x : ℕ) → any_has x h ws ≡ has x t) → (v : (x : ℕ) × (has x (meaning h at) ≡ true)) → false ≡ is_ground t
var_met h ws vs w at t e same all v =
    not_ground t v.0
    (sym (looked h v.0 ws vs w at (has v.0 t) e (all v.0) same) ∙ or_right (any_has v.0 h vs) (has v.0 (meaning h at)) v.1)

-- It is an integer or an atom.
pub int_gone : (h : Heap) → (n : _) → (at : Word) (ws : List Word) (ks : List ℕ) → at ≡ Int n → AreClear h (ws ++ at ∷ []) ks → AreClear h ws ks
int_gone h n at ws ks is clear x =
    none_clear x h ws at ks (ap (λ w. has x (meaning h w)) is ∙ ap (has x) (bound-int (bindings h) n)) (clear x)

pub atom_gone : (h : Heap) (a : ℕ) (at : Word) (ws : List Word) (ks : List ℕ) → at ≡ Atom a → AreClear h (ws ++ at ∷ []) ks → AreClear h ws ks
atom_gone h a at ws ks is clear x =
    none_clear x h ws at ks (ap (λ w. has x (meaning h w)) is ∙ ap (has x) (bound-atom (bindings h) (atom_name a))) (clear x)
