-- The ball of an error that the shared state raises.
use Rattle.std.proofs.Common.{◌≡◌, ℕ, [], ◌∷◌, pos, Some, codes, refl, ap₂, ◌∙◌}
use Rattle.pl_term.specs.Tree.{Tree, int, atom, comp, none, more, compound}
use Rattle.pl_model.specs.Balls.{error_ball}
use Rattle.atom_api.specs.FixedNames.{error_name, slash_name}
use Rattle.atom_api.specs.Fixed.{fixed, fixed_texts}
use Rattle.term_store.specs.Heap.{atom_name}
use Rattle.iso_search.specs.Reading.{IsView, View}
use Rattle.iso_search.specs.Spelling.{spelled, text_of}
use Rattle.iso_search.proofs.Naming.{text_is}

error_is : fixed error_name ≡ Some (codes "error")
unfolding fixed_texts
error_is = refl

slash_is : fixed slash_name ≡ Some (codes "/")
unfolding fixed_texts
slash_is = refl

abbrev ball_of : Tree → ℕ → ℕ → Tree
ball_of e name arity = comp (atom_name error_name) e (more (comp (atom_name slash_name) (atom (atom_name name)) (more (int (pos arity)) none)) none)

-- What the made terms stand for.
pub ball_made : (ball culprit indicator name_term count e : Tree) (name arity : ℕ)
    → ball ≡ compound (atom_name error_name) (culprit ∷ indicator ∷ [])
    → culprit ≡ e
    → indicator ≡ compound (atom_name slash_name) (name_term ∷ count ∷ [])
    → name_term ≡ atom (atom_name name)
    → count ≡ int (pos arity)
    → ball ≡ ball_of e name arity
ball_made ball culprit indicator name_term count e name arity is first second third last =
    is
    ∙ ap₂ (λ x y. compound (atom_name error_name) (x ∷ y ∷ [])) first (second ∙ ap₂ (λ x y. compound (atom_name slash_name) (x ∷ y ∷ [])) third last)

pub ball_read : (v : View) → IsView v → (e : Tree) (name arity : ℕ)
    → spelled (text_of v.names) (ball_of e name arity)
    ≡ error_ball (spelled (text_of v.names) e) (record { name = text_of v.names (atom_name name); arity = arity })
ball_read v view e name arity =
    ap₂ (λ f g. comp f (spelled (text_of v.names) e) (more (comp g (atom (text_of v.names (atom_name name))) (more (int (pos arity)) none)) none))
    (text_is v view error_name (codes "error") error_is) (text_is v view slash_name (codes "/") slash_is)
