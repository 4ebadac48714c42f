-- Balls of errors, read as terms over texts.
use Rattle.std.proofs.Common.{◌≡◌, ℕ, [], ◌∷◌, pos, codes, Some, refl, ap, ap₂, ◌∙◌}
use Rattle.pl_term.specs.Tree.{Chars, Tree, int, atom, comp, none, more, compound}
use Rattle.pl_model.specs.History.{Proc}
use Rattle.pl_model.specs.Balls.{error_ball}
use Rattle.atom_api.specs.Fixed.{fixed, fixed_texts}
use Rattle.term_store.specs.Heap.{atom_name}
use Rattle.term_store.specs.Contents.{Contents, term_at}
use Rattle.iso_search.specs.declared.outcome.Fault.{Fault}
use Rattle.iso_search.specs.declared.outcome.Fault.TheVariants.{Inferences, Cells, Choices, Instantiation, NotCallable, NotInteger, NotList, NotStatus}
use Rattle.iso_search.specs.Errors.{error_tree, fault_tree}
use Rattle.iso_search.specs.Outcomes.{fault_term}
use Rattle.iso_search.specs.Reading.{View, IsView, reads}
use Rattle.iso_search.specs.Spelling.{spelled, text_of}
use Rattle.iso_search.proofs.Naming.{text_is}

error_is : fixed 80 ≡ Some (codes "error")
unfolding fixed_texts
error_is = refl

resource_error_is : fixed 152 ≡ Some (codes "resource_error")
unfolding fixed_texts
resource_error_is = refl

inferences_is : fixed 104 ≡ Some (codes "inferences")
unfolding fixed_texts
inferences_is = refl

cells_is : fixed 56 ≡ Some (codes "cells")
unfolding fixed_texts
cells_is = refl

choices_is : fixed 61 ≡ Some (codes "choices")
unfolding fixed_texts
choices_is = refl

instantiation_error_is : fixed 106 ≡ Some (codes "instantiation_error")
unfolding fixed_texts
instantiation_error_is = refl

type_error_is : fixed 177 ≡ Some (codes "type_error")
unfolding fixed_texts
type_error_is = refl

callable_is : fixed 54 ≡ Some (codes "callable")
unfolding fixed_texts
callable_is = refl

integer_is : fixed 108 ≡ Some (codes "integer")
unfolding fixed_texts
integer_is = refl

list_is : fixed 114 ≡ Some (codes "list")
unfolding fixed_texts
list_is = refl

domain_error_is : fixed 77 ≡ Some (codes "domain_error")
unfolding fixed_texts
domain_error_is = refl

exit_status_is : fixed 86 ≡ Some (codes "exit_status")
unfolding fixed_texts
exit_status_is = refl

slash_is : fixed 9 ≡ Some (codes "/")
unfolding fixed_texts
slash_is = refl

resource : (v : View) → IsView v → (k : ℕ) (t : Chars) → fixed k ≡ Some t
    → spelled (text_of v.names) (comp (atom_name 152) (atom (atom_name k)) none) ≡ comp (codes "resource_error") (atom t) none
resource v view k t e =
    ap₂ (λ f a. comp f (atom a) none) (text_is v view 152 (codes "resource_error") resource_error_is) (text_is v view k t e)

culprit : (v : View) → IsView v → (n k : ℕ) (f t : Chars) → fixed n ≡ Some f → fixed k ≡ Some t → (u : Tree)
    → spelled (text_of v.names) (comp (atom_name n) (atom (atom_name k)) (more u none)) ≡ comp f (atom t) (more (spelled (text_of v.names) u) none)
culprit v view n k f t e d u =
    ap₂ (λ g a. comp g (atom a) (more (spelled (text_of v.names) u) none)) (text_is v view n f e) (text_is v view k t d)

pub fault_spelled : (v : View) → IsView v → (s : Contents) (f : Fault) → spelled (text_of v.names) (fault_tree s f) ≡ fault_term (reads v s) f
fault_spelled v view s Inferences = resource v view 104 (codes "inferences") inferences_is
fault_spelled v view s Cells = resource v view 56 (codes "cells") cells_is
fault_spelled v view s Choices = resource v view 61 (codes "choices") choices_is
fault_spelled v view s Instantiation = ap atom (text_is v view 106 (codes "instantiation_error") instantiation_error_is)
fault_spelled v view s (NotCallable p) = culprit v view 177 54 (codes "type_error") (codes "callable") type_error_is callable_is (term_at s p)
fault_spelled v view s (NotInteger p) = culprit v view 177 108 (codes "type_error") (codes "integer") type_error_is integer_is (term_at s p)
fault_spelled v view s (NotList p) = culprit v view 177 114 (codes "type_error") (codes "list") type_error_is list_is (term_at s p)
fault_spelled v view s (NotStatus p) = culprit v view 77 86 (codes "domain_error") (codes "exit_status") domain_error_is exit_status_is (term_at s p)

pub error_spelled : (v : View) → IsView v → (s : Contents) (f : Fault) (name arity : ℕ)
    → (let p : Proc = record { name = text_of v.names (atom_name name); arity = arity } in
    spelled (text_of v.names) (error_tree s f name arity) ≡ error_ball (fault_term (reads v s) f) p)
error_spelled v view s f name arity =
    let g = text_of v.names in
    ap₂ (λ x y. comp x y (more (comp (g (atom_name 9)) (atom (g (atom_name name))) (more (int (pos arity)) none)) none))
    (text_is v view 80 (codes "error") error_is) (fault_spelled v view s f)
    ∙ ap (λ x. comp (codes "error") (fault_term (reads v s) f) (more (comp x (atom (g (atom_name name))) (more (int (pos arity)) none)) none))
    (text_is v view 9 (codes "/") slash_is)

-- The ball of an error over the terms of which it is made.
pub ball_made : (ball culprit indicator name_term count e : Tree) (name arity : ℕ)
    → ball ≡ compound (atom_name 80) (culprit ∷ indicator ∷ [])
    → culprit ≡ e
    → indicator ≡ compound (atom_name 9) (name_term ∷ count ∷ [])
    → name_term ≡ atom (atom_name name)
    → count ≡ int (pos arity)
    → ball ≡ comp (atom_name 80) e (more (comp (atom_name 9) (atom (atom_name name)) (more (int (pos arity)) none)) none)
ball_made ball culprit indicator name_term count e name arity is first second third last =
    is
    ∙ ap₂ (λ x y. compound (atom_name 80) (x ∷ y ∷ [])) first (second ∙ ap₂ (λ x y. compound (atom_name 9) (x ∷ y ∷ [])) third last)
