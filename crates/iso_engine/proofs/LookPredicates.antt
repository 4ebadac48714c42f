-- clause/2 and retract/1 look for no integer.
use Rattle.std.proofs.Common.{◌≡◌, ℤ, false, Option, Some, None, ◌∷◌, [], codes, refl, sym, ap, ◌∙◌}
use Rattle.std.proofs.lemmas.Bool.{false≢true}
use Rattle.pl_term.specs.Tree.{Chars, Tree, var, int, atom, comp, none, more}
use Rattle.pl_model.specs.BodyChecks.{clause_of, rule}
use Rattle.pl_model.specs.Checks.{bound_error, callable_error, first_error}
use Rattle.pl_model.specs.Control.{error_of}
use Rattle.pl_model.specs.History.{body_part, head_part}
use Rattle.atom_api.specs.FixedNames.{neck_name}
use Rattle.term_store.specs.declared.words.Place.{Place}
use Rattle.term_store.specs.Contents.{Contents, term_at}
use Rattle.term_store.specs.Heap.{atom_name}
use Rattle.iso_search.specs.Choices.{listed_goal, purpose_of}
use Rattle.iso_search.specs.Reading.{IsView, View, reads}
use Rattle.iso_search.specs.Spelling.{spelled, text_of}
use Rattle.iso_search.proofs.Naming.{text_is}
use Rattle.iso_engine.specs.declared.state.looks.Look.{Look}
use Rattle.iso_engine.specs.declared.state.looks.Look.TheVariants.{Inspects, Retracts}
use Rattle.iso_engine.specs.ClauseLooks.{look_error, looked_rule, purpose_for}
use Rattle.iso_engine.specs.Following.{is_integer}
use Rattle.iso_engine.specs.Purposes.{listed_in}
use Rattle.iso_engine.proofs.Readings.{neck_is}

-- Heads

pub head_callable : (h : Tree) → bound_error h ≡ None → callable_error h ≡ None → is_integer h ≡ false
head_callable (var x) b c = absurd cc
head_callable (int i) b c = absurd cc
head_callable (atom a) b c = refl
head_callable (comp f t ts) b c = refl

two_passed : (a b c : Option Tree) → first_error (a ∷ (b ∷ (c ∷ []))) ≡ None → (a ≡ None) × (b ≡ None)
two_passed None None c e = (refl, refl)
two_passed None (Some x) c e = absurd cc
two_passed (Some x) b c e = absurd cc

clause_head : (h b : Tree) → error_of (clause_of h b) ≡ None → is_integer h ≡ false
clause_head (var x) b e = refl
clause_head (int i) b e = absurd cc
clause_head (atom a) b e = refl
clause_head (comp f t ts) b e = refl

pub look_callable : (v : View) (s : Contents) (y : Look) → look_error v s y ≡ None → is_integer (listed_goal (purpose_of (purpose_for y)) (looked_rule v s y)) ≡ false
look_callable v s (Inspects h b) e =
    let both = two_passed (bound_error (reads v s h)) (callable_error (reads v s h)) (callable_error (reads v s b)) e in head_callable (reads v s h) both.0 both.1
look_callable v s (Retracts t) e = clause_head (head_part (reads v s t)) (body_part (reads v s t)) e

-- Of a rule that was made the head is none.

listed_is : (y : Look) (h b : Tree) → listed_goal (purpose_of (purpose_for y)) (rule h b) ≡ h
listed_is (Inspects p q) h b = refl
listed_is (Retracts p) h b = refl

listed_in_is : (y : Look) (h b : Tree) → listed_in (purpose_for y) (comp (atom_name neck_name) h (more b none)) ≡ h
listed_in_is (Inspects p q) h b = refl
listed_in_is (Retracts p) h b = refl

pub made_no_integer : (v : View) → IsView v → (y : Look) (s : Contents) (p : Place) (h b : Tree) → term_at s p ≡ comp (atom_name neck_name) h (more b none)
    → is_integer (listed_goal (purpose_of (purpose_for y)) (reads v s p)) ≡ false → (i : ℤ) → listed_in (purpose_for y) (term_at s p) ≡ int i → ⊥
made_no_integer v view y s p h b is none_there i e =
    let g = text_of v.names in
    let read : reads v s p ≡ rule (spelled g h) (spelled g b) =
    ap (spelled g) is ∙ ap (λ (f : Chars). comp f (spelled g h) (more (spelled g b) none)) (text_is v view neck_name (codes ":-") neck_is) in
    let head : h ≡ int i = sym (ap (listed_in (purpose_for y)) is ∙ listed_in_is y h b) ∙ e in
    let shown : is_integer (spelled g h) ≡ false =
    sym (ap (λ u. is_integer (listed_goal (purpose_of (purpose_for y)) u)) read ∙ ap is_integer (listed_is y (spelled g h) (spelled g b))) ∙ none_there in
    false≢true (sym shown ∙ ap (λ u. is_integer (spelled g u)) head)
