-- The predicates of goals.
use Rattle.std.proofs.Common.{◌≡◌, ℕ, ℤ, suc, ◌<◌, List, [], ◌∷◌, length, codes, Some, refl, sym, ap, ◌∙◌, arith}
use Rattle.pl_term.specs.Tree.{Tree, var, int, atom, compound, trees}
use Rattle.pl_model.specs.History.{Proc, proc}
use Rattle.pl_model.specs.Predicates.{proc_of}
use Rattle.atom_api.specs.Fixed.{fixed, fixed_texts}
use Rattle.atom_api.specs.FixedNames.{call_name, clause_name, retract_name}
use Rattle.term_store.specs.declared.words.Place.{Place}
use Rattle.term_store.specs.declared.views.Arguments.{Arguments}
use Rattle.term_store.specs.Heap.{atom_name}
use Rattle.term_store.specs.Contents.{Contents, IsArguments, arguments_at, term_at}
use Rattle.iso_engine.specs.Following.{IsInteger}
use Rattle.iso_search.specs.Reading.{IsView, View, reads}
use Rattle.iso_search.specs.Spelling.{spelled, text_of}
use Rattle.iso_search.proofs.Constructing.{count-trees, how_many}
use Rattle.iso_search.proofs.Naming.{call_is, text_is}
use Rattle.iso_search.proofs.Spelt.{count-spelled}

abbrev pub proc_as : View → ℕ → ℕ → Proc
proc_as v name arity = record { name = text_of v.names (atom_name name); arity = arity }

pub variable_proc : (v : View) → IsView v → (s : Contents) (goal : Place) (n : ℕ) → term_at s goal ≡ var n → proc_of (reads v s goal) ≡ proc_as v call_name 1
variable_proc v view s goal n is =
    ap (λ t. proc_of (spelled (text_of v.names) t)) is
    ∙ sym (ap (λ f. let p : Proc = record { name = f; arity = 1 } in p) (text_is v view call_name (codes "call") call_is))

compound_is : (v : View) (name : ℕ) (xs : List Tree) → 0 < length xs → proc_of (spelled (text_of v.names) (compound (atom_name name) xs)) ≡ proc_as v name (length xs)
compound_is v name [] lt = absurd (omega arith)
compound_is v name (x ∷ xs) lt =
    ap (λ k. proc_as v name (suc k)) (count-spelled (text_of v.names) (trees xs) ∙ count-trees xs)

pub compound_proc : (v : View) (s : Contents) (goal : Place) (name arity : ℕ) (a : Arguments) → term_at s goal ≡ compound (atom_name name) (arguments_at s a) → IsArguments s a
    → 0 < a.count → arity ≡ a.count → proc_of (reads v s goal) ≡ proc_as v name arity
compound_proc v s goal name arity a is args some same =
    let long = how_many s a args
    in ap (λ t. proc_of (spelled (text_of v.names) t)) is
    ∙ compound_is v name (arguments_at s a) (omega (arith, long, some))
    ∙ ap (proc_as v name) (long ∙ sym same)

variable_integer : (n : ℕ) (i : ℤ) → var n ≡ int i → ⊥
variable_integer n i e = cc

pub variable_no_integer : (s : Contents) (goal : Place) (n : ℕ) → term_at s goal ≡ var n → IsInteger s goal → ⊥
variable_no_integer s goal n is h = variable_integer n h.0 (sym is ∙ h.1)

atom_integer : (f : List ℕ) (i : ℤ) → atom f ≡ int i → ⊥
atom_integer f i e = cc

compound_integer : (f : List ℕ) (xs : List Tree) (i : ℤ) → compound f xs ≡ int i → ⊥
compound_integer f [] i e = cc
compound_integer f (x ∷ xs) i e = cc

pub atom_no_integer : (s : Contents) (goal : Place) (name : ℕ) → term_at s goal ≡ atom (atom_name name) → IsInteger s goal → ⊥
atom_no_integer s goal name is h = atom_integer (atom_name name) h.0 (sym is ∙ h.1)

pub compound_no_integer : (s : Contents) (goal : Place) (name : ℕ) (a : Arguments) → term_at s goal ≡ compound (atom_name name) (arguments_at s a) → IsArguments s a
    → 0 < a.count → IsInteger s goal → ⊥
compound_no_integer s goal name a is args some h = compound_integer (atom_name name) (arguments_at s a) h.0 (sym is ∙ h.1)

clause_is : fixed clause_name ≡ Some (codes "clause")
unfolding fixed_texts
clause_is = refl

retract_is : fixed retract_name ≡ Some (codes "retract")
unfolding fixed_texts
retract_is = refl

pub clause_proc : (v : View) → IsView v → proc (codes "clause") 2 ≡ proc_as v clause_name 2
clause_proc v view = ap (λ f. let p : Proc = record { name = f; arity = 2 } in p) (sym (text_is v view clause_name (codes "clause") clause_is))

pub retract_proc : (v : View) → IsView v → proc (codes "retract") 1 ≡ proc_as v retract_name 1
retract_proc v view = ap (λ f. let p : Proc = record { name = f; arity = 1 } in p) (sym (text_is v view retract_name (codes "retract") retract_is))
