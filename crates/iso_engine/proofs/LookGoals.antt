-- Goals of clause/2 and retract/1, as they are read.
use Rattle.std.proofs.Common.{◌≡◌, ℕ, ◌==◌, true, List, [], ◌∷◌, ◌++◌, length, get_or, Some, IsSome, codes, refl, sym, ap, ap₂, subst, ◌∙◌, arith}
use Rattle.std.specs.List.{All}
use Rattle.std.proofs.lemmas.Bool.Decides.{Decides-eqb}
use Rattle.std.proofs.lemmas.List.Elements.{All-tail}
use Rattle.pl_term.specs.Tree.{Chars, Tree, atom, comp, compound, more, none}
use Rattle.pl_model.specs.Control.{construct, inspects, retracts}
use Rattle.pl_model.specs.History.{proc}
use Rattle.pl_model.specs.Predicates.{proc_of}
use Rattle.atom_api.specs.Fixed.{fixed}
use Rattle.atom_api.specs.FixedNames.{clause_name, retract_name}
use Rattle.atom_api.specs.Names.{Names}
use Rattle.term_store.specs.declared.words.Place.{Place}
use Rattle.term_store.specs.declared.words.StoreMark.{StoreMark}
use Rattle.term_store.specs.Contents.{Contents, IsMark, back_to, term_at}
use Rattle.term_store.specs.NumberedNames as numbered
use Rattle.term_store.specs.Heap.{atom_name}
use Rattle.world_builtins.specs.Naming.{IsHeldAt, atoms_in}
use Rattle.iso_search.specs.declared.search.Search.{Search}
use Rattle.iso_search.specs.Conversions.{Grows}
use Rattle.iso_search.specs.Reading.{IsView, View, reads}
use Rattle.iso_search.specs.Spelling.{spelled, text_of}
use Rattle.iso_search.proofs.Constructing.{shape_two}
use Rattle.iso_search.proofs.Naming.{clause_is, retract_is, text_is}
use Rattle.iso_engine.specs.declared.state.looks.Look.{Look}
use Rattle.iso_engine.specs.declared.state.looks.Look.TheVariants.{Inspects, Retracts}
use Rattle.iso_engine.specs.declared.state.looks.LookGoal.{LookGoal}
use Rattle.iso_engine.specs.ClauseLooks.{IsLookAt, IsLookHeld, IsLookIn, IsLookOver, look_construct, look_term, predicate_for}
use Rattle.iso_engine.specs.Following.{HasProcedure}
use Rattle.iso_engine.proofs.Asking.{goal_over}
use Rattle.iso_engine.proofs.Fresh.{all_left, all_right}
use Rattle.iso_engine.proofs.Outputs.{atoms_same}

-- The name is a fixed one.
pub look_named : (y : Look) → (f : Chars) × (fixed (predicate_for y).name ≡ Some f)
look_named (Inspects h b) = (codes "clause", clause_is)
look_named (Retracts t) = (codes "retract", retract_is)

inspection_reads : (v : View) → IsView v → (s : Contents) (p h b : Place) → term_at s p ≡ comp (atom_name clause_name) (term_at s h) (more (term_at s b) none)
    → reads v s p ≡ comp (codes "clause") (reads v s h) (more (reads v s b) none)
inspection_reads v view s p h b is =
    ap (spelled (text_of v.names)) is
    ∙ ap (λ (f : Chars). comp f (reads v s h) (more (reads v s b) none)) (text_is v view clause_name (codes "clause") clause_is)

retraction_reads : (v : View) → IsView v → (s : Contents) (p t : Place) → term_at s p ≡ comp (atom_name retract_name) (term_at s t) none
    → reads v s p ≡ comp (codes "retract") (reads v s t) none
retraction_reads v view s p t is =
    ap (spelled (text_of v.names)) is ∙ ap (λ (f : Chars). comp f (reads v s t) none) (text_is v view retract_name (codes "retract") retract_is)

inspection_construct : (h b : Tree) → construct (comp (codes "clause") h (more b none)) ≡ inspects h b
unfolding construct
inspection_construct h b = refl

retraction_construct : (t : Tree) → construct (comp (codes "retract") t none) ≡ retracts t
unfolding construct
retraction_construct t = refl

pub look_stands : (s : Contents) (x : LookGoal) → IsLookAt s x → (v : View) → IsView v → construct (reads v s x.place) ≡ look_construct v s x.look
look_stands s x at v view = go x.look at.means
  where
    go : (y : Look) → term_at s x.place ≡ look_term s y → construct (reads v s x.place) ≡ look_construct v s y
    go (Inspects h b) is = ap construct (inspection_reads v view s x.place h b is) ∙ inspection_construct (reads v s h) (reads v s b)
    go (Retracts t) is = ap construct (retraction_reads v view s x.place t is) ∙ retraction_construct (reads v s t)

pub look_procedure : (s : Contents) (x : LookGoal) → IsLookAt s x → HasProcedure s x.place (predicate_for x.look)
look_procedure s x at r view = go x.look at.means
  where
    go : (y : Look) → term_at s x.place ≡ look_term s y → proc_of (reads r.view s x.place) ≡ record { name = text_of r.view.names (atom_name (predicate_for y).name); arity = (predicate_for y).arity }
    go (Inspects h b) is =
        ap proc_of (inspection_reads r.view view s x.place h b is) ∙ ap (λ (f : Chars). proc f 2) (sym (text_is r.view view clause_name (codes "clause") clause_is))
    go (Retracts t) is =
        ap proc_of (retraction_reads r.view view s x.place t is) ∙ ap (λ (f : Chars). proc f 1) (sym (text_is r.view view retract_name (codes "retract") retract_is))

-- The atoms of its arguments are held where those of the goal are.
pub look_held : (m : Names) (s : Contents) (x : LookGoal) → IsLookAt s x → IsHeldAt m s x.place → IsLookHeld m s x.look
look_held m s x at held = go x.look at.means
  where
    go : (y : Look) → term_at s x.place ≡ look_term s y → IsLookHeld m s y
    go (Inspects h b) is =
        let P : ℕ → Type 0 = λ a. IsSome (m a) in
        let rest = All-tail P clause_name (atoms_in (term_at s h) ++ (atoms_in (term_at s b) ++ [])) (subst (λ u. All P (atoms_in u)) is held) in (
          all_left P (atoms_in (term_at s h)) (atoms_in (term_at s b) ++ []) rest,
          all_left P (atoms_in (term_at s b)) [] (all_right P (atoms_in (term_at s h)) (atoms_in (term_at s b) ++ []) rest),
        )
    go (Retracts t) is =
        let P : ℕ → Type 0 = λ a. IsSome (m a) in
        all_left P (atoms_in (term_at s t)) [] (All-tail P retract_name (atoms_in (term_at s t) ++ []) (subst (λ u. All P (atoms_in u)) is held))

-- What the arguments of a term of two, or of one, make it.

one_listed : (ts : List Tree) (d : Tree) → length ts ≡ 1 → ts ≡ get_or ts 0 d ∷ []
one_listed [] d e = absurd (omega (arith, e))
one_listed (t ∷ []) d e = refl
one_listed (t ∷ (u ∷ ts)) d e = absurd (omega (arith, e))

pub two_arguments : (s : Contents) (goal l r : Place) (name other : ℕ) (ts : List Tree) → term_at s goal ≡ compound (atom_name other) ts → (other == name) ≡ true → length ts ≡ 2
    → term_at s l ≡ get_or ts 0 (atom []) → term_at s r ≡ get_or ts 1 (atom []) → term_at s goal ≡ comp (atom_name name) (term_at s l) (more (term_at s r) none)
two_arguments s goal l r name other ts is named long first second =
    is
    ∙ ap₂ (λ k us. compound (atom_name k) us) ((Decides-eqb other name).0 named) (shape_two ts (atom []) long)
    ∙ sym (ap₂ (λ x y. comp (atom_name name) x (more y none)) first second)

pub one_argument : (s : Contents) (goal p : Place) (name other : ℕ) (ts : List Tree) → term_at s goal ≡ compound (atom_name other) ts → (other == name) ≡ true → length ts ≡ 1
    → term_at s p ≡ get_or ts 0 (atom []) → term_at s goal ≡ comp (atom_name name) (term_at s p) none
one_argument s goal p name other ts is named long first =
    is
    ∙ ap₂ (λ k us. compound (atom_name k) us) ((Decides-eqb other name).0 named) (one_listed ts (atom []) long)
    ∙ sym (ap (λ x. comp (atom_name name) x none) first)

-- The same of the numbers in a term, by either list of them.
pub held_numbered : (s : Contents) (m : Names) (p : Place) → IsHeldAt m s p → All (λ a. IsSome (m a)) (numbered.atoms_in (term_at s p))
held_numbered s m p held = subst (All (λ a. IsSome (m a))) (atoms_same (term_at s p)) held

pub held_same : (s : Contents) (m : Names) (p : Place) → All (λ a. IsSome (m a)) (numbered.atoms_in (term_at s p)) → IsHeldAt m s p
held_same s m p held = subst (All (λ a. IsSome (m a))) (sym (atoms_same (term_at s p))) held

-- A clause-term that is taken apart is one over atoms.
pub look_over : (s : Contents) (k : StoreMark) → IsMark k s → back_to k s ≡ s → (y : Look) → IsLookIn s y → IsLookOver s y
look_over s k mark here (Inspects h b) inside = tt
look_over s k mark here (Retracts t) inside = goal_over s k t mark here inside

-- What was made for a goal that was not taken up goes back.
pub back_again : (e f : Search) (s new : Contents) (k : StoreMark) → Grows e.store s → IsMark k e.store → back_to k e.store ≡ e.store
    → (let y : Search = record e { store = s } in f ≡ y) → new ≡ back_to k f.store → (let z : Search = record f { store = new } in z ≡ e)
back_again e f s new k grows mark here is back =
    ap (λ (c : Contents). let z : Search = record f { store = c } in z) back
    ∙ ap (λ (y : Search). let z : Search = record y { store = back_to k y.store } in z) is
    ∙ ap (λ (c : Contents). let z : Search = record e { store = c } in z) (grows.stays.adds.back k mark ∙ here)

pub marked_again : (e f : Search) (s : Contents) (k : StoreMark) → Grows e.store s → IsMark k e.store → (let y : Search = record e { store = s } in f ≡ y) → IsMark k f.store
marked_again e f s k grows mark is = subst (λ (y : Search). IsMark k y.store) (sym is) (grows.stays.adds.marks k mark)
