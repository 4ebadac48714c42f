-- Goals of thread_exit/1, as they are read, and their steps.
use Rattle.std.proofs.Common.{◌≡◌, ℕ, ◌<◌, ◌≤◌, [], ◌∷◌, Option, Some, None, IsSome, is_some, codes, refl, sym, ap, ap₂, subst, ◌∙◌}
use Rattle.std.specs.List.{All}
use Rattle.std.proofs.lemmas.Bool.{le-ltb, lt-ltb}
use Rattle.std.proofs.lemmas.List.Elements.{All-cons, All-nil}
use Rattle.pl_term.specs.Tree.{Chars, Tree, atom, comp, none}
use Rattle.pl_model.specs.Control.{construct, costing, exits, raised, take_up, with_exit}
use Rattle.pl_model.specs.ErrorTerms.{permission_error}
use Rattle.pl_model.specs.History.{proc}
use Rattle.pl_model.specs.Predicates.{proc_of}
use Rattle.pl_model.specs.Resolution.{Limits, Node, State, ended, exited, goes}
use Rattle.atom_api.specs.Fixed.{fixed, fixed_texts}
use Rattle.atom_api.specs.FixedNames.{exit_name, thread_exit_name, thread_name}
use Rattle.atom_api.specs.Names.{Names}
use Rattle.term_store.specs.declared.words.Place.{Place}
use Rattle.term_store.specs.Contents.{Contents, term_at}
use Rattle.term_store.specs.Heap.{atom_name}
use Rattle.world_api.specs.Texts.{Holds}
use Rattle.world_builtins.specs.Naming.{atoms_in}
use Rattle.world_builtins.specs.Spelling as written
use Rattle.iso_search.specs.declared.outcome.Fault.TheVariants.{Inferences}
use Rattle.iso_search.specs.declared.outcome.Outcome.{Outcome}
use Rattle.iso_search.specs.declared.outcome.Outcome.TheVariants.{Raise}
use Rattle.iso_search.specs.declared.search.Search.{Search}
use Rattle.iso_search.specs.Outcomes.{IsAfter, Setting, limits_in, state_in}
use Rattle.iso_search.specs.Reading.{IsView, View, reads}
use Rattle.iso_search.specs.Searching.{node_of}
use Rattle.iso_search.specs.Spelling.{spelled, text_of}
use Rattle.iso_search.proofs.Naming.{text_is}
use Rattle.shared_builtins.specs.declared.faults.Fault.TheVariants.{NotPermitted}
use Rattle.shared_builtins.specs.Faults.{IsFaultHeld, fault_term}
use Rattle.iso_engine.specs.Following.{HasProcedure}
use Rattle.iso_engine.specs.GoalSteps.{IsStepAloneAs}
use Rattle.iso_engine.specs.Leaving.{IsExitAt, IsStayingAs, exit_procedure, left_state}
use Rattle.iso_engine.specs.Wrote.{taken}
use Rattle.iso_engine.proofs.Equals.{keeps_counted}
use Rattle.iso_engine.proofs.RaisedRows.{IsRaisedLed}
use Rattle.iso_engine.proofs.StateRows.{counted_in, no_inference, one_inference}

pub exit_is : fixed thread_exit_name ≡ Some (codes "thread_exit")
unfolding fixed_texts
exit_is = refl

pub action_is : fixed exit_name ≡ Some (codes "exit")
unfolding fixed_texts
action_is = refl

pub kind_is : fixed thread_name ≡ Some (codes "thread")
unfolding fixed_texts
kind_is = refl

exit_construct : (t : Tree) → construct (comp (codes "thread_exit") t none) ≡ exits t
unfolding construct
exit_construct t = refl

-- The goal
module _ (s : Contents) (goal term : Place) (at : IsExitAt s goal term) where
  exit_reads : (v : View) → IsView v → reads v s goal ≡ comp (codes "thread_exit") (reads v s term) none
  exit_reads v view =
      ap (spelled (text_of v.names)) at.means
      ∙ ap (λ (f : Chars). comp f (reads v s term) none) (text_is v view thread_exit_name (codes "thread_exit") exit_is)

  pub exit_stands : (v : View) → IsView v → construct (reads v s goal) ≡ exits (reads v s term)
  exit_stands v view = ap construct (exit_reads v view) ∙ exit_construct (reads v s term)

  pub exit_has : HasProcedure s goal exit_procedure
  exit_has r view =
      ap proc_of (exit_reads r.view view) ∙ ap (λ (f : Chars). proc f 1) (sym (text_is r.view view thread_exit_name (codes "thread_exit") exit_is))

-- What leaves, and what does not.

leaves : (l : Limits) (q : State) (k : Node) (g t : Tree) → l.stays ≡ None → with_exit l q k g t ≡ record q { doing = ended (exited t) }
leaves l q k g t is =
    ap
    (λ (o : Option Chars).
    let r : State = elim o [ None ↦ record q { doing = ended (exited t) } | Some name ↦ raised q k (permission_error (codes "exit") (codes "thread") (atom name)) (proc_of g) ]
    in r)
    is

remains : (l : Limits) (q : State) (k : Node) (g t : Tree) (name : Chars) → l.stays ≡ Some name
    → with_exit l q k g t ≡ raised q k (permission_error (codes "exit") (codes "thread") (atom name)) (proc_of g)
remains l q k g t name is =
    ap
    (λ (o : Option Chars).
    let r : State = elim o [ None ↦ record q { doing = ended (exited t) } | Some f ↦ raised q k (permission_error (codes "exit") (codes "thread") (atom f)) (proc_of g) ]
    in r)
    is

pub staying_some : (n : Names) (keep : Option Chars) (a : ℕ) → IsStayingAs n keep (Some a) → (c : Chars) × (keep ≡ Some c) × (n a ≡ Some c)
staying_some n None a h = absurd h
staying_some n (Some c) a h = (c, refl, h)

pub staying_none : (n : Names) (keep : Option Chars) → IsStayingAs n keep None → keep ≡ None
staying_none n None h = refl
staying_none n (Some c) h = absurd h

-- The error names what is not left.
pub not_left : (n : Names) (s : Contents) (p : Place) (a : ℕ) (c : Chars) → term_at s p ≡ atom (atom_name a) → n a ≡ Some c
    → fault_term n s (NotPermitted exit_name thread_name p) ≡ permission_error (codes "exit") (codes "thread") (atom c)
unfolding fixed_texts
not_left n s p a c is named =
    ap (λ (t : Tree). permission_error (codes "exit") (codes "thread") t)
    (ap (written.spelled (written.text_of n)) is ∙ ap (λ (o : Option Chars). atom (written.or_no_text (a ∷ []) o)) named)

pub name_held : (n : Names) (s : Contents) (p : Place) (a : ℕ) (c : Chars) → term_at s p ≡ atom (atom_name a) → n a ≡ Some c → IsFaultHeld n s (NotPermitted exit_name thread_name p)
name_held n s p a c is named =
    subst (λ (t : Tree). All (λ b. IsSome (n b)) (atoms_in t)) (sym is)
    (All-cons (λ b. IsSome (n b)) a [] (ap is_some named) (All-nil (λ b. IsSome (n b))))

-- The step
module _ (e : Search) (goal term : Place) (rest : ℕ) (at : IsExitAt e.store goal term) where
  exit_taken : (s : Setting) (h : ℕ) → IsView s.view
      → (let k = node_of s.view e rest in let g = reads s.view e.store goal in
      taken s e goal rest h ≡ costing (limits_in s e) (state_in s e) k g (λ q. goes (with_exit (limits_in s e) q k g (reads s.view e.store term))))
  unfolding take_up
  exit_taken s h view =
      ap (take_up (limits_in s e) (state_in s e) (node_of s.view e rest) (reads s.view e.store goal) h) (exit_stands e.store goal term at s.view view)

  -- No inference can be made.
  pub exit_spent : (keep : Option Chars) (n : Names) → e.budgets.inferences ≤ e.inferences → IsStepAloneAs keep n e goal rest e (Raise Inferences)
  exit_spent keep n most =
      record {
        leads =
            λ s h view known keeps.
            let k = node_of s.view e rest
            in let g = reads s.view e.store goal
            in exit_taken s h view
            ∙ no_inference (limits_in s e) (state_in s e) k g (λ q. goes (with_exit (limits_in s e) q k g (reads s.view e.store term))) (le-ltb e.inferences e.budgets.inferences most);
        after = record { budgets = refl; inside = (tt, keeps_counted e e refl) };
      }

  -- An inference can be made.
  module _ (count : e.inferences < e.budgets.inferences) where
    exit_counted : (s : Setting) (h : ℕ) → IsView s.view
        → (let k = node_of s.view e rest in let g = reads s.view e.store goal in
        taken s e goal rest h ≡ goes (with_exit (limits_in s e) (state_in s (counted_in e)) k g (reads s.view e.store term)))
    exit_counted s h view =
        let k = node_of s.view e rest
        in let g = reads s.view e.store goal
        in exit_taken s h view
        ∙ one_inference (limits_in s e) (state_in s e) k g (λ q. goes (with_exit (limits_in s e) q k g (reads s.view e.store term))) (lt-ltb e.inferences e.budgets.inferences count)

    pub exit_leaves : (d : Search) (ball : Tree) → d ≡ counted_in e → ball ≡ term_at e.store term → (s : Setting) (h : ℕ) → IsView s.view → s.stays ≡ None
        → taken s e goal rest h ≡ goes (left_state s d ball)
    exit_leaves d ball same is s h view keeps =
        exit_counted s h view
        ∙ ap goes (leaves (limits_in s e) (state_in s (counted_in e)) (node_of s.view e rest) (reads s.view e.store goal) (reads s.view e.store term) keeps)
        ∙ ap₂ (λ (y : Search) (b : Tree). goes (left_state s y b)) (sym same) (sym is)

    pub exit_refused : (name : Chars) (n : Names) (error : Tree) (f : Search) (o : Outcome) → error ≡ permission_error (codes "exit") (codes "thread") (atom name)
        → ((s : Setting) → IsView s.view → Holds n s.view.names → IsRaisedLed n (counted_in e) goal rest error f o s)
        → IsAfter e f o → IsStepAloneAs (Some name) n e goal rest f o
    exit_refused name n error f o is led after =
        record {
          leads =
              λ s h view known keeps.
              let k = node_of s.view e rest
              in let g = reads s.view e.store goal
              in exit_counted s h view
              ∙ ap goes
              (remains (limits_in s e) (state_in s (counted_in e)) k g (reads s.view e.store term) name keeps
              ∙ ap (λ (x : Tree). raised (state_in s (counted_in e)) k x (proc_of g)) (sym is)
              ∙ sym (led s view known));
          after = after;
        }
