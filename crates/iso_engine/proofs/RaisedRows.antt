-- The row of an error that the goal at a place raises, as a step of a search.
use Rattle.std.proofs.Common.{◌≡◌, ℕ, [], Some, None, refl, sym, ap, subst, ◌∙◌}
use Rattle.pl_term.specs.Tree.{Chars, Tree, Trees}
use Rattle.pl_model.specs.Balls.{error_ball}
use Rattle.pl_model.specs.BuiltinRows as rows
use Rattle.pl_model.specs.Control.{raised, with_row}
use Rattle.pl_model.specs.History.{Proc, proc}
use Rattle.pl_model.specs.Predicates.{proc_of}
use Rattle.pl_model.specs.Resolution.{failing}
use Rattle.pl_model.specs.Terms.{arguments}
use Rattle.atom_api.specs.Fixed.{fixed}
use Rattle.atom_api.specs.Names.{FixedStand, Names}
use Rattle.term_store.specs.declared.words.Place.{Place}
use Rattle.term_store.specs.Contents.{Contents, Holds as IsIn}
use Rattle.world_api.specs.declared.visit.Procedure.{Procedure}
use Rattle.world_api.specs.Texts.{Holds}
use Rattle.world_builtins.specs.Naming.{IsHeldAt}
use Rattle.world_builtins.specs.Spelling as written
use Rattle.builtin_rows.specs.Given.{given, thrown}
use Rattle.builtin_rows.specs.Rows.{IsRow, IsSingle}
use Rattle.builtin_rows.specs.declared.row.Row.{Row}
use Rattle.iso_search.specs.declared.outcome.Outcome.{Outcome}
use Rattle.iso_search.specs.declared.search.Search.{Search}
use Rattle.iso_search.specs.Outcomes.{Setting, limits_in, result_in, state_in}
use Rattle.iso_search.specs.Reading.{IsView, View, reads}
use Rattle.iso_search.specs.Searching.{IsWhole, node_of}
use Rattle.iso_search.proofs.Naming.{text_is}
use Rattle.shared_builtins.specs.declared.faults.Fault.{Fault}
use Rattle.shared_builtins.specs.Faults.{IsFaultHeld, fault_term}
use Rattle.shared_builtins.specs.Telling.{TellsAtoms}
use Rattle.iso_engine.specs.Following.{HasProcedure}
use Rattle.iso_engine.specs.Tasks.{IsFixed}
use Rattle.iso_engine.specs.Leading.{IsRowMade, Origin}
use Rattle.iso_engine.proofs.OutputSteps.{read_held}
use Rattle.iso_engine.proofs.StateRows.{by_names, by_names_view, of_no_table}

abbrev pub origin_at : Names → Contents → Place → rows.Row → Origin
origin_at n s p d =
    record { store = s; before = n; after = n; predicate = proc_of (written.reads n s p); terms = arguments (written.reads n s p); row = d }

abbrev set_by : View → Setting
set_by v = record { view = v; solutions = 0; stays = None; doing = failing; output = [] }

-- The goal as the atoms that are held spell it.
module _ (n : Names) (tells : TellsAtoms n) (e : Search) (place : Place) (p : Procedure) (whole : IsWhole e) (inside : IsIn e.store place) (named : IsFixed p.name)
    (has : HasProcedure e.store place p) (held : IsHeldAt n e.store place) where
  abbrev g : Tree
  g = written.reads n e.store place

  predicate_is : (f : Chars) → fixed p.name ≡ Some f → proc_of g ≡ proc f p.arity
  predicate_is f is =
      let v = by_names n in
      let view = by_names_view n tells in
      ap proc_of (read_held n v (λ a y h. h) e.store place held)
      ∙ has (set_by v) view
      ∙ ap (λ (t : Chars). proc t p.arity) (text_is v view p.name f is)

  abbrev pub IsMadeRow : rows.Row → Contents → Row → Type 0
  IsMadeRow d t r = IsRow e.store e.next_variable (arguments g) (given (proc_of g) (arguments g) e.next_variable e.store.used e.store.budget d) n t r

  pub made_here : (d : rows.Row) (t : Contents) (r : Row) → IsMadeRow d t r → IsSingle r → (let y : Search = record e { store = t } in IsRowMade (origin_at n e.store place d) place y r)
  made_here d t r made single =
      record {
        whole = whole;
        inside = inside;
        held = held;
        later = λ a y h. h;
        arguments = refl;
        made = made;
        of_table = of_no_table (origin_at n e.store place d) place r single;
      }

  -- An error of the predicate, raised.
  pub fault_row : (fault : Fault) → IsFaultHeld n e.store fault → (t : Contents) (r : Row)
      → ((m : Names) (f : Chars) (next : ℕ) (ts : Trees) → FixedStand m → IsFaultHeld m e.store fault → fixed p.name ≡ Some f
      → IsRow e.store next ts (thrown (error_ball (fault_term m e.store fault) (proc f p.arity))) m t r)
      → IsMadeRow (rows.error (fault_term n e.store fault)) t r
  unfolding given
  fault_row fault fault_held t r raises =
      let made = raises n named.0 e.next_variable (arguments g) tells.naming.stands fault_held named.1 in
      subst (λ (q : Proc). IsRow e.store e.next_variable (arguments g) (thrown (error_ball (fault_term n e.store fault) q)) n t r)
      (sym (predicate_is named.0 named.1)) made

  -- Where the search raises it.
  pub raised_led : (error : Tree) (f : Search) (rest : ℕ) (o : Outcome) (s : Setting) → IsView s.view → Holds n s.view.names
      → result_in s f (node_of s.view e rest) (proc_of g) o
      ≡ with_row (limits_in s e) (state_in s e) (node_of s.view e rest) (proc_of g) (arguments (reads s.view e.store place)) (rows.error error)
      → (let k = node_of s.view e rest in let h = reads s.view e.store place in result_in s f k (proc_of h) o ≡ raised (state_in s e) k error (proc_of h))
  unfolding with_row
  raised_led error f rest o s view known step =
      subst (λ (p : Proc). result_in s f (node_of s.view e rest) p o ≡ raised (state_in s e) (node_of s.view e rest) error p)
      (ap proc_of (read_held n s.view known e.store place held)) step

-- The search raises this error.
abbrev pub IsRaisedLed : Names → Search → Place → ℕ → Tree → Search → Outcome → Setting → Type 0
IsRaisedLed n e place rest error f o s =
    let k = node_of s.view e rest in let g = reads s.view e.store place in result_in s f k (proc_of g) o ≡ raised (state_in s e) k error (proc_of g)
