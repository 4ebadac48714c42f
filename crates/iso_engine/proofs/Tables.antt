-- Lines of a table that were not tried, as a step of an engine.
use Rattle.std.proofs.Common.{◌≡◌, ◌≤◌, ℕ, List, [], ◌∷◌, drop, zero, suc, length, Option, Some, None, IfSome, refl, sym, ap, subst, ◌∙◌, append-nil}
use Rattle.std.specs.List.{Contains}
use Rattle.pl_term.specs.Tree.{Chars, Trees}
use Rattle.pl_model.specs.Builtins.{row}
use Rattle.pl_model.specs.BuiltinRows.{Answer, gives, table, error, unifying}
use Rattle.pl_model.specs.BuiltinRows as defined
use Rattle.pl_model.specs.Control.{next_answer}
use Rattle.pl_model.specs.Predicates.{proc_of}
use Rattle.pl_model.specs.Terms.{arguments}
use Rattle.atom_api.specs.Names.{FixedStand, Names}
use Rattle.term_store.specs.declared.words.Place.{Place}
use Rattle.term_store.specs.Heap.{atom_name}
use Rattle.term_store.specs.Contents.{Contents}
use Rattle.world_api.specs.Texts.{Holds}
use Rattle.world_api.specs.Told.{Told}
use Rattle.world_builtins.specs.Naming.{IsHeldAt}
use Rattle.builtin_rows.specs.Predicates as kinds
use Rattle.builtin_rows.specs.declared.row.Row.{Row}
use Rattle.builtin_rows.specs.declared.row.Row.TheVariants as found
use Rattle.builtin_rows.specs.Given.{given_texts, lined, texts_of_all, terms_of as answer_terms}
use Rattle.builtin_rows.specs.Rows.{IsRow}
use Rattle.iso_engine.specs.Dispatching.{given_from, lines_in, terms_of}
use Rattle.iso_engine.specs.Dispatching as dispatched
use Rattle.iso_search.specs.declared.failure.Back.TheVariants.{Answers}
use Rattle.iso_search.specs.declared.outcome.Outcome.{Outcome}
use Rattle.iso_search.specs.declared.search.Search.{Search}
use Rattle.iso_search.specs.declared.choices.Alternative.TheVariants.{Answers as AnswersLeft}
use Rattle.iso_search.specs.Choices.{answers_from, choice_at}
use Rattle.iso_search.specs.Failures.{IsTaken}
use Rattle.iso_search.specs.Lines.{lines_of, table_of}
use Rattle.iso_search.specs.Outcomes.{limits_in, state_in}
use Rattle.iso_search.specs.Reading.{IsView, View, reads}
use Rattle.iso_search.specs.Searching.{IsWhole, choices_of, node_of, state_of}
use Rattle.iso_search.specs.Spelling.{TellsApart, text_of}
use Rattle.iso_engine.specs.TableLines.{IsNextMade, LineOrigin}
use Rattle.iso_engine.specs.declared.builtin.RowGoal.{RowGoal}
use Rattle.iso_engine.specs.declared.doing.Doing.TheVariants.{Failing}
use Rattle.iso_engine.specs.declared.engine.Engine.{Engine}
use Rattle.world_api.specs.declared.unserved.Unserved.{Unserved}
use Rattle.iso_engine.specs.Builtins.{IsRowGoal}
use Rattle.iso_engine.specs.Lines.{IsLineAsked, LineLeadsTo}
use Rattle.iso_engine.specs.Retrying.{IsTried}
use Rattle.iso_engine.specs.Rows.{refusal_of}
use Rattle.iso_engine.proofs.Arms.{when_some}
use Rattle.iso_engine.proofs.Followed.{doing_same}
use Rattle.iso_engine.proofs.Procedures.{compound_proc}
use Rattle.iso_engine.proofs.RowSteps.{same_row, same_terms}
use Rattle.iso_engine.proofs.RowTaken.{IsFollowedAs}

lines_as : (o : Option defined.Row) → table_of o ≡ lines_in o
lines_as None = refl
lines_as (Some (gives xs)) = refl
lines_as (Some (table xs)) = refl
lines_as (Some (error e)) = refl

-- The table of the goal, by views in which the atoms of the goal have the texts that are held.
module _ (m : Names) (v : View) (view : IsView v) (grown : Holds m v.names) (s : Contents) (r : RowGoal) (at : IsRowGoal s r) (held : IsHeldAt m s r.place) where
  pub same_lines : lines_of (reads v s r.place) ≡ dispatched.lines_of r.pred (terms_of m s r.arguments)
  same_lines = ap table_of (same_row m v view grown s r at held 0) ∙ lines_as (row (kinds.name_of r.pred) (terms_of m s r.arguments) 0)

  pub same_given : (line : ℕ) (P : List Chars → Type 0) → P (given_texts (given_from r.pred (terms_of m s r.arguments) line))
      → (let g = reads v s r.place in P (texts_of_all (answer_terms (unifying (arguments g) (drop line (lines_of g))))))
  same_given line P h =
      subst (λ us. P (texts_of_all (answer_terms (unifying us (drop line (lines_of (reads v s r.place)))))))
      (sym (same_terms m v view grown s r at held))
      (subst (λ xs. P (texts_of_all (answer_terms (unifying (terms_of m s r.arguments) (drop line xs)))))
      (sym same_lines) h)

-- What was asked of the atoms are texts of the answers that are left.
pub asked_line : (m : Names) → FixedStand m → TellsApart (text_of m) → (s : Contents) (r : RowGoal) → IsRowGoal s r → IsHeldAt m s r.place → (line : ℕ) (c : Chars)
    → Contains (given_texts (given_from r.pred (terms_of m s r.arguments) line)) c → IsLineAsked m s r.place line c
asked_line m fixed apart s r at held line c h =
    let v : View = record { names = m; all = λ goal g. []; left = λ goal g place. [] }
    in let view : IsView v = record { fixed = fixed; apart = apart }
    in same_given m v view (λ a y k. k) s r at held line (λ cs. Contains cs c) h

-- The row was made of the lines from there on.
module _ (e : Search) (m n : Names) (r : RowGoal) (line : ℕ) (t : Contents) (row : Row) (at : IsRowGoal e.store r) (held : IsHeldAt m e.store r.place) (grown : Holds m n)
    (whole : IsWhole e) where
  abbrev pub line_origin : LineOrigin
  line_origin =
      record {
        store = e.store;
        held = n;
        terms = terms_of m e.store r.arguments;
        lines = dispatched.lines_of r.pred (terms_of m e.store r.arguments);
        from = line;
      }

  pub line_made : IsRow e.store e.next_variable (terms_of m e.store r.arguments) (given_from r.pred (terms_of m e.store r.arguments) line) n t row
      → (let y : Search = record e { store = t } in IsNextMade line_origin r.place y row)
  line_made is =
      record {
        whole = whole;
        inside = at.holds;
        read_as =
            λ v view known.
            let later : Holds m v.names = λ a y h. known a y (grown a y h)
            in (same_terms m v view later e.store r at held, same_lines m v view later e.store r at held);
        made = is;
      }

-- The goal went on.
pub line_tried : (n : Names) (t : Told) (e f : Engine) (r : RowGoal) (line next : ℕ) (o : Outcome) → IsRowGoal e.search.store r → next ≤ length e.search.frames.items
    → LineLeadsTo n e.search r line next f.search o
    → IsFollowedAs f next (record { name = r.name; arity = r.arguments.count }) o
    → (let x : Engine = record e { search = f.search; doing = f.doing } in f ≡ x)
    → IsTried t e (Answers r.place line next) n t f
line_tried n t e f r line next o at le leads follows rest =
    record {
      before = t.history;
      follows = record { later = []; grown = sym (append-nil t.history); others = refl };
      told = refl;
      stands =
          λ q view alike.
          sym (leads.step q view alike.holds)
          ∙ ap (λ d. state_of q.view f.search d q.output)
          (sym (follows q view
          ∙ doing_same q e.search f.search (record { name = text_of q.view.names (atom_name r.name); arity = r.arguments.count })
          (proc_of (reads q.view e.search.store r.place)) next o le leads.after.inside
          (sym (compound_proc q.view e.search.store r.place r.name r.arguments.count r.arguments at.means at.inside at.some refl))));
      budgets = leads.after.budgets;
      rest = rest;
    }

dropped : (k : ℕ) → (let none : List Answer = [] in drop k none ≡ none)
dropped zero = refl
dropped (suc k) = refl

-- The goal has no table.
pub no_table_tried : (n : Names) (t : Told) (e : Engine) (goal : Place) (line next : ℕ) → ((v : View) → IsView v → lines_of (reads v e.search.store goal) ≡ [])
    → (let f : Engine = record e { doing = Failing } in IsTried t e (Answers goal line next) n t f)
no_table_tried n t e goal line next none =
    record {
      before = t.history;
      follows = record { later = []; grown = sym (append-nil t.history); others = refl };
      told = refl;
      stands =
          λ q view alike.
          let s = e.search
          in let g = reads q.view s.store goal
          in ap (λ xs. next_answer (limits_in q s) (state_in q s) (node_of q.view s next) (proc_of g) (arguments g) (unifying (arguments g) xs))
          (ap (drop line) (none q.view view) ∙ dropped line);
      budgets = refl;
      rest = refl;
    }

-- A row of which an atom was refused: nothing has changed.
module _ (s : Contents) (next : ℕ) (ts us : Trees) (xs : List Answer) (k : ℕ) (n : Names) (t : Contents) where
  all_same : (row : Row) → IsRow s next ts (lined us xs k) n t row → IfSome (refusal_of row) (λ x. t ≡ s)
  all_same found.Fails h = tt
  all_same found.Holds h = tt
  all_same (found.Answer ps fresh) h = tt
  all_same (found.Line ps following) h = tt
  all_same (found.Ball w) h = tt
  all_same (found.CellsFull used need) h = tt
  all_same (found.NeedsAtoms p) h = h
  all_same (found.Retry c) h = h
  all_same (found.Worn w) h = h

  pub refused_same : (row : Row) (x : Unserved) → IsRow s next ts (lined us xs k) n t row → refusal_of row ≡ Some x → t ≡ s
  refused_same row x made is = when_some (λ y. t ≡ s) (refusal_of row) x (all_same row made) is

-- The choice point is there again.
pub line_again : (e x f : Search) (goal : Place) (line next : ℕ) → x ≡ e
    → ((v : View) → choices_of v f ≡ choice_at v (reads v x.store) (node_of v x next) (AnswersLeft goal line) ∷ choices_of v x)
    → (let y : Search = record x { choices = f.choices } in f ≡ y)
    → IsTaken f e (Answers goal line next) × (let y : Search = record e { choices = f.choices } in f ≡ y)
line_again e x f goal line next same pushed kept = (
  λ v. pushed v ∙ ap (λ (y : Search). answers_from (reads v y.store goal) line (node_of v y next) ∷ choices_of v y) same,
  kept ∙ ap (λ (y : Search). let z : Search = record y { choices = f.choices } in z) same,
)
