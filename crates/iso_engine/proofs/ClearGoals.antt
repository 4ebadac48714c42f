-- Goals of retractall/1, as they are read, and their first step.
use Rattle.std.proofs.Common.{◌≡◌, ℕ, ◌<◌, ◌≤◌, Bool, true, false, if◌then◌else◌, List, [], ◌∷◌, ◌++◌, Option, None, Some, IsSome, codes, refl, sym, ap, ap₂, subst, ◌∙◌}
use Rattle.std.specs.List.{All}
use Rattle.std.proofs.lemmas.Bool.{false≢true, le-ltb, lt-ltb}
use Rattle.std.proofs.lemmas.List.Elements.{All-tail}
use Rattle.std.specs.Prelude.{ℤ}
use Rattle.pl_term.specs.Tree.{Chars, Tree, comp, int, none}
use Rattle.world_builtins.specs.Naming.{IsHeldAt, atoms_in}
use Rattle.iso_engine.specs.Following.{is_integer}
use Rattle.iso_engine.proofs.Fresh.{all_left}
use Rattle.iso_engine.proofs.LookPredicates.{head_callable}
use Rattle.pl_model.specs.Checks.{bound_error, callable_error, first_error}
use Rattle.pl_model.specs.Control.{clears, construct, costing, raised, take_up, to_clear, with_clearing}
use Rattle.pl_model.specs.Control as control
use Rattle.pl_model.specs.Database.{Stored}
use Rattle.pl_model.specs.History.{Clause, proc}
use Rattle.pl_model.specs.Predicates.{proc_of}
use Rattle.pl_model.specs.Requests.{cleared_clauses}
use Rattle.pl_model.specs.Resolution.{asks, clearing, goes}
use Rattle.atom_api.specs.Fixed.{fixed, fixed_texts}
use Rattle.atom_api.specs.FixedNames.{retractall_name}
use Rattle.atom_api.specs.Names.{Names}
use Rattle.term_store.specs.declared.words.Place.{Place}
use Rattle.term_store.specs.Contents.{Contents, term_at}
use Rattle.world_api.specs.Texts.{Holds}
use Rattle.world_api.specs.declared.reply.Found.{Found}
use Rattle.iso_search.specs.declared.outcome.Fault.TheVariants.{Inferences}
use Rattle.iso_search.specs.declared.outcome.Outcome.{Outcome}
use Rattle.iso_search.specs.declared.outcome.Outcome.TheVariants.{Raise}
use Rattle.iso_search.specs.declared.search.Search.{Search}
use Rattle.iso_search.specs.Outcomes.{IsAfter, Setting, limits_in, state_in}
use Rattle.iso_search.specs.Reading.{IsView, View, reads}
use Rattle.iso_search.specs.Searching.{node_of}
use Rattle.iso_search.specs.Spelling.{spelled, text_of}
use Rattle.iso_search.proofs.Naming.{text_is}
use Rattle.iso_engine.specs.Clearing.{ClearsAt, IsClearAt, clear_error, clear_procedure}
use Rattle.iso_engine.specs.Following.{HasProcedure}
use Rattle.iso_engine.specs.GoalSteps.{IsStepAlone}
use Rattle.iso_engine.specs.Lists.{IsListed}
use Rattle.iso_engine.specs.Standing.{base_of, clearing_by, doing_of, found_in, left_after, left_clauses, left_of}
use Rattle.iso_engine.specs.Wrote.{taken}
use Rattle.iso_engine.specs.declared.doing.Doing.TheVariants.{Clearing}
use Rattle.iso_engine.specs.declared.doing.Left.{Left}
use Rattle.iso_engine.proofs.Equals.{keeps_counted}
use Rattle.iso_engine.proofs.RaisedRows.{IsRaisedLed}
use Rattle.iso_engine.proofs.StateRows.{counted_in, no_inference, one_inference}

pub clear_is : fixed retractall_name ≡ Some (codes "retractall")
unfolding fixed_texts
clear_is = refl

clear_construct : (t : Tree) → construct (comp (codes "retractall") t none) ≡ clears t
unfolding construct
clear_construct t = refl

-- The goal
module _ (s : Contents) (goal head : Place) (at : IsClearAt s goal head) where
  clear_reads : (v : View) → IsView v → reads v s goal ≡ comp (codes "retractall") (reads v s head) none
  clear_reads v view =
      ap (spelled (text_of v.names)) at.means
      ∙ ap (λ (f : Chars). comp f (reads v s head) none) (text_is v view retractall_name (codes "retractall") clear_is)

  clear_stands : (v : View) → IsView v → construct (reads v s goal) ≡ clears (reads v s head)
  clear_stands v view = ap construct (clear_reads v view) ∙ clear_construct (reads v s head)

  pub clear_has : HasProcedure s goal clear_procedure
  clear_has r view =
      ap proc_of (clear_reads r.view view) ∙ ap (λ (f : Chars). proc f 1) (sym (text_is r.view view retractall_name (codes "retractall") clear_is))

-- The atoms of the head are held where those of the goal are.
pub clear_held : (m : Names) (s : Contents) (goal head : Place) → IsClearAt s goal head → IsHeldAt m s goal → IsHeldAt m s head
clear_held m s goal head at held =
    let P : ℕ → Type 0 = λ a. IsSome (m a) in
    all_left P (atoms_in (term_at s head)) [] (All-tail P retractall_name (atoms_in (term_at s head) ++ []) (subst (λ u. All P (atoms_in u)) at.means held))

-- A head that is not refused is no integer.
pub head_no_integer : (v : View) (s : Contents) (head : Place) → clear_error v s head ≡ None → is_integer (reads v s head) ≡ false
head_no_integer v s head allowed = passed (bound_error (reads v s head)) (callable_error (reads v s head)) refl refl allowed
  where
    passed : (a b : Option Tree) → bound_error (reads v s head) ≡ a → callable_error (reads v s head) ≡ b → first_error (a ∷ (b ∷ [])) ≡ None
        → is_integer (reads v s head) ≡ false
    passed None None x y e = head_callable (reads v s head) x y
    passed None (Some b) x y e = absurd (cc)
    passed (Some a) b x y e = absurd (cc)

pub not_integer : (v : View) (s : Contents) (head : Place) → clear_error v s head ≡ None → (i : ℤ) → term_at s head ≡ int i → ⊥
not_integer v s head allowed i is = false≢true (sym (head_no_integer v s head allowed) ∙ ap (λ x. is_integer (spelled (text_of v.names) x)) is)

-- What is cleared by the first task of a list.
pub clearing_is : (v : View) (e : Search) (list : ℕ) (head : Place) (rest : ℕ) → ClearsAt e list head rest → (g : ℕ) (x : Left)
    → (let h = reads v e.store head in doing_of v e (Clearing list g x) ≡ clearing h (left_clauses v h g x) (node_of v e rest))
clearing_is v e list head rest c g x =
    ap (λ ts. clearing_by v e ts g x) c.first
    ∙ ap (λ (t : Tree). let h = Rattle.iso_engine.specs.Standing.head_of (spelled (text_of v.names) t) in clearing h (left_clauses v h g x) (node_of v e rest)) c.at.means

-- Lists

one_more : (ds : List (Stored Clause)) → Rattle.world_api.specs.Replies.follows_some ds ≡ false → ds ≡ []
one_more [] e = refl
one_more (d ∷ ds) e = absurd (false≢true (sym e))

-- The clauses that begin with the one that was found.
pub listed_left : (v : View) (h : Tree) (g : ℕ) (a : Option ℕ) (f : Option (Found Tree)) (cs : List (Stored Clause)) → IsListed v h g f cs
    → ((x : Found Tree) → f ≡ Some x → base_of v h g a ≡ cs) → left_clauses v h g (left_of a f) ≡ cs
listed_left v h g a None [] is base = refl
listed_left v h g a None (c ∷ cs) is base = absurd is.front
listed_left v h g a (Some x) [] is base = absurd is.front
listed_left v h g a (Some x) (c ∷ ds) is base =
    ap₂ (λ (y : Stored Clause) ys. y ∷ ys)
    (ap (λ bs. found_in v bs x) (base x refl)
    ∙ ap₂ (λ (p : ℕ) (k : Clause). let y : Stored Clause = record c { place = p; clause = k } in y) is.front.place is.front.clause)
    (rest x.more refl)
  where
    rest : (b : Bool) → x.more ≡ b → (if b then v.left h g x.place else []) ≡ ds
    rest true more = is.left more
    rest false more = sym (one_more ds (sym is.front.more ∙ more))

-- Those after the one that was found.
pub after_left : (v : View) (h : Tree) (g : ℕ) (x : Found Tree) → left_clauses v h g (left_after x) ≡ (if x.more then v.left h g x.place else [])
after_left v h g x = go x.more
  where
    go : (b : Bool) → left_clauses v h g (if b then Rattle.iso_engine.specs.declared.doing.Left.TheVariants.After x.place else Rattle.iso_engine.specs.declared.doing.Left.TheVariants.None)
        ≡ (if b then v.left h g x.place else [])
    go true = refl
    go false = refl

-- The step
module _ (e : Search) (goal head : Place) (rest : ℕ) (at : IsClearAt e.store goal head) where
  clear_taken : (s : Setting) (h : ℕ) → IsView s.view
      → (let k = node_of s.view e rest in let g = reads s.view e.store goal in
      taken s e goal rest h ≡ costing (limits_in s e) (state_in s e) k g (λ q. with_clearing q k g (reads s.view e.store head)))
  unfolding take_up
  clear_taken s h view =
      ap (take_up (limits_in s e) (state_in s e) (node_of s.view e rest) (reads s.view e.store goal) h) (clear_stands e.store goal head at s.view view)

  -- No inference can be made.
  pub clear_spent : (n : Names) → e.budgets.inferences ≤ e.inferences → IsStepAlone n e goal rest e (Raise Inferences)
  clear_spent n most =
      record {
        leads =
            λ s h view known.
            let k = node_of s.view e rest
            in let g = reads s.view e.store goal
            in clear_taken s h view
            ∙ no_inference (limits_in s e) (state_in s e) k g (λ q. with_clearing q k g (reads s.view e.store head)) (le-ltb e.inferences e.budgets.inferences most);
        after = record { budgets = refl; inside = (tt, keeps_counted e e refl) };
      }

  -- An inference can be made.
  module _ (count : e.inferences < e.budgets.inferences) where
    clear_counted : (s : Setting) (h : ℕ) → IsView s.view
        → (let k = node_of s.view e rest in let g = reads s.view e.store goal in taken s e goal rest h ≡ with_clearing (state_in s (counted_in e)) k g (reads s.view e.store head))
    clear_counted s h view =
        let k = node_of s.view e rest
        in let g = reads s.view e.store goal
        in clear_taken s h view
        ∙ one_inference (limits_in s e) (state_in s e) k g (λ q. with_clearing q k g (reads s.view e.store head)) (lt-ltb e.inferences e.budgets.inferences count)

    -- The goal is not refused.
    pub clear_asks : (s : Setting) (h : ℕ) → IsView s.view → clear_error s.view e.store head ≡ None
        → (let t = reads s.view e.store head in
        taken s e goal rest h ≡ asks (cleared_clauses t) (to_clear (state_in s (counted_in e)) (node_of s.view e rest) t))
    clear_asks s h view allowed =
        let k = node_of s.view e rest
        in let g = reads s.view e.store goal
        in let t = reads s.view e.store head
        in clear_counted s h view
        ∙ ap (λ o. control.unless (state_in s (counted_in e)) k g o (asks (cleared_clauses t) (to_clear (state_in s (counted_in e)) k t))) allowed

    -- It is refused.
    pub clear_refused : (n : Names) (error : Tree) (f : Search) (o : Outcome) → ((v : View) → IsView v → Holds n v.names → clear_error v e.store head ≡ Some error)
        → ((s : Setting) → IsView s.view → Holds n s.view.names → IsRaisedLed n (counted_in e) goal rest error f o s) → IsAfter e f o → IsStepAlone n e goal rest f o
    clear_refused n error f o wrong led after =
        record {
          leads =
              λ s h view known.
              let k = node_of s.view e rest
              in let g = reads s.view e.store goal
              in let t = reads s.view e.store head
              in clear_counted s h view
              ∙ ap (λ x. control.unless (state_in s (counted_in e)) k g x (asks (cleared_clauses t) (to_clear (state_in s (counted_in e)) k t))) (wrong s.view view known)
              ∙ ap goes (sym (led s view known));
          after = after;
        }
