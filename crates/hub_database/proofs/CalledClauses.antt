-- What calls of goals come to, and what clause/2, retract/1 and retractall/1 look through.
use Rattle.std.proofs.Common.{◌≡◌, ◌<◌, ◌≤◌, ◌^◌, ℕ, ◌∷◌, length, List, [], Some, None, Bool, true, false, sym, ap, subst, ◌∙◌}
use Rattle.std.specs.Prelude.{IsSome, codes}
use Rattle.std.specs.List.{All}
use Rattle.std.proofs.lemmas.List.Elements.{All-nil}
use Rattle.pl_term.specs.Tree.{Chars, Tree}
use Rattle.pl_model.specs.History.{Clause, History, Proc, set_dynamic}
use Rattle.pl_model.specs.Database as model
use Rattle.pl_model.specs.Database.{choices, is_known, is_static}
use Rattle.pl_model.specs.Errors.{static_procedure, unknown_procedure}
use Rattle.pl_model.specs.ErrorTerms.{private_procedure, resource_error}
use Rattle.pl_model.specs.FirstArguments.{head_of}
use Rattle.pl_model.specs.Flags.{Unknown}
use Rattle.pl_model.specs.Predicates.{is_excluded, proc_of}
use Rattle.pl_model.specs.Requests.{Request, call_clauses, cleared_clauses, inspected_clauses, listed, refused, retracted_clauses}
use Rattle.pl_model.specs.Service.{answers, clauses_for, served_now, unknown_called}
use Rattle.pl_model.specs.SharedState.{state_at}
use Rattle.atom_api.specs.Names.{FixedStand, Names}
use Rattle.atom_words.specs.declared.view.View.{View}
use Rattle.clause_db.specs.Flags.{unknown_as}
use Rattle.clause_db.specs.Parts.{Held}
use Rattle.clause_db.specs.declared.flags.UnknownCall.{UnknownCall}
use Rattle.clause_db.specs.declared.flags.UnknownCall.TheVariants.{Raises, Fails}
use Rattle.term_store.specs.NumberedNames.{term_by}
use Rattle.world_api.specs.Replies.{IsFront}
use Rattle.world_api.specs.Texts.{text_of}
use Rattle.world_api.specs.Visits.{proc_named}
use Rattle.world_api.specs.declared.visit.Procedure.{Procedure}
use Rattle.counted_terms.specs.Rows.{row_names}
use Rattle.counted_terms.specs.declared.row.Row.{Row}
use Rattle.hub_database.specs.Database.{IsDatabase, databases}
use Rattle.hub_database.specs.Rows.{HandsOut, Refuses, Tells, Unknowns}
use Rattle.hub_database.proofs.Deciding.{handed_tells, refused_named, refused_tells}
use Rattle.hub_database.proofs.Open.{list_same}
use Rattle.hub_database.proofs.Served.{call_known, call_unknown, clear_known, clear_opened, clear_refused, clear_worn, inspect_private, inspected, retract_refused, retracted}

-- p: the goal's predicate in texts, g: the generation
module _ (goals e : ℕ) (h : History) (k : View) (db : Held Tree) (g : ℕ) (at : length h ≡ g) (is : IsDatabase k db goals h) (goal : Tree) (p : Proc) (own : proc_of goal ≡ p) where
  abbrev tried : ℕ → Proc → Tree → List (model.Stored Clause)
  tried n q t = choices (λ (c : Clause). is_excluded t c.head) n q (databases goals h n)

  lists_same : tried g p (head_of goal) ≡ clauses_for (state_at goals h (length h)) (length h) goal
  lists_same =
      sym (ap (λ n. tried n p (head_of goal)) at)
      ∙ sym (ap (λ q. tried (length h) q (head_of goal)) own)
      ∙ list_same goal (length h) (databases goals h (length h)) (is.open_only (length h))

  at_goal : (f : model.Database Clause → Proc → Bool) → f (databases goals h (length h)) (proc_of goal) ≡ f (databases goals h g) p
  at_goal f = ap (λ n. f (databases goals h n) (proc_of goal)) at ∙ ap (f (databases goals h g)) own

  module _ (text : ℕ → Chars) (q : Request) (served : served_now e goals h q ≡ answers (listed (clauses_for (state_at goals h (length h)) (length h) goal)) None) where
    pub list_tells : (row : Row) → HandsOut (λ f. IsFront term_by text f (tried g p (head_of goal))) row → Tells goals e text q h row
    list_tells row hands =
        handed_tells goals e text q h (clauses_for (state_at goals h (length h)) (length h) goal) served row
        (subst (λ (cs : List (model.Stored Clause)). HandsOut (λ f. IsFront term_by text f cs) row) lists_same hands)

  -- CALLS
  pub known_tells : (text : ℕ → Chars) → is_known (databases goals h g) p ≡ true → (row : Row) → HandsOut (λ f. IsFront term_by text f (tried g p (head_of goal))) row → Tells goals e text (call_clauses goal) h row
  known_tells text known = list_tells text (call_clauses goal) (call_known e (state_at goals h (length h)) (length h) goal (at_goal is_known ∙ known))

  -- CLAUSE/2 AND RETRACT/1 of a procedure that is not static
  pub inspected_tells : (text : ℕ → Chars) → is_static (databases goals h g) p ≡ false → (row : Row) → HandsOut (λ f. IsFront term_by text f (tried g p (head_of goal))) row → Tells goals e text (inspected_clauses goal) h row
  inspected_tells text open_ = list_tells text (inspected_clauses goal) (inspected e (state_at goals h (length h)) (length h) goal (at_goal is_static ∙ open_))

  pub retracted_tells : (text : ℕ → Chars) → is_static (databases goals h g) p ≡ false → (row : Row) → HandsOut (λ f. IsFront term_by text f (tried g p (head_of goal))) row → Tells goals e text (retracted_clauses goal) h row
  retracted_tells text open_ = list_tells text (retracted_clauses goal) (retracted e (state_at goals h (length h)) (length h) goal (at_goal is_static ∙ open_))

  -- RETRACTALL/1 of a dynamic procedure
  pub cleared_tells : (text : ℕ → Chars) → is_static (databases goals h g) p ≡ false → is_known (databases goals h g) p ≡ true → (row : Row) → HandsOut (λ f. IsFront term_by text f (tried g p (head_of goal))) row → Tells goals e text (cleared_clauses goal) h row
  cleared_tells text open_ known = list_tells text (cleared_clauses goal) (clear_known e (state_at goals h (length h)) (length h) goal (at_goal is_static ∙ open_) (at_goal is_known ∙ known))

  -- REFUSALS, by the engine's names m
  module _ (m : Names) (procedure : Procedure) (named : p ≡ proc_named (text_of m) procedure) (stand : FixedStand m) (held : IsSome (m procedure.name)) where
    goal_named : proc_of goal ≡ proc_named (text_of m) procedure
    goal_named = own ∙ named

    pub private_tells : is_static (databases goals h g) p ≡ true → (row : Row) → Refuses (Some procedure.name) (λ m. private_procedure (proc_named (text_of m) procedure)) row → Tells goals e (text_of m) (inspected_clauses goal) h row
    private_tells static_ =
        refused_tells goals e m (inspected_clauses goal) h (Some procedure.name) (λ m. private_procedure (proc_named (text_of m) procedure)) stand held
        (inspect_private e (state_at goals h (length h)) (length h) goal (at_goal is_static ∙ static_) ∙ ap (λ q. answers (refused (private_procedure q)) None) goal_named)

    pub static_tells : is_static (databases goals h g) p ≡ true → (row : Row) → Refuses (Some procedure.name) (λ m. static_procedure (proc_named (text_of m) procedure)) row → Tells goals e (text_of m) (retracted_clauses goal) h row
    static_tells static_ =
        refused_tells goals e m (retracted_clauses goal) h (Some procedure.name) (λ m. static_procedure (proc_named (text_of m) procedure)) stand held
        (retract_refused e (state_at goals h (length h)) (length h) goal (at_goal is_static ∙ static_) ∙ ap (λ q. answers (refused (static_procedure q)) None) goal_named)

    -- the call of an unknown procedure, by the flag
    unknown_served : is_known (databases goals h g) p ≡ false → (u : Unknown) → u ≡ (state_at goals h (length h)).flags.unknown
        → served_now e goals h (call_clauses goal) ≡ unknown_called u (proc_named (text_of m) procedure)
    unknown_served unknown u flag =
        call_unknown e (state_at goals h (length h)) (length h) goal (at_goal is_known ∙ unknown)
        ∙ ap (λ v. unknown_called v (proc_of goal)) (sym flag)
        ∙ ap (unknown_called u) goal_named

    pub unknown_tells : is_known (databases goals h g) p ≡ false → (call : UnknownCall) → unknown_as call ≡ (state_at goals h (length h)).flags.unknown
        → (row : Row) → Unknowns call procedure row → Tells goals e (text_of m) (call_clauses goal) h row
    unknown_tells unknown Raises flag row r =
        refused_tells goals e m (call_clauses goal) h (Some procedure.name) (λ m. unknown_procedure (proc_named (text_of m) procedure)) stand held
        (unknown_served unknown (unknown_as Raises) flag) row r
    unknown_tells unknown Fails flag row r =
        subst (Tells goals e (text_of m) (call_clauses goal) h) (sym r)
        (record { reply = listed []; serves = unknown_served unknown (unknown_as Fails) flag; says = tt })

    -- retractall/1 of one that is static, and of one that is not there
    pub clear_static : is_static (databases goals h g) p ≡ true → (row : Row) → Refuses (Some procedure.name) (λ m. static_procedure (proc_named (text_of m) procedure)) row → Tells goals e (text_of m) (cleared_clauses goal) h row
    clear_static static_ =
        refused_tells goals e m (cleared_clauses goal) h (Some procedure.name) (λ m. static_procedure (proc_named (text_of m) procedure)) stand held
        (clear_refused e (state_at goals h (length h)) (length h) goal (at_goal is_static ∙ static_) ∙ ap (λ q. answers (refused (static_procedure q)) None) goal_named)

    pub clear_serves : is_static (databases goals h g) p ≡ false → is_known (databases goals h g) p ≡ false → length h < 2 ^ 47
        → served_now e goals h (cleared_clauses goal) ≡ answers (listed []) (Some (set_dynamic (proc_named (text_of m) procedure ∷ [])))
    clear_serves open_ unknown few =
        clear_opened e (state_at goals h (length h)) (length h) goal (at_goal is_static ∙ open_) (at_goal is_known ∙ unknown) few
        ∙ ap (λ q. answers (listed []) (Some (set_dynamic (q ∷ [])))) goal_named

    pub clear_lacks : is_static (databases goals h g) p ≡ false → is_known (databases goals h g) p ≡ false → 2 ^ 47 ≤ length h
        → served_now e goals h (cleared_clauses goal) ≡ answers (refused (resource_error (codes "generations"))) None
    clear_lacks open_ unknown many = clear_worn e (state_at goals h (length h)) (length h) goal (at_goal is_static ∙ open_) (at_goal is_known ∙ unknown) many

-- what the answer to an unknown procedure names
pub unknown_named : (m : Names) (procedure : Procedure) → FixedStand m → IsSome (m procedure.name) → (call : UnknownCall) (row : Row) → Unknowns call procedure row → All (λ a. IsSome (m a)) (row_names row)
unknown_named m procedure stand held Raises row r = refused_named m (Some procedure.name) (λ m. unknown_procedure (proc_named (text_of m) procedure)) stand held row r
unknown_named m procedure stand held Fails row r = subst (λ (x : Row). All (λ a. IsSome (m a)) (row_names x)) (sym r) (All-nil (λ a. IsSome (m a)))
