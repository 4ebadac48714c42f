-- What additions of clauses come to, with their refusals.
use Rattle.std.proofs.Common.{◌≡◌, ◌<◌, ◌≤◌, ◌^◌, ◌+◌, ℕ, ◌++◌, length, Option, Some, None, refl, sym, ap, subst, ◌∙◌, ⊎_elim}
use Rattle.std.specs.Prelude.{IsSome, codes, nat_lt, if◌then◌else◌, ◌⊎◌}
use Rattle.std.specs.List.{All}
use Rattle.std.proofs.lemmas.List.Elements.{All-nil}
use Rattle.pl_term.specs.Tree.{Chars, Tree}
use Rattle.pl_model.specs.Database as model
use Rattle.pl_model.specs.Errors.{static_procedure}
use Rattle.pl_model.specs.ErrorTerms.{resource_error}
use Rattle.pl_model.specs.History.{Clause, History, Proc}
use Rattle.pl_model.specs.Predicates.{proc_of}
use Rattle.pl_model.specs.Requests.{done, refused}
use Rattle.pl_model.specs.Service.{answers, clause_cells, entry_by}
use Rattle.pl_model.specs.SharedState.{state_at}
use Rattle.pl_model.specs.declared.shows.Origin.{Origin}
use Rattle.atom_api.specs.Names.{FixedStand, Names}
use Rattle.atom_words.specs.declared.view.View.{View}
use Rattle.clause_db.specs.Faults.{addition_fault, is_closed}
use Rattle.clause_db.specs.Parts.{Held}
use Rattle.clause_db.specs.declared.fault.DbFault.{DbFault}
use Rattle.clause_db.specs.declared.fault.DbFault.TheVariants.{Static, Private, Unknown, CellsFull, Memory as NoMemory}
use Rattle.world_api.specs.Texts.{text_of}
use Rattle.world_api.specs.Visits.{proc_named}
use Rattle.world_api.specs.declared.reply.Reply.TheVariants.{Done}
use Rattle.world_api.specs.declared.visit.Procedure.{Procedure}
use Rattle.counted_terms.specs.Rows.{row_names}
use Rattle.counted_terms.specs.declared.row.Row.{Row}
use Rattle.counted_terms.specs.declared.row.Row.TheVariants.{Makes, Memory}
use Rattle.hub_database.specs.Adding.{adding_kind, adding_request, origin_by}
use Rattle.hub_database.specs.Database.{IsDatabase, databases}
use Rattle.hub_database.specs.Rows.{Decides, RefusesAddition, generation_after}
use Rattle.hub_database.specs.declared.storing.Adding.{Adding}
use Rattle.hub_database.proofs.Deciding.{refused_after, refused_by, refused_named}
use Rattle.hub_database.proofs.Served.{addition_cells, addition_made, addition_static, addition_worn}

-- the cause of a refusal goes by the cells that a clause takes
pub fault_by_cells : (d : model.Database Clause) (p : Proc) (o : Origin) (b c : Clause) → clause_cells b ≡ clause_cells c → addition_fault clause_cells d p o b ≡ addition_fault clause_cells d p o c
fault_by_cells d p o b c same =
    ap (λ n. if is_closed d p o then Some Static else (if nat_lt (model.used_cells clause_cells d + n) (2 ^ 40) then None else Some (CellsFull (model.used_cells clause_cells d) n))) same

-- c: the clause in texts, p: its predicate, new: what is stored after the row
module _ (goals e : ℕ) (h : History) (g : ℕ) (at : length h ≡ g) (by : Adding) (c : Clause) (p : Proc) (own : p ≡ proc_of c.head) (l : View) (new : Held Tree) where
  abbrev fault_at : ℕ → Option DbFault
  fault_at n = addition_fault clause_cells (databases goals h n) p (origin_by by) c

  -- IT IS ADDED
  pub made_decides : (text : ℕ → Chars) → g < 2 ^ 47 → fault_at g ≡ None → IsDatabase l new goals (h ++ entry_by e (Some (adding_kind by p c)))
      → Decides goals e text (adding_request by c) h (adding_kind by (proc_of c.head) c) l new (Makes Done)
  made_decides text few none is = (
    record {
      reply = done;
      serves =
          addition_made e by (state_at goals h (length h)) (length h) c p own (ap fault_at at ∙ none) (subst (λ (n : ℕ). n < 2 ^ 47) (sym at) few)
          ∙ ap (λ q. answers done (Some (adding_kind by q c))) own;
      says = refl;
    },
    subst (λ (q : Proc). IsDatabase l new goals (h ++ entry_by e (Some (adding_kind by q c)))) own is,
  )

  -- IT IS NOT, by the engine's names m
  module _ (m : Names) (procedure : Procedure) (named : p ≡ proc_named (text_of m) procedure) (stand : FixedStand m) (held : IsSome (m procedure.name)) (is : IsDatabase l new goals h) where
    out_of_memory : (row : Row) → row ≡ Memory → Decides goals e (text_of m) (adding_request by c) h (adding_kind by (proc_of c.head) c) l new row
    out_of_memory row r = subst (Decides goals e (text_of m) (adding_request by c) h (adding_kind by (proc_of c.head) c) l new) (sym r) is

    pub refused_decides : (fault : Option DbFault) → fault_at g ≡ fault → (fault ≡ None → 2 ^ 47 ≤ g) → (row : Row) → RefusesAddition procedure fault row
        → Decides goals e (text_of m) (adding_request by c) h (adding_kind by (proc_of c.head) c) l new row
    refused_decides None fault many row r =
        refused_by goals e m (adding_request by c) h None (λ m. resource_error (codes "generations")) stand tt
        (addition_worn e by (state_at goals h (length h)) (length h) c p own (ap fault_at at ∙ fault) (subst (λ (n : ℕ). 2 ^ 47 ≤ n) (sym at) (many refl)))
        (adding_kind by (proc_of c.head) c) l new is row r
    refused_decides (Some Static) fault many row r =
        refused_by goals e m (adding_request by c) h (Some procedure.name) (λ m. static_procedure (proc_named (text_of m) procedure)) stand held
        (addition_static e by (state_at goals h (length h)) (length h) c p own (ap fault_at at ∙ fault) ∙ ap (λ q. answers (refused (static_procedure q)) None) named)
        (adding_kind by (proc_of c.head) c) l new is row r
    refused_decides (Some (CellsFull u n)) fault many row r =
        refused_by goals e m (adding_request by c) h None (λ m. resource_error (codes "database")) stand tt
        (addition_cells e by (state_at goals h (length h)) (length h) c p own u n (ap fault_at at ∙ fault))
        (adding_kind by (proc_of c.head) c) l new is row r
    refused_decides (Some Private) fault many row r = out_of_memory row r
    refused_decides (Some Unknown) fault many row r = out_of_memory row r
    refused_decides (Some NoMemory) fault many row r = out_of_memory row r

    -- out of memory, or the cause
    pub kept_out : (x : DbFault) → (x ≡ NoMemory) ⊎ (fault_at g ≡ Some x) → (row : Row) → RefusesAddition procedure (Some x) row
        → Decides goals e (text_of m) (adding_request by c) h (adding_kind by (proc_of c.head) c) l new row
    kept_out x why row r =
        ⊎_elim
        (λ none. out_of_memory row (subst (λ (y : DbFault). RefusesAddition procedure (Some y) row) none r))
        (λ fault. refused_decides (Some x) fault (λ no. absurd (cc)) row r)
        why

-- such a row names atoms that are held, and makes no update
pub addition_named : (m : Names) (procedure : Procedure) → FixedStand m → IsSome (m procedure.name) → (fault : Option DbFault) (row : Row) → RefusesAddition procedure fault row → All (λ a. IsSome (m a)) (row_names row)
addition_named m procedure stand held None row r = refused_named m None (λ m. resource_error (codes "generations")) stand tt row r
addition_named m procedure stand held (Some Static) row r = refused_named m (Some procedure.name) (λ m. static_procedure (proc_named (text_of m) procedure)) stand held row r
addition_named m procedure stand held (Some (CellsFull u n)) row r = refused_named m None (λ m. resource_error (codes "database")) stand tt row r
addition_named m procedure stand held (Some Private) row r = subst (λ (x : Row). All (λ a. IsSome (m a)) (row_names x)) (sym r) (All-nil (λ a. IsSome (m a)))
addition_named m procedure stand held (Some Unknown) row r = subst (λ (x : Row). All (λ a. IsSome (m a)) (row_names x)) (sym r) (All-nil (λ a. IsSome (m a)))
addition_named m procedure stand held (Some NoMemory) row r = subst (λ (x : Row). All (λ a. IsSome (m a)) (row_names x)) (sym r) (All-nil (λ a. IsSome (m a)))

pub addition_after : (procedure : Procedure) (fault : Option DbFault) (row : Row) (g : ℕ) → RefusesAddition procedure fault row → generation_after row g ≡ g
addition_after procedure None row g r = refused_after None (λ m. resource_error (codes "generations")) row g r
addition_after procedure (Some Static) row g r = refused_after (Some procedure.name) (λ m. static_procedure (proc_named (text_of m) procedure)) row g r
addition_after procedure (Some (CellsFull u n)) row g r = refused_after None (λ m. resource_error (codes "database")) row g r
addition_after procedure (Some Private) row g r = ap (λ x. generation_after x g) r
addition_after procedure (Some Unknown) row g r = ap (λ x. generation_after x g) r
addition_after procedure (Some NoMemory) row g r = ap (λ x. generation_after x g) r
