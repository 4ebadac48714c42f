-- What is found of a goal's procedure by the number of its name.
use Rattle.std.specs.Prelude.{◌≡◌, ℕ, Bool, true, false, Some, None, IfSome}
use Rattle.std.specs.List.{slice_get}
use Rattle.pl_term.specs.Tree.{Chars, Tree}
use Rattle.pl_model.specs.Database.{Database, choices, is_known, is_static, is_system}
use Rattle.pl_model.specs.History.{Clause, History, Proc, head_part}
use Rattle.pl_model.specs.Predicates.{is_excluded, proc_of as predicate_of}
use Rattle.pl_model.specs.laws.Shown.{proc_of}
use Rattle.atom_api.specs.Names.{Names}
use Rattle.atom_table.specs.Naming.{Lawful}
use Rattle.clause_db.specs.Parts.{Held}
use Rattle.clause_db.specs.Reading.{IsHeld, SaysFor}
use Rattle.clause_db.specs.Stands.{first_named}
use Rattle.term_store.specs.NumberedNames.{term_by}
use Rattle.world_api.specs.Replies.{IsFront}
use Rattle.world_api.specs.Texts.{text_of}
use Rattle.world_api.specs.Visits.{proc_named}
use Rattle.world_api.specs.declared.reply.Reply.TheVariants.{Clauses}
use Rattle.world_api.specs.declared.visit.Procedure.{Procedure}
use Rattle.counted_terms.specs.CountedTerms.{said}
use Rattle.counted_terms.specs.declared.row.Row.{Row}
use Rattle.counted_terms.specs.declared.row.Row.TheVariants.{Reads}
use Rattle.hub_database.specs.Database.{databases}
use Rattle.hub_database.specs.Rows.{HandsOut}

-- the row hands out the first of the clauses of the predicate at the generation, for a goal with this head
abbrev pub HandsFirst : ℕ → History → ℕ → Proc → (ℕ → Chars) → Tree → Row → Type 0
HandsFirst goals h g p text head row = HandsOut (λ f. IsFront term_by text f (choices (λ (c : Clause). is_excluded head c.head) g p (databases goals h g))) row

-- THE PREDICATE, which is none of the system, IS THAT OF THE PROCEDURE AT THE INDEX, and the row hands out the first of its clauses for the goal
pub record IsFound (goals : ℕ) (h : History) (db : Held Tree) (i g : ℕ) (p : Proc) (text : ℕ → Chars) (head : Tree) (row : Row) : Type 0 where
  pub there : IfSome (slice_get db.parts i) (λ x. proc_of x.name ≡ p)
  pub open_ : is_system p ≡ false
  pub hands : HandsFirst goals h g p text head row

-- THE PREDICATE IS DYNAMIC at the generation, and the row hands out the first of its clauses for the goal
pub record IsOpenFound (goals : ℕ) (h : History) (g : ℕ) (p : Proc) (text : ℕ → Chars) (head : Tree) (row : Row) : Type 0 where
  pub open_ : is_static (databases goals h g) p ≡ false
  pub known : is_known (databases goals h g) p ≡ true
  pub hands : HandsFirst goals h g p text head row

-- THE FIRST CLAUSE that the generation sees at the index is one of the predicate, by the number of its head's name
pub record IsHeaded (db : Held Tree) (p : Procedure) (i g : ℕ) : Type 0 where
  pub clause : Tree
  pub place : ℕ
  pub more : Bool
  pub held : IsHeld clause db
  pub own : (m : Names) → Lawful m → predicate_of (head_part (said m clause)) ≡ proc_named (text_of m) p
  pub first : (f : Tree → Clause) (d : ℕ → Database Clause) → SaysFor f db d → IfSome (slice_get db.parts i) (λ x. Some (place, f clause, more) ≡ first_named (choices (λ (c : Clause). false) g (proc_of x.name) (d g)))

-- the row says that there is no clause, and such a clause stands at the index
abbrev pub IsNoneAt : Held Tree → Procedure → ℕ → ℕ → Row → Type 0
IsNoneAt db p i g row = (row ≡ Reads (Clauses None)) × IsHeaded db p i g
