-- When the stored clauses, with the flags and the operators, are the database after all updates of a history.
use Rattle.std.specs.Prelude.{◌≡◌, ◌≤◌, ℕ, List, [], ◌∷◌, false, length}
use Rattle.std.specs.List.{list_any}
use Rattle.pl_term.specs.Tree.{Tree}
use Rattle.pl_model.specs.History.{Clause, History, Kind, Proc, add_first, add_last, erase, abolish, set_dynamic, set_flag, set_op}
use Rattle.pl_model.specs.Database as model
use Rattle.pl_model.specs.Predicates.{proc_of}
use Rattle.pl_model.specs.SharedState.{state_at}
use Rattle.atom_words.specs.declared.view.View.{View}
use Rattle.clause_db.specs.Parts.{Held}
use Rattle.clause_db.specs.Reading.{SaysFor}
use Rattle.clause_db.specs.Weights.{weight}
use Rattle.counted_terms.specs.CountedTerms.{naming}
use Rattle.hub_database.specs.Clauses.{clause_by}

-- the databases of the definitions at each generation of the history
abbrev pub databases : ℕ → History → ℕ → model.Database Clause
databases goals h g = (state_at goals h g).database

-- HOW OFTEN THE STORED CLAUSES COUNT AN ATOM
abbrev pub clause_counts : Held Tree → ℕ → ℕ
clause_counts db a = weight (naming a) db

-- the clause is of the predicate of its head, which is none of the system
pub record IsOwn (s : model.Stored Clause) : Type 0 where
  pub open_ : model.is_system s.procedure ≡ false
  pub own : s.procedure ≡ proc_of s.clause.head

abbrev pub AllOpen : List (model.Stored Clause) → Type 0
AllOpen [] = Unit {0}
AllOpen (s ∷ ss) = IsOwn s × AllOpen ss

-- WHAT IS STORED IS THE DATABASE AFTER THE HISTORY, by the texts that the keeper with the view k keeps, at each generation from the floor on
pub record IsDatabase (k : View) (db : Held Tree) (goals : ℕ) (h : History) : Type 0 where
  pub says : SaysFor (clause_by k) db (databases goals h)
  pub flags : db.flags ≡ (state_at goals h (length h)).flags
  pub operators : db.operators ≡ (state_at goals h (length h)).operators
  pub open_only : (g : ℕ) → AllOpen (databases goals h g).clauses

-- the update is none of the database's: one of queues and threads
abbrev pub IsElsewhere : Kind → Type 0
IsElsewhere (add_first p c o) = ⊥
IsElsewhere (add_last p c o) = ⊥
IsElsewhere (erase j) = ⊥
IsElsewhere (abolish p) = ⊥
IsElsewhere (set_dynamic ps) = ⊥
IsElsewhere (set_flag f v) = ⊥
IsElsewhere (set_op os) = ⊥
IsElsewhere _ = Unit {0}

-- no update lies at the generation or after it
pub record IsUpTo (g : ℕ) (db : Held Tree) : Type 0 where
  pub next : db.next ≤ g
  pub floor : db.floor ≤ g

-- WHAT IS STORED IS THE DATABASE after some history of this length
pub record HasHistory (k : View) (db : Held Tree) (g : ℕ) : Type 0 where
  pub goals : ℕ
  pub history : History
  pub long : length history ≡ g
  pub is : IsDatabase k db goals history

-- and after it none of these predicates is static
pub record CanOpen (ps : List Proc) (k : View) (db : Held Tree) (g : ℕ) : Type 0 where
  pub has : HasHistory k db g
  pub none : list_any (model.is_static (databases has.goals has.history g)) ps ≡ false
