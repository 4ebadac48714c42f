-- Clause-terms and the clauses that they give.
use Rattle.std.specs.Prelude.{◌≡◌, Bool, false, if◌then◌else◌, Option, Some, None, Ok, Err, IsSome, codes}
use Rattle.std.specs.List.{All}
use Rattle.pl_term.specs.Tree.{Tree}
use Rattle.pl_model.specs.Balls.{not_callable}
use Rattle.pl_model.specs.BodyChecks.{clause_of, clause_of_term, converted, numbered_clause, rule}
use Rattle.pl_model.specs.History.{body_part, head_part}
use Rattle.pl_model.specs.History as model
use Rattle.atom_api.specs.Names.{Names}
use Rattle.term_store.specs.declared.words.Place.{Place}
use Rattle.term_store.specs.Contents.{Contents, Holds}
use Rattle.term_store.specs.NumberedNames.{names_of, term_by}
use Rattle.world_api.specs.Texts.{text_of}
use Rattle.world_api.specs.Visits.{clause_in}
use Rattle.world_builtins.specs.Naming.{IsHeldAt}
use Rattle.world_builtins.specs.Spelling.{reads}
use Rattle.shared_builtins.specs.declared.clauses.Body.{Body}
use Rattle.shared_builtins.specs.declared.clauses.Body.TheVariants as bodies
use Rattle.shared_builtins.specs.declared.clauses.Given.{Given}
use Rattle.shared_builtins.specs.declared.clauses.Given.TheVariants.{Clause, Refused}
use Rattle.shared_builtins.specs.declared.faults.Fault.{Fault}
use Rattle.shared_builtins.specs.declared.parts.Parts.{Parts}
use Rattle.shared_builtins.specs.Pairs.{is_pair}
use Rattle.shared_builtins.specs.Faults.{IsFaultHeld, IsFaultIn, fault_term}

-- Whether a clause-term is a rule.
abbrev pub is_rule : Tree → Bool
is_rule t = is_pair (codes ":-") t

pub record ArePartsOf (s : Contents) (term : Place) (ps : Parts) : Type 0 where
  pub head_holds : Holds s ps.head
  pub body_holds : Holds s ps.body
  pub fact : ps.is_rule ≡ false → ps.head ≡ term

-- The same, as terms.
pub record AreReadParts (m : Names) (s : Contents) (term : Place) (ps : Parts) : Type 0 where
  pub head : reads m s ps.head ≡ head_part (reads m s term)
  pub body : reads m s ps.body ≡ body_part (reads m s term)
  pub rule : ps.is_rule ≡ is_rule (reads m s term)
  pub head_held : IsHeldAt m s ps.head
  pub body_held : IsHeldAt m s ps.body

-- The goal was made for the body, or the clause is refused for this error. The store was `s` and is `t`.
abbrev pub IsBodyOf : Names → Contents → Parts → Contents → Body → Type 0
IsBodyOf m s ps t (bodies.Goal q) =
    (clause_of (reads m s ps.head) (reads m s ps.body) ≡ Ok (numbered_clause (reads m s ps.head) (reads m t q))) × IsHeldAt m t q
IsBodyOf m s ps t (bodies.Refused f) =
    (clause_of (reads m s ps.head) (reads m s ps.body) ≡ Err (fault_term m s f)) × (IsFaultIn s f × IsFaultHeld m s f)

-- The body is converted to this goal, or to none, for this error.
abbrev pub IsGoalOf : Names → Contents → Place → Contents → Body → Type 0
IsGoalOf m s body t (bodies.Goal q) = (converted (reads m s body) ≡ Some (reads m t q)) × IsHeldAt m t q
IsGoalOf m s body t (bodies.Refused f) =
    (converted (reads m s body) ≡ None) × ((not_callable (reads m s body) ≡ fault_term m s f) × (IsFaultIn s f × IsFaultHeld m s f))

abbrev pub IsBodyIn : Contents → Body → Type 0
IsBodyIn t (bodies.Goal q) = Holds t q
IsBodyIn t (bodies.Refused f) = Unit {0}

-- The clause as one term: a rule with this goal for its body, or the head alone.
abbrev pub clause_read : Names → Contents → Place → Parts → Place → Tree
clause_read m s term ps goal = if ps.is_rule then rule (reads m s ps.head) (reads m s goal) else reads m s term

-- The term gives this clause, or is refused for this error.
abbrev pub IsClauseOf : Names → Contents → Place → Given → Type 0
IsClauseOf m s term (Clause c) =
    (clause_of_term (reads m s term) ≡ Ok (clause_in (term_by (text_of m) c))) × All (λ a. IsSome (m a)) (names_of c)
IsClauseOf m s term (Refused f) =
    (clause_of_term (reads m s term) ≡ Err (fault_term m s f)) × (IsFaultIn s f × IsFaultHeld m s f)

abbrev pub body_fault : Body → Option Fault
body_fault (bodies.Goal q) = None
body_fault (bodies.Refused f) = Some f

-- The term gives a clause, or is refused for this error.
abbrev pub IsClauseFault : Names → Contents → Place → Option Fault → Type 0
IsClauseFault m s term None = (c : model.Clause) × (clause_of_term (reads m s term) ≡ Ok c)
IsClauseFault m s term (Some f) =
    (clause_of_term (reads m s term) ≡ Err (fault_term m s f)) × (IsFaultIn s f × IsFaultHeld m s f)
