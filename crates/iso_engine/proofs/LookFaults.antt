-- The error for which a goal of retract/1 is refused.
use Rattle.std.proofs.Common.{◌≡◌, Option, Some, None, IfSome, ap}
use Rattle.std.specs.Option.{option_map}
use Rattle.pl_model.specs.BodyChecks.{clause_of_term}
use Rattle.pl_model.specs.Control.{error_of}
use Rattle.atom_api.specs.Names.{Names}
use Rattle.term_store.specs.declared.words.Place.{Place}
use Rattle.term_store.specs.Contents.{Contents}
use Rattle.world_builtins.specs.Spelling as written
use Rattle.shared_builtins.specs.declared.faults.Fault.{Fault}
use Rattle.shared_builtins.specs.Clauses.{IsClauseFault}
use Rattle.shared_builtins.specs.Faults.{IsFaultHeld, IsFaultIn, fault_term}

pub retract_fault : (m : Names) (s : Contents) (term : Place) (o : Option Fault) → IsClauseFault m s term o
    → (error_of (clause_of_term (written.reads m s term)) ≡ option_map (fault_term m s) o) × (IfSome o (IsFaultIn s) × IfSome o (IsFaultHeld m s))
retract_fault m s term None h = (ap error_of h.1, (tt, tt))
retract_fault m s term (Some f) h = (ap error_of h.0, h.1)
