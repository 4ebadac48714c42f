-- The predicates of goals.
use Rattle.std.specs.Prelude.{◌≡◌, suc}
use Rattle.pl_term.specs.Tree.{Tree, var, int, atom, comp, count}
use Rattle.world_api.specs.declared.visit.Procedure.{Procedure}
use Rattle.atom_api.specs.FixedNames.{call_name}
use Rattle.term_store.specs.ArgumentKeys.{clause_key}
use Rattle.term_store.specs.Heap.{atom_name}
use Rattle.iso_engine.specs.declared.call.goals.Request.{Request}

-- The goal over atoms has this predicate. A variable stands for `call/1`, whose name is the fixed atom 53.
abbrev pub HasPredicate : Tree → Procedure → Type 0
HasPredicate (var x) p = (p.name ≡ call_name) × (p.arity ≡ 1)
HasPredicate (int i) p = ⊥
HasPredicate (atom a) p = (a ≡ atom_name p.name) × (p.arity ≡ 0)
HasPredicate (comp f t ts) p = (f ≡ atom_name p.name) × (p.arity ≡ suc (count ts))

-- The clauses for the goal over atoms are asked for by these.
abbrev pub IsRequest : Tree → Request → Type 0
IsRequest t r = HasPredicate t r.procedure × (r.first ≡ clause_key t)
