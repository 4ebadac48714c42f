use Rattle.std.proofs.Common.{◌≡◌, ◌∙◌, subst, sym, Option}
use Rattle.std.specs.Prelude.{IfSome, IsSome}
use Rattle.std.specs.List.{All}
use Rattle.pl_model.specs.History.{head_part}
use Rattle.pl_model.specs.Predicates.{proc_of}
use Rattle.atom_api.specs.Names.{Names}
use Rattle.atom_table.specs.Naming.{Lawful}
use Rattle.term_store.specs.ArgumentKeys.{head_in}
use Rattle.term_store.specs.NumberedNames.{names_of}
use Rattle.world_api.specs.Texts.{text_of}
use Rattle.world_api.specs.Visits.{proc_named}
use Rattle.world_api.specs.declared.visit.Procedure.{Procedure}
use Rattle.counted_terms.specs.CountedTerms.{said}
use Rattle.hub_database.specs.Heads.{tree_procedure}
use Rattle.hub_database.proofs.Heads.{for_all, head_first, head_named, head_says, named_held}
use Rattle.hub_database.proofs.naming.head_procedure.Goals as goal

pub returns-clause-says : goal.returns-clause-says
returns-clause-says c =
    let t = c.args.clause.now in
    subst (λ (o : Option Procedure). IfSome o (λ p. (m : Names) → Lawful m → proc_named (text_of m) p ≡ proc_of (head_part (said m t))))
    (sym (c.predicate.ensures ∙ head_first t c.head_node.result c.head_node.ensures))
    (for_all (tree_procedure (head_in t)) (λ m p. proc_named (text_of m) p ≡ proc_of (head_part (said m t))) (λ m lawful. head_says m lawful t))

pub returns-clause-named : goal.returns-clause-named
returns-clause-named c =
    let t = c.args.clause.now in
    subst (λ (o : Option Procedure). IfSome o (λ p. (m : Names) → Lawful m → All (λ a. IsSome (m a)) (names_of t) → IsSome (m p.name)))
    (sym (c.predicate.ensures ∙ head_first t c.head_node.result c.head_node.ensures))
    (for_all (tree_procedure (head_in t)) (λ m p. All (λ a. IsSome (m a)) (names_of t) → IsSome (m p.name)) (λ m lawful. named_held (tree_procedure (head_in t)) m (λ all. head_named m lawful t all)))
