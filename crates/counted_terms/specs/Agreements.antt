-- What an engine holds and what the keeper keeps, told by numbers.
use Rattle.std.specs.Prelude.{◌≡◌, IsSome}
use Rattle.std.specs.List.{All}
use Rattle.pl_term.specs.Tree.{Tree}
use Rattle.pl_model.specs.FirstArguments.{are_apart, head_of, unify_apart}
use Rattle.pl_model.specs.KeptCells.{kept_cells}
use Rattle.pl_model.specs.Predicates.{is_excluded}
use Rattle.term_store.specs.declared.argument_key.ArgumentKey.{ArgumentKey}
use Rattle.term_store.specs.ArgumentKeys.{clause_key, is_any, key_atoms, key_order}
use Rattle.term_store.specs.NumberedNames.{clause_size, names_of, unify_by_number}
use Rattle.atom_api.specs.Names.{Names}
use Rattle.atom_words.specs.declared.view.View.{View}
use Rattle.atom_table.specs.Naming.{Lawful, names}
use Rattle.counted_terms.specs.Keeping.{HoldsOn, kept}
use Rattle.counted_terms.specs.CountedTerms.{IsCounted, said}

-- THE SEAT WITH THE VIEW v AND THE KEEPER WITH THE VIEW k AGREE: what the one holds and the other keeps are in one map in which a text has one atom
pub record Agreed (v k : View) : Type 0 where
  pub map : Names
  pub lawful : Lawful map
  pub held : HoldsOn (names v) map
  pub keeps : HoldsOn (kept k) map
  -- a stored clause costs what the clause costs that it says
  pub costs : (t : Tree) → clause_size t ≡ kept_cells (said (kept k) t)
  -- a goal, of which the atoms of its key are held, and a stored clause are kept apart by their keys exactly where their first arguments exclude the clause in texts
  pub excluded : (x : ArgumentKey) (t : Tree) → clause_key t ≡ x → All (λ a. IsSome (names v a)) (key_atoms x) → (u : Tree) → IsCounted u k
      → are_apart key_order is_any x (clause_key u) ≡ is_excluded (head_of (said (names v) t)) (head_of (said (kept k) u))
  -- a term of held atoms and a stored term unify by their numbers exactly where they do in texts
  pub unified : (t u : Tree) → All (λ a. IsSome (names v a)) (names_of t) → IsCounted u k
      → unify_by_number t u ≡ unify_apart (said (names v) t) (said (kept k) u)
