-- Terms that are kept outside of the store.
use Rattle.std.specs.Prelude.{◌≡◌, zero, IsSome}
use Rattle.std.specs.List.{All}
use Rattle.pl_term.specs.Tree.{Tree}
use Rattle.pl_term.specs.Variables.{rename}
use Rattle.atom_api.specs.Names.{Names}
use Rattle.term_store.specs.NumberedNames.{names_of, term_by}
use Rattle.world_api.specs.Texts.{text_of}

-- The term is kept with its variables numbered from 0 on, and its atoms are held.
pub record IsKept (m : Names) (t k : Tree) : Type 0 where
  pub stands : term_by (text_of m) k ≡ rename zero t
  pub held : All (λ a. IsSome (m a)) (names_of k)
