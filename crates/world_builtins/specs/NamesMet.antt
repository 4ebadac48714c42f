-- The texts of atoms that were met one after the other.
use Rattle.std.specs.Prelude.{◌≡◌, ℕ, ◌<◌, List, length, get_or}
use Rattle.named_terms.specs.NamedNodes.{text_by}
use Rattle.pl_term.specs.Tree.{Chars}
use Rattle.atom_api.specs.Names.{Names}
use Rattle.term_store.specs.Heap.{atom_name}
use Rattle.world_builtins.specs.Spelling.{text_of}

-- At each place stands the text of the atom that stands there.
pub record Tells (m : Names) (slots : List ℕ) (names : List Chars) : Type 0 where
  pub long : length names ≡ length slots
  pub text : (k d : ℕ) → k < length slots → text_by names k ≡ text_of m (atom_name (get_or slots k d))
