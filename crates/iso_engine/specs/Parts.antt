-- The parts of clauses over atoms, and what was found of a list.
use Rattle.std.specs.Prelude.{◌≡◌, Bool, false, Option, Some, None}
use Rattle.pl_term.specs.Tree.{Tree}
use Rattle.world_api.specs.declared.reply.Found.{Found}
use Rattle.term_store.specs.declared.words.Place.{Place}
use Rattle.term_store.specs.Contents.{Contents, Holds, term_at}
use Rattle.term_store.specs.ArgumentKeys.{head_in}
use Rattle.term_store.specs.Entering.{body_in}
use Rattle.term_store.specs.NumberedNames.{by_number}

-- Each name of the term is that of an atom.
abbrev pub IsOverAtoms : Tree → Type 0
IsOverAtoms t = by_number t ≡ t

-- The places of the head and the body of a clause.
pub record IsParted (s : Contents) (clause head body : Place) : Type 0 where
  pub head_holds : Holds s head
  pub body_holds : Holds s body
  pub head_is : term_at s head ≡ head_in (term_at s clause)
  pub body_is : term_at s body ≡ body_in (term_at s clause)

-- Whether a clause was found that others follow.
abbrev pub has_more : Option (Found Tree) → Bool
has_more None = false
has_more (Some f) = f.more
