-- Terms whose names are numbers of atoms, read as terms whose names are texts.
use Rattle.std.specs.Prelude.{[], ◌∷◌, ◌^◌, Option, Some, None}
use Rattle.pl_term.specs.Tree.{Chars, Tree, Trees, var, int, atom, comp, none, more}
use Rattle.atom_api.specs.Names.{Names}
use Rattle.term_store.specs.declared.words.Place.{Place}
use Rattle.term_store.specs.Contents.{Contents, term_at}

-- The term in which each name is spelled as the function says.
abbrev mutual
  pub spelled : (Chars → Chars) → Tree → Tree
  spelled g (var x) = var x
  spelled g (int i) = int i
  spelled g (atom a) = atom (g a)
  spelled g (comp f t ts) = comp (g f) (spelled g t) (spelled_all g ts)

  pub spelled_all : (Chars → Chars) → Trees → Trees
  spelled_all g none = none
  spelled_all g (more t ts) = more (spelled g t) (spelled_all g ts)

-- The text of the atom whose number stands as a name.
abbrev pub named : Names → Chars → Option Chars
named m [] = None
named m (a ∷ []) = m a
named m (a ∷ (b ∷ bs)) = None

-- A name that is no atom's is spelled by something that is no text: its first member is no code point.
abbrev pub or_no_text : Chars → Option Chars → Chars
or_no_text f None = 2 ^ 32 ∷ f
or_no_text f (Some t) = t

abbrev pub text_of : Names → Chars → Chars
text_of m f = or_no_text f (named m f)

-- The term that stands at a place, its names spelled by the texts of the atoms.
abbrev pub reads : Names → Contents → Place → Tree
reads m s p = spelled (text_of m) (term_at s p)
