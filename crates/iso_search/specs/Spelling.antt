-- Terms whose names are numbers of atoms, read as terms whose names are texts.
use Rattle.std.specs.Prelude.{◌≡◌, [], ◌∷◌, ◌^◌, map, Option, Some, None, bytes_eq}
use Rattle.pl_term.specs.Tree.{Chars, Tree, Trees, var, int, atom, comp, none, more}
use Rattle.pl_model.specs.Unify.{Bindings}
use Rattle.atom_api.specs.Names.{Names}

-- The term in which each name is spelled as the function says.
abbrev mutual
  pub spelled : (Chars → Chars) → Tree → Tree
  spelled g (var x) = var x
  spelled g (int i) = int i
  spelled g (atom a) = atom (g a)
  spelled g (comp f t ts) = comp (g f) (spelled g t) (spelled_all g ts)

  pub spelled_all : (Chars → Chars) → Trees → Trees
  spelled_all g none = none
  spelled_all g (more t ts) = more (spelled g t) (spelled_all g ts)

abbrev pub spelled_bindings : (Chars → Chars) → Bindings → Bindings
spelled_bindings g bs = map (λ b. (b.0, spelled g b.1)) bs

-- Different names are spelled differently.
abbrev pub TellsApart : (Chars → Chars) → Type 0
TellsApart g = (a b : Chars) → bytes_eq (g a) (g b) ≡ bytes_eq a b

-- The text of the atom whose number stands as a name.
abbrev pub named : Names → Chars → Option Chars
named m [] = None
named m (a ∷ []) = m a
named m (a ∷ (b ∷ bs)) = None

-- A name that is no atom's is spelled by something that is no text: its first member is no code point.
abbrev pub or_no_text : Chars → Option Chars → Chars
or_no_text f None = 2 ^ 32 ∷ f
or_no_text f (Some t) = t

abbrev pub text_of : Names → Chars → Chars
text_of m f = or_no_text f (named m f)
