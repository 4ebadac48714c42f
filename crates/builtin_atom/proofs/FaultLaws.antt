-- What is wrong with elements, as rows.
use Rattle.std.proofs.Common.{◌≡◌, ℕ, Result, Some, IfOk, subst}
use Rattle.pl_term.specs.Tree.{Chars, Tree, Trees}
use Rattle.pl_model.specs.BuiltinRows as defined
use Rattle.pl_model.specs.BuiltinRows.{error}
use Rattle.pl_model.specs.History.{proc}
use Rattle.atom_api.specs.Fixed.{fixed}
use Rattle.atom_api.specs.Names.{Names, FixedStand}
use Rattle.term_store.specs.Contents.{Contents}
use Rattle.builtin_rows.specs.declared.row.Row.{Row}
use Rattle.builtin_atom.specs.declared.forms.Fault.{Fault}
use Rattle.builtin_atom.specs.declared.forms.Read.{Read}
use Rattle.builtin_atom.specs.declared.forms.Read.TheVariants.{Bad, Character}
use Rattle.builtin_atom.specs.declared.forms.Form.{Form}
use Rattle.builtin_atom.specs.Answering.{IsRowOf}
use Rattle.builtin_atom.specs.Forms.{IsFaultHeld, IsRead, error_of}
use Rattle.builtin_atom.proofs.Rows.{ok_as}

-- The row of what is wrong.
abbrev pub FaultRow : Contents → ℕ → Contents → Fault → Row → Type 0
FaultRow s name t f r =
    (m : Names) (p : Chars) (ts : Trees) → FixedStand m → IsFaultHeld m s f → fixed name ≡ Some p → IsRowOf s (proc p 2) ts (error (error_of m s f)) m t r

pub fault_as : {E : Type 0} (r : Result Row E) (s : Contents) (name : ℕ) (t : Contents) (f g : Fault) → f ≡ g → IfOk r (FaultRow s name t f) → IfOk r (FaultRow s name t g)
fault_as r s name t f g e h = subst (λ (x : Fault). IfOk r (FaultRow s name t x)) e h

-- The row of a predicate for it.
pub fault_given : {E : Type 0} (r : Result Row E) (s t : Contents) (name : ℕ) (p : Chars) (ts : Trees) (m : Names) (f : Fault) (row : defined.Row) → FixedStand m → IsFaultHeld m s f
    → fixed name ≡ Some p → error (error_of m s f) ≡ row → IfOk r (FaultRow s name t f) → IfOk r (IsRowOf s (proc p 2) ts row m t)
fault_given r s t name p ts m f row stands held known e h =
    ok_as r s (proc p 2) ts (error (error_of m s f)) row m t e (FaultRow s name t f) (λ x q. q m p ts stands held known) h

-- What an element was read as.
pub read_bad : (form : Form) (m : Names) (s : Contents) (t : Tree) (r : Read) (f : Fault) → r ≡ Bad f → IsRead form m s t r → IsRead form m s t (Bad f)
read_bad form m s t r f e h = subst (λ (x : Read). IsRead form m s t x) e h

pub read_character : (form : Form) (m : Names) (s : Contents) (t : Tree) (r : Read) (c : ℕ) → r ≡ Character c → IsRead form m s t r → IsRead form m s t (Character c)
read_character form m s t r c e h = subst (λ (x : Read). IsRead form m s t x) e h
