-- What lists of characters, or of their codes, spell.
use Rattle.std.specs.Prelude.{◌≡◌, List, map, Some, None, Ok, Err, codes}
use Rattle.pl_term.specs.Tree.{Tree}
use Rattle.pl_model.specs.AtomBuiltins.{all_errors}
use Rattle.pl_model.specs.Balls.{instantiation_error, type_error}
use Rattle.pl_model.specs.Checks.{elements}
use Rattle.atom_api.specs.Names.{Names}
use Rattle.term_store.specs.Contents.{Contents}
use Rattle.builtin_atom.specs.declared.forms.Form.{Form}
use Rattle.builtin_atom.specs.declared.spelled.Spelled.{Spelled}
use Rattle.builtin_atom.specs.declared.spelled.Spelled.TheVariants.{Text, Open, Broken, Bad}
use Rattle.builtin_atom.specs.Forms.{IsFaultHeld, IsFaultIn, check_by, error_of, from_by}

-- What the elements of a list are read as.
abbrev pub AreRead : Form → Names → Contents → List Tree → Spelled → Type 0
AreRead form m s ts (Text cs) = (all_errors (check_by form) ts ≡ None) × (map (from_by form) ts ≡ cs.items)
AreRead form m s ts (Bad f) = (all_errors (check_by form) ts ≡ Some (error_of m s f)) × (IsFaultIn s f × IsFaultHeld m s f)
AreRead form m s ts Open = ⊥
AreRead form m s ts Broken = ⊥

-- What a term spells as a list.
abbrev pub Spells : Form → Names → Contents → Tree → Spelled → Type 0
Spells form m s l Open = elements l ≡ Err instantiation_error
Spells form m s l Broken = elements l ≡ Err (type_error (codes "list") l)
Spells form m s l r = (ts : List Tree) × ((elements l ≡ Ok ts) × AreRead form m s ts r)
