-- Error terms of procedures (ISO 7.12.2). Those of a goal are in `ErrorTerms`, balls in `Balls`.
use Rattle.std.specs.Prelude.{pos, codes}
use Rattle.pl_term.specs.Tree.{Tree, atom, int, comp, none, more}
use Rattle.pl_model.specs.History.{Proc}

-- The term Name/Arity (ISO 7.1.6.6).
abbrev pub indicator : Proc → Tree
indicator p = comp (codes "/") (atom p.name) (more (int (pos p.arity)) none)

-- ISO 7.12.2 d, 7.7.7: the flag unknown is error
abbrev pub unknown_procedure : Proc → Tree
unknown_procedure p = comp (codes "existence_error") (atom (codes "procedure")) (more (indicator p) none)

-- ISO 7.12.2 e
abbrev pub static_procedure : Proc → Tree
static_procedure p =
    comp (codes "permission_error") (atom (codes "modify")) (more (atom (codes "static_procedure")) (more (indicator p) none))
