-- Error terms by their kinds (ISO 7.12.2): the first argument of a ball error(E, Imp).
use Rattle.pl_term.specs.Tree.{Chars, Tree, atom, comp, none, more}
use Rattle.pl_model.specs.History.{Proc}
use Rattle.pl_model.specs.Errors.{indicator}
use Rattle.std.specs.Prelude.{codes}

-- ISO 7.12.2 c
abbrev pub domain_error : Chars → Tree → Tree
domain_error kind culprit = comp (codes "domain_error") (atom kind) (more culprit none)

-- ISO 7.12.2 d
abbrev pub existence_error : Chars → Tree → Tree
existence_error kind culprit = comp (codes "existence_error") (atom kind) (more culprit none)

-- ISO 7.12.2 e
abbrev pub permission_error : Chars → Chars → Tree → Tree
permission_error action kind culprit =
    comp (codes "permission_error") (atom action) (more (atom kind) (more culprit none))

-- ISO 7.12.2 h
abbrev pub resource_error : Chars → Tree
resource_error resource = comp (codes "resource_error") (atom resource) none

-- ISO 8.8.1.3 c: clause/2 of a procedure that is private
abbrev pub private_procedure : Proc → Tree
private_procedure p = permission_error (codes "access") (codes "private_procedure") (indicator p)
