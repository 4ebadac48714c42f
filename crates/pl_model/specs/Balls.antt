-- Balls of errors (ISO 7.12): a ball error(E, Imp), where the error term E says what is wrong, and Imp is the indicator
-- of the predicate that failed. Error terms of further kinds stand in ErrorTerms.
use Rattle.std.specs.Prelude.{pos, codes}
use Rattle.pl_term.specs.Tree.{Chars, Tree, atom, int, comp, none, more}
use Rattle.pl_model.specs.History.{Proc}
use Rattle.pl_model.specs.ErrorTerms.{resource_error}

-- The term Name/Arity (ISO 7.1.6.6).
abbrev pub indicator : Proc → Tree
indicator p = comp (codes "/") (atom p.name) (more (int (pos p.arity)) none)

abbrev pub error_ball : Tree → Proc → Tree
error_ball e p = comp (codes "error") e (more (indicator p) none)

-- Error terms

-- ISO 7.12.2 a
abbrev pub instantiation_error : Tree
instantiation_error = atom (codes "instantiation_error")

-- ISO Cor.2 7.12.2 j: a variable is wanted
abbrev pub uninstantiation_error : Tree → Tree
uninstantiation_error culprit = comp (codes "uninstantiation_error") culprit none

-- ISO 7.12.2 b
abbrev pub type_error : Chars → Tree → Tree
type_error kind culprit = comp (codes "type_error") (atom kind) (more culprit none)

-- ISO 7.12.2 f
abbrev pub representation_error : Chars → Tree
representation_error flag = comp (codes "representation_error") (atom flag) none

-- ISO 7.12.2 g
abbrev pub evaluation_error : Chars → Tree
evaluation_error error = comp (codes "evaluation_error") (atom error) none

-- ISO 7.12.2 i
abbrev pub syntax_error : Chars → Tree
syntax_error fault = comp (codes "syntax_error") (atom fault) none

-- Errors of resolution

-- An integer stands where a goal should stand (ISO 7.6.2, 7.8.3.3).
abbrev pub not_callable : Tree → Tree
not_callable culprit = type_error (codes "callable") culprit

-- A budget is spent: of inferences (and of the numbers of variables), of cells, of choice points.
abbrev pub no_inferences : Tree
no_inferences = resource_error (codes "inferences")

abbrev pub no_cells : Tree
no_cells = resource_error (codes "cells")

abbrev pub no_choices : Tree
no_choices = resource_error (codes "choices")
