-- The entries that values of the program stand for.
use Rattle.std.specs.Prelude.{List, [], ◌∷◌, Option, Some, None}
use denote.Ref.{Bor}
use Rattle.pl_term.specs.Tree.{Chars}
use Rattle.pl_model.specs.History as entries
use Rattle.pl_model.specs.declared.shows.Proc.{Proc}
use Rattle.pl_model.specs.declared.shows.Origin.{Origin}
use Rattle.pl_model.specs.declared.shows.Origin.TheVariants.{Consult, Assert}

abbrev pub proc_of : Proc → entries.Proc
proc_of p = record { name = p.name; arity = p.arity }

abbrev pub procs_of : List Proc → List entries.Proc
procs_of [] = []
procs_of (p ∷ ps) = proc_of p ∷ procs_of ps

abbrev pub origin_of : Origin → entries.Origin
origin_of Consult = entries.consult
origin_of Assert = entries.assert

abbrev pub alias_of : Option (Bor Chars) → Option Chars
alias_of None = None
alias_of (Some t) = Some t.now
