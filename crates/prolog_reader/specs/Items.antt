-- What the reader answers, as the grammar has it.
use Rattle.std.specs.Prelude.{◌≡◌}
use Rattle.pl_model.specs.Grammar.{Item, clause, fault, end_of_text}
use Rattle.prolog_reader.specs.declared.read.Read.{Read}
use Rattle.prolog_reader.specs.declared.read.Read.TheVariants.{Clause, End, Syntax, Memory}
use Rattle.prolog_reader.specs.Names.{pairs}

-- The answer is this item, unless it is out of memory.
abbrev pub Reads : Read → Item → Type 0
Reads (Clause term names start next) i = i ≡ clause term (pairs names.items) start next
Reads End i = i ≡ end_of_text
Reads (Syntax kind at) i = i ≡ fault kind at
Reads Memory i = Unit {0}
