-- The lines of tables that the shared state told.
use Rattle.std.specs.Prelude.{ℕ, zero, List, map, drop, pos}
use Rattle.pl_term.specs.Tree.{Tree, int, atom, none, more}
use Rattle.pl_model.specs.Balls.{indicator}
use Rattle.pl_model.specs.BuiltinRows.{Answer, plain_answer, unifying}
use Rattle.pl_model.specs.Predicates.{proc_of}
use Rattle.pl_model.specs.Resolution.{Node, Choice, answers}
use Rattle.pl_model.specs.Terms.{arguments}
use Rattle.atom_api.specs.Names.{Names}
use Rattle.term_store.specs.Heap.{atom_name}
use Rattle.iso_search.specs.declared.told.Constant.{Constant}
use Rattle.iso_search.specs.declared.told.Constant.TheVariants.{Int, Atom}
use Rattle.iso_search.specs.declared.told.Line.{Line}
use Rattle.iso_search.specs.declared.told.Line.TheVariants.{Indicator, Flag, Operator}
use Rattle.iso_search.specs.Spelling.{text_of}

abbrev pub constant_term : Names → Constant → Tree
constant_term m (Int i) = int i
constant_term m (Atom a) = atom (text_of m (atom_name a))

-- The answer that a line is. A term Name/Arity takes three cells.
abbrev pub line_answer : Names → Line → Answer
line_answer m (Indicator name arity) =
    record {
      terms = more (indicator (record { name = text_of m (atom_name name); arity = arity })) none;
      fresh = zero;
      made = 3;
    }
line_answer m (Flag flag value) = plain_answer (more (atom (text_of m (atom_name flag))) (more (constant_term m value) none))
line_answer m (Operator priority specifier name) =
    plain_answer
    (more (int (pos priority)) (more (atom (text_of m (atom_name specifier))) (more (atom (text_of m (atom_name name))) none)))

-- The answers that the goal has by these lines, from one on.
abbrev pub told_answers : Names → Tree → List Line → ℕ → List Answer
told_answers m t ls line = unifying (arguments t) (drop line (map (line_answer m) ls))

abbrev pub told_from : Names → Tree → List Line → ℕ → Node → Choice
told_from m t ls line n = answers (proc_of t) (arguments t) (told_answers m t ls line) n
