-- Checking a file without running a goal of it (`plt check`): its items are read one after the other, as consulting reads
-- them (ISO 7.4.2), but of its directives only changes of operators and of the flag `double_quotes` are made, by which what
-- follows is read. The listing has a line for each syntax fault, and then the numbers of clauses, directives and faults.
use Rattle.std.specs.Prelude.{ℕ, zero, suc, List, [], ◌∷◌, ◌++◌, map, length, Option, Some, None, unwrap_or, bytes_eq, codes, decimal, if◌then◌else◌, nat_lt}
use Rattle.pl_term.specs.Tree.{Chars, Tree, comp, none, more}
use Rattle.pl_model.specs.declared.grammar.Quotes.{Quotes}
use Rattle.pl_model.specs.declared.operators.Kind.{Kind}
use Rattle.pl_model.specs.Operators.{Operator}
use Rattle.pl_model.specs.OperatorTable.{OperatorTable, opening_table, specifier_of}
use Rattle.pl_model.specs.Flags.{opening_flags, quotes_of}
use Rattle.pl_model.specs.Grammar.{Item, clause, fault, end_of_text}
use Rattle.pl_model.specs.TermGrammar.{item_of}
use Rattle.pl_model.specs.SharedState.{with_operators}
use Rattle.pl_model.specs.Service.{operators_error}
use Rattle.pl_model.specs.Requests.{put_operators, put_flag}
use Rattle.pl_model.specs.SharedBuiltins.{Shared, asks_for, puts_operators, puts_flag}
use Rattle.run_model.specs.Execution.{Rest, items_from, initialization, Consulted, too_large, syntax_fault, most_bytes, directive_of, behind_fault}
use Rattle.run_model.specs.Report.{newline, all_consulted}

-- How far the file is checked.
pub record Checking : Type 0 where
  -- where the next item is looked for; after the last item none is
  pub rest : Rest
  pub operators : OperatorTable
  pub quotes : Quotes
  pub faults : List Consulted
  pub clauses : ℕ
  pub directives : ℕ

-- A file that is too large has this one fault and no items.
abbrev pub from_start : List ℕ → Checking
from_start bytes =
    record {
      rest = if nat_lt most_bytes (length bytes) then initialization else items_from zero;
      operators = opening_table;
      quotes = opening_flags.double_quotes;
      faults = if nat_lt most_bytes (length bytes) then too_large ∷ [] else [];
      clauses = zero;
      directives = zero;
    }

-- Directives

abbrev pub operators_of : ℕ → Kind → List Chars → List Operator
operators_of p k fs = map (λ (f : Chars). record { name = f; priority = p; specifier = specifier_of k }) fs

-- All of the operators are put into the table, or none of them where one is refused (ISO 8.14.3.3).
abbrev pub with_table : ℕ → Kind → List Chars → OperatorTable → Option Tree → OperatorTable
with_table p k fs ops None = with_operators (operators_of p k fs) ops
with_table p k fs ops (Some e) = ops

abbrev pub quotes_set : Chars → Chars → Quotes → Quotes
quotes_set f v quotes = if bytes_eq f (codes "double_quotes") then unwrap_or (quotes_of v) quotes else quotes

-- What a built-in predicate with right arguments asks of the shared state is done. Wrong arguments change nothing.
abbrev pub obeyed : Shared → Checking → Checking
obeyed (asks_for (put_operators p k fs) next) c =
    record c { operators = with_table p k fs c.operators (operators_error c.operators p k fs) }
obeyed (asks_for (put_flag f v) next) c = record c { quotes = quotes_set f v c.quotes }
obeyed _ c = c

-- Only goals op(P, K, N) (ISO 8.14.3) and set_prolog_flag(F, V) (ISO 8.17.1) are obeyed.
abbrev pub directed : Tree → Checking → Checking
directed (comp f t (more u none)) c = if bytes_eq f (codes "set_prolog_flag") then obeyed (puts_flag t u) c else c
directed (comp f t (more u (more v none))) c = if bytes_eq f (codes "op") then obeyed (puts_operators t u v) c else c
directed _ c = c

-- Items

abbrev pub with_term : Checking → Option Tree → Checking
with_term c None = record c { clauses = suc c.clauses }
with_term c (Some g) = directed g (record c { directives = suc c.directives })

-- Reading goes on after the item, or after its fault as consulting does.
abbrev pub with_item : List ℕ → ℕ → Checking → Item → Checking
with_item bytes at c (clause t names place next) = with_term (record c { rest = items_from next }) (directive_of t)
with_item bytes at c (fault kind place) =
    record c { rest = behind_fault bytes at kind; faults = c.faults ++ syntax_fault kind place ∷ [] }
with_item bytes at c end_of_text = record c { rest = initialization }

-- The next item is read under the operators and the flag as they stand.
abbrev pub item_checked : List ℕ → Checking → Rest → Checking
item_checked bytes c (items_from at) = with_item bytes at c (item_of bytes at c.operators c.quotes)
item_checked bytes c initialization = c

-- So many items are taken up.
abbrev pub items_checked : List ℕ → ℕ → Checking → Checking
items_checked bytes zero c = c
items_checked bytes (suc n) c = items_checked bytes n (item_checked bytes c c.rest)

-- The whole file: each item and each fault takes a byte at least, and then its end is found.
abbrev pub file_checked : List ℕ → Checking
file_checked bytes = items_checked bytes (suc (length bytes)) (from_start bytes)

-- The listing

-- The last line: so many clauses, directives and faults.
abbrev pub counts_line : ℕ → ℕ → ℕ → Chars
counts_line clauses directives faults =
    decimal clauses
    ++ (codes " clauses, " ++ (decimal directives ++ (codes " directives, " ++ (decimal faults ++ (codes " faults." ++ newline)))))

-- The text that is written of a file with this name.
abbrev pub listing_of : Chars → Checking → Chars
listing_of name c = all_consulted name [] c.faults ++ counts_line c.clauses c.directives (length c.faults)

unfoldable pub listing : Chars → List ℕ → Chars
listing name bytes = listing_of name (file_checked bytes)

-- The number of its faults.
unfoldable pub faults_in : List ℕ → ℕ
faults_in bytes = length (file_checked bytes).faults
