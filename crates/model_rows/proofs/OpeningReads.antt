-- What the words of the worked histories are read as, and how their answers are written, under the operators at the start.
use Rattle.std.proofs.Common.{◌≡◌, [], length, ap, codes}
use Rattle.std.proofs.Math.Path.{fun_ext}
use Rattle.std.specs.Str.{chars}
use Rattle.std.specs.Fmt.{digits}
use Rattle.std.specs.FinMap.{get-from_entries}
use Rattle.std.specs.FinMap.Entries.{find}
use Rattle.pl_term.specs.Tree.{Chars, atom, comp, none}
use Rattle.pl_model.specs.declared.grammar.Quotes.TheVariants.{Codes}
use Rattle.pl_model.specs.OperatorTable.{key_order, operator_at, opening_rows, opening_table}
use Rattle.pl_model.specs.LexicalTokens.{token_at}
use Rattle.pl_model.specs.Grammar.{clause}
use Rattle.pl_model.specs.TermGrammar.{Lookup, item_of, item_by, term, operations, items}
use Rattle.pl_model.specs.TermWriting.{pieces, right_operand, arguments, list_tail, elements, text_of, quoting, bare, writeq, write}
use Rattle.pl_model.proofs.KeyOrder.{key_order_total}
use Rattle.run_model.specs.Execution.{Word, goal_text, word_of_item, word_read}
use Rattle.model_rows.specs.HistoryRows.{sends, gets, sent_word, got_word, waits_for_x, waiting_word, creates, creating_word}
use Rattle.model_rows.specs.RefusalRows.{queue_file, queue_goal, true_word, alias_ball}

-- The operators at the start, one row after the other.
abbrev opening_lookup : Lookup
opening_lookup f p = find key_order (f, p) opening_rows

opening_is : operator_at opening_table ≡ opening_lookup
opening_is = fun_ext (λ f. fun_ext (λ p. get-from_entries key_order_total opening_rows (f, p)))

abbrev read_by : Lookup → Chars → Word
read_by ops w = word_of_item (length (goal_text w)) (item_by (goal_text w) 0 ops Codes)

pub reads_sends : word_read opening_table Codes sends ≡ sent_word
unfolding item_by term operations items token_at chars lib.Utf8.encode
reads_sends = ap (λ ops. read_by ops sends) opening_is

pub reads_gets : word_read opening_table Codes gets ≡ got_word
unfolding item_by term operations items token_at chars lib.Utf8.encode
reads_gets = ap (λ ops. read_by ops gets) opening_is

pub writes_a : writeq opening_table 699 (atom (codes "a")) ≡ codes "a"
unfolding text_of pieces token_at chars lib.Utf8.encode
writes_a = ap (λ ops. text_of quoting ops 699 (atom (codes "a"))) opening_is

pub reads_waits : word_read opening_table Codes waits_for_x ≡ waiting_word
unfolding item_by term operations items token_at chars lib.Utf8.encode
reads_waits = ap (λ ops. read_by ops waits_for_x) opening_is

pub reads_creates : word_read opening_table Codes creates ≡ creating_word
unfolding item_by term operations items token_at chars lib.Utf8.encode
reads_creates = ap (λ ops. read_by ops creates) opening_is

pub writes_bare_a : write opening_table 1200 (atom (codes "a")) ≡ codes "a"
unfolding text_of pieces token_at chars lib.Utf8.encode
writes_bare_a = ap (λ ops. text_of bare ops 1200 (atom (codes "a"))) opening_is

pub reads_true : word_read opening_table Codes (codes "true") ≡ true_word
unfolding item_by term operations items token_at chars lib.Utf8.encode
reads_true = ap (λ ops. read_by ops (codes "true")) opening_is

pub reads_queue_file : item_of queue_file 0 opening_table Codes ≡ clause (comp (codes ":-") queue_goal none) [] 0 31
unfolding item_by term operations items token_at chars lib.Utf8.encode
reads_queue_file = ap (λ ops. item_by queue_file 0 ops Codes) opening_is

pub writes_alias_ball : writeq opening_table 1200 alias_ball ≡ codes "error(permission_error(create,thread,goal2),consult/1)"
unfolding text_of pieces right_operand arguments list_tail elements token_at chars lib.Utf8.encode digits
writes_alias_ball = ap (λ ops. text_of quoting ops 1200 alias_ball) opening_is
