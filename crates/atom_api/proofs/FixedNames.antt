-- The texts of the fixed atoms by name.
use Rattle.std.proofs.Common.{◌≡◌, Some, codes, refl}
use Rattle.atom_api.specs.Fixed.{fixed, fixed_texts}
use Rattle.atom_api.specs.FixedNames as name

pub cut_is : fixed name.cut_name ≡ Some (codes "!")
unfolding fixed_texts
cut_is = refl

pub times_is : fixed name.times_name ≡ Some (codes "*")
unfolding fixed_texts
times_is = refl

pub power_is : fixed name.power_name ≡ Some (codes "**")
unfolding fixed_texts
power_is = refl

pub plus_is : fixed name.plus_name ≡ Some (codes "+")
unfolding fixed_texts
plus_is = refl

pub comma_is : fixed name.comma_name ≡ Some (codes ",")
unfolding fixed_texts
comma_is = refl

pub minus_is : fixed name.minus_name ≡ Some (codes "-")
unfolding fixed_texts
minus_is = refl

pub grammar_arrow_is : fixed name.grammar_arrow_name ≡ Some (codes "-->")
unfolding fixed_texts
grammar_arrow_is = refl

pub then_is : fixed name.then_name ≡ Some (codes "->")
unfolding fixed_texts
then_is = refl

pub list_cell_is : fixed name.list_cell_name ≡ Some (codes ".")
unfolding fixed_texts
list_cell_is = refl

pub slash_is : fixed name.slash_name ≡ Some (codes "/")
unfolding fixed_texts
slash_is = refl

pub integer_division_is : fixed name.integer_division_name ≡ Some (codes "//")
unfolding fixed_texts
integer_division_is = refl

pub bit_and_is : fixed name.bit_and_name ≡ Some (codes "/\\")
unfolding fixed_texts
bit_and_is = refl

pub neck_is : fixed name.neck_name ≡ Some (codes ":-")
unfolding fixed_texts
neck_is = refl

pub semicolon_is : fixed name.semicolon_name ≡ Some (codes ";")
unfolding fixed_texts
semicolon_is = refl

pub less_is : fixed name.less_name ≡ Some (codes "<")
unfolding fixed_texts
less_is = refl

pub shift_left_is : fixed name.shift_left_name ≡ Some (codes "<<")
unfolding fixed_texts
shift_left_is = refl

pub equal_is : fixed name.equal_name ≡ Some (codes "=")
unfolding fixed_texts
equal_is = refl

pub univ_is : fixed name.univ_name ≡ Some (codes "=..")
unfolding fixed_texts
univ_is = refl

pub numbers_equal_is : fixed name.numbers_equal_name ≡ Some (codes "=:=")
unfolding fixed_texts
numbers_equal_is = refl

pub less_or_equal_is : fixed name.less_or_equal_name ≡ Some (codes "=<")
unfolding fixed_texts
less_or_equal_is = refl

pub identical_is : fixed name.identical_name ≡ Some (codes "==")
unfolding fixed_texts
identical_is = refl

pub numbers_differ_is : fixed name.numbers_differ_name ≡ Some (codes "=\\=")
unfolding fixed_texts
numbers_differ_is = refl

pub greater_is : fixed name.greater_name ≡ Some (codes ">")
unfolding fixed_texts
greater_is = refl

pub greater_or_equal_is : fixed name.greater_or_equal_name ≡ Some (codes ">=")
unfolding fixed_texts
greater_or_equal_is = refl

pub shift_right_is : fixed name.shift_right_name ≡ Some (codes ">>")
unfolding fixed_texts
shift_right_is = refl

pub query_is : fixed name.query_name ≡ Some (codes "?-")
unfolding fixed_texts
query_is = refl

pub term_less_is : fixed name.term_less_name ≡ Some (codes "@<")
unfolding fixed_texts
term_less_is = refl

pub term_less_or_equal_is : fixed name.term_less_or_equal_name ≡ Some (codes "@=<")
unfolding fixed_texts
term_less_or_equal_is = refl

pub term_greater_is : fixed name.term_greater_name ≡ Some (codes "@>")
unfolding fixed_texts
term_greater_is = refl

pub term_greater_or_equal_is : fixed name.term_greater_or_equal_name ≡ Some (codes "@>=")
unfolding fixed_texts
term_greater_or_equal_is = refl

pub nil_is : fixed name.nil_name ≡ Some (codes "[]")
unfolding fixed_texts
nil_is = refl

pub complement_is : fixed name.complement_name ≡ Some (codes "\\")
unfolding fixed_texts
complement_is = refl

pub not_provable_is : fixed name.not_provable_name ≡ Some (codes "\\+")
unfolding fixed_texts
not_provable_is = refl

pub bit_or_is : fixed name.bit_or_name ≡ Some (codes "\\/")
unfolding fixed_texts
bit_or_is = refl

pub not_unifiable_is : fixed name.not_unifiable_name ≡ Some (codes "\\=")
unfolding fixed_texts
not_unifiable_is = refl

pub not_identical_is : fixed name.not_identical_name ≡ Some (codes "\\==")
unfolding fixed_texts
not_identical_is = refl

pub caret_is : fixed name.caret_name ≡ Some (codes "^")
unfolding fixed_texts
caret_is = refl

pub abolish_is : fixed name.abolish_name ≡ Some (codes "abolish")
unfolding fixed_texts
abolish_is = refl

pub abs_is : fixed name.abs_name ≡ Some (codes "abs")
unfolding fixed_texts
abs_is = refl

pub access_is : fixed name.access_name ≡ Some (codes "access")
unfolding fixed_texts
access_is = refl

pub alias_is : fixed name.alias_name ≡ Some (codes "alias")
unfolding fixed_texts
alias_is = refl

pub arg_is : fixed name.arg_name ≡ Some (codes "arg")
unfolding fixed_texts
arg_is = refl

pub assert_is : fixed name.assert_name ≡ Some (codes "assert")
unfolding fixed_texts
assert_is = refl

pub asserta_is : fixed name.asserta_name ≡ Some (codes "asserta")
unfolding fixed_texts
asserta_is = refl

pub assertz_is : fixed name.assertz_name ≡ Some (codes "assertz")
unfolding fixed_texts
assertz_is = refl

pub atom_is : fixed name.atom_name ≡ Some (codes "atom")
unfolding fixed_texts
atom_is = refl

pub atom_chars_is : fixed name.atom_chars_name ≡ Some (codes "atom_chars")
unfolding fixed_texts
atom_chars_is = refl

pub atom_codes_is : fixed name.atom_codes_name ≡ Some (codes "atom_codes")
unfolding fixed_texts
atom_codes_is = refl

pub atom_concat_is : fixed name.atom_concat_name ≡ Some (codes "atom_concat")
unfolding fixed_texts
atom_concat_is = refl

pub atom_length_is : fixed name.atom_length_name ≡ Some (codes "atom_length")
unfolding fixed_texts
atom_length_is = refl

pub atom_space_is : fixed name.atom_space_name ≡ Some (codes "atom_space")
unfolding fixed_texts
atom_space_is = refl

pub atomic_is : fixed name.atomic_name ≡ Some (codes "atomic")
unfolding fixed_texts
atomic_is = refl

pub bounded_is : fixed name.bounded_name ≡ Some (codes "bounded")
unfolding fixed_texts
bounded_is = refl

pub call_is : fixed name.call_name ≡ Some (codes "call")
unfolding fixed_texts
call_is = refl

pub callable_is : fixed name.callable_name ≡ Some (codes "callable")
unfolding fixed_texts
callable_is = refl

pub catch_is : fixed name.catch_name ≡ Some (codes "catch")
unfolding fixed_texts
catch_is = refl

pub cells_is : fixed name.cells_name ≡ Some (codes "cells")
unfolding fixed_texts
cells_is = refl

pub char_code_is : fixed name.char_code_name ≡ Some (codes "char_code")
unfolding fixed_texts
char_code_is = refl

pub character_is : fixed name.character_name ≡ Some (codes "character")
unfolding fixed_texts
character_is = refl

pub character_code_is : fixed name.character_code_name ≡ Some (codes "character_code")
unfolding fixed_texts
character_code_is = refl

pub chars_is : fixed name.chars_name ≡ Some (codes "chars")
unfolding fixed_texts
chars_is = refl

pub choices_is : fixed name.choices_name ≡ Some (codes "choices")
unfolding fixed_texts
choices_is = refl

pub clause_is : fixed name.clause_name ≡ Some (codes "clause")
unfolding fixed_texts
clause_is = refl

pub codes_is : fixed name.codes_name ≡ Some (codes "codes")
unfolding fixed_texts
codes_is = refl

pub compare_is : fixed name.compare_name ≡ Some (codes "compare")
unfolding fixed_texts
compare_is = refl

pub compound_is : fixed name.compound_name ≡ Some (codes "compound")
unfolding fixed_texts
compound_is = refl

pub consult_is : fixed name.consult_name ≡ Some (codes "consult")
unfolding fixed_texts
consult_is = refl

pub copy_term_is : fixed name.copy_term_name ≡ Some (codes "copy_term")
unfolding fixed_texts
copy_term_is = refl

pub create_is : fixed name.create_name ≡ Some (codes "create")
unfolding fixed_texts
create_is = refl

pub current_op_is : fixed name.current_op_name ≡ Some (codes "current_op")
unfolding fixed_texts
current_op_is = refl

pub current_predicate_is : fixed name.current_predicate_name ≡ Some (codes "current_predicate")
unfolding fixed_texts
current_predicate_is = refl

pub current_prolog_flag_is : fixed name.current_prolog_flag_name ≡ Some (codes "current_prolog_flag")
unfolding fixed_texts
current_prolog_flag_is = refl

pub database_is : fixed name.database_name ≡ Some (codes "database")
unfolding fixed_texts
database_is = refl

pub destroy_is : fixed name.destroy_name ≡ Some (codes "destroy")
unfolding fixed_texts
destroy_is = refl

pub detached_is : fixed name.detached_name ≡ Some (codes "detached")
unfolding fixed_texts
detached_is = refl

pub discontiguous_is : fixed name.discontiguous_name ≡ Some (codes "discontiguous")
unfolding fixed_texts
discontiguous_is = refl

pub div_is : fixed name.div_name ≡ Some (codes "div")
unfolding fixed_texts
div_is = refl

pub domain_error_is : fixed name.domain_error_name ≡ Some (codes "domain_error")
unfolding fixed_texts
domain_error_is = refl

pub double_quotes_is : fixed name.double_quotes_name ≡ Some (codes "double_quotes")
unfolding fixed_texts
double_quotes_is = refl

pub dynamic_is : fixed name.dynamic_name ≡ Some (codes "dynamic")
unfolding fixed_texts
dynamic_is = refl

pub error_is : fixed name.error_name ≡ Some (codes "error")
unfolding fixed_texts
error_is = refl

pub evaluable_is : fixed name.evaluable_name ≡ Some (codes "evaluable")
unfolding fixed_texts
evaluable_is = refl

pub evaluation_error_is : fixed name.evaluation_error_name ≡ Some (codes "evaluation_error")
unfolding fixed_texts
evaluation_error_is = refl

pub exception_is : fixed name.exception_name ≡ Some (codes "exception")
unfolding fixed_texts
exception_is = refl

pub existence_error_is : fixed name.existence_error_name ≡ Some (codes "existence_error")
unfolding fixed_texts
existence_error_is = refl

pub exit_is : fixed name.exit_name ≡ Some (codes "exit")
unfolding fixed_texts
exit_is = refl

pub exit_status_is : fixed name.exit_status_name ≡ Some (codes "exit_status")
unfolding fixed_texts
exit_status_is = refl

pub exited_is : fixed name.exited_name ≡ Some (codes "exited")
unfolding fixed_texts
exited_is = refl

pub fail_is : fixed name.fail_name ≡ Some (codes "fail")
unfolding fixed_texts
fail_is = refl

pub false_is : fixed name.false_name ≡ Some (codes "false")
unfolding fixed_texts
false_is = refl

pub findall_is : fixed name.findall_name ≡ Some (codes "findall")
unfolding fixed_texts
findall_is = refl

pub flag_is : fixed name.flag_name ≡ Some (codes "flag")
unfolding fixed_texts
flag_is = refl

pub flag_value_is : fixed name.flag_value_name ≡ Some (codes "flag_value")
unfolding fixed_texts
flag_value_is = refl

pub float_is : fixed name.float_name ≡ Some (codes "float")
unfolding fixed_texts
float_is = refl

pub functor_is : fixed name.functor_name ≡ Some (codes "functor")
unfolding fixed_texts
functor_is = refl

pub fx_is : fixed name.fx_name ≡ Some (codes "fx")
unfolding fixed_texts
fx_is = refl

pub fy_is : fixed name.fy_name ≡ Some (codes "fy")
unfolding fixed_texts
fy_is = refl

pub garbage_collect_atoms_is : fixed name.garbage_collect_atoms_name ≡ Some (codes "garbage_collect_atoms")
unfolding fixed_texts
garbage_collect_atoms_is = refl

pub garbage_collect_clauses_is : fixed name.garbage_collect_clauses_name ≡ Some (codes "garbage_collect_clauses")
unfolding fixed_texts
garbage_collect_clauses_is = refl

pub generations_is : fixed name.generations_name ≡ Some (codes "generations")
unfolding fixed_texts
generations_is = refl

pub ground_is : fixed name.ground_name ≡ Some (codes "ground")
unfolding fixed_texts
ground_is = refl

pub halt_is : fixed name.halt_name ≡ Some (codes "halt")
unfolding fixed_texts
halt_is = refl

pub halted_is : fixed name.halted_name ≡ Some (codes "halted")
unfolding fixed_texts
halted_is = refl

pub illegal_number_is : fixed name.illegal_number_name ≡ Some (codes "illegal_number")
unfolding fixed_texts
illegal_number_is = refl

pub inferences_is : fixed name.inferences_name ≡ Some (codes "inferences")
unfolding fixed_texts
inferences_is = refl

pub initialization_is : fixed name.initialization_name ≡ Some (codes "initialization")
unfolding fixed_texts
initialization_is = refl

pub instantiation_error_is : fixed name.instantiation_error_name ≡ Some (codes "instantiation_error")
unfolding fixed_texts
instantiation_error_is = refl

pub int_overflow_is : fixed name.int_overflow_name ≡ Some (codes "int_overflow")
unfolding fixed_texts
int_overflow_is = refl

pub integer_is : fixed name.integer_name ≡ Some (codes "integer")
unfolding fixed_texts
integer_is = refl

pub integer_rounding_function_is : fixed name.integer_rounding_function_name ≡ Some (codes "integer_rounding_function")
unfolding fixed_texts
integer_rounding_function_is = refl

pub integer_too_large_is : fixed name.integer_too_large_name ≡ Some (codes "integer_too_large")
unfolding fixed_texts
integer_too_large_is = refl

pub is_is : fixed name.is_name ≡ Some (codes "is")
unfolding fixed_texts
is_is = refl

pub join_is : fixed name.join_name ≡ Some (codes "join")
unfolding fixed_texts
join_is = refl

pub keysort_is : fixed name.keysort_name ≡ Some (codes "keysort")
unfolding fixed_texts
keysort_is = refl

pub list_is : fixed name.list_name ≡ Some (codes "list")
unfolding fixed_texts
list_is = refl

pub main_is : fixed name.main_name ≡ Some (codes "main")
unfolding fixed_texts
main_is = refl

pub max_is : fixed name.max_name ≡ Some (codes "max")
unfolding fixed_texts
max_is = refl

pub max_atom_length_is : fixed name.max_atom_length_name ≡ Some (codes "max_atom_length")
unfolding fixed_texts
max_atom_length_is = refl

pub max_integer_is : fixed name.max_integer_name ≡ Some (codes "max_integer")
unfolding fixed_texts
max_integer_is = refl

pub message_queue_is : fixed name.message_queue_name ≡ Some (codes "message_queue")
unfolding fixed_texts
message_queue_is = refl

pub message_queue_create_is : fixed name.message_queue_create_name ≡ Some (codes "message_queue_create")
unfolding fixed_texts
message_queue_create_is = refl

pub message_queue_destroy_is : fixed name.message_queue_destroy_name ≡ Some (codes "message_queue_destroy")
unfolding fixed_texts
message_queue_destroy_is = refl

pub min_is : fixed name.min_name ≡ Some (codes "min")
unfolding fixed_texts
min_is = refl

pub min_integer_is : fixed name.min_integer_name ≡ Some (codes "min_integer")
unfolding fixed_texts
min_integer_is = refl

pub mod_is : fixed name.mod_name ≡ Some (codes "mod")
unfolding fixed_texts
mod_is = refl

pub modify_is : fixed name.modify_name ≡ Some (codes "modify")
unfolding fixed_texts
modify_is = refl

pub msort_is : fixed name.msort_name ≡ Some (codes "msort")
unfolding fixed_texts
msort_is = refl

pub multifile_is : fixed name.multifile_name ≡ Some (codes "multifile")
unfolding fixed_texts
multifile_is = refl

pub nl_is : fixed name.nl_name ≡ Some (codes "nl")
unfolding fixed_texts
nl_is = refl

pub non_empty_list_is : fixed name.non_empty_list_name ≡ Some (codes "non_empty_list")
unfolding fixed_texts
non_empty_list_is = refl

pub nonvar_is : fixed name.nonvar_name ≡ Some (codes "nonvar")
unfolding fixed_texts
nonvar_is = refl

pub not_less_than_zero_is : fixed name.not_less_than_zero_name ≡ Some (codes "not_less_than_zero")
unfolding fixed_texts
not_less_than_zero_is = refl

pub number_is : fixed name.number_name ≡ Some (codes "number")
unfolding fixed_texts
number_is = refl

pub number_chars_is : fixed name.number_chars_name ≡ Some (codes "number_chars")
unfolding fixed_texts
number_chars_is = refl

pub number_codes_is : fixed name.number_codes_name ≡ Some (codes "number_codes")
unfolding fixed_texts
number_codes_is = refl

pub once_is : fixed name.once_name ≡ Some (codes "once")
unfolding fixed_texts
once_is = refl

pub op_is : fixed name.op_name ≡ Some (codes "op")
unfolding fixed_texts
op_is = refl

pub operator_is : fixed name.operator_name ≡ Some (codes "operator")
unfolding fixed_texts
operator_is = refl

pub operator_priority_is : fixed name.operator_priority_name ≡ Some (codes "operator_priority")
unfolding fixed_texts
operator_priority_is = refl

pub operator_specifier_is : fixed name.operator_specifier_name ≡ Some (codes "operator_specifier")
unfolding fixed_texts
operator_specifier_is = refl

pub order_is : fixed name.order_name ≡ Some (codes "order")
unfolding fixed_texts
order_is = refl

pub pair_is : fixed name.pair_name ≡ Some (codes "pair")
unfolding fixed_texts
pair_is = refl

pub permission_error_is : fixed name.permission_error_name ≡ Some (codes "permission_error")
unfolding fixed_texts
permission_error_is = refl

pub predicate_indicator_is : fixed name.predicate_indicator_name ≡ Some (codes "predicate_indicator")
unfolding fixed_texts
predicate_indicator_is = refl

pub print_is : fixed name.print_name ≡ Some (codes "print")
unfolding fixed_texts
print_is = refl

pub private_procedure_is : fixed name.private_procedure_name ≡ Some (codes "private_procedure")
unfolding fixed_texts
private_procedure_is = refl

pub procedure_is : fixed name.procedure_name ≡ Some (codes "procedure")
unfolding fixed_texts
procedure_is = refl

pub prolog_flag_is : fixed name.prolog_flag_name ≡ Some (codes "prolog_flag")
unfolding fixed_texts
prolog_flag_is = refl

pub put_char_is : fixed name.put_char_name ≡ Some (codes "put_char")
unfolding fixed_texts
put_char_is = refl

pub rem_is : fixed name.rem_name ≡ Some (codes "rem")
unfolding fixed_texts
rem_is = refl

pub repeat_is : fixed name.repeat_name ≡ Some (codes "repeat")
unfolding fixed_texts
repeat_is = refl

pub representation_error_is : fixed name.representation_error_name ≡ Some (codes "representation_error")
unfolding fixed_texts
representation_error_is = refl

pub resource_error_is : fixed name.resource_error_name ≡ Some (codes "resource_error")
unfolding fixed_texts
resource_error_is = refl

pub retract_is : fixed name.retract_name ≡ Some (codes "retract")
unfolding fixed_texts
retract_is = refl

pub retractall_is : fixed name.retractall_name ≡ Some (codes "retractall")
unfolding fixed_texts
retractall_is = refl

pub set_prolog_flag_is : fixed name.set_prolog_flag_name ≡ Some (codes "set_prolog_flag")
unfolding fixed_texts
set_prolog_flag_is = refl

pub sign_is : fixed name.sign_name ≡ Some (codes "sign")
unfolding fixed_texts
sign_is = refl

pub sort_is : fixed name.sort_name ≡ Some (codes "sort")
unfolding fixed_texts
sort_is = refl

pub static_procedure_is : fixed name.static_procedure_name ≡ Some (codes "static_procedure")
unfolding fixed_texts
static_procedure_is = refl

pub sub_atom_is : fixed name.sub_atom_name ≡ Some (codes "sub_atom")
unfolding fixed_texts
sub_atom_is = refl

pub subsumes_term_is : fixed name.subsumes_term_name ≡ Some (codes "subsumes_term")
unfolding fixed_texts
subsumes_term_is = refl

pub syntax_error_is : fixed name.syntax_error_name ≡ Some (codes "syntax_error")
unfolding fixed_texts
syntax_error_is = refl

pub term_variables_is : fixed name.term_variables_name ≡ Some (codes "term_variables")
unfolding fixed_texts
term_variables_is = refl

pub thread_is : fixed name.thread_name ≡ Some (codes "thread")
unfolding fixed_texts
thread_is = refl

pub thread_create_is : fixed name.thread_create_name ≡ Some (codes "thread_create")
unfolding fixed_texts
thread_create_is = refl

pub thread_exit_is : fixed name.thread_exit_name ≡ Some (codes "thread_exit")
unfolding fixed_texts
thread_exit_is = refl

pub thread_get_message_is : fixed name.thread_get_message_name ≡ Some (codes "thread_get_message")
unfolding fixed_texts
thread_get_message_is = refl

pub thread_join_is : fixed name.thread_join_name ≡ Some (codes "thread_join")
unfolding fixed_texts
thread_join_is = refl

pub thread_local_is : fixed name.thread_local_name ≡ Some (codes "thread_local")
unfolding fixed_texts
thread_local_is = refl

pub thread_option_is : fixed name.thread_option_name ≡ Some (codes "thread_option")
unfolding fixed_texts
thread_option_is = refl

pub thread_peek_message_is : fixed name.thread_peek_message_name ≡ Some (codes "thread_peek_message")
unfolding fixed_texts
thread_peek_message_is = refl

pub thread_self_is : fixed name.thread_self_name ≡ Some (codes "thread_self")
unfolding fixed_texts
thread_self_is = refl

pub thread_send_message_is : fixed name.thread_send_message_name ≡ Some (codes "thread_send_message")
unfolding fixed_texts
thread_send_message_is = refl

pub threads_is : fixed name.threads_name ≡ Some (codes "threads")
unfolding fixed_texts
threads_is = refl

pub throw_is : fixed name.throw_name ≡ Some (codes "throw")
unfolding fixed_texts
throw_is = refl

pub toward_zero_is : fixed name.toward_zero_name ≡ Some (codes "toward_zero")
unfolding fixed_texts
toward_zero_is = refl

pub true_is : fixed name.true_name ≡ Some (codes "true")
unfolding fixed_texts
true_is = refl

pub type_error_is : fixed name.type_error_name ≡ Some (codes "type_error")
unfolding fixed_texts
type_error_is = refl

pub undefined_is : fixed name.undefined_name ≡ Some (codes "undefined")
unfolding fixed_texts
undefined_is = refl

pub unify_with_occurs_check_is : fixed name.unify_with_occurs_check_name ≡ Some (codes "unify_with_occurs_check")
unfolding fixed_texts
unify_with_occurs_check_is = refl

pub uninstantiation_error_is : fixed name.uninstantiation_error_name ≡ Some (codes "uninstantiation_error")
unfolding fixed_texts
uninstantiation_error_is = refl

pub unknown_is : fixed name.unknown_name ≡ Some (codes "unknown")
unfolding fixed_texts
unknown_is = refl

pub var_is : fixed name.var_name ≡ Some (codes "var")
unfolding fixed_texts
var_is = refl

pub write_is : fixed name.write_name ≡ Some (codes "write")
unfolding fixed_texts
write_is = refl

pub write_canonical_is : fixed name.write_canonical_name ≡ Some (codes "write_canonical")
unfolding fixed_texts
write_canonical_is = refl

pub writeq_is : fixed name.writeq_name ≡ Some (codes "writeq")
unfolding fixed_texts
writeq_is = refl

pub xf_is : fixed name.xf_name ≡ Some (codes "xf")
unfolding fixed_texts
xf_is = refl

pub xfx_is : fixed name.xfx_name ≡ Some (codes "xfx")
unfolding fixed_texts
xfx_is = refl

pub xfy_is : fixed name.xfy_name ≡ Some (codes "xfy")
unfolding fixed_texts
xfy_is = refl

pub yf_is : fixed name.yf_name ≡ Some (codes "yf")
unfolding fixed_texts
yf_is = refl

pub yfx_is : fixed name.yfx_name ≡ Some (codes "yfx")
unfolding fixed_texts
yfx_is = refl

pub zero_divisor_is : fixed name.zero_divisor_name ≡ Some (codes "zero_divisor")
unfolding fixed_texts
zero_divisor_is = refl

pub braces_is : fixed name.braces_name ≡ Some (codes "{}")
unfolding fixed_texts
braces_is = refl
