-- The numbers of the fixed atoms by name, as `src/fixed.rt` names them.
use Rattle.std.specs.Prelude.{ℕ}

abbrev pub cut_name : ℕ
cut_name = 0

abbrev pub times_name : ℕ
times_name = 1

abbrev pub power_name : ℕ
power_name = 2

abbrev pub plus_name : ℕ
plus_name = 3

abbrev pub comma_name : ℕ
comma_name = 4

abbrev pub minus_name : ℕ
minus_name = 5

abbrev pub grammar_arrow_name : ℕ
grammar_arrow_name = 6

abbrev pub then_name : ℕ
then_name = 7

abbrev pub list_cell_name : ℕ
list_cell_name = 8

abbrev pub slash_name : ℕ
slash_name = 9

abbrev pub integer_division_name : ℕ
integer_division_name = 10

abbrev pub bit_and_name : ℕ
bit_and_name = 11

abbrev pub neck_name : ℕ
neck_name = 12

abbrev pub semicolon_name : ℕ
semicolon_name = 13

abbrev pub less_name : ℕ
less_name = 14

abbrev pub shift_left_name : ℕ
shift_left_name = 15

abbrev pub equal_name : ℕ
equal_name = 16

abbrev pub univ_name : ℕ
univ_name = 17

abbrev pub numbers_equal_name : ℕ
numbers_equal_name = 18

abbrev pub less_or_equal_name : ℕ
less_or_equal_name = 19

abbrev pub identical_name : ℕ
identical_name = 20

abbrev pub numbers_differ_name : ℕ
numbers_differ_name = 21

abbrev pub greater_name : ℕ
greater_name = 22

abbrev pub greater_or_equal_name : ℕ
greater_or_equal_name = 23

abbrev pub shift_right_name : ℕ
shift_right_name = 24

abbrev pub query_name : ℕ
query_name = 25

abbrev pub term_less_name : ℕ
term_less_name = 26

abbrev pub term_less_or_equal_name : ℕ
term_less_or_equal_name = 27

abbrev pub term_greater_name : ℕ
term_greater_name = 28

abbrev pub term_greater_or_equal_name : ℕ
term_greater_or_equal_name = 29

abbrev pub nil_name : ℕ
nil_name = 30

abbrev pub complement_name : ℕ
complement_name = 31

abbrev pub not_provable_name : ℕ
not_provable_name = 32

abbrev pub bit_or_name : ℕ
bit_or_name = 33

abbrev pub not_unifiable_name : ℕ
not_unifiable_name = 34

abbrev pub not_identical_name : ℕ
not_identical_name = 35

abbrev pub caret_name : ℕ
caret_name = 36

abbrev pub abolish_name : ℕ
abolish_name = 37

abbrev pub abs_name : ℕ
abs_name = 38

abbrev pub access_name : ℕ
access_name = 39

abbrev pub alias_name : ℕ
alias_name = 40

abbrev pub arg_name : ℕ
arg_name = 41

abbrev pub assert_name : ℕ
assert_name = 42

abbrev pub asserta_name : ℕ
asserta_name = 43

abbrev pub assertz_name : ℕ
assertz_name = 44

abbrev pub atom_name : ℕ
atom_name = 45

abbrev pub atom_chars_name : ℕ
atom_chars_name = 46

abbrev pub atom_codes_name : ℕ
atom_codes_name = 47

abbrev pub atom_concat_name : ℕ
atom_concat_name = 48

abbrev pub atom_length_name : ℕ
atom_length_name = 49

abbrev pub atom_space_name : ℕ
atom_space_name = 50

abbrev pub atomic_name : ℕ
atomic_name = 51

abbrev pub bounded_name : ℕ
bounded_name = 52

abbrev pub call_name : ℕ
call_name = 53

abbrev pub callable_name : ℕ
callable_name = 54

abbrev pub catch_name : ℕ
catch_name = 55

abbrev pub cells_name : ℕ
cells_name = 56

abbrev pub char_code_name : ℕ
char_code_name = 57

abbrev pub character_name : ℕ
character_name = 58

abbrev pub character_code_name : ℕ
character_code_name = 59

abbrev pub chars_name : ℕ
chars_name = 60

abbrev pub choices_name : ℕ
choices_name = 61

abbrev pub clause_name : ℕ
clause_name = 62

abbrev pub codes_name : ℕ
codes_name = 63

abbrev pub compare_name : ℕ
compare_name = 64

abbrev pub compound_name : ℕ
compound_name = 65

abbrev pub consult_name : ℕ
consult_name = 66

abbrev pub copy_term_name : ℕ
copy_term_name = 67

abbrev pub create_name : ℕ
create_name = 68

abbrev pub current_op_name : ℕ
current_op_name = 69

abbrev pub current_predicate_name : ℕ
current_predicate_name = 70

abbrev pub current_prolog_flag_name : ℕ
current_prolog_flag_name = 71

abbrev pub database_name : ℕ
database_name = 72

abbrev pub destroy_name : ℕ
destroy_name = 73

abbrev pub detached_name : ℕ
detached_name = 74

abbrev pub discontiguous_name : ℕ
discontiguous_name = 75

abbrev pub div_name : ℕ
div_name = 76

abbrev pub domain_error_name : ℕ
domain_error_name = 77

abbrev pub double_quotes_name : ℕ
double_quotes_name = 78

abbrev pub dynamic_name : ℕ
dynamic_name = 79

abbrev pub error_name : ℕ
error_name = 80

abbrev pub evaluable_name : ℕ
evaluable_name = 81

abbrev pub evaluation_error_name : ℕ
evaluation_error_name = 82

abbrev pub exception_name : ℕ
exception_name = 83

abbrev pub existence_error_name : ℕ
existence_error_name = 84

abbrev pub exit_name : ℕ
exit_name = 85

abbrev pub exit_status_name : ℕ
exit_status_name = 86

abbrev pub exited_name : ℕ
exited_name = 87

abbrev pub fail_name : ℕ
fail_name = 88

abbrev pub false_name : ℕ
false_name = 89

abbrev pub findall_name : ℕ
findall_name = 90

abbrev pub flag_name : ℕ
flag_name = 91

abbrev pub flag_value_name : ℕ
flag_value_name = 92

abbrev pub float_name : ℕ
float_name = 93

abbrev pub functor_name : ℕ
functor_name = 94

abbrev pub fx_name : ℕ
fx_name = 95

abbrev pub fy_name : ℕ
fy_name = 96

abbrev pub garbage_collect_atoms_name : ℕ
garbage_collect_atoms_name = 97

abbrev pub garbage_collect_clauses_name : ℕ
garbage_collect_clauses_name = 98

abbrev pub generations_name : ℕ
generations_name = 99

abbrev pub ground_name : ℕ
ground_name = 100

abbrev pub halt_name : ℕ
halt_name = 101

abbrev pub halted_name : ℕ
halted_name = 102

abbrev pub illegal_number_name : ℕ
illegal_number_name = 103

abbrev pub inferences_name : ℕ
inferences_name = 104

abbrev pub initialization_name : ℕ
initialization_name = 105

abbrev pub instantiation_error_name : ℕ
instantiation_error_name = 106

abbrev pub int_overflow_name : ℕ
int_overflow_name = 107

abbrev pub integer_name : ℕ
integer_name = 108

abbrev pub integer_rounding_function_name : ℕ
integer_rounding_function_name = 109

abbrev pub integer_too_large_name : ℕ
integer_too_large_name = 110

abbrev pub is_name : ℕ
is_name = 111

abbrev pub join_name : ℕ
join_name = 112

abbrev pub keysort_name : ℕ
keysort_name = 113

abbrev pub list_name : ℕ
list_name = 114

abbrev pub main_name : ℕ
main_name = 115

abbrev pub max_name : ℕ
max_name = 116

abbrev pub max_atom_length_name : ℕ
max_atom_length_name = 117

abbrev pub max_integer_name : ℕ
max_integer_name = 118

abbrev pub message_queue_name : ℕ
message_queue_name = 119

abbrev pub message_queue_create_name : ℕ
message_queue_create_name = 120

abbrev pub message_queue_destroy_name : ℕ
message_queue_destroy_name = 121

abbrev pub min_name : ℕ
min_name = 122

abbrev pub min_integer_name : ℕ
min_integer_name = 123

abbrev pub mod_name : ℕ
mod_name = 124

abbrev pub modify_name : ℕ
modify_name = 125

abbrev pub msort_name : ℕ
msort_name = 126

abbrev pub multifile_name : ℕ
multifile_name = 127

abbrev pub nl_name : ℕ
nl_name = 128

abbrev pub non_empty_list_name : ℕ
non_empty_list_name = 129

abbrev pub nonvar_name : ℕ
nonvar_name = 130

abbrev pub not_less_than_zero_name : ℕ
not_less_than_zero_name = 131

abbrev pub number_name : ℕ
number_name = 132

abbrev pub number_chars_name : ℕ
number_chars_name = 133

abbrev pub number_codes_name : ℕ
number_codes_name = 134

abbrev pub once_name : ℕ
once_name = 135

abbrev pub op_name : ℕ
op_name = 136

abbrev pub operator_name : ℕ
operator_name = 137

abbrev pub operator_priority_name : ℕ
operator_priority_name = 138

abbrev pub operator_specifier_name : ℕ
operator_specifier_name = 139

abbrev pub order_name : ℕ
order_name = 140

abbrev pub pair_name : ℕ
pair_name = 141

abbrev pub permission_error_name : ℕ
permission_error_name = 142

abbrev pub predicate_indicator_name : ℕ
predicate_indicator_name = 143

abbrev pub print_name : ℕ
print_name = 144

abbrev pub private_procedure_name : ℕ
private_procedure_name = 145

abbrev pub procedure_name : ℕ
procedure_name = 146

abbrev pub prolog_flag_name : ℕ
prolog_flag_name = 147

abbrev pub put_char_name : ℕ
put_char_name = 148

abbrev pub rem_name : ℕ
rem_name = 149

abbrev pub repeat_name : ℕ
repeat_name = 150

abbrev pub representation_error_name : ℕ
representation_error_name = 151

abbrev pub resource_error_name : ℕ
resource_error_name = 152

abbrev pub retract_name : ℕ
retract_name = 153

abbrev pub retractall_name : ℕ
retractall_name = 154

abbrev pub set_prolog_flag_name : ℕ
set_prolog_flag_name = 155

abbrev pub sign_name : ℕ
sign_name = 156

abbrev pub sort_name : ℕ
sort_name = 157

abbrev pub static_procedure_name : ℕ
static_procedure_name = 158

abbrev pub sub_atom_name : ℕ
sub_atom_name = 159

abbrev pub subsumes_term_name : ℕ
subsumes_term_name = 160

abbrev pub syntax_error_name : ℕ
syntax_error_name = 161

abbrev pub term_variables_name : ℕ
term_variables_name = 162

abbrev pub thread_name : ℕ
thread_name = 163

abbrev pub thread_create_name : ℕ
thread_create_name = 164

abbrev pub thread_exit_name : ℕ
thread_exit_name = 165

abbrev pub thread_get_message_name : ℕ
thread_get_message_name = 166

abbrev pub thread_join_name : ℕ
thread_join_name = 167

abbrev pub thread_local_name : ℕ
thread_local_name = 168

abbrev pub thread_option_name : ℕ
thread_option_name = 169

abbrev pub thread_peek_message_name : ℕ
thread_peek_message_name = 170

abbrev pub thread_self_name : ℕ
thread_self_name = 171

abbrev pub thread_send_message_name : ℕ
thread_send_message_name = 172

abbrev pub threads_name : ℕ
threads_name = 173

abbrev pub throw_name : ℕ
throw_name = 174

abbrev pub toward_zero_name : ℕ
toward_zero_name = 175

abbrev pub true_name : ℕ
true_name = 176

abbrev pub type_error_name : ℕ
type_error_name = 177

abbrev pub undefined_name : ℕ
undefined_name = 178

abbrev pub unify_with_occurs_check_name : ℕ
unify_with_occurs_check_name = 179

abbrev pub uninstantiation_error_name : ℕ
uninstantiation_error_name = 180

abbrev pub unknown_name : ℕ
unknown_name = 181

abbrev pub var_name : ℕ
var_name = 182

abbrev pub write_name : ℕ
write_name = 183

abbrev pub write_canonical_name : ℕ
write_canonical_name = 184

abbrev pub writeq_name : ℕ
writeq_name = 185

abbrev pub xf_name : ℕ
xf_name = 186

abbrev pub xfx_name : ℕ
xfx_name = 187

abbrev pub xfy_name : ℕ
xfy_name = 188

abbrev pub yf_name : ℕ
yf_name = 189

abbrev pub yfx_name : ℕ
yfx_name = 190

abbrev pub zero_divisor_name : ℕ
zero_divisor_name = 191

abbrev pub braces_name : ℕ
braces_name = 192

abbrev pub mutex_create_name : ℕ
mutex_create_name = 193

abbrev pub with_mutex_name : ℕ
with_mutex_name = 194

abbrev pub transaction_name : ℕ
transaction_name = 195

abbrev pub snapshot_name : ℕ
snapshot_name = 196

abbrev pub engine_create_name : ℕ
engine_create_name = 197

abbrev pub engine_next_name : ℕ
engine_next_name = 198

abbrev pub engine_destroy_name : ℕ
engine_destroy_name = 199

abbrev pub phrase_name : ℕ
phrase_name = 200

abbrev pub bagof_name : ℕ
bagof_name = 201

abbrev pub setof_name : ℕ
setof_name = 202
