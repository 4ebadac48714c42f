-- The texts of fixed atoms.
use Rattle.std.proofs.Common.{◌≡◌, Some, codes, refl}
use Rattle.atom_api.specs.Fixed.{fixed, fixed_texts}

pub type_error_is : fixed 177 ≡ Some (codes "type_error")
unfolding fixed_texts
type_error_is = refl

pub domain_error_is : fixed 77 ≡ Some (codes "domain_error")
unfolding fixed_texts
domain_error_is = refl

pub existence_error_is : fixed 84 ≡ Some (codes "existence_error")
unfolding fixed_texts
existence_error_is = refl

pub permission_error_is : fixed 142 ≡ Some (codes "permission_error")
unfolding fixed_texts
permission_error_is = refl

pub uninstantiation_error_is : fixed 180 ≡ Some (codes "uninstantiation_error")
unfolding fixed_texts
uninstantiation_error_is = refl

pub instantiation_error_is : fixed 106 ≡ Some (codes "instantiation_error")
unfolding fixed_texts
instantiation_error_is = refl

pub atom_is : fixed 45 ≡ Some (codes "atom")
unfolding fixed_texts
atom_is = refl

pub integer_is : fixed 108 ≡ Some (codes "integer")
unfolding fixed_texts
integer_is = refl

pub callable_is : fixed 54 ≡ Some (codes "callable")
unfolding fixed_texts
callable_is = refl

pub list_is : fixed 114 ≡ Some (codes "list")
unfolding fixed_texts
list_is = refl

pub predicate_indicator_is : fixed 143 ≡ Some (codes "predicate_indicator")
unfolding fixed_texts
predicate_indicator_is = refl

pub not_less_than_zero_is : fixed 131 ≡ Some (codes "not_less_than_zero")
unfolding fixed_texts
not_less_than_zero_is = refl

pub operator_priority_is : fixed 138 ≡ Some (codes "operator_priority")
unfolding fixed_texts
operator_priority_is = refl

pub operator_specifier_is : fixed 139 ≡ Some (codes "operator_specifier")
unfolding fixed_texts
operator_specifier_is = refl

pub prolog_flag_is : fixed 147 ≡ Some (codes "prolog_flag")
unfolding fixed_texts
prolog_flag_is = refl

pub flag_value_is : fixed 92 ≡ Some (codes "flag_value")
unfolding fixed_texts
flag_value_is = refl

pub flag_is : fixed 91 ≡ Some (codes "flag")
unfolding fixed_texts
flag_is = refl

pub modify_is : fixed 125 ≡ Some (codes "modify")
unfolding fixed_texts
modify_is = refl

pub plus_is : fixed 3 ≡ Some (codes "+")
unfolding fixed_texts
plus_is = refl

pub thread_option_is : fixed 169 ≡ Some (codes "thread_option")
unfolding fixed_texts
thread_option_is = refl

pub message_queue_is : fixed 119 ≡ Some (codes "message_queue")
unfolding fixed_texts
message_queue_is = refl

pub thread_is : fixed 163 ≡ Some (codes "thread")
unfolding fixed_texts
thread_is = refl

pub asserta_is : fixed 43 ≡ Some (codes "asserta")
unfolding fixed_texts
asserta_is = refl

pub assertz_is : fixed 44 ≡ Some (codes "assertz")
unfolding fixed_texts
assertz_is = refl

pub assert_is : fixed 42 ≡ Some (codes "assert")
unfolding fixed_texts
assert_is = refl

pub discontiguous_is : fixed 75 ≡ Some (codes "discontiguous")
unfolding fixed_texts
discontiguous_is = refl

pub multifile_is : fixed 127 ≡ Some (codes "multifile")
unfolding fixed_texts
multifile_is = refl

pub slash_is : fixed 9 ≡ Some (codes "/")
unfolding fixed_texts
slash_is = refl

pub error_is : fixed 80 ≡ Some (codes "error")
unfolding fixed_texts
error_is = refl

pub neck_is : fixed 12 ≡ Some (codes ":-")
unfolding fixed_texts
neck_is = refl

pub true_is : fixed 176 ≡ Some (codes "true")
unfolding fixed_texts
true_is = refl

pub bounded_is : fixed 52 ≡ Some (codes "bounded")
unfolding fixed_texts
bounded_is = refl

pub integer_rounding_function_is : fixed 109 ≡ Some (codes "integer_rounding_function")
unfolding fixed_texts
integer_rounding_function_is = refl

pub max_integer_is : fixed 118 ≡ Some (codes "max_integer")
unfolding fixed_texts
max_integer_is = refl

pub min_integer_is : fixed 123 ≡ Some (codes "min_integer")
unfolding fixed_texts
min_integer_is = refl

pub double_quotes_is : fixed 78 ≡ Some (codes "double_quotes")
unfolding fixed_texts
double_quotes_is = refl

pub unknown_is : fixed 181 ≡ Some (codes "unknown")
unfolding fixed_texts
unknown_is = refl

pub codes_is : fixed 63 ≡ Some (codes "codes")
unfolding fixed_texts
codes_is = refl

pub chars_is : fixed 60 ≡ Some (codes "chars")
unfolding fixed_texts
chars_is = refl

pub fail_is : fixed 88 ≡ Some (codes "fail")
unfolding fixed_texts
fail_is = refl

pub xfx_is : fixed 187 ≡ Some (codes "xfx")
unfolding fixed_texts
xfx_is = refl

pub xfy_is : fixed 188 ≡ Some (codes "xfy")
unfolding fixed_texts
xfy_is = refl

pub yfx_is : fixed 190 ≡ Some (codes "yfx")
unfolding fixed_texts
yfx_is = refl

pub fy_is : fixed 96 ≡ Some (codes "fy")
unfolding fixed_texts
fy_is = refl

pub fx_is : fixed 95 ≡ Some (codes "fx")
unfolding fixed_texts
fx_is = refl

pub xf_is : fixed 186 ≡ Some (codes "xf")
unfolding fixed_texts
xf_is = refl

pub yf_is : fixed 189 ≡ Some (codes "yf")
unfolding fixed_texts
yf_is = refl

pub comma_is : fixed 4 ≡ Some (codes ",")
unfolding fixed_texts
comma_is = refl

pub alias_is : fixed 40 ≡ Some (codes "alias")
unfolding fixed_texts
alias_is = refl

pub detached_is : fixed 74 ≡ Some (codes "detached")
unfolding fixed_texts
detached_is = refl

pub false_is : fixed 89 ≡ Some (codes "false")
unfolding fixed_texts
false_is = refl

pub abolish_is : fixed 37 ≡ Some (codes "abolish")
unfolding fixed_texts
abolish_is = refl

pub dynamic_is : fixed 79 ≡ Some (codes "dynamic")
unfolding fixed_texts
dynamic_is = refl

pub current_predicate_is : fixed 70 ≡ Some (codes "current_predicate")
unfolding fixed_texts
current_predicate_is = refl

pub thread_self_is : fixed 171 ≡ Some (codes "thread_self")
unfolding fixed_texts
thread_self_is = refl

pub thread_get_message_is : fixed 166 ≡ Some (codes "thread_get_message")
unfolding fixed_texts
thread_get_message_is = refl

pub thread_peek_message_is : fixed 170 ≡ Some (codes "thread_peek_message")
unfolding fixed_texts
thread_peek_message_is = refl

pub message_queue_create_is : fixed 120 ≡ Some (codes "message_queue_create")
unfolding fixed_texts
message_queue_create_is = refl

pub message_queue_destroy_is : fixed 121 ≡ Some (codes "message_queue_destroy")
unfolding fixed_texts
message_queue_destroy_is = refl

pub set_prolog_flag_is : fixed 155 ≡ Some (codes "set_prolog_flag")
unfolding fixed_texts
set_prolog_flag_is = refl

pub current_prolog_flag_is : fixed 71 ≡ Some (codes "current_prolog_flag")
unfolding fixed_texts
current_prolog_flag_is = refl

pub thread_create_is : fixed 164 ≡ Some (codes "thread_create")
unfolding fixed_texts
thread_create_is = refl

pub thread_join_is : fixed 167 ≡ Some (codes "thread_join")
unfolding fixed_texts
thread_join_is = refl

pub thread_send_message_is : fixed 172 ≡ Some (codes "thread_send_message")
unfolding fixed_texts
thread_send_message_is = refl

pub op_is : fixed 136 ≡ Some (codes "op")
unfolding fixed_texts
op_is = refl

pub current_op_is : fixed 69 ≡ Some (codes "current_op")
unfolding fixed_texts
current_op_is = refl
