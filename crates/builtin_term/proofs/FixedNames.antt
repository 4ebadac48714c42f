-- The texts of fixed atoms.
use Rattle.std.proofs.Common.{◌≡◌, Some, codes, refl}
use Rattle.atom_api.specs.Fixed.{fixed, fixed_texts}

pub arg_is : fixed 41 ≡ Some (codes "arg")
unfolding fixed_texts
arg_is = refl

pub atom_is : fixed 45 ≡ Some (codes "atom")
unfolding fixed_texts
atom_is = refl

pub atomic_is : fixed 51 ≡ Some (codes "atomic")
unfolding fixed_texts
atomic_is = refl

pub compare_is : fixed 64 ≡ Some (codes "compare")
unfolding fixed_texts
compare_is = refl

pub compound_is : fixed 65 ≡ Some (codes "compound")
unfolding fixed_texts
compound_is = refl

pub copy_term_is : fixed 67 ≡ Some (codes "copy_term")
unfolding fixed_texts
copy_term_is = refl

pub domain_error_is : fixed 77 ≡ Some (codes "domain_error")
unfolding fixed_texts
domain_error_is = refl

pub equal_is : fixed 16 ≡ Some (codes "=")
unfolding fixed_texts
equal_is = refl

pub functor_is : fixed 94 ≡ Some (codes "functor")
unfolding fixed_texts
functor_is = refl

pub greater_is : fixed 22 ≡ Some (codes ">")
unfolding fixed_texts
greater_is = refl

pub instantiation_error_is : fixed 106 ≡ Some (codes "instantiation_error")
unfolding fixed_texts
instantiation_error_is = refl

pub integer_is : fixed 108 ≡ Some (codes "integer")
unfolding fixed_texts
integer_is = refl

pub keysort_is : fixed 113 ≡ Some (codes "keysort")
unfolding fixed_texts
keysort_is = refl

pub less_is : fixed 14 ≡ Some (codes "<")
unfolding fixed_texts
less_is = refl

pub list_is : fixed 114 ≡ Some (codes "list")
unfolding fixed_texts
list_is = refl

pub minus_is : fixed 5 ≡ Some (codes "-")
unfolding fixed_texts
minus_is = refl

pub msort_is : fixed 126 ≡ Some (codes "msort")
unfolding fixed_texts
msort_is = refl

pub non_empty_list_is : fixed 129 ≡ Some (codes "non_empty_list")
unfolding fixed_texts
non_empty_list_is = refl

pub not_less_than_zero_is : fixed 131 ≡ Some (codes "not_less_than_zero")
unfolding fixed_texts
not_less_than_zero_is = refl

pub order_is : fixed 140 ≡ Some (codes "order")
unfolding fixed_texts
order_is = refl

pub pair_is : fixed 141 ≡ Some (codes "pair")
unfolding fixed_texts
pair_is = refl

pub sort_is : fixed 157 ≡ Some (codes "sort")
unfolding fixed_texts
sort_is = refl

pub term_variables_is : fixed 162 ≡ Some (codes "term_variables")
unfolding fixed_texts
term_variables_is = refl

pub type_error_is : fixed 177 ≡ Some (codes "type_error")
unfolding fixed_texts
type_error_is = refl

pub univ_is : fixed 17 ≡ Some (codes "=..")
unfolding fixed_texts
univ_is = refl
