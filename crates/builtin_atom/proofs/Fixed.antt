-- The fixed atoms that these predicates name.
use Rattle.std.proofs.Common.{◌≡◌, Some, codes, refl}
use Rattle.atom_api.specs.Fixed.{fixed, fixed_texts}

pub atom_is : fixed 45 ≡ Some (codes "atom")
unfolding fixed_texts
atom_is = refl

pub atom_chars_is : fixed 46 ≡ Some (codes "atom_chars")
unfolding fixed_texts
atom_chars_is = refl

pub atom_codes_is : fixed 47 ≡ Some (codes "atom_codes")
unfolding fixed_texts
atom_codes_is = refl

pub atom_length_is : fixed 49 ≡ Some (codes "atom_length")
unfolding fixed_texts
atom_length_is = refl

pub atomic_is : fixed 51 ≡ Some (codes "atomic")
unfolding fixed_texts
atomic_is = refl

pub char_code_is : fixed 57 ≡ Some (codes "char_code")
unfolding fixed_texts
char_code_is = refl

pub character_is : fixed 58 ≡ Some (codes "character")
unfolding fixed_texts
character_is = refl

pub character_code_is : fixed 59 ≡ Some (codes "character_code")
unfolding fixed_texts
character_code_is = refl

pub domain_error_is : fixed 77 ≡ Some (codes "domain_error")
unfolding fixed_texts
domain_error_is = refl

pub illegal_number_is : fixed 103 ≡ Some (codes "illegal_number")
unfolding fixed_texts
illegal_number_is = refl

pub instantiation_error_is : fixed 106 ≡ Some (codes "instantiation_error")
unfolding fixed_texts
instantiation_error_is = refl

pub integer_is : fixed 108 ≡ Some (codes "integer")
unfolding fixed_texts
integer_is = refl

pub integer_too_large_is : fixed 110 ≡ Some (codes "integer_too_large")
unfolding fixed_texts
integer_too_large_is = refl

pub list_is : fixed 114 ≡ Some (codes "list")
unfolding fixed_texts
list_is = refl

pub max_atom_length_is : fixed 117 ≡ Some (codes "max_atom_length")
unfolding fixed_texts
max_atom_length_is = refl

pub not_less_than_zero_is : fixed 131 ≡ Some (codes "not_less_than_zero")
unfolding fixed_texts
not_less_than_zero_is = refl

pub number_is : fixed 132 ≡ Some (codes "number")
unfolding fixed_texts
number_is = refl

pub number_chars_is : fixed 133 ≡ Some (codes "number_chars")
unfolding fixed_texts
number_chars_is = refl

pub number_codes_is : fixed 134 ≡ Some (codes "number_codes")
unfolding fixed_texts
number_codes_is = refl

pub representation_error_is : fixed 151 ≡ Some (codes "representation_error")
unfolding fixed_texts
representation_error_is = refl

pub syntax_error_is : fixed 161 ≡ Some (codes "syntax_error")
unfolding fixed_texts
syntax_error_is = refl

pub type_error_is : fixed 177 ≡ Some (codes "type_error")
unfolding fixed_texts
type_error_is = refl

pub list_cell_is : fixed 8 ≡ Some (codes ".")
unfolding fixed_texts
list_cell_is = refl

pub nil_is : fixed 30 ≡ Some (codes "[]")
unfolding fixed_texts
nil_is = refl

pub nl_is : fixed 128 ≡ Some (codes "nl")
unfolding fixed_texts
nl_is = refl

pub cut_is : fixed 0 ≡ Some (codes "!")
unfolding fixed_texts
cut_is = refl
