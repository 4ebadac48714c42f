-- The fixed atoms that are the names of the predicates.
use Rattle.std.proofs.Common.{◌≡◌, Some, codes, refl}
use Rattle.atom_api.specs.Fixed.{fixed, fixed_texts}

pub atom_concat_is : fixed 48 ≡ Some (codes "atom_concat")
unfolding fixed_texts
atom_concat_is = refl

pub sub_atom_is : fixed 159 ≡ Some (codes "sub_atom")
unfolding fixed_texts
sub_atom_is = refl
