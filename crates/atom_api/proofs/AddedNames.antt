-- The texts of the fixed atoms that were added later, by name.
use Rattle.std.proofs.Common.{◌≡◌, Some, codes, refl}
use Rattle.atom_api.specs.Fixed.{fixed, fixed_texts}
use Rattle.atom_api.specs.FixedNames as name

pub mutex_create_is : fixed name.mutex_create_name ≡ Some (codes "mutex_create")
unfolding fixed_texts
mutex_create_is = refl

pub with_mutex_is : fixed name.with_mutex_name ≡ Some (codes "with_mutex")
unfolding fixed_texts
with_mutex_is = refl

pub transaction_is : fixed name.transaction_name ≡ Some (codes "transaction")
unfolding fixed_texts
transaction_is = refl

pub snapshot_is : fixed name.snapshot_name ≡ Some (codes "snapshot")
unfolding fixed_texts
snapshot_is = refl

pub engine_create_is : fixed name.engine_create_name ≡ Some (codes "engine_create")
unfolding fixed_texts
engine_create_is = refl

pub engine_next_is : fixed name.engine_next_name ≡ Some (codes "engine_next")
unfolding fixed_texts
engine_next_is = refl

pub engine_destroy_is : fixed name.engine_destroy_name ≡ Some (codes "engine_destroy")
unfolding fixed_texts
engine_destroy_is = refl

pub phrase_is : fixed name.phrase_name ≡ Some (codes "phrase")
unfolding fixed_texts
phrase_is = refl

pub bagof_is : fixed name.bagof_name ≡ Some (codes "bagof")
unfolding fixed_texts
bagof_is = refl

pub setof_is : fixed name.setof_name ≡ Some (codes "setof")
unfolding fixed_texts
setof_is = refl
