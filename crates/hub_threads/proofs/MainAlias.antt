-- The alias of engine 1.
use Rattle.std.proofs.Common.{◌≡◌, refl}
use Rattle.std.specs.Prelude.{codes}
use Rattle.std.specs.Str.{chars}

pub main_text : chars (codes "main") ≡ codes "main"
unfolding chars lib.Utf8.encode
main_text = refl
