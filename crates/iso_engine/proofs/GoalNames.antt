-- The names of the first engine and of the command's goals.
use Rattle.std.proofs.Common.{◌≡◌, ◌<◌, ◌++◌, ℕ, Some, arith, codes, refl}
use Rattle.std.specs.Prelude.{◌^◌}
use Rattle.std.specs.Fmt.{decimal}
use Rattle.std.specs.Str.{IsAscii, chars}
use Rattle.std.proofs.lemmas.Fmt.{IsAscii-decimal}
use Rattle.std.proofs.lemmas.Str.{IsAscii-append, chars-IsAscii}
use Rattle.pl_model.specs.Threads.{goal_alias}
use Rattle.atom_api.specs.Fixed.{fixed, fixed_texts}
use Rattle.atom_api.specs.FixedNames.{main_name}

goal_ascii : IsAscii (codes "goal")
goal_ascii = grind arith

pub goal_text : (n : ℕ) → n < 2 ^ 64 → chars (codes "goal" ++ decimal n) ≡ goal_alias n
goal_text n low = chars-IsAscii (codes "goal" ++ decimal n) (IsAscii-append (codes "goal") (decimal n) goal_ascii (IsAscii-decimal n low))

-- That of the first engine.
pub main_is : fixed main_name ≡ Some (codes "main")
unfolding fixed_texts
main_is = refl
