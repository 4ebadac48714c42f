-- What comes of a term that is to be written as a character.
use Rattle.std.specs.Prelude.{◌≡◌, ◌++◌, ℕ, List, Some, None, codes, encode_utf8_all}
use Rattle.pl_term.specs.Tree.{Tree}
use Rattle.pl_model.specs.Balls.{instantiation_error, type_error}
use Rattle.pl_model.specs.Checks.{text_of_atom}
use Rattle.pl_model.specs.AtomBuiltins.{character_error}
use Rattle.world_builtins.specs.declared.characters.Character.{Character}
use Rattle.world_builtins.specs.declared.characters.Character.TheVariants.{Put, Unbound, Refused}

-- The character was written; or the term is a variable, or no character, and nothing was.
abbrev pub IsPut : Tree → Character → List ℕ → List ℕ → Type 0
IsPut t Put old new = (character_error t ≡ None) × (new ≡ old ++ encode_utf8_all (text_of_atom t))
IsPut t Unbound old new = (character_error t ≡ Some instantiation_error) × (new ≡ old)
IsPut t Refused old new = (character_error t ≡ Some (type_error (codes "character") t)) × (new ≡ old)
