-- Texts of one character.
use Rattle.std.proofs.Common.{◌≡◌, ◌≢◌, ℕ, true, false, not, List, [], ◌∷◌, ◌++◌, length, codes, refl, ap, arith}
use Rattle.std.specs.Prelude.{encode_utf8_all}
use Rattle.pl_term.specs.Tree.{Chars, atom}
use Rattle.pl_model.specs.Balls.{type_error}
use Rattle.pl_model.specs.Checks.{first_error, error_if}
use Rattle.pl_model.specs.AtomBuiltins.{is_character}
use Rattle.world_builtins.specs.declared.characters.Character.TheVariants.{Put, Refused}
use Rattle.world_builtins.specs.Characters.{IsPut}

is_one : (t : Chars) → length t ≡ 1 → is_character (atom t) ≡ true
is_one [] e = absurd (omega arith)
is_one (c ∷ []) e = refl
is_one (c ∷ (d ∷ cs)) e = absurd (omega arith)

is_none : (t : Chars) → length t ≢ 1 → is_character (atom t) ≡ false
is_none [] e = refl
is_none (c ∷ []) e = absurd (e refl)
is_none (c ∷ (d ∷ cs)) e = refl

pub put_one : (t : Chars) (old new : List ℕ) → length t ≡ 1 → new ≡ old ++ encode_utf8_all t → IsPut (atom t) Put old new
put_one t old new e is = (ap (λ b. first_error (error_if (not b) (type_error (codes "character") (atom t)) ∷ [])) (is_one t e), is)

pub refused_one : (t : Chars) (old : List ℕ) → length t ≢ 1 → IsPut (atom t) Refused old old
refused_one t old e = (ap (λ b. first_error (error_if (not b) (type_error (codes "character") (atom t)) ∷ [])) (is_none t e), refl)
