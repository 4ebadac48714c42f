-- What the literal names in the code spell.
use Rattle.std.proofs.Common.{◌≡◌, [], ◌∷◌, refl}
use Rattle.std.specs.Prelude.{codes}
use Rattle.std.specs.Str.{chars}

pub chars-empty : chars [] ≡ []
unfolding chars
chars-empty = refl

pub chars-call : chars (99 ∷ 97 ∷ 108 ∷ 108 ∷ []) ≡ codes "call"
unfolding chars
chars-call = refl

pub chars-consult : chars (99 ∷ 111 ∷ 110 ∷ 115 ∷ 117 ∷ 108 ∷ 116 ∷ []) ≡ codes "consult"
unfolding chars
chars-consult = refl

pub chars-true : chars (116 ∷ 114 ∷ 117 ∷ 101 ∷ []) ≡ codes "true"
unfolding chars
chars-true = refl

pub chars-comma : chars (44 ∷ []) ≡ codes ","
unfolding chars
chars-comma = refl

pub chars-neck : chars (58 ∷ 45 ∷ []) ≡ codes ":-"
unfolding chars
chars-neck = refl

pub chars-slash : chars (47 ∷ []) ≡ codes "/"
unfolding chars
chars-slash = refl

pub chars-error : chars (101 ∷ 114 ∷ 114 ∷ 111 ∷ 114 ∷ []) ≡ codes "error"
unfolding chars
chars-error = refl

pub chars-callable : chars (99 ∷ 97 ∷ 108 ∷ 108 ∷ 97 ∷ 98 ∷ 108 ∷ 101 ∷ []) ≡ codes "callable"
unfolding chars
chars-callable = refl

pub chars-type_error : chars (116 ∷ 121 ∷ 112 ∷ 101 ∷ 95 ∷ 101 ∷ 114 ∷ 114 ∷ 111 ∷ 114 ∷ []) ≡ codes "type_error"
unfolding chars
chars-type_error = refl

pub chars-instantiation_error : chars (105 ∷ 110 ∷ 115 ∷ 116 ∷ 97 ∷ 110 ∷ 116 ∷ 105 ∷ 97 ∷ 116 ∷ 105 ∷ 111 ∷ 110 ∷ 95 ∷ 101 ∷ 114 ∷ 114 ∷ 111 ∷ 114 ∷ []) ≡ codes "instantiation_error"
unfolding chars
chars-instantiation_error = refl

pub chars-query : chars (63 ∷ 45 ∷ []) ≡ codes "?-"
unfolding chars
chars-query = refl

pub chars-then : chars (45 ∷ 62 ∷ []) ≡ codes "->"
unfolding chars
chars-then = refl

pub chars-else : chars (59 ∷ []) ≡ codes ";"
unfolding chars
chars-else = refl

pub chars-initialization : chars (105 ∷ 110 ∷ 105 ∷ 116 ∷ 105 ∷ 97 ∷ 108 ∷ 105 ∷ 122 ∷ 97 ∷ 116 ∷ 105 ∷ 111 ∷ 110 ∷ []) ≡ codes "initialization"
unfolding chars
chars-initialization = refl

pub ruleset words = (chars-empty, chars-call, chars-consult, chars-true, chars-comma, chars-neck, chars-slash, chars-error, chars-callable, chars-type_error, chars-instantiation_error, chars-query, chars-then, chars-else, chars-initialization)
