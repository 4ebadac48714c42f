-- What the literal names in the code spell.
use Rattle.std.proofs.Common.{◌≡◌, [], ◌∷◌, refl}
use Rattle.std.specs.Prelude.{codes}
use Rattle.std.specs.Str.{chars}

pub chars-neck : chars (58 ∷ 45 ∷ []) ≡ codes ":-"
unfolding chars
chars-neck = refl

pub chars-query : chars (63 ∷ 45 ∷ []) ≡ codes "?-"
unfolding chars
chars-query = refl

pub chars-op : chars (111 ∷ 112 ∷ []) ≡ codes "op"
unfolding chars
chars-op = refl

pub chars-flag : chars (115 ∷ 101 ∷ 116 ∷ 95 ∷ 112 ∷ 114 ∷ 111 ∷ 108 ∷ 111 ∷ 103 ∷ 95 ∷ 102 ∷ 108 ∷ 97 ∷ 103 ∷ []) ≡ codes "set_prolog_flag"
unfolding chars
chars-flag = refl

pub chars-quotes : chars (100 ∷ 111 ∷ 117 ∷ 98 ∷ 108 ∷ 101 ∷ 95 ∷ 113 ∷ 117 ∷ 111 ∷ 116 ∷ 101 ∷ 115 ∷ []) ≡ codes "double_quotes"
unfolding chars
chars-quotes = refl

pub chars-dot : chars (46 ∷ []) ≡ codes "."
unfolding chars
chars-dot = refl

pub chars-empty : chars (91 ∷ 93 ∷ []) ≡ codes "[]"
unfolding chars
chars-empty = refl

pub ruleset words = (chars-neck, chars-query, chars-op, chars-flag, chars-quotes, chars-dot, chars-empty)
