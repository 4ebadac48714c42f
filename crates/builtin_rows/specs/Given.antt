-- What a built-in predicate gives for its arguments, before it is unified with them.
use Rattle.std.specs.Prelude.{ℕ, zero, ◌+◌, ◌^◌, List, [], ◌∷◌, ◌++◌, map, drop, nat_lt, nat_le, if◌then◌else◌}
use Rattle.pl_term.specs.Tree.{Chars, Tree, Trees}
use Rattle.pl_model.specs.History.{Proc}
use Rattle.pl_model.specs.Balls.{error_ball, no_inferences}
use Rattle.pl_model.specs.BuiltinRows.{Answer, Row, gives, table, error, unifying}
use Rattle.world_api.specs.Asked.{texts_in_all}

pub data Given : Type 0 where
  -- the terms of each answer, with so many new variables, and so many cells for the terms that were made
  answered : List Trees → ℕ → ℕ → Given
  -- for these arguments the lines of a table, which make no terms: of those from this one on, counted from 0, the ones that
  -- unify with the arguments are the answers
  lined : Trees → List Answer → ℕ → Given
  -- this ball is thrown
  thrown : Tree → Given
  -- so many cells do not fit
  full : ℕ → Given

abbrev pub terms_of : List Answer → List Trees
terms_of xs = map (λ (a : Answer). a.terms) xs

-- An answer takes numbers for its variables, and cells, where there is room for both.
abbrev pub with_room : Proc → ℕ → ℕ → ℕ → Answer → Given
with_room p next used budget a =
    if nat_lt (next + a.fresh) (2 ^ 64)
    then (if nat_le (used + a.made) budget then answered (a.terms ∷ []) a.fresh a.made else full a.made)
    else thrown (error_ball no_inferences p)

-- What the predicate `p` gives for the arguments `ts` by its row, where `next` is the next number of a variable and `used`
-- cells of the budget are used. Several answers make no terms.
unfoldable pub given : Proc → Trees → ℕ → ℕ → ℕ → Row → Given
given p ts next used budget (gives []) = answered [] zero zero
given p ts next used budget (gives (a ∷ [])) = with_room p next used budget a
given p ts next used budget (gives (a ∷ (b ∷ bs))) = answered (terms_of (a ∷ (b ∷ bs))) zero zero
given p ts next used budget (table xs) = lined ts xs zero
given p ts next used budget (error e) = thrown (error_ball e p)

-- The names that stand in the answers.
abbrev pub texts_of_all : List Trees → List Chars
texts_of_all [] = []
texts_of_all (ts ∷ tss) = texts_in_all ts ++ texts_of_all tss

abbrev pub given_texts : Given → List Chars
given_texts (answered xs f k) = texts_of_all xs
given_texts (lined ts xs k) = texts_of_all (terms_of (unifying ts (drop k xs)))
given_texts (thrown b) = []
given_texts (full n) = []
