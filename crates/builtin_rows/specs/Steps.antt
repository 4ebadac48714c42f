-- Where a search is led by what a built-in predicate gives.
use Rattle.std.specs.Prelude.{◌≡◌, ℕ, zero, ◌+◌, List, [], ◌∷◌, length, map, drop, nat_le, if◌then◌else◌}
use Rattle.std.specs.List.{All}
use Rattle.pl_term.specs.Tree.{Trees}
use Rattle.pl_model.specs.History.{Proc}
use Rattle.pl_model.specs.Balls.{no_cells, no_choices}
use Rattle.pl_model.specs.Unify.{solve_all}
use Rattle.pl_model.specs.BuiltinRows.{Answer, Row, gives, table, error, plain_answer, unifying}
use Rattle.pl_model.specs.Resolution.{Limits, Node, answers, State, throwing}
use Rattle.pl_model.specs.Control.{failed, first_answer, raised, unified}
use Rattle.builtin_rows.specs.Given.{Given, answered, lined, thrown, full}

-- An answer is unified with the arguments, once its numbers and cells were taken.
abbrev pub answer_led : State → Node → Trees → Trees → ℕ → ℕ → State
answer_led s n ts us fresh made =
    unified (record s { next = s.next + fresh }) (record n { used = n.used + made }) (solve_all [] ts us)

-- An answer that makes no terms is unified with the arguments, and those after it are a choice point.
abbrev pub line_led : State → Node → Proc → Trees → Trees → List Answer → State
line_led s n p ts us [] = answer_led s n ts us zero zero
line_led s n p ts us (a ∷ xs) = answer_led (record s { choices = answers p ts (a ∷ xs) n ∷ s.choices }) n ts us zero zero

-- Of several answers those after the first one are a choice point.
abbrev pub given_led : Limits → State → Node → Proc → Trees → Given → State
given_led l s n p ts (answered [] f k) = failed s
given_led l s n p ts (answered (us ∷ []) f k) = answer_led s n ts us f k
given_led l s n p ts (answered (us ∷ (vs ∷ vss)) f k) =
    if nat_le l.choices (length s.choices)
    then raised s n no_choices p
    else answer_led (record s { choices = answers p ts (map plain_answer (vs ∷ vss)) n ∷ s.choices }) n ts us zero zero
given_led l s n p ts (lined us xs k) = first_answer l s n p ts (unifying us (drop k xs))
given_led l s n p ts (thrown b) = record s { doing = throwing b n.goals }
given_led l s n p ts (full need) = raised s n no_cells p

-- An answer that makes no terms.
pub record IsPlain (a : Answer) : Type 0 where
  pub fresh : a.fresh ≡ zero
  pub made : a.made ≡ zero

-- Several answers make no terms.
abbrev pub IsPlainRow : Row → Type 0
IsPlainRow (gives []) = Unit {0}
IsPlainRow (gives (a ∷ [])) = Unit {0}
IsPlainRow (gives (a ∷ (b ∷ bs))) = All IsPlain (a ∷ (b ∷ bs))
IsPlainRow (table xs) = All IsPlain xs
IsPlainRow (error e) = Unit {0}
