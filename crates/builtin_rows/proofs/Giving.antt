-- What a row gives, clause by clause.
use Rattle.std.proofs.Common.{◌≡◌, ℕ, zero, List, [], ◌∷◌, refl}
use Rattle.pl_term.specs.Tree.{Tree, Trees}
use Rattle.pl_model.specs.History.{Proc}
use Rattle.pl_model.specs.Balls.{error_ball}
use Rattle.pl_model.specs.BuiltinRows.{Answer, gives, table, error, plain_answer, one_answer}
use Rattle.builtin_rows.specs.Given.{answered, lined, thrown, given, with_room}

module _ (p : Proc) (ts : Trees) (next used budget : ℕ) where
  pub gives_none : given p ts next used budget (gives []) ≡ answered [] zero zero
  unfolding given
  gives_none = refl

  pub gives_one : (a : Answer) → given p ts next used budget (gives (a ∷ [])) ≡ with_room p next used budget a
  unfolding given
  gives_one a = refl

  pub gives_plain : (us : Trees) → given p ts next used budget (one_answer us) ≡ with_room p next used budget (plain_answer us)
  unfolding given
  gives_plain us = refl

  pub gives_table : (xs : List Answer) → given p ts next used budget (table xs) ≡ lined ts xs zero
  unfolding given
  gives_table xs = refl

  pub gives_error : (e : Tree) → given p ts next used budget (error e) ≡ thrown (error_ball e p)
  unfolding given
  gives_error e = refl
