-- Variants of a term (ISO 7.1.6.1).
use Rattle.std.specs.Prelude.{◌≡◌, ℕ, IsTrue}
use Rattle.pl_term.specs.Tree.{Tree}
use Rattle.pl_term.specs.Variables.{has, rename_by}

-- There is a bijection from the variables of the one term to those of the other that makes the one the other. As
-- `to` makes `t` into `u`, each variable of `u` is what some variable of `t` becomes.
pub record IsVariant (t u : Tree) : Type 0 where
  pub to : ℕ → ℕ
  pub back : ℕ → ℕ
  pub becomes : rename_by to t ≡ u
  pub one_to_one : (x : ℕ) → IsTrue (has x t) → back (to x) ≡ x
