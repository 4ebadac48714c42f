-- What is wrong with arguments, as rows.
use Rattle.std.proofs.Common.{◌≡◌, ℕ, ◌+◌, ◌<◌, suc, List, ◌∷◌, length, map, drop, get_or, Option, Some, None, Result, IfOk, sym, ap, subst, ◌∙◌, arith, drop-cons}
use Rattle.pl_term.specs.Tree.{Chars, Tree, Trees}
use Rattle.pl_model.specs.BuiltinRows.{error}
use Rattle.pl_model.specs.Checks.{first_error}
use Rattle.pl_model.specs.History.{proc}
use Rattle.atom_api.specs.Fixed.{fixed}
use Rattle.atom_api.specs.Names.{Names, FixedStand}
use Rattle.term_store.specs.Contents.{Contents}
use Rattle.builtin_rows.specs.declared.row.Row.{Row}
use Rattle.atom_parts.specs.declared.misfits.Check.{Check}
use Rattle.atom_parts.specs.declared.misfits.Misfit.{Misfit}
use Rattle.builtin_atom.specs.Answering.{IsRowOf}
use Rattle.atom_parts.specs.Misfits.{IsMisfitHeld, error_by, error_with}

module _ (m : Names) (s : Contents) (cs : List Check) (i : ℕ) (d : Check) (lt : i < length cs) where
  abbrev rest : ℕ → Option Tree
  rest j = first_error (map (error_by m s) (drop j cs))

  here : (e : Option Tree) → e ≡ error_by m s (get_or cs i d) → rest i ≡ first_error (e ∷ map (error_by m s) (drop (suc i) cs))
  here e is =
      ap (λ (l : List Check). first_error (map (error_by m s) l)) (drop-cons cs i d lt)
      ∙ ap (λ o. first_error (o ∷ map (error_by m s) (drop (suc i) cs))) (sym is)

  pub found_here : (f : Misfit) → Some (error_with m s f) ≡ error_by m s (get_or cs i d) → rest i ≡ Some (error_with m s f)
  found_here f is = here (Some (error_with m s f)) is

  pub passed_here : None ≡ error_by m s (get_or cs i d) → rest i ≡ rest (i + 1)
  passed_here is = let e : suc i ≡ i + 1 = omega arith in here None is ∙ ap rest e

-- The row of what is wrong.
abbrev pub MisfitRow : Contents → ℕ → ℕ → Contents → Misfit → Row → Type 0
MisfitRow s name arity t f r =
    (m : Names) (p : Chars) (ts : Trees) → FixedStand m → IsMisfitHeld m s f → fixed name ≡ Some p → IsRowOf s (proc p arity) ts (error (error_with m s f)) m t r

pub misfit_as : {E : Type 0} (r : Result Row E) (s : Contents) (name arity : ℕ) (t : Contents) (f g : Misfit) → f ≡ g
    → IfOk r (MisfitRow s name arity t f) → IfOk r (MisfitRow s name arity t g)
misfit_as r s name arity t f g e h = subst (λ (x : Misfit). IfOk r (MisfitRow s name arity t x)) e h
