-- The errors of evaluation.
use Rattle.std.proofs.Common.{◌≡◌, ℕ, zero, suc, ℤ, pos, [], ◌∷◌, map, Some, IsSome, codes, refl, sym, ap, ap₂, subst, ◌∙◌}
use Rattle.std.specs.List.{All}
use Rattle.std.proofs.lemmas.List.Elements.{All-cons, All-nil}
use Rattle.pl_term.specs.Tree.{Tree, Trees, atom, int, comp, none, more, compound}
use Rattle.pl_model.specs.TermBuiltins.{value_error}
use Rattle.atom_api.specs.Fixed.{fixed, fixed_texts}
use Rattle.atom_api.specs.Names.{Names, FixedStand}
use Rattle.term_store.specs.declared.words.Place.{Place}
use Rattle.term_store.specs.Heap.{atom_name}
use Rattle.term_store.specs.Contents.{Contents, term_at}
use Rattle.world_builtins.specs.Naming.{IsHeldAt, atoms_in}
use Rattle.world_builtins.specs.Spelling.{reads, spelled, text_of}
use Rattle.builtin_rows.specs.Given.{thrown}
use Rattle.builtin_rows.specs.declared.row.Row.{Row}
use Rattle.builtin_rows.specs.declared.row.Row.TheVariants.{Fails, Holds, Answer, Line, Ball, CellsFull, NeedsAtoms, Retry, Worn}
use Rattle.builtin_rows.specs.Rows.{IsRow, Makes, row_refusals}
use Rattle.builtin_rows.proofs.Balls.{fixed_held, makes_again, text_is}
use Rattle.builtin_arithmetic.specs.declared.values.ValueFault.TheVariants.{NoEvaluable}
use Rattle.builtin_arithmetic.specs.Values.{fault_of}

-- The fixed atoms

pub instantiation_is : fixed 106 ≡ Some (codes "instantiation_error")
unfolding fixed_texts
instantiation_is = refl

pub type_is : fixed 177 ≡ Some (codes "type_error")
unfolding fixed_texts
type_is = refl

pub evaluation_is : fixed 82 ≡ Some (codes "evaluation_error")
unfolding fixed_texts
evaluation_is = refl

pub evaluable_is : fixed 81 ≡ Some (codes "evaluable")
unfolding fixed_texts
evaluable_is = refl

pub float_is : fixed 93 ≡ Some (codes "float")
unfolding fixed_texts
float_is = refl

pub zero_divisor_is : fixed 191 ≡ Some (codes "zero_divisor")
unfolding fixed_texts
zero_divisor_is = refl

pub int_overflow_is : fixed 107 ≡ Some (codes "int_overflow")
unfolding fixed_texts
int_overflow_is = refl

pub undefined_is : fixed 178 ≡ Some (codes "undefined")
unfolding fixed_texts
undefined_is = refl

pub is_is : fixed 111 ≡ Some (codes "is")
unfolding fixed_texts
is_is = refl

pub numbers_equal_is : fixed 18 ≡ Some (codes "=:=")
unfolding fixed_texts
numbers_equal_is = refl

pub numbers_differ_is : fixed 21 ≡ Some (codes "=\\=")
unfolding fixed_texts
numbers_differ_is = refl

pub less_is : fixed 14 ≡ Some (codes "<")
unfolding fixed_texts
less_is = refl

pub less_or_equal_is : fixed 19 ≡ Some (codes "=<")
unfolding fixed_texts
less_or_equal_is = refl

pub greater_is : fixed 22 ≡ Some (codes ">")
unfolding fixed_texts
greater_is = refl

pub greater_or_equal_is : fixed 23 ≡ Some (codes ">=")
unfolding fixed_texts
greater_or_equal_is = refl

slash_is : fixed 9 ≡ Some (codes "/")
unfolding fixed_texts
slash_is = refl

-- The ball was made in a store in which terms had been made.
pub row_since : (s t u : Contents) → Makes s zero zero zero t → (next : ℕ) (ts : Trees) (b : Tree) (m : Names) (r : Row) → row_refusals r ≡ []
    → IsRow t next ts (thrown b) m u r → IsRow s next ts (thrown b) m u r
row_since s t u made next ts b m Fails e h = absurd h
row_since s t u made next ts b m Holds e h = absurd h
row_since s t u made next ts b m (Answer ps fresh) e h = absurd h
row_since s t u made next ts b m (Line ps following) e h = absurd h
row_since s t u made next ts b m (Ball w) e h =
    let g = h.1.0 in
    (h.0, (makes_again next s t u made (record { others = g.others; adds = g.adds; numbers = g.numbers; used = g.used; budget = g.budget }), h.1.1))
row_since s t u made next ts b m (CellsFull n k) e h = absurd h
row_since s t u made next ts b m (NeedsAtoms p) e h = cc
row_since s t u made next ts b m (Retry c) e h = cc
row_since s t u made next ts b m (Worn w) e h = cc

pub number_held : (m : Names) (s : Contents) (w : Place) (i : ℤ) → term_at s w ≡ int i → IsHeldAt m s w
number_held m s w i e = let P : ℕ → Type 0 = λ b. IsSome (m b) in subst (λ x. All P (atoms_in x)) (sym e) (All-nil P)

-- The indicator of what is no evaluable

module _ (m : Names) (stands : FixedStand m) (s t : Contents) (w p q : Place) (a k : ℕ) (at_p : term_at s p ≡ atom (atom_name a)) (at_q : term_at s q ≡ int (pos k))
    (means : term_at t w ≡ compound (atom_name 9) (map (term_at s) (p ∷ (q ∷ [])))) where
  as_tree : term_at t w ≡ comp (atom_name 9) (atom (atom_name a)) (more (int (pos k)) none)
  as_tree = means ∙ ap₂ (λ x y. comp (atom_name 9) x (more y none)) at_p at_q

  by_count : (n : ℕ) → (let g = text_of m in
      comp (codes "type_error") (atom (codes "evaluable")) (more (comp (codes "/") (atom (g (atom_name a))) (more (int (pos n)) none)) none)
      ≡ value_error (fault_of m (NoEvaluable a n)))
  by_count zero = refl
  by_count (suc n) = refl

  pub indicator_reads : comp (codes "type_error") (atom (codes "evaluable")) (more (reads m t w) none) ≡ value_error (fault_of m (NoEvaluable a k))
  indicator_reads =
      let g = text_of m in
      ap (λ x. comp (codes "type_error") (atom (codes "evaluable")) (more (spelled g x) none)) as_tree
      ∙ ap (λ x. comp (codes "type_error") (atom (codes "evaluable")) (more (comp x (atom (g (atom_name a))) (more (int (pos k)) none)) none))
      (text_is m stands 9 (codes "/") slash_is)
      ∙ by_count k

  pub indicator_held : IsSome (m a) → IsHeldAt m t w
  indicator_held held =
      let P : ℕ → Type 0 = λ b. IsSome (m b) in
      subst (λ x. All P (atoms_in x)) (sym as_tree) (All-cons P 9 (a ∷ []) (fixed_held m stands 9 (codes "/") slash_is) (All-cons P a [] held (All-nil P)))
