-- The keys of first arguments keep apart exactly the goals and clauses whose first arguments cannot be equal by their
-- kinds, constants, names and arities.
use Rattle.std.specs.Prelude.{◌≡◌, ℕ, suc, false, not, ◌&&◌, ◌==◌, refl}
use Rattle.std.proofs.Common.{ap, ap₂, ◌∙◌, arith, eq-eqb}
use borrow.Author.Tests.{eqb-true}
use Rattle.std.specs.Bool.{one_answer}
use Rattle.std.specs.Ordering.{is_eq, nat_cmp, int_cmp, ordering_then}
use Rattle.std.specs.Cmp.{unsigned_tied}
use Rattle.std.proofs.lemmas.Map.Text.{is_eq-slice_cmp}
use Rattle.std.specs.declared.cmp.Ordering.{Ordering}
use Rattle.std.specs.declared.cmp.Ordering.TheVariants.{Less, Equal, Greater}
use Rattle.pl_term.specs.Tree.{Tree, var, int, atom, comp, count}
use Rattle.pl_term.specs.Order.{text_order}
use Rattle.pl_model.specs.Predicates.{differ_at_first, is_excluded}
use Rattle.pl_model.specs.FirstArgumentOrder.{order_of}
use Rattle.pl_model.specs.FirstArguments.{are_apart, argument_key, head_key, is_any}

then_equal : (r : Ordering) → is_eq (ordering_then r Equal) ≡ is_eq r
then_equal Less = refl
then_equal Equal = refl
then_equal Greater = refl

then_both : (r s : Ordering) → is_eq (ordering_then r s) ≡ (is_eq r && is_eq s)
then_both Less s = refl
then_both Equal s = refl
then_both Greater s = refl

eqb-suc : (a b : ℕ) → (suc a == suc b) ≡ (a == b)
eqb-suc a b =
    one_answer
    (suc a == suc b)
    (a == b)
    (λ e. (let h : suc a ≡ suc b = eqb-true (suc a) (suc b) e in omega arith), λ h. eq-eqb (suc a) (suc b) (ap suc h))
    (eqb-true a b, eq-eqb a b)

pub arguments_tell : (t u : Tree) → are_apart order_of is_any (argument_key t) (argument_key u) ≡ differ_at_first t u
arguments_tell (var x) u = refl
arguments_tell (int i) (var y) = refl
arguments_tell (int i) (int j) = ap not (then_equal (int_cmp i j))
arguments_tell (int i) (atom b) = refl
arguments_tell (int i) (comp g u us) = refl
arguments_tell (atom a) (var y) = refl
arguments_tell (atom a) (int j) = refl
arguments_tell (atom a) (atom b) = ap not (then_equal (text_order a b) ∙ is_eq-slice_cmp a b)
arguments_tell (atom a) (comp g u us) = refl
arguments_tell (comp f t ts) (var y) = refl
arguments_tell (comp f t ts) (int j) = refl
arguments_tell (comp f t ts) (atom b) = refl
arguments_tell (comp f t ts) (comp g u us) = ap not (then_both (text_order f g) (nat_cmp (suc (count ts)) (suc (count us))) ∙ ap₂ ◌&&◌ (is_eq-slice_cmp f g) (unsigned_tied (suc (count ts)) (suc (count us)) ∙ eqb-suc (count ts) (count us)))

any_right : (t : Tree) → are_apart order_of is_any (argument_key t) (head_key (var 0)) ≡ false
any_right (var x) = refl
any_right (int i) = refl
any_right (atom a) = refl
any_right (comp f t ts) = refl

pub heads_tell : (h k : Tree) → are_apart order_of is_any (head_key h) (head_key k) ≡ is_excluded h k
heads_tell (var x) k = refl
heads_tell (int i) k = refl
heads_tell (atom a) k = refl
heads_tell (comp f t ts) (var y) = any_right t
heads_tell (comp f t ts) (int j) = any_right t
heads_tell (comp f t ts) (atom b) = any_right t
heads_tell (comp f t ts) (comp g u us) = arguments_tell t u
