-- What is told of stored terms by the numbers of their atoms is what is so of the terms for which they stand.
use Rattle.std.specs.Prelude.{◌≡◌, ◌≢◌, ℕ, suc, ◌+◌, ◌-◌, Bool, true, false, not, ◌&&◌, ◌==◌, refl, bytes_eq, codes, get_or, length}
use Rattle.std.proofs.Common.{sym, ap, ap₂, ◌∙◌, arith, cond}
use Rattle.std.proofs.lemmas.Bool.{false≢true}
use Rattle.std.proofs.lemmas.Bool.Decides.{Decides-eqb}
use Rattle.std.proofs.lemmas.Slice.Eq.{bytes_eq-Decides}
use Rattle.std.specs.Ordering.{is_eq, nat_cmp, int_cmp, ordering_then}
use Rattle.std.specs.Cmp.{unsigned_tied}
use Rattle.std.specs.declared.cmp.Ordering.{Ordering}
use Rattle.std.specs.declared.cmp.Ordering.TheVariants.{Less, Equal, Greater}
use Rattle.pl_term.specs.declared.node.Node.TheVariants.{Var}
use Rattle.pl_term.specs.Tree.{Chars, Tree, Trees, var, int, atom, comp, none, more, count}
use Rattle.pl_term.specs.Nodes.{nodes}
use Rattle.pl_term.specs.Variables.{distinct}
use Rattle.pl_term.specs.Cells.{cells, compound_cells, compound_cells_all}
use Rattle.pl_model.specs.FirstArguments.{are_apart, head_of, unify_apart}
use Rattle.pl_model.specs.KeptCells.{kept_cells}
use Rattle.pl_model.specs.KeptNodes.{is_rule_node}
use Rattle.pl_model.specs.Predicates.{differ_at_first, is_excluded}
use Rattle.pl_model.proofs.KeptSizes.{rule_cells, fact_cells}
use Rattle.pl_model.proofs.KeptKeys.{not_two}
use Rattle.term_store.specs.Heap.{atom_name}
use Rattle.term_store.specs.NumberedNames.{number_of, spelled, spelled_all, neck, with_neck, text_by, term_by, unify_by_number, is_rule_term, clause_size}
use Rattle.term_store.specs.ArgumentKeys.{key_order, is_any, argument_key, head_in, head_key, clause_key}
use Rattle.term_store.specs.NameUnification.{occurrences-spelled, count-spelled, unify_apart-alike}

same_bool : (b c : Bool) → (b ≡ true → c ≡ true) → (c ≡ true → b ≡ true) → b ≡ c
same_bool true c f g = sym (f refl)
same_bool false true f g = absurd (false≢true (g refl))
same_bool false false f g = refl

is_text : (f h : Chars) → bytes_eq f h ≡ true → f ≡ h
is_text f h e = (bytes_eq-Decides f h).0 e

-- Different atoms have different texts, and only the neck has its own.
module _ (text : ℕ → Chars) (apart : (x y : ℕ) → text x ≡ text y → x ≡ y) where
  neck_text : (a : ℕ) → (a == neck) ≡ true → with_neck text a ≡ codes ":-"
  neck_text a e = ap (λ b. cond b (codes ":-") (cond (bytes_eq (text a) (codes ":-")) (text neck) (text a))) e

  other_text : (a : ℕ) → (a == neck) ≡ false → with_neck text a ≡ cond (bytes_eq (text a) (codes ":-")) (text neck) (text a)
  other_text a e = ap (λ b. cond b (codes ":-") (cond (bytes_eq (text a) (codes ":-")) (text neck) (text a))) e

  no_neck : (a : ℕ) → (a == neck) ≡ false → with_neck text a ≢ codes ":-"
  no_neck a e p = go (bytes_eq (text a) (codes ":-")) refl (sym (other_text a e) ∙ p)
    where
      go : (b : Bool) → bytes_eq (text a) (codes ":-") ≡ b → cond b (text neck) (text a) ≡ codes ":-" → ⊥
      go true q same =
          let i : a ≡ neck = apart a neck (is_text (text a) (codes ":-") q ∙ sym same) in
          false≢true (sym e ∙ (Decides-eqb a neck).1 i)
      go false q same = false≢true (sym q ∙ (bytes_eq-Decides (text a) (codes ":-")).1 same)

  two_others : (a b : ℕ) → (a == neck) ≡ false → (b == neck) ≡ false → with_neck text a ≡ with_neck text b → a ≡ b
  two_others a b d e p =
      go (bytes_eq (text a) (codes ":-")) (bytes_eq (text b) (codes ":-")) refl refl (sym (other_text a d) ∙ p ∙ other_text b e)
    where
      go : (q r : Bool) → bytes_eq (text a) (codes ":-") ≡ q → bytes_eq (text b) (codes ":-") ≡ r
          → cond q (text neck) (text a) ≡ cond r (text neck) (text b) → a ≡ b
      go true true q r same = apart a b (is_text (text a) (codes ":-") q ∙ sym (is_text (text b) (codes ":-") r))
      go true false q r same = absurd (false≢true (sym e ∙ (Decides-eqb b neck).1 (sym (apart neck b same))))
      go false true q r same = absurd (false≢true (sym d ∙ (Decides-eqb a neck).1 (apart a neck same)))
      go false false q r same = apart a b same

  one_number : (a b : ℕ) → with_neck text a ≡ with_neck text b → a ≡ b
  one_number a b p = go (a == neck) (b == neck) refl refl
    where
      go : (d e : Bool) → (a == neck) ≡ d → (b == neck) ≡ e → a ≡ b
      go true true d e = (Decides-eqb a neck).0 d ∙ sym ((Decides-eqb b neck).0 e)
      go true false d e = absurd (no_neck b e (sym p ∙ neck_text a d))
      go false true d e = absurd (no_neck a d (p ∙ neck_text b e))
      go false false d e = two_others a b d e p

  pub texts_alike : (f h : Chars) → bytes_eq (text_by text f) (text_by text h) ≡ (number_of f == number_of h)
  texts_alike f h =
      same_bool (bytes_eq (text_by text f) (text_by text h)) (number_of f == number_of h)
      (λ e. (Decides-eqb (number_of f) (number_of h)).1 (one_number (number_of f) (number_of h) (is_text (text_by text f) (text_by text h) e)))
      (λ e. (bytes_eq-Decides (text_by text f) (text_by text h)).1 (ap (with_neck text) ((Decides-eqb (number_of f) (number_of h)).0 e)))

  pub is_neck : (f : Chars) → bytes_eq (text_by text f) (codes ":-") ≡ (number_of f == neck)
  is_neck f =
      same_bool (bytes_eq (text_by text f) (codes ":-")) (number_of f == neck)
      (λ e. rule (number_of f == neck) refl (is_text (text_by text f) (codes ":-") e))
      (λ e. (bytes_eq-Decides (text_by text f) (codes ":-")).1 (neck_text (number_of f) e))
    where
      rule : (b : Bool) → (number_of f == neck) ≡ b → text_by text f ≡ codes ":-" → b ≡ true
      rule true d p = refl
      rule false d p = absurd (no_neck (number_of f) d p)

names_alike : (f h : Chars) → bytes_eq (atom_name (number_of f)) (atom_name (number_of h)) ≡ (number_of f == number_of h)
names_alike f h =
    same_bool (bytes_eq (atom_name (number_of f)) (atom_name (number_of h))) (number_of f == number_of h)
    (λ e. (Decides-eqb (number_of f) (number_of h)).1 (ap number_of (is_text (atom_name (number_of f)) (atom_name (number_of h)) e)))
    (λ e. (bytes_eq-Decides (atom_name (number_of f)) (atom_name (number_of h))).1 (ap atom_name ((Decides-eqb (number_of f) (number_of h)).0 e)))

pub terms_are_told : (text : ℕ → Chars) → ((x y : ℕ) → text x ≡ text y → x ≡ y)
    → (t u : Tree) → unify_by_number t u ≡ unify_apart (term_by text t) (term_by text u)
terms_are_told text apart t u =
    unify_apart-alike (λ f h. number_of f == number_of h) (λ f. atom_name (number_of f)) (text_by text) names_alike (texts_alike text apart) t u

-- Keys

then_equal : (r : Ordering) → is_eq (ordering_then r Equal) ≡ is_eq r
then_equal Less = refl
then_equal Equal = refl
then_equal Greater = refl

then_both : (r s : Ordering) → is_eq (ordering_then r s) ≡ (is_eq r && is_eq s)
then_both Less s = refl
then_both Equal s = refl
then_both Greater s = refl

eqb-suc : (a b : ℕ) → (suc a == suc b) ≡ (a == b)
eqb-suc a b =
    same_bool (suc a == suc b) (a == b)
    (λ e. (Decides-eqb a b).1 (let h : suc a ≡ suc b = (Decides-eqb (suc a) (suc b)).0 e in omega arith))
    (λ e. (Decides-eqb (suc a) (suc b)).1 (ap suc ((Decides-eqb a b).0 e)))

module _ (text : ℕ → Chars) (apart : (x y : ℕ) → text x ≡ text y → x ≡ y) where
  arguments_are_told : (t u : Tree) → are_apart key_order is_any (argument_key t) (argument_key u) ≡ differ_at_first (term_by text t) (term_by text u)
  arguments_are_told (var x) u = refl
  arguments_are_told (int i) (var y) = refl
  arguments_are_told (int i) (int j) = ap not (then_equal (int_cmp i j))
  arguments_are_told (int i) (atom b) = refl
  arguments_are_told (int i) (comp g u us) = refl
  arguments_are_told (atom a) (var y) = refl
  arguments_are_told (atom a) (int j) = refl
  arguments_are_told (atom a) (atom b) =
      ap not (then_equal (nat_cmp (number_of a) (number_of b)) ∙ unsigned_tied (number_of a) (number_of b) ∙ sym (texts_alike text apart a b))
  arguments_are_told (atom a) (comp g u us) = refl
  arguments_are_told (comp f t ts) (var y) = refl
  arguments_are_told (comp f t ts) (int j) = refl
  arguments_are_told (comp f t ts) (atom b) = refl
  arguments_are_told (comp f t ts) (comp g u us) =
      ap not
      (then_both (nat_cmp (number_of f) (number_of g)) (nat_cmp (suc (count ts)) (suc (count us)))
      ∙ ap₂ ◌&&◌ (unsigned_tied (number_of f) (number_of g) ∙ sym (texts_alike text apart f g))
      (unsigned_tied (suc (count ts)) (suc (count us)) ∙ eqb-suc (count ts) (count us)
      ∙ sym (ap₂ ◌==◌ (count-spelled (text_by text) ts) (count-spelled (text_by text) us))))

  any_right : (t : Tree) → are_apart key_order is_any (argument_key t) (head_key (var 0)) ≡ false
  any_right (var x) = refl
  any_right (int i) = refl
  any_right (atom a) = refl
  any_right (comp f t ts) = refl

  heads_are_told : (h k : Tree) → are_apart key_order is_any (head_key h) (head_key k) ≡ is_excluded (term_by text h) (term_by text k)
  heads_are_told (var x) k = refl
  heads_are_told (int i) k = refl
  heads_are_told (atom a) k = refl
  heads_are_told (comp f t ts) (var y) = any_right t
  heads_are_told (comp f t ts) (int j) = any_right t
  heads_are_told (comp f t ts) (atom b) = any_right t
  heads_are_told (comp f t ts) (comp g u us) = arguments_are_told t u

  pub head_is : (t : Tree) → term_by text (head_in t) ≡ head_of (term_by text t)
  head_is (var x) = refl
  head_is (int i) = refl
  head_is (atom a) = refl
  head_is (comp f t none) = refl
  head_is (comp f t (more u none)) = go (number_of f == neck) (bytes_eq (text_by text f) (codes ":-")) (is_neck text apart f)
    where
      go : (b c : Bool) → c ≡ b
          → term_by text (cond b t (comp f t (more u none)))
          ≡ cond c (term_by text t) (term_by text (comp f t (more u none)))
      go true c e = sym (ap (λ d. cond d (term_by text t) (term_by text (comp f t (more u none)))) e)
      go false c e = sym (ap (λ d. cond d (term_by text t) (term_by text (comp f t (more u none)))) e)
  head_is (comp f t (more u (more v ts))) = refl

  pub keys_are_told : (t u : Tree)
      → are_apart key_order is_any (clause_key t) (clause_key u) ≡ is_excluded (head_of (term_by text t)) (head_of (term_by text u))
  keys_are_told t u = heads_are_told (head_in t) (head_in u) ∙ ap₂ is_excluded (head_is t) (head_is u)

-- Cells

mutual
  compound_cells-spelled : (g : Chars → Chars) (t : Tree) → compound_cells (spelled g t) ≡ compound_cells t
  compound_cells-spelled g (var x) = refl
  compound_cells-spelled g (int i) = refl
  compound_cells-spelled g (atom a) = refl
  compound_cells-spelled g (comp f t ts) =
      ap₂ (λ n k. 2 + n + k) (count-spelled g ts) (ap₂ ◌+◌ (compound_cells-spelled g t) (compound_cells_all-spelled g ts))

  compound_cells_all-spelled : (g : Chars → Chars) (ts : Trees) → compound_cells_all (spelled_all g ts) ≡ compound_cells_all ts
  compound_cells_all-spelled g none = refl
  compound_cells_all-spelled g (more t ts) = ap₂ ◌+◌ (compound_cells-spelled g t) (compound_cells_all-spelled g ts)

pub cells-spelled : (g : Chars → Chars) (t : Tree) → cells (spelled g t) ≡ cells t
cells-spelled g t = ap₂ ◌+◌ (compound_cells-spelled g t) (ap (λ xs. length (distinct xs)) (occurrences-spelled g t))

pub rule_is : (text : ℕ → Chars) → ((x y : ℕ) → text x ≡ text y → x ≡ y)
    → (t : Tree) → is_rule_node (get_or (nodes (term_by text t)) 0 (Var 0)) ≡ is_rule_term t
rule_is text apart (var x) = refl
rule_is text apart (int i) = refl
rule_is text apart (atom a) = refl
rule_is text apart (comp f t none) = refl
rule_is text apart (comp f t (more u none)) = is_neck text apart f
rule_is text apart (comp f t (more u (more v ts))) =
    ap (λ b. b && bytes_eq (text_by text f) (codes ":-")) (not_two (count (spelled_all (text_by text) ts)))

pub sizes_are_told : (text : ℕ → Chars) → ((x y : ℕ) → text x ≡ text y → x ≡ y)
    → (t : Tree) → clause_size t ≡ kept_cells (term_by text t)
sizes_are_told text apart t =
    go (is_rule_term t) (rule_is text apart t)
  where
    go : (b : Bool) → is_rule_node (get_or (nodes (term_by text t)) 0 (Var 0)) ≡ b → cond b (cells t - 3) (cells t) ≡ kept_cells (term_by text t)
    go true e =
        let s : cells (term_by text t) ≡ cells t = cells-spelled (text_by text) t in
        let r : cells (term_by text t) ≡ 3 + kept_cells (term_by text t) = rule_cells (term_by text t) (Var 0) e in
        omega (arith, s, r)
    go false e = sym (cells-spelled (text_by text) t) ∙ fact_cells (term_by text t) (Var 0) e
