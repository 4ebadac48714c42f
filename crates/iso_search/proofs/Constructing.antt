-- Goals by their names and the number of their arguments, read from a store.
use Rattle.std.proofs.Common.{◌≡◌, ◌≢◌, ℕ, ℤ, Option, Some, None, suc, ◌<◌, ◌≤◌, Bool, true, false, cond, not, ◌&&◌, ◌==◌, nat_le, List, [], ◌∷◌, length, get_or, drop, codes, refl, sym, ap, ap₂, subst, ◌∙◌, arith, length-take, length-drop}
use Rattle.std.specs.Prelude.{IfSome}
use Rattle.std.specs.Str.{bytes_eq}
use Rattle.std.proofs.lemmas.List.{length-map}
use Rattle.std.proofs.lemmas.Bool.{true≢false}
use Rattle.pl_term.specs.Tree.{Chars, Tree, Trees, var, int, atom, comp, none, more, count, trees, compound}
use Rattle.pl_model.specs.Control.{conjunction, disjunction, if_then, if_then_else, inspects, calls, other, construct, construct_by_count, construct_of_one, construct_of_two, construct_of_three, or_else}
use Rattle.term_store.specs.declared.words.Place.{Place}
use Rattle.term_store.specs.declared.views.Arguments.{Arguments}
use Rattle.term_store.specs.Heap.{atom_name, meaning}
use Rattle.term_store.specs.Contents.{Contents, IsArguments, arguments_at, words_at, term_at}
use Rattle.iso_search.specs.Spelling.{spelled, spelled_all, text_of}
use Rattle.iso_search.specs.Reading.{View, IsView, reads}
use Rattle.iso_search.specs.declared.construct.Construct.{Construct}
use Rattle.iso_search.specs.declared.construct.Construct.TheVariants.{Disjunction, IfThenElse, Calls, Other}
use Rattle.iso_search.specs.Constructs.{IsByCount, atom_construct, construction, one_construct, three_construct}
use Rattle.iso_search.proofs.Naming.{atom_is, is_named, one_is, three_is, then_is, call_is, clause_is, comma_is, semicolon_is}
use Rattle.iso_search.proofs.Spelt.{count-spelled}
use Rattle.iso_search.proofs.Charging.{is_at_most, not_at_most}

pub count-trees : (ts : List Tree) → count (trees ts) ≡ length ts
count-trees [] = refl
count-trees (t ∷ ts) = ap suc (count-trees ts)

pub how_many : (s : Contents) (a : Arguments) → IsArguments s a → length (arguments_at s a) ≡ a.count
how_many s a is =
    omega (arith, length-map (words_at s a) (meaning s.heap), length-take a.count (drop a.start s.heap.args), length-drop a.start s.heap.args, is.within)

shape_one : (xs : List Tree) (d : Tree) → length xs ≡ 1 → xs ≡ get_or xs 0 d ∷ []
shape_one [] d e = absurd (omega (arith, e))
shape_one (x ∷ []) d e = refl
shape_one (x ∷ (y ∷ xs)) d e = absurd (omega (arith, e))

pub shape_two : (xs : List Tree) (d : Tree) → length xs ≡ 2 → xs ≡ get_or xs 0 d ∷ (get_or xs 1 d ∷ [])
shape_two [] d e = absurd (omega (arith, e))
shape_two (x ∷ []) d e = absurd (omega (arith, e))
shape_two (x ∷ (y ∷ [])) d e = refl
shape_two (x ∷ (y ∷ (z ∷ xs))) d e = absurd (omega (arith, e))

shape_three : (xs : List Tree) (d : Tree) → length xs ≡ 3 → xs ≡ get_or xs 0 d ∷ (get_or xs 1 d ∷ (get_or xs 2 d ∷ []))
shape_three [] d e = absurd (omega (arith, e))
shape_three (x ∷ []) d e = absurd (omega (arith, e))
shape_three (x ∷ (y ∷ [])) d e = absurd (omega (arith, e))
shape_three (x ∷ (y ∷ (z ∷ []))) d e = refl
shape_three (x ∷ (y ∷ (z ∷ (w ∷ xs)))) d e = absurd (omega (arith, e))

-- By the number of arguments
module _ (v : View) (view : IsView v) (s : Contents) (name : ℕ) (xs : List Tree) where
  pub by_one : (t : Place) (c : Construct) → length xs ≡ 1 → term_at s t ≡ get_or xs 0 (atom []) → c ≡ one_construct name t → IsByCount v s name xs c
  by_one t c long at is =
      let g = text_of v.names in
      subst (λ k. IsByCount v s name xs k) (sym is)
      (subst (λ l. IsByCount v s name l (one_construct name t)) (sym (shape_one xs (atom []) long))
      (one_is v view s name t ∙ ap (λ u. construct_of_one (g (atom_name name)) (spelled g u)) at))

  pub by_two : (t u : Place) (c : Construct) → length xs ≡ 2 → term_at s t ≡ get_or xs 0 (atom []) → term_at s u ≡ get_or xs 1 (atom [])
      → construction v s c ≡ construct_of_two (text_of v.names (atom_name name)) (reads v s t) (reads v s u) → IsByCount v s name xs c
  by_two t u c long at_t at_u is =
      let g = text_of v.names in
      subst (λ l. IsByCount v s name l c) (sym (shape_two xs (atom []) long))
      (is ∙ ap₂ (λ x y. construct_of_two (g (atom_name name)) (spelled g x) (spelled g y)) at_t at_u)

  pub by_three : (t u w : Place) (c : Construct) → length xs ≡ 3 → term_at s t ≡ get_or xs 0 (atom []) → term_at s u ≡ get_or xs 1 (atom [])
      → term_at s w ≡ get_or xs 2 (atom []) → c ≡ three_construct name t u w → IsByCount v s name xs c
  by_three t u w c long at_t at_u at_w is =
      let g = text_of v.names in
      subst (λ k. IsByCount v s name xs k) (sym is)
      (subst (λ l. IsByCount v s name l (three_construct name t u w)) (sym (shape_three xs (atom []) long))
      (three_is v view s name t u w
      ∙ ap₂ (λ x y. construct_of_three (g (atom_name name)) (spelled g x) (spelled g y) (reads v s w)) at_t at_u
      ∙ ap (λ z. construct_of_three (g (atom_name name)) (spelled g (get_or xs 0 (atom []))) (spelled g (get_or xs 1 (atom []))) (spelled g z)) at_w))

pub by_more : (v : View) (s : Contents) (name : ℕ) (xs : List Tree) → 3 < length xs → IsByCount v s name xs Other
by_more v s name [] lt = absurd (omega (arith, lt))
by_more v s name (x ∷ []) lt = absurd (omega (arith, lt))
by_more v s name (x ∷ (y ∷ [])) lt = absurd (omega (arith, lt))
by_more v s name (x ∷ (y ∷ (z ∷ []))) lt = absurd (omega (arith, lt))
by_more v s name (x ∷ (y ∷ (z ∷ (w ∷ xs)))) lt = refl

-- Calls

opened_call : (f : Chars) (t : Tree) (ts : Trees) (b : Bool) → (bytes_eq f (codes "call") && nat_le (count ts) 7) ≡ b
    → construct (comp f t ts) ≡ cond b (calls t ts) (construct_by_count f t ts)
unfolding construct
opened_call f t ts b e = ap (λ q. cond q (calls t ts) (construct_by_count f t ts)) e

pub called : (v : View) (view : IsView v) (s : Contents) (name : ℕ) (xs : List Tree) (t : Place) (a : Arguments)
    → (name == 53) ≡ true → 0 < length xs → length xs ≤ 8 → term_at s t ≡ get_or xs 0 (atom []) → arguments_at s a ≡ xs
    → construction v s (Calls t a) ≡ construct (spelled (text_of v.names) (compound (atom_name name) xs))
called v view s name [] t a is some few at arguments = absurd (omega (arith, some))
called v view s name (x ∷ xs) t a is some few at arguments =
    let g = text_of v.names in
    let long : count (spelled_all g (trees xs)) ≡ length xs = count-spelled g (trees xs) ∙ count-trees xs in
    ap₂ (λ y ys. calls (spelled g y) (spelled_all g (trees (drop 1 ys)))) at arguments
    ∙ sym (opened_call (g (atom_name name)) (spelled g x) (spelled_all g (trees xs)) true
    (ap₂ (λ b c. b && c) (is_named v view name 53 (codes "call") call_is ∙ is) (is_at_most (count (spelled_all g (trees xs))) 7 (omega (arith, long, few)))))

and_false : (b : Bool) → (b && false) ≡ false
and_false true = refl
and_false false = refl

not_called : (v : View) (s : Contents) (name : ℕ) (xs : List Tree) (c : Construct) → IsByCount v s name xs c
    → ((x : Tree) (rest : List Tree) → xs ≡ x ∷ rest → (bytes_eq (text_of v.names (atom_name name)) (codes "call") && nat_le (count (spelled_all (text_of v.names) (trees rest))) 7) ≡ false)
    → construction v s c ≡ construct (spelled (text_of v.names) (compound (atom_name name) xs))
not_called v s name [] c by tests = absurd by
not_called v s name (x ∷ xs) c by tests =
    let g = text_of v.names in
    by ∙ sym (opened_call (g (atom_name name)) (spelled g x) (spelled_all g (trees xs)) false (tests x xs refl))

pub named_otherwise : (v : View) (view : IsView v) (s : Contents) (name : ℕ) (xs : List Tree) (c : Construct) → IsByCount v s name xs c → (name == 53) ≡ false
    → construction v s c ≡ construct (spelled (text_of v.names) (compound (atom_name name) xs))
named_otherwise v view s name xs c by other_name =
    not_called v s name xs c by
    (λ x rest e. ap (λ b. b && nat_le (count (spelled_all (text_of v.names) (trees rest))) 7) (is_named v view name 53 (codes "call") call_is ∙ other_name))

pub too_many : (v : View) (s : Contents) (name : ℕ) (xs : List Tree) (c : Construct) → IsByCount v s name xs c → 8 < length xs
    → construction v s c ≡ construct (spelled (text_of v.names) (compound (atom_name name) xs))
too_many v s name xs c by many =
    not_called v s name xs c by
    (λ x rest e.
    let g = text_of v.names in
    let long : count (spelled_all g (trees rest)) ≡ length rest = count-spelled g (trees rest) ∙ count-trees rest in
    ap (λ b. bytes_eq (g (atom_name name)) (codes "call") && b) (not_at_most (count (spelled_all g (trees rest))) 7 (omega (arith, long, many, ap length e)))
    ∙ and_false (bytes_eq (g (atom_name name)) (codes "call")))

-- Conditions

module _ (v : View) (view : IsView v) (s : Contents) (name : ℕ) (xs : List Tree) (t u : Place)
    (stands : term_at s t ≡ compound (atom_name name) xs) where
  pub with_else : (c k : Place) → (name == 7) ≡ true → length xs ≡ 2 → term_at s c ≡ get_or xs 0 (atom []) → term_at s k ≡ get_or xs 1 (atom [])
      → construction v s (IfThenElse c k u) ≡ or_else (reads v s t) (reads v s u)
  with_else c k is long at_c at_k =
      let g = text_of v.names in
      ap₂ (λ x y. if_then_else (spelled g x) (spelled g y) (reads v s u)) at_c at_k
      ∙ sym (ap (λ y. or_else (spelled g y) (reads v s u)) (stands ∙ ap (compound (atom_name name)) (shape_two xs (atom []) long))
      ∙ ap (λ b. cond b (if_then_else (spelled g (get_or xs 0 (atom []))) (spelled g (get_or xs 1 (atom []))) (reads v s u))
      (disjunction (comp (g (atom_name name)) (spelled g (get_or xs 0 (atom []))) (more (spelled g (get_or xs 1 (atom []))) none)) (reads v s u)))
      (is_named v view name 7 (codes "->") then_is ∙ is))

  pub named_no_condition : (name == 7) ≡ false → construction v s (Disjunction t u) ≡ or_else (reads v s t) (reads v s u)
  named_no_condition other_name =
      let g = text_of v.names in
      ap (λ y. disjunction (spelled g y) (reads v s u)) stands
      ∙ go xs
      ∙ sym (ap (λ y. or_else (spelled g y) (reads v s u)) stands)
    where
      go : (ys : List Tree) → disjunction (spelled (text_of v.names) (compound (atom_name name) ys)) (reads v s u)
          ≡ or_else (spelled (text_of v.names) (compound (atom_name name) ys)) (reads v s u)
      go [] = refl
      go (y ∷ []) = refl
      go (y ∷ (z ∷ [])) =
          let g = text_of v.names in
          sym (ap (λ b. cond b (if_then_else (spelled g y) (spelled g z) (reads v s u)) (disjunction (comp (g (atom_name name)) (spelled g y) (more (spelled g z) none)) (reads v s u)))
          (is_named v view name 7 (codes "->") then_is ∙ other_name))
      go (y ∷ (z ∷ (w ∷ ws))) = refl

  pub counted_no_condition : length xs ≢ 2 → construction v s (Disjunction t u) ≡ or_else (reads v s t) (reads v s u)
  counted_no_condition other_name =
      let g = text_of v.names in
      ap (λ y. disjunction (spelled g y) (reads v s u)) stands
      ∙ go xs other_name
      ∙ sym (ap (λ y. or_else (spelled g y) (reads v s u)) stands)
    where
      go : (ys : List Tree) → length ys ≢ 2 → disjunction (spelled (text_of v.names) (compound (atom_name name) ys)) (reads v s u)
          ≡ or_else (spelled (text_of v.names) (compound (atom_name name) ys)) (reads v s u)
      go [] k = refl
      go (y ∷ []) k = refl
      go (y ∷ (z ∷ [])) k = absurd (k refl)
      go (y ∷ (z ∷ (w ∷ ws))) k = refl

-- The first of two alternatives is no compound term.
pub leaf_first : (v : View) (s : Contents) (t u : Place) (x : Tree) → term_at s t ≡ x
    → disjunction (spelled (text_of v.names) x) (reads v s u) ≡ or_else (spelled (text_of v.names) x) (reads v s u)
    → construction v s (Disjunction t u) ≡ or_else (reads v s t) (reads v s u)
leaf_first v s t u x e h =
    ap (λ y. disjunction (spelled (text_of v.names) y) (reads v s u)) e ∙ h ∙ sym (ap (λ y. or_else (spelled (text_of v.names) y) (reads v s u)) e)

-- What stands at a place

pub no_goal_variable : (v : View) (s : Contents) (p : Place) (n : ℕ) → term_at s p ≡ var n → construction v s Other ≡ construct (reads v s p)
unfolding construct
no_goal_variable v s p n e = sym (ap (λ u. construct (spelled (text_of v.names) u)) e)

pub no_goal_integer : (v : View) (s : Contents) (p : Place) (i : ℤ) → term_at s p ≡ int i → construction v s Other ≡ construct (reads v s p)
unfolding construct
no_goal_integer v s p i e = sym (ap (λ u. construct (spelled (text_of v.names) u)) e)

pub of_an_atom : (v : View) → IsView v → (s : Contents) (p : Place) (a : ℕ) (c : Construct) → term_at s p ≡ atom (atom_name a) → c ≡ atom_construct a
    → construction v s c ≡ construct (reads v s p)
unfolding construct
of_an_atom v view s p a c e is =
    ap (construction v s) is ∙ atom_is v view s a ∙ sym (ap (λ u. construct (spelled (text_of v.names) u)) e)

-- Compound terms of two arguments

named_two : (f : Chars) (t u : Tree) (a b c d : Bool)
    → bytes_eq f (codes ",") ≡ a → bytes_eq f (codes ";") ≡ b → bytes_eq f (codes "->") ≡ c → bytes_eq f (codes "clause") ≡ d
    → cond a (conjunction t u) (cond b (or_else t u) (cond c (if_then t u) (cond d (inspects t u) other))) ≡ construct_of_two f t u
named_two f t u a b c d p q r s =
    sym (ap₂ (λ x y. cond x (conjunction t u) (cond y (or_else t u) (cond (bytes_eq f (codes "->")) (if_then t u) (cond (bytes_eq f (codes "clause")) (inspects t u) other)))) p q
    ∙ ap₂ (λ x y. cond a (conjunction t u) (cond b (or_else t u) (cond x (if_then t u) (cond y (inspects t u) other)))) r s)

module _ (v : View) (view : IsView v) (name : ℕ) (t u : Tree) where
  pub is_conjunction : (name == 4) ≡ true → conjunction t u ≡ construct_of_two (text_of v.names (atom_name name)) t u
  is_conjunction e =
      named_two (text_of v.names (atom_name name)) t u true _ _ _ (is_named v view name 4 (codes ",") comma_is ∙ e) refl refl refl

  pub is_either : (name == 4) ≡ false → (name == 13) ≡ true → or_else t u ≡ construct_of_two (text_of v.names (atom_name name)) t u
  is_either d e =
      named_two (text_of v.names (atom_name name)) t u false true _ _ (is_named v view name 4 (codes ",") comma_is ∙ d)
      (is_named v view name 13 (codes ";") semicolon_is ∙ e) refl refl

  pub is_condition : (name == 4) ≡ false → (name == 13) ≡ false → (name == 7) ≡ true → if_then t u ≡ construct_of_two (text_of v.names (atom_name name)) t u
  is_condition d e f =
      named_two (text_of v.names (atom_name name)) t u false false true _ (is_named v view name 4 (codes ",") comma_is ∙ d)
      (is_named v view name 13 (codes ";") semicolon_is ∙ e) (is_named v view name 7 (codes "->") then_is ∙ f) refl

  pub is_inspection : (name == 4) ≡ false → (name == 13) ≡ false → (name == 7) ≡ false → (name == 62) ≡ true
      → inspects t u ≡ construct_of_two (text_of v.names (atom_name name)) t u
  is_inspection d e f g =
      named_two (text_of v.names (atom_name name)) t u false false false true (is_named v view name 4 (codes ",") comma_is ∙ d)
      (is_named v view name 13 (codes ";") semicolon_is ∙ e) (is_named v view name 7 (codes "->") then_is ∙ f)
      (is_named v view name 62 (codes "clause") clause_is ∙ g)

  pub is_none : (name == 4) ≡ false → (name == 13) ≡ false → (name == 7) ≡ false → (name == 62) ≡ false
      → other ≡ construct_of_two (text_of v.names (atom_name name)) t u
  is_none d e f g =
      named_two (text_of v.names (atom_name name)) t u false false false false (is_named v view name 4 (codes ",") comma_is ∙ d)
      (is_named v view name 13 (codes ";") semicolon_is ∙ e) (is_named v view name 7 (codes "->") then_is ∙ f)
      (is_named v view name 62 (codes "clause") clause_is ∙ g)

pub was_not : (b : Bool) → true ≡ not b → b ≡ false
was_not true e = absurd (true≢false e)
was_not false e = refl

pub was : (b : Bool) → false ≡ not b → b ≡ true
was true e = refl
was false e = absurd (true≢false (sym e))

-- What is asked for first, if it is there
pub if_passing : (P Q : Construct → Type 0) (r : Option Construct) → ((k : Construct) → P k → Q k) → IfSome r P → IfSome r Q
if_passing P Q (Some k) f h = f k h
if_passing P Q None f h = tt
