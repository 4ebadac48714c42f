-- The steps for terms.
use Rattle.std.proofs.Common.{◌≡◌, ℕ, suc, ◌+◌, ◌<◌, ℤ, List, [], ◌∷◌, ◌++◌, length, get_or, drop, Option, Some, None, IsSome, Err, refl, sym, ap, ap₂, subst, ◌∙◌, arith}
use Rattle.std.specs.List.{All}
use Rattle.std.proofs.lemmas.List.{length-map, length-take, length-drop}
use Rattle.std.proofs.lemmas.List.Elements.{All-nil, All-cons, All-head, All-tail}
use Rattle.pl_term.specs.Tree.{Chars, Tree, var, int, atom, comp, none, more, compound, trees}
use Rattle.pl_model.specs.declared.evaluables.Op1.{Op1}
use Rattle.pl_model.specs.declared.evaluables.Op2.{Op2}
use Rattle.pl_model.specs.Evaluables.{and_then, applied1, applied2, evaluated, evaluated_all, no_evaluable, operation, value1, value2}
use Rattle.atom_api.specs.Names.{Names}
use Rattle.term_store.specs.declared.words.Place.{Place}
use Rattle.term_store.specs.declared.views.Arguments.{Arguments}
use Rattle.term_store.specs.Heap.{atom_name, meaning}
use Rattle.term_store.specs.Contents.{Contents, Holds, IsArguments, arguments_at, term_at, words_at}
use Rattle.world_builtins.specs.Naming.{atoms_in, atoms_in_all}
use Rattle.world_builtins.specs.Spelling.{reads, spelled, spelled_all, text_of}
use Rattle.builtin_arithmetic.specs.declared.values.ValueFault.TheVariants.{Unbound, NoEvaluable}
use Rattle.builtin_arithmetic.specs.declared.steps.Step.TheVariants.{One, Two, Is, Ended}
use Rattle.builtin_arithmetic.specs.Tables.{found, numbers1, numbers2}
use Rattle.builtin_arithmetic.specs.Texts.{AreTexts}
use Rattle.builtin_arithmetic.specs.Values.{value_of}
use Rattle.builtin_arithmetic.specs.Steps.{IsStepFor, resumed}
use Rattle.builtin_arithmetic.proofs.Naming.{named_binary, named_unary}
use Rattle.builtin_arithmetic.proofs.Stepping.{fault_stays}

-- Arguments

pub how_many : (s : Contents) (a : Arguments) → IsArguments s a → length (arguments_at s a) ≡ a.count
how_many s a is =
    omega (arith, length-map (words_at s a) (meaning s.heap), length-take a.count (drop a.start s.heap.args), length-drop a.start s.heap.args, is.within)

shape_one : (xs : List Tree) (d : Tree) → length xs ≡ 1 → xs ≡ get_or xs 0 d ∷ []
shape_one [] d e = absurd (omega (arith, e))
shape_one (x ∷ []) d e = refl
shape_one (x ∷ (y ∷ xs)) d e = absurd (omega (arith, e))

shape_two : (xs : List Tree) (d : Tree) → length xs ≡ 2 → xs ≡ get_or xs 0 d ∷ (get_or xs 1 d ∷ [])
shape_two [] d e = absurd (omega (arith, e))
shape_two (x ∷ []) d e = absurd (omega (arith, e))
shape_two (x ∷ (y ∷ [])) d e = refl
shape_two (x ∷ (y ∷ (z ∷ xs))) d e = absurd (omega (arith, e))

-- Atoms that are held

module _ {X : Type 0} (P : X → Type 0) where
  all_left : (xs ys : List X) → All P (xs ++ ys) → All P xs
  all_left [] ys h = All-nil P
  all_left (x ∷ xs) ys h = All-cons P x xs (All-head P x (xs ++ ys) h) (all_left xs ys (All-tail P x (xs ++ ys) h))

  all_right : (xs ys : List X) → All P (xs ++ ys) → All P ys
  all_right [] ys h = h
  all_right (x ∷ xs) ys h = all_right xs ys (All-tail P x (xs ++ ys) h)

abbrev AreAtomsHeld : Names → Tree → Type 0
AreAtomsHeld m t = All (λ a. IsSome (m a)) (atoms_in t)

held_first : (m : Names) (a : ℕ) (x : Tree) (xs : List Tree) → AreAtomsHeld m (compound (atom_name a) (x ∷ xs)) → AreAtomsHeld m x
held_first m a x xs h = all_left (λ b. IsSome (m b)) (atoms_in x) (atoms_in_all (trees xs)) (All-tail (λ b. IsSome (m b)) a (atoms_in x ++ atoms_in_all (trees xs)) h)

held_second : (m : Names) (a : ℕ) (x y : Tree) → AreAtomsHeld m (compound (atom_name a) (x ∷ (y ∷ []))) → AreAtomsHeld m y
held_second m a x y h =
    all_left (λ b. IsSome (m b)) (atoms_in y) []
    (all_right (λ b. IsSome (m b)) (atoms_in x) (atoms_in y ++ []) (All-tail (λ b. IsSome (m b)) a (atoms_in x ++ (atoms_in y ++ [])) h))

held_name : (m : Names) (a : ℕ) (xs : List Tree) → AreAtomsHeld m (compound (atom_name a) xs) → IsSome (m a)
held_name m a [] h = All-head (λ b. IsSome (m b)) a [] h
held_name m a (x ∷ xs) h = All-head (λ b. IsSome (m b)) a (atoms_in x ++ atoms_in_all (trees xs)) h

module _ (s : Contents) (place : Place) where
  -- Terms that are no compound terms

  pub at_variable : (n : ℕ) → term_at s place ≡ var n → IsStepFor s place (Ended (Err Unbound))
  at_variable n e =
      record {
        inside = tt;
        means = λ m texts ps. sym (ap (λ t. resumed m s ps (evaluated (spelled (text_of m) t))) e ∙ fault_stays m s ps Unbound);
        held = λ m h. tt;
      }

  pub at_integer : (i : ℤ) → term_at s place ≡ int i → IsStepFor s place (Is i)
  at_integer i e =
      record {
        inside = tt;
        means = λ m texts ps. sym (ap (λ t. resumed m s ps (evaluated (spelled (text_of m) t))) e);
        held = λ m h. tt;
      }

  pub at_atom : (a : ℕ) → term_at s place ≡ atom (atom_name a) → IsStepFor s place (Ended (Err (NoEvaluable a 0)))
  at_atom a e =
      record {
        inside = tt;
        means = λ m texts ps. sym (ap (λ t. resumed m s ps (evaluated (spelled (text_of m) t))) e ∙ fault_stays m s ps (NoEvaluable a 0));
        held = λ m h. All-head (λ b. IsSome (m b)) a [] (subst (AreAtomsHeld m) e h);
      }

  -- Compound terms

  module _ (name : ℕ) (xs : List Tree) (stands : term_at s place ≡ compound (atom_name name) xs) where
    abbrev first : Tree
    first = get_or xs 0 (atom [])

    abbrev second : Tree
    second = get_or xs 1 (atom [])

    as_one : length xs ≡ 1 → term_at s place ≡ comp (atom_name name) first none
    as_one long = stands ∙ ap (compound (atom_name name)) (shape_one xs (atom []) long)

    as_two : length xs ≡ 2 → term_at s place ≡ comp (atom_name name) first (more second none)
    as_two long = stands ∙ ap (compound (atom_name name)) (shape_two xs (atom []) long)

    value_one : (m : Names) → AreTexts m → length xs ≡ 1 → (o : Option Op1) → o ≡ found name numbers1
        → evaluated (reads m s place) ≡ value1 (text_of m (atom_name name)) o (evaluated (spelled (text_of m) first))
    value_one m texts long o is =
        let f = text_of m (atom_name name) in
        ap (λ t. evaluated (spelled (text_of m) t)) (as_one long)
        ∙ ap (λ q. value1 f q (evaluated (spelled (text_of m) first))) (named_unary m texts name ∙ sym is)

    value_two : (m : Names) → AreTexts m → length xs ≡ 2 → (o : Option Op2) → o ≡ found name numbers2
        → evaluated (reads m s place) ≡ value2 (text_of m (atom_name name)) o (evaluated (spelled (text_of m) first)) (evaluated (spelled (text_of m) second))
    value_two m texts long o is =
        let f = text_of m (atom_name name) in
        ap (λ t. evaluated (spelled (text_of m) t)) (as_two long)
        ∙ ap (λ q. value2 f q (evaluated (spelled (text_of m) first)) (evaluated (spelled (text_of m) second))) (named_binary m texts name ∙ sym is)

    pub of_unary : (p : Place) (op : Op1) → length xs ≡ 1 → Some op ≡ found name numbers1 → Holds s p → term_at s p ≡ first → IsStepFor s place (One op p)
    of_unary p op long is holds at =
        record {
          inside = holds;
          means =
              λ m texts ps. ap (resumed m s ps)
              (ap (λ t. and_then (evaluated (spelled (text_of m) t)) (λ x. operation (applied1 op x))) at ∙ sym (value_one m texts long (Some op) is));
          held = λ m h. subst (AreAtomsHeld m) (sym at) (held_first m name first [] (subst (AreAtomsHeld m) (as_one long) h));
        }

    pub of_binary : (p q : Place) (op : Op2) → length xs ≡ 2 → Some op ≡ found name numbers2 → Holds s p → term_at s p ≡ first → Holds s q → term_at s q ≡ second
        → IsStepFor s place (Two op p q)
    of_binary p q op long is holds at holds_too at_too =
        record {
          inside = (holds, holds_too);
          means =
              λ m texts ps. ap (resumed m s ps)
              (ap₂ (λ t u. and_then (evaluated (spelled (text_of m) t)) (λ x. and_then (evaluated (spelled (text_of m) u)) (λ y. operation (applied2 op x y)))) at at_too
              ∙ sym (value_two m texts long (Some op) is));
          held =
              λ m h.
              let k = subst (AreAtomsHeld m) (as_two long) h in (
                subst (AreAtomsHeld m) (sym at) (held_first m name first (second ∷ []) k),
                subst (AreAtomsHeld m) (sym at_too) (held_second m name first second k),
              );
        }

    pub no_unary : length xs ≡ 1 → (let none_found : Option Op1 = None in none_found ≡ found name numbers1) → IsStepFor s place (Ended (Err (NoEvaluable name 1)))
    no_unary long is =
        record {
          inside = tt;
          means = λ m texts ps. sym (ap (resumed m s ps) (value_one m texts long None is) ∙ fault_stays m s ps (NoEvaluable name 1));
          held = λ m h. held_name m name xs (subst (AreAtomsHeld m) stands h);
        }

    pub no_binary : length xs ≡ 2 → (let none_found : Option Op2 = None in none_found ≡ found name numbers2) → IsStepFor s place (Ended (Err (NoEvaluable name 2)))
    no_binary long is =
        record {
          inside = tt;
          means = λ m texts ps. sym (ap (resumed m s ps) (value_two m texts long None is) ∙ fault_stays m s ps (NoEvaluable name 2));
          held = λ m h. held_name m name xs (subst (AreAtomsHeld m) stands h);
        }

long_all : (g : Chars → Chars) (xs : List Tree) → length (evaluated_all (spelled_all g (trees xs))) ≡ length xs
long_all g [] = refl
long_all g (x ∷ xs) = ap suc (long_all g xs)

value_more : (m : Names) (a : ℕ) (xs : List Tree) → 2 < length xs → evaluated (spelled (text_of m) (compound (atom_name a) xs)) ≡ value_of m (Err (NoEvaluable a (length xs)))
value_more m a [] h = absurd (omega (arith, h))
value_more m a (x ∷ []) h = absurd (omega (arith, h))
value_more m a (x ∷ (y ∷ [])) h = absurd (omega (arith, h))
value_more m a (x ∷ (y ∷ (z ∷ xs))) h =
    let g = text_of m in
    let long : 3 + length (evaluated_all (spelled_all g (trees xs))) ≡ suc (suc (suc (length xs))) = omega (arith, long_all g xs) in
    ap (no_evaluable (g (atom_name a))) long

pub too_many : (s : Contents) (place : Place) (name : ℕ) (xs : List Tree) → term_at s place ≡ compound (atom_name name) xs → 2 < length xs
    → IsStepFor s place (Ended (Err (NoEvaluable name (length xs))))
too_many s place name xs stands many =
    record {
      inside = tt;
      means =
          λ m texts ps. sym (ap (λ t. resumed m s ps (evaluated (spelled (text_of m) t))) stands
          ∙ ap (resumed m s ps) (value_more m name xs many) ∙ fault_stays m s ps (NoEvaluable name (length xs)));
      held = λ m h. held_name m name xs (subst (AreAtomsHeld m) stands h);
    }
