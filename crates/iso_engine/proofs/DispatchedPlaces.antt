-- Arguments by their places.
use Rattle.std.proofs.Common.{◌≡◌, ◌<◌, ℕ, List, [], ◌∷◌, map, length, sym, ap, ap₂, subst, ◌∙◌, refl, arith, drop, length-take, length-drop}
use Rattle.std.proofs.lemmas.List.{length-map}
use Rattle.std.specs.Prelude.{IsSome, slice_index_or}
use Rattle.std.specs.List.{All}
use Rattle.pl_term.specs.Tree.{Chars, Tree, atom, none, more, trees}
use Rattle.pl_model.specs.AtomBuiltins.{five}
use Rattle.pl_model.specs.TermBuiltins.{two, three}
use Rattle.atom_api.specs.Names.{Names}
use Rattle.term_store.specs.declared.words.Place.{Place}
use Rattle.term_store.specs.declared.views.Arguments.{Arguments}
use Rattle.term_store.specs.Heap.{meaning}
use Rattle.term_store.specs.Contents.{Contents, IsArguments, arguments_at, term_at, words_at}
use Rattle.world_builtins.specs.Naming.{IsHeldAt, atoms_in}
use Rattle.world_builtins.specs.Spelling.{reads, spelled, text_of}
use Rattle.iso_engine.specs.Dispatching.{AreHeld, terms_of}

how_many : (s : Contents) (a : Arguments) → IsArguments s a → length (arguments_at s a) ≡ a.count
how_many s a is =
    omega (arith, length-map (words_at s a) (meaning s.heap), length-take a.count (drop a.start s.heap.args), length-drop a.start s.heap.args, is.within)

abbrev at : List Tree → ℕ → Tree
at ts i = slice_index_or ts i (atom [])

one_tree : (g : Chars → Chars) (ts : List Tree) → length ts ≡ 1 → trees (map (spelled g) ts) ≡ more (spelled g (at ts 0)) none
one_tree g [] e = absurd (omega (arith, e))
one_tree g (t ∷ []) e = refl
one_tree g (t ∷ (u ∷ ts)) e = absurd (omega (arith, e))

two_trees : (g : Chars → Chars) (ts : List Tree) → length ts ≡ 2 → trees (map (spelled g) ts) ≡ two (spelled g (at ts 0)) (spelled g (at ts 1))
two_trees g [] e = absurd (omega (arith, e))
two_trees g (t ∷ []) e = absurd (omega (arith, e))
two_trees g (t ∷ (u ∷ [])) e = refl
two_trees g (t ∷ (u ∷ (v ∷ ts))) e = absurd (omega (arith, e))

three_trees : (g : Chars → Chars) (ts : List Tree) → length ts ≡ 3
    → trees (map (spelled g) ts) ≡ three (spelled g (at ts 0)) (spelled g (at ts 1)) (spelled g (at ts 2))
three_trees g [] e = absurd (omega (arith, e))
three_trees g (t ∷ []) e = absurd (omega (arith, e))
three_trees g (t ∷ (u ∷ [])) e = absurd (omega (arith, e))
three_trees g (t ∷ (u ∷ (v ∷ []))) e = refl
three_trees g (t ∷ (u ∷ (v ∷ (w ∷ ts)))) e = absurd (omega (arith, e))

five_trees : (g : Chars → Chars) (ts : List Tree) → length ts ≡ 5
    → trees (map (spelled g) ts) ≡ five (spelled g (at ts 0)) (spelled g (at ts 1)) (spelled g (at ts 2)) (spelled g (at ts 3)) (spelled g (at ts 4))
five_trees g [] e = absurd (omega (arith, e))
five_trees g (t ∷ []) e = absurd (omega (arith, e))
five_trees g (t ∷ (u ∷ [])) e = absurd (omega (arith, e))
five_trees g (t ∷ (u ∷ (v ∷ []))) e = absurd (omega (arith, e))
five_trees g (t ∷ (u ∷ (v ∷ (w ∷ [])))) e = absurd (omega (arith, e))
five_trees g (t ∷ (u ∷ (v ∷ (w ∷ (x ∷ []))))) e = refl
five_trees g (t ∷ (u ∷ (v ∷ (w ∷ (x ∷ (y ∷ ts)))))) e = absurd (omega (arith, e))

module _ (m : Names) (s : Contents) (a : Arguments) (is : IsArguments s a) where
  pub stands_held : (i : ℕ) (p : Place) → i < a.count → term_at s p ≡ at (arguments_at s a) i → AreHeld m s a → IsHeldAt m s p
  stands_held i p lt e held =
      subst (λ t. All (λ x. IsSome (m x)) (atoms_in t)) (sym e) (held i (atom []) (omega (arith, lt, how_many s a is)))

  pub one_counted : a.count ≡ 1 → (t : Tree) × (terms_of m s a ≡ more t none)
  one_counted count = (spelled (text_of m) (at (arguments_at s a) 0), one_tree (text_of m) (arguments_at s a) (how_many s a is ∙ count))

  pub two_counted : a.count ≡ 2 → (t u : Tree) × (terms_of m s a ≡ two t u)
  two_counted count =
      (spelled (text_of m) (at (arguments_at s a) 0), spelled (text_of m) (at (arguments_at s a) 1), two_trees (text_of m) (arguments_at s a) (how_many s a is ∙ count))

  pub terms_one : (p : Place) → a.count ≡ 1 → term_at s p ≡ at (arguments_at s a) 0 → terms_of m s a ≡ more (reads m s p) none
  terms_one p count e =
      one_tree (text_of m) (arguments_at s a) (how_many s a is ∙ count) ∙ ap (λ t. more (spelled (text_of m) t) none) (sym e)

  pub terms_two : (p q : Place) → a.count ≡ 2 → term_at s p ≡ at (arguments_at s a) 0 → term_at s q ≡ at (arguments_at s a) 1
      → terms_of m s a ≡ two (reads m s p) (reads m s q)
  terms_two p q count e f =
      two_trees (text_of m) (arguments_at s a) (how_many s a is ∙ count)
      ∙ ap₂ (λ t u. two (spelled (text_of m) t) (spelled (text_of m) u)) (sym e) (sym f)

  pub terms_three : (p q r : Place) → a.count ≡ 3 → term_at s p ≡ at (arguments_at s a) 0 → term_at s q ≡ at (arguments_at s a) 1
      → term_at s r ≡ at (arguments_at s a) 2 → terms_of m s a ≡ three (reads m s p) (reads m s q) (reads m s r)
  terms_three p q r count e f h =
      three_trees (text_of m) (arguments_at s a) (how_many s a is ∙ count)
      ∙ ap₂ (λ t u. three (spelled (text_of m) t) (spelled (text_of m) u) (spelled (text_of m) (at (arguments_at s a) 2))) (sym e) (sym f)
      ∙ ap (λ t. three (reads m s p) (reads m s q) (spelled (text_of m) t)) (sym h)

  pub terms_five : (p q r t u : Place) → a.count ≡ 5 → term_at s p ≡ at (arguments_at s a) 0 → term_at s q ≡ at (arguments_at s a) 1
      → term_at s r ≡ at (arguments_at s a) 2 → term_at s t ≡ at (arguments_at s a) 3 → term_at s u ≡ at (arguments_at s a) 4
      → terms_of m s a ≡ five (reads m s p) (reads m s q) (reads m s r) (reads m s t) (reads m s u)
  terms_five p q r t u count e f h i j =
      let g = spelled (text_of m) in
      let ts = arguments_at s a in
      five_trees (text_of m) ts (how_many s a is ∙ count)
      ∙ ap₂ (λ x y. five (g x) (g y) (g (at ts 2)) (g (at ts 3)) (g (at ts 4))) (sym e) (sym f)
      ∙ ap₂ (λ x y. five (reads m s p) (reads m s q) (g x) (g y) (g (at ts 4))) (sym h) (sym i)
      ∙ ap (λ x. five (reads m s p) (reads m s q) (reads m s r) (reads m s t) (g x)) (sym j)
