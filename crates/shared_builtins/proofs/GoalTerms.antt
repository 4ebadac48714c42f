-- Goals of predicates of the shared state, by their terms.
use Rattle.std.proofs.Common.{◌≡◌, inl, inr, ℕ, ◌<◌, List, [], ◌∷◌, length, get_or, Some, refl, sym, ap, ap₂, subst, ◌∙◌, arith}
use Rattle.pl_term.specs.Tree.{Chars, Tree, Trees, atom, comp, none, more, compound}
use Rattle.pl_model.specs.BuiltinRows.{one_answer}
use Rattle.pl_model.specs.Control.{name_of}
use Rattle.pl_model.specs.SharedBuiltins as shared
use Rattle.pl_model.specs.SharedBuiltins.{gives_row, shared_of_one, shared_of_three, shared_of_two}
use Rattle.pl_model.specs.Terms.{arguments}
use Rattle.atom_api.specs.Names.{Names, FixedStand}
use Rattle.builtin_rows.proofs.Listing.{argument_held, arguments_long, compound_parts}
use Rattle.term_store.specs.declared.words.Place.{Place}
use Rattle.term_store.specs.Contents.{Contents, arguments_at, term_at}
use Rattle.term_store.specs.Heap.{atom_name}
use Rattle.world_builtins.specs.Naming.{IsHeldAt}
use Rattle.world_builtins.specs.Spelling.{reads, spelled, text_of}
use Rattle.shared_builtins.specs.declared.goal.StateGoal.{StateGoal}
use Rattle.shared_builtins.specs.declared.preds.StatePred.{StatePred}
use Rattle.shared_builtins.specs.declared.preds.StatePred.TheVariants.{One, Two, Three}
use Rattle.shared_builtins.specs.declared.preds.StateOne.{StateOne}
use Rattle.shared_builtins.specs.declared.preds.StateOne.TheVariants as one
use Rattle.shared_builtins.specs.declared.preds.StateTwo.{StateTwo}
use Rattle.shared_builtins.specs.declared.preds.StateTwo.TheVariants as two
use Rattle.shared_builtins.specs.declared.preds.StateThree.{StateThree}
use Rattle.shared_builtins.specs.declared.preds.StateThree.TheVariants as three
use Rattle.shared_builtins.specs.declared.shared.Shared.{Shared}
use Rattle.shared_builtins.specs.declared.shared.Shared.TheVariants as comes
use Rattle.shared_builtins.specs.Following.{with_answer}
use Rattle.shared_builtins.specs.Goals.{IsNameOf, IsNameOfOne, IsStateGoal, arity_of, name_of_three, name_of_two}
use Rattle.shared_builtins.specs.Shared.{ComesTo, IsShared, one_comes, three_comes, two_comes}
use Rattle.shared_builtins.proofs.PairTerms.{fixed_read}

-- By the name, the definition has what the predicate comes to.

pub one_named : (p : StateOne) (f : Chars) (t : Tree) → IsNameOfOne p f → shared_of_one f t ≡ Some (one_comes p t)
one_named one.Asserta f t e = ap (λ g. shared_of_one g t) e
one_named one.Assertz f t (inl e) = ap (λ g. shared_of_one g t) e
one_named one.Assertz f t (inr e) = ap (λ g. shared_of_one g t) e
one_named one.Abolish f t e = ap (λ g. shared_of_one g t) e
one_named one.Dynamic f t e = ap (λ g. shared_of_one g t) e
one_named one.Declares f t (inl e) = ap (λ g. shared_of_one g t) e
one_named one.Declares f t (inr e) = ap (λ g. shared_of_one g t) e
one_named one.CurrentPredicate f t e = ap (λ g. shared_of_one g t) e
one_named one.ThreadSelf f t e = ap (λ g. shared_of_one g t) e
one_named one.GetOwn f t e = ap (λ g. shared_of_one g t) e
one_named one.PeekOwn f t e = ap (λ g. shared_of_one g t) e
one_named one.CreateQueue f t e = ap (λ g. shared_of_one g t) e
one_named one.DestroyQueue f t e = ap (λ g. shared_of_one g t) e

two_is : (p : StateTwo) (t u : Tree) → shared_of_two (name_of_two p) t u ≡ Some (two_comes p t u)
two_is two.SetFlag t u = refl
two_is two.CurrentFlag t u = refl
two_is two.CreateThread t u = refl
two_is two.JoinThread t u = refl
two_is two.Send t u = refl
two_is two.Get t u = refl
two_is two.Peek t u = refl

pub two_named : (p : StateTwo) (f : Chars) (t u : Tree) → f ≡ name_of_two p → shared_of_two f t u ≡ Some (two_comes p t u)
two_named p f t u e = ap (λ g. shared_of_two g t u) e ∙ two_is p t u

three_is : (p : StateThree) (t u v : Tree) → shared_of_three (name_of_three p) t u v ≡ Some (three_comes p t u v)
three_is three.Op t u v = refl
three_is three.CurrentOp t u v = refl
three_is three.CreateThread t u v = refl

pub three_named : (p : StateThree) (f : Chars) (t u v : Tree) → f ≡ name_of_three p → shared_of_three f t u v ≡ Some (three_comes p t u v)
three_named p f t u v e = ap (λ g. shared_of_three g t u v) e ∙ three_is p t u v

by_one : (f : Chars) (t : Tree) → shared.shared f (more t none) ≡ shared_of_one f t
unfolding shared.shared
by_one f t = refl

by_two : (f : Chars) (t u : Tree) → shared.shared f (more t (more u none)) ≡ shared_of_two f t u
unfolding shared.shared
by_two f t u = refl

by_three : (f : Chars) (t u v : Tree) → shared.shared f (more t (more u (more v none))) ≡ shared_of_three f t u v
unfolding shared.shared
by_three f t u v = refl

-- The arguments of a goal

pub arity_some : (p : StatePred) → 0 < arity_of p
arity_some (One p) = omega arith
arity_some (Two p) = omega arith
arity_some (Three p) = omega arith

one_listed : (ts : List Tree) (d : Tree) → length ts ≡ 1 → ts ≡ get_or ts 0 d ∷ []
one_listed [] d e = absurd (omega arith)
one_listed (t ∷ []) d e = refl
one_listed (t ∷ (u ∷ ts)) d e = absurd (omega arith)

two_listed : (ts : List Tree) (d : Tree) → length ts ≡ 2 → ts ≡ get_or ts 0 d ∷ (get_or ts 1 d ∷ [])
two_listed [] d e = absurd (omega arith)
two_listed (t ∷ []) d e = absurd (omega arith)
two_listed (t ∷ (u ∷ [])) d e = refl
two_listed (t ∷ (u ∷ (v ∷ ts))) d e = absurd (omega arith)

three_listed : (ts : List Tree) (d : Tree) → length ts ≡ 3 → ts ≡ get_or ts 0 d ∷ (get_or ts 1 d ∷ (get_or ts 2 d ∷ []))
three_listed [] d e = absurd (omega arith)
three_listed (t ∷ []) d e = absurd (omega arith)
three_listed (t ∷ (u ∷ [])) d e = absurd (omega arith)
three_listed (t ∷ (u ∷ (v ∷ []))) d e = refl
three_listed (t ∷ (u ∷ (v ∷ (w ∷ ts)))) d e = absurd (omega arith)

module _ (m : Names) (stands : FixedStand m) (s : Contents) (x : StateGoal) (is : IsStateGoal s x) where
  abbrev g : Tree
  g = reads m s x.place

  abbrev ts : List Tree
  ts = arguments_at s x.arguments

  long : length ts ≡ arity_of x.pred
  long = arguments_long s x.arguments is.inside ∙ is.predicate.1

  name_is : text_of m (atom_name x.name) ≡ is.predicate.0.0
  name_is = fixed_read m stands x.name is.predicate.0.0 is.predicate.0.1

  pub held_in : IsHeldAt m s x.place → (j : ℕ) (p : Place) → j < arity_of x.pred → term_at s p ≡ get_or ts j (atom []) → IsHeldAt m s p
  held_in held j p lt at =
      let some : 0 < x.arguments.count = omega (arith, is.predicate.1, arity_some x.pred) in
      argument_held m s ts j (atom []) p (compound_parts m s x.place x.name x.arguments is.means is.inside some held).1 (omega (arith, long, lt)) at

  pub goal_one : (p : StateOne) (t : Place) → x.pred ≡ One p → term_at s t ≡ get_or ts 0 (atom []) → g ≡ comp is.predicate.0.0 (reads m s t) none
  goal_one p t e at =
      ap (spelled (text_of m)) (is.means ∙ ap (compound (atom_name x.name)) (one_listed ts (atom []) (long ∙ ap arity_of e)))
      ∙ ap₂ (λ f u. comp f (spelled (text_of m) u) none) name_is (sym at)

  pub goal_two : (p : StateTwo) (t u : Place) → x.pred ≡ Two p → term_at s t ≡ get_or ts 0 (atom []) → term_at s u ≡ get_or ts 1 (atom [])
      → g ≡ comp is.predicate.0.0 (reads m s t) (more (reads m s u) none)
  goal_two p t u e at bt =
      ap (spelled (text_of m)) (is.means ∙ ap (compound (atom_name x.name)) (two_listed ts (atom []) (long ∙ ap arity_of e)))
      ∙ ap₂ (λ f v. comp f (spelled (text_of m) v) (more (spelled (text_of m) (get_or ts 1 (atom []))) none)) name_is (sym at)
      ∙ ap (λ v. comp is.predicate.0.0 (reads m s t) (more (spelled (text_of m) v) none)) (sym bt)

  pub goal_three : (p : StateThree) (t u v : Place) → x.pred ≡ Three p → term_at s t ≡ get_or ts 0 (atom []) → term_at s u ≡ get_or ts 1 (atom []) → term_at s v ≡ get_or ts 2 (atom [])
      → g ≡ comp is.predicate.0.0 (reads m s t) (more (reads m s u) (more (reads m s v) none))
  goal_three p t u v e at bt ct =
      let h = spelled (text_of m) in
      ap h (is.means ∙ ap (compound (atom_name x.name)) (three_listed ts (atom []) (long ∙ ap arity_of e)))
      ∙ ap₂ (λ f w. comp f (h w) (more (h (get_or ts 1 (atom []))) (more (h (get_or ts 2 (atom []))) none))) name_is (sym at)
      ∙ ap₂ (λ w y. comp is.predicate.0.0 (reads m s t) (more (h w) (more (h y) none))) (sym bt) (sym ct)

  pub one_shared : (p : StateOne) (t : Place) → x.pred ≡ One p → term_at s t ≡ get_or ts 0 (atom [])
      → (shared.shared (name_of g) (arguments g) ≡ Some (one_comes p (reads m s t))) × (arguments g ≡ more (reads m s t) none)
  one_shared p t e at =
      let eq = goal_one p t e at in (
        ap (λ c. shared.shared (name_of c) (arguments c)) eq ∙ by_one is.predicate.0.0 (reads m s t)
            ∙ one_named p is.predicate.0.0 (reads m s t) (subst (λ q. IsNameOf q is.predicate.0.0) e is.predicate.0.2),
        ap arguments eq,
      )

  pub two_shared : (p : StateTwo) (t u : Place) → x.pred ≡ Two p → term_at s t ≡ get_or ts 0 (atom []) → term_at s u ≡ get_or ts 1 (atom [])
      → (shared.shared (name_of g) (arguments g) ≡ Some (two_comes p (reads m s t) (reads m s u))) × (arguments g ≡ more (reads m s t) (more (reads m s u) none))
  two_shared p t u e at bt =
      let eq = goal_two p t u e at bt in (
        ap (λ c. shared.shared (name_of c) (arguments c)) eq ∙ by_two is.predicate.0.0 (reads m s t) (reads m s u)
            ∙ two_named p is.predicate.0.0 (reads m s t) (reads m s u) (subst (λ q. IsNameOf q is.predicate.0.0) e is.predicate.0.2),
        ap arguments eq,
      )

  pub three_shared : (p : StateThree) (t u v : Place) → x.pred ≡ Three p → term_at s t ≡ get_or ts 0 (atom []) → term_at s u ≡ get_or ts 1 (atom [])
      → term_at s v ≡ get_or ts 2 (atom [])
      → (shared.shared (name_of g) (arguments g) ≡ Some (three_comes p (reads m s t) (reads m s u) (reads m s v)))
      × (arguments g ≡ more (reads m s t) (more (reads m s u) (more (reads m s v) none)))
  three_shared p t u v e at bt ct =
      let eq = goal_three p t u v e at bt ct in (
        ap (λ c. shared.shared (name_of c) (arguments c)) eq ∙ by_three is.predicate.0.0 (reads m s t) (reads m s u) (reads m s v)
            ∙ three_named p is.predicate.0.0 (reads m s t) (reads m s u) (reads m s v) (subst (λ q. IsNameOf q is.predicate.0.0) e is.predicate.0.2),
        ap arguments eq,
      )

  -- What the predicate comes to, as what the goal does.
  pub shared_by : (us : Trees) (d : shared.Shared) → shared.shared (name_of g) (arguments g) ≡ Some d → arguments g ≡ us → (r : Shared) → ComesTo m s us d r → IsShared m s x r
  shared_by us d e a (comes.Refused f) h = (e ∙ ap Some h.0, h.1)
  shared_by us d e a comes.Holds h = e ∙ ap Some h ∙ ap (λ us. Some (gives_row (one_answer us))) (sym a)
  shared_by us d e a (comes.Asks v) h = (h.0, h.1, e ∙ ap Some h.2.means, h.2.asks, h.2.held, h.2.by_names)

  -- By the arguments as terms

  pub one_tree : (p : StateOne) → x.pred ≡ One p → (t : Tree) × ((shared.shared (name_of g) (arguments g) ≡ Some (one_comes p t)) × (arguments g ≡ more t none))
  one_tree p e =
      let t = spelled (text_of m) (get_or ts 0 (atom [])) in
      let eq : g ≡ comp is.predicate.0.0 t none =
      ap (spelled (text_of m)) (is.means ∙ ap (compound (atom_name x.name)) (one_listed ts (atom []) (long ∙ ap arity_of e))) ∙ ap (λ f. comp f t none) name_is in (
        t,
        (
          ap (λ c. shared.shared (name_of c) (arguments c)) eq ∙ by_one is.predicate.0.0 t
              ∙ one_named p is.predicate.0.0 t (subst (λ q. IsNameOf q is.predicate.0.0) e is.predicate.0.2),
          ap arguments eq,
        ),
      )

  pub two_tree : (p : StateTwo) → x.pred ≡ Two p
      → (t : Tree) × (u : Tree) × (shared.shared (name_of g) (arguments g) ≡ Some (two_comes p t u)) × (arguments g ≡ more t (more u none))
  two_tree p e =
      let t = spelled (text_of m) (get_or ts 0 (atom [])) in
      let u = spelled (text_of m) (get_or ts 1 (atom [])) in
      let eq : g ≡ comp is.predicate.0.0 t (more u none) =
      ap (spelled (text_of m)) (is.means ∙ ap (compound (atom_name x.name)) (two_listed ts (atom []) (long ∙ ap arity_of e))) ∙ ap (λ f. comp f t (more u none)) name_is in (
        t,
        u,
        ap (λ c. shared.shared (name_of c) (arguments c)) eq ∙ by_two is.predicate.0.0 t u
            ∙ two_named p is.predicate.0.0 t u (subst (λ q. IsNameOf q is.predicate.0.0) e is.predicate.0.2),
        ap arguments eq,
      )

  pub three_tree : (p : StateThree) → x.pred ≡ Three p
      → (t : Tree) × (u : Tree) × (v : Tree) × (shared.shared (name_of g) (arguments g) ≡ Some (three_comes p t u v)) × (arguments g ≡ more t (more u (more v none)))
  three_tree p e =
      let t = spelled (text_of m) (get_or ts 0 (atom [])) in
      let u = spelled (text_of m) (get_or ts 1 (atom [])) in
      let v = spelled (text_of m) (get_or ts 2 (atom [])) in
      let eq : g ≡ comp is.predicate.0.0 t (more u (more v none)) =
      ap (spelled (text_of m)) (is.means ∙ ap (compound (atom_name x.name)) (three_listed ts (atom []) (long ∙ ap arity_of e)))
      ∙ ap (λ f. comp f t (more u (more v none))) name_is in (
        t,
        u,
        v,
        ap (λ c. shared.shared (name_of c) (arguments c)) eq ∙ by_three is.predicate.0.0 t u v
            ∙ three_named p is.predicate.0.0 t u v (subst (λ q. IsNameOf q is.predicate.0.0) e is.predicate.0.2),
        ap arguments eq,
      )

  pub one_args : (p : StateOne) → x.pred ≡ One p → arguments g ≡ more (spelled (text_of m) (get_or ts 0 (atom []))) none
  one_args p e =
      ap (λ t. arguments (spelled (text_of m) t)) (is.means ∙ ap (compound (atom_name x.name)) (one_listed ts (atom []) (long ∙ ap arity_of e)))

  pub two_args : (p : StateTwo) → x.pred ≡ Two p
      → arguments g ≡ more (spelled (text_of m) (get_or ts 0 (atom []))) (more (spelled (text_of m) (get_or ts 1 (atom []))) none)
  two_args p e =
      ap (λ t. arguments (spelled (text_of m) t)) (is.means ∙ ap (compound (atom_name x.name)) (two_listed ts (atom []) (long ∙ ap arity_of e)))

  pub three_args : (p : StateThree) → x.pred ≡ Three p
      → arguments g ≡ more (spelled (text_of m) (get_or ts 0 (atom []))) (more (spelled (text_of m) (get_or ts 1 (atom []))) (more (spelled (text_of m) (get_or ts 2 (atom []))) none))
  three_args p e =
      ap (λ t. arguments (spelled (text_of m) t)) (is.means ∙ ap (compound (atom_name x.name)) (three_listed ts (atom []) (long ∙ ap arity_of e)))

  -- An answer, by the places.
  pub two_answer : (p : StateTwo) (first : Place) (t : Tree) → x.pred ≡ Two p → term_at s first ≡ get_or ts 0 (atom [])
      → more (reads m s first) (more t none) ≡ with_answer x.pred (arguments g) t
  two_answer p first t e at =
      ap (λ u. more (spelled (text_of m) u) (more t none)) at
      ∙ sym (ap₂ (λ q us. with_answer q us t) e (two_args p e))

  pub three_answer : (p : StateThree) (first third : Place) (t : Tree) → x.pred ≡ Three p → term_at s first ≡ get_or ts 0 (atom []) → term_at s third ≡ get_or ts 2 (atom [])
      → more (reads m s first) (more t (more (reads m s third) none)) ≡ with_answer x.pred (arguments g) t
  three_answer p first third t e at ct =
      ap₂ (λ u v. more (spelled (text_of m) u) (more t (more (spelled (text_of m) v) none))) at ct
      ∙ sym (ap₂ (λ q us. with_answer q us t) e (three_args p e))

  pub one_answer_is : (p : StateOne) (t : Tree) → x.pred ≡ One p → more t none ≡ with_answer x.pred (arguments g) t
  one_answer_is p t e = sym (ap (λ q. with_answer q (arguments g) t) e)
