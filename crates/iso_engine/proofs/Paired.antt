-- The arguments of a term are unified with the terms at places, one pair after another.
use Rattle.std.proofs.Common.{◌≡◌, ℕ, zero, suc, ◌+◌, ◌<◌, ◌≤◌, Bool, true, false, cond, List, [], ◌∷◌, ◌++◌, length, map, get_or, Option, Some, None, refl, sym, ap, ap₂, ◌∙◌, arith, append-nil, append_assoc}
use Rattle.std.proofs.lemmas.List.{length-map}
use Rattle.std.specs.Option.{option_map}
use Rattle.pl_term.specs.Tree.{Tree, Trees, none, more, after, count, trees}
use Rattle.pl_term.specs.Variables.{has, occurrences_all, replace_all}
use Rattle.pl_model.specs.Terms.{arguments}
use Rattle.pl_model.specs.Unify.{Bindings, Difference, same, clash, binds, bound, bound_all, differences, turn, solve, solve_all, unify}
use Rattle.pl_model.proofs.UnifyDifference.{PairsAll, differences-say}
use Rattle.pl_model.proofs.UnifyMore.{bound-more}
use Rattle.pl_model.proofs.UnifyReplace.{count-replace}
use Rattle.term_store.specs.declared.words.Place.{Place}
use Rattle.term_store.specs.Contents.{Adds, Contents, SameSize, Unified, term_at}
use Rattle.iso_engine.specs.Leading.{AreUnified}
use Rattle.iso_engine.proofs.Listed.{after_all, after_bound, arguments_bound, at_trees, bound_on, count_bound, count_trees, get_or_map, more_bound, none_bound, there}
use Rattle.iso_engine.proofs.Turns.{none_first, some_first}

-- Lists of different lengths have no unifier

uneven_turn : (n : ℕ) (bs : Bindings) (ts us : Trees) (d : Difference) → (count ts ≡ count us → ⊥) → PairsAll d ts us
    → ((x : ℕ) (s : Tree) → solve n (bs ++ (x, s) ∷ []) (replace_all x s ts) (replace_all x s us) ≡ None)
    → turn (solve n) bs ts us d ≡ None
uneven_turn n bs ts us same differ say ih = absurd (differ (ap count say))
uneven_turn n bs ts us clash differ say ih = refl
uneven_turn n bs ts us (binds x s) differ say ih = go (has x s) (ih x s)
  where
    go : (b : Bool) → solve n (bs ++ (x, s) ∷ []) (replace_all x s ts) (replace_all x s us) ≡ None
        → cond b None (solve n (bs ++ (x, s) ∷ []) (replace_all x s ts) (replace_all x s us)) ≡ None
    go true e = refl
    go false e = e

uneven : (n : ℕ) (bs : Bindings) (ts us : Trees) → (count ts ≡ count us → ⊥) → solve n bs ts us ≡ None
uneven zero bs ts us differ = refl
uneven (suc n) bs ts us differ =
    uneven_turn n bs ts us (differences ts us) differ (differences-say ts us)
    (λ x s. uneven n (bs ++ (x, s) ∷ []) (replace_all x s ts) (replace_all x s us)
    (λ e. differ (sym (count-replace ts x s) ∙ e ∙ count-replace us x s)))

pub not_as_many : (ts us : Trees) → (count ts ≡ count us → ⊥) → solve_all [] ts us ≡ None
unfolding solve_all
not_as_many ts us differ = uneven (suc (length (occurrences_all ts) + length (occurrences_all us))) [] ts us differ

none_left : solve_all [] none none ≡ Some []
unfolding solve_all
none_left = refl

joined : (bs cs : Bindings) (o : Option Bindings)
    → option_map (λ later. bs ++ later) (option_map (λ later. cs ++ later) o) ≡ option_map (λ later. (bs ++ cs) ++ later) o
joined bs cs None = refl
joined bs cs (Some later) = ap Some (sym (append_assoc bs cs later))

-- The first pairs are unified: each place has the bindings put into its term, and the others are left under these.
pub record AreBegun (i : ℕ) (s : Contents) (ts us : Trees) (t : Contents) : Type 0 where
  pub bindings : Bindings
  pub puts : (p : Place) → term_at t p ≡ bound bindings (term_at s p)
  pub goes : solve_all [] ts us ≡ option_map (λ later. bindings ++ later) (solve_all [] (bound_all bindings (after i ts)) (bound_all bindings (after i us)))

unmapped : (o : Option Bindings) → o ≡ option_map (λ later. [] ++ later) o
unmapped None = refl
unmapped (Some bs) = refl

pub not_begun : (s : Contents) (ts us : Trees) → AreBegun zero s ts us s
not_begun s ts us = record { bindings = []; puts = λ p. refl; goes = unmapped (solve_all [] ts us) }

-- The term has as many arguments as before.
pub as_many : (i : ℕ) (s t : Contents) (term : Place) (us : Trees) → AreBegun i s (arguments (term_at s term)) us t
    → zero < count (arguments (term_at s term)) → count (arguments (term_at t term)) ≡ count (arguments (term_at s term))
as_many i s t term us b some =
    ap (λ x. count (arguments x)) (b.puts term)
    ∙ ap count (arguments_bound b.bindings (term_at s term) some)
    ∙ count_bound b.bindings (arguments (term_at s term))

pub adds_on : (s t u : Contents) → Adds s t → Adds t u → Adds s u
adds_on s t u a b =
    record {
      places = λ p h. b.places p (a.places p h);
      marks = λ m h. b.marks m (a.marks m h);
      back = λ m h. b.back m (a.marks m h) ∙ a.back m h;
    }

pub size_on : (s t u : Contents) → SameSize s t → SameSize t u → SameSize s u
size_on s t u a b = record { numbers = b.numbers ∙ a.numbers; used = b.used ∙ a.used; budget = b.budget ∙ a.budget }

same_first : (t u : Tree) (ts us : Trees) → more t ts ≡ more u us → t ≡ u
same_first t u ts us e = cc

module _ (i : ℕ) (s t : Contents) (term : Place) (ps : List Place) (argument place other : Place) where
  abbrev ts : Trees
  ts = arguments (term_at s term)

  abbrev us : Trees
  us = trees (map (term_at s) ps)

  module _ (b : AreBegun i s ts us t) (long : count ts ≡ length ps) (within : i < length ps) (at : place ≡ get_or ps i other)
      (stands : after i (arguments (term_at t term)) ≡ more (term_at t argument) (after (suc i) (arguments (term_at t term)))) where
    left_is : bound_all b.bindings (after i ts) ≡ more (term_at t argument) (bound_all b.bindings (after (suc i) ts))
    left_is =
        let bs = b.bindings in
        let first = there ts i (omega (arith, long, within)) in
        let opened = ap (bound_all bs) first.1 ∙ more_bound bs first.0 (after (suc i) ts) in
        let some : zero < count ts = omega (arith, long, within) in
        let is : arguments (term_at t term) ≡ bound_all bs ts = ap arguments (b.puts term) ∙ arguments_bound bs (term_at s term) some in
        let same : term_at t argument ≡ bound bs first.0 =
        same_first (term_at t argument) (bound bs first.0) (after (suc i) (arguments (term_at t term))) (bound_all bs (after (suc i) ts))
        (sym stands ∙ ap (after i) is ∙ after_bound bs i ts ∙ opened) in
        opened ∙ ap (λ x. more x (bound_all bs (after (suc i) ts))) (sym same)

    right_is : bound_all b.bindings (after i us) ≡ more (term_at t place) (bound_all b.bindings (after (suc i) us))
    right_is =
        let bs = b.bindings in
        let d = term_at s place in
        let first = at_trees (map (term_at s) ps) i d (omega (arith, sym (count_trees (map (term_at s) ps)), long_map)) in
        ap (bound_all bs) first
        ∙ more_bound bs (get_or (map (term_at s) ps) i d) (after (suc i) us)
        ∙ ap (λ x. more (bound bs x) (bound_all bs (after (suc i) us))) (get_or_map (term_at s) ps i other d within ∙ ap (term_at s) (sym at))
        ∙ ap (λ x. more x (bound_all bs (after (suc i) us))) (sym (b.puts place))
      where
        long_map : i < length (map (term_at s) ps)
        long_map = omega (arith, within, length-map ps (term_at s))

    -- One more pair is unified, or none can be.
    pub next_begun : (later : Contents) → Unified true t argument place later → AreBegun (suc i) s ts us later
    next_begun later u =
        let bs = b.bindings in
        let cs = u.0 in
        record {
          bindings = bs ++ cs;
          puts = λ p. u.1.1 p ∙ ap (bound cs) (b.puts p) ∙ sym (bound-more bs cs (term_at s p));
          goes = b.goes
              ∙ ap (option_map (λ later. bs ++ later))
              (ap₂ (solve_all []) left_is right_is
              ∙ some_first (term_at t argument) (term_at t place) (bound_all bs (after (suc i) ts)) (bound_all bs (after (suc i) us)) cs u.1.0)
              ∙ joined bs cs (solve_all [] (bound_all cs (bound_all bs (after (suc i) ts))) (bound_all cs (bound_all bs (after (suc i) us))))
              ∙ ap₂ (λ xs ys. option_map (λ later. (bs ++ cs) ++ later) (solve_all [] xs ys)) (bound_on bs cs (after (suc i) ts)) (bound_on bs cs (after (suc i) us));
        }

    pub next_fails : unify (term_at t argument) (term_at t place) ≡ None → solve_all [] ts us ≡ None
    next_fails e =
        b.goes
        ∙ ap (option_map (λ later. b.bindings ++ later))
        (ap₂ (solve_all []) left_is right_is
        ∙ none_first (term_at t argument) (term_at t place) (bound_all b.bindings (after (suc i) ts)) (bound_all b.bindings (after (suc i) us)) e)

-- All pairs are unified.
pub all_unified : (i : ℕ) (s : Contents) (ts us : Trees) (t : Contents) → AreBegun i s ts us t → count ts ≤ i → count us ≤ i → AreUnified true s ts us t
all_unified i s ts us t b short small =
    let bs = b.bindings in (
      bs,
      (
        b.goes
            ∙ ap (option_map (λ later. bs ++ later))
            (ap₂ (solve_all []) (ap (bound_all bs) (after_all ts i short) ∙ none_bound bs) (ap (bound_all bs) (after_all us i small) ∙ none_bound bs) ∙ none_left)
            ∙ ap Some (append-nil bs),
        b.puts,
      ),
    )
