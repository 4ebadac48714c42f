-- Stores in which terms were made one after the other, and new variables.
use Rattle.std.proofs.Common.{◌≡◌, ℕ, zero, suc, ◌+◌, ◌<◌, List, [], ◌∷◌, ◌++◌, length, map, refl, sym, ap, ap₂, subst, ◌∙◌, append_assoc, append-nil, arith, add-one}
use Rattle.std.specs.List.{All}
use Rattle.std.proofs.lemmas.List.{length-map, map-append}
use Rattle.std.proofs.lemmas.List.Elements.{All-append, All-head, All-nil, All-push, All-tail, All-weaker}
use Rattle.pl_term.specs.Tree.{Chars, Tree, var, more, compound, trees}
use Rattle.pl_model.specs.Terms.{named_term}
use Rattle.pl_model.specs.TermBuiltins.{new_variables}
use Rattle.term_store.specs.declared.words.Place.{Place}
use Rattle.term_store.specs.Contents.{Adds, Contents, Holds, IsAbove, numbers_of, term_at, upwards}
use Rattle.term_store.specs.Contents.{Makes as IsMade}
use Rattle.term_store.proofs.Loading.{length-upwards, upwards_below}
use Rattle.builtin_rows.specs.Rows.{Makes}
use Rattle.builtin_rows.proofs.Balls.{makes_nothing}
use Rattle.world_builtins.specs.Naming.{atoms_in, atoms_in_all, number_of}
use Rattle.world_builtins.specs.Spelling.{spelled}
use Rattle.builtin_term.specs.Giving.{IsFresh}

-- One thing was made after another.
pub makes_both : (s t u : Contents) (a f k b g l next fresh made : ℕ) → Makes s a f k t → Makes t b g l u
    → upwards next fresh ≡ upwards a f ++ upwards b g → made ≡ k + l → Makes s next fresh made u
makes_both s t u a f k b g l next fresh made x y e d =
    record {
      others = λ p held. y.others p (x.adds.places p held) ∙ x.others p held;
      adds =
          record {
            places = λ p held. y.adds.places p (x.adds.places p held);
            marks = λ m mark. y.adds.marks m (x.adds.marks m mark);
            back = λ m mark. y.adds.back m (x.adds.marks m mark) ∙ x.adds.back m mark;
          };
      numbers =
          y.numbers ∙ ap (λ ns. ns ++ upwards b g) x.numbers ∙ append_assoc (numbers_of s) (upwards a f) (upwards b g)
          ∙ ap (λ ns. numbers_of s ++ ns) (sym e);
      used = omega (arith, x.used, y.used, d);
      budget = y.budget ∙ x.budget;
    }

-- A compound term was made after that.
pub makes_then : (s t u : Contents) (next f k : ℕ) → Makes s next f k t → Makes t zero zero zero u → Makes s next f k u
makes_then s t u next f k x y = makes_both s t u next f k zero zero zero next f k x y (sym (append-nil (upwards next f))) (omega arith)

-- Cells were taken before that.
pub makes_after : (s t u : Contents) (next f k : ℕ) → Makes s next zero k t → Makes t next f zero u → Makes s next f k u
makes_after s t u next f k x y = makes_both s t u next zero k next f zero next f k x y refl (omega arith)

-- Variables

pub makes_variable : (s t : Contents) (n : ℕ) (term : Tree) (p : Place) → IsMade s term t p → numbers_of t ≡ numbers_of s ++ n ∷ [] → Adds s t → Makes s n (suc zero) zero t
makes_variable s t n term p m e a =
    record {
      others = m.others;
      adds = a;
      numbers = e ∙ ap (λ k. numbers_of s ++ k ∷ []) (omega arith);
      used = m.used ∙ omega arith;
      budget = m.budget;
    }

pub above_fresh : (s t : Contents) (next i k : ℕ) → Makes s next i k t → IsAbove next s → IsAbove (next + i) t
above_fresh s t next i k x above =
    subst (All (λ n. n < next + i)) (sym x.numbers)
    (All-append (λ n. n < next + i) (numbers_of s) (upwards next i)
    (All-weaker (λ n. n < next) (λ n. n < next + i) (λ n lt. omega arith) (numbers_of s) above) (upwards_below next i))

pub map_still : (t u : Contents) (ps : List Place) → ((p : Place) → Holds t p → term_at u p ≡ term_at t p) → All (Holds t) ps → map (term_at u) ps ≡ map (term_at t) ps
map_still t u [] same h = refl
map_still t u (p ∷ ps) same h = ap₂ ◌∷◌ (same p (All-head (Holds t) p ps h)) (map_still t u ps same (All-tail (Holds t) p ps h))

pub holds_still : (s t : Contents) (ps : List Place) → Adds s t → All (Holds s) ps → All (Holds t) ps
holds_still s t ps adds h = All-weaker (Holds s) (Holds t) adds.places ps h

pub fresh_none : (s : Contents) (next : ℕ) (ps : List Place) → ps ≡ [] → IsFresh s next zero s ps
fresh_none s next ps e =
    let nothing = makes_nothing s in
    record {
      makes = record { others = nothing.others; adds = nothing.adds; numbers = nothing.numbers; used = nothing.used; budget = nothing.budget };
      inside = subst (All (Holds s)) (sym e) (All-nil (Holds s));
      stand = ap (map (term_at s)) e;
    }

pub fresh_more : (s t u : Contents) (next i : ℕ) (ps qs : List Place) (p : Place) → IsFresh s next i t ps → IsMade t (var (next + i)) u p
    → numbers_of u ≡ numbers_of t ++ (next + i) ∷ [] → Adds t u → qs ≡ ps ++ p ∷ [] → IsFresh s next (i + 1) u qs
fresh_more s t u next i ps qs p x made numbers adds e =
    record {
      makes =
          makes_both s t u next i zero (next + i) (suc zero) zero next (i + 1) zero x.makes (makes_variable t u (next + i) (var (next + i)) p made numbers adds)
          (ap (λ k. upwards next k) (add-one i) ∙ ap (λ k. upwards next i ++ k ∷ []) (omega arith)) (omega arith);
      inside = subst (All (Holds u)) (sym e) (All-push (Holds u) ps p (holds_still t u ps adds x.inside) made.holds);
      stand =
          ap (map (term_at u)) e ∙ map-append (term_at u) ps (p ∷ [])
          ∙ ap₂ (λ ts v. ts ++ v ∷ []) (map_still t u ps made.others x.inside ∙ x.stand) made.means
          ∙ sym (map-append var (upwards next i) ((next + i) ∷ []))
          ∙ ap (λ k. map var (upwards next k)) (sym (add-one i));
    }

pub fresh_count : (s t : Contents) (next k : ℕ) (ps : List Place) → IsFresh s next k t ps → length ps ≡ k
fresh_count s t next k ps x =
    sym (length-map ps (term_at t)) ∙ ap length x.stand ∙ length-map (upwards next k) var ∙ length-upwards next k

-- The variables as the definition lists them.
upwards_from : (next k : ℕ) → upwards next (suc k) ≡ next ∷ upwards (suc next) k
upwards_from next zero = ap (λ n. n ∷ []) (omega arith)
upwards_from next (suc k) = ap₂ (λ ns n. ns ++ n ∷ []) (upwards_from next k) (omega arith)

pub variables_listed : (next k : ℕ) → trees (map var (upwards next k)) ≡ new_variables next k
variables_listed next zero = refl
variables_listed next (suc k) = ap (λ ns. trees (map var ns)) (upwards_from next k) ∙ ap (more (var next)) (variables_listed (suc next) k)

pub variables_unspelled : (g : Chars → Chars) (xs : List ℕ) → map (spelled g) (map var xs) ≡ map var xs
variables_unspelled g [] = refl
variables_unspelled g (x ∷ xs) = ap (λ ts. var x ∷ ts) (variables_unspelled g xs)

pub named_compound : (f : Chars) (ts : List Tree) → compound f ts ≡ named_term f (trees ts)
named_compound f [] = refl
named_compound f (t ∷ ts) = refl

no_atoms : (xs : List ℕ) → atoms_in_all (trees (map var xs)) ≡ []
no_atoms [] = refl
no_atoms (x ∷ xs) = no_atoms xs

pub atoms_of_functor : (f : Chars) (xs : List ℕ) → atoms_in (compound f (map var xs)) ≡ number_of f ∷ []
atoms_of_functor f [] = refl
atoms_of_functor f (x ∷ xs) = ap (λ ns. number_of f ∷ ns) (no_atoms xs)
