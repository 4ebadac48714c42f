-- The variables that were met are those of the term.
use Rattle.std.proofs.Common.{◌≡◌, Bool, true, false, ℕ, zero, ◌+◌, ◌<◌, ◌≤◌, List, [], ◌∷◌, ◌++◌, length, get_or, map, take, refl, sym, ap, ap₂, ◌∙◌}
use Rattle.std.specs.List.{All}
use Rattle.std.proofs.lemmas.Bool.{false≢true}
use Rattle.std.proofs.lemmas.List.{map_push, take_all, take_more}
use Rattle.std.proofs.lemmas.List.Elements.{All-head, All-tail}
use Rattle.pl_term.specs.Tree.{Tree, var, int, atom, comp}
use Rattle.pl_term.specs.Variables.{has, is_in, occurrences, variables}
use Rattle.pl_term.proofs.Distinct.{is_in-distinct}
use Rattle.pl_model.specs.Terms.{is_ground}
use Rattle.term_store.proofs.Grounding.{not_ground}
use Rattle.term_store.specs.declared.words.Place.{Place}
use Rattle.term_store.specs.Contents.{Contents, term_at}
use Rattle.builtin_term.specs.declared.met_variables.Met.{Met}
use Rattle.builtin_term.specs.TermWalks.{IsMet, numbers}

pub met_more : (es : List Met) (e : Met) (ps : List Place) (i : ℕ) (d p : Place) → i < length ps → e.place ≡ p → p ≡ get_or ps i d
    → map (λ (x : Met). x.place) es ≡ take i ps → map (λ (x : Met). x.place) (es ++ e ∷ []) ≡ take (i + 1) ps
met_more es e ps i d p lt at is before =
    map_push (λ (x : Met). x.place) es e ∙ ap₂ (λ xs x. xs ++ x ∷ []) before (at ∙ is) ∙ sym (take_more ps i d lt)

-- The number of a variable.
abbrev number : Tree → ℕ
number (var x) = x
number (int i) = zero
number (atom a) = zero
number (comp f t ts) = zero

numbers_at : (s : Contents) (es : List Met) → All (IsMet s) es → map (λ (e : Met). number (term_at s e.place)) es ≡ numbers es
numbers_at s [] all = refl
numbers_at s (e ∷ es) all = ap₂ ◌∷◌ (ap number (All-head (IsMet s) e es all).stands) (numbers_at s es (All-tail (IsMet s) e es all))

numbers_of : (xs : List ℕ) → map number (map var xs) ≡ xs
numbers_of [] = refl
numbers_of (x ∷ xs) = ap (λ ys. x ∷ ys) (numbers_of xs)

places_of : (s : Contents) (es : List Met) → map number (map (term_at s) (map (λ (e : Met). e.place) es)) ≡ map (λ (e : Met). number (term_at s e.place)) es
places_of s [] = refl
places_of s (e ∷ es) = ap (λ xs. number (term_at s e.place) ∷ xs) (places_of s es)

pub met_all : (s : Contents) (t : Tree) (es : List Met) (ps : List Place) (i : ℕ) → length ps ≤ i → All (IsMet s) es
    → map (λ (e : Met). e.place) es ≡ take i ps → map (term_at s) ps ≡ map var (variables t) → (x : ℕ) → is_in x (numbers es) ≡ has x t
met_all s t es ps i le all places stand x =
    let same : numbers es ≡ variables t =
    sym (numbers_at s es all) ∙ sym (places_of s es) ∙ ap (λ qs. map number (map (term_at s) qs)) (places ∙ take_all i ps le)
    ∙ ap (map number) stand ∙ numbers_of (variables t) in
    ap (is_in x) same ∙ is_in-distinct x (occurrences t)

-- A term without variables.
pub none_met : (t : Tree) → true ≡ is_ground t → (x : ℕ) → is_in x (numbers []) ≡ has x t
none_met t ground x = tells (has x t) refl
  where
    tells : (b : Bool) → has x t ≡ b → false ≡ b
    tells false e = refl
    tells true e = absurd (false≢true (not_ground t x e ∙ sym ground))
