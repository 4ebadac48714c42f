-- The arguments of a compound term, one after the other.
use Rattle.std.proofs.Common.{◌≡◌, ℕ, ◌+◌, ◌<◌, ◌≤◌, List, [], ◌∷◌, ◌++◌, length, get_or, map, take, drop, pos, sym, ap, subst, ◌∙◌, arith, length-take, length-drop}
use Rattle.std.specs.List.{All}
use Rattle.std.proofs.lemmas.List.{get_or-drop, get_or-take, map-append, take_all, take_more}
use Rattle.std.proofs.lemmas.List.Elements.{All-more}
use Rattle.term_store.specs.declared.words.Word.{Word}
use Rattle.term_store.specs.declared.words.Word.TheVariants.{Int}
use Rattle.term_store.specs.declared.words.Head.{Head}
use Rattle.term_store.specs.Heap.{words_of}

pub arguments_long : (ws : List Word) (g : Head) → g.start + g.count ≤ length ws → length (words_of ws g) ≡ g.count
arguments_long ws g within = omega (arith, length-take g.count (drop g.start ws), length-drop g.start ws)

pub argument_at : (ws : List Word) (g : Head) (i : ℕ) → i < g.count → get_or (words_of ws g) i (Int (pos 0)) ≡ get_or ws (g.start + i) (Int (pos 0))
argument_at ws g i lt = get_or-take g.count (drop g.start ws) i (Int (pos 0)) lt ∙ get_or-drop g.start ws i (Int (pos 0))

-- What holds of all arguments holds of each.
pub argument_is : (P : Word → Type 0) (ws : List Word) (g : Head) (i : ℕ) (w : Word) → g.start + g.count ≤ length ws → i < g.count
    → w ≡ get_or ws (g.start + i) (Int (pos 0)) → All P (words_of ws g) → P w
argument_is P ws g i w within lt e all =
    subst P (argument_at ws g i lt ∙ sym e) (all i (Int (pos 0)) (omega (arith, lt, arguments_long ws g within)))

-- What holds of the first arguments and of the next one.
pub arguments_more : (P : Word → Type 0) (ws : List Word) (g : Head) (i : ℕ) (w : Word) → g.start + g.count ≤ length ws → i < g.count
    → w ≡ get_or ws (g.start + i) (Int (pos 0)) → All P (take i (words_of ws g)) → P w → All P (take (i + 1) (words_of ws g))
arguments_more P ws g i w within lt e all one =
    All-more P (words_of ws g) i (Int (pos 0)) (omega (arith, lt, arguments_long ws g within)) all (subst P (e ∙ sym (argument_at ws g i lt)) one)

pub arguments_all : (ws : List Word) (g : Head) (i : ℕ) → g.start + g.count ≤ length ws → g.count ≤ i → take i (words_of ws g) ≡ words_of ws g
arguments_all ws g i within past = take_all i (words_of ws g) (omega (arith, past, arguments_long ws g within))

-- One more argument, changed.
pub arguments_mapped : (f : Word → Word) (ws : List Word) (g : Head) (i : ℕ) (v : Word) → g.start + g.count ≤ length ws → i < g.count
    → v ≡ f (get_or ws (g.start + i) (Int (pos 0))) → map f (take (i + 1) (words_of ws g)) ≡ map f (take i (words_of ws g)) ++ v ∷ []
arguments_mapped f ws g i v within lt e =
    ap (map f) (take_more (words_of ws g) i (Int (pos 0)) (omega (arith, lt, arguments_long ws g within)))
    ∙ map-append f (take i (words_of ws g)) (get_or (words_of ws g) i (Int (pos 0)) ∷ [])
    ∙ ap (λ w. map f (take i (words_of ws g)) ++ f w ∷ []) (argument_at ws g i lt)
    ∙ ap (λ w. map f (take i (words_of ws g)) ++ w ∷ []) (sym e)
