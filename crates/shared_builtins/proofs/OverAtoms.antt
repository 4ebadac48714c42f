-- Each name of a store's terms, and of a stored one, is that of an atom.
use Rattle.std.proofs.Common.{◌≡◌, ℕ, zero, suc, ◌<◌, List, [], ◌∷◌, ◌++◌, length, get_or, map, refl, sym, ap₂, subst, ◌∙◌, arith, length-append}
use Rattle.std.specs.List.{All}
use Rattle.std.proofs.lemmas.List.Elements.{All-head, All-tail}
use Rattle.pl_term.specs.Tree.{Chars, Tree, atom, comp, more, trees, compound}
use Rattle.pl_term.specs.Variables.{replace}
use Rattle.pl_model.specs.Unify.{Bindings, bound}
use Rattle.term_store.specs.declared.words.Word.{Word}
use Rattle.term_store.specs.declared.words.Word.TheVariants.{Var, Int, Atom, Comp}
use Rattle.term_store.specs.declared.words.Head.{Head}
use Rattle.term_store.specs.declared.words.Bond.{Bond}
use Rattle.term_store.specs.declared.words.Place.{Place}
use Rattle.term_store.specs.declared.words.StoreMark.{StoreMark}
use Rattle.term_store.specs.Contents.{Contents, Holds, IsMark, back_to, term_at}
use Rattle.term_store.specs.Fit.{IsWord, IsIn, IsHead, IsBond, Fit, no_head}
use Rattle.term_store.specs.Heap.{Heap, atom_name, word_tree, words_of, head_tree, built, compounds, raw, equations_of, equations, solved, bindings, meaning}
use Rattle.term_store.specs.NameUnification.{replace-spelled}
use Rattle.term_store.specs.NumberedNames.{by_number, number_of, spelled_all}
use Rattle.term_store.proofs.Building.{HeadsFrom, heads_from, length-built}

-- Each name of the term is that of an atom.
abbrev pub IsOverAtoms : Tree → Type 0
IsOverAtoms t = by_number t ≡ t

abbrev named : Chars → Chars
named f = atom_name (number_of f)

-- A term of a store

abbrev AllOver : List Tree → Type 0
AllOver [] = Unit {0}
AllOver (t ∷ ts) = IsOverAtoms t × AllOver ts

abbrev BoundOver : Bindings → Type 0
BoundOver [] = Unit {0}
BoundOver (b ∷ bs) = IsOverAtoms b.1 × BoundOver bs

all_more : (ts : List Tree) (t : Tree) → AllOver ts → IsOverAtoms t → AllOver (ts ++ t ∷ [])
all_more [] t all over = (over, tt)
all_more (u ∷ us) t all over = (all.0, all_more us t all.1 over)

bound_more : (bs : Bindings) (x : ℕ) (t : Tree) → BoundOver bs → IsOverAtoms t → BoundOver (bs ++ (x, t) ∷ [])
bound_more [] x t all over = (over, tt)
bound_more (b ∷ bs) x t all over = (all.0, bound_more bs x t all.1 over)

replaced_over : (x : ℕ) (u t : Tree) → IsOverAtoms u → IsOverAtoms t → IsOverAtoms (replace x u t)
replaced_over x u t p q = sym (replace-spelled named x u t) ∙ ap₂ (replace x) p q

bound_over : (bs : Bindings) (t : Tree) → BoundOver bs → IsOverAtoms t → IsOverAtoms (bound bs t)
bound_over [] t all over = over
bound_over (b ∷ bs) t all over = bound_over bs (replace b.0 b.1 t) all.1 (replaced_over b.0 b.1 t all.0 over)

solved_over : (bs es : Bindings) → BoundOver bs → BoundOver es → BoundOver (solved bs es)
solved_over bs [] p q = tt
solved_over bs (e ∷ es) p q =
    let here : IsOverAtoms (bound bs e.1) = bound_over bs e.1 p q.0 in
    (here, solved_over (bs ++ (e.0, bound bs e.1) ∷ []) es (bound_more bs e.0 (bound bs e.1) p here) q.1)

member_over : (ts : List Tree) (k : ℕ) → k < length ts → AllOver ts → IsOverAtoms (get_or ts k (atom []))
member_over [] k lt all = absurd (omega (arith, lt))
member_over (t ∷ ts) zero lt all = all.0
member_over (t ∷ ts) (suc k) lt all = member_over ts k (omega (arith, lt)) all.1

word_over : (numbers : List ℕ) (done : List Tree) (n : ℕ) (w : Word) → IsWord n (length done) w → AllOver done → IsOverAtoms (word_tree numbers done w)
word_over numbers done n (Var i) inside all = refl
word_over numbers done n (Int i) inside all = refl
word_over numbers done n (Atom a) inside all = refl
word_over numbers done n (Comp k) inside all = member_over done k inside all

words_over : (numbers : List ℕ) (done : List Tree) (n : ℕ) (ws : List Word) → All (IsWord n (length done)) ws → AllOver done
    → AllOver (map (word_tree numbers done) ws)
words_over numbers done n [] inside all = tt
words_over numbers done n (w ∷ ws) inside all = (
  word_over numbers done n w (All-head (IsWord n (length done)) w ws inside) all,
  words_over numbers done n ws (All-tail (IsWord n (length done)) w ws inside) all,
)

trees_over : (ts : List Tree) → AllOver ts → spelled_all named (trees ts) ≡ trees ts
trees_over [] all = refl
trees_over (t ∷ ts) all = ap₂ more all.0 (trees_over ts all.1)

compound_over : (f : ℕ) (ts : List Tree) → AllOver ts → IsOverAtoms (compound (atom_name f) ts)
compound_over f [] all = refl
compound_over f (t ∷ ts) all = ap₂ (comp (atom_name f)) all.0 (trees_over ts all.1)

built_over : (numbers : List ℕ) (args : List Word) (n : ℕ) (hs : List Head) (done : List Tree) → HeadsFrom n args (length done) hs → AllOver done
    → AllOver (built numbers args hs done)
built_over numbers args n [] done fits all = all
built_over numbers args n (h ∷ hs) done fits all =
    let t : Tree = head_tree numbers args done h in
    let long : length (done ++ t ∷ []) ≡ suc (length done) = length-append done (t ∷ []) ∙ omega arith in
    built_over numbers args n hs (done ++ t ∷ []) (subst (λ k. HeadsFrom n args k hs) (sym long) fits.1)
    (all_more done t all (compound_over h.name (map (word_tree numbers done) (words_of args h)) (words_over numbers done n (words_of args h) fits.0.earlier all)))

equations_over : (numbers : List ℕ) (done : List Tree) (n : ℕ) (bs : List Bond) → All (IsBond n (length done)) bs → AllOver done
    → BoundOver (equations_of numbers done bs)
equations_over numbers done n [] fits all = tt
equations_over numbers done n (b ∷ bs) fits all = (
  word_over numbers done n b.word (All-head (IsBond n (length done)) b bs fits).word all,
  equations_over numbers done n bs (All-tail (IsBond n (length done)) b bs fits) all,
)

module _ (h : Heap) (fit : Fit h) where
  done : List Tree
  done = compounds h.numbers h.args h.heads

  many : length done ≡ length h.heads
  unfolding done compounds
  many = length-built h.numbers h.args h.heads [] ∙ omega arith

  each_over : AllOver done
  unfolding done compounds
  each_over =
      built_over h.numbers h.args (length h.numbers) h.heads []
      (heads_from (length h.numbers) h.args 0 h.heads (λ j lt. subst (λ i. IsHead (length h.numbers) h.args i (get_or h.heads j no_head)) (omega arith) (fit.heads j lt))) tt

  binds_over : BoundOver (bindings h)
  unfolding bindings done
  binds_over =
      solved_over [] (equations h) tt
      (equations_over h.numbers done (length h.numbers) h.trail (subst (λ m. All (IsBond (length h.numbers) m) h.trail) (sym many) fit.bonds) each_over)

  raw_over : (w : Word) → IsIn h w → IsOverAtoms (raw h w)
  unfolding done
  raw_over w inside =
      word_over h.numbers done (length h.numbers) w (subst (λ m. IsWord (length h.numbers) m w) (sym many) inside) each_over

  pub meaning_over : (w : Word) → IsIn h w → IsOverAtoms (meaning h w)
  meaning_over w inside = bound_over (bindings h) (raw h w) binds_over (raw_over w inside)

pub place_over : (s : Contents) (p : Place) → Fit s.heap → Holds s p → IsOverAtoms (term_at s p)
place_over s p fit held = meaning_over s.heap fit p.word held

-- A mark of the whole store shows that the heap is a fit one.
pub marked_over : (s : Contents) (k : StoreMark) (p : Place) → IsMark k s → back_to k s ≡ s → Holds s p → IsOverAtoms (term_at s p)
marked_over s k p mark here held = place_over s p (subst (λ (c : Contents). Fit c.heap) here mark.fit) held
