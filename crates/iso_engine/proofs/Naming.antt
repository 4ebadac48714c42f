-- The names of the terms of a store are numbers of atoms.
use Rattle.std.proofs.Common.{ℕ, zero, suc, Bool, true, false, cond, ◌==◌, List, [], ◌∷◌, ◌++◌, map, get_or}
use Rattle.pl_term.specs.Tree.{Chars, Tree, Trees, var, int, atom, comp, none, more, trees, compound}
use Rattle.pl_term.specs.Variables.{replace, replace_all}
use Rattle.pl_model.specs.Unify.{Bindings, bound}
use Rattle.term_store.specs.declared.words.Word.{Word}
use Rattle.term_store.specs.declared.words.Word.TheVariants.{Var, Int, Atom, Comp}
use Rattle.term_store.specs.declared.words.Head.{Head}
use Rattle.term_store.specs.declared.words.Bond.{Bond}
use Rattle.term_store.specs.declared.words.Place.{Place}
use Rattle.term_store.specs.Heap.{Heap, atom_name, bindings, built, compounds, equations, equations_of, head_tree, raw, solved, word_tree, words_of}
use Rattle.term_store.specs.Contents.{Contents, term_at}

-- A name of one member at most.
abbrev pub IsShort : Chars → Type 0
IsShort [] = Unit {0}
IsShort (a ∷ []) = Unit {0}
IsShort (a ∷ (b ∷ bs)) = ⊥

-- Each name of the term has the property.
abbrev mutual
  pub AllNames : (Chars → Type 0) → Tree → Type 0
  AllNames P (var x) = Unit {0}
  AllNames P (int i) = Unit {0}
  AllNames P (atom a) = P a
  AllNames P (comp f t ts) = P f × (AllNames P t × AllNamesIn P ts)

  pub AllNamesIn : (Chars → Type 0) → Trees → Type 0
  AllNamesIn P none = Unit {0}
  AllNamesIn P (more t ts) = AllNames P t × AllNamesIn P ts

abbrev AllTerms : List Tree → Type 0
AllTerms [] = Unit {0}
AllTerms (t ∷ ts) = AllNames IsShort t × AllTerms ts

abbrev AllBound : Bindings → Type 0
AllBound [] = Unit {0}
AllBound (b ∷ bs) = AllNames IsShort b.1 × AllBound bs

terms-append : (xs ys : List Tree) → AllTerms xs → AllTerms ys → AllTerms (xs ++ ys)
terms-append [] ys h k = k
terms-append (x ∷ xs) ys h k = (h.0, terms-append xs ys h.1 k)

bound-append : (xs ys : Bindings) → AllBound xs → AllBound ys → AllBound (xs ++ ys)
bound-append [] ys h k = k
bound-append (x ∷ xs) ys h k = (h.0, bound-append xs ys h.1 k)

chosen : (b : Bool) (t u : Tree) → AllNames IsShort t → AllNames IsShort u → AllNames IsShort (cond b t u)
chosen true t u h k = h
chosen false t u h k = k

mutual
  replaced : (x : ℕ) (s t : Tree) → AllNames IsShort s → AllNames IsShort t → AllNames IsShort (replace x s t)
  replaced x s (var y) h k = chosen (x == y) s (var y) h tt
  replaced x s (int i) h k = tt
  replaced x s (atom a) h k = k
  replaced x s (comp f t ts) h k = (k.0, (replaced x s t h k.1.0, replaced_all x s ts h k.1.1))

  replaced_all : (x : ℕ) (s : Tree) (ts : Trees) → AllNames IsShort s → AllNamesIn IsShort ts → AllNamesIn IsShort (replace_all x s ts)
  replaced_all x s none h k = tt
  replaced_all x s (more t ts) h k = (replaced x s t h k.0, replaced_all x s ts h k.1)

bound_short : (bs : Bindings) (t : Tree) → AllBound bs → AllNames IsShort t → AllNames IsShort (bound bs t)
bound_short [] t h k = k
bound_short (b ∷ bs) t h k = bound_short bs (replace b.0 b.1 t) h.1 (replaced b.0 b.1 t h.0 k)

solved_short : (bs es : Bindings) → AllBound bs → AllBound es → AllBound (solved bs es)
solved_short bs [] h k = tt
solved_short bs (e ∷ es) h k =
    let one = bound_short bs e.1 h k.0
    in (one, solved_short (bs ++ (e.0, bound bs e.1) ∷ []) es (bound-append bs ((e.0, bound bs e.1) ∷ []) h (one, tt)) k.1)

term_short : (ts : List Tree) (k : ℕ) → AllTerms ts → AllNames IsShort (get_or ts k (atom []))
term_short [] k h = tt
term_short (t ∷ ts) zero h = h.0
term_short (t ∷ ts) (suc k) h = term_short ts k h.1

word_short : (numbers : List ℕ) (done : List Tree) (w : Word) → AllTerms done → AllNames IsShort (word_tree numbers done w)
word_short numbers done (Var i) h = tt
word_short numbers done (Int i) h = tt
word_short numbers done (Atom a) h = tt
word_short numbers done (Comp k) h = term_short done k h

words_short : (numbers : List ℕ) (done : List Tree) (ws : List Word) → AllTerms done → AllTerms (map (word_tree numbers done) ws)
words_short numbers done [] h = tt
words_short numbers done (w ∷ ws) h = (word_short numbers done w h, words_short numbers done ws h)

trees_short : (ts : List Tree) → AllTerms ts → AllNamesIn IsShort (trees ts)
trees_short [] h = tt
trees_short (t ∷ ts) h = (h.0, trees_short ts h.1)

compound_short : (a : ℕ) (ts : List Tree) → AllTerms ts → AllNames IsShort (compound (atom_name a) ts)
compound_short a [] h = tt
compound_short a (t ∷ ts) h = (tt, (h.0, trees_short ts h.1))

built_short : (numbers : List ℕ) (args : List Word) (hs : List Head) (done : List Tree) → AllTerms done → AllTerms (built numbers args hs done)
built_short numbers args [] done h = h
built_short numbers args (x ∷ hs) done h =
    built_short numbers args hs (done ++ head_tree numbers args done x ∷ [])
    (terms-append done (head_tree numbers args done x ∷ []) h (compound_short x.name _ (words_short numbers done (words_of args x) h), tt))

compounds_short : (numbers : List ℕ) (args : List Word) (hs : List Head) → AllTerms (compounds numbers args hs)
unfolding compounds
compounds_short numbers args hs = built_short numbers args hs [] tt

equations_short : (numbers : List ℕ) (done : List Tree) (bs : List Bond) → AllTerms done → AllBound (equations_of numbers done bs)
equations_short numbers done [] h = tt
equations_short numbers done (b ∷ bs) h = (word_short numbers done b.word h, equations_short numbers done bs h)

bindings_short : (h : Heap) → AllBound (bindings h)
unfolding bindings
bindings_short h = solved_short [] (equations h) tt (equations_short h.numbers (compounds h.numbers h.args h.heads) h.trail (compounds_short h.numbers h.args h.heads))

-- The names of the term at a place.
pub names_short : (s : Contents) (p : Place) → AllNames IsShort (term_at s p)
names_short s p =
    bound_short (bindings s.heap) (raw s.heap p.word) (bindings_short s.heap) (word_short s.heap.numbers (compounds s.heap.numbers s.heap.args s.heap.heads) p.word (compounds_short s.heap.numbers s.heap.args s.heap.heads))
