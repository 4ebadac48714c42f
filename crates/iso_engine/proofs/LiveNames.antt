-- What all names have of the terms that stand in a store.
use Rattle.std.proofs.Common.{◌==◌, ℕ, zero, suc, Bool, true, false, cond, List, [], ◌∷◌, ◌++◌, map, drop, slice_index_or}
use Rattle.std.specs.List.{All}
use Rattle.std.proofs.lemmas.List.Elements.{All-nil, All-cons, All-head, All-tail, All-push, All-take, All-drop}
use Rattle.pl_term.specs.Tree.{Chars, Tree, Trees, var, int, atom, comp, none, more, compound, trees}
use Rattle.pl_term.specs.Variables.{replace, replace_all}
use Rattle.pl_model.specs.Unify.{Bindings, bound}
use Rattle.term_store.specs.declared.words.Word.{Word}
use Rattle.term_store.specs.declared.words.Word.TheVariants.{Var, Int, Atom, Comp}
use Rattle.term_store.specs.declared.words.Head.{Head}
use Rattle.term_store.specs.declared.words.Bond.{Bond}
use Rattle.term_store.specs.Heap.{Heap, atom_name, bindings, built, compounds, equations, equations_of, head_tree, meaning, raw, solved, word_tree, words_of}
use Rattle.iso_engine.proofs.Naming.{AllNames, AllNamesIn}

-- A member of a list, or what stands for none.
pub all_or : {X : Type 0} (Q : X → Type 0) (xs : List X) (i : ℕ) (d : X) → All Q xs → Q d → Q (slice_index_or xs i d)
all_or Q [] i d all other = other
all_or Q (x ∷ xs) zero d all other = All-head Q x xs all
all_or Q (x ∷ xs) (suc i) d all other = all_or Q xs i d (All-tail Q x xs all) other

module _ (P : Chars → Type 0) where
  abbrev Named : Tree → Type 0
  Named t = AllNames P t

  pick : (b : Bool) (t u : Tree) → Named t → Named u → Named (cond b t u)
  pick true t u a b = a
  pick false t u a b = b

  mutual
    replaced_named : (x : ℕ) (u t : Tree) → Named u → Named t → Named (replace x u t)
    replaced_named x u (var y) a b = pick (x == y) u (var y) a b
    replaced_named x u (int i) a b = tt
    replaced_named x u (atom f) a b = b
    replaced_named x u (comp f t ts) a b = (b.0, (replaced_named x u t a b.1.0, all_replaced_named x u ts a b.1.1))

    all_replaced_named : (x : ℕ) (u : Tree) (ts : Trees) → Named u → AllNamesIn P ts → AllNamesIn P (replace_all x u ts)
    all_replaced_named x u none a b = tt
    all_replaced_named x u (more t ts) a b = (replaced_named x u t a b.0, all_replaced_named x u ts a b.1)

  -- The terms of bindings.
  abbrev BoundNamed : Bindings → Type 0
  BoundNamed bs = All (λ b. Named b.1) bs

  bound_named : (bs : Bindings) (t : Tree) → BoundNamed bs → Named t → Named (bound bs t)
  bound_named [] t all named = named
  bound_named (b ∷ bs) t all named =
      bound_named bs (replace b.0 b.1 t) (All-tail (λ c. Named c.1) b bs all) (replaced_named b.0 b.1 t (All-head (λ c. Named c.1) b bs all) named)

  solved_named : (bs es : Bindings) → BoundNamed bs → BoundNamed es → BoundNamed (solved bs es)
  solved_named bs [] a b = All-nil (λ c. Named c.1)
  solved_named bs (e ∷ es) a b =
      let here = bound_named bs e.1 a (All-head (λ c. Named c.1) e es b)
      in All-cons (λ c. Named c.1) (e.0, bound bs e.1) (solved (bs ++ (e.0, bound bs e.1) ∷ []) es) here
      (solved_named (bs ++ (e.0, bound bs e.1) ∷ []) es (All-push (λ c. Named c.1) bs (e.0, bound bs e.1) a here) (All-tail (λ c. Named c.1) e es b))

  trees_named : (ts : List Tree) → All Named ts → AllNamesIn P (trees ts)
  trees_named [] all = tt
  trees_named (t ∷ ts) all = (All-head Named t ts all, trees_named ts (All-tail Named t ts all))

  pub compound_named : (f : Chars) (ts : List Tree) → P f → All Named ts → Named (compound f ts)
  compound_named f [] a all = a
  compound_named f (t ∷ ts) a all = (a, (All-head Named t ts all, trees_named ts (All-tail Named t ts all)))

  -- What stands in a heap
  abbrev pub WordNamed : Word → Type 0
  WordNamed (Atom a) = P (atom_name a)
  WordNamed _ = Unit {0}

  pub record HeapNamed (h : Heap) : Type 0 where
    pub heads : All (λ x. P (atom_name x.name)) h.heads
    pub args : All WordNamed h.args
    pub trail : All (λ b. WordNamed b.word) h.trail

  module _ (nothing : P []) where
    word_named : (numbers : List ℕ) (done : List Tree) (w : Word) → All Named done → WordNamed w → Named (word_tree numbers done w)
    word_named numbers done (Var i) all a = tt
    word_named numbers done (Int i) all a = tt
    word_named numbers done (Atom x) all a = a
    word_named numbers done (Comp k) all a = all_or Named done k (atom []) all nothing

    words_named : (numbers : List ℕ) (done : List Tree) (ws : List Word) → All Named done → All WordNamed ws → All Named (map (word_tree numbers done) ws)
    words_named numbers done [] all a = All-nil Named
    words_named numbers done (w ∷ ws) all a =
        All-cons Named (word_tree numbers done w) (map (word_tree numbers done) ws) (word_named numbers done w all (All-head WordNamed w ws a))
        (words_named numbers done ws all (All-tail WordNamed w ws a))

    head_named : (numbers : List ℕ) (args : List Word) (done : List Tree) (h : Head) → All WordNamed args → All Named done → P (atom_name h.name)
        → Named (head_tree numbers args done h)
    head_named numbers args done h a all name =
        compound_named (atom_name h.name) (map (word_tree numbers done) (words_of args h)) name
        (words_named numbers done (words_of args h) all (All-take WordNamed h.count (drop h.start args) (All-drop WordNamed h.start args a)))

    built_named : (numbers : List ℕ) (args : List Word) (hs : List Head) (done : List Tree) → All (λ x. P (atom_name x.name)) hs → All WordNamed args → All Named done
        → All Named (built numbers args hs done)
    built_named numbers args [] done n a all = all
    built_named numbers args (h ∷ hs) done n a all =
        built_named numbers args hs (done ++ head_tree numbers args done h ∷ []) (All-tail (λ x. P (atom_name x.name)) h hs n) a
        (All-push Named done (head_tree numbers args done h) all (head_named numbers args done h a all (All-head (λ x. P (atom_name x.name)) h hs n)))

    compounds_named : (h : Heap) → HeapNamed h → All Named (compounds h.numbers h.args h.heads)
    unfolding compounds
    compounds_named h n = built_named h.numbers h.args h.heads [] n.heads n.args (All-nil Named)

    equations_named : (numbers : List ℕ) (done : List Tree) (bs : List Bond) → All Named done → All (λ b. WordNamed b.word) bs → BoundNamed (equations_of numbers done bs)
    equations_named numbers done [] all a = All-nil (λ c. Named c.1)
    equations_named numbers done (b ∷ bs) all a =
        All-cons (λ c. Named c.1) (slice_index_or numbers b.slot zero, word_tree numbers done b.word) (equations_of numbers done bs)
        (word_named numbers done b.word all (All-head (λ b. WordNamed b.word) b bs a)) (equations_named numbers done bs all (All-tail (λ b. WordNamed b.word) b bs a))

    bindings_named : (h : Heap) → HeapNamed h → BoundNamed (bindings h)
    unfolding bindings
    bindings_named h n =
        solved_named [] (equations h) (All-nil (λ c. Named c.1)) (equations_named h.numbers (compounds h.numbers h.args h.heads) h.trail (compounds_named h n) n.trail)

    -- The term that stands at a place of it.
    pub meaning_named : (h : Heap) (w : Word) → HeapNamed h → WordNamed w → Named (meaning h w)
    meaning_named h w n a = bound_named (bindings h) (raw h w) (bindings_named h n) (word_named h.numbers (compounds h.numbers h.args h.heads) w (compounds_named h n) a)
