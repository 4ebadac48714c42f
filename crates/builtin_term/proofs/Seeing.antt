-- The order of two terms is that of what they say by themselves, then that of their arguments.
use Rattle.std.proofs.Common.{◌≡◌, ℕ, suc, ◌<◌, List, [], ◌∷◌, length, drop, IsSome, false, refl, sym, ap, ap₂, subst, ◌∙◌, arith, length-drop}
use Rattle.std.specs.List.{All}
use Rattle.std.specs.Ordering.{nat_cmp, ordering_then, is_ne}
use Rattle.std.specs.declared.cmp.Ordering.{Ordering}
use Rattle.std.specs.declared.cmp.Ordering.TheVariants.{Less, Equal, Greater}
use Rattle.std.proofs.lemmas.Bool.Decides.{nat_tests}
use Rattle.std.proofs.lemmas.List.{length-map, length-take-le}
use Rattle.std.proofs.lemmas.List.Elements.{All-head, All-tail, All-nil, All-cons}
use Rattle.pl_term.specs.Tree.{Chars, Tree, Trees, int, comp, compound, trees, count}
use Rattle.pl_term.specs.NodeLists.{node_order}
use Rattle.pl_term.specs.Order.{order, text_order}
use Rattle.pl_term.proofs.OrderLemmas.{equal_from}
use Rattle.pl_term.proofs.TextOrder.{nat_cmp-same, then_assoc}
use Rattle.atom_api.specs.Names.{Names}
use Rattle.term_store.specs.declared.views.View.{View}
use Rattle.term_store.specs.declared.views.View.TheVariants.{Variable, Integer, Atom, Compound}
use Rattle.term_store.specs.declared.views.Arguments.{Arguments}
use Rattle.term_store.specs.Heap.{atom_name, meaning}
use Rattle.term_store.specs.Contents.{Contents, IsArguments, Views, arguments_at, words_at}
use Rattle.world_builtins.specs.Naming.{atoms_in, atoms_in_all}
use Rattle.world_builtins.specs.Nodes.{IsNodeHeld, spelled_node}
use Rattle.world_builtins.specs.Spelling.{spelled, spelled_all}
use Rattle.builtin_rows.specs.Lists.{AreHeld}
use Rattle.builtin_term.specs.Heads.{argument_count, behind, head, IsHeldBehind, list_order}
use Rattle.builtin_term.proofs.Coursing.{parted}

pub then_equal : (o : Ordering) → ordering_then o Equal ≡ o
then_equal Less = refl
then_equal Equal = refl
then_equal Greater = refl

-- A text is in its own place.
pub same_texts : (t : Chars) → text_order t t ≡ Equal
same_texts [] = refl
same_texts (c ∷ cs) = ap (λ o. ordering_then o (text_order cs cs)) (nat_cmp-same c c refl) ∙ same_texts cs

pub equal_from_not_ne : (o : Ordering) → is_ne o ≡ false → o ≡ Equal
equal_from_not_ne Less e = cc
equal_from_not_ne Equal e = refl
equal_from_not_ne Greater e = cc

first_equal : (o p : Ordering) → ordering_then o p ≡ Equal → o ≡ Equal
first_equal Less p e = e
first_equal Equal p e = refl
first_equal Greater p e = e

nat_cmp-suc : (k l : ℕ) → nat_cmp (suc k) (suc l) ≡ nat_cmp k l
nat_cmp-suc k l = grind (arith, nat_tests)

pub count_listed : (g : Chars → Chars) (ts : List Tree) → count (spelled_all g (trees ts)) ≡ length ts
count_listed g [] = refl
count_listed g (t ∷ ts) = ap suc (count_listed g ts)

-- As many arguments are seen as the term has.
pub arguments_long : (s : Contents) (a : Arguments) → IsArguments s a → length (arguments_at s a) ≡ a.count
arguments_long s a i =
    length-map (words_at s a) (meaning s.heap)
    ∙ length-take-le a.count (drop a.start s.heap.args) (omega (arith, length-drop a.start s.heap.args, i.within))

compounds : (g : Chars → Chars) (f h : Chars) (ts us : List Tree) (k l : ℕ) → 0 < k → 0 < l → length ts ≡ k → length us ≡ l
    → order (spelled g (compound f ts)) (spelled g (compound h us))
    ≡ ordering_then (ordering_then (nat_cmp k l) (text_order (g f) (g h))) (list_order g ts us)
compounds g f h [] us k l a b e d = absurd (omega arith)
compounds g f h (t ∷ ts) [] k l a b e d = absurd (omega arith)
compounds g f h (t ∷ ts) (u ∷ us) k l a b e d =
    let names = text_order (g f) (g h) in
    let rest = list_order g (t ∷ ts) (u ∷ us) in
    ap₂ (λ i j. ordering_then (nat_cmp i j) (ordering_then names rest)) (count_listed g ts) (count_listed g us)
    ∙ ap (λ o. ordering_then o (ordering_then names rest)) (sym (nat_cmp-suc (length ts) (length us)) ∙ ap₂ nat_cmp e d)
    ∙ sym (then_assoc (nat_cmp k l) names rest)

-- A term that is seen as a compound one is one.
as_compound : (P : Tree → Type 0) (s : Contents) (t : Tree) (f : ℕ) (a : Arguments) → Views s t (Compound f a)
    → ((x : Tree) (xs : Trees) → P (comp (atom_name f) x xs)) → P t
as_compound P s t f a v h = subst P (sym v.0) (go (arguments_at s a) (omega (arith, arguments_long s a v.1.0, v.1.1)))
  where
    go : (ts : List Tree) → 0 < length ts → P (compound (atom_name f) ts)
    go [] lt = absurd (omega arith)
    go (x ∷ xs) lt = h x (trees xs)

pub by_heads : (g : Chars → Chars) (s : Contents) (t u : Tree) (v w : View) → Views s t v → Views s u w
    → order (spelled g t) (spelled g u) ≡ ordering_then (node_order (spelled_node g (head v)) (spelled_node g (head w))) (behind g s v w)
by_heads g s t u (Variable x) (Variable y) e d = ap₂ (λ a b. order (spelled g a) (spelled g b)) e d ∙ sym (then_equal (nat_cmp x y))
by_heads g s t u (Variable x) (Integer j) e d = ap₂ (λ a b. order (spelled g a) (spelled g b)) e d
by_heads g s t u (Variable x) (Atom b) e d = ap₂ (λ a b. order (spelled g a) (spelled g b)) e d
by_heads g s t u (Variable x) (Compound h b) e d =
    as_compound (λ c. order (spelled g t) (spelled g c) ≡ Less) s u h b d (λ y ys. ap (λ a. order (spelled g a) (spelled g (comp (atom_name h) y ys))) e)
by_heads g s t u (Integer i) (Variable y) e d = ap₂ (λ a b. order (spelled g a) (spelled g b)) e d
by_heads g s t u (Integer i) (Integer j) e d =
    ap₂ (λ a b. order (spelled g a) (spelled g b)) e d ∙ sym (then_equal (order (int i) (int j)))
by_heads g s t u (Integer i) (Atom b) e d = ap₂ (λ a b. order (spelled g a) (spelled g b)) e d
by_heads g s t u (Integer i) (Compound h b) e d =
    as_compound (λ c. order (spelled g t) (spelled g c) ≡ Less) s u h b d (λ y ys. ap (λ a. order (spelled g a) (spelled g (comp (atom_name h) y ys))) e)
by_heads g s t u (Atom a) (Variable y) e d = ap₂ (λ a b. order (spelled g a) (spelled g b)) e d
by_heads g s t u (Atom a) (Integer j) e d = ap₂ (λ a b. order (spelled g a) (spelled g b)) e d
by_heads g s t u (Atom a) (Atom b) e d =
    ap₂ (λ a b. order (spelled g a) (spelled g b)) e d ∙ sym (then_equal (text_order (g (atom_name a)) (g (atom_name b))))
by_heads g s t u (Atom a) (Compound h b) e d =
    as_compound (λ c. order (spelled g t) (spelled g c) ≡ Less) s u h b d (λ y ys. ap (λ a. order (spelled g a) (spelled g (comp (atom_name h) y ys))) e)
by_heads g s t u (Compound f a) (Variable y) e d =
    as_compound (λ c. order (spelled g c) (spelled g u) ≡ Greater) s t f a e (λ x xs. ap (λ b. order (spelled g (comp (atom_name f) x xs)) (spelled g b)) d)
by_heads g s t u (Compound f a) (Integer j) e d =
    as_compound (λ c. order (spelled g c) (spelled g u) ≡ Greater) s t f a e (λ x xs. ap (λ b. order (spelled g (comp (atom_name f) x xs)) (spelled g b)) d)
by_heads g s t u (Compound f a) (Atom b) e d =
    as_compound (λ c. order (spelled g c) (spelled g u) ≡ Greater) s t f a e (λ x xs. ap (λ b. order (spelled g (comp (atom_name f) x xs)) (spelled g b)) d)
by_heads g s t u (Compound f a) (Compound h b) e d =
    ap₂ (λ a b. order (spelled g a) (spelled g b)) e.0 d.0
    ∙ compounds g (atom_name f) (atom_name h) (arguments_at s a) (arguments_at s b) a.count b.count e.1.1 d.1.1 (arguments_long s a e.1.0)
    (arguments_long s b d.1.0)

-- Terms that say the same by themselves have as many arguments.
pub same_counts : (g : Chars → Chars) (v w : View) → node_order (spelled_node g (head v)) (spelled_node g (head w)) ≡ Equal → argument_count v ≡ argument_count w
same_counts g (Variable x) (Variable y) e = refl
same_counts g (Variable x) (Integer j) e = refl
same_counts g (Variable x) (Atom b) e = refl
same_counts g (Variable x) (Compound h b) e = cc
same_counts g (Integer i) (Variable y) e = refl
same_counts g (Integer i) (Integer j) e = refl
same_counts g (Integer i) (Atom b) e = refl
same_counts g (Integer i) (Compound h b) e = cc
same_counts g (Atom a) (Variable y) e = refl
same_counts g (Atom a) (Integer j) e = refl
same_counts g (Atom a) (Atom b) e = refl
same_counts g (Atom a) (Compound h b) e = cc
same_counts g (Compound f a) (Variable y) e = cc
same_counts g (Compound f a) (Integer j) e = cc
same_counts g (Compound f a) (Atom b) e = cc
same_counts g (Compound f a) (Compound h b) e =
    equal_from a.count b.count (first_equal (nat_cmp a.count b.count) (text_order (g (atom_name f)) (g (atom_name h))) e)

-- Where the atoms of a term are held, those of what it says by itself and of its arguments are.
listed_held : (m : Names) (ts : List Tree) → All (λ a. IsSome (m a)) (atoms_in_all (trees ts)) → AreHeld m ts
listed_held m [] h = All-nil (λ t. All (λ a. IsSome (m a)) (atoms_in t))
listed_held m (t ∷ ts) h =
    let r : All (λ a. IsSome (m a)) (atoms_in t) × All (λ a. IsSome (m a)) (atoms_in_all (trees ts)) = parted (λ a. IsSome (m a)) (atoms_in t) (atoms_in_all (trees ts)) h in
    All-cons (λ u. All (λ a. IsSome (m a)) (atoms_in u)) t ts r.0 (listed_held m ts r.1)

compound_held : (m : Names) (f : ℕ) (ts : List Tree) → 0 < length ts → All (λ a. IsSome (m a)) (atoms_in (compound (atom_name f) ts)) → IsSome (m f) × AreHeld m ts
compound_held m f [] lt h = absurd (omega arith)
compound_held m f (t ∷ ts) lt h =
    let all = atoms_in_all (trees (t ∷ ts)) in
    (All-head (λ a. IsSome (m a)) f all h, listed_held m (t ∷ ts) (All-tail (λ a. IsSome (m a)) f all h))

pub held_parts : (m : Names) (s : Contents) (t : Tree) (v : View) → Views s t v → All (λ a. IsSome (m a)) (atoms_in t) → IsNodeHeld m (head v) × IsHeldBehind m s v
held_parts m s t (Variable x) e h = (tt, tt)
held_parts m s t (Integer i) e h = (tt, tt)
held_parts m s t (Atom a) e h = (All-head (λ a. IsSome (m a)) a [] (subst (λ u. All (λ a. IsSome (m a)) (atoms_in u)) e h), tt)
held_parts m s t (Compound f a) e h =
    compound_held m f (arguments_at s a) (omega (arith, arguments_long s a e.1.0, e.1.1)) (subst (λ u. All (λ a. IsSome (m a)) (atoms_in u)) e.0 h)
