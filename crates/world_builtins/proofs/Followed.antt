-- The terms at places, as they are written one after the other.
use Rattle.std.proofs.Common.{◌≡◌, ◌<◌, ◌≤◌, ◌-◌, ℕ, ℤ, suc, List, [], ◌∷◌, ◌++◌, length, drop, get_or, map, reverse, IsSome, refl, sym, ap, ap₂, subst, append_assoc, drop-cons, length-take, length-drop, ◌∙◌, arith}
use Rattle.std.specs.List.{All}
use Rattle.std.proofs.lemmas.List.{drop_all, length-map, reverse-append}
use Rattle.std.proofs.lemmas.List.Elements.{All-cons, All-get_or, All-head, All-nil, All-push, All-same, All-tail}
use Rattle.pl_term.specs.declared.node.Node.{Node}
use Rattle.pl_term.specs.declared.node.Node.TheVariants.{Var, Int, Atom, Comp}
use Rattle.pl_term.specs.Nodes.{nodes, nodes_all}
use Rattle.pl_term.specs.Tree.{Chars, Tree, atom, comp, compound, count, int, more, none, trees, var}
use Rattle.atom_api.specs.Names.{Names}
use Rattle.term_store.specs.declared.words.Place.{Place}
use Rattle.term_store.specs.declared.views.Arguments.{Arguments}
use Rattle.term_store.specs.Heap.{atom_name, meaning}
use Rattle.term_store.specs.Contents.{Contents, Holds, IsArguments, arguments_at, term_at, words_at}
use Rattle.term_writer.specs.declared.writing.Writing.{Writing}
use Rattle.term_writer.specs.Writings.{Goes, IsWanted, finished, wants}
use Rattle.world_builtins.specs.Following.{AreReadable, IsFirst, IsOn, Precedes, terms_ahead}
use Rattle.world_builtins.specs.Naming.{IsHeldAt, atoms_in, atoms_in_all}
use Rattle.world_builtins.specs.Spelling.{reads, spelled, spelled_all, text_of}

map_join : {A B : Type 0} (f : A → B) (xs ys : List A) → map f (xs ++ ys) ≡ map f xs ++ map f ys
map_join f [] ys = refl
map_join f (x ∷ xs) ys = ap (λ l. f x ∷ l) (map_join f xs ys)

map_twice : (s : Contents) (m : Names) (ps : List Place) → map (spelled (text_of m)) (map (term_at s) ps) ≡ map (reads m s) ps
map_twice s m [] = refl
map_twice s m (p ∷ ps) = ap (λ ts. reads m s p ∷ ts) (map_twice s m ps)

-- Places of arguments

pub how_many_at : (s : Contents) (a : Arguments) → IsArguments s a → length (arguments_at s a) ≡ a.count
how_many_at s a is =
    omega (arith, length-map (words_at s a) (meaning s.heap), length-take a.count (drop a.start s.heap.args), length-drop a.start s.heap.args, is.within)

pub none_precede : (s : Contents) (ts : List Tree) (old : List Place) (i : ℕ) → length ts ≤ i
    → map (term_at s) (reverse old) ≡ drop i ts ++ map (term_at s) (reverse old)
none_precede s ts old i le = ap (λ us. us ++ map (term_at s) (reverse old)) (sym (drop_all i ts le))

pub one_precedes : (s : Contents) (ts : List Tree) (old here new : List Place) (p : Place) (i : ℕ) → 0 < i → i ≤ length ts
    → map (term_at s) (reverse here) ≡ drop i ts ++ map (term_at s) (reverse old) → new ≡ here ++ p ∷ [] → term_at s p ≡ get_or ts (i - 1) (atom [])
    → map (term_at s) (reverse new) ≡ drop (i - 1) ts ++ map (term_at s) (reverse old)
one_precedes s ts old here new p i some within before e at =
    let up : suc (i - 1) ≡ i = omega arith in
    let next : drop (i - 1) ts ≡ get_or ts (i - 1) (atom []) ∷ drop i ts =
    drop-cons ts (i - 1) (atom []) (omega arith) ∙ ap (λ k. get_or ts (i - 1) (atom []) ∷ drop k ts) up in
    ap (λ ps. map (term_at s) (reverse ps)) e ∙ ap (map (term_at s)) (reverse-append here (p ∷ []))
    ∙ ap₂ ◌∷◌ at before
    ∙ ap (λ us. us ++ map (term_at s) (reverse old)) (sym next)

pub one_held : (m : Names) (s : Contents) (ts : List Tree) (here new : List Place) (p : Place) (i : ℕ) → 0 < i → i ≤ length ts
    → All (λ t. All (λ a. IsSome (m a)) (atoms_in t)) ts → All (IsHeldAt m s) here → new ≡ here ++ p ∷ [] → term_at s p ≡ get_or ts (i - 1) (atom [])
    → All (IsHeldAt m s) new
one_held m s ts here new p i some within each all e at =
    let Q : Tree → Type 0 = λ t. All (λ a. IsSome (m a)) (atoms_in t) in
    All-same (IsHeldAt m s) new (here ++ p ∷ []) e
    (All-push (IsHeldAt m s) here p all (subst Q (sym at) (All-get_or Q ts (i - 1) (atom []) (omega arith) each)))

-- Terms that follow on others

nodes_join : (ts us : List Tree) → nodes_all (trees (ts ++ us)) ≡ nodes_all (trees ts) ++ nodes_all (trees us)
nodes_join [] us = refl
nodes_join (t ∷ ts) us =
    ap (λ ns. nodes t ++ ns) (nodes_join ts us) ∙ sym (append_assoc (nodes t) (nodes_all (trees ts)) (nodes_all (trees us)))

count_list : (ts : List Tree) → count (trees ts) ≡ length ts
count_list [] = refl
count_list (t ∷ ts) = ap suc (count_list ts)

nodes_of_compound : (f : Chars) (ts : List Tree) → 0 < length ts → nodes (compound f ts) ≡ Comp f (length ts) ∷ nodes_all (trees ts)
nodes_of_compound f [] some = absurd (omega arith)
nodes_of_compound f (t ∷ ts) some = ap (λ k. Comp f (suc k) ∷ (nodes t ++ nodes_all (trees ts))) (count_list ts)

spelled_list : (g : Chars → Chars) (ts : List Tree) → spelled_all g (trees ts) ≡ trees (map (spelled g) ts)
spelled_list g [] = refl
spelled_list g (t ∷ ts) = ap (more (spelled g t)) (spelled_list g ts)

spelled_parts : (g : Chars → Chars) (f : Chars) (ts : List Tree) → spelled g (compound f ts) ≡ compound (g f) (map (spelled g) ts)
spelled_parts g f [] = refl
spelled_parts g f (t ∷ ts) = ap (comp (g f) (spelled g t)) (spelled_list g ts)

module _ (m : Names) (s : Contents) (p : Place) (old : List Place) where
  abbrev rest : List Node
  rest = nodes_all (terms_ahead m s old)

  pub variable_first : (x : ℕ) → term_at s p ≡ var x → IsFirst m s p old (Var x) old
  variable_first x is = ap (λ t. nodes (spelled (text_of m) t) ++ rest) is

  pub integer_first : (i : ℤ) → term_at s p ≡ int i → IsFirst m s p old (Int i) old
  integer_first i is = ap (λ t. nodes (spelled (text_of m) t) ++ rest) is

  pub atom_first : (a : ℕ) (t : Chars) → term_at s p ≡ atom (atom_name a) → t ≡ text_of m (atom_name a) → IsFirst m s p old (Atom t) old
  atom_first a t is text = ap (λ t. nodes (spelled (text_of m) t) ++ rest) is ∙ ap (λ c. Atom c ∷ rest) (sym text)

  pub compound_first : (f : ℕ) (t : Chars) (k : ℕ) (ts : List Tree) (new : List Place) → term_at s p ≡ compound (atom_name f) ts → t ≡ text_of m (atom_name f)
      → k ≡ length ts → 0 < length ts → Precedes s ts old new → IsFirst m s p old (Comp t k) new
  compound_first f t k ts new is text long some put =
      let g = text_of m in
      let us = map (spelled g) ts in
      let many : length us ≡ length ts = length-map ts (spelled g) in
      let ahead : map (reads m s) (reverse new) ≡ us ++ map (reads m s) (reverse old) =
      sym (map_twice s m (reverse new)) ∙ ap (map (spelled g)) put.stand ∙ map_join (spelled g) ts (map (term_at s) (reverse old))
      ∙ ap (λ vs. us ++ vs) (map_twice s m (reverse old)) in
      ap (λ u. nodes (spelled g u) ++ rest) is
      ∙ ap (λ u. nodes u ++ rest) (spelled_parts g (atom_name f) ts)
      ∙ ap (λ ns. ns ++ rest) (nodes_of_compound (g (atom_name f)) us (omega (arith, many, some)))
      ∙ ap₂ (λ c j. Comp c j ∷ (nodes_all (trees us) ++ rest)) (sym text) (many ∙ sym long)
      ∙ ap (λ ns. Comp t k ∷ ns) (sym (ap (λ vs. nodes_all (trees vs)) ahead ∙ nodes_join us (map (reads m s) (reverse old))))

-- The atoms of a compound term

parts_all : {A : Type 0} (P : A → Type 0) (xs ys : List A) → All P (xs ++ ys) → All P xs × All P ys
parts_all P [] ys h = (All-nil P, h)
parts_all P (x ∷ xs) ys h =
    let r : All P xs × All P ys = parts_all P xs ys (All-tail P x (xs ++ ys) h) in
    (All-cons P x xs (All-head P x (xs ++ ys) h) r.0, r.1)

each_held : (m : Names) (ts : List Tree) → All (λ a. IsSome (m a)) (atoms_in_all (trees ts)) → All (λ t. All (λ a. IsSome (m a)) (atoms_in t)) ts
each_held m [] h = All-nil (λ t. All (λ a. IsSome (m a)) (atoms_in t))
each_held m (t ∷ ts) h =
    let r : All (λ a. IsSome (m a)) (atoms_in t) × All (λ a. IsSome (m a)) (atoms_in_all (trees ts)) = parts_all (λ a. IsSome (m a)) (atoms_in t) (atoms_in_all (trees ts)) h in
    All-cons (λ u. All (λ a. IsSome (m a)) (atoms_in u)) t ts r.0 (each_held m ts r.1)

pub atom_at_held : (m : Names) (s : Contents) (p : Place) (a : ℕ) → term_at s p ≡ atom (atom_name a) → IsHeldAt m s p → IsSome (m a)
atom_at_held m s p a is held = All-head (λ b. IsSome (m b)) a [] (subst (λ t. All (λ b. IsSome (m b)) (atoms_in t)) is held)

pub compound_at_held : (m : Names) (s : Contents) (p : Place) (f : ℕ) (ts : List Tree) → term_at s p ≡ compound (atom_name f) ts → 0 < length ts → IsHeldAt m s p
    → IsSome (m f) × All (λ t. All (λ a. IsSome (m a)) (atoms_in t)) ts
compound_at_held m s p f [] is some held = absurd (omega arith)
compound_at_held m s p f (t ∷ ts) is some held =
    let h = subst (λ u. All (λ b. IsSome (m b)) (atoms_in u)) is held in
    let all = atoms_in_all (trees (t ∷ ts)) in
    (All-head (λ a. IsSome (m a)) f all h, each_held m (t ∷ ts) (All-tail (λ a. IsSome (m a)) f all h))

-- A place on top of others

pub on_top : (m : Names) (s : Contents) (old : List Place) (p : Place) → terms_ahead m s (old ++ p ∷ []) ≡ more (reads m s p) (terms_ahead m s old)
on_top m s old p = ap (λ ps. trees (map (reads m s) ps)) (reverse-append old (p ∷ []))

pub last_part : {A : Type 0} (P : A → Type 0) (xs : List A) (x : A) → All P (xs ++ x ∷ []) → All P xs × P x
last_part P xs x h = let r : All P xs × All P (x ∷ []) = parts_all P xs (x ∷ []) h in (r.0, All-head P x [] r.1)

-- The term at one place
pub one_ahead : (m : Names) (s : Contents) (p : Place) (ps : List Place) → ps ≡ p ∷ [] → terms_ahead m s ps ≡ more (reads m s p) none
one_ahead m s p ps e = ap (terms_ahead m s) e

pub none_ahead : (m : Names) (s : Contents) (ps : List Place) → length ps ≡ 0 → terms_ahead m s ps ≡ none
none_ahead m s [] e = refl
none_ahead m s (p ∷ ps) e = absurd (omega (arith, e))

module _ (m : Names) (s : Contents) (t : Tree) (begun : Writing) where
  pub on_begins : (p : Place) (ps : List Place) → ps ≡ p ∷ [] → Holds s p → IsHeldAt m s p → t ≡ reads m s p → wants begun ≡ 1 → IsOn m s t begun ps begun
  on_begins p ps e inside held is one =
      let here = one_ahead m s p ps e in
      record {
        readable =
            record {
              inside = subst (All (Holds s)) (sym e) (All-cons (Holds s) p [] inside (All-nil (Holds s)));
              held = subst (All (IsHeldAt m s)) (sym e) (All-cons (IsHeldAt m s) p [] held (All-nil (IsHeldAt m s)));
            };
        wanted = one ∙ ap count (sym here);
        same = ap (finished begun) (here ∙ ap (λ u. more u none) (sym is));
      }

  pub on_goes : (p : Place) (old new : List Place) (n : Node) (w v : Writing) → IsOn m s t begun (old ++ p ∷ []) w → IsFirst m s p old n new → AreReadable m s new
      → Goes n w v → IsOn m s t begun new v
  on_goes p old new n w v on first readable goes =
      let top = on_top m s old p in
      let ts = more (reads m s p) (terms_ahead m s old) in
      let enough = on.wanted ∙ ap count top in
      record {
        readable = readable;
        wanted = goes.wanted ts (terms_ahead m s new) first enough;
        same = goes.same ts (terms_ahead m s new) first enough ∙ ap (finished w) (sym top) ∙ on.same;
      }

  pub on_wants : (p : Place) (old new : List Place) (n : Node) (w : Writing) → IsOn m s t begun (old ++ p ∷ []) w → IsFirst m s p old n new → IsWanted n w
  on_wants p old new n w on first = (more (reads m s p) (terms_ahead m s old), terms_ahead m s new, first, on.wanted ∙ ap count (on_top m s old p))
