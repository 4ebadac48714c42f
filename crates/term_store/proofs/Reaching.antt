-- A walk that gathers the atoms of a term.
use Rattle.std.proofs.Common.{◌≡◌, ◌⊎◌, inl, inr, ℕ, ◌<◌, List, [], ◌∷◌, ◌++◌, length, get_or, map, refl, sym, ap, subst, ◌∙◌, arith, length-append}
use Rattle.std.specs.List.{All, Contains}
use Rattle.std.proofs.lemmas.List.{get_or_append_left}
use Rattle.std.proofs.lemmas.List.Elements.{All-append, All-cons, All-contains, All-contains_itself, All-head, All-nil, All-push, All-tail, All-weaker, Contains-append_left, Contains-append_right, Contains-push, Contains-push_cases}
use Rattle.pl_term.specs.Tree.{Chars, Tree, Trees, var, int, atom, comp, none, more, trees, compound}
use Rattle.term_store.specs.declared.words.Word.{Word}
use Rattle.term_store.specs.declared.words.Word.TheVariants.{Var, Int, Atom, Comp}
use Rattle.term_store.specs.declared.words.Head.{Head}
use Rattle.term_store.specs.Cells.{IsFree}
use Rattle.term_store.specs.Fit.{Fit, IsIn, no_head}
use Rattle.term_store.specs.Heap.{Heap, atom_name, bindings, meaning, numbered, words_of}
use Rattle.term_store.specs.Live.{Gathers}
use Rattle.term_store.specs.NumberedNames.{atoms_in, atoms_in_all, number_of}
use Rattle.term_store.specs.Reaches.{IsDone, IsGathering, IsOpened, IsReached, IsSettled, NamesWithin}
use Rattle.term_store.proofs.Equations.{bound-atom, bound-int}
use Rattle.term_store.proofs.Following.{stands}
use Rattle.term_store.proofs.Gathering.{none_there}
use Rattle.term_store.proofs.Occurring.{words_inside}
use Rattle.term_store.proofs.Opening.{opened}

done_more : (seen live met gathered : List ℕ) (at : Word) → ((k : ℕ) → Contains seen k → Contains met k) → ((a : ℕ) → Contains live a → Contains gathered a)
    → IsDone seen live at → IsDone met gathered at
done_more seen live met gathered (Var i) s l d = tt
done_more seen live met gathered (Int i) s l d = tt
done_more seen live met gathered (Atom a) s l d = l a d
done_more seen live met gathered (Comp k) s l d = s k d

-- A word that was looked at is settled, and what was reached stays so.
module _ (h : Heap) (walk after : List Word) (next at : Word) (seen live met gathered : List ℕ) (means : meaning h at ≡ meaning h next) (free : IsFree h at)
    (inside : IsIn h at) (done : IsDone met gathered at) (walks : (w : Word) → Contains walk w → Contains after w)
    (s : (k : ℕ) → Contains seen k → Contains met k) (l : (a : ℕ) → Contains live a → Contains gathered a) where
  reached_more : (w : Word) → IsReached h (walk ++ next ∷ []) seen live w → IsReached h after met gathered w
  reached_more w (inr settled) =
      inr (record {
        at = settled.at;
        means = settled.means;
        free = settled.free;
        inside = settled.inside;
        done = done_more seen live met gathered settled.at s l settled.done;
      })
  reached_more w (inl there) = go (Contains-push_cases walk next w there)
    where
      go : Contains walk w ⊎ (next ≡ w) → IsReached h after met gathered w
      go (inl c) = inl (walks w c)
      go (inr e) = inr (record { at = at; means = means ∙ ap (meaning h) e; free = free; inside = inside; done = done })

  opened_more : (k : ℕ) → IsOpened h (walk ++ next ∷ []) seen live k → IsOpened h after met gathered k
  opened_more k o =
      record {
        inside = o.inside;
        name = l (get_or h.heads k no_head).name o.name;
        parts =
            All-weaker (IsReached h (walk ++ next ∷ []) seen live) (IsReached h after met gathered) reached_more
            (words_of h.args (get_or h.heads k no_head)) o.parts;
      }

words_before : (P : Word → Type 0) (walk : List Word) (next : Word) → All P (walk ++ next ∷ []) → All P walk
words_before P walk next all = λ k d lt. subst P (get_or_append_left walk (next ∷ []) d k lt) (all k d (omega (arith, lt, length-append walk (next ∷ []))))

-- A word that is no compound term, or one that was come to before.
pub gathering_leaf : (h : Heap) (root : Word) (before : List ℕ) (walk : List Word) (next at : Word) (seen live gathered : List ℕ) → meaning h at ≡ meaning h next
    → IsFree h at → IsIn h at → IsDone seen gathered at → ((a : ℕ) → Contains live a → Contains gathered a)
    → ((a : ℕ) → Contains gathered a → Contains live a ⊎ Contains (atoms_in (meaning h at)) a)
    → IsGathering h root before (walk ++ next ∷ []) seen live → IsGathering h root before walk seen gathered
gathering_leaf h root before walk next at seen live gathered means free inside done kept only g =
    record {
      words = words_before (IsIn h) walk next g.words;
      begun = met root g.begun;
      opened = All-weaker (IsOpened h (walk ++ next ∷ []) seen live) (IsOpened h walk seen gathered) opens seen g.opened;
      within = words_before (λ w. NamesWithin (meaning h root) (meaning h w)) walk next g.within;
      kept = λ a c. kept a (g.kept a c);
      only = found;
    }
  where
    met : (w : Word) → IsReached h (walk ++ next ∷ []) seen live w → IsReached h walk seen gathered w
    met = reached_more h walk walk next at seen live seen gathered means free inside done (λ w c. c) (λ k c. c) kept

    opens : (k : ℕ) → IsOpened h (walk ++ next ∷ []) seen live k → IsOpened h walk seen gathered k
    opens = opened_more h walk walk next at seen live seen gathered means free inside done (λ w c. c) (λ k c. c) kept

    last : NamesWithin (meaning h root) (meaning h next)
    last = All-contains (λ w. NamesWithin (meaning h root) (meaning h w)) (walk ++ next ∷ []) next g.within (Contains-push walk next)

    found : (a : ℕ) → Contains gathered a → Contains before a ⊎ Contains (atoms_in (meaning h root)) a
    found a c = go (only a c)
      where
        go : Contains live a ⊎ Contains (atoms_in (meaning h at)) a → Contains before a ⊎ Contains (atoms_in (meaning h root)) a
        go (inl k) = g.only a k
        go (inr k) = inr (last a (subst (λ t. Contains (atoms_in t) a) means k))

-- What a compound term names.
compound_named : (f : Chars) (ts : List Tree) → Contains (atoms_in (compound f ts)) (number_of f)
compound_named f [] = Contains-push [] (number_of f)
compound_named f (t ∷ ts) = Contains-append_left (number_of f ∷ []) (atoms_in t ++ atoms_in_all (trees ts)) (number_of f) (Contains-push [] (number_of f))

parts_named : (ts : List Tree) → All (λ t. (a : ℕ) → Contains (atoms_in t) a → Contains (atoms_in_all (trees ts)) a) ts
parts_named [] = All-nil (λ t. (a : ℕ) → Contains (atoms_in t) a → Contains [] a)
parts_named (t ∷ ts) =
    let Q : Tree → Type 0 = λ u. (a : ℕ) → Contains (atoms_in u) a → Contains (atoms_in t ++ atoms_in_all (trees ts)) a in
    All-cons Q t ts (λ a c. Contains-append_left (atoms_in t) (atoms_in_all (trees ts)) a c)
    (All-weaker (λ u. (a : ℕ) → Contains (atoms_in u) a → Contains (atoms_in_all (trees ts)) a) Q
    (λ u f a c. Contains-append_right (atoms_in t) (atoms_in_all (trees ts)) a (f a c)) ts (parts_named ts))

within_compound : (f : Chars) (ts : List Tree) → All (NamesWithin (compound f ts)) ts
within_compound f [] = All-nil (NamesWithin (compound f []))
within_compound f (t ∷ ts) =
    All-weaker (λ u. (a : ℕ) → Contains (atoms_in u) a → Contains (atoms_in t ++ atoms_in_all (trees ts)) a) (NamesWithin (compound f (t ∷ ts)))
    (λ u g a c. Contains-append_right (number_of f ∷ []) (atoms_in t ++ atoms_in_all (trees ts)) a (g a c)) (t ∷ ts) (parts_named (t ∷ ts))

from_map : (h : Heap) (P : Tree → Type 0) (ws : List Word) → All P (map (meaning h) ws) → All (λ w. P (meaning h w)) ws
from_map h P [] all = All-nil (λ w. P (meaning h w))
from_map h P (w ∷ ws) all =
    All-cons (λ v. P (meaning h v)) w ws (All-head P (meaning h w) (map (meaning h) ws) all)
    (from_map h P ws (All-tail P (meaning h w) (map (meaning h) ws) all))

-- A compound term that is come to for the first time.
pub gathering_open : (h : Heap) (root : Word) (before : List ℕ) (walk after : List Word) (next at : Word) (k : ℕ) (seen live met gathered : List ℕ) → Fit h
    → at ≡ Comp k → meaning h at ≡ meaning h next → IsFree h at → IsIn h at → after ≡ walk ++ words_of h.args (get_or h.heads k no_head)
    → met ≡ seen ++ k ∷ [] → Gathers ((get_or h.heads k no_head).name ∷ []) live gathered
    → IsGathering h root before (walk ++ next ∷ []) seen live → IsGathering h root before after met gathered
gathering_open h root before walk after next at k seen live met gathered fit is means free inside walked added name g =
    record {
      words = subst (All (IsIn h)) (sym walked) (All-append (IsIn h) walk ws (words_before (IsIn h) walk next g.words) (words_inside h k fit within));
      begun = reaches root g.begun;
      opened =
          subst (All (IsOpened h after met gathered)) (sym added)
          (All-push (IsOpened h after met gathered) seen k
          (All-weaker (IsOpened h (walk ++ next ∷ []) seen live) (IsOpened h after met gathered) opens seen g.opened) (record {
            inside = within;
            name = name.all head.name (Contains-push [] head.name);
            parts =
                All-weaker (Contains ws) (IsReached h after met gathered)
                (λ w c. inl (subst (λ l. Contains l w) (sym walked) (Contains-append_right walk ws w c))) ws (All-contains_itself ws);
          }));
      within =
          subst (All (λ w. NamesWithin (meaning h root) (meaning h w))) (sym walked)
          (All-append (λ w. NamesWithin (meaning h root) (meaning h w)) walk ws (words_before (λ w. NamesWithin (meaning h root) (meaning h w)) walk next g.within)
          (All-weaker (λ w. NamesWithin (compound (atom_name head.name) (map (meaning h) ws)) (meaning h w)) (λ w. NamesWithin (meaning h root) (meaning h w))
          (λ w f a c. last a (subst (λ t. Contains (atoms_in t) a) (sym made) (f a c))) ws
          (from_map h (NamesWithin (compound (atom_name head.name) (map (meaning h) ws))) ws (within_compound (atom_name head.name) (map (meaning h) ws)))));
      kept = λ a c. name.kept a (g.kept a c);
      only = found;
    }
  where
    head : Head
    head = get_or h.heads k no_head

    ws : List Word
    ws = words_of h.args head

    within : k < length h.heads
    within = subst (IsIn h) is inside

    done : IsDone met gathered at
    done = subst (IsDone met gathered) (sym is) (subst (λ l. Contains l k) (sym added) (Contains-push seen k))

    walks : (w : Word) → Contains walk w → Contains after w
    walks w c = subst (λ l. Contains l w) (sym walked) (Contains-append_left walk ws w c)

    sees : (j : ℕ) → Contains seen j → Contains met j
    sees j c = subst (λ l. Contains l j) (sym added) (Contains-append_left seen (k ∷ []) j c)

    reaches : (w : Word) → IsReached h (walk ++ next ∷ []) seen live w → IsReached h after met gathered w
    reaches = reached_more h walk after next at seen live met gathered means free inside done walks sees name.kept

    opens : (j : ℕ) → IsOpened h (walk ++ next ∷ []) seen live j → IsOpened h after met gathered j
    opens = opened_more h walk after next at seen live met gathered means free inside done walks sees name.kept

    made : meaning h next ≡ compound (atom_name head.name) (map (meaning h) ws)
    made = sym means ∙ ap (meaning h) is ∙ opened h k fit within

    last : NamesWithin (meaning h root) (meaning h next)
    last = All-contains (λ w. NamesWithin (meaning h root) (meaning h w)) (walk ++ next ∷ []) next g.within (Contains-push walk next)

    own : Contains (atoms_in (meaning h next)) head.name
    own = subst (λ t. Contains (atoms_in t) head.name) (sym made) (compound_named (atom_name head.name) (map (meaning h) ws))

    found : (a : ℕ) → Contains gathered a → Contains before a ⊎ Contains (atoms_in (meaning h root)) a
    found a c = go (name.only a c)
      where
        one : Contains [] a ⊎ (head.name ≡ a) → Contains before a ⊎ Contains (atoms_in (meaning h root)) a
        one (inl c) = absurd (none_there a c)
        one (inr e) = inr (last a (subst (Contains (atoms_in (meaning h next))) e own))

        go : Contains live a ⊎ Contains (head.name ∷ []) a → Contains before a ⊎ Contains (atoms_in (meaning h root)) a
        go (inl k) = g.only a k
        go (inr k) = one (Contains-push_cases [] head.name a k)

-- At the end
comp_name : (f g : Chars) (t u : Tree) (ts us : Trees) → comp f t ts ≡ comp g u us → f ≡ g
comp_name f g t u ts us e = cc

comp_first : (f g : Chars) (t u : Tree) (ts us : Trees) → comp f t ts ≡ comp g u us → t ≡ u
comp_first f g t u ts us e = cc

comp_rest : (f g : Chars) (t u : Tree) (ts us : Trees) → comp f t ts ≡ comp g u us → ts ≡ us
comp_rest f g t u ts us e = cc

more_first : (t u : Tree) (ts us : Trees) → more t ts ≡ more u us → t ≡ u
more_first t u ts us e = cc

more_rest : (t u : Tree) (ts us : Trees) → more t ts ≡ more u us → ts ≡ us
more_rest t u ts us e = cc

module _ (h : Heap) (fit : Fit h) (seen live : List ℕ) (all : All (IsOpened h [] seen live) seen) where
  -- The arguments of a compound term that was come to.
  record Parts (f : Chars) (t : Tree) (ts : Trees) : Type 0 where
    name : Contains live (number_of f)
    first : Word
    stands : meaning h first ≡ t
    settled : IsSettled h seen live first
    rest : List Word
    others : trees (map (meaning h) rest) ≡ ts
    settles : All (IsSettled h seen live) rest

  no_walk : (w : Word) → IsReached h [] seen live w → IsSettled h seen live w
  no_walk w (inl c) = absurd (none_there w c)
  no_walk w (inr s) = s

  cut_open : (f : Chars) (t : Tree) (ts : Trees) (a : ℕ) (ws : List Word) → compound (atom_name a) (map (meaning h) ws) ≡ comp f t ts → Contains live a
      → All (IsSettled h seen live) ws → Parts f t ts
  cut_open f t ts a [] e n s = absurd cc
  cut_open f t ts a (w ∷ ws) e n s =
      record {
        name = subst (λ g. Contains live (number_of g)) (comp_name (atom_name a) f (meaning h w) t (trees (map (meaning h) ws)) ts e) n;
        first = w;
        stands = comp_first (atom_name a) f (meaning h w) t (trees (map (meaning h) ws)) ts e;
        settled = All-head (IsSettled h seen live) w ws s;
        rest = ws;
        others = comp_rest (atom_name a) f (meaning h w) t (trees (map (meaning h) ws)) ts e;
        settles = All-tail (IsSettled h seen live) w ws s;
      }

  parts_at : (f : Chars) (t : Tree) (ts : Trees) (at : Word) → meaning h at ≡ comp f t ts → IsFree h at → IsIn h at → IsDone seen live at → Parts f t ts
  parts_at f t ts (Var i) e free inside d = let v : meaning h (Var i) ≡ var (numbered h i) = stands h i fit inside free in absurd cc
  parts_at f t ts (Int i) e free inside d = let v : meaning h (Int i) ≡ int i = bound-int (bindings h) i in absurd cc
  parts_at f t ts (Atom a) e free inside d = let v : meaning h (Atom a) ≡ atom (atom_name a) = bound-atom (bindings h) (atom_name a) in absurd cc
  parts_at f t ts (Comp k) e free inside d =
      let o = All-contains (IsOpened h [] seen live) seen k all d in
      let g = get_or h.heads k no_head in
      cut_open f t ts g.name (words_of h.args g) (sym (opened h k fit inside) ∙ e) o.name
      (All-weaker (IsReached h [] seen live) (IsSettled h seen live) no_walk (words_of h.args g) o.parts)

  atom_at : (f : Chars) (at : Word) → meaning h at ≡ atom f → IsFree h at → IsIn h at → IsDone seen live at → Contains live (number_of f)
  atom_at f (Var i) e free inside d = let v : meaning h (Var i) ≡ var (numbered h i) = stands h i fit inside free in absurd cc
  atom_at f (Int i) e free inside d = let v : meaning h (Int i) ≡ int i = bound-int (bindings h) i in absurd cc
  atom_at f (Atom a) e free inside d =
      let v : meaning h (Atom a) ≡ atom (atom_name a) = bound-atom (bindings h) (atom_name a) in
      let same : atom_name a ≡ f = cc in subst (λ g. Contains live (number_of g)) same d
  atom_at f (Comp k) e free inside d =
      let o = All-contains (IsOpened h [] seen live) seen k all d in
      let g = get_or h.heads k no_head in
      name_of f g.name (words_of h.args g) (sym (opened h k fit inside) ∙ e) o.name
    where
      name_of : (f : Chars) (a : ℕ) (ws : List Word) → compound (atom_name a) (map (meaning h) ws) ≡ atom f → Contains live a → Contains live (number_of f)
      name_of f a [] e n = let same : atom_name a ≡ f = cc in subst (λ g. Contains live (number_of g)) same n
      name_of f a (w ∷ ws) e n = absurd cc

  mutual
    settled_named : (t : Tree) (w : Word) → meaning h w ≡ t → IsSettled h seen live w → All (Contains live) (atoms_in t)
    settled_named (var x) w e s = All-nil (Contains live)
    settled_named (int i) w e s = All-nil (Contains live)
    settled_named (atom f) w e s = All-cons (Contains live) (number_of f) [] (atom_at f s.at (s.means ∙ e) s.free s.inside s.done) (All-nil (Contains live))
    settled_named (comp f t ts) w e s =
        let p = parts_at f t ts s.at (s.means ∙ e) s.free s.inside s.done in
        All-cons (Contains live) (number_of f) (atoms_in t ++ atoms_in_all ts) p.name
        (All-append (Contains live) (atoms_in t) (atoms_in_all ts) (settled_named t p.first p.stands p.settled) (all_settled_named ts p.rest p.others p.settles))

    all_settled_named : (ts : Trees) (ws : List Word) → trees (map (meaning h) ws) ≡ ts → All (IsSettled h seen live) ws → All (Contains live) (atoms_in_all ts)
    all_settled_named none ws e s = All-nil (Contains live)
    all_settled_named (more t ts) [] e s = absurd cc
    all_settled_named (more t ts) (w ∷ ws) e s =
        All-append (Contains live) (atoms_in t) (atoms_in_all ts)
        (settled_named t w (more_first (meaning h w) t (trees (map (meaning h) ws)) ts e) (All-head (IsSettled h seen live) w ws s))
        (all_settled_named ts ws (more_rest (meaning h w) t (trees (map (meaning h) ws)) ts e) (All-tail (IsSettled h seen live) w ws s))

pub gathering_begins : (h : Heap) (root : Word) (before : List ℕ) (walk : List Word) (seen : List ℕ) → IsIn h root → walk ≡ root ∷ [] → seen ≡ []
    → IsGathering h root before walk seen before
gathering_begins h root before walk seen inside one empty =
    record {
      words = subst (All (IsIn h)) (sym one) (All-cons (IsIn h) root [] inside (All-nil (IsIn h)));
      begun = inl (subst (λ l. Contains l root) (sym one) (Contains-push [] root));
      opened = subst (All (IsOpened h walk seen before)) (sym empty) (All-nil (IsOpened h walk seen before));
      within =
          subst (All (λ w. NamesWithin (meaning h root) (meaning h w))) (sym one)
          (All-cons (λ w. NamesWithin (meaning h root) (meaning h w)) root [] (λ a c. c) (All-nil (λ w. NamesWithin (meaning h root) (meaning h w))));
      kept = λ a c. c;
      only = λ a c. inl c;
    }

pub gathering_ends : (h : Heap) (root : Word) (before : List ℕ) (walk : List Word) (seen live : List ℕ) → Fit h → walk ≡ []
    → IsGathering h root before walk seen live → Gathers (atoms_in (meaning h root)) before live
gathering_ends h root before walk seen live fit empty g =
    record {
      all = λ a c.
          All-contains (Contains live) (atoms_in (meaning h root)) a
          (settled_named h fit seen live (subst (λ ws. All (IsOpened h ws seen live) seen) empty g.opened) (meaning h root) root refl
          (no_walk h fit seen live (subst (λ ws. All (IsOpened h ws seen live) seen) empty g.opened) root (subst (λ ws. IsReached h ws seen live root) empty g.begun))) c;
      kept = g.kept;
      only = g.only;
    }

-- What was gathered of an atom is that atom.
pub atom_told : (h : Heap) (at : Word) (a : ℕ) (live gathered : List ℕ) → at ≡ Atom a → Gathers (a ∷ []) live gathered
    → (b : ℕ) → Contains gathered b → Contains live b ⊎ Contains (atoms_in (meaning h at)) b
atom_told h at a live gathered is put b c = go (put.only b c)
  where
    names : atoms_in (meaning h at) ≡ a ∷ []
    names = ap (λ w. atoms_in (meaning h w)) is ∙ ap atoms_in (bound-atom (bindings h) (atom_name a))

    go : Contains live b ⊎ Contains (a ∷ []) b → Contains live b ⊎ Contains (atoms_in (meaning h at)) b
    go (inl k) = inl k
    go (inr k) = inr (subst (λ l. Contains l b) (sym names) k)
