-- Goals of clause/2, retract/1, retractall/1 and thread_exit/1 have these names and numbers of arguments.
use Rattle.std.proofs.Common.{◌≡◌, Bool, true, false, cond, ◌&&◌, ◌||◌, codes, bytes_eq, nat_le, refl, sym, ap, ◌∙◌}
use Rattle.std.proofs.lemmas.Slice.Eq.{bytes_eq-Decides}
use Rattle.pl_term.specs.Tree.{Chars, Tree, Trees, var, int, atom, comp, none, more, count}
use Rattle.pl_model.specs.Control.{Construct, clears, construct, construct_by_count, construct_of_none, construct_of_one, construct_of_three, construct_of_two, exits, inspects, or_else, retracts}
use Rattle.iso_search.specs.Spelling.{TellsApart, spelled, spelled_all}

-- Such a goal with these arguments.
abbrev pub OwnShape : Tree → Construct → Type 0
OwnShape g (exits t) = g ≡ comp (codes "thread_exit") t none
OwnShape g (retracts t) = g ≡ comp (codes "retract") t none
OwnShape g (clears t) = g ≡ comp (codes "retractall") t none
OwnShape g (inspects h b) = g ≡ comp (codes "clause") h (more b none)
OwnShape g _ = Unit {0}

-- A choice by a name.
pick : (g : Tree) (b : Bool) (x y : Construct) → (b ≡ true → OwnShape g x) → OwnShape g y → OwnShape g (cond b x y)
pick g true x y one two = one refl
pick g false x y one two = two

named : (f c : Chars) (t : Tree) (ts : Trees) → bytes_eq f c ≡ true → comp f t ts ≡ comp c t ts
named f c t ts e = ap (λ n. comp n t ts) ((bytes_eq-Decides f c).0 e)

shape_of_none : (f : Chars) → OwnShape (atom f) (construct_of_none f)
shape_of_none f =
    pick (atom f) (bytes_eq f (codes "true")) _ _ (λ e. tt)
    (pick (atom f) (bytes_eq f (codes "!")) _ _ (λ e. tt)
    (pick (atom f) (bytes_eq f (codes "fail") || bytes_eq f (codes "false")) _ _ (λ e. tt)
    (pick (atom f) (bytes_eq f (codes "repeat")) _ _ (λ e. tt)
    (pick (atom f) (bytes_eq f (codes "halt")) _ _ (λ e. tt)
    (pick (atom f) (bytes_eq f (codes "nl")) _ _ (λ e. tt) tt)))))

shape_of_one : (f : Chars) (t : Tree) → OwnShape (comp f t none) (construct_of_one f t)
shape_of_one f t =
    let g = comp f t none
    in pick g (bytes_eq f (codes "\\+")) _ _ (λ e. tt)
    (pick g (bytes_eq f (codes "once")) _ _ (λ e. tt)
    (pick g (bytes_eq f (codes "throw")) _ _ (λ e. tt)
    (pick g (bytes_eq f (codes "halt")) _ _ (λ e. tt)
    (pick g (bytes_eq f (codes "thread_exit")) _ _ (λ e. named f (codes "thread_exit") t none e)
    (pick g (bytes_eq f (codes "retract")) _ _ (λ e. named f (codes "retract") t none e)
    (pick g (bytes_eq f (codes "retractall")) _ _ (λ e. named f (codes "retractall") t none e)
    (pick g (bytes_eq f (codes "write")) _ _ (λ e. tt)
    (pick g (bytes_eq f (codes "writeq") || bytes_eq f (codes "print")) _ _ (λ e. tt)
    (pick g (bytes_eq f (codes "put_char")) _ _ (λ e. tt) (pick g (bytes_eq f (codes "write_canonical")) _ _ (λ e. tt) tt))))))))))

or_else_shape : (g t u : Tree) → OwnShape g (or_else t u)
or_else_shape g (var x) u = tt
or_else_shape g (int i) u = tt
or_else_shape g (atom a) u = tt
or_else_shape g (comp f c none) u = tt
or_else_shape g (comp f c (more t none)) u = pick g (bytes_eq f (codes "->")) _ _ (λ e. tt) tt
or_else_shape g (comp f c (more t (more w ws))) u = tt

shape_of_two : (f : Chars) (t u : Tree) → OwnShape (comp f t (more u none)) (construct_of_two f t u)
shape_of_two f t u =
    let g = comp f t (more u none)
    in pick g (bytes_eq f (codes ",")) _ _ (λ e. tt)
    (pick g (bytes_eq f (codes ";")) _ _ (λ e. or_else_shape g t u)
    (pick g (bytes_eq f (codes "->")) _ _ (λ e. tt) (pick g (bytes_eq f (codes "clause")) _ _ (λ e. named f (codes "clause") t (more u none) e) tt)))

shape_of_three : (f : Chars) (t u v : Tree) → OwnShape (comp f t (more u (more v none))) (construct_of_three f t u v)
shape_of_three f t u v =
    let g = comp f t (more u (more v none))
    in pick g (bytes_eq f (codes "catch")) _ _ (λ e. tt) (pick g (bytes_eq f (codes "findall")) _ _ (λ e. tt) tt)

shape_by_count : (f : Chars) (t : Tree) (ts : Trees) → OwnShape (comp f t ts) (construct_by_count f t ts)
shape_by_count f t none = shape_of_one f t
shape_by_count f t (more u none) = shape_of_two f t u
shape_by_count f t (more u (more v none)) = shape_of_three f t u v
shape_by_count f t (more u (more v (more w ws))) = tt

pub own_shape : (g : Tree) → OwnShape g (construct g)
unfolding construct
own_shape (var x) = tt
own_shape (int i) = tt
own_shape (atom a) = shape_of_none a
own_shape (comp f t ts) = pick (comp f t ts) (bytes_eq f (codes "call") && nat_le (count ts) 7) _ _ (λ e. tt) (shape_by_count f t ts)

-- Terms that are spelled alike are the same.
module _ (g : Chars → Chars) (apart : TellsApart g) where
  same_name : (a b : Chars) → g a ≡ g b → a ≡ b
  same_name a b e = (bytes_eq-Decides a b).0 (sym (apart a b) ∙ (bytes_eq-Decides (g a) (g b)).1 e)

  atom_parts : (a b : Chars) → atom a ≡ atom b → a ≡ b
  atom_parts a b e = cc

  comp_name : (f h : Chars) (t u : Tree) (ts us : Trees) → comp f t ts ≡ comp h u us → f ≡ h
  comp_name f h t u ts us e = cc

  comp_first : (f h : Chars) (t u : Tree) (ts us : Trees) → comp f t ts ≡ comp h u us → t ≡ u
  comp_first f h t u ts us e = cc

  comp_rest : (f h : Chars) (t u : Tree) (ts us : Trees) → comp f t ts ≡ comp h u us → ts ≡ us
  comp_rest f h t u ts us e = cc

  more_first : (t u : Tree) (ts us : Trees) → more t ts ≡ more u us → t ≡ u
  more_first t u ts us e = cc

  more_rest : (t u : Tree) (ts us : Trees) → more t ts ≡ more u us → ts ≡ us
  more_rest t u ts us e = cc

  joined : (f h : Chars) (t u : Tree) (ts us : Trees) → f ≡ h → t ≡ u → ts ≡ us → comp f t ts ≡ comp h u us
  joined f h t u ts us a b c = cc

  joined_more : (t u : Tree) (ts us : Trees) → t ≡ u → ts ≡ us → more t ts ≡ more u us
  joined_more t u ts us a b = cc

  mutual
    pub same_term : (t u : Tree) → spelled g t ≡ spelled g u → t ≡ u
    same_term (var x) (var y) e = e
    same_term (var x) (int j) e = cc
    same_term (var x) (atom b) e = cc
    same_term (var x) (comp h u us) e = cc
    same_term (int i) (var y) e = cc
    same_term (int i) (int j) e = e
    same_term (int i) (atom b) e = cc
    same_term (int i) (comp h u us) e = cc
    same_term (atom a) (var y) e = cc
    same_term (atom a) (int j) e = cc
    same_term (atom a) (atom b) e = ap atom (same_name a b (atom_parts (g a) (g b) e))
    same_term (atom a) (comp h u us) e = cc
    same_term (comp f t ts) (var y) e = cc
    same_term (comp f t ts) (int j) e = cc
    same_term (comp f t ts) (atom b) e = cc
    same_term (comp f t ts) (comp h u us) e =
        joined f h t u ts us (same_name f h (comp_name (g f) (g h) (spelled g t) (spelled g u) (spelled_all g ts) (spelled_all g us) e))
        (same_term t u (comp_first (g f) (g h) (spelled g t) (spelled g u) (spelled_all g ts) (spelled_all g us) e))
        (same_terms ts us (comp_rest (g f) (g h) (spelled g t) (spelled g u) (spelled_all g ts) (spelled_all g us) e))

    same_terms : (ts us : Trees) → spelled_all g ts ≡ spelled_all g us → ts ≡ us
    same_terms none none e = refl
    same_terms none (more u us) e = cc
    same_terms (more t ts) none e = cc
    same_terms (more t ts) (more u us) e =
        joined_more t u ts us (same_term t u (more_first (spelled g t) (spelled g u) (spelled_all g ts) (spelled_all g us) e))
        (same_terms ts us (more_rest (spelled g t) (spelled g u) (spelled_all g ts) (spelled_all g us) e))
