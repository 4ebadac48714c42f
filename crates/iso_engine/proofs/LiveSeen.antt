-- Terms that two readings of their names tell alike, and that a third one reads as these do: where the two differ at a name that
-- the third may read otherwise, no term names it.
use Rattle.std.proofs.Common.{◌≡◌, List, ◌∷◌, refl, ap, ap₂}
use Rattle.pl_term.specs.Tree.{Chars, Tree, Trees, var, int, atom, comp, none, more}
use Rattle.pl_model.specs.Predicates.{proc_of}
use Rattle.pl_model.specs.Terms.{arguments}
use Rattle.iso_search.specs.Spelling.{spelled, spelled_all}
use Rattle.iso_engine.proofs.Naming.{AllNames, AllNamesIn}

pub atom_parts : (a b : Chars) → atom a ≡ atom b → a ≡ b
atom_parts a b e = cc

pub comp_name : (f h : Chars) (t u : Tree) (ts us : Trees) → comp f t ts ≡ comp h u us → f ≡ h
comp_name f h t u ts us e = cc

pub comp_first : (f h : Chars) (t u : Tree) (ts us : Trees) → comp f t ts ≡ comp h u us → t ≡ u
comp_first f h t u ts us e = cc

pub comp_rest : (f h : Chars) (t u : Tree) (ts us : Trees) → comp f t ts ≡ comp h u us → ts ≡ us
comp_rest f h t u ts us e = cc

pub more_first : (t u : Tree) (ts us : Trees) → more t ts ≡ more u us → t ≡ u
more_first t u ts us e = cc

pub more_rest : (t u : Tree) (ts us : Trees) → more t ts ≡ more u us → ts ≡ us
more_rest t u ts us e = cc

joined : (f h : Chars) (t u : Tree) (ts us : Trees) → f ≡ h → t ≡ u → ts ≡ us → comp f t ts ≡ comp h u us
joined f h t u ts us a b c = cc

module _ (P : Chars → Type 0) (f f0 f1 : Chars → Chars) (knows : (x : Chars) → P x → f0 x ≡ f1 x → f x ≡ f0 x) where
  mutual
    pub seen : (t : Tree) → AllNames P t → spelled f0 t ≡ spelled f1 t → spelled f t ≡ spelled f0 t
    seen (var x) n e = refl
    seen (int i) n e = refl
    seen (atom a) n e = ap atom (knows a n (atom_parts (f0 a) (f1 a) e))
    seen (comp g t ts) n e =
        joined (f g) (f0 g) (spelled f t) (spelled f0 t) (spelled_all f ts) (spelled_all f0 ts)
        (knows g n.0 (comp_name (f0 g) (f1 g) (spelled f0 t) (spelled f1 t) (spelled_all f0 ts) (spelled_all f1 ts) e))
        (seen t n.1.0 (comp_first (f0 g) (f1 g) (spelled f0 t) (spelled f1 t) (spelled_all f0 ts) (spelled_all f1 ts) e))
        (all_seen ts n.1.1 (comp_rest (f0 g) (f1 g) (spelled f0 t) (spelled f1 t) (spelled_all f0 ts) (spelled_all f1 ts) e))

    pub all_seen : (ts : Trees) → AllNamesIn P ts → spelled_all f0 ts ≡ spelled_all f1 ts → spelled_all f ts ≡ spelled_all f0 ts
    all_seen none n e = refl
    all_seen (more t ts) n e =
        ap₂ more (seen t n.0 (more_first (spelled f0 t) (spelled f1 t) (spelled_all f0 ts) (spelled_all f1 ts) e))
        (all_seen ts n.1 (more_rest (spelled f0 t) (spelled f1 t) (spelled_all f0 ts) (spelled_all f1 ts) e))

  -- A goal is told by its predicate and its arguments.
  pub told_goal : (t : Tree) → proc_of (spelled f0 t) ≡ proc_of (spelled f1 t) → arguments (spelled f0 t) ≡ arguments (spelled f1 t) → spelled f0 t ≡ spelled f1 t
  told_goal (var x) p a = refl
  told_goal (int i) p a = refl
  told_goal (atom g) p a = ap (λ q. atom q.name) p
  told_goal (comp g t ts) p a =
      joined (f0 g) (f1 g) (spelled f0 t) (spelled f1 t) (spelled_all f0 ts) (spelled_all f1 ts) (ap (λ q. q.name) p)
      (more_first (spelled f0 t) (spelled f1 t) (spelled_all f0 ts) (spelled_all f1 ts) a)
      (more_rest (spelled f0 t) (spelled f1 t) (spelled_all f0 ts) (spelled_all f1 ts) a)

-- Lists of which each member is told alike.
pub cons_first : {X : Type 0} (x y : X) (xs ys : List X) → x ∷ xs ≡ y ∷ ys → x ≡ y
cons_first x y xs ys e = cc

pub cons_rest : {X : Type 0} (x y : X) (xs ys : List X) → x ∷ xs ≡ y ∷ ys → xs ≡ ys
cons_rest x y xs ys e = cc
