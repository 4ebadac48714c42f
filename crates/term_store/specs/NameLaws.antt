-- What depends on the atoms that a term names.
use Rattle.std.specs.Prelude.{◌≡◌, ℕ, Bool, true, false, ◌==◌, List, [], ◌∷◌, ◌++◌, refl, bytes_eq, codes, if◌then◌else◌}
use Rattle.std.specs.List.{All, Contains}
use Rattle.std.proofs.Common.{ap, ap₂, ◌∙◌, arith}
use Rattle.std.proofs.lemmas.List.Elements.{All-nil, All-cons, All-head, All-tail, Contains-append_left, Contains-append_right}
use Rattle.pl_term.specs.Tree.{Chars, Tree, Trees, var, int, atom, comp, none, more}
use Rattle.term_store.specs.NumberedNames.{number_of, spelled_all, neck, with_neck, text_by, term_by, atoms_in, atoms_in_all, names_of}
use Rattle.term_store.specs.ArgumentKeys.{argument_key, clause_key, head_key, key_atoms}

left_all : (P : ℕ → Type 0) (xs ys : List ℕ) → All P (xs ++ ys) → All P xs
left_all P [] ys all = All-nil P
left_all P (x ∷ xs) ys all = All-cons P x xs (All-head P x (xs ++ ys) all) (left_all P xs ys (All-tail P x (xs ++ ys) all))

right_all : (P : ℕ → Type 0) (xs ys : List ℕ) → All P (xs ++ ys) → All P ys
right_all P [] ys all = all
right_all P (x ∷ xs) ys all = right_all P xs ys (All-tail P x (xs ++ ys) all)

same_name : (text other : ℕ → Chars) (a : ℕ) → text neck ≡ other neck → text a ≡ other a → with_neck text a ≡ with_neck other a
same_name text other a n e =
    ap₂ (λ (t u : Chars). if a == neck then codes ":-" else (if bytes_eq t (codes ":-") then u else t)) e n

module _ (text other : ℕ → Chars) (n : text neck ≡ other neck) where
  mutual
    same_spelled : (t : Tree) → All (λ a. text a ≡ other a) (atoms_in t) → term_by text t ≡ term_by other t
    same_spelled (var x) same = refl
    same_spelled (int i) same = refl
    same_spelled (atom a) same = ap atom (same_name text other (number_of a) n (All-head (λ b. text b ≡ other b) (number_of a) [] same))
    same_spelled (comp f t ts) same =
        let here : text (number_of f) ≡ other (number_of f) = All-head (λ b. text b ≡ other b) (number_of f) (atoms_in t ++ atoms_in_all ts) same in
        let inner : All (λ b. text b ≡ other b) (atoms_in t ++ atoms_in_all ts) =
        All-tail (λ b. text b ≡ other b) (number_of f) (atoms_in t ++ atoms_in_all ts) same in
        ap (λ g. comp g (term_by text t) (spelled_all (text_by text) ts)) (same_name text other (number_of f) n here)
        ∙ ap₂ (comp (text_by other f)) (same_spelled t (left_all (λ b. text b ≡ other b) (atoms_in t) (atoms_in_all ts) inner))
        (all_same_spelled ts (right_all (λ b. text b ≡ other b) (atoms_in t) (atoms_in_all ts) inner))

    all_same_spelled : (ts : Trees) → All (λ a. text a ≡ other a) (atoms_in_all ts) → spelled_all (text_by text) ts ≡ spelled_all (text_by other) ts
    all_same_spelled none same = refl
    all_same_spelled (more t ts) same =
        ap₂ more (same_spelled t (left_all (λ b. text b ≡ other b) (atoms_in t) (atoms_in_all ts) same))
        (all_same_spelled ts (right_all (λ b. text b ≡ other b) (atoms_in t) (atoms_in_all ts) same))

pub names_are_told : (t : Tree) (text other : ℕ → Chars) → All (λ a. text a ≡ other a) (names_of t) → term_by text t ≡ term_by other t
names_are_told t text other same =
    same_spelled text other (All-head (λ a. text a ≡ other a) neck (atoms_in t) same) t (All-tail (λ a. text a ≡ other a) neck (atoms_in t) same)

-- Each atom of a key is one of the term.

behind_one : (x a : ℕ) (xs : List ℕ) → Contains xs a → Contains (x ∷ xs) a
behind_one x a xs c = Contains-append_right (x ∷ []) xs a c

argument_named : (t : Tree) (a : ℕ) → Contains (key_atoms (argument_key t)) a → Contains (atoms_in t) a
argument_named (var x) a c = c
argument_named (int i) a c = c
argument_named (atom f) a c = c
argument_named (comp f t ts) a c = Contains-append_left (number_of f ∷ []) (atoms_in t ++ atoms_in_all ts) a c

nothing_named : (a : ℕ) (xs : List ℕ) → Contains [] a → Contains xs a
nothing_named a xs c = absurd (omega (arith, c.1))

head_named : (t : Tree) (a : ℕ) → Contains (key_atoms (head_key t)) a → Contains (atoms_in t) a
head_named (var x) a c = c
head_named (int i) a c = c
head_named (atom f) a c = nothing_named a (number_of f ∷ []) c
head_named (comp f t ts) a c =
    behind_one (number_of f) a (atoms_in t ++ atoms_in_all ts) (Contains-append_left (atoms_in t) (atoms_in_all ts) a (argument_named t a c))

clause_named : (t : Tree) (a : ℕ) → Contains (key_atoms (clause_key t)) a → Contains (atoms_in t) a
clause_named (var x) a c = c
clause_named (int i) a c = c
clause_named (atom f) a c = nothing_named a (number_of f ∷ []) c
clause_named (comp f t none) a c = head_named (comp f t none) a c
clause_named (comp f t (more u none)) a c = go (number_of f == neck) c
  where
    go : (b : Bool) → Contains (key_atoms (head_key (if b then t else comp f t (more u none)))) a → Contains (atoms_in (comp f t (more u none))) a
    go true d =
        behind_one (number_of f) a (atoms_in t ++ atoms_in_all (more u none))
        (Contains-append_left (atoms_in t) (atoms_in_all (more u none)) a (head_named t a d))
    go false d = head_named (comp f t (more u none)) a d
clause_named (comp f t (more u (more v ts))) a c = head_named (comp f t (more u (more v ts))) a c

pub keys_are_named : (t : Tree) (a : ℕ) → Contains (key_atoms (clause_key t)) a → Contains (names_of t) a
keys_are_named t a c = behind_one neck a (atoms_in t) (clause_named t a c)
