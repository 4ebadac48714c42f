-- Compound terms and their arguments, as they are read.
use Rattle.std.proofs.Common.{◌≡◌, ℕ, zero, suc, ◌<◌, ◌≤◌, List, [], ◌∷◌, ◌++◌, map, length, get_or, Some, None, refl, ap, subst, arith, drop, length-take, length-drop}
use Rattle.std.specs.List.{All, Contains}
use Rattle.std.proofs.lemmas.List.{length-map}
use Rattle.std.proofs.lemmas.List.Elements.{All-cons, All-head, All-nil, All-tail}
use Rattle.pl_term.specs.Tree.{Chars, Tree, comp, more, compound, trees}
use Rattle.pl_model.specs.Terms.{arguments}
use Rattle.pl_model.specs.TermBuiltins.{member}
use Rattle.term_store.specs.declared.views.Arguments.{Arguments}
use Rattle.term_store.specs.Heap.{atom_name, meaning}
use Rattle.term_store.specs.Contents.{Contents, IsArguments, arguments_at, words_at}
use Rattle.world_builtins.specs.Naming.{atoms_in, atoms_in_all, number_of}
use Rattle.world_builtins.specs.Spelling.{spelled, spelled_all}

pub All-left : {X : Type 0} (P : X → Type 0) (xs ys : List X) → All P (xs ++ ys) → All P xs
All-left P [] ys h = All-nil P
All-left P (x ∷ xs) ys h = All-cons P x xs (All-head P x (xs ++ ys) h) (All-left P xs ys (All-tail P x (xs ++ ys) h))

pub All-right : {X : Type 0} (P : X → Type 0) (xs ys : List X) → All P (xs ++ ys) → All P ys
All-right P [] ys h = h
All-right P (x ∷ xs) ys h = All-right P xs ys (All-tail P x (xs ++ ys) h)

pub how_many : (s : Contents) (a : Arguments) → IsArguments s a → length (arguments_at s a) ≡ a.count
how_many s a is =
    omega (arith, length-map (words_at s a) (meaning s.heap), length-take a.count (drop a.start s.heap.args), length-drop a.start s.heap.args, is.within)

pub spelled_trees : (g : Chars → Chars) (ts : List Tree) → spelled_all g (trees ts) ≡ trees (map (spelled g) ts)
spelled_trees g [] = refl
spelled_trees g (t ∷ ts) = ap (more (spelled g t)) (spelled_trees g ts)

pub spelled_compound : (g : Chars → Chars) (f : Chars) (ts : List Tree) → spelled g (compound f ts) ≡ compound (g f) (map (spelled g) ts)
spelled_compound g f [] = refl
spelled_compound g f (t ∷ ts) = ap (comp (g f) (spelled g t)) (spelled_trees g ts)

pub arguments_compound : (f : Chars) (ts : List Tree) → arguments (compound f ts) ≡ trees ts
arguments_compound f [] = refl
arguments_compound f (t ∷ ts) = refl

-- The member of a list with a number, counted from 0.
pub member_at : (g : Chars → Chars) (ts : List Tree) (k : ℕ) (d : Tree) → k < length ts → member k (trees (map (spelled g) ts)) ≡ Some (spelled g (get_or ts k d))
member_at g [] k d lt = absurd (omega arith)
member_at g (t ∷ ts) zero d lt = refl
member_at g (t ∷ ts) (suc k) d lt = member_at g ts k d (omega arith)

pub member_past : (g : Chars → Chars) (ts : List Tree) (k : ℕ) → length ts ≤ k → member k (trees (map (spelled g) ts)) ≡ None
member_past g [] k le = refl
member_past g (t ∷ ts) zero le = absurd (omega arith)
member_past g (t ∷ ts) (suc k) le = member_past g ts k (omega arith)

-- The atoms of an argument are atoms of the compound term.
held_member : (P : ℕ → Type 0) (ts : List Tree) (k : ℕ) (d : Tree) → k < length ts → All P (atoms_in_all (trees ts)) → All P (atoms_in (get_or ts k d))
held_member P [] k d lt h = absurd (omega arith)
held_member P (t ∷ ts) zero d lt h = All-left P (atoms_in t) (atoms_in_all (trees ts)) h
held_member P (t ∷ ts) (suc k) d lt h = held_member P ts k d (omega arith) (All-right P (atoms_in t) (atoms_in_all (trees ts)) h)

pub held_arguments : (P : ℕ → Type 0) (f : Chars) (ts : List Tree) → All P (atoms_in (compound f ts)) → All P (atoms_in_all (trees ts))
held_arguments P f [] h = All-nil P
held_arguments P f (t ∷ ts) h = All-tail P (number_of f) (atoms_in t ++ atoms_in_all (trees ts)) h

pub held_argument : (P : ℕ → Type 0) (f : Chars) (ts : List Tree) (t : Tree) → Contains ts t → All P (atoms_in (compound f ts)) → All P (atoms_in t)
held_argument P f ts t (k, lt, at) h =
    subst (λ u. All P (atoms_in u)) at (held_member P ts k t lt (held_arguments P f ts h))

pub name_of_compound : (P : ℕ → Type 0) (f : ℕ) (ts : List Tree) → All P (atoms_in (compound (atom_name f) ts)) → P f
name_of_compound P f [] h = All-head P f [] h
name_of_compound P f (t ∷ ts) h = All-head P f (atoms_in t ++ atoms_in_all (trees ts)) h
