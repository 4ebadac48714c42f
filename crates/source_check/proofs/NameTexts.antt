-- The names that a term gives to op/3, by its nodes.
use Rattle.std.proofs.Common.{◌≡◌, ℕ, ℤ, suc, List, [], ◌∷◌, ◌++◌, map, Bool, true, false, Option, Some, None, refl, sym, ap, ◌∙◌, arith, append-nil}
use Rattle.std.proofs.lemmas.Bool.{ne_eqb}
use Rattle.std.specs.Prelude.{Result, Ok, Err, bytes_eq, codes, ◌&&◌, ◌==◌, if◌then◌else◌}
use Rattle.std.specs.Option.{option_map}
use Rattle.pl_term.specs.Tree.{Chars, Tree, Trees, var, int, atom, comp, none, more, count}
use Rattle.pl_term.specs.Nodes.{nodes, nodes_all}
use Rattle.pl_model.specs.Balls.{type_error}
use Rattle.pl_model.specs.Checks.{atoms_error, elements_within, first_error, tail_elements, text_of_atom, with_element}
use Rattle.pl_model.specs.SharedBuiltins as builtins
use Rattle.source_check.specs.GoalNodes.{listed, names_in, with_listed}

-- The texts of a list of atoms.
abbrev pub texts_told : Option Tree → List Tree → Option (List Chars)
texts_told None ts = Some (map text_of_atom ts)
texts_told (Some e) ts = None

abbrev pub told : Result (List Tree) Tree → Option (List Chars)
told (Ok ts) = texts_told (atoms_error ts) ts
told (Err e) = None

-- An atom more.
texts_more : (a : Chars) (o : Option Tree) (ts : List Tree) → option_map (λ (gs : List Chars). a ∷ gs) (texts_told o ts) ≡ texts_told (first_error (o ∷ [])) (atom a ∷ ts)
texts_more a None ts = refl
texts_more a (Some e) ts = refl

told_more : (a : Chars) (r : Result (List Tree) Tree) → option_map (λ (gs : List Chars). a ∷ gs) (told r) ≡ told (with_element (atom a) r)
told_more a (Ok ts) = texts_more a (atoms_error ts) ts
told_more a (Err e) = refl

-- What is no atom.
var_told : (x : ℕ) (r : Result (List Tree) Tree) → told (with_element (var x) r) ≡ None
var_told x (Ok ts) = refl
var_told x (Err e) = refl

int_told : (i : ℤ) (r : Result (List Tree) Tree) → told (with_element (int i) r) ≡ None
int_told i (Ok ts) = refl
int_told i (Err e) = refl

comp_told : (f : Chars) (t : Tree) (us : Trees) (r : Result (List Tree) Tree) → told (with_element (comp f t us) r) ≡ None
comp_told f t us (Ok ts) = refl
comp_told f t us (Err e) = refl

none_told : (b : Bool) (r : Result (List Tree) Tree) (e : Tree) → told r ≡ None → None ≡ told (if b then r else Err e)
none_told true r e h = sym h
none_told false r e h = refl

empty_told : (b : Bool) (e : Tree) → (let o : Option (List Chars) = (if b then Some [] else None) in o) ≡ told (if b then Ok [] else Err e)
empty_told true e = refl
empty_told false e = refl

pair_told : (b : Bool) (a : Chars) (o : Option (List Chars)) (r : Result (List Tree) Tree) (e : Tree)
    → o ≡ told r
    → with_listed (if true && b then Some a else None) o ≡ told (if b && true then with_element (atom a) r else Err e)
pair_told true a o r e same = ap (option_map (λ (gs : List Chars). a ∷ gs)) same ∙ told_more a r
pair_told false a o r e same = refl

lone_told : (b : Bool) (a : Chars) (o : Option (List Chars)) (r : Result (List Tree) Tree) (e : Tree)
    → with_listed (if false && b then Some a else None) o ≡ told (if b && false then with_element (atom a) r else Err e)
lone_told true a o r e = refl
lone_told false a o r e = refl

three_more : (n : ℕ) → (suc (suc (suc n)) == 2) ≡ false
three_more n = ne_eqb (suc (suc (suc n))) 2 (λ e. omega (arith, e))

two_more : (n : ℕ) → (suc (suc n) == 1) ≡ false
two_more n = ne_eqb (suc (suc n)) 1 (λ e. omega (arith, e))

listed_tree : (whole t : Tree) → listed (nodes t) ≡ told (elements_within whole t)
listed_tree whole (var x) = refl
listed_tree whole (int i) = refl
listed_tree whole (atom a) = empty_told (bytes_eq a (codes "[]")) (type_error (codes "list") whole)
listed_tree whole (comp f (var x) ts) =
    none_told (bytes_eq f (codes ".") && (count ts == 1)) (with_element (var x) (tail_elements whole ts)) (type_error (codes "list") whole) (var_told x (tail_elements whole ts))
listed_tree whole (comp f (int i) ts) =
    none_told (bytes_eq f (codes ".") && (count ts == 1)) (with_element (int i) (tail_elements whole ts)) (type_error (codes "list") whole) (int_told i (tail_elements whole ts))
listed_tree whole (comp f (comp g t us) ts) =
    none_told (bytes_eq f (codes ".") && (count ts == 1)) (with_element (comp g t us) (tail_elements whole ts)) (type_error (codes "list") whole) (comp_told g t us (tail_elements whole ts))
listed_tree whole (comp f (atom a) none) =
    lone_told (bytes_eq f (codes ".")) a (listed []) (tail_elements whole none) (type_error (codes "list") whole)
listed_tree whole (comp f (atom a) (more u none)) =
    pair_told (bytes_eq f (codes ".")) a (listed (nodes u ++ [])) (elements_within whole u) (type_error (codes "list") whole)
    (ap listed (append-nil (nodes u)) ∙ listed_tree whole u)
listed_tree whole (comp f (atom a) (more u (more w ws))) =
    ap (λ b. with_listed (if b && bytes_eq f (codes ".") then Some a else None) (listed (nodes u ++ (nodes w ++ nodes_all ws)))) (three_more (count ws))
    ∙ lone_told (bytes_eq f (codes ".")) a (listed (nodes u ++ (nodes w ++ nodes_all ws))) (tail_elements whole (more u (more w ws))) (type_error (codes "list") whole)
    ∙ ap (λ b. told (if bytes_eq f (codes ".") && b then with_element (atom a) (tail_elements whole (more u (more w ws))) else Err (type_error (codes "list") whole))) (sym (two_more (count ws)))

-- THE NAMES
pub names_tree : (t : Tree) → names_in (nodes t) ≡ told (builtins.names_in t)
names_tree (var x) = refl
names_tree (int i) = refl
names_tree (atom a) = refl
names_tree (comp f t ts) = listed_tree (comp f t ts) (comp f t ts)
