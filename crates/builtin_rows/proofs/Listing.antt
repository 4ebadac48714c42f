-- The elements of lists.
use Rattle.std.proofs.Common.{◌≡◌, ◌≢◌, ℕ, suc, ◌-◌, ◌<◌, Bool, true, false, not, ◌&&◌, ◌==◌, if◌then◌else◌, List, [], ◌∷◌, ◌++◌, length, get_or, map, drop, Option, Some, None, IsSome, Result, Ok, Err, codes, refl, sym, ap, ap₂, subst, ◌∙◌, arith, drop-cons, length-drop}
use Rattle.std.specs.List.{All}
use Rattle.std.specs.Str.{bytes_eq}
use Rattle.std.proofs.lemmas.Bool.{false≢true}
use Rattle.std.proofs.lemmas.Bool.Decides.{Decides-eqb}
use Rattle.std.proofs.lemmas.List.{length-map, length-take-le}
use Rattle.std.proofs.lemmas.List.Elements.{All-cons, All-head, All-nil, All-tail, All-get_or}
use Rattle.std.proofs.lemmas.Option.{same_Some}
use Rattle.std.proofs.lemmas.Slice.Eq.{bytes_eq-Decides}
use Rattle.pl_term.specs.Tree.{Chars, Tree, var, int, atom, comp, compound, more, none, trees, count}
use Rattle.pl_model.specs.Balls.{instantiation_error, type_error}
use Rattle.pl_model.specs.Checks.{elements_within, tail_elements, with_element}
use Rattle.pl_model.proofs.UnifyReplace.{eqb_other}
use Rattle.atom_api.specs.Fixed.{fixed, fixed_texts}
use Rattle.atom_api.specs.FixedNames.{list_cell_name, nil_name}
use Rattle.atom_api.specs.Names.{Names}
use Rattle.term_store.specs.declared.words.Place.{Place}
use Rattle.term_store.specs.declared.views.Arguments.{Arguments}
use Rattle.term_store.specs.Heap.{atom_name, meaning}
use Rattle.term_store.specs.Contents.{Contents, IsArguments, arguments_at, words_at, term_at}
use Rattle.world_builtins.specs.Naming.{IsHeldAt, atoms_in, atoms_in_all}
use Rattle.world_builtins.specs.Spelling.{or_no_text, reads, spelled, spelled_all, text_of}
use Rattle.builtin_rows.specs.declared.lists.ListEnd.{ListEnd}
use Rattle.builtin_rows.specs.declared.lists.ListEnd.TheVariants.{Closed, Open, Broken}
use Rattle.builtin_rows.specs.Lists.{AreHeld, IsNaming, EndsAs, with_elements, cells_of}

pub nil_is : fixed nil_name ≡ Some (codes "[]")
unfolding fixed_texts
nil_is = refl

pub cell_is : fixed list_cell_name ≡ Some (codes ".")
unfolding fixed_texts
cell_is = refl

count_listed : (g : Chars → Chars) (ts : List Tree) → count (spelled_all g (trees ts)) ≡ length ts
count_listed g [] = refl
count_listed g (t ∷ ts) = ap suc (count_listed g ts)

-- As many arguments are seen as the term has.
pub arguments_long : (s : Contents) (a : Arguments) → IsArguments s a → length (arguments_at s a) ≡ a.count
arguments_long s a i =
    length-map (words_at s a) (meaning s.heap)
    ∙ length-take-le a.count (drop a.start s.heap.args) (omega (arith, length-drop a.start s.heap.args, i.within))

-- The atoms of a compound term that are held: its name, and those of its arguments.
parted : {X : Type 0} (P : X → Type 0) (xs ys : List X) → All P (xs ++ ys) → All P xs × All P ys
parted P [] ys h = (All-nil P, h)
parted P (x ∷ xs) ys h =
    let r : All P xs × All P ys = parted P xs ys (All-tail P x (xs ++ ys) h) in (All-cons P x xs (All-head P x (xs ++ ys) h) r.0, r.1)

listed_held : (m : Names) (ts : List Tree) → All (λ a. IsSome (m a)) (atoms_in_all (trees ts)) → AreHeld m ts
listed_held m [] h = All-nil (λ t. All (λ a. IsSome (m a)) (atoms_in t))
listed_held m (t ∷ ts) h =
    let P : ℕ → Type 0 = λ a. IsSome (m a) in
    let r : All P (atoms_in t) × All P (atoms_in_all (trees ts)) = parted P (atoms_in t) (atoms_in_all (trees ts)) h in
    All-cons (λ u. All P (atoms_in u)) t ts r.0 (listed_held m ts r.1)

compound_held : (m : Names) (f : ℕ) (ts : List Tree) → 0 < length ts → All (λ a. IsSome (m a)) (atoms_in (compound (atom_name f) ts)) → IsSome (m f) × AreHeld m ts
compound_held m f [] lt h = absurd (omega arith)
compound_held m f (t ∷ ts) lt h =
    let P : ℕ → Type 0 = λ a. IsSome (m a) in
    let all = atoms_in_all (trees (t ∷ ts)) in
    (All-head P f all h, listed_held m (t ∷ ts) (All-tail P f all h))

pub compound_parts : (m : Names) (s : Contents) (p : Place) (f : ℕ) (a : Arguments) → term_at s p ≡ compound (atom_name f) (arguments_at s a) → IsArguments s a → 0 < a.count
    → IsHeldAt m s p → IsSome (m f) × AreHeld m (arguments_at s a)
compound_parts m s p f a e is some h =
    compound_held m f (arguments_at s a) (omega (arith, arguments_long s a is, some)) (subst (λ u. All (λ b. IsSome (m b)) (atoms_in u)) e h)

same_bool : (b c : Bool) → (b ≡ true → c ≡ true) → (c ≡ true → b ≡ true) → b ≡ c
same_bool true c f g = sym (f refl)
same_bool false true f g = absurd (false≢true (g refl))
same_bool false false f g = refl

-- An atom that is held has the text of a fixed one where it is that one.
pub named_is : (m : Names) → IsNaming m → (a k : ℕ) (t : Chars) → fixed k ≡ Some t → IsSome (m a) → bytes_eq (text_of m (atom_name a)) t ≡ (a == k)
named_is m n a k t e held = go (m a) refl held
  where
    go : (o : Option Chars) → m a ≡ o → IsSome o → bytes_eq (text_of m (atom_name a)) t ≡ (a == k)
    go None is h = absurd (false≢true h)
    go (Some u) is h =
        ap (λ x. bytes_eq x t) (ap (or_no_text (atom_name a)) is)
        ∙ same_bool (bytes_eq u t) (a == k)
        (λ f. (Decides-eqb a k).1 (n.unlike a k t (is ∙ ap Some ((bytes_eq-Decides u t).0 f)) (n.stands k t e)))
        (λ f. (bytes_eq-Decides u t).1 (same_Some u t (sym is ∙ ap m ((Decides-eqb a k).0 f) ∙ n.stands k t e)))

pub not_true : (b : Bool) → true ≡ not b → b ≡ false
not_true true e = e
not_true false e = refl

pub not_false : (b : Bool) → false ≡ not b → b ≡ true
not_false true e = refl
not_false false e = e

-- What stands at a place of a list

abbrev no_list : Tree → Result (List Tree) Tree
no_list whole = Err (type_error (codes "list") whole)

pub open_part : (m : Names) (s : Contents) (p : Place) (whole : Tree) (x : ℕ) → term_at s p ≡ var x → elements_within whole (reads m s p) ≡ Err instantiation_error
open_part m s p whole x e = ap (λ t. elements_within whole (spelled (text_of m) t)) e

pub integer_part : (m : Names) (s : Contents) (p : Place) (whole : Tree) (i : _) → term_at s p ≡ int i → elements_within whole (reads m s p) ≡ no_list whole
integer_part m s p whole i e = ap (λ t. elements_within whole (spelled (text_of m) t)) e

pub atom_part : (m : Names) → IsNaming m → (s : Contents) (p : Place) (whole : Tree) (a : ℕ) (b : Bool) → term_at s p ≡ atom (atom_name a) → IsHeldAt m s p
    → (a == nil_name) ≡ b → elements_within whole (reads m s p) ≡ (if b then Ok [] else no_list whole)
atom_part m n s p whole a b e held q =
    let P : ℕ → Type 0 = λ k. IsSome (m k) in
    let has : IsSome (m a) = All-head P a [] (subst (λ t. All P (atoms_in t)) e held) in
    ap (λ t. elements_within whole (spelled (text_of m) t)) e
    ∙ ap (λ c. if c then Ok [] else no_list whole) (named_is m n a nil_name (codes "[]") nil_is has ∙ q)

and_false : (b c : Bool) → c ≡ false → (b && c) ≡ false
and_false true c e = e
and_false false c e = refl

module _ (m : Names) (n : IsNaming m) (whole : Tree) (f : ℕ) (held : IsSome (m f)) where
  abbrev names_cell : Bool
  names_cell = bytes_eq (text_of m (atom_name f)) (codes ".")

  cell_named : (b : Bool) → (f == list_cell_name) ≡ b → names_cell ≡ b
  cell_named b q = named_is m n f list_cell_name (codes ".") cell_is held ∙ q

  other_name : (ts : List Tree) → 0 < length ts → (f == list_cell_name) ≡ false → elements_within whole (spelled (text_of m) (compound (atom_name f) ts)) ≡ no_list whole
  other_name [] some q = absurd (omega arith)
  other_name (t ∷ ts) some q =
      let g = text_of m in
      ap
      (λ b. if b && (count (spelled_all g (trees ts)) == 1)
      then with_element (spelled g t) (tail_elements whole (spelled_all g (trees ts)))
      else no_list whole)
      (cell_named false q)

  other_count : (ts : List Tree) → 0 < length ts → length ts ≢ 2 → elements_within whole (spelled (text_of m) (compound (atom_name f) ts)) ≡ no_list whole
  other_count [] some q = absurd (omega arith)
  other_count (t ∷ ts) some q =
      let g = text_of m in
      let unlike : (count (spelled_all g (trees ts)) == 1) ≡ false =
      ap (λ k. k == 1) (count_listed g ts) ∙ eqb_other (length ts) 1 (λ e. q (omega (arith, e))) in
      ap
      (λ b. if b then with_element (spelled g t) (tail_elements whole (spelled_all g (trees ts))) else no_list whole)
      (and_false names_cell (count (spelled_all g (trees ts)) == 1) unlike)

  cell_part : (x y : Tree) → (f == list_cell_name) ≡ true
      → elements_within whole (spelled (text_of m) (comp (atom_name f) x (more y none)))
      ≡ with_element (spelled (text_of m) x) (elements_within whole (spelled (text_of m) y))
  cell_part x y q =
      let g = text_of m in
      ap (λ b. if b && true then with_element (spelled g x) (elements_within whole (spelled g y)) else no_list whole) (cell_named true q)

two_of : (ts : List Tree) (d : Tree) → length ts ≡ 2 → ts ≡ get_or ts 0 d ∷ (get_or ts 1 d ∷ [])
two_of [] d e = absurd (omega arith)
two_of (t ∷ []) d e = absurd (omega arith)
two_of (t ∷ (u ∷ [])) d e = refl
two_of (t ∷ (u ∷ (v ∷ ts))) d e = absurd (omega arith)

pub cell_read : (m : Names) → IsNaming m → (s : Contents) (p x rest : Place) (whole : Tree) (f : ℕ) (ts : List Tree) (d : Tree) → IsSome (m f)
    → term_at s p ≡ compound (atom_name f) ts → length ts ≡ 2 → (f == list_cell_name) ≡ true → term_at s x ≡ get_or ts 0 d → term_at s rest ≡ get_or ts 1 d
    → elements_within whole (reads m s p) ≡ with_element (reads m s x) (elements_within whole (reads m s rest))
cell_read m n s p x rest whole f ts d held e long q l r =
    let g = text_of m in
    ap (λ t. elements_within whole (spelled g t)) (e ∙ ap (compound (atom_name f)) (two_of ts d long))
    ∙ cell_part m n whole f held (get_or ts 0 d) (get_or ts 1 d) q
    ∙ sym (ap₂ (λ a b. with_element (spelled g a) (elements_within whole (spelled g b))) l r)

pub name_read : (m : Names) → IsNaming m → (s : Contents) (p : Place) (whole : Tree) (f : ℕ) (ts : List Tree) → IsSome (m f)
    → term_at s p ≡ compound (atom_name f) ts → 0 < length ts → (f == list_cell_name) ≡ false → elements_within whole (reads m s p) ≡ no_list whole
name_read m n s p whole f ts held e some q =
    ap (λ t. elements_within whole (spelled (text_of m) t)) e ∙ other_name m n whole f held ts some q

pub count_read : (m : Names) → IsNaming m → (s : Contents) (p : Place) (whole : Tree) (f : ℕ) (ts : List Tree) → IsSome (m f)
    → term_at s p ≡ compound (atom_name f) ts → 0 < length ts → length ts ≢ 2 → elements_within whole (reads m s p) ≡ no_list whole
count_read m n s p whole f ts held e some q =
    ap (λ t. elements_within whole (spelled (text_of m) t)) e ∙ other_count m n whole f held ts some q

-- An argument's atoms are held.
pub argument_held : (m : Names) (s : Contents) (ts : List Tree) (j : ℕ) (d : Tree) (x : Place) → AreHeld m ts → j < length ts → term_at s x ≡ get_or ts j d
    → IsHeldAt m s x
argument_held m s ts j d x held lt e =
    let P : Tree → Type 0 = λ t. All (λ a. IsSome (m a)) (atoms_in t) in subst P (sym e) (All-get_or P ts j d lt held)

-- The walk

with_more : (f : Place → Tree) (ps : List Place) (x : Place) (r : Result (List Tree) Tree)
    → with_elements (map f (ps ++ x ∷ [])) r ≡ with_elements (map f ps) (with_element (f x) r)
with_more f [] x r = refl
with_more f (p ∷ ps) x r = ap (with_element (f p)) (with_more f ps x r)

pub walked_on : (f : Place → Tree) (ps new : List Place) (x : Place) (all here rest : Result (List Tree) Tree)
    → all ≡ with_elements (map f ps) here → here ≡ with_element (f x) rest → new ≡ ps ++ x ∷ [] → all ≡ with_elements (map f new) rest
walked_on f ps new x all here rest e h is =
    e ∙ ap (with_elements (map f ps)) h ∙ sym (with_more f ps x rest) ∙ ap (λ qs. with_elements (map f qs) rest) (sym is)

with_ok : (ts : List Tree) → with_elements ts (Ok []) ≡ Ok ts
with_ok [] = refl
with_ok (t ∷ ts) = ap (with_element t) (with_ok ts)

with_err : (ts : List Tree) (e : Tree) → with_elements ts (Err e) ≡ Err e
with_err [] e = refl
with_err (t ∷ ts) e = ap (with_element t) (with_err ts e)

pub walk_ends : (end : ListEnd) (whole : Tree) (ts : List Tree) (all here : Result (List Tree) Tree) → all ≡ with_elements ts here → EndsAs end whole [] here
    → EndsAs end whole ts all
walk_ends Closed whole ts all here e h = e ∙ ap (with_elements ts) h ∙ with_ok ts
walk_ends Open whole ts all here e h = e ∙ ap (with_elements ts) h ∙ with_err ts instantiation_error
walk_ends Broken whole ts all here e h = e ∙ ap (with_elements ts) h ∙ with_err ts (type_error (codes "list") whole)

-- One more cell in front of the list
pub cell_made : (s t u : Contents) (xs : List Place) (i : ℕ) (d : Place) (tail new : Place)
    → 0 < i → i - 1 < length xs
    → term_at t tail ≡ cells_of (map (term_at s) (drop i xs))
    → term_at t (get_or xs (i - 1) d) ≡ term_at s (get_or xs (i - 1) d)
    → term_at u new ≡ comp (atom_name list_cell_name) (term_at t (get_or xs (i - 1) d)) (more (term_at t tail) none)
    → term_at u new ≡ cells_of (map (term_at s) (drop (i - 1) xs))
cell_made s t u xs i d tail new some within rest kept means =
    let up : suc (i - 1) ≡ i = omega arith in
    means ∙ ap₂ (λ a b. comp (atom_name list_cell_name) a (more b none)) kept rest
    ∙ sym
    (ap (λ ys. cells_of (map (term_at s) ys))
    (drop-cons xs (i - 1) d within ∙ ap (λ k. get_or xs (i - 1) d ∷ drop k xs) up))
