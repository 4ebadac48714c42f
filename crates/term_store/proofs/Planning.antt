-- What is left to do for two words to become equal, on the terms that they stand for.
use Rattle.std.proofs.Common.{◌≡◌, ◌≢◌, ◌⊎◌, inl, inr, ℕ, ◌<◌, ◌≤◌, ◌+◌, Bool, true, false, cond, ◌==◌, nat_lt, List, [], ◌∷◌, length, get_or, map, drop, length-take, length-drop, None, refl, sym, ap, ap₂, subst, ◌∙◌, arith}
use Rattle.std.specs.Ordering.{int_eq}
use Rattle.std.specs.Str.{bytes_eq}
use Rattle.std.proofs.lemmas.Bool.{false≢true, cases_lt}
use Rattle.std.proofs.lemmas.Bool.Decides.{Decides-eqb, Decides-int_eq, Decides-ltb}
use Rattle.std.proofs.lemmas.Slice.Eq.{bytes_eq-Decides}
use Rattle.pl_term.specs.Tree.{Chars, Tree, var, int, atom, comp, trees, compound}
use Rattle.pl_term.specs.Variables.{has, replace}
use Rattle.pl_model.specs.Unify.{same, clash, binds, difference}
use Rattle.pl_model.proofs.UnifyReplace.{eqb_same, eqb_other, replace-absent}
use Rattle.term_store.specs.declared.words.Word.{Word}
use Rattle.term_store.specs.declared.words.Word.TheVariants.{Var, Int, Atom, Comp}
use Rattle.term_store.specs.declared.words.Head.{Head}
use Rattle.term_store.specs.declared.words.Plan.{Plan}
use Rattle.term_store.specs.declared.words.Plan.TheVariants.{Same, Clash, Bind, Open}
use Rattle.term_store.specs.Heap.{Heap, atom_name, words_of, bindings, meaning, numbered, find}
use Rattle.term_store.specs.Fit.{IsIn, Fit, Below, no_head}
use Rattle.term_store.specs.Cells.{IsFree}
use Rattle.term_store.specs.Unifying.{plan_of}
use Rattle.term_store.proofs.Equations.{bound-int, bound-atom}
use Rattle.term_store.proofs.Following.{stands}
use Rattle.term_store.proofs.Opening.{opened}

-- The variable of a slot faces a term, and is to be bound to a word that stands for it.
pub record Facing (h : Heap) (t u : Tree) (i : ℕ) (w : Word) : Type 0 where
  pub slot : i < length h.numbers
  pub free : find i h.trail ≡ None
  pub below : Below i w
  pub inside : IsIn h w
  pub differs : difference t u ≡ binds (numbered h i) (meaning h w)
  pub joins : has (numbered h i) (meaning h w) ≡ false → replace (numbered h i) (meaning h w) t ≡ replace (numbered h i) (meaning h w) u

abbrev pub Planned : Heap → Word → Word → Plan → Type 0
Planned h a b Same = meaning h a ≡ meaning h b
Planned h a b Clash = difference (meaning h a) (meaning h b) ≡ clash
Planned h a b (Bind i w) = Facing h (meaning h a) (meaning h b) i w
Planned h a b (Open k l) = (a ≡ Comp k) × (b ≡ Comp l)

-- A term that is no variable.
abbrev IsNonvar : Tree → Type 0
IsNonvar (var x) = ⊥
IsNonvar (int n) = Unit {0}
IsNonvar (atom a) = Unit {0}
IsNonvar (comp f t ts) = Unit {0}

difference-left : (x : ℕ) (u : Tree) → IsNonvar u → difference (var x) u ≡ binds x u
difference-left x (var y) h = absurd h
difference-left x (int n) h = refl
difference-left x (atom a) h = refl
difference-left x (comp f t ts) h = refl

difference-right : (x : ℕ) (t : Tree) → IsNonvar t → difference t (var x) ≡ binds x t
difference-right x (var y) h = absurd h
difference-right x (int n) h = refl
difference-right x (atom a) h = refl
difference-right x (comp f t ts) h = refl

compound_nonvar : (f : Chars) (ts : List Tree) → IsNonvar (compound f ts)
compound_nonvar f [] = tt
compound_nonvar f (t ∷ ts) = tt

replace_own : (x : ℕ) (s : Tree) → has x s ≡ false → replace x s (var x) ≡ replace x s s
replace_own x s h = ap (λ b. cond b s (var x)) (eqb_same x) ∙ sym (replace-absent s x s h)

face_left : (h : Heap) (i : ℕ) (w : Word) → Fit h → i < length h.numbers → find i h.trail ≡ None → IsIn h w → Below i w → IsNonvar (meaning h w)
    → Facing h (meaning h (Var i)) (meaning h w) i w
face_left h i w fit slot free inside below nonvar =
    record {
      slot = slot;
      free = free;
      below = below;
      inside = inside;
      differs = ap (λ t. difference t (meaning h w)) (stands h i fit slot free) ∙ difference-left (numbered h i) (meaning h w) nonvar;
      joins = λ absent. ap (replace (numbered h i) (meaning h w)) (stands h i fit slot free) ∙ replace_own (numbered h i) (meaning h w) absent;
    }

face_right : (h : Heap) (i : ℕ) (w : Word) → Fit h → i < length h.numbers → find i h.trail ≡ None → IsIn h w → Below i w → IsNonvar (meaning h w)
    → Facing h (meaning h w) (meaning h (Var i)) i w
face_right h i w fit slot free inside below nonvar =
    record {
      slot = slot;
      free = free;
      below = below;
      inside = inside;
      differs = ap (difference (meaning h w)) (stands h i fit slot free) ∙ difference-right (numbered h i) (meaning h w) nonvar;
      joins = λ absent. sym (ap (replace (numbered h i) (meaning h w)) (stands h i fit slot free) ∙ replace_own (numbered h i) (meaning h w) absent);
    }

int_meaning : (h : Heap) → (n : _) → meaning h (Int n) ≡ int n
int_meaning h n = bound-int (bindings h) n

atom_meaning : (h : Heap) (a : ℕ) → meaning h (Atom a) ≡ atom (atom_name a)
atom_meaning h a = bound-atom (bindings h) (atom_name a)

int_nonvar : (h : Heap) → (n : _) → IsNonvar (meaning h (Int n))
int_nonvar h n = subst IsNonvar (sym (int_meaning h n)) tt

atom_nonvar : (h : Heap) (a : ℕ) → IsNonvar (meaning h (Atom a))
atom_nonvar h a = subst IsNonvar (sym (atom_meaning h a)) tt

comp_nonvar : (h : Heap) (k : ℕ) → Fit h → k < length h.heads → IsNonvar (meaning h (Comp k))
comp_nonvar h k fit lt =
    let g = get_or h.heads k no_head in
    subst IsNonvar (sym (opened h k fit lt)) (compound_nonvar (atom_name g.name) _)

not_less : (x y : ℕ) → y < x → nat_lt x y ≡ false
not_less x y lt = go (nat_lt x y) refl
  where
    go : (q : Bool) → nat_lt x y ≡ q → q ≡ false
    go true e = let up : x < y = (Decides-ltb x y).0 e in absurd (omega arith)
    go false e = refl

not_below : (i j : ℕ) → (i == j) ≡ false → nat_lt i j ≡ false → j < i
not_below i j e l = go (cases_lt i j)
  where
    go : (i < j) ⊎ (j ≤ i) → j < i
    go (inl k) = absurd (false≢true (sym l ∙ (Decides-ltb i j).1 k))
    go (inr k) =
        let ne : i ≢ j = λ s. false≢true (sym e ∙ (Decides-eqb i j).1 s) in
        omega arith

-- Of two free variables the one with the higher slot has the greater number.
vars_planned : (h : Heap) (i j : ℕ) → Fit h → i < length h.numbers → j < length h.numbers → find i h.trail ≡ None → find j h.trail ≡ None
    → Planned h (Var i) (Var j) (plan_of (Var i) (Var j))
vars_planned h i j fit a b f g = go (i == j) refl (nat_lt i j) refl
  where
    go : (p : Bool) → (i == j) ≡ p → (q : Bool) → nat_lt i j ≡ q → Planned h (Var i) (Var j) (cond p Same (cond q (Bind j (Var i)) (Bind i (Var j))))
    go true e q l = ap (λ k. meaning h (Var k)) ((Decides-eqb i j).0 e)
    go false e true l =
        let lt : i < j = (Decides-ltb i j).0 l in
        let up : numbered h i < numbered h j = fit.rises i j lt b in
        let ne : numbered h i ≢ numbered h j = λ s. absurd (omega arith) in
        record {
          slot = b;
          free = g;
          below = lt;
          inside = a;
          differs =
              ap₂ difference (stands h i fit a f) (stands h j fit b g)
              ∙ ap₂ (λ p q. cond p same (cond q (binds (numbered h j) (var (numbered h i))) (binds (numbered h i) (var (numbered h j)))))
              (eqb_other (numbered h i) (numbered h j) ne) ((Decides-ltb (numbered h i) (numbered h j)).1 up)
              ∙ ap (binds (numbered h j)) (sym (stands h i fit a f));
          joins = λ absent. sym (ap (replace (numbered h j) (meaning h (Var i))) (stands h j fit b g) ∙ replace_own (numbered h j) (meaning h (Var i)) absent);
        }
    go false e false l =
        let lt : j < i = not_below i j e l in
        let up : numbered h j < numbered h i = fit.rises j i lt a in
        let ne : numbered h i ≢ numbered h j = λ s. absurd (omega arith) in
        record {
          slot = a;
          free = f;
          below = lt;
          inside = b;
          differs =
              ap₂ difference (stands h i fit a f) (stands h j fit b g)
              ∙ ap₂ (λ p q. cond p same (cond q (binds (numbered h j) (var (numbered h i))) (binds (numbered h i) (var (numbered h j)))))
              (eqb_other (numbered h i) (numbered h j) ne) (not_less (numbered h i) (numbered h j) up)
              ∙ ap (binds (numbered h i)) (sym (stands h j fit b g));
          joins = λ absent. ap (replace (numbered h i) (meaning h (Var j))) (stands h i fit a f) ∙ replace_own (numbered h i) (meaning h (Var j)) absent;
        }

ints_planned : (h : Heap) → (n m : _) → Planned h (Int n) (Int m) (plan_of (Int n) (Int m))
ints_planned h n m = go (int_eq n m) refl
  where
    go : (q : Bool) → int_eq n m ≡ q → Planned h (Int n) (Int m) (cond q Same Clash)
    go true e = ap (λ k. meaning h (Int k)) ((Decides-int_eq n m).0 e)
    go false e = ap₂ difference (int_meaning h n) (int_meaning h m) ∙ ap (λ q. cond q same clash) e

-- The names of two atoms are equal where the atoms are.
pub names-differ : (a b : ℕ) → (a == b) ≡ false → bytes_eq (atom_name a) (atom_name b) ≡ false
names-differ a b e = go (bytes_eq (atom_name a) (atom_name b)) refl
  where
    go : (q : Bool) → bytes_eq (atom_name a) (atom_name b) ≡ q → q ≡ false
    go true k =
        let same_name : atom_name a ≡ atom_name b = (bytes_eq-Decides (atom_name a) (atom_name b)).0 k in
        let same_atom : a ≡ b = cc in
        absurd (false≢true (sym e ∙ (Decides-eqb a b).1 same_atom))
    go false k = refl

atoms_planned : (h : Heap) (a b : ℕ) → Planned h (Atom a) (Atom b) (plan_of (Atom a) (Atom b))
atoms_planned h a b = go (a == b) refl
  where
    go : (q : Bool) → (a == b) ≡ q → Planned h (Atom a) (Atom b) (cond q Same Clash)
    go true e = ap (λ k. meaning h (Atom k)) ((Decides-eqb a b).0 e)
    go false e = ap₂ difference (atom_meaning h a) (atom_meaning h b) ∙ ap (λ q. cond q same clash) (names-differ a b e)

comps_planned : (h : Heap) (k l : ℕ) → Planned h (Comp k) (Comp l) (plan_of (Comp k) (Comp l))
comps_planned h k l = go (k == l) refl
  where
    go : (q : Bool) → (k == l) ≡ q → Planned h (Comp k) (Comp l) (cond q Same (Open k l))
    go true e = ap (λ j. meaning h (Comp j)) ((Decides-eqb k l).0 e)
    go false e = (refl, refl)

-- A compound term of the heap has an argument.
pub record IsOpened (h : Heap) (k : ℕ) : Type 0 where
  pub name : ℕ
  pub first : Word
  pub others : List Word
  pub means : meaning h (Comp k) ≡ comp (atom_name name) (meaning h first) (trees (map (meaning h) others))
  pub words : words_of h.args (get_or h.heads k no_head) ≡ first ∷ others
  pub named : (get_or h.heads k no_head).name ≡ name

nonempty : (args : List Word) (g : Head) → 0 < g.count → g.start + g.count ≤ length args → 0 < length (words_of args g)
nonempty args g some within = omega (arith, length-take g.count (drop g.start args), length-drop g.start args)

pub is_opened : (h : Heap) (k : ℕ) → Fit h → k < length h.heads → IsOpened h k
is_opened h k fit lt =
    go (words_of h.args (get_or h.heads k no_head)) refl
    (nonempty h.args (get_or h.heads k no_head) (fit.heads k lt).some (fit.heads k lt).within)
    (opened h k fit lt)
  where
    go : (ws : List Word) → words_of h.args (get_or h.heads k no_head) ≡ ws → 0 < length (words_of h.args (get_or h.heads k no_head))
        → meaning h (Comp k) ≡ compound (atom_name (get_or h.heads k no_head).name) (map (meaning h) (words_of h.args (get_or h.heads k no_head)))
        → IsOpened h k
    go [] e some m = absurd (subst (λ vs. 0 < length vs → ⊥) (sym e) (λ lt_none. omega arith) some)
    go (w ∷ ws) e some m =
        record {
          name = (get_or h.heads k no_head).name;
          first = w;
          others = ws;
          means = m ∙ ap (λ vs. compound (atom_name (get_or h.heads k no_head).name) (map (meaning h) vs)) e;
          words = e;
          named = refl;
        }

pub planned : (h : Heap) (a b : Word) → Fit h → IsIn h a → IsIn h b → IsFree h a → IsFree h b → Planned h a b (plan_of a b)
planned h (Var i) (Var j) fit p q f g = vars_planned h i j fit p q f g
planned h (Var i) (Int n) fit p q f g = face_left h i (Int n) fit p f q tt (int_nonvar h n)
planned h (Var i) (Atom a) fit p q f g = face_left h i (Atom a) fit p f q tt (atom_nonvar h a)
planned h (Var i) (Comp k) fit p q f g = face_left h i (Comp k) fit p f q tt (comp_nonvar h k fit q)
planned h (Int n) (Var j) fit p q f g = face_right h j (Int n) fit q g p tt (int_nonvar h n)
planned h (Int n) (Int m) fit p q f g = ints_planned h n m
planned h (Int n) (Atom a) fit p q f g = ap₂ difference (int_meaning h n) (atom_meaning h a)
planned h (Int n) (Comp k) fit p q f g = ap₂ difference (int_meaning h n) (is_opened h k fit q).means
planned h (Atom a) (Var j) fit p q f g = face_right h j (Atom a) fit q g p tt (atom_nonvar h a)
planned h (Atom a) (Int n) fit p q f g = ap₂ difference (atom_meaning h a) (int_meaning h n)
planned h (Atom a) (Atom b) fit p q f g = atoms_planned h a b
planned h (Atom a) (Comp k) fit p q f g = ap₂ difference (atom_meaning h a) (is_opened h k fit q).means
planned h (Comp k) (Var j) fit p q f g = face_right h j (Comp k) fit q g p tt (comp_nonvar h k fit p)
planned h (Comp k) (Int n) fit p q f g = ap₂ difference (is_opened h k fit p).means (int_meaning h n)
planned h (Comp k) (Atom a) fit p q f g = ap₂ difference (is_opened h k fit p).means (atom_meaning h a)
planned h (Comp k) (Comp l) fit p q f g = comps_planned h k l
