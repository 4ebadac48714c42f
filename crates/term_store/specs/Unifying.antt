-- Unification on a heap, as turns of its definition.
use Rattle.std.specs.Prelude.{◌≡◌, ℕ, suc, ◌+◌, Bool, true, false, ◌||◌, ◌==◌, nat_lt, List, [], ◌∷◌, ◌++◌, Some, None, if◌then◌else◌}
use Rattle.std.specs.Ordering.{int_eq}
use Rattle.pl_term.specs.Tree.{Trees, none, more}
use Rattle.pl_term.specs.Variables.{has}
use Rattle.pl_model.specs.Unify.{Bindings, bound, solve}
use Rattle.term_store.specs.declared.words.Word.{Word}
use Rattle.term_store.specs.declared.words.Word.TheVariants.{Var, Int, Atom, Comp}
use Rattle.term_store.specs.declared.words.Bond.{Bond}
use Rattle.term_store.specs.declared.words.Pair.{Pair}
use Rattle.term_store.specs.declared.words.Plan.{Plan}
use Rattle.term_store.specs.declared.words.Plan.TheVariants.{Same, Clash, Bind, Open}
use Rattle.term_store.specs.Heap.{Heap, meaning, with_trail}
use Rattle.term_store.specs.Fit.{IsIn}

-- Whether a variable occurs in what one of the words stands for.
abbrev pub any_has : ℕ → Heap → List Word → Bool
any_has x h [] = false
any_has x h (w ∷ ws) = has x (meaning h w) || any_has x h ws

-- What is left to do for two words to become equal, of which neither is a bound variable.
abbrev pub plan_of : Word → Word → Plan
plan_of (Var i) (Var j) = if i == j then Same else (if nat_lt i j then Bind j (Var i) else Bind i (Var j))
plan_of (Var i) (Int n) = Bind i (Int n)
plan_of (Var i) (Atom a) = Bind i (Atom a)
plan_of (Var i) (Comp k) = Bind i (Comp k)
plan_of (Int n) (Var j) = Bind j (Int n)
plan_of (Int n) (Int m) = if int_eq n m then Same else Clash
plan_of (Int n) (Atom a) = Clash
plan_of (Int n) (Comp k) = Clash
plan_of (Atom a) (Var j) = Bind j (Atom a)
plan_of (Atom a) (Int n) = Clash
plan_of (Atom a) (Atom b) = if a == b then Same else Clash
plan_of (Atom a) (Comp k) = Clash
plan_of (Comp k) (Var j) = Bind j (Comp k)
plan_of (Comp k) (Int n) = Clash
plan_of (Comp k) (Atom a) = Clash
plan_of (Comp k) (Comp l) = if k == l then Same else Open k l

abbrev pub IsPairIn : Heap → Pair → Type 0
IsPairIn h p = IsIn h p.left × IsIn h p.right

-- The pairs of words at equal places.
abbrev pub zip_words : List Word → List Word → List Pair
zip_words (v ∷ vs) (w ∷ ws) = record { left = v; right = w } ∷ zip_words vs ws
zip_words _ _ = []

-- What the pairs on a stack stand for on either side, the last one first, before some more.
abbrev pub lefts : Heap → List Pair → Trees → Trees
lefts h [] ts = ts
lefts h (p ∷ ps) ts = lefts h ps (more (meaning h p.left) ts)

abbrev pub rights : Heap → List Pair → Trees → Trees
rights h [] ts = ts
rights h (p ∷ ps) ts = rights h ps (more (meaning h p.right) ts)

-- The heap has gained bindings alone.
pub record Grown (c d : Heap) : Type 0 where
  pub bonds : List Bond
  pub grown : d ≡ with_trail c (c.trail ++ bonds)

-- Every word stands for what it stood for with the bindings put in.
abbrev pub Binds : Heap → Bindings → Heap → Type 0
Binds c bs d = (w : Word) → meaning d w ≡ bound bs (meaning c w)

-- What is left to do on the heap `d` with the pairs `qs` is what was left on the heap `c` with two words in front of
-- the pairs `ps`, some turns later and after more bindings.
pub record Goes (c : Heap) (ps : List Pair) (a b : Word) (d : Heap) (qs : List Pair) : Type 0 where
  pub turns : ℕ
  pub made : Bindings
  pub binds : Binds c made d
  pub same : (n : ℕ) (bs : Bindings)
      → solve (turns + n) bs (more (meaning c a) (lefts c ps none)) (more (meaning c b) (rights c ps none))
      ≡ solve n (bs ++ made) (lefts d qs none) (rights d qs none)

-- Where the answer is false nothing unifies the words.
abbrev pub Moves : Bool → Heap → List Pair → Word → Word → Heap → List Pair → Type 0
Moves true c ps a b d qs = Goes c ps a b d qs
Moves false c ps a b d qs = (n : ℕ) (bs : Bindings)
    → solve n bs (more (meaning c a) (lefts c ps none)) (more (meaning c b) (rights c ps none)) ≡ None

-- The words are unified by bindings, which each word of the heap now has in it, or by none.
pub record Unifies (c : Heap) (a b : Word) (d : Heap) : Type 0 where
  pub turns : ℕ
  pub made : Bindings
  pub binds : Binds c made d
  pub solved : (n : ℕ) → solve (suc (turns + n)) [] (more (meaning c a) none) (more (meaning c b) none) ≡ Some made

abbrev pub Solves : Bool → Heap → Word → Word → Heap → Type 0
Solves true c a b d = Unifies c a b d
Solves false c a b d = (turns : ℕ) × ((n : ℕ) → solve (turns + n) [] (more (meaning c a) none) (more (meaning c b) none) ≡ None)
