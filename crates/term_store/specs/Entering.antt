-- Clauses whose heads are met in a goal, as turns of unification's definition.
use Rattle.std.specs.Prelude.{◌≡◌, ℕ, zero, suc, ◌+◌, ◌-◌, ◌<◌, ◌≤◌, Bool, true, false, not, nat_lt, ◌==◌, List, [], ◌∷◌, ◌++◌, length, slice_index_or, pos, Option, Some, None, if◌then◌else◌}
use Rattle.std.specs.List.{All}
use Rattle.atom_api.specs.FixedNames.{true_name}
use Rattle.pl_term.specs.Cells.{compound_cells}
use Rattle.pl_term.specs.Tree.{Tree, Trees, var, atom, comp, none, more}
use Rattle.pl_term.specs.Variables.{has, rename_by}
use Rattle.pl_model.specs.Unify.{Bindings, bound, bound_all, solve, unify, instance}
use Rattle.term_store.specs.declared.words.Word.{Word}
use Rattle.term_store.specs.declared.words.Word.TheVariants.{Var, Int, Atom, Comp}
use Rattle.term_store.specs.declared.words.Head.{Head}
use Rattle.term_store.specs.declared.words.Bond.{Bond}
use Rattle.term_store.specs.declared.words.Pair.{Pair}
use Rattle.term_store.specs.declared.words.Place.{Place}
use Rattle.term_store.specs.declared.block.Block.{Block}
use Rattle.term_store.specs.ArgumentKeys.{head_in}
use Rattle.term_store.specs.Blocks.{IsBlock, IsFirst, block_heap, no_range, part_of}
use Rattle.term_store.specs.Contents.{Contents, Holds, term_at}
use Rattle.term_store.specs.Fit.{IsIn}
use Rattle.term_store.specs.Heap.{Heap, atom_name, meaning, numbered}
use Rattle.term_store.specs.NumberedNames.{is_rule_term, neck, number_of}
use Rattle.term_store.specs.Unifying.{lefts}

-- The body of a clause that is kept as one term: of a rule its second argument, of a fact `true`.
abbrev pub body_in : Tree → Tree
body_in (comp f t (more u none)) = if number_of f == neck then u else atom (atom_name true_name)
body_in t = atom (atom_name true_name)

-- What stands for a variable of a clause: for each of those that were met a word of the heap, for the others a new variable.
abbrev pub value : Heap → ℕ → List Word → ℕ → Tree
value c from known x = if nat_lt x (length known) then meaning c (slice_index_or known x (Int (pos 0))) else var (from + x)

-- The term that a word of a clause's block becomes.
abbrev pub entered : Block → Heap → ℕ → List Word → Word → Tree
entered b c from known p = instance (value c from known) (part_of b p)

-- The words are some of the heap, and the numbers from those of the new variables on are no variables of the heap.
pub record IsKnown (c : Heap) (from : ℕ) (known : List Word) : Type 0 where
  pub words : All (IsIn c) known
  pub below : All (λ m. m < from + length known) c.numbers

-- The heap has gained compound terms, variables and bindings.
pub record Extends (c d : Heap) : Type 0 where
  pub heads : List Head
  pub args : List Word
  pub numbers : List ℕ
  pub trail : List Bond
  pub extends : d ≡ record { heads = c.heads ++ heads; args = c.args ++ args; numbers = c.numbers ++ numbers; trail = c.trail ++ trail }

-- What stood on the heap, and what stands for the clause's variables, has the bindings in it.
pub record Meets (c : Heap) (from : ℕ) (known : List Word) (made : Bindings) (d : Heap) (after : List Word) : Type 0 where
  pub inside : (w : Word) → IsIn c w → IsIn d w
  pub binds : (w : Word) → IsIn c w → meaning d w ≡ bound made (meaning c w)
  pub values : (x : ℕ) → value d from after x ≡ bound made (value c from known x)

-- What is left to do with the second lists of terms is what was left with the first ones, some turns later and after more
-- bindings.
pub record Comes (ts us : Trees) (made : Bindings) (vs ws : Trees) : Type 0 where
  pub turns : ℕ
  pub same : (n : ℕ) (bs : Bindings) → solve (turns + n) bs ts us ≡ solve n (bs ++ made) vs ws

-- No bindings make two terms the same, whatever stands behind them.
abbrev pub Never : Tree → Tree → Type 0
Never t u = (ts us : Trees) (n : ℕ) (bs : Bindings) → solve n bs (more t ts) (more u us) ≡ None

-- A word and a term of the clause were made the same.
pub record Joined (c : Heap) (from : ℕ) (known : List Word) (w : Word) (u : Tree) (d : Heap) (after : List Word) : Type 0 where
  pub made : Bindings
  pub meets : Meets c from known made d after
  pub known_after : IsKnown d from after
  pub comes : (ts us : Trees) → Comes (more (meaning c w) ts) (more u us) made (bound_all made ts) (bound_all made us)

-- The first variable that was not met stands for what a word of the heap stands for.
pub record MetFirst (c : Heap) (known : List Word) (w : Word) (after : List Word) : Type 0 where
  pub word : Word
  pub known_after : after ≡ known ++ word ∷ []
  pub means : meaning c word ≡ meaning c w
  pub inside : IsIn c word

abbrev pub Joins : Bool → Heap → ℕ → List Word → Word → Tree → Heap → List Word → Type 0
Joins true c from known w u d after = Joined c from known w u d after
Joins false c from known w u d after = Never (meaning c w) u

-- A word that stands for a constant.
abbrev pub IsConstant : Word → Type 0
IsConstant (Var x) = ⊥
IsConstant (Int i) = Unit {0}
IsConstant (Atom a) = Unit {0}
IsConstant (Comp k) = ⊥

-- A word of the block that is no variable of those met first, up to a number of them, but for one that stands for a term in which the
-- variable of a slot does not occur.
abbrev pub IsHarmless : Heap → ℕ → List Word → ℕ → Word → Type 0
IsHarmless h slot known before (Var x) = x < before → has (numbered h slot) (meaning h (slice_index_or known x (Int (pos 0)))) ≡ false
IsHarmless h slot known before (Int i) = Unit {0}
IsHarmless h slot known before (Atom a) = Unit {0}
IsHarmless h slot known before (Comp k) = Unit {0}

-- A word of the block that is no variable of those met first, up to a number of them, but for one that stands for a term without
-- variables.
abbrev pub IsGroundBefore : Heap → List Word → ℕ → Word → Type 0
IsGroundBefore h known before (Var x) = x < before → (y : ℕ) → has y (meaning h (slice_index_or known x (Int (pos 0)))) ≡ false
IsGroundBefore h known before (Int i) = Unit {0}
IsGroundBefore h known before (Atom a) = Unit {0}
IsGroundBefore h known before (Comp k) = Unit {0}

-- A word of the heap and one of the clause's block.
abbrev pub IsFacing : Heap → Block → Pair → Type 0
IsFacing c b p = IsIn c p.left × IsIn (block_heap b) p.right

-- The terms that the pairs' second words become, the last one first, before some more.
abbrev pub faces : Block → Heap → ℕ → List Word → List Pair → Trees → Trees
faces b c from known [] ts = ts
faces b c from known (p ∷ ps) ts = faces b c from known ps (more (entered b c from known p.right) ts)

-- What there is to be met in a part of a block, which is more than in all its arguments together.
abbrev pub weight : Block → Word → ℕ
weight b p = suc (compound_cells (part_of b p))

abbrev pub weights : Block → List Pair → ℕ
weights b [] = zero
weights b (p ∷ ps) = weight b p.right + weights b ps

-- A word of the heap and one of the block were made the same, or their arguments are still to be, which were put on the stack.
pub record Turned (b : Block) (c : Heap) (from : ℕ) (known : List Word) (w p : Word) (ps : List Pair) (d : Heap) (after : List Word) (qs : List Pair) : Type 0 where
  pub made : Bindings
  pub meets : Meets c from known made d after
  pub known_after : IsKnown d from after
  pub few : length after ≤ b.variables
  pub gained : List Pair
  pub pushed : qs ≡ ps ++ gained
  pub inside : All (IsFacing d b) gained
  pub lighter : weights b gained < weight b p
  pub comes : (ts us : Trees) → Comes (more (meaning c w) ts) (more (entered b c from known p) us)
      made (lefts d gained (bound_all made ts)) (faces b d from after gained (bound_all made us))

abbrev pub Turns : Bool → Block → Heap → ℕ → List Word → Word → Word → List Pair → Heap → List Word → List Pair → Type 0
Turns true b c from known w p ps d after qs = Turned b c from known w p ps d after qs
Turns false b c from known w p ps d after qs = Never (meaning c w) (entered b c from known p)

-- The block's compound terms between two places stand on the heap `d` from a place on, where the words stand for the block's
-- variables on the heap `c`.
abbrev pub AreCopied : Block → Heap → ℕ → List Word → ℕ → ℕ → ℕ → Heap → Type 0
AreCopied b c from known low above end d =
    (j : ℕ) → low ≤ j → j < end → meaning d (Comp (above + (j - low))) ≡ entered b c from known (Comp j)

-- All variables of the word were met.
abbrev pub IsReady : Block → List Word → Word → Type 0
IsReady b known (Var x) = x < length known
IsReady b known (Int i) = Unit {0}
IsReady b known (Atom a) = Unit {0}
IsReady b known (Comp k) = (slice_index_or b.ranges.items k no_range).variables ≤ length known

-- The head was met: it is unified with the goal by bindings, which all that stood on the heap, and all that stands for the
-- clause's variables, now has in it. Or nothing unifies them.
pub record Entered (b : Block) (c : Heap) (from : ℕ) (w p : Word) (d : Heap) (after : List Word) : Type 0 where
  pub made : Bindings
  pub unifies : unify (meaning c w) (rename_by (λ x. from + x) (part_of b p)) ≡ Some made
  pub meets : Meets c from [] made d after
  pub known_after : IsKnown d from after
  pub few : length after ≤ b.variables

abbrev pub Enters : Bool → Block → Heap → ℕ → Word → Word → Heap → List Word → Type 0
Enters true b c from w p d after = Entered b c from w p d after
Enters false b c from w p d after = unify (meaning c w) (rename_by (λ x. from + x) (part_of b p)) ≡ None

-- The head of a clause is another word than the clause: that of a rule is, since it is an argument of the rule.
abbrev pub head_is_apart : Word → Word → Bool
head_is_apart (Var x) head = false
head_is_apart (Int i) head = false
head_is_apart (Atom a) head = false
head_is_apart (Comp k) (Var x) = true
head_is_apart (Comp k) (Int i) = true
head_is_apart (Comp k) (Atom a) = true
head_is_apart (Comp k) (Comp j) = not (j == k)

-- The words of a clause's block that stand for the clause's head and its body.
pub record IsParts (b : Block) (head body : Word) : Type 0 where
  pub head_in_block : IsIn (block_heap b) head
  pub body_in_block : IsIn (block_heap b) body
  pub head_is : part_of b head ≡ head_in (part_of b b.root)
  pub body_is : part_of b body ≡ body_in (part_of b b.root)
  pub rule_is : is_rule_term (part_of b b.root) ≡ head_is_apart b.root head

-- The block is that of a term with so many variables, and names its head and its body.
pub record IsBlockOf (n : ℕ) (t : Tree) (b : Block) : Type 0 where
  pub is : IsBlock b
  pub parts : IsParts b b.head b.body
  pub first : IsFirst b
  pub count : b.variables ≡ n
  pub means : part_of b b.root ≡ t

-- The clause of the block was entered, and its body stands for the word; or nothing unifies its head with the goal.
pub record BodyEntered (b : Block) (c : Heap) (from : ℕ) (goal : Word) (body : Word) (d : Heap) : Type 0 where
  pub made : Bindings
  pub unifies : unify (meaning c goal) (rename_by (λ x. from + x) (head_in (part_of b b.root))) ≡ Some made
  pub inside : (w : Word) → IsIn c w → IsIn d w
  pub binds : (w : Word) → IsIn c w → meaning d w ≡ bound made (meaning c w)
  pub body_inside : IsIn d body
  pub body_is : meaning d body ≡ bound made (rename_by (λ x. from + x) (body_in (part_of b b.root)))
  pub below : All (λ m. m < from + b.variables) d.numbers

abbrev pub BlockEntered : Block → Heap → ℕ → Word → Option Word → Heap → Type 0
BlockEntered b c from goal (Some body) d = BodyEntered b c from goal body d
BlockEntered b c from goal None d = unify (meaning c goal) (rename_by (λ x. from + x) (head_in (part_of b b.root))) ≡ None

-- What entering a clause does: where bindings unify the goal with the clause's head, each place has them put into its term, and
-- the body stands at the place, with them put in. Where none do, nothing has changed.
abbrev pub ClauseEntered : Contents → Place → ℕ → Tree → Option Place → Contents → Type 0
ClauseEntered s goal from clause (Some body) t =
    (bs : Bindings) × ((unify (term_at s goal) (rename_by (λ x. from + x) (head_in clause)) ≡ Some bs)
    × (((p : Place) → Holds s p → term_at t p ≡ bound bs (term_at s p))
    × (Holds t body × (term_at t body ≡ bound bs (rename_by (λ x. from + x) (body_in clause))))))
ClauseEntered s goal from clause None t = (unify (term_at s goal) (rename_by (λ x. from + x) (head_in clause)) ≡ None) × (t ≡ s)
