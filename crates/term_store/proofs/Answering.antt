-- Turns of unification as its definition, and bindings as callers see them.
use Rattle.std.proofs.Common.{◌≡◌, ◌⊎◌, inl, inr, ℕ, suc, ◌+◌, ◌<◌, ◌≤◌, Bool, true, false, [], ◌∷◌, length, None, Result, Ok, Err, IfOk, OnOk, OnErr, sym, ap, ap₂, subst, ◌∙◌, arith, append-nil}
use Rattle.std.proofs.lemmas.Bool.{cases_lt}
use Rattle.pl_term.specs.Tree.{Tree, var, none, more}
use Rattle.pl_term.specs.Variables.{has, replace, occurrences_all}
use Rattle.pl_model.specs.Unify.{solve, unify}
use Rattle.pl_model.proofs.UnifyEnough.{turns_enough}
use Rattle.term_store.specs.declared.words.Word.{Word}
use Rattle.term_store.specs.declared.words.Word.TheVariants.{Var, Int, Atom, Comp}
use Rattle.term_store.specs.declared.words.Place.{Place}
use Rattle.term_store.specs.declared.words.StoreMark.{StoreMark}
use Rattle.term_store.specs.Heap.{Heap, meaning, numbered, find, pushed, with_trail}
use Rattle.term_store.specs.Fit.{IsIn, Fit, Below}
use Rattle.term_store.specs.Cells.{IsFree}
use Rattle.term_store.specs.Unifying.{Grown, Unifies, Solves}
use Rattle.term_store.specs.Contents.{Contents, term_at, Adds, IsMark, Unified, MayBind, Bound, back_to}
use Rattle.term_store.proofs.Binding.{meaning-pushed}
use Rattle.term_store.proofs.Following.{stands}
use Rattle.term_store.proofs.Marking.{adds_grown, cut-grown}

-- More turns than there are occurrences of variables are enough.
enough_turns : (a b : Tree) (k : ℕ) → length (occurrences_all (more a none)) + length (occurrences_all (more b none)) < k
    → solve k [] (more a none) (more b none) ≡ unify a b
unfolding unify
enough_turns a b k lt = turns_enough k [] (more a none) (more b none) lt

pub unified_true : (s t : Contents) (a b : Place) → Unifies s.heap a.word b.word t.heap → Unified true s a b t
unified_true s t a b u =
    let n = length (occurrences_all (more (term_at s a) none)) + length (occurrences_all (more (term_at s b) none)) in
    (u.made, (sym (enough_turns (term_at s a) (term_at s b) (suc (u.turns + n)) (omega arith)) ∙ u.solved n, λ p. u.binds p.word))

pub unified_false : (s t : Contents) (a b : Place) (d : Heap) → Solves false s.heap a.word b.word d → t ≡ s → Unified false s a b t
unified_false s t a b d (turns, never) e =
    let n = length (occurrences_all (more (term_at s a) none)) + length (occurrences_all (more (term_at s b) none)) in
    (sym (enough_turns (term_at s a) (term_at s b) (turns + suc n) (omega arith)) ∙ never (suc n), e)

-- The slot of an unbound variable that may be bound to what a word stands for.
var_number : (x y : ℕ) → var x ≡ var y → x ≡ y
var_number x y e = cc

pub bound_slot : (s : Contents) (at to : Place) (slot : ℕ) (m : MayBind s at to) → Fit s.heap → slot < length s.heap.numbers
    → find slot s.heap.trail ≡ None → meaning s.heap (Var slot) ≡ term_at s at → numbered s.heap slot ≡ m.variable
bound_slot s at to slot m fit lt free means =
    var_number (numbered s.heap slot) m.variable (sym (stands s.heap slot fit lt free) ∙ means ∙ m.stands)

pub bound_below : (s : Contents) (at to : Place) (slot : ℕ) (word : Word) (m : MayBind s at to) → Fit s.heap → slot < length s.heap.numbers
    → numbered s.heap slot ≡ m.variable → IsIn s.heap word → IsFree s.heap word → meaning s.heap word ≡ term_at s to → Below slot word
bound_below s at to slot (Int n) m fit lt number inside free means = tt
bound_below s at to slot (Atom a) m fit lt number inside free means = tt
bound_below s at to slot (Comp k) m fit lt number inside free means = tt
bound_below s at to slot (Var j) m fit lt number inside free means = go (cases_lt j slot) (cases_lt slot j)
  where
    smaller : numbered s.heap j < m.variable
    smaller = m.greater (numbered s.heap j) (sym means ∙ stands s.heap j fit inside free)

    go : (j < slot) ⊎ (slot ≤ j) → (slot < j) ⊎ (j ≤ slot) → j < slot
    go (inl h) k = h
    go (inr h) (inl k) = absurd (omega (arith, smaller, number, fit.rises slot j k inside))
    go (inr h) (inr k) =
        let same : j ≡ slot = omega arith in
        absurd (omega (arith, smaller, number, ap (numbered s.heap) same))

pub bound_absent : (s : Contents) (at to : Place) (slot : ℕ) (word : Word) (m : MayBind s at to) → numbered s.heap slot ≡ m.variable
    → meaning s.heap word ≡ term_at s to → has (numbered s.heap slot) (meaning s.heap word) ≡ false
bound_absent s at to slot word m number means =
    ap (λ x. has x (meaning s.heap word)) number ∙ ap (has m.variable) means ∙ m.absent

pub bound_by : (s t : Contents) (at to : Place) (slot : ℕ) (word : Word) (m : MayBind s at to) → numbered s.heap slot ≡ m.variable
    → meaning s.heap word ≡ term_at s to → t.heap ≡ pushed s.heap slot word → Bound s at to t
bound_by s t at to slot word m number means e =
    record {
      variable = m.variable;
      stands = m.stands;
      replaced = λ p.
          ap (λ h. meaning h p.word) e ∙ meaning-pushed s.heap slot word p.word
          ∙ ap (λ x. replace x (meaning s.heap word) (term_at s p)) number ∙ ap (λ u. replace m.variable u (term_at s p)) means;
    }

pub unified_true_of : (s s' t : Contents) (a b : Place) (r : Bool) → s' ≡ s → Solves r s'.heap a.word b.word t.heap → r ≡ true → Unified true s a b t
unified_true_of s s' t a b r e u is =
    subst (λ v. Unified true v a b t) e (unified_true s' t a b (subst (λ q. Solves q s'.heap a.word b.word t.heap) is u))

pub unified_false_of : (s s' t : Contents) (a b : Place) (d : Heap) (r : Bool) → s' ≡ s → Solves r s'.heap a.word b.word d → r ≡ false → t ≡ s
    → Unified false s a b t
unified_false_of s s' t a b d r e u is back =
    subst (λ v. Unified false v a b t) e
    (unified_false s' t a b d (subst (λ q. Solves q s'.heap a.word b.word d) is u) (back ∙ sym e))

-- Going back to the mark of the whole store, when the heap has gained bindings alone.
pub undone : (s s' mid t : Contents) (m : StoreMark) → s' ≡ s → Grown s'.heap mid.heap → mid.budget ≡ s'.budget → t ≡ back_to m mid → IsMark m s
    → back_to m s ≡ s → t ≡ s
undone s s' mid t m e g b back mark here =
    let mark' : IsMark m s' = subst (IsMark m) (sym e) mark in
    back
    ∙ ap₂ (λ h c. record { heap = h; used = m.used; budget = c }) (cut-grown m s'.heap mid.heap g mark'.within) b
    ∙ ap (back_to m) e ∙ here

-- What may be bound, and what it is bound to.
pub record SlotBinds (s s' : Contents) (at to : Place) (slot : ℕ) (word : Word) : Type 0 where
  pub below : Below slot word
  pub absent : has (numbered s'.heap slot) (meaning s'.heap word) ≡ false
  pub bound_in : (t : Contents) → t.heap ≡ pushed s'.heap slot word → Bound s at to t

pub slot_binds : (s s' : Contents) (at to : Place) (slot : ℕ) (word : Word) → s' ≡ s → MayBind s at to → Fit s'.heap → slot < length s'.heap.numbers
    → find slot s'.heap.trail ≡ None → meaning s'.heap (Var slot) ≡ meaning s'.heap at.word → IsIn s'.heap word → IsFree s'.heap word
    → meaning s'.heap word ≡ meaning s'.heap to.word → SlotBinds s s' at to slot word
slot_binds s s' at to slot word e may fit lt free means inside word_free word_means =
    let m : MayBind s' at to = subst (λ v. MayBind v at to) (sym e) may in
    let number = bound_slot s' at to slot m fit lt free means in
    record {
      below = bound_below s' at to slot word m fit lt number inside word_free word_means;
      absent = bound_absent s' at to slot word m number word_means;
      bound_in = λ t is. subst (λ v. Bound v at to t) e (bound_by s' t at to slot word m number word_means is);
    }

pub if_ok : {X E A B : Type 0} (r : Result X E) → IfOk r (λ _. A) → (A → B) → OnOk r B
if_ok (Ok x) a f = f a
if_ok (Err x) a f = tt

pub grown_bind : {X E : Type 0} (r : Result X E) (c d : Heap) (i : ℕ) (w : Word) → IfOk r (λ _. d ≡ pushed c i w) → OnErr r (d ≡ c) → Grown c d
grown_bind (Ok x) c d i w e k = record { bonds = record { slot = i; word = w } ∷ []; grown = e }
grown_bind (Err x) c d i w e k = record { bonds = []; grown = k ∙ ap (with_trail c) (sym (append-nil c.trail)) }

pub adds_bind : {X E : Type 0} (r : Result X E) (s s' t : Contents) (i : ℕ) (w : Word) → s' ≡ s → IfOk r (λ _. t.heap ≡ pushed s'.heap i w)
    → OnErr r (t.heap ≡ s'.heap) → t.used ≡ s'.used → t.budget ≡ s'.budget → Adds s t
adds_bind r s s' t i w e a b u c = subst (λ v. Adds v t) e (adds_grown s' t (grown_bind r s'.heap t.heap i w a b) u c)
