-- Words as they are kept against the parts of a clause's block.
use Rattle.std.proofs.Common.{◌≡◌, ◌≢◌, ℕ, ℤ, ◌≤◌, ◌<◌, Bool, true, false, cond, ◌==◌, List, [], ◌∷◌, ◌++◌, length, get_or, pos, eqb, w32, refl, sym, ap, subst, ◌∙◌, arith, length-append}
use mir.Val.{SFits, of_z, to_z}
use Rattle.std.specs.Ordering.{int_eq}
use Rattle.std.proofs.lemmas.Bool.{false≢true}
use Rattle.std.proofs.lemmas.Int.{to_z-of_z}
use Rattle.std.proofs.lemmas.Bool.Decides.{Decides-eqb, Decides-int_eq}
use Rattle.pl_term.specs.Variables.{has}
use Rattle.term_store.specs.declared.words.Word.{Word}
use Rattle.term_store.specs.declared.words.Word.TheVariants.{Var, Int, Atom, Comp}
use Rattle.term_store.specs.declared.words.Plan.TheVariants.{Same, Clash, Bind}
use Rattle.term_store.specs.declared.block.Block.{Block}
use Rattle.term_store.specs.declared.shorts.Short.{Short}
use Rattle.term_store.specs.declared.shorts.Short.TheVariants.{Free, Slot, Number, Name, Term, Wide}
use Rattle.term_store.specs.declared.shorts.Beyond.{Beyond}
use Rattle.term_store.specs.Blocks.{IsBlock}
use Rattle.term_store.specs.Cells.{Followed}
use Rattle.term_store.specs.Entering.{IsConstant, IsHarmless, IsKnown, Joined, Joins, MetFirst, Never, entered, value}
use Rattle.term_store.specs.Fit.{Fit}
use Rattle.term_store.specs.Heap.{Heap, meaning, numbered, pushed}
use Rattle.term_store.specs.Shorts.{IsShort, long_word}
use Rattle.term_store.specs.Unifying.{plan_of}
use Rattle.term_store.proofs.Entering.{constant_absent, constant_planned, joined_first, joined_pushed, joined_same, never_clashes, never_same, prepared}
use Rattle.term_store.proofs.Heading.{constant_never}
use Rattle.term_store.proofs.Knowing.{meets_none}
use Rattle.term_store.proofs.Shorting.{word_is}

-- A word that is kept neither as a variable nor as a compound term.
constant_word : (bs : List Beyond) (s : Short) → ((i : ℕ) → s ≢ Slot i) → ((k : ℕ) → s ≢ Term k) → IsConstant (long_word bs s)
constant_word bs Free a b = tt
constant_word bs (Slot i) a b = absurd (a i refl)
constant_word bs (Number i) a b = tt
constant_word bs (Name n) a b = tt
constant_word bs (Term k) a b = absurd (b k refl)
constant_word bs (Wide k) a b = tt

pub constant_short : (s : Short) (w : Word) → ((i : ℕ) → s ≢ Slot i) → ((k : ℕ) → s ≢ Term k) → IsShort s w → IsConstant w
constant_short s w a b k = subst IsConstant k.is (constant_word k.beyond s a b)

-- One that is kept neither as a variable nor as an atom differs from every atom.
other_word : (bs : List Beyond) (s : Short) (n : ℕ) → ((i : ℕ) → s ≢ Slot i) → ((m : ℕ) → s ≢ Name m) → plan_of (long_word bs s) (Atom n) ≡ Clash
other_word bs Free n a b = refl
other_word bs (Slot i) n a b = absurd (a i refl)
other_word bs (Number i) n a b = refl
other_word bs (Name m) n a b = absurd (b m refl)
other_word bs (Term k) n a b = refl
other_word bs (Wide k) n a b = refl

-- A variable that stands for a constant is harmless.
pub harmless_constant : (h : Heap) (slot : ℕ) (known : List Word) (before x : ℕ) (p w : Word) → p ≡ Var x → IsConstant w → get_or known x (Int (pos 0)) ≡ w
    → IsHarmless h slot known before p
harmless_constant h slot known before x p w is constant e =
    subst (IsHarmless h slot known before) (sym is) (λ _. ap (λ v. has (numbered h slot) (meaning h v)) e ∙ constant_absent h (numbered h slot) w constant)

-- The first variable that was not met.
pub first_joined : (c : Heap) (from : ℕ) (known : List Word) (w : Word) (x : ℕ) (after : List Word) → Fit c → IsKnown c from known → x ≡ length known
    → MetFirst c known w after → Joined c from known w (value c from known x) c after
first_joined c from known w x after fit known_is e m =
    subst (λ ks. Joined c from known w (value c from known x) c ks) (sym m.known_after)
    (prepared c from known w (value c from known x) c known m.word (value c from known x) c (known ++ m.word ∷ []) (meets_none c from known) m.means refl
    (joined_first c from known m.word x fit known_is m.inside e))

pub first_few : (c : Heap) (known : List Word) (w : Word) (after : List Word) (x n : ℕ) → MetFirst c known w after → x ≡ length known → x < n → length after ≤ n
first_few c known w after x n m e lt =
    omega (arith, ap length m.known_after, length-append known (m.word ∷ []))

-- A word that was followed against an atom.
module _ (c : Heap) (fit : Fit c) (s : Short) (w : Word) (f : Followed c s w) (n : ℕ) (from : ℕ) (known : List Word) where
  atom_never : plan_of f.word (Atom n) ≡ Clash → Never (meaning c w) (meaning c (Atom n))
  atom_never e =
      never_same (meaning c f.word) (meaning c (Atom n)) (meaning c w) (meaning c (Atom n)) f.means refl
      (never_clashes (meaning c f.word) (meaning c (Atom n))
      (constant_planned c f.word (Atom n) (plan_of f.word (Atom n)) Clash fit f.inside f.free tt refl e))

  pub other_never : ((i : ℕ) → s ≢ Slot i) → ((m : ℕ) → s ≢ Name m) → Never (meaning c w) (meaning c (Atom n))
  other_never a b = atom_never (ap (λ v. plan_of v (Atom n)) (sym f.short.is) ∙ other_word f.short.beyond s n a b)

  pub atoms_joined : (m : ℕ) → s ≡ Name m → IsKnown c from known → Joins (m == n) c from known w (meaning c (Atom n)) c known
  atoms_joined m is known_is = go (m == n) refl
    where
      word : f.word ≡ Atom m
      word = word_is s (Name m) f.word tt is f.short

      go : (q : Bool) → (m == n) ≡ q → Joins q c from known w (meaning c (Atom n)) c known
      go true e =
          joined_same c from known w (meaning c (Atom n)) known_is (sym f.means ∙ ap (meaning c) (word ∙ ap Atom ((Decides-eqb m n).0 e)))
      go false e = atom_never (ap (λ v. plan_of v (Atom n)) word ∙ ap (λ q. cond q Same Clash) e)

  pub atom_bound : (slot : ℕ) → s ≡ Slot slot → IsKnown c from known → Joined c from known w (meaning c (Atom n)) (pushed c slot (Atom n)) known
  atom_bound slot is known_is =
      let word : f.word ≡ Var slot = word_is s (Slot slot) f.word tt is f.short in
      prepared c from known w (meaning c (Atom n)) c known f.word (meaning c (Atom n)) (pushed c slot (Atom n)) known (meets_none c from known) f.means refl
      (joined_pushed c from known f.word (meaning c (Atom n)) slot (Atom n) known_is
      (constant_planned c f.word (Atom n) (plan_of f.word (Atom n)) (Bind slot (Atom n)) fit f.inside f.free tt refl (ap (λ v. plan_of v (Atom n)) word))
      (constant_absent c (numbered c slot) (Atom n) tt))

-- Integers of 32 bits are compared by their bits.
pub number_test : (x y : ℤ) → SFits w32 x → SFits w32 y → eqb (of_z w32 x) (of_z w32 y) ≡ int_eq x y
number_test x y fits_x fits_y = go (eqb (of_z w32 x) (of_z w32 y)) (int_eq x y) refl refl
  where
    go : (p q : Bool) → eqb (of_z w32 x) (of_z w32 y) ≡ p → int_eq x y ≡ q → p ≡ q
    go true true e f = refl
    go false false e f = refl
    go true false e f =
        absurd (false≢true (sym f ∙ (Decides-int_eq x y).1 (sym (to_z-of_z w32 x fits_x) ∙ ap (to_z w32) ((Decides-eqb (of_z w32 x) (of_z w32 y)).0 e) ∙ to_z-of_z w32 y fits_y)))
    go false true e f = absurd (false≢true (sym e ∙ (Decides-eqb (of_z w32 x) (of_z w32 y)).1 (ap (of_z w32) ((Decides-int_eq x y).0 f))))

-- A word that was followed against an integer.
module _ (c : Heap) (fit : Fit c) (s : Short) (w : Word) (f : Followed c s w) (n : ℤ) (from : ℕ) (known : List Word) where
  pub integers_joined : (m : ℤ) → s ≡ Number m → IsKnown c from known → Joins (int_eq m n) c from known w (meaning c (Int n)) c known
  integers_joined m is known_is = go (int_eq m n) refl
    where
      word : f.word ≡ Int m
      word = word_is s (Number m) f.word tt is f.short

      go : (q : Bool) → int_eq m n ≡ q → Joins q c from known w (meaning c (Int n)) c known
      go true e =
          joined_same c from known w (meaning c (Int n)) known_is (sym f.means ∙ ap (meaning c) (word ∙ ap Int ((Decides-int_eq m n).0 e)))
      go false e =
          never_same (meaning c f.word) (meaning c (Int n)) (meaning c w) (meaning c (Int n)) f.means refl
          (never_clashes (meaning c f.word) (meaning c (Int n))
          (constant_planned c f.word (Int n) (plan_of f.word (Int n)) Clash fit f.inside f.free tt refl
          (ap (λ v. plan_of v (Int n)) word ∙ ap (λ q. cond q Same Clash) e)))

  pub integer_bound : (slot : ℕ) → s ≡ Slot slot → IsKnown c from known → Joined c from known w (meaning c (Int n)) (pushed c slot (Int n)) known
  integer_bound slot is known_is =
      let word : f.word ≡ Var slot = word_is s (Slot slot) f.word tt is f.short in
      prepared c from known w (meaning c (Int n)) c known f.word (meaning c (Int n)) (pushed c slot (Int n)) known (meets_none c from known) f.means refl
      (joined_pushed c from known f.word (meaning c (Int n)) slot (Int n) known_is
      (constant_planned c f.word (Int n) (plan_of f.word (Int n)) (Bind slot (Int n)) fit f.inside f.free tt refl (ap (λ v. plan_of v (Int n)) word))
      (constant_absent c (numbered c slot) (Int n) tt))

-- A word that was followed, which is a constant, against a compound term of the block.
pub followed_never : (b : Block) → IsBlock b → (c : Heap) (from : ℕ) (known : List Word) (s : Short) (w : Word) (k : ℕ) → k < length b.heads.items → Followed c s w
    → ((i : ℕ) → s ≢ Slot i) → ((i : ℕ) → s ≢ Term i) → Never (meaning c w) (entered b c from known (Comp k))
followed_never b block c from known s w k inside f no_slot no_term =
    let is = constant_short s f.word no_slot no_term f.short in
    constant_never b block c from known f.word w k (Comp k) inside (λ i e. subst IsConstant e is) (λ i e. subst IsConstant e is) f.means refl
