-- Balls of errors, as they are made and read.
use Rattle.std.proofs.Common.{◌≡◌, ℕ, zero, ◌<◌, ◌^◌, pos, w64, to_z, [], ◌∷◌, ◌++◌, Some, codes, refl, sym, ap, ap₂, subst, ◌∙◌, append-nil, arith}
use Rattle.std.specs.Prelude.{IsSome, is_some}
use Rattle.std.specs.List.{All}
use Rattle.std.proofs.lemmas.Int.{to_z_pos}
use Rattle.std.proofs.lemmas.List.Elements.{All-append, All-cons, All-nil}
use Rattle.pl_term.specs.Tree.{Chars, Tree, Trees, atom, int, comp, none, more}
use Rattle.pl_model.specs.Balls.{error_ball}
use Rattle.pl_model.specs.History.{proc}
use Rattle.atom_api.specs.Fixed.{fixed, fixed_texts}
use Rattle.atom_api.specs.Names.{Names, FixedStand}
use Rattle.term_store.specs.declared.words.Place.{Place}
use Rattle.term_store.specs.Heap.{atom_name}
use Rattle.term_store.specs.Contents.{Contents, Holds as IsIn, Adds, numbers_of, term_at}
use Rattle.term_store.specs.Contents.{Makes as IsMade}
use Rattle.world_builtins.specs.Naming.{IsHeldAt, atoms_in}
use Rattle.world_builtins.specs.Spelling.{or_no_text, reads, spelled, text_of}
use Rattle.builtin_rows.specs.Given.{thrown}
use Rattle.builtin_rows.specs.declared.row.Row.TheVariants.{Ball}
use Rattle.builtin_rows.specs.Rows.{IsBall, IsRow, Makes}

-- A store in which terms were made

pub makes_one : (s t : Contents) (term : Tree) (p : Place) → IsMade s term t p → numbers_of t ≡ numbers_of s → Adds s t → Makes s zero zero zero t
makes_one s t term p m n a =
    record {
      others = m.others;
      adds = a;
      numbers = n ∙ sym (append-nil (numbers_of s));
      used = m.used ∙ omega arith;
      budget = m.budget;
    }

pub makes_again : (next : ℕ) (s t u : Contents) → Makes s zero zero zero t → Makes t zero zero zero u → Makes s next zero zero u
makes_again next s t u g h =
    record {
      others = λ p held. h.others p (g.adds.places p held) ∙ g.others p held;
      adds =
          record {
            places = λ p held. h.adds.places p (g.adds.places p held);
            marks = λ m mark. h.adds.marks m (g.adds.marks m mark);
            back = λ m mark. h.adds.back m (g.adds.marks m mark) ∙ g.adds.back m mark;
          };
      numbers = h.numbers ∙ append-nil (numbers_of t) ∙ g.numbers;
      used = h.used ∙ omega (arith, g.used);
      budget = h.budget ∙ g.budget;
    }

pub makes_from : (next : ℕ) (s t : Contents) → Makes s zero zero zero t → Makes s next zero zero t
makes_from next s t g = record { others = g.others; adds = g.adds; numbers = g.numbers; used = g.used; budget = g.budget }

pub two_places : (s : Contents) (p q : Place) → IsIn s p → IsIn s q → All (IsIn s) (p ∷ (q ∷ []))
two_places s p q hp hq = All-cons (IsIn s) p (q ∷ []) hp (All-cons (IsIn s) q [] hq (All-nil (IsIn s)))

pub one_place : (s : Contents) (p : Place) → IsIn s p → All (IsIn s) (p ∷ [])
one_place s p hp = All-cons (IsIn s) p [] hp (All-nil (IsIn s))

-- A count as an integer.
pub small_count : (n : ℕ) → n < 2 ^ 32 → to_z w64 n ≡ pos n
small_count n few = to_z_pos w64 n (omega (arith, few))

-- The fixed atoms

error_is : fixed 80 ≡ Some (codes "error")
unfolding fixed_texts
error_is = refl

slash_is : fixed 9 ≡ Some (codes "/")
unfolding fixed_texts
slash_is = refl

pub resource_is : fixed 152 ≡ Some (codes "resource_error")
unfolding fixed_texts
resource_is = refl

pub inferences_is : fixed 104 ≡ Some (codes "inferences")
unfolding fixed_texts
inferences_is = refl

pub text_is : (m : Names) → FixedStand m → (k : ℕ) (t : Chars) → fixed k ≡ Some t → text_of m (atom_name k) ≡ t
text_is m stands k t e = ap (or_no_text (atom_name k)) (stands k t e)

pub fixed_held : (m : Names) → FixedStand m → (k : ℕ) (t : Chars) → fixed k ≡ Some t → IsSome (m k)
fixed_held m stands k t e = ap is_some (stands k t e)

-- The ball

module _ (m : Names) (stands : FixedStand m) (s u : Contents) (error : Place) (name arity : ℕ) (p : Chars) (known : fixed name ≡ Some p) (w : Place)
    (ball : IsBall s error name arity u w) where
  pub ball_reads : error_ball (reads m s error) (proc p arity) ≡ reads m u w
  ball_reads =
      let t = reads m s error in
      let g = text_of m in
      sym
      (ap (spelled g) ball.means
      ∙ ap₂ (λ x y. comp x t (more (comp y (atom (g (atom_name name))) (more (int (pos arity)) none)) none))
      (text_is m stands 80 (codes "error") error_is) (text_is m stands 9 (codes "/") slash_is)
      ∙ ap (λ x. comp (codes "error") t (more (comp (codes "/") (atom x) (more (int (pos arity)) none)) none)) (text_is m stands name p known))

  pub ball_held : IsHeldAt m s error → IsHeldAt m u w
  ball_held held =
      let P : ℕ → Type 0 = λ a. IsSome (m a) in
      let rest : All P (9 ∷ (name ∷ [])) =
      All-cons P 9 (name ∷ []) (fixed_held m stands 9 (codes "/") slash_is)
      (All-cons P name [] (fixed_held m stands name p known) (All-nil P)) in
      subst (λ t. All P (atoms_in t)) (sym ball.means)
      (All-cons P 80 (atoms_in (term_at s error) ++ (9 ∷ (name ∷ []))) (fixed_held m stands 80 (codes "error") error_is)
      (All-append P (atoms_in (term_at s error)) (9 ∷ (name ∷ [])) held rest))

  -- The error term stands there, or was made before.
  pub thrown_row : (before : Contents) (next : ℕ) (ts : Trees) (e : Tree) → Makes before zero zero zero s → e ≡ reads m s error → IsHeldAt m s error
      → IsRow before next ts (thrown (error_ball e (proc p arity))) m u (Ball w)
  thrown_row before next ts e made is held =
      (ap (λ t. error_ball t (proc p arity)) is ∙ ball_reads, (makes_again next before s u made ball.makes, (ball.inside, ball_held held)))

pub makes_nothing : (s : Contents) → Makes s zero zero zero s
makes_nothing s =
    record {
      others = λ p held. refl;
      adds = record { places = λ p held. held; marks = λ m mark. mark; back = λ m mark. refl };
      numbers = sym (append-nil (numbers_of s));
      used = omega arith;
      budget = refl;
    }

-- An error term that is a fixed atom.
pub atom_reads : (m : Names) → FixedStand m → (s : Contents) (place : Place) (error : ℕ) (e : Chars) → fixed error ≡ Some e → term_at s place ≡ atom (atom_name error)
    → atom e ≡ reads m s place
atom_reads m stands s place error e f is = sym (ap (spelled (text_of m)) is ∙ ap atom (text_is m stands error e f))

pub atom_held : (m : Names) → FixedStand m → (s : Contents) (place : Place) (error : ℕ) (e : Chars) → fixed error ≡ Some e → term_at s place ≡ atom (atom_name error)
    → IsHeldAt m s place
atom_held m stands s place error e f is =
    let P : ℕ → Type 0 = λ a. IsSome (m a) in
    subst (λ t. All P (atoms_in t)) (sym is) (All-cons P error [] (fixed_held m stands error e f) (All-nil P))

-- An error term of a fixed atom and another, and of one more term.
pub reason_reads : (m : Names) → FixedStand m → (s : Contents) (place : Place) (error reason : ℕ) (e x : Chars) → fixed error ≡ Some e → fixed reason ≡ Some x
    → term_at s place ≡ comp (atom_name error) (atom (atom_name reason)) none → comp e (atom x) none ≡ reads m s place
reason_reads m stands s place error reason e x f g is =
    sym (ap (spelled (text_of m)) is ∙ ap₂ (λ a b. comp a (atom b) none) (text_is m stands error e f) (text_is m stands reason x g))

pub reason_held : (m : Names) → FixedStand m → (s : Contents) (place : Place) (error reason : ℕ) (e x : Chars) → fixed error ≡ Some e → fixed reason ≡ Some x
    → term_at s place ≡ comp (atom_name error) (atom (atom_name reason)) none → IsHeldAt m s place
reason_held m stands s place error reason e x f g is =
    let P : ℕ → Type 0 = λ a. IsSome (m a) in
    subst (λ t. All P (atoms_in t)) (sym is)
    (All-cons P error (reason ∷ []) (fixed_held m stands error e f) (All-cons P reason [] (fixed_held m stands reason x g) (All-nil P)))

pub culprit_reads : (m : Names) → FixedStand m → (s t : Contents) (place culprit : Place) (error kind : ℕ) (e x : Chars) → fixed error ≡ Some e → fixed kind ≡ Some x
    → term_at t place ≡ comp (atom_name error) (atom (atom_name kind)) (more (term_at s culprit) none)
    → comp e (atom x) (more (reads m s culprit) none) ≡ reads m t place
culprit_reads m stands s t place culprit error kind e x f g is =
    sym
    (ap (spelled (text_of m)) is
    ∙ ap₂ (λ a b. comp a (atom b) (more (reads m s culprit) none)) (text_is m stands error e f) (text_is m stands kind x g))

pub culprit_held : (m : Names) → FixedStand m → (s t : Contents) (place culprit : Place) (error kind : ℕ) (e x : Chars) → fixed error ≡ Some e → fixed kind ≡ Some x
    → term_at t place ≡ comp (atom_name error) (atom (atom_name kind)) (more (term_at s culprit) none) → IsHeldAt m s culprit → IsHeldAt m t place
culprit_held m stands s t place culprit error kind e x f g is held =
    let P : ℕ → Type 0 = λ a. IsSome (m a) in
    subst (λ u. All P (atoms_in u)) (sym is)
    (All-cons P error (kind ∷ (atoms_in (term_at s culprit) ++ [])) (fixed_held m stands error e f)
    (All-cons P kind (atoms_in (term_at s culprit) ++ []) (fixed_held m stands kind x g)
    (All-append P (atoms_in (term_at s culprit)) [] held (All-nil P))))
