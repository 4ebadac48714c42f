-- functor/3.
use Rattle.std.proofs.Common.{◌≡◌, ℕ, suc, ◌+◌, ◌*◌, ◌<◌, ◌≤◌, ◌^◌, Bool, true, false, ℤ, pos, List, [], ◌∷◌, map, length, if◌then◌else◌, Err, codes, refl, sym, ap, ap₂, subst, ◌∙◌, arith}
use Rattle.std.specs.Prelude.{IsSome}
use Rattle.std.specs.List.{All}
use Rattle.std.proofs.lemmas.List.{length-map}
use Rattle.std.proofs.lemmas.List.Elements.{All-cons, All-nil}
use Rattle.pl_term.proofs.Spelled.{count-trees}
use Rattle.pl_term.specs.Tree.{Chars, Tree, var, int, atom, comp, compound}
use Rattle.pl_model.specs.Terms.{is_variable, named_term}
use Rattle.pl_model.specs.Balls.{instantiation_error, type_error}
use Rattle.pl_model.specs.BuiltinRows.{error, one_answer}
use Rattle.pl_model.specs.History.{proc}
use Rattle.pl_model.specs.TermBuiltins.{functor_of, new_variables, three}
use Rattle.atom_api.specs.Names.{Names}
use Rattle.term_store.specs.declared.words.Place.{Place}
use Rattle.term_store.specs.Heap.{atom_name}
use Rattle.term_store.specs.Contents.{Contents, Holds, term_at, upwards}
use Rattle.builtin_rows.specs.declared.row.Places.TheVariants.{Three}
use Rattle.builtin_rows.specs.declared.row.Row.TheVariants as rows
use Rattle.builtin_rows.specs.Rows.{Makes, terms_at}
use Rattle.world_builtins.specs.Naming.{IsHeldAt, atoms_in}
use Rattle.world_builtins.specs.Spelling.{reads, spelled, text_of}
use Rattle.builtin_term.specs.declared.faults.Kind.TheVariants.{Atomic}
use Rattle.builtin_term.specs.declared.faults.Fault.{Fault}
use Rattle.builtin_term.specs.declared.faults.Fault.TheVariants.{Unbound, Mistyped}
use Rattle.builtin_term.specs.Functor.{IsWanted, functor_row}
use Rattle.builtin_term.specs.Giving.{IsGiven}
use Rattle.builtin_term.proofs.PartAnswers.{all_three, answer_given}
use Rattle.builtin_term.proofs.Compounds.{name_of_compound, spelled_compound}
use Rattle.builtin_term.proofs.Making.{atoms_of_functor, named_compound, variables_listed, variables_unspelled}

-- The compound term of new variables, as it is read.
functor_read : (g : Chars → Chars) (f : Chars) (next k : ℕ) → spelled g (compound f (map var (upwards next k))) ≡ named_term (g f) (new_variables next k)
functor_read g f next k =
    spelled_compound g f (map var (upwards next k)) ∙ ap (compound (g f)) (variables_unspelled g (upwards next k))
    ∙ named_compound (g f) (map var (upwards next k)) ∙ ap (named_term (g f)) (variables_listed next k)

module _ (m : Names) (s t : Contents) (next f k : ℕ) (term name arity : Place) (makes : Makes s next k (2 * k + 1) t) (inside : Holds t term)
    (means : term_at t term ≡ compound (atom_name f) (map var (upwards next k))) (name_in : Holds s name) (stands : term_at s name ≡ atom (atom_name f))
    (arity_in : Holds s arity) (name_held : IsHeldAt m s name) (arity_held : IsHeldAt m s arity) where
  abbrev P : ℕ → Type 0
  P a = IsSome (m a)

  still : (p : Place) → Holds s p → reads m s p ≡ reads m t p
  still p inside = sym (ap (spelled (text_of m)) (makes.others p inside))

  held_still : (p : Place) → Holds s p → IsHeldAt m s p → IsHeldAt m t p
  held_still p inside held = subst (λ u. All P (atoms_in u)) (sym (makes.others p inside)) held

  made_held : IsHeldAt m t term
  made_held =
      let here : All P (f ∷ []) = subst (λ u. All P (atoms_in u)) stands name_held in
      subst (All P) (sym (ap atoms_in means ∙ atoms_of_functor (atom_name f) (upwards next k))) here

  pub functor_made : next + k < 2 ^ 64 → s.used + (2 * k + 1) ≤ s.budget
      → IsGiven s next (proc (codes "functor") 3) (functor_row m s next f k name arity) m t (rows.Answer (Three term name arity) k)
  functor_made few fits =
      let named : named_term (text_of m (atom_name f)) (new_variables next k) ≡ reads m t term =
      sym (ap (spelled (text_of m)) means ∙ functor_read (text_of m) (atom_name f) next k) in
      let there : three (named_term (text_of m (atom_name f)) (new_variables next k)) (reads m s name) (reads m s arity) ≡ terms_at m t (term ∷ (name ∷ (arity ∷ []))) =
      ap₂ (λ x y. three x y (reads m s arity)) named (still name name_in) ∙ ap (three (reads m t term) (reads m t name)) (still arity arity_in) in
      answer_given s next (proc (codes "functor") 3) m t
      (record { terms = three (named_term (text_of m (atom_name f)) (new_variables next k)) (reads m s name) (reads m s arity); fresh = k; made = 2 * k + 1 }) (Three term name arity) k refl few fits
      there makes
      (record {
        inside = all_three (Holds t) term name arity inside (makes.adds.places name name_in) (makes.adds.places arity arity_in);
        held =
            all_three (IsHeldAt m t) term name arity made_held (held_still name name_in name_held) (held_still arity arity_in arity_held);
      })

-- A compound name is refused, unless the number of arguments is unbound.
variable_spelled : (g : Chars → Chars) (t : Tree) → is_variable (spelled g t) ≡ is_variable t
variable_spelled g (var x) = refl
variable_spelled g (int i) = refl
variable_spelled g (atom a) = refl
variable_spelled g (comp f t ts) = refl

not_atomic : (next x : ℕ) (f : Chars) (ts : List Tree) (a : Tree) → 0 < length ts
    → functor_of next (var x) (compound f ts) a ≡ error (if is_variable a then instantiation_error else type_error (codes "atomic") (compound f ts))
not_atomic next x f [] a some = absurd (omega arith)
not_atomic next x f (t ∷ ts) (var y) some = refl
not_atomic next x f (t ∷ ts) (int i) some = refl
not_atomic next x f (t ∷ ts) (atom a) some = refl
not_atomic next x f (t ∷ ts) (comp h u us) some = refl

module _ (s : Contents) (name arity : Place) (h : Chars) (ts : List Tree) (inside : Holds s name) (some : 0 < length ts) (is : term_at s name ≡ compound h ts) where
  refused_by : (m : Names) (next x : ℕ) (b : Bool) → is_variable (term_at s arity) ≡ b
      → functor_of next (var x) (reads m s name) (reads m s arity) ≡ error (if b then instantiation_error else type_error (codes "atomic") (reads m s name))
  refused_by m next x b q =
      let g = text_of m in
      let us = map (spelled g) ts in
      let y : reads m s name ≡ compound (g h) us = ap (spelled g) is ∙ spelled_compound g h ts in
      ap (λ t. functor_of next (var x) t (reads m s arity)) y ∙ not_atomic next x (g h) us (reads m s arity) (omega (arith, some, length-map ts (spelled g)))
      ∙ ap₂ (λ c t. error (if c then instantiation_error else type_error (codes "atomic") t)) (variable_spelled g (term_at s arity) ∙ q) (sym y)

  refused_so : (b : Bool) → is_variable (term_at s arity) ≡ b → IsWanted s name arity (Err (if b then Unbound else Mistyped Atomic name))
  refused_so true q = ((tt, λ m n a. tt), λ m next x. refused_by m next x true q)
  refused_so false q = ((inside, λ m n a. n), λ m next x. refused_by m next x false q)

  pub compound_refused : (f : Fault) → f ≡ (if is_variable (term_at s arity) then Unbound else Mistyped Atomic name) → IsWanted s name arity (Err f)
  compound_refused f e = subst (λ x. IsWanted s name arity (Err x)) (sym e) (refused_so (is_variable (term_at s arity)) refl)

-- A compound term is taken apart.
taken : (next : ℕ) (h : Chars) (us : List Tree) (n a : Tree) → 0 < length us
    → functor_of next (compound h us) n a ≡ one_answer (three (compound h us) (atom h) (int (pos (length us))))
taken next h [] n a some = absurd (omega arith)
taken next h (u ∷ us) n a some = ap (λ k. one_answer (three (compound h (u ∷ us)) (atom h) (int (pos (suc k))))) (count-trees us)

module _ (m : Names) (s : Contents) (next f : ℕ) (ts : List Tree) (term d e : Place) (count : ℤ) (some : 0 < length ts)
    (is : term_at s term ≡ compound (atom_name f) ts) (d_is : term_at s d ≡ atom (atom_name f)) (e_is : term_at s e ≡ int count) where
  pub compound_taken : (n a : Tree) → count ≡ pos (length ts)
      → one_answer (three (reads m s term) (reads m s d) (reads m s e)) ≡ functor_of next (reads m s term) n a
  compound_taken n a same =
      let g = text_of m in
      let us = map (spelled g) ts in
      let x : reads m s term ≡ compound (g (atom_name f)) us = ap (spelled g) is ∙ spelled_compound g (atom_name f) ts in
      let long : length us ≡ length ts = length-map ts (spelled g) in
      ap₂ (λ y z. one_answer (three (reads m s term) y z)) (ap (spelled g) d_is) (ap (spelled g) e_is ∙ ap int (same ∙ ap pos (sym long)))
      ∙ ap (λ t. one_answer (three t (atom (g (atom_name f))) (int (pos (length us))))) x
      ∙ sym (taken next (g (atom_name f)) us n a (omega (arith, some, long)))
      ∙ ap (λ t. functor_of next t n a) (sym x)

  pub taken_held : IsHeldAt m s term → IsHeldAt m s d × IsHeldAt m s e
  taken_held held =
      let P : ℕ → Type 0 = λ b. IsSome (m b) in
      let here : P f = name_of_compound P f ts (subst (λ t. All P (atoms_in t)) is held) in (
        subst (λ t. All P (atoms_in t)) (sym d_is) (All-cons P f [] here (All-nil P)),
        subst (λ t. All P (atoms_in t)) (sym e_is) (All-nil P),
      )
