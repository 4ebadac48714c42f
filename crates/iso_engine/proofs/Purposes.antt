-- The goal for which clauses are listed.
use Rattle.std.proofs.Common.{◌≡◌, ℕ, ℤ, Bool, true, false, cond, ◌==◌, List, ◌++◌, length, IsSome, refl, sym, ap, subst, ◌∙◌}
use Rattle.std.specs.List.{All}
use Rattle.std.proofs.lemmas.Bool.{true≢false}
use Rattle.std.proofs.Math.Seq.{take-append_seam}
use Rattle.std.proofs.lemmas.List.Elements.{All-tail, All-take}
use Rattle.pl_term.specs.Tree.{Tree, var, int, atom, comp, none, more}
use Rattle.atom_api.specs.Names.{Names}
use Rattle.term_store.specs.declared.words.Place.{Place}
use Rattle.term_store.specs.ArgumentKeys.{head_in}
use Rattle.term_store.specs.Contents.{Contents, term_at}
use Rattle.term_store.specs.NumberedNames.{atoms_in, atoms_in_all, neck, number_of}
use Rattle.iso_search.specs.declared.choices.Purpose.{Purpose}
use Rattle.iso_search.specs.declared.choices.Purpose.TheVariants.{Resolving, Inspecting, Retracting}
use Rattle.iso_search.specs.Choices.{listed_goal, purpose_of}
use Rattle.iso_search.specs.Reading.{IsView, View, reads}
use Rattle.iso_search.specs.Spelling.{spelled, text_of}
use Rattle.world_api.specs.Told.{Told}
use Rattle.iso_engine.specs.Lists.{IsOpen}
use Rattle.iso_engine.specs.Following.{is_integer}
use Rattle.iso_engine.specs.Parts.{IsOverAtoms}
use Rattle.iso_engine.specs.Purposes.{listed_in}
use Rattle.iso_engine.specs.Ready.{MayGoOn}
use Rattle.iso_engine.proofs.Copies.{head_read}

listed_read : (v : View) → IsView v → (p : Purpose) (t : Tree) → IsOverAtoms t
    → listed_goal (purpose_of p) (spelled (text_of v.names) t) ≡ spelled (text_of v.names) (listed_in p t)
listed_read v view Resolving t over = refl
listed_read v view Inspecting t over = head_read v view t over
listed_read v view Retracting t over = head_read v view t over

left_of : (P : ℕ → Type 0) (xs ys : List ℕ) → All P (xs ++ ys) → All P xs
left_of P xs ys h = subst (All P) (take-append_seam xs ys) (All-take P (length xs) (xs ++ ys) h)

pub head_held : (m : Names) (t : Tree) → All (λ a. IsSome (m a)) (atoms_in t) → All (λ a. IsSome (m a)) (atoms_in (head_in t))
head_held m (var x) h = h
head_held m (int i) h = h
head_held m (atom a) h = h
head_held m (comp f t none) h = h
head_held m (comp f t (more u none)) h = go (number_of f == neck)
  where
    go : (b : Bool) → All (λ a. IsSome (m a)) (atoms_in (cond b t (comp f t (more u none))))
    go true =
        left_of (λ a. IsSome (m a)) (atoms_in t) (atoms_in_all (more u none))
        (All-tail (λ a. IsSome (m a)) (number_of f) (atoms_in t ++ atoms_in_all (more u none)) h)
    go false = h
head_held m (comp f t (more u (more w ts))) h = h

-- The clauses are listed for what stands at the place `at`.
module _ (p : Purpose) (s : Contents) (goal at : Place) (over : IsOverAtoms (term_at s goal)) (is : term_at s at ≡ listed_in p (term_at s goal)) where
  pub listed_reads : (v : View) → IsView v → reads v s at ≡ listed_goal (purpose_of p) (reads v s goal)
  listed_reads v view = ap (spelled (text_of v.names)) is ∙ sym (listed_read v view p (term_at s goal) over)

  pub listed_held : (m : Names) → All (λ a. IsSome (m a)) (atoms_in (term_at s goal)) → All (λ a. IsSome (m a)) (atoms_in (term_at s at))
  listed_held m h = subst (λ (x : Tree). All (λ a. IsSome (m a)) (atoms_in x)) (sym is) (go p)
    where
      go : (q : Purpose) → All (λ a. IsSome (m a)) (atoms_in (listed_in q (term_at s goal)))
      go Resolving = h
      go Inspecting = head_held m (term_at s goal) h
      go Retracting = head_held m (term_at s goal) h

  pub listed_callable : (v : View) → IsView v → is_integer (listed_goal (purpose_of p) (reads v s goal)) ≡ false → (i : ℤ) → term_at s at ≡ int i → ⊥
  listed_callable v view callable i e =
      true≢false (sym (ap (λ y. is_integer (spelled (text_of v.names) y)) e) ∙ ap is_integer (listed_reads v view) ∙ callable)

  pub listed_open : (v : View) → IsView v → (t : Told) (g place : ℕ) → MayGoOn t (listed_goal (purpose_of p) (reads v s goal)) g place → IsOpen t (reads v s at) g place
  listed_open v view t g place may = subst (λ (x : Tree). IsOpen t x g place) (sym (listed_reads v view)) may.listed
