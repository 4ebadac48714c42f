-- Rules that were made for clause/2 or retract/1, as they are read.
use Rattle.std.proofs.Common.{◌≡◌, ℕ, Bool, true, false, cond, ◌==◌, ◌∷◌, ◌++◌, [], codes, IsSome, sym, ap, ap₂, subst, ◌∙◌}
use Rattle.std.specs.Prelude.{is_some}
use Rattle.std.specs.List.{All}
use Rattle.std.proofs.lemmas.List.Elements.{All-append, All-cons, All-nil, All-tail}
use Rattle.pl_term.specs.Tree.{Chars, Tree, var, int, atom, comp, more, none}
use Rattle.pl_model.specs.BodyChecks.{rule}
use Rattle.pl_model.specs.History.{body_part, head_part}
use Rattle.atom_api.specs.FixedNames.{neck_name, true_name}
use Rattle.atom_api.specs.Names.{FixedStand, Names}
use Rattle.term_store.specs.declared.words.Place.{Place}
use Rattle.term_store.specs.Contents.{Contents, term_at}
use Rattle.term_store.specs.Heap.{atom_name}
use Rattle.term_store.specs.Entering.{body_in}
use Rattle.term_store.specs.NumberedNames.{atoms_in, neck, number_of}
use Rattle.iso_search.specs.Reading.{IsView, View, reads}
use Rattle.iso_search.specs.Spelling.{spelled, text_of}
use Rattle.iso_search.proofs.Naming.{text_is}
use Rattle.iso_engine.specs.Parts.{IsOverAtoms, IsParted}
use Rattle.iso_engine.proofs.Copies.{body_read, head_read}
use Rattle.iso_engine.proofs.Fresh.{all_left, all_right}
use Rattle.iso_engine.proofs.Purposes.{head_held}
use Rattle.iso_engine.proofs.Readings.{neck_is, true_is}

-- The atoms of a body are those of its clause-term, or `true`.
body_held : (m : Names) → FixedStand m → (t : Tree) → All (λ a. IsSome (m a)) (atoms_in t) → All (λ a. IsSome (m a)) (atoms_in (body_in t))
body_held m stands t h = go t h
  where
    truth : All (λ a. IsSome (m a)) (true_name ∷ [])
    truth = All-cons (λ a. IsSome (m a)) true_name [] (ap is_some (stands true_name (codes "true") true_is)) (All-nil (λ a. IsSome (m a)))

    chosen : (b : Bool) (u : Tree) → All (λ a. IsSome (m a)) (atoms_in u) → All (λ a. IsSome (m a)) (atoms_in (cond b u (atom (atom_name true_name))))
    chosen true u k = k
    chosen false u k = truth

    go : (x : Tree) → All (λ a. IsSome (m a)) (atoms_in x) → All (λ a. IsSome (m a)) (atoms_in (body_in x))
    go (var x) k = truth
    go (int i) k = truth
    go (atom a) k = truth
    go (comp f u none) k = truth
    go (comp f u (more w none)) k =
        let P : ℕ → Type 0 = λ a. IsSome (m a) in
        let rest = All-tail P (number_of f) (atoms_in u ++ (atoms_in w ++ [])) k in
        let last = all_right P (atoms_in u) (atoms_in w ++ []) rest in
        chosen (number_of f == neck) w (all_left P (atoms_in w) [] last)
    go (comp f u (more w (more x xs))) k = truth

-- The rule with the terms at these places.
module _ (s t : Contents) (head body p : Place) (is : term_at t p ≡ comp (atom_name neck_name) (term_at s head) (more (term_at s body) none)) where
  pub joined_read : (v : View) → IsView v → reads v t p ≡ rule (reads v s head) (reads v s body)
  joined_read v view =
      ap (spelled (text_of v.names)) is
      ∙ ap (λ (f : Chars). comp f (reads v s head) (more (reads v s body) none)) (text_is v view neck_name (codes ":-") neck_is)

  pub joined_held : (m : Names) → FixedStand m → All (λ a. IsSome (m a)) (atoms_in (term_at s head)) → All (λ a. IsSome (m a)) (atoms_in (term_at s body))
      → All (λ a. IsSome (m a)) (atoms_in (term_at t p))
  joined_held m stands hh hb =
      let P : ℕ → Type 0 = λ a. IsSome (m a) in
      subst (λ u. All P (atoms_in u)) (sym is)
      (All-cons P neck_name (atoms_in (term_at s head) ++ (atoms_in (term_at s body) ++ [])) (ap is_some (stands neck_name (codes ":-") neck_is))
      (All-append P (atoms_in (term_at s head)) (atoms_in (term_at s body) ++ []) hh (All-append P (atoms_in (term_at s body)) [] hb (All-nil P))))

  -- Where these are the parts of a clause-term.
  pub parted_read : (clause : Place) → IsParted s clause head body → IsOverAtoms (term_at s clause) → (v : View) → IsView v
      → reads v t p ≡ rule (head_part (reads v s clause)) (body_part (reads v s clause))
  parted_read clause parts over v view =
      joined_read v view
      ∙ ap₂ rule (ap (spelled (text_of v.names)) parts.head_is ∙ sym (head_read v view (term_at s clause) over))
      (ap (spelled (text_of v.names)) parts.body_is ∙ sym (body_read v view (term_at s clause) over))

  pub parted_held : (clause : Place) → IsParted s clause head body → (m : Names) → FixedStand m → All (λ a. IsSome (m a)) (atoms_in (term_at s clause))
      → All (λ a. IsSome (m a)) (atoms_in (term_at t p))
  parted_held clause parts m stands h =
      joined_held m stands (subst (λ u. All (λ a. IsSome (m a)) (atoms_in u)) (sym parts.head_is) (head_held m (term_at s clause) h))
      (subst (λ u. All (λ a. IsSome (m a)) (atoms_in u)) (sym parts.body_is) (body_held m stands (term_at s clause) h))
