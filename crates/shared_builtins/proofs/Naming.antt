-- Names, and the elements of lists.
use Rattle.std.proofs.Common.{◌≡◌, true, false, ℕ, ◌+◌, suc, ◌<◌, List, [], ◌∷◌, ◌++◌, length, get_or, map, drop, drop-cons, Option, Some, None, Ok, Err, codes, refl, sym, ap, ap₂, subst, ◌∙◌, append_assoc, append-nil, arith}
use Rattle.std.specs.Prelude.{Result}
use Rattle.pl_term.specs.Tree.{Chars, Tree, var, int, atom, comp}
use Rattle.pl_model.specs.Checks.{atom_error, atoms_error, bound_error, elements, first_error, text_of_atom}
use Rattle.pl_model.specs.SharedBuiltins.{names_in}
use Rattle.pl_model.specs.Balls.{instantiation_error, type_error}
use Rattle.atom_api.specs.Names.{Names}
use Rattle.term_store.specs.declared.words.Place.{Place}
use Rattle.term_store.specs.Contents.{Contents, term_at}
use Rattle.term_store.specs.Heap.{atom_name}
use Rattle.world_api.specs.Texts as worlds
use Rattle.world_builtins.specs.Spelling.{reads, spelled, text_of}
use Rattle.shared_builtins.specs.declared.faults.Fault.{Fault}
use Rattle.shared_builtins.specs.declared.faults.Fault.TheVariants.{For, Unbound}
use Rattle.shared_builtins.specs.declared.names.Listed.TheVariants as lists
use Rattle.shared_builtins.specs.declared.names.Named.{Named}
use Rattle.shared_builtins.specs.declared.names.Named.TheVariants.{Refused}
use Rattle.shared_builtins.specs.declared.kinds.TheConstants.{NAME}
use Rattle.builtin_rows.specs.Kinds.{passes}
use Rattle.shared_builtins.specs.Faults.{IsFaultHeld, IsFaultIn, fault_term}
use Rattle.shared_builtins.specs.Names.{AreAtoms, AreListed, AreNamedBy}
use Rattle.shared_builtins.proofs.Checking.{for_term}
use Rattle.shared_builtins.proofs.FixedNames.{list_is, type_error_is}
use Rattle.shared_builtins.proofs.Reading.{one_text}

-- An atom is one name.

pub one_name : (m : Names) (s : Contents) (p : Place) → passes NAME (term_at s p) ≡ true → names_in (reads m s p) ≡ Ok (reads m s p ∷ [])
one_name m s p e = go (term_at s p) e
  where
    go : (t : Tree) → passes NAME t ≡ true → names_in (spelled (text_of m) t) ≡ Ok (spelled (text_of m) t ∷ [])
    go (var x) e = absurd cc
    go (int i) e = absurd cc
    go (atom f) e = refl
    go (comp f u us) e = absurd cc

pub no_name : (m : Names) (s : Contents) (p : Place) → passes NAME (term_at s p) ≡ false → names_in (reads m s p) ≡ elements (reads m s p)
no_name m s p e = go (term_at s p) e
  where
    go : (t : Tree) → passes NAME t ≡ false → names_in (spelled (text_of m) t) ≡ elements (spelled (text_of m) t)
    go (var x) e = refl
    go (int i) e = refl
    go (atom f) e = absurd cc
    go (comp f u us) e = refl

-- The end of a list

pub open_list : (m : Names) (s : Contents) (p : Place) (r : Result (List Tree) Tree) → r ≡ Err instantiation_error → AreListed m s r (lists.Refused Unbound)
open_list m s p r e = (e, (tt, tt))

pub broken_list : (m : Names) (s : Contents) (p : Place) (r : Result (List Tree) Tree) → r ≡ Err (type_error (codes "list") (reads m s p)) → r ≡ Err (fault_term m s (For 177 114 p))
broken_list m s p r e = e ∙ ap Err (for_term m s p 177 114 (codes "type_error") (codes "list") type_error_is list_is)

pub named_by_list : (m : Names) (s : Contents) (r : Result (List Tree) Tree) (ps : List Place) (n : Named) → r ≡ Ok (map (reads m s) ps) → AreAtoms m s (map (reads m s) ps) n → AreNamedBy m s r n
named_by_list m s r ps n e h = subst (λ x. AreNamedBy m s x n) (sym e) h

pub refused_by_list : (m : Names) (s : Contents) (r : Result (List Tree) Tree) (f : Fault) → (r ≡ Err (fault_term m s f)) × (IsFaultIn s f × IsFaultHeld m s f) → AreNamedBy m s r (Refused f)
refused_by_list m s r f h =
    let P : Result (List Tree) Tree → Type 0 = λ x. AreNamedBy m s x (Refused f) in subst P (sym h.0) (refl, h.1)

-- An atom

pub name_told : (m : Names) (s : Contents) (p : Place) (a : ℕ) → term_at s p ≡ atom (atom_name a) → reads m s p ≡ atom (worlds.text_of m a)
name_told m s p a e = ap (spelled (text_of m)) e ∙ ap atom (sym (one_text m a))

-- One after the other

atom_first : (t : Tree) (ts : List Tree) (x : Chars) → t ≡ atom x → atoms_error (t ∷ ts) ≡ atoms_error ts
atom_first t ts x e = ap (λ u. atoms_error (u ∷ ts)) e ∙ go (atoms_error ts)
  where
    go : (o : Option Tree) → first_error (o ∷ []) ≡ o
    go None = refl
    go (Some e) = refl

other_first : (t : Tree) (ts : List Tree) (e : Tree) → first_error (bound_error t ∷ (atom_error t ∷ [])) ≡ Some e → atoms_error (t ∷ ts) ≡ Some e
other_first (var x) ts e h = h
other_first (int i) ts e h = h
other_first (atom a) ts e h = absurd cc
other_first (comp f t us) ts e h = h

map-push : {A B : Type 0} (f : A → B) (xs : List A) (x : A) → map f (xs ++ x ∷ []) ≡ map f xs ++ f x ∷ []
map-push f [] x = refl
map-push f (y ∷ ys) x = ap (λ zs. f y ∷ zs) (map-push f ys x)

module _ (m : Names) (s : Contents) (ps : List Place) where
  abbrev pub terms_from : ℕ → List Tree
  terms_from i = map (reads m s) (drop i ps)

  here : (i : ℕ) (d : Place) → i < length ps → terms_from i ≡ reads m s (get_or ps i d) ∷ terms_from (suc i)
  here i d lt = ap (map (reads m s)) (drop-cons ps i d lt)

  pub more_errors : (i : ℕ) (d : Place) (a : ℕ) (whole : Option Tree) → i < length ps → reads m s (get_or ps i d) ≡ atom (worlds.text_of m a) → whole ≡ atoms_error (terms_from i)
      → whole ≡ atoms_error (terms_from (i + 1))
  more_errors i d a whole lt is so =
      let up : suc i ≡ i + 1 = omega arith in
      so ∙ ap atoms_error (here i d lt) ∙ atom_first (reads m s (get_or ps i d)) (terms_from (suc i)) (worlds.text_of m a) is ∙ ap (λ j. atoms_error (terms_from j)) up

  pub more_texts : (i : ℕ) (d : Place) (a : ℕ) (all new : List ℕ) (whole : List Chars) → i < length ps → reads m s (get_or ps i d) ≡ atom (worlds.text_of m a) → new ≡ all ++ a ∷ []
      → whole ≡ map (worlds.text_of m) all ++ map text_of_atom (terms_from i) → whole ≡ map (worlds.text_of m) new ++ map text_of_atom (terms_from (i + 1))
  more_texts i d a all new whole lt is at so =
      let f = worlds.text_of m in
      let up : suc i ≡ i + 1 = omega arith in
      so ∙ ap (λ ts. map f all ++ map text_of_atom ts) (here i d lt)
      ∙ ap₂ (λ x j. map f all ++ (x ∷ map text_of_atom (terms_from j))) (ap text_of_atom is) up
      ∙ sym (append_assoc (map f all) (f a ∷ []) (map text_of_atom (terms_from (i + 1))))
      ∙ ap (λ xs. xs ++ map text_of_atom (terms_from (i + 1))) (sym (map-push f all a) ∙ ap (map f) (sym at))

  pub first_refused : (i : ℕ) (d : Place) (e : Tree) (whole : Option Tree) → i < length ps
      → first_error (bound_error (reads m s (get_or ps i d)) ∷ (atom_error (reads m s (get_or ps i d)) ∷ [])) ≡ Some e → whole ≡ atoms_error (terms_from i) → whole ≡ Some e
  first_refused i d e whole lt is so = so ∙ ap atoms_error (here i d lt) ∙ other_first (reads m s (get_or ps i d)) (terms_from (suc i)) e is

pub texts_end : (xs ys : List Chars) (whole : List Chars) → whole ≡ xs ++ ys → ys ≡ [] → whole ≡ xs
texts_end xs ys whole e is = e ∙ ap (λ zs. xs ++ zs) is ∙ append-nil xs
