-- A term as the list of its name and its arguments.
use Rattle.std.proofs.Common.{◌≡◌, ℕ, ◌*◌, ◌<◌, ◌+◌, List, [], ◌∷◌, ◌++◌, length, get_or, map, drop, drop-cons, IsSome, refl, sym, ap, ap₂, subst, ◌∙◌, arith, append_assoc, append-nil, add-one}
use Rattle.std.specs.List.{All}
use Rattle.std.proofs.lemmas.List.{length-map, map-append}
use Rattle.std.proofs.lemmas.List.Elements.{All-cons, All-head, All-nil, All-tail}
use Rattle.pl_term.specs.Tree.{Chars, Tree, atom, comp, compound, int, trees}
use Rattle.pl_model.specs.Terms.{list_term}
use Rattle.pl_model.specs.TermBuiltins.{list_of_trees, makes, two, univ}
use Rattle.atom_api.specs.Names.{Names}
use Rattle.term_store.specs.declared.words.Place.{Place}
use Rattle.term_store.specs.Heap.{atom_name}
use Rattle.term_store.specs.Contents.{Contents, term_at}
use Rattle.world_builtins.specs.Naming.{IsHeldAt, atoms_in}
use Rattle.world_builtins.specs.Spelling.{reads, spelled, text_of}
use Rattle.builtin_rows.specs.Lists.{AreHeld}
use Rattle.builtin_term.proofs.ListTerms.{terms_read}
use Rattle.builtin_term.proofs.Compounds.{spelled_compound}
use Rattle.builtin_term.specs.Giving.{list_row}

module _ (m : Names) (s : Contents) (p : Place) (l : Tree) where
  pub integer_row : (i : _) → term_at s p ≡ int i → list_row m s p (p ∷ []) ≡ univ (reads m s p) l
  integer_row i e =
      let g = text_of m in
      ap (λ t. makes (two (spelled g t) (list_term (spelled g t ∷ []))) (3 * 1)) e ∙ sym (ap (λ t. univ (spelled g t) l) e)

  pub atom_row : (a : Chars) → term_at s p ≡ atom a → list_row m s p (p ∷ []) ≡ univ (reads m s p) l
  atom_row a e =
      let g = text_of m in
      ap (λ t. makes (two (spelled g t) (list_term (spelled g t ∷ []))) (3 * 1)) e ∙ sym (ap (λ t. univ (spelled g t) l) e)

listed_trees : (ts : List Tree) → list_of_trees (trees ts) ≡ ts
listed_trees [] = refl
listed_trees (t ∷ ts) = ap (λ us. t ∷ us) (listed_trees ts)

univ_compound : (f : Chars) (ts : List Tree) (l : Tree) → 0 < length ts
    → univ (compound f ts) l ≡ makes (two (compound f ts) (list_term (atom f ∷ ts))) (3 * length (atom f ∷ ts))
univ_compound f [] l some = absurd (omega arith)
univ_compound f (t ∷ ts) l some =
    ap (λ us. makes (two (comp f t (trees ts)) (list_term (atom f ∷ (t ∷ us)))) (3 * length (atom f ∷ (t ∷ us)))) (listed_trees ts)

all_held : (m : Names) (s : Contents) (ps : List Place) → AreHeld m (map (term_at s) ps) → All (IsHeldAt m s) ps
all_held m s [] h = All-nil (IsHeldAt m s)
all_held m s (p ∷ ps) h =
    let Q : Tree → Type 0 = λ t. All (λ a. IsSome (m a)) (atoms_in t) in
    All-cons (IsHeldAt m s) p ps (All-head Q (term_at s p) (map (term_at s) ps) h) (all_held m s ps (All-tail Q (term_at s p) (map (term_at s) ps) h))

-- The places of the name and the arguments of a compound term
module _ (m : Names) (s : Contents) (f : ℕ) (ts : List Tree) (ps : List Place) (stand : map (term_at s) ps ≡ atom (atom_name f) ∷ ts) where
  abbrev g : Chars → Chars
  g = text_of m

  parts_read : map (reads m s) ps ≡ atom (g (atom_name f)) ∷ map (spelled g) ts
  parts_read = terms_read m s ps ∙ ap (map (spelled g)) stand

  pub compound_row : (p : Place) (l : Tree) → term_at s p ≡ compound (atom_name f) ts → 0 < length ts → list_row m s p ps ≡ univ (reads m s p) l
  compound_row p l e some =
      let h = g (atom_name f) in
      let us = map (spelled g) ts in
      let read : reads m s p ≡ compound h us = ap (spelled g) e ∙ spelled_compound g (atom_name f) ts in
      let long : length ps ≡ length (atom h ∷ us) = sym (length-map ps (reads m s)) ∙ ap length parts_read in
      ap₂ (λ vs k. makes (two (reads m s p) (list_term vs)) (3 * k)) parts_read long
      ∙ ap (λ t. makes (two t (list_term (atom h ∷ us))) (3 * length (atom h ∷ us))) read
      ∙ sym (ap (λ t. univ t l) read ∙ univ_compound h us l (omega (arith, some, length-map ts (spelled g))))

  pub parts_held : IsSome (m f) → AreHeld m ts → All (IsHeldAt m s) ps
  parts_held named held =
      let P : ℕ → Type 0 = λ a. IsSome (m a) in
      let Q : Tree → Type 0 = λ t. All P (atoms_in t) in
      all_held m s ps (subst (AreHeld m) (sym stand) (All-cons Q (atom (atom_name f)) ts (All-cons P f [] named (All-nil P)) held))

-- They are put one after the other.
module _ (s : Contents) (all : List Tree) (ts : List Tree) where
  pub first_part : (ps : List Place) (p : Place) (t : Tree) → ps ≡ p ∷ [] → term_at s p ≡ t → map (term_at s) ps ++ ts ≡ t ∷ ts
  first_part ps p t e at = ap (λ qs. map (term_at s) qs ++ ts) e ∙ ap (λ u. u ∷ ts) at

  pub next_part : (ps qs : List Place) (p : Place) (i : ℕ) (d : Tree) → i < length ts → map (term_at s) ps ++ drop i ts ≡ all → term_at s p ≡ get_or ts i d
      → qs ≡ ps ++ p ∷ [] → map (term_at s) qs ++ drop (i + 1) ts ≡ all
  next_part ps qs p i d lt so_far at e =
      ap (λ rs. map (term_at s) rs ++ drop (i + 1) ts) e ∙ ap (λ us. us ++ drop (i + 1) ts) (map-append (term_at s) ps (p ∷ []))
      ∙ append_assoc (map (term_at s) ps) (term_at s p ∷ []) (drop (i + 1) ts)
      ∙ ap (λ us. map (term_at s) ps ++ us) (ap (λ u. u ∷ drop (i + 1) ts) at ∙ sym (drop-cons ts i d lt ∙ ap (λ k. get_or ts i d ∷ drop k ts) (sym (add-one i))))
      ∙ so_far

  pub last_part : (ps : List Place) (i : ℕ) → drop i ts ≡ [] → map (term_at s) ps ++ drop i ts ≡ all → map (term_at s) ps ≡ all
  last_part ps i e so_far = sym (append-nil (map (term_at s) ps)) ∙ sym (ap (λ us. map (term_at s) ps ++ us) e) ∙ so_far
