-- Error terms, as they are made and read.
use Rattle.std.proofs.Common.{◌≡◌, ℕ, [], ◌∷◌, ◌++◌, Option, Some, None, codes, refl, sym, ap, ap₂, subst, ◌∙◌}
use Rattle.std.specs.Prelude.{IsSome}
use Rattle.std.specs.List.{All}
use Rattle.std.proofs.lemmas.Bool.{false≢true}
use Rattle.std.proofs.lemmas.List.Elements.{All-append, All-cons, All-nil}
use Rattle.pl_term.specs.Tree.{Chars, atom, comp, none, more}
use Rattle.pl_model.specs.ErrorTerms.{domain_error, permission_error}
use Rattle.atom_api.specs.Fixed.{fixed}
use Rattle.atom_api.specs.Names.{Names, FixedStand}
use Rattle.term_store.specs.declared.words.Place.{Place}
use Rattle.term_store.specs.Contents.{Contents, Holds, term_at}
use Rattle.term_store.specs.Heap.{atom_name}
use Rattle.world_builtins.specs.Naming.{IsHeldAt, atoms_in}
use Rattle.world_builtins.specs.Spelling.{reads, spelled, text_of}
use Rattle.builtin_rows.proofs.Balls.{fixed_held}
use Rattle.shared_builtins.specs.declared.faults.Fault.TheVariants.{For, NoValue, NotPermitted, Of, Unbound}
use Rattle.shared_builtins.specs.Faults.{fault_term, fixed_text, or_empty}
use Rattle.shared_builtins.proofs.FixedNames.{domain_error_is, flag_value_is, instantiation_error_is, permission_error_is, plus_is}
use Rattle.shared_builtins.proofs.PairTerms.{fixed_read}

pub three_places : (s : Contents) (p q r : Place) → Holds s p → Holds s q → Holds s r → All (Holds s) (p ∷ (q ∷ (r ∷ [])))
three_places s p q r hp hq hr =
    All-cons (Holds s) p (q ∷ (r ∷ [])) hp (All-cons (Holds s) q (r ∷ []) hq (All-cons (Holds s) r [] hr (All-nil (Holds s))))

module _ (m : Names) (stands : FixedStand m) where
  -- An atom that is fixed.
  text_told : (k : ℕ) → IsSome (fixed k) → text_of m (atom_name k) ≡ fixed_text k
  text_told k h = go (fixed k) refl h
    where
      go : (o : Option Chars) → fixed k ≡ o → IsSome o → text_of m (atom_name k) ≡ or_empty (fixed k)
      go None e h = absurd (false≢true h)
      go (Some t) e h = fixed_read m stands k t e ∙ sym (ap or_empty e)

  name_held : (k : ℕ) → IsSome (fixed k) → IsSome (m k)
  name_held k h = go (fixed k) refl h
    where
      go : (o : Option Chars) → fixed k ≡ o → IsSome o → IsSome (m k)
      go None e h = absurd (false≢true h)
      go (Some t) e h = fixed_held m stands k t e

  module _ (s t : Contents) (p : Place) where
    pub unbound_reads : term_at t p ≡ atom (atom_name 106) → reads m t p ≡ fault_term m s Unbound
    unbound_reads is = ap (spelled (text_of m)) is ∙ ap atom (fixed_read m stands 106 (codes "instantiation_error") instantiation_error_is)

    pub unbound_held : term_at t p ≡ atom (atom_name 106) → IsHeldAt m t p
    unbound_held is =
        subst (λ u. All (λ a. IsSome (m a)) (atoms_in u)) (sym is)
        (All-cons (λ a. IsSome (m a)) 106 [] (fixed_held m stands 106 (codes "instantiation_error") instantiation_error_is) (All-nil (λ a. IsSome (m a))))

    pub for_reads : (e k : ℕ) (x : Place) → IsSome (fixed e) → IsSome (fixed k) → term_at t p ≡ comp (atom_name e) (atom (atom_name k)) (more (term_at s x) none)
        → reads m t p ≡ fault_term m s (For e k x)
    for_reads e k x he hk is =
        ap (spelled (text_of m)) is ∙ ap₂ (λ a b. comp a (atom b) (more (reads m s x) none)) (text_told e he) (text_told k hk)

    pub for_held : (e k : ℕ) (x : Place) → IsSome (fixed e) → IsSome (fixed k) → term_at t p ≡ comp (atom_name e) (atom (atom_name k)) (more (term_at s x) none)
        → IsHeldAt m s x → IsHeldAt m t p
    for_held e k x he hk is held =
        let Q : ℕ → Type 0 = λ a. IsSome (m a) in
        let us = atoms_in (term_at s x) in
        subst (λ u. All Q (atoms_in u)) (sym is)
        (All-cons Q e (k ∷ (us ++ [])) (name_held e he) (All-cons Q k (us ++ []) (name_held k hk) (All-append Q us [] held (All-nil Q))))

    pub with_reads : (e : ℕ) (x : Place) → IsSome (fixed e) → term_at t p ≡ comp (atom_name e) (term_at s x) none → reads m t p ≡ fault_term m s (Of e x)
    with_reads e x he is = ap (spelled (text_of m)) is ∙ ap (λ a. comp a (reads m s x) none) (text_told e he)

    pub with_held : (e : ℕ) (x : Place) → IsSome (fixed e) → term_at t p ≡ comp (atom_name e) (term_at s x) none → IsHeldAt m s x → IsHeldAt m t p
    with_held e x he is held =
        let Q : ℕ → Type 0 = λ a. IsSome (m a) in
        let us = atoms_in (term_at s x) in
        subst (λ u. All Q (atoms_in u)) (sym is) (All-cons Q e (us ++ []) (name_held e he) (All-append Q us [] held (All-nil Q)))

    pub permission_reads : (d k : ℕ) (x : Place) → IsSome (fixed d) → IsSome (fixed k)
        → term_at t p ≡ comp (atom_name 142) (atom (atom_name d)) (more (atom (atom_name k)) (more (term_at s x) none)) → reads m t p ≡ fault_term m s (NotPermitted d k x)
    permission_reads d k x hd hk is =
        ap (spelled (text_of m)) is
        ∙ ap (λ a. comp a (atom (text_of m (atom_name d))) (more (atom (text_of m (atom_name k))) (more (reads m s x) none)))
        (fixed_read m stands 142 (codes "permission_error") permission_error_is)
        ∙ ap₂ (λ a b. permission_error a b (reads m s x)) (text_told d hd) (text_told k hk)

    pub permission_held : (d k : ℕ) (x : Place) → IsSome (fixed d) → IsSome (fixed k)
        → term_at t p ≡ comp (atom_name 142) (atom (atom_name d)) (more (atom (atom_name k)) (more (term_at s x) none)) → IsHeldAt m s x → IsHeldAt m t p
    permission_held d k x hd hk is held =
        let Q : ℕ → Type 0 = λ a. IsSome (m a) in
        let us = atoms_in (term_at s x) in
        subst (λ u. All Q (atoms_in u)) (sym is)
        (All-cons Q 142 (d ∷ (k ∷ (us ++ []))) (fixed_held m stands 142 (codes "permission_error") permission_error_is)
        (All-cons Q d (k ∷ (us ++ [])) (name_held d hd) (All-cons Q k (us ++ []) (name_held k hk) (All-append Q us [] held (All-nil Q)))))

    abbrev IsValueTerm : Place → Place → Type 0
    IsValueTerm x y = term_at t p ≡ comp (atom_name 77) (atom (atom_name 92)) (more (comp (atom_name 3) (term_at s x) (more (term_at s y) none)) none)

    pub value_reads : (x y : Place) → IsValueTerm x y → reads m t p ≡ fault_term m s (NoValue x y)
    value_reads x y is =
        ap (spelled (text_of m)) is
        ∙ ap₂ (λ a b. comp a (atom b) (more (comp (text_of m (atom_name 3)) (reads m s x) (more (reads m s y) none)) none))
        (fixed_read m stands 77 (codes "domain_error") domain_error_is) (fixed_read m stands 92 (codes "flag_value") flag_value_is)
        ∙ ap (λ a. domain_error (codes "flag_value") (comp a (reads m s x) (more (reads m s y) none))) (fixed_read m stands 3 (codes "+") plus_is)

    pub value_held : (x y : Place) → IsValueTerm x y → IsHeldAt m s x → IsHeldAt m s y → IsHeldAt m t p
    value_held x y is hx hy =
        let Q : ℕ → Type 0 = λ a. IsSome (m a) in
        let us = atoms_in (term_at s x) in
        let vs = atoms_in (term_at s y) in
        subst (λ u. All Q (atoms_in u)) (sym is)
        (All-cons Q 77 (92 ∷ ((3 ∷ (us ++ (vs ++ []))) ++ [])) (fixed_held m stands 77 (codes "domain_error") domain_error_is)
        (All-cons Q 92 ((3 ∷ (us ++ (vs ++ []))) ++ []) (fixed_held m stands 92 (codes "flag_value") flag_value_is)
        (All-append Q (3 ∷ (us ++ (vs ++ []))) []
        (All-cons Q 3 (us ++ (vs ++ [])) (fixed_held m stands 3 (codes "+") plus_is) (All-append Q us (vs ++ []) hx (All-append Q vs [] hy (All-nil Q)))) (All-nil Q))))
