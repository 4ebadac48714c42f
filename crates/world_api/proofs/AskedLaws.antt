-- The names of clauses that are kept as one term, and visits that hand out no name.
use Rattle.std.proofs.Common.{◌≡◌, ℕ, List, [], ◌∷◌, ◌++◌, Bool, true, false, Option, refl, subst, append-nil}
use Rattle.std.specs.Prelude.{bytes_eq, codes, if◌then◌else◌}
use Rattle.std.specs.List.{Contains}
use Rattle.std.proofs.lemmas.List.Elements.{Contains-append_left, Contains-append_right}
use Rattle.std.proofs.lemmas.Slice.Eq.{bytes_eq-Decides}
use Rattle.pl_term.specs.Tree.{Chars, Tree, var, int, atom, comp, none, more}
use Rattle.world_api.specs.declared.visit.Visit.TheVariants.{Look, ReadOperators}
use Rattle.world_api.specs.Told.{Told}
use Rattle.world_api.specs.Visits.{clause_in}
use Rattle.world_api.specs.Asked.{texts_in, clause_texts, IsInAnswer}
use Rattle.world_api.specs.Gains.{Gains}
use Rattle.world_api.proofs.Gaining.{gains_none}

in_head : (h b : Tree) (c : Chars) → Contains (texts_in h) c → Contains (codes ":-" ∷ (texts_in h ++ texts_in b)) c
in_head h b c p = Contains-append_right (codes ":-" ∷ []) (texts_in h ++ texts_in b) c (Contains-append_left (texts_in h) (texts_in b) c p)

in_rule : (h b : Tree) (c : Chars) → Contains (texts_in (comp (codes ":-") h (more b none))) c → Contains (codes ":-" ∷ (texts_in h ++ texts_in b)) c
in_rule h b c p = subst (λ (us : List Chars). Contains (codes ":-" ∷ (texts_in h ++ us)) c) (append-nil (texts_in b)) p

-- Each name of the term is one of the clause.
pub clause_named : (t : Tree) (c : Chars) → Contains (texts_in t) c → Contains (clause_texts (clause_in t)) c
clause_named (var x) c p = in_head (var x) (atom (codes "true")) c p
clause_named (int i) c p = in_head (int i) (atom (codes "true")) c p
clause_named (atom a) c p = in_head (atom a) (atom (codes "true")) c p
clause_named (comp f t none) c p = in_head (comp f t none) (atom (codes "true")) c p
clause_named (comp f t (more u none)) c p = go (bytes_eq f (codes ":-")) refl p
  where
    go : (b : Bool)
        → bytes_eq f (codes ":-") ≡ b
        → Contains (texts_in (comp f t (more u none))) c
        → Contains (codes ":-" ∷ (texts_in (if b then t else comp f t (more u none)) ++ texts_in (if b then u else atom (codes "true")))) c
    go true e q = in_rule t u c (subst (λ (g : Chars). Contains (texts_in (comp g t (more u none))) c) ((bytes_eq-Decides f (codes ":-")).0 e) q)
    go false e q = in_head (comp f t (more u none)) (atom (codes "true")) c q
clause_named (comp f t (more u (more v ts))) c p = in_head (comp f t (more u (more v ts))) (atom (codes "true")) c p

-- The operators are handed out without a name.
module _ {T K : Type 0} (term : (ℕ → Chars) → T → Tree) (key : T → K) (text : ℕ → Chars) (t : Told) (old new : Option (List Chars)) where
  pub look_asks_nothing : Gains (IsInAnswer term key text Look t) old new → new ≡ old
  look_asks_nothing g = gains_none (IsInAnswer term key text Look t) (λ c a. a.stands) old new g

  pub operators_ask_nothing : Gains (IsInAnswer term key text ReadOperators t) old new → new ≡ old
  operators_ask_nothing g = gains_none (IsInAnswer term key text ReadOperators t) (λ c a. a.stands) old new g
