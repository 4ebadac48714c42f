-- Bindings whose words are read by slot.
use Rattle.std.proofs.Common.{◌≡◌, ◌≢◌, ◌⊎◌, inl, inr, ℕ, zero, suc, ◌-◌, ◌<◌, ◌≤◌, ◌==◌, Bool, true, false, cond, List, [], ◌∷◌, ◌++◌, length, get_or, set, map, take, Option, Some, None, refl, sym, ap, ap₂, subst, ◌∙◌, arith, get_or-set_other, get_or-set_same, length-append}
use Rattle.std.specs.List.{All}
use Rattle.std.proofs.Math.Seq.{get_or-append_seam}
use Rattle.std.proofs.lemmas.Bool.{cases_lt, false≢true}
use Rattle.std.proofs.lemmas.Bool.Decides.{Decides-eqb}
use Rattle.std.proofs.lemmas.List.{get_or_append_left, get_or-append_right, get_or-map, get_or-take, get_or_past, length-map, map-append}
use Rattle.term_store.specs.declared.words.Word.{Word}
use Rattle.term_store.specs.declared.words.Bond.{Bond}
use Rattle.term_store.specs.Heap.{find}
use Rattle.term_store.specs.Fit.{OnceFrom}
use Rattle.term_store.specs.Shorts.{bond_of, last_bond, no_bond, value_or_zero}
use Rattle.term_store.proofs.Unbinding.{OnceFrom-last}

-- Writing a slot that has no binding.
pub bonds_other : (vs : List (Option Word)) (i : ℕ) (x : Option Word) (ts : List ℕ) → find i (map (bond_of vs) ts) ≡ None
    → map (bond_of (set vs i x)) ts ≡ map (bond_of vs) ts
bonds_other vs i x [] free = refl
bonds_other vs i x (t ∷ ts) free = go (bonds_other vs i x ts) (i == t) refl free
  where
    go : (find i (map (bond_of vs) ts) ≡ None → map (bond_of (set vs i x)) ts ≡ map (bond_of vs) ts) → (q : Bool) → (i == t) ≡ q
        → cond q (Some (bond_of vs t).word) (find i (map (bond_of vs) ts)) ≡ None
        → bond_of (set vs i x) t ∷ map (bond_of (set vs i x)) ts ≡ bond_of vs t ∷ map (bond_of vs) ts
    go ih true e k = cc
    go ih false e k =
        let ne : t ≢ i = λ s. false≢true (sym e ∙ (Decides-eqb i t).1 (sym s)) in
        ap₂ (λ (v : Option Word) (bs : List Bond). record { slot = t; word = value_or_zero v } ∷ bs) (get_or-set_other vs i t x None ne) (ih k)

-- One more binding.
pub bonds_bound : (vs : List (Option Word)) (i : ℕ) (w : Word) (ts : List ℕ) → i < length vs → find i (map (bond_of vs) ts) ≡ None
    → map (bond_of (set vs i (Some w))) (ts ++ i ∷ []) ≡ map (bond_of vs) ts ++ record { slot = i; word = w } ∷ []
bonds_bound vs i w ts inside free =
    map-append (bond_of (set vs i (Some w))) ts (i ∷ [])
    ∙ ap₂ (λ (bs : List Bond) (v : Option Word). bs ++ record { slot = i; word = value_or_zero v } ∷ []) (bonds_other vs i (Some w) ts free)
    (get_or-set_same vs i (Some w) None inside)

none_past : (n : ℕ) → get_or {A = Option Word} (None ∷ []) n None ≡ None
none_past zero = refl
none_past (suc n) = refl

-- One more variable.
pub bonds_more : (vs : List (Option Word)) (ts : List ℕ) → map (bond_of (vs ++ None ∷ [])) ts ≡ map (bond_of vs) ts
bonds_more vs [] = refl
bonds_more vs (t ∷ ts) =
    ap₂ (λ (v : Option Word) (bs : List Bond). record { slot = t; word = value_or_zero v } ∷ bs) (go (cases_lt t (length vs))) (bonds_more vs ts)
  where
    go : (t < length vs) ⊎ (length vs ≤ t) → get_or (vs ++ None ∷ []) t None ≡ get_or vs t None
    go (inl lt) = get_or_append_left vs (None ∷ []) None t lt
    go (inr le) = get_or-append_right vs (None ∷ []) (length vs) t None refl le ∙ none_past (t - length vs) ∙ sym (get_or_past vs t None le)

-- The first variables, where the others are unbound.
pub bonds_taken : (vs : List (Option Word)) (n : ℕ) (ts : List ℕ) → All (λ b. b.slot < n) (map (bond_of vs) ts)
    → map (bond_of (take n vs)) ts ≡ map (bond_of vs) ts
bonds_taken vs n [] all = refl
bonds_taken vs n (t ∷ ts) all =
    ap₂ (λ (v : Option Word) (bs : List Bond). record { slot = t; word = value_or_zero v } ∷ bs) (get_or-take n vs t None (all 0 no_bond (omega arith)))
    (bonds_taken vs n ts (λ k d lt. all (suc k) d (omega (arith, lt))))

-- The binding that was made last.
pub last_is : (bs : List Bond) (b : Bond) → last_bond (bs ++ b ∷ []) ≡ b
last_is bs b =
    ap (λ n. get_or (bs ++ b ∷ []) n no_bond) (omega (arith, length-append bs (b ∷ []))) ∙ get_or-append_seam bs b [] no_bond

pub split_bonds : (vs : List (Option Word)) (ts cs : List ℕ) (t : ℕ) → ts ≡ cs ++ t ∷ [] → map (bond_of vs) ts ≡ map (bond_of vs) cs ++ bond_of vs t ∷ []
split_bonds vs ts cs t e = ap (map (bond_of vs)) e ∙ map-append (bond_of vs) cs (t ∷ [])

pub last_slot : (vs : List (Option Word)) (ts cs : List ℕ) (t : ℕ) → ts ≡ cs ++ t ∷ [] → (last_bond (map (bond_of vs) ts)).slot ≡ t
last_slot vs ts cs t e =
    ap (λ (b : Bond). b.slot) (ap last_bond (split_bonds vs ts cs t e) ∙ last_is (map (bond_of vs) cs) (bond_of vs t))

-- The slots of bindings are those of variables.
pub slot_inside : (vs : List (Option Word)) (ts : List ℕ) (at x : ℕ) → at < length ts → x ≡ get_or ts at x
    → All (λ b. b.slot < length vs) (map (bond_of vs) ts) → x < length vs
slot_inside vs ts at x lt e all =
    subst (λ n. n < length vs) (sym e)
    (subst (λ (b : Bond). b.slot < length vs) (get_or-map (bond_of vs) ts at x (bond_of vs x) lt)
    (all at (bond_of vs x) (subst (λ n. at < n) (sym (length-map ts (bond_of vs))) lt)))

pub last_inside : (vs : List (Option Word)) (ts cs : List ℕ) (t : ℕ) → ts ≡ cs ++ t ∷ [] → All (λ b. b.slot < length vs) (map (bond_of vs) ts)
    → t < length vs
last_inside vs ts cs t e all =
    slot_inside vs ts (length cs) t (omega (arith, ap length e, length-append cs (t ∷ [])))
    (sym (ap (λ l. get_or l (length cs) t) e ∙ get_or-append_seam cs t [] t)) all

-- The last binding is undone.
pub undone : (vs : List (Option Word)) (ts cs : List ℕ) (t : ℕ) → ts ≡ cs ++ t ∷ [] → OnceFrom [] (map (bond_of vs) ts)
    → map (bond_of vs) ts ≡ map (bond_of (set vs t None)) cs ++ last_bond (map (bond_of vs) ts) ∷ []
undone vs ts cs t e once =
    let split = split_bonds vs ts cs t e in
    let free : find t (map (bond_of vs) cs) ≡ None = (OnceFrom-last [] (map (bond_of vs) cs) (bond_of vs t) (subst (OnceFrom []) split once)).0 in
    split ∙ ap (λ l. l ++ bond_of vs t ∷ []) (sym (bonds_other vs t None cs free))
    ∙ ap (λ b. map (bond_of (set vs t None)) cs ++ b ∷ []) (sym (ap last_bond split ∙ last_is (map (bond_of vs) cs) (bond_of vs t)))

-- One more variable, or none.
pub bonds_added : (vs ws : List (Option Word)) (q : Bool) (ts : List ℕ) → ws ≡ cond q (vs ++ None ∷ []) vs → map (bond_of ws) ts ≡ map (bond_of vs) ts
bonds_added vs ws true ts e = ap (λ l. map (bond_of l) ts) e ∙ bonds_more vs ts
bonds_added vs ws false ts e = ap (λ l. map (bond_of l) ts) e
