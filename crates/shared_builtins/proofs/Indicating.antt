-- Predicate indicators, and lists and conjunctions of them.
use Rattle.std.proofs.Common.{◌≡◌, ℕ, pos, negsuc, suc, ◌+◌, ◌<◌, Bool, true, false, cond, List, [], ◌∷◌, ◌++◌, length, get_or, map, drop, drop-cons, Some, Ok, Err, IsSome, codes, refl, sym, ap, ap₂, subst, ◌∙◌, append-nil, append_assoc, arith}
use Rattle.std.specs.Prelude.{Result}
use Rattle.std.specs.List.{All}
use Rattle.std.proofs.lemmas.List.Elements.{All-head}
use Rattle.pl_term.specs.Tree.{Chars, Tree, var, int, atom, comp, none, more}
use Rattle.pl_model.specs.Balls.{instantiation_error}
use Rattle.pl_model.specs.Checks.{all_indicated, atom_error, bound_error, first_error, indicator_error, integer_error, negative_error, proc_indicated, proc_or_error, with_proc}
use Rattle.pl_model.specs.History.{Proc}
use Rattle.pl_model.specs.SharedBuiltins.{conjuncts}
use Rattle.atom_api.specs.Names.{Names}
use Rattle.builtin_rows.specs.Kinds.{passes}
use Rattle.term_store.specs.declared.words.Place.{Place}
use Rattle.term_store.specs.Contents.{Contents, term_at}
use Rattle.term_store.specs.Heap.{atom_name}
use Rattle.world_api.specs.declared.visit.Procedure.{Procedure}
use Rattle.world_api.specs.Texts as worlds
use Rattle.world_api.specs.Visits.{proc_named}
use Rattle.world_builtins.specs.Naming.{IsHeldAt, atoms_in}
use Rattle.world_builtins.specs.Spelling.{reads, spelled, text_of}
use Rattle.shared_builtins.specs.declared.faults.Fault.{Fault}
use Rattle.shared_builtins.specs.declared.faults.Fault.TheVariants.{For, Unbound}
use Rattle.shared_builtins.specs.declared.kinds.TheConstants.{ATOM, BOUND, INTEGER, VARIABLE}
use Rattle.shared_builtins.specs.declared.indicators.Indicated.TheVariants.{Refused}
use Rattle.shared_builtins.specs.Checks.{natural_in}
use Rattle.shared_builtins.specs.Faults.{fault_term}
use Rattle.shared_builtins.specs.Indicators.{AreProcs, IsProc, joined, proc_of_parts, stacked, with_procs}
use Rattle.shared_builtins.specs.Pairs.{is_pair}
use Rattle.shared_builtins.proofs.Checking.{for_term}
use Rattle.shared_builtins.proofs.FixedNames.{predicate_indicator_is, type_error_is}
use Rattle.shared_builtins.proofs.Reading.{one_text}

-- What is no indicator

no_pair : (g : Chars → Chars) (t : Tree) (b : Bool) → passes VARIABLE t ≡ b → is_pair (codes "/") (spelled g t) ≡ false
    → proc_indicated (spelled g t) ≡ Err (cond b instantiation_error (indicator_error (spelled g t)))
no_pair g (var x) b v e = ap (λ c. Err (cond c instantiation_error (indicator_error (var x)))) v
no_pair g (int i) b v e = ap (λ c. Err (cond c instantiation_error (indicator_error (int i)))) v
no_pair g (atom a) b v e = ap (λ c. Err (cond c instantiation_error (indicator_error (atom (g a))))) v
no_pair g (comp f u none) b v e = ap (λ c. Err (cond c instantiation_error (indicator_error (comp (g f) (spelled g u) none)))) v
no_pair g (comp f u (more x none)) b v e =
    let t : Tree = comp (g f) (spelled g u) (more (spelled g x) none) in
    ap (λ c. cond c (proc_of_parts (spelled g u) (spelled g x)) (Err (indicator_error t))) e ∙ ap (λ c. Err (cond c instantiation_error (indicator_error t))) v
no_pair g (comp f u (more x (more y ts))) b v e =
    ap (λ c. Err (cond c instantiation_error (indicator_error (spelled g (comp f u (more x (more y ts))))))) v

pub unbound_indicator : (m : Names) (s : Contents) (p : Place) → passes VARIABLE (term_at s p) ≡ true → is_pair (codes "/") (reads m s p) ≡ false
    → proc_indicated (reads m s p) ≡ Err (fault_term m s Unbound)
unbound_indicator m s p v e = no_pair (text_of m) (term_at s p) true v e

pub other_indicator : (m : Names) (s : Contents) (p : Place) → passes VARIABLE (term_at s p) ≡ false → is_pair (codes "/") (reads m s p) ≡ false
    → proc_indicated (reads m s p) ≡ Err (fault_term m s (For 177 143 p))
other_indicator m s p v e =
    no_pair (text_of m) (term_at s p) false v e ∙ ap Err (for_term m s p 177 143 (codes "type_error") (codes "predicate_indicator") type_error_is predicate_indicator_is)

-- A name and a number of arguments that passed their checks

pub atom_passed : (t : Tree) → passes BOUND t ≡ true → passes ATOM t ≡ true → (f : Chars) × (t ≡ atom f)
atom_passed (var x) b a = absurd cc
atom_passed (int i) b a = absurd cc
atom_passed (atom f) b a = (f, refl)
atom_passed (comp f t ts) b a = absurd cc

pub natural_passed : (t : Tree) → passes BOUND t ≡ true → passes INTEGER t ≡ true → natural_in t ≡ true → (n : ℕ) × (t ≡ int (pos n))
natural_passed (var x) b a n = absurd cc
natural_passed (int (pos k)) b a n = (k, refl)
natural_passed (int (negsuc k)) b a n = absurd cc
natural_passed (atom f) b a n = absurd cc
natural_passed (comp f t ts) b a n = absurd cc

pub name_held : (m : Names) (s : Contents) (p : Place) (a : ℕ) → term_at s p ≡ atom (atom_name a) → IsHeldAt m s p → IsSome (m a)
name_held m s p a e held =
    let P : ℕ → Type 0 = λ k. IsSome (m k) in All-head P a [] (subst (λ t. All P (atoms_in t)) e held)

pub named_told : (m : Names) (s : Contents) (f n : Place) (q : Procedure) → term_at s f ≡ atom (atom_name q.name) → term_at s n ≡ int (pos q.arity)
    → proc_of_parts (reads m s f) (reads m s n) ≡ Ok (proc_named (worlds.text_of m) q)
named_told m s f n q is at =
    ap₂ (λ t u. proc_of_parts (spelled (text_of m) t) (spelled (text_of m) u)) is at
    ∙ ap (λ x. let p : Result Proc Tree = Ok (record { name = x; arity = q.arity }) in p) (sym (one_text m q.name))

pub named_refused : (t u e : Tree) → first_error (bound_error t ∷ (bound_error u ∷ (atom_error t ∷ (integer_error u ∷ (negative_error u ∷ []))))) ≡ Some e → proc_of_parts t u ≡ Err e
named_refused t u e is = ap (λ o. proc_or_error o t u) is

pub pair_indicated : (m : Names) (s : Contents) (p x y : Place) → reads m s p ≡ comp (codes "/") (reads m s x) (more (reads m s y) none)
    → (r : Result Procedure Fault) → IsProc m s (proc_of_parts (reads m s x) (reads m s y)) r → IsProc m s (proc_indicated (reads m s p)) r
pair_indicated m s p x y e r h = subst (λ t. IsProc m s (proc_indicated t) r) (sym e) h

pub empty_of : (ps : List Place) → length ps ≡ 0 → ps ≡ []
empty_of [] e = refl
empty_of (p ∷ ps) e = absurd (omega arith)

-- Several indicators, one after the other

with_ok : (ps : List Proc) → with_procs ps (Ok []) ≡ Ok ps
with_ok [] = refl
with_ok (p ∷ ps) = ap (with_proc (Ok p)) (with_ok ps)

with_err : (ps : List Proc) (e : Tree) → with_procs ps (Err e) ≡ Err e
with_err [] e = refl
with_err (p ∷ ps) e = ap (with_proc (Ok p)) (with_err ps e)

with_one_more : (ps : List Proc) (p : Proc) (r : Result (List Proc) Tree) → with_procs (ps ++ p ∷ []) r ≡ with_procs ps (with_proc (Ok p) r)
with_one_more [] p r = refl
with_one_more (q ∷ ps) p r = ap (with_proc (Ok q)) (with_one_more ps p r)

map-push : {A B : Type 0} (f : A → B) (xs : List A) (x : A) → map f (xs ++ x ∷ []) ≡ map f xs ++ f x ∷ []
map-push f [] x = refl
map-push f (y ∷ ys) x = ap (λ zs. f y ∷ zs) (map-push f ys x)

module _ (m : Names) (s : Contents) (ps : List Place) where
  abbrev pub procs_from : ℕ → Result (List Proc) Tree
  procs_from i = all_indicated (map (reads m s) (drop i ps))

  here : (i : ℕ) (d : Place) → i < length ps → procs_from i ≡ with_proc (proc_indicated (reads m s (get_or ps i d))) (procs_from (suc i))
  here i d lt = ap (λ xs. all_indicated (map (reads m s) xs)) (drop-cons ps i d lt)

  pub one_more_proc : (i : ℕ) (d : Place) (all new : List Procedure) (q : Procedure) (whole : Result (List Proc) Tree) → i < length ps → new ≡ all ++ q ∷ []
      → whole ≡ with_procs (map (proc_named (worlds.text_of m)) all) (procs_from i) → IsProc m s (proc_indicated (reads m s (get_or ps i d))) (Ok q)
      → whole ≡ with_procs (map (proc_named (worlds.text_of m)) new) (procs_from (i + 1))
  one_more_proc i d all new q whole lt is so h =
      let f = proc_named (worlds.text_of m) in
      let up : suc i ≡ i + 1 = omega arith in
      so ∙ ap (with_procs (map f all)) (here i d lt ∙ ap (λ r. with_proc r (procs_from (suc i))) h.0 ∙ ap (λ j. with_proc (Ok (f q)) (procs_from j)) up)
      ∙ sym (with_one_more (map f all) (f q) (procs_from (i + 1)))
      ∙ ap (λ xs. with_procs xs (procs_from (i + 1))) (sym (map-push f all q) ∙ ap (map f) (sym is))

  pub one_refused : (i : ℕ) (d : Place) (all : List Procedure) (f : Fault) (whole : Result (List Proc) Tree) → i < length ps
      → whole ≡ with_procs (map (proc_named (worlds.text_of m)) all) (procs_from i) → IsProc m s (proc_indicated (reads m s (get_or ps i d))) (Err f)
      → AreProcs m s whole (Refused f)
  one_refused i d all f whole lt so h = (
    so
        ∙ ap (with_procs (map (proc_named (worlds.text_of m)) all)) (here i d lt ∙ ap (λ r. with_proc r (procs_from (suc i))) h.0)
        ∙ with_err (map (proc_named (worlds.text_of m)) all) (fault_term m s f),
    h.1,
  )

pub procs_end : (ps : List Proc) (whole r : Result (List Proc) Tree) → whole ≡ with_procs ps r → r ≡ Ok [] → whole ≡ Ok ps
procs_end ps whole r e is = e ∙ ap (with_procs ps) is ∙ with_ok ps

-- Conjunctions

no_conjunction : (t : Tree) → is_pair (codes ",") t ≡ false → conjuncts t ≡ t ∷ []
no_conjunction (var x) e = refl
no_conjunction (int i) e = refl
no_conjunction (atom a) e = refl
no_conjunction (comp f t none) e = refl
no_conjunction (comp f t (more u none)) e = ap (λ c. cond c (conjuncts t ++ conjuncts u) (comp f t (more u none) ∷ [])) e
no_conjunction (comp f t (more u (more v ts))) e = refl

stacked-push : (ts : List Tree) (t : Tree) → stacked (ts ++ t ∷ []) ≡ conjuncts t ++ stacked ts
stacked-push [] t = sym (append-nil (conjuncts t))
stacked-push (u ∷ us) t = ap (λ xs. xs ++ conjuncts u) (stacked-push us t) ∙ append_assoc (conjuncts t) (stacked us) (conjuncts u)

left_push : (r : Place → Tree) (left : List Place) (p : Place) → stacked (map r (left ++ p ∷ [])) ≡ conjuncts (r p) ++ stacked (map r left)
left_push r left p = ap stacked (map-push r left p) ∙ stacked-push (map r left) (r p)

pub opened : (r : Place → Tree) (all left : List Place) (p x y : Place) (mid new : List Place) → r p ≡ comp (codes ",") (r x) (more (r y) none)
    → mid ≡ left ++ y ∷ [] → new ≡ mid ++ x ∷ [] → joined r all new ≡ joined r all (left ++ p ∷ [])
opened r all left p x y mid new e is at =
    ap (λ ts. map r all ++ ts)
    (ap (λ ps. stacked (map r ps)) at ∙ left_push r mid x
    ∙ ap (λ ts. conjuncts (r x) ++ ts) (ap (λ ps. stacked (map r ps)) is ∙ left_push r left y)
    ∙ sym (append_assoc (conjuncts (r x)) (conjuncts (r y)) (stacked (map r left)))
    ∙ sym (left_push r left p ∙ ap (λ t. conjuncts t ++ stacked (map r left)) e))

pub passed_over : (r : Place → Tree) (all left new : List Place) (p : Place) → is_pair (codes ",") (r p) ≡ false → new ≡ all ++ p ∷ []
    → joined r new left ≡ joined r all (left ++ p ∷ [])
passed_over r all left new p e is =
    ap (λ ps. map r ps ++ stacked (map r left)) is
    ∙ ap (λ ts. ts ++ stacked (map r left)) (map-push r all p)
    ∙ append_assoc (map r all) (r p ∷ []) (stacked (map r left))
    ∙ ap (λ ts. map r all ++ ts) (sym (left_push r left p ∙ ap (λ ts. ts ++ stacked (map r left)) (no_conjunction (r p) e)))

pub joined_first : (r : Place → Tree) (all left : List Place) (p : Place) → all ≡ [] → left ≡ p ∷ [] → conjuncts (r p) ≡ joined r all left
joined_first r all left p a l = sym (ap₂ (joined r) a l)

pub joined_last : (r : Place → Tree) (all left : List Place) → left ≡ [] → joined r all left ≡ map r all
joined_last r all left l = ap (joined r all) l ∙ append-nil (map r all)
