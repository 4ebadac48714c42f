-- What holds where a step was not made.
use Rattle.std.proofs.Common.{◌≡◌, [], ◌++◌, List, Option, None, Some, IfOk, Result, Ok, Err, refl, sym, ap, subst, ◌∙◌}
use Rattle.std.specs.Prelude.{IfNone, OnOk}
use Rattle.std.specs.Result.{IsErrAnd}
use Rattle.std.proofs.lemmas.Result.{err_from_is_err_and}
use Rattle.atom_api.specs.Names.{Names}
use Rattle.atom_words.specs.declared.view.Refusal.{Refusal}
use Rattle.world_api.specs.Told.{Told}
use Rattle.iso_engine.specs.declared.engine.Engine.{Engine}
use Rattle.iso_engine.specs.declared.slices.Slice.{Slice}
use Rattle.iso_engine.specs.declared.slices.Slice.TheVariants as slices
use Rattle.world_api.specs.declared.unserved.Unserved.{Unserved}
use Rattle.world_api.specs.declared.unserved.Unserved.TheVariants.{NeedsAtoms, Retry, Worn, Memory}
use Rattle.iso_engine.specs.Advancing.{Advances}
use Rattle.iso_engine.specs.Retrying.{IsTakenBack}
use Rattle.iso_engine.specs.Slices.{IsStepped}
use Rattle.iso_engine.specs.Unserved.{OnRefusal, UnlessMemory, as_stopped, refusals_in, stopped_refusals}

-- At the exit of a `?` the answer is the refusal.
pub at_exit : {T : Type 0} (r : Result T Unserved) (w : Unserved) → IsErrAnd r (λ y. y ≡ w) → r ≡ Err w
at_exit r w h = let p = err_from_is_err_and r h in p.1 ∙ ap Err p.2

-- The end of a slice by a refusal.
pub refused_end : (T : Type 0) (r : Result (Option Slice) Unserved) (w : Unserved) → r ≡ Err w → (P : Type 0) (Q : Option Slice → Type 0)
    → OnRefusal {T = T} (Err w) P
    → ((s : Slice) → IsTakenBack s → P → Q (Some s))
    → IfOk (as_stopped r) Q
refused_end T r w is P Q h ends = subst (λ x. IfOk (as_stopped x) Q) (sym is) (go w h)
  where
    go : (x : Unserved) → OnRefusal {T = T} (Err x) P → IfOk (as_stopped (Err x)) Q
    go (NeedsAtoms p) k = ends (slices.NeedsAtoms p) tt k
    go (Retry c) k = ends (slices.Retry c) tt k
    go (Worn word) k = ends (slices.Worn word) tt k
    go Memory k = tt

-- The refusals that it hands on.
pub refused_list : (T : Type 0) (r : Result (Option Slice) Unserved) (w : Unserved) → r ≡ Err w → (xs ys : List Refusal)
    → UnlessMemory {T = T} (Err w) (ys ≡ xs ++ refusals_in {T = T} (Err w))
    → IfOk (as_stopped r) (λ o. ys ≡ xs ++ stopped_refusals o)
refused_list T r w is xs ys h = subst (λ x. IfOk (as_stopped x) (λ o. ys ≡ xs ++ stopped_refusals o)) (sym is) (go w h)
  where
    go : (x : Unserved) → UnlessMemory {T = T} (Err x) (ys ≡ xs ++ refusals_in {T = T} (Err x)) → IfOk (as_stopped (Err x)) (λ o. ys ≡ xs ++ stopped_refusals o)
    go (NeedsAtoms p) k = k
    go (Retry c) k = k
    go (Worn word) k = k
    go Memory k = tt

-- What holds unless memory ran out.
pub refused_on : (T : Type 0) (r : Result (Option Slice) Unserved) (w : Unserved) → r ≡ Err w → (P : Type 0) → UnlessMemory {T = T} (Err w) P → OnOk (as_stopped r) P
refused_on T r w is P h = subst (λ x. OnOk (as_stopped x) P) (sym is) (go w h)
  where
    go : (x : Unserved) → UnlessMemory {T = T} (Err x) P → OnOk (as_stopped (Err x)) P
    go (NeedsAtoms p) k = k
    go (Retry c) k = k
    go (Worn word) k = k
    go Memory k = tt

-- What holds of the refusal holds of it by its name.
pub refusal_is : (T : Type 0) (w v : Unserved) (P : Type 0) → w ≡ v → OnRefusal {T = T} (Err w) P → OnRefusal {T = T} (Err v) P
refusal_is T w v P is h = subst (λ (x : Unserved). OnRefusal {T = T} (Err x) P) is h

pub on_refusal : (T : Type 0) (w : Unserved) {P : Type 0} → P → OnRefusal {T = T} (Err w) P
on_refusal T (NeedsAtoms p) h = h
on_refusal T (Retry c) h = h
on_refusal T (Worn w) h = h
on_refusal T Memory h = tt

pub unless_memory : (T : Type 0) (w : Unserved) {P : Type 0} → P → UnlessMemory {T = T} (Err w) P
unless_memory T (NeedsAtoms p) h = h
unless_memory T (Retry c) h = h
unless_memory T (Worn w) h = h
unless_memory T Memory h = tt

-- No step was made.
pub refused_step : (m : Names) (t : Told) (e : Engine) (n : Names) (u : Told) (f : Engine) (s : Slice) → IsTakenBack s → Advances 0 m t e n u f []
    → IsStepped m t e (Some s) n u f []
refused_step m t e n u f (slices.NeedsAtoms p) again h = (refl, tt, h)
refused_step m t e n u f (slices.Retry c) again h = (refl, tt, h)
refused_step m t e n u f (slices.Worn w) again h = (refl, tt, h)
refused_step m t e n u f slices.Yield again h = absurd again
refused_step m t e n u f (slices.Solution ops) again h = absurd again
refused_step m t e n u f (slices.Waits on g) again h = absurd again
refused_step m t e n u f slices.Ended again h = absurd again
refused_step m t e n u f slices.Memory again h = absurd again

-- Both hold of an answer.
pub both_ok : {T E : Type 0} (r : Result T E) (P Q : T → Type 0) → IfOk r P → IfOk r Q → IfOk r (λ x. P x × Q x)
both_ok (Ok x) P Q p q = (p, q)
both_ok (Err e) P Q p q = tt

pub none_ok : {T E : Type 0} (r : Result (Option T) E) (P : Type 0) → OnOk r P → IfOk r (λ o. IfNone o P)
none_ok (Ok None) P h = h
none_ok (Ok (Some x)) P h = tt
none_ok (Err e) P h = tt
