-- Where a run does not go on.
use Rattle.std.proofs.Common.{◌≡◌, Result, Ok, Err, sym, ap, subst, ◌∙◌}
use Rattle.std.specs.Prelude.{IfErr}
use Rattle.std.specs.Result.{IsErrAnd}
use Rattle.std.proofs.lemmas.Result.{err_from_is_err_and}
use Rattle.engine_run.specs.declared.unfinished.Unfinished.{Unfinished}
use Rattle.engine_run.specs.declared.unfinished.Unfinished.TheVariants.{Waits, NeedsAtoms, Worn, Memory}
use Rattle.engine_run.specs.Searched.{UnlessMemory}

-- At the exit of a `?` the answer is the error.
pub at_exit : {E : Type 0} (r : Result E Unfinished) (w : Unfinished) → IsErrAnd r (λ y. y ≡ w) → r ≡ Err w
at_exit r w h = let p = err_from_is_err_and r h in p.1 ∙ ap Err p.2

-- What a call says where it does not go on, its caller says there.
pub exit_with : (E : Type 0) {F : Type 0} (r : Result F Unfinished) (w : Unfinished) → r ≡ Err w → (P : Type 0) (Q : Result F Unfinished → Type 0)
    → UnlessMemory {E = E} (Err w) P → (P → Q (Err w)) → UnlessMemory r (Q r)
exit_with E {F = F} r w is P Q h f = subst (λ x. UnlessMemory x (Q x)) (sym is) (go w h f)
  where
    go : (x : Unfinished) → UnlessMemory {E = E} (Err x) P → (P → Q (Err x)) → UnlessMemory {E = F} (Err x) (Q (Err x))
    go (Waits on g) p k = k p
    go (NeedsAtoms q) p k = k p
    go (Worn q) p k = k p
    go Memory p k = tt

pub exit_err : {F : Type 0} (r : Result F Unfinished) (w : Unfinished) → r ≡ Err w → (Q : Unfinished → Type 0) → Q w → IfErr r Q
exit_err r w is Q h = subst (λ x. IfErr x Q) (sym is) h

-- What holds whether memory ran out or not.
pub unless_memory : {E : Type 0} (r : Result E Unfinished) {P : Type 0} → P → UnlessMemory r P
unless_memory (Ok x) h = h
unless_memory (Err (Waits on g)) h = h
unless_memory (Err (NeedsAtoms p)) h = h
unless_memory (Err (Worn w)) h = h
unless_memory (Err Memory) h = tt

pub unless_on : {E : Type 0} (r : Result E Unfinished) {P Q : Type 0} → (P → Q) → UnlessMemory r P → UnlessMemory r Q
unless_on (Ok x) f h = f h
unless_on (Err (Waits on g)) f h = f h
unless_on (Err (NeedsAtoms p)) f h = f h
unless_on (Err (Worn w)) f h = f h
unless_on (Err Memory) f h = tt
