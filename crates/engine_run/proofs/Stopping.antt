-- What a slice says of the search that it is a part of.
use Rattle.std.proofs.Common.{◌≡◌, ◌+◌, ◌++◌, ℕ, List, [], ◌∷◌, map, Result, sym, subst}
use Rattle.pl_term.specs.Tree.{Chars}
use Rattle.pl_model.specs.Resolution.{Output}
use Rattle.run_model.specs.Report.{texts}
use Rattle.atom_words.specs.declared.view.Cause.{Cause}
use Rattle.atom_words.specs.declared.view.Refusal.{Refusal}
use Rattle.atom_words.specs.declared.view.Refusal.TheVariants.{Again as RefusalAgain}
use Rattle.atom_api.specs.Names.{Names}
use Rattle.world_api.specs.Told.{Told}
use Rattle.iso_engine.specs.declared.engine.Engine.{Engine}
use Rattle.iso_engine.specs.declared.slices.Slice.{Slice}
use Rattle.iso_engine.specs.declared.slices.Slice.TheVariants as slices
use Rattle.iso_engine.specs.Unserved.{IsRefusedBy}
use Rattle.iso_engine.specs.Slices.{IsSlice, IsSliced}
use Rattle.engine_run.specs.declared.unfinished.Unfinished.{Unfinished}
use Rattle.engine_run.specs.Searched.{HasCounted, HasRun, IsRefusedOnce, IsSearched, UnlessMemory, last_refusals, stopped_by}
use Rattle.engine_run.specs.declared.runner.Lines.{Lines}
use Rattle.engine_run.specs.Runners.{put_by}
use Rattle.engine_run.proofs.Outputs.{bytes-texts}

module _ (put : Chars → List Output → Chars) (limit before after : ℕ) (m n : Names) (t u : Told) (e f : Engine) (a b c : List ℕ) where
  came : (s : Slice) → ((k : ℕ) → IsSlice limit k m t e n u f a b s → HasRun put k m t e n u f a c)
      → (k : ℕ) → k + before ≡ after → IsSlice limit k m t e n u f a b s → HasCounted put m t e before n u f after a c
  came s ran k count h = record { steps = k; ran = ran k h; counted = count }

  by_slice : (s : Slice) → IsSliced limit m t e n u f a b before after s → ((k : ℕ) → IsSlice limit k m t e n u f a b s → HasRun put k m t e n u f a c)
      → UnlessMemory (stopped_by s) (IsSearched put m t e before n u f after a c (stopped_by s))
  by_slice slices.Yield h ran = record { counted = came slices.Yield ran h.0 h.1 h.2; stands = tt }
  by_slice (slices.Solution ops) h ran = record { counted = came (slices.Solution ops) ran h.0 h.1 h.2; stands = tt }
  by_slice (slices.Retry q) h ran = record { counted = came (slices.Retry q) ran h.0 h.1 h.2; stands = tt }
  by_slice slices.Ended h ran = record { counted = came slices.Ended ran h.0 h.1 h.2; stands = tt }
  by_slice (slices.Waits on g) h ran = record { counted = came (slices.Waits on g) ran h.0 h.1 h.2; stands = h.2.ends.0 }
  by_slice (slices.NeedsAtoms p) h ran = record { counted = came (slices.NeedsAtoms p) ran h.0 h.1 h.2; stands = tt }
  by_slice (slices.Worn w) h ran = record { counted = came (slices.Worn w) ran h.0 h.1 h.2; stands = tt }
  by_slice slices.Memory h ran = tt

  -- After a slice and what is put after its texts.
  pub searched : (s : Slice) (r : Result (Unit {0}) Unfinished) → r ≡ stopped_by s → IsSliced limit m t e n u f a b before after s
      → ((k : ℕ) → IsSlice limit k m t e n u f a b s → HasRun put k m t e n u f a c) → UnlessMemory r (IsSearched put m t e before n u f after a c r)
  searched s r is h ran = subst (λ k. UnlessMemory k (IsSearched put m t e before n u f after a c k)) (sym is) (by_slice s h ran)

pub searched_texts : (limit before after : ℕ) (m n : Names) (t u : Told) (e f : Engine) (a b : List ℕ) (s : Slice) (r : Result (Unit {0}) Unfinished)
    → r ≡ stopped_by s → IsSliced limit m t e n u f a b before after s → UnlessMemory r (IsSearched texts m t e before n u f after a b r)
searched_texts limit before after m n t u e f a b s r is h =
    searched texts limit before after m n t u e f a b b s r is h
    (λ k x. record { written = x.written; advances = x.advances; out = bytes-texts a b x.written x.out })

-- By the lines that are written of the goal.
pub put_as : (l k : Lines) (names : List (Chars × ℕ)) (before after : ℕ) (m n : Names) (t u : Told) (e f : Engine) (a b : List ℕ) (r : Result (Unit {0}) Unfinished) → l ≡ k
    → UnlessMemory r (IsSearched (put_by k names) m t e before n u f after a b r)
    → UnlessMemory r (IsSearched (put_by l names) m t e before n u f after a b r)
put_as l k names before after m n t u e f a b r is h =
    subst (λ (x : Lines). UnlessMemory r (IsSearched (put_by x names) m t e before n u f after a b r)) (sym is) h

module _ (xs ys : List Refusal) where
  once : (cs : List Cause) (last : List Refusal) → ys ≡ xs ++ (map RefusalAgain cs ++ last) → IsRefusedOnce xs ys last
  once cs last h = record { causes = cs; grown = h }

  once_by : (s : Slice) → IsRefusedBy s xs ys → UnlessMemory (stopped_by s) (IsRefusedOnce xs ys (last_refusals (stopped_by s)))
  once_by slices.Yield h = once [] [] h
  once_by (slices.Solution ops) h = once [] [] h
  once_by (slices.Retry c) h = once (c ∷ []) [] h
  once_by slices.Ended h = once [] [] h
  once_by (slices.Waits on g) h = once [] [] h
  once_by (slices.NeedsAtoms p) h = once [] (last_refusals (stopped_by (slices.NeedsAtoms p))) h
  once_by (slices.Worn w) h = once [] (last_refusals (stopped_by (slices.Worn w))) h
  once_by slices.Memory h = tt

  pub refused_once : (s : Slice) (r : Result (Unit {0}) Unfinished) → r ≡ stopped_by s → IsRefusedBy s xs ys → UnlessMemory r (IsRefusedOnce xs ys (last_refusals r))
  refused_once s r is h = subst (λ k. UnlessMemory k (IsRefusedOnce xs ys (last_refusals k))) (sym is) (once_by s h)
