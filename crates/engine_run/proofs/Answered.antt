-- A slice with the line of its solution.
use Rattle.std.proofs.Common.{◌≡◌, ℕ, List, [], ◌∷◌, ◌++◌, map, Option, None, Some, refl, ap, ap₂, ◌∙◌}
use Rattle.std.specs.Arc.{arc_value}
use Rattle.pl_term.specs.Tree.{Chars, Tree, Trees, var, int, atom, comp, none, more}
use Rattle.pl_model.specs.Resolution.{solution, solution_count}
use Rattle.run_model.specs.Report.{with_output}
use Rattle.atom_api.specs.Names.{Names}
use Rattle.term_store.specs.declared.words.Place.{Place}
use Rattle.term_store.specs.Contents.{Contents, term_at}
use Rattle.world_api.specs.Told.{Told}
use Rattle.world_builtins.specs.Spelling.{or_no_text, reads, spelled, spelled_all, text_of}
use Rattle.iso_search.specs.Reading.{reads as reads_of}
use Rattle.iso_search.specs.Spelling.{or_no_text as or_none, spelled as spells, spelled_all as spells_all, text_of as texts_by}
use Rattle.iso_engine.specs.declared.engine.Engine.{Engine}
use Rattle.iso_engine.specs.declared.slices.Slice.{Slice}
use Rattle.iso_engine.specs.declared.slices.Slice.TheVariants.{Yield, Solution, Retry, Memory, NeedsAtoms, Worn, Waits, Ended}
use Rattle.iso_engine.specs.Views.{view_of}
use Rattle.iso_engine.specs.Slices.{IsSlice}
use Rattle.engine_run.specs.Answered.{IsPut}
use Rattle.engine_run.specs.Searched.{HasRun}
use Rattle.engine_run.proofs.Outputs.{bytes-answer, bytes-silent}

-- Terms are read in one way

or_same : (f : Chars) (o : Option Chars) → or_none f o ≡ or_no_text f o
or_same f None = refl
or_same f (Some t) = refl

text_same : (m : Names) (f : Chars) → texts_by m f ≡ text_of m f
text_same m [] = refl
text_same m (a ∷ []) = or_same (a ∷ []) (m a)
text_same m (a ∷ (b ∷ bs)) = refl

mutual
  pub spelled_same : (m : Names) (t : Tree) → spells (texts_by m) t ≡ spelled (text_of m) t
  spelled_same m (var x) = refl
  spelled_same m (int i) = refl
  spelled_same m (atom a) = ap atom (text_same m a)
  spelled_same m (comp f t ts) =
      ap (λ g. comp g (spells (texts_by m) t) (spells_all (texts_by m) ts)) (text_same m f)
      ∙ ap₂ (comp (text_of m f)) (spelled_same m t) (all_spelled_same m ts)

  all_spelled_same : (m : Names) (ts : Trees) → spells_all (texts_by m) ts ≡ spelled_all (text_of m) ts
  all_spelled_same m none = refl
  all_spelled_same m (more t ts) = ap₂ more (spelled_same m t) (all_spelled_same m ts)

answers_same : (m : Names) (t : Told) (s : Contents) (ws : List Place) → map (reads_of (view_of m t) s) ws ≡ map (reads m s) ws
answers_same m t s [] = refl
answers_same m t s (w ∷ ws) = ap₂ ◌∷◌ (spelled_same m (term_at s w)) (answers_same m t s ws)

module _ (names : List (Chars × ℕ)) (limit steps : ℕ) (m n : Names) (t u : Told) (e f : Engine) (a b c : List ℕ) where
  silent : (s : Slice) (h : IsSlice limit steps m t e n u f a b s) → solution_count h.written ≡ 0 → c ≡ b → HasRun (with_output names) steps m t e n u f a c
  silent s h zero_given same =
      record { written = h.written; advances = h.advances; out = bytes-silent names a b c h.written zero_given h.out same }

  -- What a slice wrote, and the line of its solution after it.
  pub ran_goal : (s : Slice) → IsSlice limit steps m t e n u f a b s → IsPut s names (map (reads n f.search.store) f.search.answer.items) b c
      → HasRun (with_output names) steps m t e n u f a c
  ran_goal Yield h put = silent Yield h h.ends.1 put
  ran_goal (Solution ops) h put =
      let ts = map (reads n f.search.store) f.search.answer.items in
      record {
        written = h.written;
        advances = h.advances;
        out =
            bytes-answer names a b c h.written h.ends.0 (arc_value ops) ts h.ends.1
            (h.ends.2 ∙ ap (λ l. h.ends.0 ++ solution (arc_value ops) l ∷ []) (answers_same n u f.search.store f.search.answer.items))
            h.out put;
      }
  ran_goal (Retry q) h put = silent (Retry q) h h.ends.1 put
  ran_goal Ended h put = silent Ended h h.ends.1 put
  ran_goal (Waits on g) h put = silent (Waits on g) h h.ends.1 put
  ran_goal (NeedsAtoms p) h put = silent (NeedsAtoms p) h h.ends.1 put
  ran_goal (Worn w) h put = silent (Worn w) h h.ends.1 put
  ran_goal Memory h put = absurd h.ends.0
