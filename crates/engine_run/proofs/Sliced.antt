-- What the small clauses say of a turn in which a slice was run.
use Rattle.std.proofs.Common.{◌≡◌, ℕ, List, Option, true, false, Result, Ok, Err, refl, sym, ap, subst, ◌∙◌}
use Rattle.std.specs.Prelude.{IfErr, IfOk}
use Rattle.pl_term.specs.Tree.{Chars}
use Rattle.run_model.specs.Report.{texts}
use Rattle.atom_words.specs.declared.view.Refusal.{Refusal}
use Rattle.atom_api.specs.Names.{Names}
use Rattle.world_api.specs.Told.{Told}
use Rattle.iso_engine.specs.declared.engine.Engine.{Engine}
use Rattle.iso_engine.specs.Ready.{IsReady}
use Rattle.engine_run.specs.declared.runner.Runner.{Runner}
use Rattle.engine_run.specs.declared.runner.Stage.{Stage}
use Rattle.engine_run.specs.declared.runner.Stage.TheVariants.{Directs, Searches}
use Rattle.engine_run.specs.declared.runner.Turn.TheVariants.{Goes, Ended}
use Rattle.engine_run.specs.declared.unfinished.Unfinished.{Unfinished}
use Rattle.engine_run.specs.declared.unfinished.Unfinished.TheVariants.{Waits, NeedsAtoms, Worn, Memory}
use Rattle.engine_run.specs.Endings.{IsEndOfTurn}
use Rattle.engine_run.specs.Ran.{IsNameHeld}
use Rattle.engine_run.specs.Runners.{HasDirected, HasSearched, IsStillSearching, Turned, ends_by, goes_by, is_over, is_search, put_by}
use Rattle.engine_run.specs.Searched.{IsRefusedOnce, IsSearched, Stands, UnlessMemory, last_refusals}
use Rattle.engine_run.proofs.Carrying.{name_held}
use Rattle.engine_run.proofs.Exits.{unless_on}

abbrev Sliced : Type 0
Sliced = Result (Unit {0}) Unfinished

-- What holds where memory did not run out in the slice holds so of the turn.
goes_unless : (s : Sliced) (P : Type 0) → UnlessMemory s P → UnlessMemory (goes_by s) P
goes_unless (Ok x) P h = h
goes_unless (Err (Waits on g)) P h = h
goes_unless (Err (NeedsAtoms p)) P h = h
goes_unless (Err (Worn w)) P h = h
goes_unless (Err Memory) P h = tt

goes_stands : (n : Names) (u : Told) (f : Engine) (s : Sliced) → Stands n u f s → Stands n u f (goes_by s)
goes_stands n u f (Ok x) h = tt
goes_stands n u f (Err w) h = h

goes_twice : (s : Sliced) → goes_by s ≡ goes_by (goes_by s)
goes_twice (Ok x) = refl
goes_twice (Err w) = refl

pub goes_again : (s : Sliced) (r : Turned) → r ≡ goes_by s → r ≡ goes_by r
goes_again s r is = is ∙ goes_twice s ∙ ap goes_by (sym is)

last_same : (s : Sliced) → last_refusals (goes_by s) ≡ last_refusals s
last_same (Ok x) = refl
last_same (Err w) = refl

pub refused_so : (xs ys : List Refusal) (s : Sliced) (r : Turned) → r ≡ goes_by s → UnlessMemory s (IsRefusedOnce xs ys (last_refusals s))
    → UnlessMemory r (IsRefusedOnce xs ys (last_refusals r))
refused_so xs ys s r is h =
    subst (λ (q : Turned). UnlessMemory q (IsRefusedOnce xs ys (last_refusals q))) (sym is)
    (subst (λ (l : List Refusal). UnlessMemory (goes_by s) (IsRefusedOnce xs ys l)) (sym (last_same s)) (goes_unless s (IsRefusedOnce xs ys (last_refusals s)) h))

both : (s : Sliced) (P Q : Type 0) → UnlessMemory s P → UnlessMemory s Q → UnlessMemory s (P × Q)
both (Ok x) P Q h k = (h, k)
both (Err (Waits on g)) P Q h k = (h, k)
both (Err (NeedsAtoms p)) P Q h k = (h, k)
both (Err (Worn w)) P Q h k = (h, k)
both (Err Memory) P Q h k = tt

module _ {S : Type 0} (m n : Names) (t u : Told) (old new : Runner S) (e f : Engine) (s : Sliced) (r : Turned) (goes : r ≡ goes_by s)
    (sound : UnlessMemory s (f.out_of_memory ≡ false)) (ready : f.out_of_memory ≡ false → IsReady n u f) where
  pub directed_by : new ≡ record old { stage = Directs f; text = new.text; moves = new.moves }
      → UnlessMemory s (IsSearched texts m t e old.moves n u f new.moves old.text.items new.text.items s)
      → UnlessMemory r (HasDirected m t old e n u new r)
  directed_by is searched =
      subst (λ (q : Turned). UnlessMemory q (HasDirected m t old e n u new q)) (sym goes)
      (goes_unless s (HasDirected m t old e n u new (goes_by s))
      (unless_on s
      (λ (h : IsSearched texts m t e old.moves n u f new.moves old.text.items new.text.items s × (f.out_of_memory ≡ false)).
      record {
        engine = f;
        searched = record { counted = h.0.counted; stands = goes_stands n u f s h.0.stands };
        ready = ready h.1;
        works = h.1;
        is = is;
      })
      (both s (IsSearched texts m t e old.moves n u f new.moves old.text.items new.text.items s) (f.out_of_memory ≡ false) searched sound)))

  pub searched_by : (variables : S → List (Chars × ℕ)) → new ≡ record old { stage = Searches f; output = new.output; moves = new.moves }
      → UnlessMemory s (IsSearched (put_by old.lines (variables old.script)) m t e old.moves n u f new.moves old.output.items new.output.items s)
      → UnlessMemory r (HasSearched variables m t old e n u new r)
  searched_by variables is searched =
      subst (λ (q : Turned). UnlessMemory q (HasSearched variables m t old e n u new q)) (sym goes)
      (goes_unless s (HasSearched variables m t old e n u new (goes_by s))
      (unless_on s
      (λ (h : IsSearched (put_by old.lines (variables old.script)) m t e old.moves n u f new.moves old.output.items new.output.items s × (f.out_of_memory ≡ false)).
      record {
        engine = f;
        searched = record { counted = h.0.counted; stands = goes_stands n u f s h.0.stands };
        ready = ready h.1;
        works = h.1;
        is = is;
      })
      (both s (IsSearched (put_by old.lines (variables old.script)) m t e old.moves n u f new.moves old.output.items new.output.items s) (f.out_of_memory ≡ false) searched sound)))

-- The small clauses

pub goes_open : (r : Turned) (g : Stage) → r ≡ goes_by r → is_over g ≡ false → is_over g ≡ ends_by r
goes_open (Ok Goes) g is yet = yet
goes_open (Ok (Ended how)) g is yet = absurd (cc)
goes_open (Err w) g is yet = yet

pub goes_told : (r : Turned) → r ≡ goes_by r → IfOk r IsEndOfTurn
goes_told (Ok Goes) is = tt
goes_told (Ok (Ended how)) is = absurd (cc)
goes_told (Err w) is = tt

still_by : (r : Turned) (g : Stage) {P : Type 0} → (P → is_search g ≡ true) → UnlessMemory r P → IfErr r (IsStillSearching g)
still_by (Ok x) g f h = tt
still_by (Err (Waits on k)) g f h = f h
still_by (Err (NeedsAtoms p)) g f h = tt
still_by (Err (Worn w)) g f h = tt
still_by (Err Memory) g f h = tt

names_by : (n : Names) (u : Told) (r : Turned) {P : Type 0} → (P → (f : Engine) × Stands n u f r) → UnlessMemory r P → IfErr r (IsNameHeld n)
names_by n u (Ok x) f h = tt
names_by n u (Err (Waits on k)) f h = let p = f h in name_held n u p.0 (Waits on k) p.1
names_by n u (Err (NeedsAtoms p)) f h = tt
names_by n u (Err (Worn w)) f h = tt
names_by n u (Err Memory) f h = tt

module _ {S : Type 0} (m n : Names) (t u : Told) (old new : Runner S) (e : Engine) (r : Turned) where
  pub directed_still : UnlessMemory r (HasDirected m t old e n u new r) → IfErr r (IsStillSearching new.stage)
  directed_still h = still_by r new.stage (λ (d : HasDirected m t old e n u new r). ap (λ (z : Runner S). is_search z.stage) d.is) h

  pub directed_names : UnlessMemory r (HasDirected m t old e n u new r) → IfErr r (IsNameHeld n)
  directed_names h = names_by n u r (λ (d : HasDirected m t old e n u new r). (d.engine, d.searched.stands)) h

  pub directed_over : r ≡ goes_by r → UnlessMemory r (HasDirected m t old e n u new r) → UnlessMemory r (is_over new.stage ≡ ends_by r)
  directed_over goes h =
      unless_on r (λ (d : HasDirected m t old e n u new r). goes_open r new.stage goes (ap (λ (z : Runner S). is_over z.stage) d.is)) h

  pub directed_lines : UnlessMemory r (HasDirected m t old e n u new r) → UnlessMemory r (new.lines ≡ old.lines)
  directed_lines h = unless_on r (λ (d : HasDirected m t old e n u new r). ap (λ (z : Runner S). z.lines) d.is) h

  pub directed_word : (word : S → Option (ℕ × ℕ)) → UnlessMemory r (HasDirected m t old e n u new r) → UnlessMemory r (word new.script ≡ word old.script)
  directed_word word h = unless_on r (λ (d : HasDirected m t old e n u new r). ap (λ (z : Runner S). word z.script) d.is) h

  pub directed_named : (name : S → Chars) → UnlessMemory r (HasDirected m t old e n u new r) → UnlessMemory r (name new.script ≡ name old.script)
  directed_named name h = unless_on r (λ (d : HasDirected m t old e n u new r). ap (λ (z : Runner S). name z.script) d.is) h

  module _ (variables : S → List (Chars × ℕ)) where
    pub searched_still : UnlessMemory r (HasSearched variables m t old e n u new r) → IfErr r (IsStillSearching new.stage)
    searched_still h = still_by r new.stage (λ (d : HasSearched variables m t old e n u new r). ap (λ (z : Runner S). is_search z.stage) d.is) h

    pub searched_names : UnlessMemory r (HasSearched variables m t old e n u new r) → IfErr r (IsNameHeld n)
    searched_names h = names_by n u r (λ (d : HasSearched variables m t old e n u new r). (d.engine, d.searched.stands)) h

    pub searched_over : r ≡ goes_by r → UnlessMemory r (HasSearched variables m t old e n u new r) → UnlessMemory r (is_over new.stage ≡ ends_by r)
    searched_over goes h =
        unless_on r (λ (d : HasSearched variables m t old e n u new r). goes_open r new.stage goes (ap (λ (z : Runner S). is_over z.stage) d.is)) h

    pub searched_lines : UnlessMemory r (HasSearched variables m t old e n u new r) → UnlessMemory r (new.lines ≡ old.lines)
    searched_lines h = unless_on r (λ (d : HasSearched variables m t old e n u new r). ap (λ (z : Runner S). z.lines) d.is) h

    pub searched_word : (word : S → Option (ℕ × ℕ)) → UnlessMemory r (HasSearched variables m t old e n u new r) → UnlessMemory r (word new.script ≡ word old.script)
    searched_word word h = unless_on r (λ (d : HasSearched variables m t old e n u new r). ap (λ (z : Runner S). word z.script) d.is) h

    pub searched_named : (name : S → Chars) → UnlessMemory r (HasSearched variables m t old e n u new r) → UnlessMemory r (name new.script ≡ name old.script)
    searched_named name h = unless_on r (λ (d : HasSearched variables m t old e n u new r). ap (λ (z : Runner S). name z.script) d.is) h
