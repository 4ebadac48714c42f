-- A runner stands for the same execution where just the texts of the atoms that it names are held on.
use Rattle.std.specs.Prelude.{◌≡◌, ℕ, List, ◌++◌, Bool, true, false, Option, Some, None, IsSome, is_some}
use Rattle.std.proofs.Common.{refl, sym, ap, subst, ◌∙◌}
use Rattle.std.specs.List.{All, Contains}
use Rattle.std.proofs.lemmas.List.Elements.{All-contains, All-contains_itself, All-weaker, Contains-append_left, Contains-append_right}
use Rattle.pl_term.specs.Tree.{Chars}
use Rattle.pl_model.specs.Resolution.{Ending, Output}
use Rattle.run_model.specs.Execution.{Script, Job, Consulted, Execution, over}
use Rattle.atom_api.specs.Names.{Names}
use Rattle.world_api.specs.Texts.{or_no_text, text_of}
use Rattle.world_api.specs.Told.{Told}
use Rattle.script_api.specs.Parts.{Part, with_search}
use Rattle.script_api.specs.Residents.{IsKept}
use Rattle.iso_engine.specs.declared.engine.Engine.{Engine}
use Rattle.iso_engine.specs.Live.{engine_atoms}
use Rattle.iso_engine.specs.Kept as engines
use Rattle.iso_engine.specs.Ready.{IsReady}
use Rattle.iso_engine.specs.Standing.{state_now}
use Rattle.iso_engine.specs.Views.{view_of}
use Rattle.iso_engine.proofs.LiveKept.{stays_kept}
use Rattle.engine_run.specs.declared.runner.Lines.{Lines}
use Rattle.engine_run.specs.declared.runner.Runner.{Runner}
use Rattle.engine_run.specs.declared.runner.Stage.{Stage}
use Rattle.engine_run.specs.declared.runner.Stage.TheVariants.{Asks, Directs, Searches, Over}
use Rattle.engine_run.specs.Roots.{runner_atoms, stage_atoms}
use Rattle.engine_run.specs.Runners.{IsAtItem, IsBetween, OverStands, SearchStands, StageIs, StageStands, StandsFor}

-- What holds of each element of a list holds of all.
all_of : (P : ℕ → Type 0) (xs : List ℕ) → ((a : ℕ) → Contains xs a → P a) → All P xs
all_of P xs h = All-weaker (Contains xs) P h xs (All-contains_itself xs)

module _ (m n : Names) (xs : List ℕ) (k : IsKept m n xs) where
  -- The texts of a part of the atoms are the same.
  same_part : (ys : List ℕ) → ((a : ℕ) → Contains ys a → Contains xs a) → All (λ a. n a ≡ m a) ys
  same_part ys within = all_of (λ a. n a ≡ m a) ys (λ a c. k.same a (within a c))

  texts_part : (ys : List ℕ) → ((a : ℕ) → Contains ys a → Contains xs a) → All (λ a. text_of m a ≡ text_of n a) ys
  texts_part ys within = all_of (λ a. text_of m a ≡ text_of n a) ys (λ a c. ap (or_no_text a) (sym (k.same a (within a c))))

  held_part : (ys : List ℕ) → ((a : ℕ) → Contains ys a → Contains xs a) → All (λ a. IsSome (m a)) ys → All (λ a. IsSome (n a)) ys
  held_part ys within held =
      all_of (λ a. IsSome (n a)) ys
      (λ a c. subst (λ (o : Option Chars). IsSome o) (sym (k.same a (within a c))) (All-contains (λ b. IsSome (m b)) ys a held c))

  engine_kept : (t : Told) (e : Engine) → ((a : ℕ) → Contains (engine_atoms e) a → Contains xs a) → IsReady m t e → engines.IsKept m n t e
  engine_kept t e within ready =
      stays_kept e m n k.can.fixed k.can.unlike k.can.finite k.still.fixed k.fewer t ready (same_part (engine_atoms e) within)

module _ {S : Type 0} (execution : (ℕ → Chars) → S → Job → List Consulted → Execution) (part : S → Option Part) (m n : Names) (t : Told) (xs : List ℕ) (k : IsKept m n xs) where
  item_kept : (s : S) (d : Bool) (e : Engine) → ((a : ℕ) → Contains (engine_atoms e) a → Contains xs a) → IsAtItem part m t s d e → IsAtItem part n t s d e
  item_kept s d e within h =
      record { ready = (engine_kept m n xs k t e within h.ready).ready; works = h.works; item = h.item; at_hand = h.at_hand; is = h.is }

  stage_kept : (s : S) (g : Stage) → ((a : ℕ) → Contains (stage_atoms g) a → Contains xs a) → StageIs part m t s g → StageIs part n t s g
  stage_kept s Asks within h = h
  stage_kept s (Directs e) within h = item_kept s true e within h
  stage_kept s (Searches e) within h = item_kept s false e within h
  stage_kept s Over within h = tt

  module _ (s : S) (job : Job) (cs : List Consulted) (l : Lines) (names : List (Chars × ℕ)) (out : List ℕ) (x : Execution)
      (tell : execution (text_of m) s job cs ≡ execution (text_of n) s job cs) where
    search_kept : (e : Engine) → ((a : ℕ) → Contains (engine_atoms e) a → Contains xs a) → IsReady m t e
        → SearchStands execution part m t s job cs l names out e x
        → SearchStands execution part n t s job cs l names out e x
    search_kept e within ready h =
        record {
          item = h.item;
          written = h.written;
          at_hand = h.at_hand;
          given = h.given;
          limits = h.limits;
          out_is = h.out_is;
          is =
              h.is
              ∙ ap (λ (y : Execution). with_search y h.item (state_now (view_of m t) e h.written)) tell
              ∙ ap (with_search (execution (text_of n) s job cs) h.item) (sym ((engine_kept m n xs k t e within ready).stands h.written));
        }

    abbrev over_so : Ending → List Output → Execution → Execution
    over_so ending os y = record y { activity = over ending; output = os }

    over_kept : OverStands execution part m s job cs l names out x → OverStands execution part n s job cs l names out x
    over_kept h = record { ending = h.ending; written = h.written; out_is = h.out_is; is = h.is ∙ ap (over_so h.ending h.written) tell }

    stands_kept : (g : Stage) → ((a : ℕ) → Contains (stage_atoms g) a → Contains xs a) → StageIs part m t s g
        → StageStands execution part m t s job cs l names out g x
        → StageStands execution part n t s job cs l names out g x
    stands_kept Asks within r h = (h.0 ∙ tell, h.1)
    stands_kept (Directs e) within r h = search_kept e within r.ready h
    stands_kept (Searches e) within r h = search_kept e within r.ready h
    stands_kept Over within r h = over_kept h

module _ {S : Type 0} (execution : (ℕ → Chars) → S → Job → List Consulted → Execution) (part : S → Option Part) (done : S → Bool) (names : S → List ℕ)
    (plays : (ℕ → Chars) → S → Script → Type 0) (kept : S → Bool) (name : S → Chars) (variables : S → List (Chars × ℕ))
    (tells : (s : S) (text other : ℕ → Chars) → All (λ a. text a ≡ other a) (names s)
    → ((job : Job) (cs : List Consulted) → execution text s job cs ≡ execution other s job cs)
    × ((x : Script) → plays text s x → plays other s x)) where
  pub between_kept : (m n : Names) (t : Told) (r : Runner S) → IsKept m n (runner_atoms names r) → IsBetween part done names m t r
      → IsBetween part done names n t r
      × ((job : Job) (x : Execution)
      → StandsFor execution part plays kept name variables m t r job x
      → StandsFor execution part plays kept name variables n t r job x)
  between_kept m n t r k b =
      let xs = runner_atoms names r
      in let script_in : (a : ℕ) → Contains (names r.script) a → Contains xs a = λ a c. Contains-append_left (names r.script) (stage_atoms r.stage) a c
      in let stage_in : (a : ℕ) → Contains (stage_atoms r.stage) a → Contains xs a = λ a c. Contains-append_right (names r.script) (stage_atoms r.stage) a c
      in let tell = tells r.script (text_of m) (text_of n) (texts_part m n xs k (names r.script) script_in)
      in (
        record {
          stage = stage_kept execution part m n t xs k r.script r.stage stage_in b.stage;
          held = held_part m n xs k (names r.script) script_in b.held;
          done_is = b.done_is;
        },
        λ job x h.
            record {
              budgets = h.budgets;
              wants = h.wants;
              playing = tell.1 job.script h.playing;
              consulted = h.consulted;
              stands =
                  stands_kept execution part m n t xs k r.script job h.consulted r.lines (variables r.script) r.output.items x (tell.0 job h.consulted)
                  r.stage stage_in b.stage h.stands;
              text = h.text;
            },
      )
