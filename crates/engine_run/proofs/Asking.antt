-- A turn in which a script is asked for its next item.
use Rattle.std.proofs.Common.{◌≡◌, ℕ, List, [], ◌++◌, Bool, true, false, Option, None, Some, Ok, Err, IsSome, refl, sym, ap, ap₂, subst, ◌∙◌, append-nil}
use Rattle.std.specs.Prelude.{encode_utf8_all}
use Rattle.std.specs.List.{All}
use Rattle.std.proofs.lemmas.List.Elements.{All-tail}
use Rattle.pl_term.specs.Tree.{Chars, Tree}
use Rattle.pl_model.specs.Resolution.{Ending, Output, State}
use Rattle.run_model.specs.Execution.{Script, Job, Consulted, Execution, texts_of}
use Rattle.run_model.specs.Lawful.{EndsSo}
use Rattle.atom_words.specs.declared.view.Cause.{Cause}
use Rattle.atom_words.specs.declared.view.Pass.{Pass}
use Rattle.atom_words.specs.declared.view.WornWord.{WornWord}
use Rattle.atom_api.specs.Names.{FixedStand, Names}
use Rattle.term_store.specs.NumberedNames.{atoms_in, names_of, neck, term_by}
use Rattle.pl_model.specs.declared.ends.How.{How}
use Rattle.script_api.specs.declared.script.Next.{Next}
use Rattle.script_api.specs.declared.script.Next.TheVariants as next
use Rattle.world_api.specs.Texts.{text_of}
use Rattle.world_api.specs.Told.{Told}
use Rattle.script_api.specs.Parts.{Part, of_goal, of_directive, limits_of, with_search}
use Rattle.script_api.specs.Comes.{ComesBy}
use Rattle.script_api.specs.Scripts.{Given, IsAtHand, LeavesOff, StandsBefore, is_directive, some_fault, texts_at, written_at}
use Rattle.iso_search.specs.Reading.{IsView}
use Rattle.iso_engine.specs.Standing.{state_now}
use Rattle.iso_engine.specs.Standing as engines
use Rattle.iso_engine.specs.Views.{view_of}
use Rattle.engine_run.specs.declared.runner.Lines.{Lines}
use Rattle.engine_run.specs.declared.runner.Runner.{Runner}
use Rattle.engine_run.specs.declared.runner.Stage.TheVariants.{Asks, Over}
use Rattle.engine_run.specs.declared.runner.Turn.TheVariants.{Goes, Ended}
use Rattle.engine_run.specs.declared.unfinished.Unfinished.TheVariants.{NeedsAtoms, Worn}
use Rattle.engine_run.specs.Items.{IsDirectiveAsked}
use Rattle.engine_run.specs.Ran.{HasAims, HasBudgets}
use Rattle.engine_run.specs.Runners.{AnswerStands, CameTo, HasAsked, HasBegun, IsBetween, OutIs, StageIs, StageStands, StandsFor, Turned, is_over, put_by, stage_at, wanted_in}
use Rattle.engine_run.proofs.Outputs.{put-none}
use Rattle.engine_run.proofs.Searching.{limits_same, start_same}
use Rattle.engine_run.proofs.Turning.{bytes_of, front_of, back_of, goal_wanted, left_by, none_given, one_wanted, text_of_lines}

-- The item at hand is the one that was given.
pub item_at_hand : (o : Option Part) (goal : Tree) (d : Bool) → (let item : Next Tree = next.Item goal d in IsAtHand item o) → (p : Part) × (o ≡ Some p) × (is_directive p ≡ d)
item_at_hand None goal d h = absurd h
item_at_hand (Some p) goal d h = (p, refl, h)

-- Nothing was written where a search begins.
written_begin : (x : Execution) (p : Part) (s : State) (cs : List Consulted) → s.output ≡ [] → x.consulted ≡ cs → written_at (with_search x p s) ≡ cs
written_begin x of_goal s cs none lines = ap (λ ds. ds ++ []) lines ∙ append-nil cs
written_begin x (of_directive place rest) s cs none lines =
    ap (λ ds. ds ++ texts_of s.output) lines ∙ ap (λ os. cs ++ texts_of os) none ∙ append-nil cs

out_begin : (l : Lines) (names : List (Chars × ℕ)) (p : Part) (bytes : List ℕ) → bytes ≡ [] → OutIs l names p [] bytes
out_begin l names of_goal bytes none = none ∙ sym (ap encode_utf8_all (put-none l names []))
out_begin l names (of_directive place rest) bytes none = none

module _ {S : Type 0} (execution : (ℕ → Chars) → S → Job → List Consulted → Execution) (part : S → Option Part) (plays : (ℕ → Chars) → S → Script → Type 0) (kept : S → Bool)
    (name : S → Chars) (variables : S → List (Chars × ℕ))
    (lines : (text : ℕ → Chars) (s : S) (job : Job) (cs : List Consulted) → (execution text s job cs).consulted ≡ cs)
    (reported : (text : ℕ → Chars) (s : S) (job : Job) (cs : List Consulted) → texts_at (execution text s job cs).activity ≡ [])
    (m n : Names) (t u : Told) where
  written_same : (text : ℕ → Chars) (s : S) (job : Job) (cs : List Consulted) → written_at (execution text s job cs) ≡ cs
  written_same text s job cs = ap₂ ◌++◌ (lines text s job cs) (reported text s job cs) ∙ append-nil cs

  module _ (old new : Runner S) (given_how how : Option (How Tree)) (same : given_how ≡ how) (named : name new.script ≡ name old.script) where
    abbrev GivenSo : Next Tree → Type 0
    GivenSo item =
        Given execution part term_by plays kept (name old.script) (text_of m) (text_of n) old.script given_how t old.moves old.text.items item new.script u new.moves new.text.items

    abbrev AskedSo : Turned → Type 0
    AskedSo r = HasAsked execution part plays kept name variables m t old how n u new r

    before_same : (job : Job) (searched : Option State) (cs : List Consulted) (x : Execution)
        → StandsBefore execution part term_by (text_of m) old.script job (part old.script) how searched cs x
        → StandsBefore execution part term_by (text_of m) old.script job (part old.script) given_how searched cs x
    before_same job searched cs x b =
        subst (λ (h : Option (How Tree)). StandsBefore execution part term_by (text_of m) old.script job (part old.script) h searched cs x) (sym same) b

    lines_now : (ds : List Consulted) → new.text.items ≡ bytes_of (name old.script) ds → new.text.items ≡ bytes_of (name new.script) ds
    lines_now ds w = w ∙ ap (λ (c : Chars). bytes_of c ds) (sym named)

    -- No item was given, and the script stays where it is.
    module _ (is : new ≡ record old { script = new.script; text = new.text; moves = new.moves; stage = Asks }) where
      stays_so : (job : Job) (ds : List Consulted) (x y : Execution) (r : Turned)
          → HasBudgets old.budgets job.limits
          → HasAims old.wanted old.stays job.limits
          → old.output.items ≡ []
          → ComesBy job x t old.moves y u new.moves
          → y ≡ execution (text_of n) new.script job ds
          → plays (text_of n) new.script job.script
          → new.text.items ≡ bytes_of (name old.script) ds
          → some_fault ds ≡ kept new.script
          → AnswerStands n u job r y
          → CameTo execution part plays kept name variables job x t old n u new r
      stays_so job ds x y r has wants none comes at pl w faults answer =
          record {
            there = y;
            comes = comes;
            stands =
                subst (λ (z : Runner S). StandsFor execution part plays kept name variables n u z job y) (sym is)
                (record {
                  budgets = has;
                  wants = wants;
                  playing = pl;
                  consulted = ds;
                  stands = (at, none);
                  text =
                      text_of_lines (name new.script) (kept new.script) y ds new.text.items (ap written_at at ∙ written_same (text_of n) new.script job ds)
                      (lines_now ds w) faults;
                });
            answer = answer;
          }

      pub needs_atoms : (p : Pass) → GivenSo (next.NeedsAtoms p) → AskedSo (Err (NeedsAtoms p))
      needs_atoms p given job cs searched x has wants pl b none w =
          let g = given job cs searched x pl (before_same job searched cs x b) w.0 w.1
          in stays_so job g.0 x g.1 (Err (NeedsAtoms p)) has wants none g.2 g.3.1 g.4 g.5 g.6 tt

      pub is_worn : (p : WornWord) → GivenSo (next.Worn p) → AskedSo (Err (Worn p))
      is_worn p given job cs searched x has wants pl b none w =
          let g = given job cs searched x pl (before_same job searched cs x b) w.0 w.1
          in stays_so job g.0 x g.1 (Err (Worn p)) has wants none g.2 g.3.1 g.4 g.5 g.6 tt

      pub is_again : (p : Cause) → GivenSo (next.Retry p) → AskedSo (Ok Goes)
      is_again p given job cs searched x has wants pl b none w =
          let g = given job cs searched x pl (before_same job searched cs x b) w.0 w.1
          in stays_so job g.0 x g.1 (Ok Goes) has wants none g.2 g.3.1 g.4 g.5 g.6 tt

    -- There is no further item.
    pub is_done : (h : Option ℕ) (end : How Tree)
        → new ≡ record old { script = new.script; text = new.text; moves = new.moves; stage = Over }
        → IsDirectiveAsked (part old.script) how
        → ((ending : Ending) (os : List Output) → LeavesOff h None None ending os → EndsSo ending end)
        → GivenSo (next.Done h)
        → AskedSo (Ok (Ended end))
    is_done h end is asked so given job cs searched x has wants pl b none w =
        let g = given job cs searched x pl (before_same job searched cs x b) w.0 w.1
        in let left = left_by h (part old.script) how searched g.3.0 g.3.1 asked g.3.2
        in let written : written_at g.1 ≡ g.0 = ap written_at g.3.3 ∙ ap (λ l. l ++ []) (lines (text_of n) new.script job g.0) ∙ append-nil g.0
        in record {
          there = g.1;
          comes = g.2;
          stands =
              subst (λ (z : Runner S). StandsFor execution part plays kept name variables n u z job g.1) (sym is)
              (record {
                budgets = has;
                wants = wants;
                playing = g.4;
                consulted = g.0;
                stands =
                    record {
                      ending = g.3.0;
                      written = g.3.1;
                      out_is =
                          none
                          ∙ sym (ap encode_utf8_all
                          (ap (put_by old.lines (variables new.script) []) (none_given h g.3.0 g.3.1 left) ∙ put-none old.lines (variables new.script) []));
                      is = g.3.3;
                    };
                text = text_of_lines (name new.script) (kept new.script) g.1 g.0 new.text.items written (lines_now g.0 g.5) g.6;
              });
          answer = (g.3.0, so g.3.0 g.3.1 left, ap (λ (e : Execution). e.activity) g.3.3);
        }

  -- An item was given, and its search has begun.
  module _ (old mid new : Runner S) (given_how how : Option (How Tree)) (same : given_how ≡ how) (named : name mid.script ≡ name old.script)
      (is : mid ≡ record old { script = mid.script; text = mid.text; moves = mid.moves })
      (goal : Tree) (d : Bool) (begun : HasBegun goal d mid new) (stand : FixedStand n) (view : IsView (view_of n u)) where
    wants_here : (e : Bool) (job : Job) (p : Part) → job.limits.solutions ≡ mid.wanted → is_directive p ≡ e → (limits_of job p).solutions ≡ wanted_in mid e
    wants_here true job p wants at = one_wanted job p at
    wants_here false job p wants at = goal_wanted job p at ∙ wants

    stands_here : (e : Bool) (job : Job) (ds : List Consulted) (p : Part) (y : Execution)
        → part mid.script ≡ Some p
        → limits_of job p ≡ engines.limits_of begun.engine
        → mid.output.items ≡ []
        → y ≡ with_search (execution (text_of n) mid.script job ds) p (state_now (view_of n u) begun.engine [])
        → StageStands execution part n u mid.script job ds mid.lines (variables mid.script) mid.output.items (stage_at begun.engine e) y
    stands_here true job ds p y at limits none there =
        record {
          item = p;
          written = [];
          at_hand = at;
          given = sym begun.fresh.gave;
          limits = limits;
          out_is = out_begin mid.lines (variables mid.script) p mid.output.items none;
          is = there;
        }
    stands_here false job ds p y at limits none there =
        record {
          item = p;
          written = [];
          at_hand = at;
          given = sym begun.fresh.gave;
          limits = limits;
          out_is = out_begin mid.lines (variables mid.script) p mid.output.items none;
          is = there;
        }

    pub is_item : Given execution part term_by plays kept (name old.script) (text_of m) (text_of n) old.script given_how t old.moves old.text.items (next.Item goal d) mid.script u mid.moves mid.text.items
        → HasAsked execution part plays kept name variables m t old how n u new (Ok Goes)
    is_item given job cs searched x has wants pl b none w =
        let g = given job cs searched x pl
        (subst (λ (h : Option (How Tree)). StandsBefore execution part term_by (text_of m) old.script job (part old.script) h searched cs x) (sym same) b) w.0 w.1
        in let ds : List Consulted = g.0
        in let p : Part = g.3.0
        in let has_mid : HasBudgets mid.budgets job.limits = subst (λ (r : Runner S). HasBudgets r.budgets job.limits) (sym is) has
        in let wants_mid : HasAims mid.wanted mid.stays job.limits = subst (λ (r : Runner S). HasAims r.wanted r.stays job.limits) (sym is) wants
        in let none_mid : mid.output.items ≡ [] = subst (λ (r : Runner S). r.output.items ≡ []) (sym is) none
        in let limits : limits_of job p ≡ engines.limits_of begun.engine =
        limits_same mid.budgets (wanted_in mid d) mid.stays begun.engine begun.fresh job p has_mid (wants_here d job p wants_mid.solutions g.3.2) wants_mid.stays_so
        in let there : g.1 ≡ with_search (execution (text_of n) mid.script job ds) p (state_now (view_of n u) begun.engine []) =
        g.3.3
        ∙ ap (with_search (execution (text_of n) mid.script job ds) p)
        (sym (start_same mid.budgets (wanted_in mid d) mid.stays begun.engine begun.fresh n u goal stand begun.numbered view begun.starts job p limits))
        in let written : written_at g.1 ≡ ds =
        ap written_at there
        ∙ written_begin (execution (text_of n) mid.script job ds) p (state_now (view_of n u) begun.engine []) ds refl (lines (text_of n) mid.script job ds)
        in subst (λ (z : Runner S). CameTo execution part plays kept name variables job x t old n u z (Ok Goes)) (sym begun.is)
        (record {
          there = g.1;
          comes = g.2;
          stands =
              record {
                budgets = has_mid;
                wants = wants_mid;
                playing = g.4;
                consulted = ds;
                stands = stands_here d job ds p g.1 g.3.1 limits none_mid there;
                text =
                    text_of_lines (name mid.script) (kept mid.script) g.1 ds mid.text.items written (g.5 ∙ ap (λ (c : Chars). bytes_of c ds) (sym named)) g.6;
              };
          answer = tt;
        })

  -- Between two turns after it.
  module _ (done : S → Bool) (names : S → List ℕ) (mid new : Runner S) (goal : Tree) (d : Bool) (begun : HasBegun goal d mid new) (view : IsView (view_of n u)) where
    stage_here : (e : Bool) (p : Part) → part mid.script ≡ Some p → is_directive p ≡ e → All (λ a. IsSome (n a)) (atoms_in goal) → StageIs part n u mid.script (stage_at begun.engine e)
    stage_here true p at is held =
        record { ready = begun.ready n u view held; works = begun.fresh.works; item = p; at_hand = at; is = is }
    stage_here false p at is held =
        record { ready = begun.ready n u view held; works = begun.fresh.works; item = p; at_hand = at; is = is }

    open_here : (e : Bool) → done mid.script ≡ false → done mid.script ≡ is_over (stage_at begun.engine e)
    open_here true is = is
    open_here false is = is

    pub item_between : (let item : Next Tree = next.Item goal d in IsAtHand item (part mid.script)) → done mid.script ≡ false
        → All (λ a. IsSome (n a)) (names mid.script ++ names_of goal)
        → IsBetween part done names n u new
    item_between at_hand going held =
        let p = item_at_hand (part mid.script) goal d at_hand
        in let own : All (λ (a : ℕ). IsSome (n a)) (names_of goal) = back_of (λ (a : ℕ). IsSome (n a)) (names mid.script) (names_of goal) held
        in subst (λ (z : Runner S). IsBetween part done names n u z) (sym begun.is)
        (record {
          stage = stage_here d p.0 p.1 p.2 (All-tail (λ (a : ℕ). IsSome (n a)) neck (atoms_in goal) own);
          held = front_of (λ (a : ℕ). IsSome (n a)) (names mid.script) (names_of goal) held;
          done_is = open_here d going;
        })
