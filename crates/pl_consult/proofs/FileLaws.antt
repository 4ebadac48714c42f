-- The way of an execution through the steps of the script.
use Rattle.std.proofs.Common.{◌≡◌, ◌+◌, ℕ, arith, List, map, Bool, true, false, refl, sym, ap, ◌∙◌, subst}
use Rattle.std.specs.Arc.{arc_value}
use Rattle.std.specs.declared.alloc.Global.{Global}
use Rattle.std.specs.declared.sync.Arc.{Arc}
use Rattle.pl_term.specs.Tree.{Chars, Tree}
use Rattle.pl_model.specs.declared.grammar.Quotes.{Quotes}
use Rattle.pl_model.specs.OperatorTable.{OperatorTable}
use Rattle.pl_model.specs.Requests.{look, standing}
use Rattle.run_model.specs.Execution.{Job, consults, words_in, Execution, reading, starting, Word, word_read, further_goals, words_taken, move, move_by, requests}
use Rattle.script_api.specs.declared.script.Next.{Next}
use Rattle.script_api.specs.declared.script.Next.TheVariants.{Item, Done, NeedsAtoms, Retry, Worn, Memory}
use Rattle.world_api.specs.Told.{Told}
use Rattle.script_api.specs.Comes.{ComesBy, ComesIn}
use Rattle.script_api.proofs.ComesLaws.{comes_same, comes_by_request, comes_then}
use Rattle.pl_consult.proofs.GrowLaws.{grows_none, grows_then}
use Rattle.pl_consult.specs.declared.consult.Consult.{Consult}
use Rattle.pl_consult.specs.declared.stage.Stage.{Stage}
use Rattle.pl_consult.specs.declared.stage.Stage.TheVariants.{Words, Starts, Lost}
use Rattle.pl_consult.specs.declared.stage.Step.{Step}
use Rattle.pl_consult.specs.declared.stage.Step.TheVariants.{Goes, Gives}
use Rattle.pl_consult.specs.declared.goal_words.WordsRead.{WordsRead}
use Rattle.pl_consult.specs.declared.file_script.FileScript.{FileScript}
use Rattle.pl_consult.specs.Steps.{Looked, moves_in, CameAt, IsCounted, SameGoals, SameFile, At, After, Keeps, Moved, IsAfter}
use Rattle.pl_consult.specs.GoalWords.{AreReadSo, words_of, refusals_of, read_of}
use Rattle.pl_consult.specs.FileScripts.{Whole, AfterFile, CameByStep, FileMoved, FileRan, IsGiven, is_memory}

as_whole : (job : Job) (name : Chars) (s r : FileScript) (x y : Execution)
    → SameFile s.consult r.consult
    → r.words.items ≡ s.words.items
    → read_of r.read ≡ read_of s.read
    → r.refused.items ≡ s.refused.items
    → SameGoals x y
    → Whole job name s x
    → Whole job name r y
as_whole job name s r x y file words read refused goals w =
    record {
      script =
          w.script
          ∙ ap (λ bs. consults bs s.words.items) (sym file.text)
          ∙ ap (λ ws. consults r.consult.text.items ws) (sym words);
      name_is = file.name ∙ w.name_is;
      words_are = goals.words ∙ w.words_are ∙ ap words_of (sym read);
      refusals = goals.refusals ∙ w.refusals ∙ ap refusals_of (sym refused);
      output = goals.output ∙ w.output;
    }

-- A step after others.
counted_then : (n before middle last : ℕ) (job : Job) (x y z : Execution) (t u w : Told)
    → ComesBy job x t before y u middle
    → ComesIn job n y u z w
    → n + middle ≡ last
    → ComesBy job x t before z w last
counted_then n before middle last job x y z t u w c d count =
    record {
      moves = n + c.moves;
      comes = comes_then job x y z t u w c.moves n c.comes d;
      counted =
          (let e : (n + c.moves) + before ≡ n + (c.moves + before) = omega arith in e)
          ∙ ap (λ i. n + i) c.counted
          ∙ count;
    }

came_then : (step counted : Step) (before middle last : ℕ) (job : Job) (x y z : Execution) (t u w : Told)
    → ComesBy job x t before y u middle
    → CameAt step job y u z w
    → IsCounted step counted middle last
    → CameByStep counted job x t before z w last
came_then Goes (Gives Memory) before middle last job x y z t u w c d i = (1 + c.moves, comes_then job x y z t u w c.moves 1 c.comes d)
came_then (Gives (Done h)) (Gives Memory) before middle last job x y z t u w c d i = (1 + c.moves, comes_then job x y z t u w c.moves 1 c.comes d)
came_then (Gives Memory) (Gives Memory) before middle last job x y z t u w c d i =
    (d.0 + c.moves, comes_then job x y z t u w c.moves d.0 c.comes d.1)
came_then (Gives (Item g e)) (Gives Memory) before middle last job x y z t u w c d i = absurd i
came_then (Gives (NeedsAtoms p)) (Gives Memory) before middle last job x y z t u w c d i = absurd i
came_then (Gives (Retry q)) (Gives Memory) before middle last job x y z t u w c d i = absurd i
came_then (Gives (Worn v)) (Gives Memory) before middle last job x y z t u w c d i = absurd i
came_then step Goes before middle last job x y z t u w c d i =
    counted_then 1 before middle last job x y z t u w c (subst (λ (p : Step). CameAt p job y u z w) (sym i.0) d)
    (ap (λ (p : Step). moves_in p + middle) i.0 ∙ i.1)
came_then step (Gives (Done h)) before middle last job x y z t u w c d i =
    counted_then 1 before middle last job x y z t u w c (subst (λ (p : Step). CameAt p job y u z w) (sym i.0) d)
    (ap (λ (p : Step). moves_in p + middle) i.0 ∙ i.1)
came_then step (Gives (Item g e)) before middle last job x y z t u w c d i =
    counted_then 0 before middle last job x y z t u w c (subst (λ (p : Step). CameAt p job y u z w) (sym i.0) d)
    (ap (λ (p : Step). moves_in p + middle) i.0 ∙ i.1)
came_then step (Gives (NeedsAtoms p)) before middle last job x y z t u w c d i =
    counted_then 0 before middle last job x y z t u w c (subst (λ (q : Step). CameAt q job y u z w) (sym i.0) d)
    (ap (λ (q : Step). moves_in q + middle) i.0 ∙ i.1)
came_then step (Gives (Retry r)) before middle last job x y z t u w c d i =
    counted_then 0 before middle last job x y z t u w c (subst (λ (p : Step). CameAt p job y u z w) (sym i.0) d)
    (ap (λ (p : Step). moves_in p + middle) i.0 ∙ i.1)
came_then step (Gives (Worn v)) before middle last job x y z t u w c d i =
    counted_then 0 before middle last job x y z t u w c (subst (λ (p : Step). CameAt p job y u z w) (sym i.0) d)
    (ap (λ (p : Step). moves_in p + middle) i.0 ∙ i.1)

module _ (term : Tree → Tree) where
  -- A step of the file alone.
  kept_file : (step : Step) (job : Job) (name : Chars) (a r : FileScript) (stage : Stage) (x y : Execution) (out : List ℕ)
      → Keeps term step a.consult r.consult
      → r.words.items ≡ a.words.items
      → read_of r.read ≡ read_of a.read
      → r.refused.items ≡ a.refused.items
      → SameGoals x y
      → Whole job name a x
      → After term step job r.consult stage y out
      → AfterFile term step job name r stage y out
  kept_file Goes job name a r stage x y out keeps words read refused goals w after =
      (as_whole job name a r x y keeps words read refused goals w, after)
  kept_file (Gives (Item i d)) job name a r stage x y out keeps words read refused goals w after =
      (as_whole job name a r x y keeps words read refused goals w, after)
  kept_file (Gives (Done h)) job name a r stage x y out keeps words read refused goals w after =
      (as_whole job name a r x y keeps words read refused goals w, after)
  kept_file (Gives (NeedsAtoms p)) job name a r stage x y out keeps words read refused goals w after =
      (as_whole job name a r x y keeps words read refused goals w, after)
  kept_file (Gives (Retry c)) job name a r stage x y out keeps words read refused goals w after =
      (as_whole job name a r x y keeps words read refused goals w, after)
  kept_file (Gives (Worn v)) job name a r stage x y out keeps words read refused goals w after =
      (as_whole job name a r x y keeps words read refused goals w, after)
  kept_file (Gives Memory) job name a r stage x y out keeps words read refused goals w after = tt

  pub file_moved : (name : Chars) (s r : FileScript) (stage then : Stage) (t u : Told) (out more : List ℕ) (step : Step)
      → r.words.items ≡ s.words.items
      → read_of r.read ≡ read_of s.read
      → r.refused.items ≡ s.refused.items
      → Moved term s.consult stage t out step r.consult then u more
      → FileMoved term name s stage t out step r then u more
  file_moved name s r stage then t u out more step words read refused moved job x is =
      let k = moved job x is.at in (
        k.0,
        k.1,
        k.2.lines,
        kept_file step job name s r then x k.0 more k.3 words read refused k.2 is.whole k.4,
      )

  -- No step, and one after others.
  pub goes_none : (name : Chars) (s : FileScript) (stage : Stage) (t : Told) (before : ℕ) (out : List ℕ) → FileRan term name s stage t before out Goes s stage t before out
  goes_none name s stage t before out job x is = (
    x,
    record { moves = 0; comes = comes_same job x x t refl; counted = (let e : 0 + before ≡ before = omega arith in e) },
    grows_none x.consulted,
    (is.whole, is.at),
  )

  -- After a step whose moves are counted, or too many to count.
  after_counted : (step counted : Step) (before last : ℕ) (job : Job) (name : Chars) (r : FileScript) (stage : Stage) (y : Execution) (out : List ℕ)
      → IsCounted step counted before last
      → AfterFile term step job name r stage y out
      → AfterFile term counted job name r stage y out
  after_counted step (Gives Memory) before last job name r stage y out c a = tt
  after_counted step Goes before last job name r stage y out c a =
      subst (λ (p : Step). AfterFile term p job name r stage y out) (sym c.0) a
  after_counted step (Gives (Item i d)) before last job name r stage y out c a =
      subst (λ (p : Step). AfterFile term p job name r stage y out) (sym c.0) a
  after_counted step (Gives (Done h)) before last job name r stage y out c a =
      subst (λ (p : Step). AfterFile term p job name r stage y out) (sym c.0) a
  after_counted step (Gives (NeedsAtoms p)) before last job name r stage y out c a =
      subst (λ (p : Step). AfterFile term p job name r stage y out) (sym c.0) a
  after_counted step (Gives (Retry q)) before last job name r stage y out c a =
      subst (λ (p : Step). AfterFile term p job name r stage y out) (sym c.0) a
  after_counted step (Gives (Worn v)) before last job name r stage y out c a =
      subst (λ (p : Step). AfterFile term p job name r stage y out) (sym c.0) a

  pub goes_then : (name : Chars) (s r v : FileScript) (stage then final : Stage) (t u w : Told) (before middle last : ℕ) (out mid more : List ℕ) (step counted : Step)
      → FileRan term name s stage t before out Goes r then u middle mid
      → FileMoved term name r then u mid step v final w more
      → IsCounted step counted middle last
      → FileRan term name s stage t before out counted v final w last more
  goes_then name s r v stage then final t u w before middle last out mid more step counted m n c job x is =
      let k = m job x is in
      let l = n job k.0 (record { whole = k.3.0; at = k.3.1 }) in (
        l.0,
        came_then step counted before middle last job x k.0 l.0 t u w k.1 l.1 c,
        grows_then x.consulted k.0.consulted l.0.consulted k.2 l.2,
        after_counted step counted middle last job name v final l.0 more c l.3,
      )

-- A step after others, where the terms before were not yet read in the atoms of its answer.
pub goes_by : (before_term term : Tree → Tree) (name : Chars) (s r v : FileScript) (stage then final : Stage) (t u w : Told) (before middle last : ℕ) (out mid more : List ℕ) (step counted : Step)
    → FileRan before_term name s stage t before out Goes r then u middle mid
    → FileMoved term name r then u mid step v final w more
    → IsCounted step counted middle last
    → FileRan term name s stage t before out counted v final w last more
goes_by before_term term name s r v stage then final t u w before middle last out mid more step counted m k c =
    goes_then term name s r v stage then final t u w before middle last out mid more step counted m k c

-- The words are read.
words_move : (job : Job) (x : Execution) → x.activity ≡ reading → move job x ≡ requests look (words_taken job x)
unfolding move
words_move job x is = ap (move_by job x) is

comes_read : (job : Job) (x : Execution) (ops : OperatorTable) (quotes : Quotes) (t u : Told) (vs : List Word)
    → x.activity ≡ reading
    → Looked t u ops quotes
    → map (word_read ops quotes) (words_in job.script) ≡ vs
    → ComesIn job 1 x t (record x { activity = starting ops (further_goals vs); words = vs }) u
comes_read job x ops quotes t u vs is l same =
    subst (λ (ws : List Word). ComesIn job 1 x t (record x { activity = starting ops (further_goals ws); words = ws }) u) same
    (comes_by_request job x look (words_taken job x) t u l.before (standing ops quotes) l.update (words_move job x is) l.follows l.served l.told)

words_in_job : (job : Job) (name : Chars) (s : FileScript) (x : Execution) → Whole job name s x → words_in job.script ≡ s.words.items
words_in_job job name s x w = ap words_in w.script

module _ (term : Tree → Tree) (name : Chars) (s : FileScript) (ops : Arc OperatorTable Global) (quotes : Quotes) (t u : Told) (out : List ℕ) (l : Looked t u (arc_value ops) quotes) where
  pub read_moved : (w : WordsRead) (r : FileScript)
      → AreReadSo (arc_value ops) quotes s.words.items w
      → r.consult ≡ s.consult
      → r.words.items ≡ s.words.items
      → read_of r.read ≡ w.read.items
      → r.refused.items ≡ s.refused.items
      → FileMoved term name s Words t out Goes r (Starts ops w.first w.goals 0) u out
  read_moved w r so file words read refused job x is =
      let vs : List Word = words_of w.read.items in
      let y : Execution = record x { activity = starting (arc_value ops) (further_goals vs); words = vs } in (
        y,
        comes_read job x (arc_value ops) quotes t u vs is.at.does l
            (ap (map (word_read (arc_value ops) quotes)) (words_in_job job name s x is.whole) ∙ sym so.words_are),
        grows_none x.consulted,
        (
          record {
            script =
                is.whole.script
                ∙ ap (λ (c : Consult). consults c.text.items s.words.items) (sym file)
                ∙ ap (λ ws. consults r.consult.text.items ws) (sym words);
            name_is = ap (λ (c : Consult). c.name) file ∙ is.whole.name_is;
            words_are = ap words_of (sym read);
            refusals = is.whole.refusals ∙ ap refusals_of (sym refused);
            output = is.whole.output;
          },
          subst (λ (c : Consult). At job c (Starts ops w.first w.goals 0) y out) (sym file)
              (record {
                stands = record { bytes = is.at.stands.bytes; later = is.at.stands.later; lines = is.at.stands.lines };
                does = ap (starting (arc_value ops)) (sym so.goals_are);
                fits = so.first_is;
              }),
        ),
      )

  pub read_failed : (r : FileScript) (stage : Stage) → FileMoved term name s Words t out (Gives Memory) r stage u out
  read_failed r stage job x is = (
    words_taken job x (standing (arc_value ops) quotes),
    (
      1,
      comes_by_request job x look (words_taken job x) t u l.before (standing (arc_value ops) quotes) l.update (words_move job x is.at.does) l.follows l.served
          l.told,
    ),
    grows_none x.consulted,
    tt,
  )

-- What was given is handed out, and the script stands at its stage or is lost.
pub handed_by : (next : Next Tree) (stage : Stage) (s r : FileScript) (b : Bool)
    → s.stage ≡ Lost
    → (is_memory next ≡ true → r ≡ s)
    → (is_memory next ≡ false → r ≡ record s { stage = stage; faulty = b })
    → IsAfter (Gives next) stage
    → (term : Tree → Tree) (name : Chars) (a : FileScript) (from : Stage) (t u : Told) (before last : ℕ) (out more : List ℕ)
    → FileRan term name a from t before out (Gives next) s stage u last more
    → FileRan term name a from t before out (Gives next) r r.stage u last more
handed_by Memory stage s r b lost same moved after term name a from t u before last out more m = λ job x is. let k = m job x is in (k.0, k.1, k.2, tt)
handed_by (Item i d) stage s r b lost same moved after term name a from t u before last out more m =
    subst (λ (q : FileScript). FileRan term name a from t before out (Gives (Item i d)) q q.stage u last more) (sym (moved refl)) m
handed_by (Done h) stage s r b lost same moved after term name a from t u before last out more m =
    subst (λ (q : FileScript). FileRan term name a from t before out (Gives (Done h)) q q.stage u last more) (sym (moved refl)) m
handed_by (NeedsAtoms p) stage s r b lost same moved after term name a from t u before last out more m =
    subst (λ (q : FileScript). FileRan term name a from t before out (Gives (NeedsAtoms p)) q q.stage u last more) (sym (moved refl)) m
handed_by (Retry c) stage s r b lost same moved after term name a from t u before last out more m =
    subst (λ (q : FileScript). FileRan term name a from t before out (Gives (Retry c)) q q.stage u last more) (sym (moved refl)) m
handed_by (Worn w) stage s r b lost same moved after term name a from t u before last out more m =
    subst (λ (q : FileScript). FileRan term name a from t before out (Gives (Worn w)) q q.stage u last more) (sym (moved refl)) m

pub handed : (next : Next Tree) (stage : Stage) (s r : FileScript) (b : Bool)
    → s.stage ≡ Lost
    → (is_memory next ≡ true → r ≡ s)
    → (is_memory next ≡ false → r ≡ record s { stage = stage; faulty = b })
    → IsAfter (Gives next) stage
    → IsGiven next r.stage
handed Memory stage s r b lost same moved after = ap (λ (q : FileScript). q.stage) (same refl) ∙ lost
handed (Item i d) stage s r b lost same moved after =
    subst (λ (q : FileScript). IsAfter (Gives (Item i d)) q.stage) (sym (moved refl)) after
handed (Done h) stage s r b lost same moved after =
    subst (λ (q : FileScript). IsAfter (Gives (Done h)) q.stage) (sym (moved refl)) after
handed (NeedsAtoms p) stage s r b lost same moved after =
    subst (λ (q : FileScript). IsAfter (Gives (NeedsAtoms p)) q.stage) (sym (moved refl)) after
handed (Retry c) stage s r b lost same moved after =
    subst (λ (q : FileScript). IsAfter (Gives (Retry c)) q.stage) (sym (moved refl)) after
handed (Worn w) stage s r b lost same moved after =
    subst (λ (q : FileScript). IsAfter (Gives (Worn w)) q.stage) (sym (moved refl)) after
