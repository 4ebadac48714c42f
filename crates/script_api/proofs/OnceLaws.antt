-- How an engine that was started with a goal comes to it and to its end.
use Rattle.std.proofs.Common.{◌≡◌, ℕ, ◌+◌, List, [], ◌++◌, Option, Some, None, IsSome, slice_index_or, Bool, false, refl, ap, sym, ◌∙◌, subst, append-nil}
use Rattle.std.specs.Prelude.{encode_utf8_all}
use Rattle.std.specs.List.{All}
use Rattle.atom_api.specs.Names.{Names}
use Rattle.world_api.specs.Texts.{text_of, or_no_text, Holds}
use Rattle.pl_term.specs.Tree.{Chars, Tree}
use Rattle.pl_model.specs.History.{History}
use Rattle.pl_model.specs.Requests.{Request, look}
use Rattle.pl_model.specs.Requests as requests
use Rattle.pl_model.specs.Service.{waits, serve, served_now}
use Rattle.pl_model.specs.Resolution.{State, Ending, ended}
use Rattle.pl_model.specs.Control.{step, step_by, start}
use Rattle.run_model.specs.Execution.{runs, Job, Consulted, Execution, moves, requests as asking, move, searching, searched, over}
use Rattle.run_model.specs.Report.{all_consulted}
use Rattle.atom_words.specs.declared.view.Pass.{Pass}
use Rattle.atom_words.specs.declared.view.Cause.{Cause}
use Rattle.atom_words.specs.declared.view.WornWord.{WornWord}
use Rattle.pl_model.specs.declared.ends.How.{How}
use Rattle.script_api.specs.declared.script.Next.{Next}
use Rattle.script_api.specs.declared.script.Next.TheVariants.{Item, Done, NeedsAtoms, Retry, Worn, Memory}
use Rattle.script_api.specs.declared.once.Stage.{Stage}
use Rattle.script_api.specs.declared.once.Stage.TheVariants.{Fresh, AtHand, Over}
use Rattle.world_api.specs.Told.{Told}
use Rattle.world_api.specs.declared.reply.Reply.{Reply}
use Rattle.world_api.specs.declared.visit.Visit.TheVariants.{Look}
use Rattle.world_api.specs.declared.answer.Answer.TheVariants.{Served}
use Rattle.world_api.specs.Answers.{Visited}
use Rattle.script_api.specs.Parts.{of_goal, with_search}
use Rattle.script_api.specs.Comes.{ComesIn, ComesBy}
use Rattle.script_api.specs.Scripts.{Given, some_fault, written_at}
use Rattle.script_api.specs.Onces.{execution_of, part_of, plays_of}
use Rattle.script_api.specs.OnceGiven.{Looked, TakenUp, moves_by}
use Rattle.script_api.proofs.ComesLaws.{comes_same, comes_by_request, by_move}

-- A look never waits.
pub look_serves : (e goals : ℕ) (h : History) → served_now e goals h look ≡ waits → ⊥
unfolding serve
look_serves e goals h is = absurd (cc)

-- What a look tells where it is served.
pub looked_of : {T K : Type 0} (term : (ℕ → Chars) → T → Tree) (key : T → K) (old_text new_text : ℕ → Chars) (r : Reply T) (g : ℕ) (t : Told) (before : History) (u : Told)
    → Visited term key old_text new_text Look (Served r g) t before u
    → Looked t u
looked_of term key old_text new_text r g t before u v =
    let s = v.1.serves look refl
    in record { before = before; reply = s.0; update = v.1.update; follows = v.0; served = s.1; told = v.1.told }

comes_by_look : (job : Job) (x : Execution) (next : requests.Reply → Execution) (t u : Told)
    → move job x ≡ asking look next
    → (l : Looked t u)
    → ComesIn job 1 x t (next l.reply) u
comes_by_look job x next t u is l = comes_by_request job x look next t u l.before l.reply l.update is l.follows l.served l.told

-- What is written of the file is as before.
written : (bytes : List ℕ) (cs : List Consulted) (x y : Execution)
    → x ≡ y
    → written_at y ≡ cs ++ []
    → bytes ≡ encode_utf8_all (all_consulted [] [] (written_at x))
    → bytes ≡ encode_utf8_all (all_consulted [] [] cs)
written bytes cs x y same is w =
    w
    ∙ ap (λ z. encode_utf8_all (all_consulted [] [] (written_at z))) same
    ∙ ap (λ ds. encode_utf8_all (all_consulted [] [] ds)) (is ∙ append-nil cs)

kept : (cs : List Consulted) (x y : Execution)
    → x ≡ y
    → written_at y ≡ cs ++ []
    → some_fault (written_at x) ≡ false
    → some_fault cs ≡ false
kept cs x y same is k = ap some_fault (sym (is ∙ append-nil cs)) ∙ ap (λ z. some_fault (written_at z)) (sym same) ∙ k

-- The move by which the search that ended ends the engine.
end_move : (job : Job) (x : Execution) (r : State) (ending : Ending)
    → r.doing ≡ ended ending
    → move job (record x { activity = searching r }) ≡ moves (record x { activity = over ending; output = r.output })
unfolding move step
end_move job x r ending is = ap (λ d. searched (record x { activity = searching r }) r (step_by job.limits r d)) is

pub given_end : {T : Type 0} (term : (ℕ → Chars) → T → Tree) (old_text new_text : ℕ → Chars) (how : Option (How Tree)) (t : Told) (before after : ℕ) (bytes : List ℕ)
    → 1 + before ≡ after
    → Given (execution_of term) part_of term (plays_of term) (λ s. false) [] old_text new_text AtHand how t before bytes (Done None) Over t after bytes
given_end term old_text new_text None t before after bytes count job cs searched x p b w k = absurd b
given_end term old_text new_text (Some how) t before after bytes count job cs None x p b w k = absurd b
given_end term old_text new_text (Some how) t before after bytes count job cs (Some r) x p b w k =
    let base : Execution = execution_of term old_text AtHand job cs
    in let there : Execution = record base { activity = over b.0; output = r.output }
    in (
      cs,
      there,
      subst
          (λ (z : Execution). ComesBy job z t before there t after)
          (sym b.3)
          (by_move job (with_search base of_goal r) there t before after (end_move job base r b.0 b.1) count),
      (b.0, r.output, (b.1, refl), refl),
      tt,
      written bytes cs x (with_search base of_goal r) b.3 refl w,
      kept cs x (with_search base of_goal r) b.3 refl k,
    )

-- The move that ends it is not counted: it stays at its end.
pub given_stays : {T : Type 0} (term : (ℕ → Chars) → T → Tree) (old_text new_text : ℕ → Chars) (how : Option (How Tree)) (t : Told) (before after : ℕ) (bytes : List ℕ)
    → Given (execution_of term) part_of term (plays_of term) (λ s. false) [] old_text new_text AtHand how t before bytes Memory AtHand t after bytes
given_stays term old_text new_text how t before after bytes job cs searched x p b w k = (cs, x, (0, comes_same job x x t refl), tt, tt, tt, tt)

-- The move by which the goal is taken up.
begin_move : {T : Type 0} (term : (ℕ → Chars) → T → Tree) (text : ℕ → Chars) (goal : T) (job : Job) (cs : List Consulted)
    → move job (execution_of term text (Fresh goal) job cs)
    ≡ asking look (λ r. record (execution_of term text (Fresh goal) job cs) { activity = searching (start job.limits (term text goal)) })
unfolding move
begin_move term text goal job cs = refl

given_item : {T : Type 0} (term : (ℕ → Chars) → T → Tree) (old_text new_text : ℕ → Chars) (how : Option (How Tree)) (goal : T) (t u : Told) (before after : ℕ) (bytes : List ℕ)
    → term old_text goal ≡ term new_text goal
    → 1 + before ≡ after
    → Looked t u
    → Given (execution_of term) part_of term (plays_of term) (λ s. false) [] old_text new_text (Fresh goal) how t before bytes (Item goal false) AtHand u after bytes
given_item term old_text new_text (Some how) goal t u before after bytes tell count l job cs searched x p b w k = absurd b
given_item term old_text new_text None goal t u before after bytes tell count l job cs searched x p b w k =
    let base : Execution = execution_of term old_text (Fresh goal) job cs
    in let search : Tree → Execution = λ g. record base { activity = searching (start job.limits g) }
    in (
      cs,
      search (term new_text goal),
      subst
          (λ (z : Execution). ComesBy job z t before (search (term new_text goal)) u after)
          (sym b)
          (subst
          (λ (g : Tree). ComesBy job base t before (search g) u after)
          tell
          (record { moves = 1; comes = comes_by_look job base (λ r. search (term old_text goal)) t u (begin_move term old_text goal job cs) l; counted = count })),
      (of_goal, refl, refl, refl),
      tt,
      written bytes cs x base b refl w,
      kept cs x base b refl k,
    )

given_kept : {T : Type 0} (term : (ℕ → Chars) → T → Tree) (old_text new_text : ℕ → Chars) (goal : T) (t : Told) (bytes : List ℕ) (job : Job) (cs : List Consulted) (x : Execution)
    → term old_text goal ≡ term new_text goal
    → x ≡ execution_of term old_text (Fresh goal) job cs
    → ComesIn job 0 x t (execution_of term new_text (Fresh goal) job cs) t
given_kept term old_text new_text goal t bytes job cs x tell b =
    comes_same
    job
    x
    (execution_of term new_text (Fresh goal) job cs)
    t
    (b ∙ ap (λ (g : Tree). execution_of (λ (k : ℕ → Chars) (y : Tree). y) old_text (Fresh g) job cs) tell)

given_short : {T : Type 0} (term : (ℕ → Chars) → T → Tree) (old_text new_text : ℕ → Chars) (how : Option (How Tree)) (goal : T) (t : Told) (before after : ℕ) (bytes : List ℕ) (pass : Pass)
    → term old_text goal ≡ term new_text goal
    → 0 + before ≡ after
    → Given (execution_of term) part_of term (plays_of term) (λ s. false) [] old_text new_text (Fresh goal) how t before bytes (NeedsAtoms pass) (Fresh goal) t after bytes
given_short term old_text new_text (Some how) goal t before after bytes pass tell count job cs searched x p b w k = absurd b
given_short term old_text new_text None goal t before after bytes pass tell count job cs searched x p b w k = (
  cs,
  execution_of term new_text (Fresh goal) job cs,
  record { moves = 0; comes = given_kept term old_text new_text goal t bytes job cs x tell b; counted = count },
  (refl, refl),
  p ∙ ap runs tell,
  written bytes cs x (execution_of term old_text (Fresh goal) job cs) b refl w,
  kept cs x (execution_of term old_text (Fresh goal) job cs) b refl k,
)

given_again : {T : Type 0} (term : (ℕ → Chars) → T → Tree) (old_text new_text : ℕ → Chars) (how : Option (How Tree)) (goal : T) (t : Told) (before after : ℕ) (bytes : List ℕ) (cause : Cause)
    → term old_text goal ≡ term new_text goal
    → 0 + before ≡ after
    → Given (execution_of term) part_of term (plays_of term) (λ s. false) [] old_text new_text (Fresh goal) how t before bytes (Retry cause) (Fresh goal) t after bytes
given_again term old_text new_text (Some how) goal t before after bytes cause tell count job cs searched x p b w k = absurd b
given_again term old_text new_text None goal t before after bytes cause tell count job cs searched x p b w k = (
  cs,
  execution_of term new_text (Fresh goal) job cs,
  record { moves = 0; comes = given_kept term old_text new_text goal t bytes job cs x tell b; counted = count },
  (refl, refl),
  p ∙ ap runs tell,
  written bytes cs x (execution_of term old_text (Fresh goal) job cs) b refl w,
  kept cs x (execution_of term old_text (Fresh goal) job cs) b refl k,
)

given_worn : {T : Type 0} (term : (ℕ → Chars) → T → Tree) (old_text new_text : ℕ → Chars) (how : Option (How Tree)) (goal : T) (t : Told) (before after : ℕ) (bytes : List ℕ) (word : WornWord)
    → term old_text goal ≡ term new_text goal
    → 0 + before ≡ after
    → Given (execution_of term) part_of term (plays_of term) (λ s. false) [] old_text new_text (Fresh goal) how t before bytes (Worn word) (Fresh goal) t after bytes
given_worn term old_text new_text (Some how) goal t before after bytes word tell count job cs searched x p b w k = absurd b
given_worn term old_text new_text None goal t before after bytes word tell count job cs searched x p b w k = (
  cs,
  execution_of term new_text (Fresh goal) job cs,
  record { moves = 0; comes = given_kept term old_text new_text goal t bytes job cs x tell b; counted = count },
  (refl, refl),
  p ∙ ap runs tell,
  written bytes cs x (execution_of term old_text (Fresh goal) job cs) b refl w,
  kept cs x (execution_of term old_text (Fresh goal) job cs) b refl k,
)

given_memory : {T : Type 0} (term : (ℕ → Chars) → T → Tree) (old_text new_text : ℕ → Chars) (how : Option (How Tree)) (goal : T) (t : Told) (before after : ℕ) (bytes : List ℕ)
    → term old_text goal ≡ term new_text goal
    → Given (execution_of term) part_of term (plays_of term) (λ s. false) [] old_text new_text (Fresh goal) how t before bytes Memory (Fresh goal) t after bytes
given_memory term old_text new_text (Some how) goal t before after bytes tell job cs searched x p b w k = absurd b
given_memory term old_text new_text None goal t before after bytes tell job cs searched x p b w k = (
  cs,
  execution_of term new_text (Fresh goal) job cs,
  (0, given_kept term old_text new_text goal t bytes job cs x tell b),
  tt,
  p ∙ ap runs tell,
  tt,
  tt,
)

-- What is given where the stage and what is told are equal to these.
given_at : {T : Type 0} (term : (ℕ → Chars) → T → Tree) (old_text new_text : ℕ → Chars) (how : Option (How Tree)) (goal : T) (t u : Told) (before after : ℕ) (bytes : List ℕ) (next : Next T) (stage : Stage T)
    → (stage ≡ Fresh goal) × (u ≡ t)
    → Given (execution_of term) part_of term (plays_of term) (λ s. false) [] old_text new_text (Fresh goal) how t before bytes next (Fresh goal) t after bytes
    → Given (execution_of term) part_of term (plays_of term) (λ s. false) [] old_text new_text (Fresh goal) how t before bytes next stage u after bytes
given_at term old_text new_text how goal t u before after bytes next stage k g =
    subst
    (λ (s : Stage _). Given (execution_of term) part_of term (plays_of term) (λ s. false) [] old_text new_text (Fresh goal) how t before bytes next s u after bytes)
    (sym k.0)
    (subst
    (λ (v : Told). Given (execution_of term) part_of term (plays_of term) (λ s. false) [] old_text new_text (Fresh goal) how t before bytes next (Fresh goal) v after bytes)
    (sym k.1)
    g)

pub given_next : {T : Type 0} (term : (ℕ → Chars) → T → Tree) (old_text new_text : ℕ → Chars) (how : Option (How Tree)) (goal : T) (t u : Told) (before after : ℕ) (bytes : List ℕ) (next : Next T) (stage : Stage T)
    → term old_text goal ≡ term new_text goal
    → after ≡ moves_by next + before
    → TakenUp goal t next stage u
    → Given (execution_of term) part_of term (plays_of term) (λ s. false) [] old_text new_text (Fresh goal) how t before bytes next stage u after bytes
given_next {T} term old_text new_text how goal t u before after bytes (Item g directive) stage tell count k =
    subst
    (λ (s : Stage T). Given (execution_of term) part_of term (plays_of term) (λ s. false) [] old_text new_text (Fresh goal) how t before bytes (Item g directive) s u after bytes)
    (sym k.2)
    (subst
    (λ (h : T). Given (execution_of term) part_of term (plays_of term) (λ s. false) [] old_text new_text (Fresh goal) how t before bytes (Item h directive) AtHand u after bytes)
    (sym k.0)
    (subst
    (λ (d : Bool). Given (execution_of term) part_of term (plays_of term) (λ s. false) [] old_text new_text (Fresh goal) how t before bytes (Item goal d) AtHand u after bytes)
    (sym k.1)
    (given_item term old_text new_text how goal t u before after bytes tell (sym count) k.3)))
given_next term old_text new_text how goal t u before after bytes (Done h) stage tell count k = absurd k
given_next term old_text new_text how goal t u before after bytes (NeedsAtoms pass) stage tell count k =
    given_at term old_text new_text how goal t u before after bytes (NeedsAtoms pass) stage k (given_short term old_text new_text how goal t before after bytes pass tell (sym count))
given_next term old_text new_text how goal t u before after bytes (Retry cause) stage tell count k =
    given_at term old_text new_text how goal t u before after bytes (Retry cause) stage k (given_again term old_text new_text how goal t before after bytes cause tell (sym count))
given_next term old_text new_text how goal t u before after bytes (Worn word) stage tell count k =
    given_at term old_text new_text how goal t u before after bytes (Worn word) stage k (given_worn term old_text new_text how goal t before after bytes word tell (sym count))
given_next term old_text new_text how goal t u before after bytes Memory stage tell count k =
    given_at term old_text new_text how goal t u before after bytes Memory stage k (given_memory term old_text new_text how goal t before after bytes tell)

-- From the goal that was to be taken up, and from the end of its search.
pub given_from : {T : Type 0} (term : (ℕ → Chars) → T → Tree) (old_text new_text : ℕ → Chars) (how : Option (How Tree)) (goal : T) (old : Stage T) (t u : Told) (before after : ℕ) (bytes : List ℕ) (next : Next T) (stage : Stage T)
    → old ≡ Fresh goal
    → term old_text goal ≡ term new_text goal
    → after ≡ moves_by next + before
    → TakenUp goal t next stage u
    → Given (execution_of term) part_of term (plays_of term) (λ s. false) [] old_text new_text old how t before bytes next stage u after bytes
given_from {T} term old_text new_text how goal old t u before after bytes next stage is tell count k =
    subst
    (λ (s : Stage T). Given (execution_of term) part_of term (plays_of term) (λ s. false) [] old_text new_text s how t before bytes next stage u after bytes)
    (sym is)
    (given_next term old_text new_text how goal t u before after bytes next stage tell count k)

pub end_from : {T : Type 0} (term : (ℕ → Chars) → T → Tree) (old_text new_text : ℕ → Chars) (how : Option (How Tree)) (old new : Stage T) (t : Told) (before after : ℕ) (bytes : List ℕ)
    → old ≡ AtHand
    → new ≡ Over
    → 1 + before ≡ after
    → Given (execution_of term) part_of term (plays_of term) (λ s. false) [] old_text new_text old how t before bytes (Done None) new t after bytes
end_from {T} term old_text new_text how old new t before after bytes is gone count =
    subst
    (λ (s : Stage T). Given (execution_of term) part_of term (plays_of term) (λ s. false) [] old_text new_text s how t before bytes (Done None) new t after bytes)
    (sym is)
    (subst
    (λ (s : Stage T). Given (execution_of term) part_of term (plays_of term) (λ s. false) [] old_text new_text AtHand how t before bytes (Done None) s t after bytes)
    (sym gone)
    (given_end term old_text new_text how t before after bytes count))

pub stays_from : {T : Type 0} (term : (ℕ → Chars) → T → Tree) (old_text new_text : ℕ → Chars) (how : Option (How Tree)) (old : Stage T) (t : Told) (before after : ℕ) (bytes : List ℕ)
    → old ≡ AtHand
    → Given (execution_of term) part_of term (plays_of term) (λ s. false) [] old_text new_text old how t before bytes Memory AtHand t after bytes
stays_from {T} term old_text new_text how old t before after bytes is =
    subst
    (λ (s : Stage T). Given (execution_of term) part_of term (plays_of term) (λ s. false) [] old_text new_text s how t before bytes Memory AtHand t after bytes)
    (sym is)
    (given_stays term old_text new_text how t before after bytes)

-- What is held before and after has the same texts.
text_kept : (m n : Names) (a : ℕ) (o : Option Chars) → m a ≡ o → IsSome o → Holds m n → text_of m a ≡ text_of n a
text_kept m n a None is some holds = absurd (cc)
text_kept m n a (Some t) is some holds = ap (or_no_text a) is ∙ sym (ap (or_no_text a) (holds a t is))

same_text : (m n : Names) (a : ℕ) → IsSome (m a) → Holds m n → text_of m a ≡ text_of n a
same_text m n a some holds = text_kept m n a (m a) refl some holds

pub same_texts : (m n : Names) (xs : List ℕ) → All (λ a. IsSome (m a)) xs → Holds m n → All (λ a. text_of m a ≡ text_of n a) xs
same_texts m n xs some holds = λ k d below. same_text m n (slice_index_or xs k d) (some k d below) holds

-- There are no goal words.
no_words : {T : Type 0} (term : (ℕ → Chars) → T → Tree) (text : ℕ → Chars) (s : Stage T) (job : Job) (cs : List Consulted) → (execution_of term text s job cs).words ≡ []
no_words term text (Fresh t) job cs = refl
no_words term text AtHand job cs = refl
no_words term text Over job cs = refl

pub same_words : {T : Type 0} (term : (ℕ → Chars) → T → Tree) (old_text new_text : ℕ → Chars) (s r : Stage T) (job : Job) (cs : List Consulted)
    → (execution_of term new_text r job cs).words ≡ (execution_of term old_text s job cs).words
same_words term old_text new_text s r job cs = no_words term new_text r job cs ∙ sym (no_words term old_text s job cs)
