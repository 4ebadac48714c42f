use Rattle.std.proofs.Common.{◌++◌, ◌||◌, length, nat_lt, refl, ap, ap₂, sym, ◌∙◌, subst, append-nil}
use Rattle.pl_term.specs.Tree.{Tree}
use Rattle.term_store.specs.NumberedNames.{term_by}
use Rattle.world_api.specs.Texts.{text_of}
use Rattle.script_api.specs.declared.script.Next.{Next}
use Rattle.pl_consult.specs.declared.file_script.FileScript.{FileScript}
use Rattle.pl_consult.specs.declared.stage.Step.{Step}
use Rattle.pl_consult.specs.declared.stage.Step.TheVariants.{Gives}
use Rattle.pl_consult.specs.Steps.{IsAfter, step_refusals}
use Rattle.pl_consult.specs.FileScripts.{FileRan, IsGiven, is_memory}
use Rattle.world_api.proofs.Gaining.{gains_nothing}
use Rattle.script_api.proofs.LaterLaws.{later_same, later_then}
use Rattle.pl_consult.specs.ItemTexts.{MayIntern}
use Rattle.pl_consult.proofs.NarrowLaws.{narrows_bare, narrows_same, narrows_then, step_more, handed_narrows}
use Rattle.pl_consult.specs.declared.stage.Stage.TheVariants.{Lost}
use Rattle.pl_consult.specs.declared.stage.Stage.{Stage}
use Rattle.pl_consult.specs.ItemTexts.{Narrows}
use Rattle.pl_consult.proofs.FileLaws.{goes_by, goes_none, handed, handed_by}
use Rattle.pl_consult.proofs.file_script.FileScript.go_on.Goals as goal

pub loop-init : goal.loop-init
loop-init g c =
    record {
      runs = c.requires.runs;
      holds = λ a t h. h;
      refusals = refl;
      can = c.requires.can;
      lost = c.requires.lost;
      file = refl;
      words = refl;
      board = refl;
      told = later_same (g.W.World.told c.args.world.now) (g.W.World.told c.args.world.now) refl;
      narrows = narrows_same c.args.self.now.words.items c.args.self.now.consult c.args.stage;
      asked = gains_nothing (MayIntern c.args.self.now.consult c.args.self.now.words.items c.args.stage (g.W.World.told c.args.world.now)) (g.W.A.Atoms.asked c.args.atoms.now) (g.W.A.Atoms.asked c.args.atoms.now) refl;
      faults = refl;
      moved = λ name. goes_none (λ (v : Tree). v) name c.args.self.now c.args.stage (g.W.World.told c.args.world.now) c.args.moves.now c.args.text.now.items;
    }

pub loop-preserved : goal.loop-preserved
loop-preserved g c =
    let i = c.loop.invariant in
    let s = c.step-then in
    let k = c.counted in
    let more =
    step_more c.args.self.now.words.items c.loop.self.words.items c.args.self.now.consult c.loop.self.consult s.new.self.consult c.args.stage c.loop.stage s.result.0
    (g.W.World.told c.args.world.now) (g.W.World.told c.loop.world) (g.W.A.Atoms.asked c.args.atoms.now) (g.W.A.Atoms.asked c.loop.atoms) (g.W.A.Atoms.asked s.new.atoms)
    i.words i.narrows i.told i.asked s.ensures.narrows s.ensures.asked in
    record {
      runs = s.ensures.runs;
      holds = λ a t h. s.ensures.holds a t (i.holds a t h);
      refusals =
          s.ensures.refusals
          ∙ ap (λ rs. g.W.A.Atoms.refusals c.loop.atoms ++ rs) (sym k.ensures.refusals)
          ∙ ap (λ p. g.W.A.Atoms.refusals c.loop.atoms ++ step_refusals p) c.in-Goes.is
          ∙ append-nil (g.W.A.Atoms.refusals c.loop.atoms)
          ∙ i.refusals;
      can = subst (λ (p : Step). IsAfter p s.result.0) c.in-Goes.is (k.ensures.stage s.result.0 s.ensures.stage);
      lost = s.ensures.kept ∙ i.lost;
      file = s.ensures.file ∙ i.file;
      words = s.ensures.words ∙ i.words;
      board = s.ensures.board ∙ i.board;
      told = later_then (g.W.World.told c.args.world.now) (g.W.World.told c.loop.world) (g.W.World.told s.new.world) i.told s.ensures.told;
      narrows = more.0;
      asked = more.1;
      faults = s.ensures.faults ∙ i.faults;
      moved =
          λ name.
          subst
          (λ (p : Step).
          FileRan (term_by (text_of (g.W.A.Atoms.held s.new.atoms))) name c.args.self.now c.args.stage (g.W.World.told c.args.world.now) c.args.moves.now
          c.args.text.now.items p s.new.self s.result.0 (g.W.World.told s.new.world) k.new.moves s.new.text.items)
          c.in-Goes.is
          (goes_by (λ (v : Tree). v) (term_by (text_of (g.W.A.Atoms.held s.new.atoms))) name c.args.self.now c.loop.self s.new.self c.args.stage c.loop.stage s.result.0
          (g.W.World.told c.args.world.now) (g.W.World.told c.loop.world) (g.W.World.told s.new.world) c.args.moves.now c.loop.moves k.new.moves
          c.args.text.now.items c.loop.text.items s.new.text.items s.result.1 k.result (i.moved name)
          (s.ensures.moved name) k.ensures.counted);
    }

pub returns-in-Gives-clause-moved : goal.returns-in-Gives-clause-moved
returns-in-Gives-clause-moved g c name =
    let i = c.loop.invariant in
    let s = c.step-then in
    let k = c.counted in
    let h = c.hand_out in
    subst
    (λ (n : Next Tree).
    FileRan (term_by (text_of (g.W.A.Atoms.held s.new.atoms))) name c.args.self.now c.args.stage (g.W.World.told c.args.world.now) c.args.moves.now
    c.args.text.now.items (Gives n) h.new.self h.new.self.stage (g.W.World.told s.new.world) k.new.moves s.new.text.items)
    (sym h.ensures.next)
    (handed_by c.in-Gives.next s.result.0 s.new.self h.new.self (s.new.self.faulty || c.has_grown.result) (s.ensures.kept ∙ i.lost) h.ensures.lost h.ensures.stage
    (subst (λ (p : Step). IsAfter p s.result.0) c.in-Gives.is (k.ensures.stage s.result.0 s.ensures.stage))
    (term_by (text_of (g.W.A.Atoms.held s.new.atoms))) name c.args.self.now c.args.stage (g.W.World.told c.args.world.now) (g.W.World.told s.new.world)
    c.args.moves.now k.new.moves c.args.text.now.items s.new.text.items
    (subst
    (λ (p : Step).
    FileRan (term_by (text_of (g.W.A.Atoms.held s.new.atoms))) name c.args.self.now c.args.stage (g.W.World.told c.args.world.now) c.args.moves.now
    c.args.text.now.items p s.new.self s.result.0 (g.W.World.told s.new.world) k.new.moves s.new.text.items)
    c.in-Gives.is
    (goes_by (λ (v : Tree). v) (term_by (text_of (g.W.A.Atoms.held s.new.atoms))) name c.args.self.now c.loop.self s.new.self c.args.stage c.loop.stage s.result.0
    (g.W.World.told c.args.world.now) (g.W.World.told c.loop.world) (g.W.World.told s.new.world) c.args.moves.now c.loop.moves k.new.moves
    c.args.text.now.items c.loop.text.items s.new.text.items s.result.1 k.result (i.moved name)
    (s.ensures.moved name) k.ensures.counted)))

pub returns-clause-moved : goal.returns-clause-moved
returns-clause-moved g c name job x is = let k = c.loop.invariant.moved name job x is in (k.0, (k.1.moves, k.1.comes), k.2, tt)

pub returns-in-Gives-clause-given : goal.returns-in-Gives-clause-given
returns-in-Gives-clause-given g c =
    let s = c.step-then in
    let h = c.hand_out in
    subst (λ (n : Next Tree). IsGiven n h.new.self.stage) (sym h.ensures.next)
    (handed c.in-Gives.next s.result.0 s.new.self h.new.self (s.new.self.faulty || c.has_grown.result) (s.ensures.kept ∙ c.loop.invariant.lost) h.ensures.lost h.ensures.stage
    (subst (λ (p : Step). IsAfter p s.result.0) c.in-Gives.is (c.counted.ensures.stage s.result.0 s.ensures.stage)))

pub returns-in-Gives-clause-faults : goal.returns-in-Gives-clause-faults
returns-in-Gives-clause-faults g c e =
    let s = c.step-then in
    let h = c.hand_out in
    ap (λ (q : FileScript). q.faulty) (h.ensures.stage (sym (ap is_memory h.ensures.next) ∙ e))
    ∙ ap₂ (λ a b. a || b) (s.ensures.faults ∙ c.loop.invariant.faults)
    (c.has_grown.ensures ∙ ap₂ (λ n l. nat_lt n (length l)) c.requires.before c.as_slice.ensures.value)

pub returns-in-Gives-clause-told : goal.returns-in-Gives-clause-told
returns-in-Gives-clause-told g c =
    later_then (g.W.World.told c.args.world.now) (g.W.World.told c.loop.world) (g.W.World.told c.step-then.new.world) c.loop.invariant.told c.step-then.ensures.told

pub returns-in-Gives-clause-asked : goal.returns-in-Gives-clause-asked
returns-in-Gives-clause-asked g c =
    let i = c.loop.invariant in
    let s = c.step-then in
    (step_more c.args.self.now.words.items c.loop.self.words.items c.args.self.now.consult c.loop.self.consult s.new.self.consult c.args.stage c.loop.stage s.result.0
    (g.W.World.told c.args.world.now) (g.W.World.told c.loop.world) (g.W.A.Atoms.asked c.args.atoms.now) (g.W.A.Atoms.asked c.loop.atoms) (g.W.A.Atoms.asked s.new.atoms)
    i.words i.narrows i.told i.asked s.ensures.narrows s.ensures.asked).1

pub returns-in-Gives-clause-narrows : goal.returns-in-Gives-clause-narrows
returns-in-Gives-clause-narrows g c =
    let i = c.loop.invariant in
    let s = c.step-then in
    let h = c.hand_out in
    handed_narrows c.args.self.now.words.items c.args.self.now.consult s.new.self.consult h.new.self.consult c.args.stage s.result.0 s.new.self.stage h.new.self.stage
    (step_more c.args.self.now.words.items c.loop.self.words.items c.args.self.now.consult c.loop.self.consult s.new.self.consult c.args.stage c.loop.stage s.result.0
    (g.W.World.told c.args.world.now) (g.W.World.told c.loop.world) (g.W.A.Atoms.asked c.args.atoms.now) (g.W.A.Atoms.asked c.loop.atoms) (g.W.A.Atoms.asked s.new.atoms)
    i.words i.narrows i.told i.asked s.ensures.narrows s.ensures.asked).0
    h.ensures.consult h.ensures.stands (s.ensures.kept ∙ i.lost)

pub returns-in-Gives-clause-words : goal.returns-in-Gives-clause-words
returns-in-Gives-clause-words g c = c.hand_out.ensures.words ∙ (c.step-then.ensures.words ∙ c.loop.invariant.words)

pub returns-clause-narrows : goal.returns-clause-narrows
returns-clause-narrows g c =
    let i = c.loop.invariant in
    subst (λ (k : Stage). Narrows c.args.self.now.words.items c.args.self.now.consult c.args.stage c.loop.self.consult k) (sym i.lost)
    (narrows_then c.args.self.now.words.items c.args.self.now.consult c.loop.self.consult c.loop.self.consult c.args.stage c.loop.stage Lost i.narrows
    (narrows_bare c.args.self.now.words.items c.loop.self.consult c.loop.stage Lost refl refl refl))
