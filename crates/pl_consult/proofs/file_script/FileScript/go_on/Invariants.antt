use Rattle.std.proofs.Common.{◌≡◌, true, false}
use Rattle.pl_term.specs.Tree.{Chars, Tree}
use Rattle.world_api.specs.Texts.{Holds}
use Rattle.world_api.specs.Told.{has_ended}
use Rattle.world_api.specs.Gains.{Gains}
use Rattle.script_api.specs.Scripts.{IsLater}
use Rattle.pl_consult.specs.declared.stage.Stage.TheVariants.{Lost}
use Rattle.pl_consult.specs.declared.stage.Step.TheVariants.{Goes}
use Rattle.pl_consult.specs.Steps.{can_step}
use Rattle.pl_consult.specs.ItemTexts.{MayIntern, Narrows}
use Rattle.pl_consult.specs.FileScripts.{FileRan}
use Rattle.pl_consult.proofs.file_script.FileScript.go_on.Given as goal

abbrev pub invariant-loop : goal.invariant-loop
invariant-loop g l =
    record {
      runs : has_ended (g.W.World.told l.world).engine (g.W.World.told l.world).history ≡ false;
      holds : Holds (g.W.A.Atoms.held l.initial.atoms) (g.W.A.Atoms.held l.atoms);
      refusals : g.W.A.Atoms.refusals l.atoms ≡ g.W.A.Atoms.refusals l.initial.atoms;
      can : can_step l.stage ≡ true;
      lost : l.self.stage ≡ Lost;
      file : l.self.consult.name ≡ l.initial.self.consult.name;
      words : l.self.words.items ≡ l.initial.self.words.items;
      board : l.self.board.now ≡ l.initial.self.board.now;
      told : IsLater (g.W.World.told l.initial.world) (g.W.World.told l.world);
      narrows : Narrows l.initial.self.words.items l.initial.self.consult l.initial.stage l.self.consult l.stage;
      asked :
          Gains (MayIntern l.initial.self.consult l.initial.self.words.items l.initial.stage (g.W.World.told l.initial.world)) (g.W.A.Atoms.asked l.initial.atoms)
          (g.W.A.Atoms.asked l.atoms);
      faults : l.self.faulty ≡ l.initial.self.faulty;
      moved :
          (name : Chars)
          → FileRan (λ (v : Tree). v) name l.initial.self l.initial.stage (g.W.World.told l.initial.world) l.initial.moves l.initial.text.items Goes l.self l.stage
          (g.W.World.told l.world) l.moves l.text.items;
    }
