use Rattle.std.proofs.Common.{◌≡◌, ◌++◌, ◌∙◌, ap₂, codes, List, [], ◌∷◌, None}
use Rattle.pl_term.specs.Tree.{Chars}
use Rattle.command_line.specs.CommandLine.{Command}
use Rattle.command_line.proofs.CommandLemmas.{load_text}
use Rattle.command_line.proofs.command.load_command.Goals as goal

pub returns-clause-command : goal.returns-clause-command
returns-clause-command c =
    let file : c.in_ok-file.file ≡ codes "load" = c.in_ok-file.ensures ∙ load_text in
    let word : c.in_ok-from_str.field-0 ≡ codes "load" = c.in_ok-from_str.ensures ∙ load_text in
    let goals : c.push.new.self.items ≡ codes "load" ∷ [] =
    c.in_ok-push.ensures.items ∙ ap₂ (λ (before : List Chars) (t : Chars). before ++ (t ∷ [])) c.new-goals.ensures.items word in
    ap₂ whole file goals
  where
    whole : Chars → List Chars → Command
    whole f ws =
        record {
          file = f;
          words = ws;
          limits = record { inferences = 10000000; cells = 4000000; choices = 1000000; solutions = 1; stays = None };
          workers = 4;
          slots = 65536;
        }
