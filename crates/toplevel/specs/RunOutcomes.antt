-- What is to be written of a run.
use Rattle.std.specs.Prelude.{◌≡◌, ℕ, List, Option}
use Rattle.std.specs.List.{All}
use Rattle.pl_term.specs.Tree.{Chars}
use Rattle.pl_model.specs.History.{History}
use Rattle.run_model.specs.Lawful.{Program}
use Rattle.run_model.specs.Ends.{end_of, goal_ends}
use Rattle.command_line.specs.CommandLine.{Command}
use Rattle.pl_history.specs.Fronts.{FrontState}
use Rattle.pl_hub.specs.Order.{IsInOrder}
use Rattle.pl_sched.specs.Ledger.{AreOnly, AreWhole, named_in}
use Rattle.toplevel.specs.Fronts.{told_by}
use Rattle.toplevel.specs.Headline.{IsRun, text_of}
use Rattle.toplevel.specs.declared.ready.Ready.{Ready}

-- What a command runs whose file was read so.
abbrev pub program_read : Command → List ℕ → Program
program_read c bytes = record { bytes = bytes; words = c.words; limits = c.limits; slots = c.slots }

-- What is ready to be written of a run of this program, whose file has this name.
pub record IsReadyOf (file : Chars) (p : Program) (ready : Ready) : Type 0 where
  pub run : IsRun p ready.front
  pub ends_are : ready.ends.items ≡ goal_ends p (told_by ready.front) run.finals
  pub end_is : ready.end ≡ end_of p (told_by ready.front) run.finals
  pub text_is : ready.text.items ≡ text_of file p ready.front run

-- All engines have seen one history, each that it begins is one of them, nobody else made an entry, they began in the order of
-- their numbers, and these are the numbers and the aliases of those that it begins.
abbrev pub HasRunAll : ℕ → List FrontState → List (ℕ × Option Chars) → Type 0
HasRunAll goals dones begun =
    (h : History) × All (λ (f : FrontState). f.seen ≡ h) dones × AreWhole h dones × AreOnly h × IsInOrder goals h × (begun ≡ named_in h)
