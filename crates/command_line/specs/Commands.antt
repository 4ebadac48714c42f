-- The order that was read, against the one that the words stand for.
use Rattle.std.specs.Prelude.{◌≡◌, ◌<◌, ◌≤◌, length, Option, Some, None}
use Rattle.pl_model.specs.Resolution.{Limits as LimitsOf}
use Rattle.command_line.specs.CommandLine.{Command as CommandOf, Order as OrderOf, checks, loads, runs}
use Rattle.command_line.specs.declared.command.Command.{Command}
use Rattle.command_line.specs.declared.command.Limits.{Limits}
use Rattle.command_line.specs.declared.command.Order.{Order}
use Rattle.command_line.specs.declared.command.Order.TheVariants.{Check, Load, Run}

-- The same limits, the same command and the same order, in the definitions' terms.
abbrev pub told_limits : Limits → LimitsOf
told_limits l =
    record { inferences = l.inferences; cells = l.cells; choices = l.choices; solutions = l.solutions; stays = None }

abbrev pub told_command : Command → CommandOf
told_command c =
    record { file = c.file; words = c.goals.items; limits = told_limits c.limits; workers = c.workers; slots = c.slots }

abbrev pub told_order : Order → OrderOf
told_order (Run c) = runs (told_command c)
told_order (Check file) = checks file
told_order (Load seed size) = loads seed size

abbrev pub AreLimits : Option Limits → Option LimitsOf → Type 0
AreLimits None wanted = wanted ≡ None
AreLimits (Some l) wanted = wanted ≡ Some (told_limits l)

abbrev pub IsCommand : Option Command → Option CommandOf → Type 0
IsCommand None wanted = wanted ≡ None
IsCommand (Some c) wanted = wanted ≡ Some (told_command c)

abbrev pub IsOrder : Option Order → Option OrderOf → Type 0
IsOrder None wanted = wanted ≡ None
IsOrder (Some o) wanted = wanted ≡ Some (told_order o)

-- The numbers of a command are within their bounds.
pub record IsWithin (c : Command) : Type 0 where
  pub goals : length c.goals.items ≤ 64
  pub least_workers : 1 ≤ c.workers
  pub most_workers : c.workers ≤ 16
  pub least_slots : 512 ≤ c.slots
  pub most_slots : c.slots ≤ 1048576

-- So are those of an order.
abbrev pub IsOrderWithin : Order → Type 0
IsOrderWithin (Run c) = IsWithin c
IsOrderWithin (Check file) = Unit {0}
IsOrderWithin (Load seed size) = (seed < 2147483648) × (1 ≤ size) × (size ≤ 10000)
