-- A program that does nothing.
use Rattle.std.specs.Prelude.{[], None}
use Rattle.run_model.specs.Lawful.{Program}

abbrev pub no_program : Program
no_program = record { bytes = []; words = []; limits = record { inferences = 0; cells = 0; choices = 0; solutions = 0; stays = None }; slots = 0 }
