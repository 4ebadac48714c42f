-- Flags and their values, as the definitions have them.
use Rattle.std.specs.Prelude.{codes}
use Rattle.pl_term.specs.Tree.{Chars}
use Rattle.pl_model.specs.Flags as definitions
use Rattle.clause_db.specs.declared.flags.Flag.{Flag}
use Rattle.clause_db.specs.declared.flags.Flag.TheVariants.{DoubleQuotes, Unknown}
use Rattle.clause_db.specs.declared.flags.FlagValue.{FlagValue}
use Rattle.clause_db.specs.declared.flags.FlagValue.TheVariants.{Codes, Chars as Characters, Atom, Error, Fail}
use Rattle.clause_db.specs.declared.flags.UnknownCall.{UnknownCall}
use Rattle.clause_db.specs.declared.flags.UnknownCall.TheVariants.{Raises, Fails}
use Rattle.clause_db.specs.declared.flags.Flags.{Flags}

abbrev pub flag_name : Flag → Chars
flag_name DoubleQuotes = codes "double_quotes"
flag_name Unknown = codes "unknown"

abbrev pub value_name : FlagValue → Chars
value_name Codes = codes "codes"
value_name Characters = codes "chars"
value_name Atom = codes "atom"
value_name Error = codes "error"
value_name Fail = codes "fail"

abbrev pub unknown_as : UnknownCall → definitions.Unknown
unknown_as Raises = definitions.raises
unknown_as Fails = definitions.fails

abbrev pub flags_as : Flags → definitions.Flags
flags_as f = record { double_quotes = f.double_quotes; unknown = unknown_as f.unknown }
