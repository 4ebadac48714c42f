-- The command line: `run [--workers N] [--solutions N] [--atoms N] [--inferences N] [--cells N] [--choices N] FILE [GOAL]...`,
-- `check FILE` or `load SEED SIZE`. The words are read with clap, whose stated matches say which words it takes and what their
-- parts are.
use Rattle.std.specs.Prelude.{ℕ, ◌-◌, ◌^◌, ◌++◌, suc, take, List, [], ◌∷◌, length, map, option_map, Option, Some, None, codes, bytes_eq, nat_le, true, ◌&&◌, if◌then◌else◌, encode_utf8_all}
use Rattle.std.specs.Str.{chars}
use Rattle.std.specs.Str.Parse.{digits_value, without_leading_plus}
use Rattle.clap.specs.Words.{App, Rule, Row, all_of, first_of, one_of, fault_of, new_app, new_rule, subcommand_of, with_rule, with_subcommand}
use Rattle.clap.specs.Kinds.{Kinds}
use Rattle.clap.specs.ValueTests.{is_unsigned_in}
use Rattle.clap.specs.declared.builder.action.ArgAction.TheVariants.{Append}
use Rattle.clap.specs.declared.builder.value_parser.ValueParser.TheVariants.{Unsigned}
use Rattle.pl_term.specs.Tree.{Chars}
use Rattle.pl_model.specs.Resolution.{Limits}
use Rattle.run_model.specs.Execution.{most_bytes}
use Rattle.run_model.specs.Lawful.{Program}

-- A command to run a file: the name of the file, the words of the goals, the limits of the goals, of the directives and of the
-- threads, how many workers run the engines, and the number of slots of the table of atoms.
pub record Command : Type 0 where
  pub file : Chars
  pub words : List Chars
  pub limits : Limits
  pub workers : ℕ
  pub slots : ℕ

-- What words order: to run a file by a command, to check the file with this name, or to run the source that this seed and this
-- size give.
pub data Order : Type 0 where
  runs : Command → Order
  checks : Chars → Order
  loads : ℕ → ℕ → Order

-- How many words of goals there may be.
abbrev pub most_goals : ℕ
most_goals = 64

-- How many workers there may be, and the least and the largest number of slots.
abbrev pub most_workers : ℕ
most_workers = 16

abbrev pub least_slots : ℕ
least_slots = 512

abbrev pub most_slots : ℕ
most_slots = 1048576

-- The largest seed, and the largest size.
abbrev pub most_seed : ℕ
most_seed = 2147483647

abbrev pub most_size : ℕ
most_size = 10000

-- What a command runs on a file with these bytes. Of a file that is too large, only the first bytes are read that show it.
abbrev pub program_of : Command → List ℕ → Program
program_of c bytes = record { bytes = take (suc most_bytes) bytes; words = c.words; limits = c.limits; slots = c.slots }

-- By which command `load` runs its source: named `load`, with the goal `load`, by the numbers that stand where no option is given.
abbrev pub load_command : Command
load_command =
    record {
      file = codes "load";
      words = codes "load" ∷ [];
      limits = record { inferences = 10000000; cells = 4000000; choices = 1000000; solutions = 1; stays = None };
      workers = 4;
      slots = 65536;
    }

-- The words

-- An option with a number from `least` to `most`, and the number that stands where it is not given.
abbrev pub number_option : Chars → ℕ → ℕ → Chars → Rule
number_option name least most default =
    record (new_rule name) { long = Some name; parser = Some (Unsigned least most); defaults = default ∷ [] }

-- A word that has to be there.
abbrev pub required_word : Chars → Rule
required_word name = record (new_rule name) { required = true }

-- A number from `least` to `most` that has to be there.
abbrev pub number_word : Chars → ℕ → ℕ → Rule
number_word name least most = record (required_word name) { parser = Some (Unsigned least most) }

-- Words of which there may be any number.
abbrev pub further_words : Chars → Rule
further_words name = record (new_rule name) { action = Some Append }

abbrev pub limits_app : App
limits_app =
    with_rule
    (with_rule
    (with_rule
    (with_rule (new_app (codes "run")) (number_option (codes "solutions") 1 1000000 (codes "1")))
    (number_option (codes "inferences") 1 1000000000 (codes "10000000")))
    (number_option (codes "cells") 1 100000000 (codes "4000000")))
    (number_option (codes "choices") 1 10000000 (codes "1000000"))

abbrev pub options_app : App
options_app =
    with_rule
    (with_rule limits_app (number_option (codes "workers") 1 most_workers (codes "4")))
    (number_option (codes "atoms") least_slots most_slots (codes "65536"))

abbrev pub run_app : App
run_app = with_rule (with_rule options_app (required_word (codes "FILE"))) (further_words (codes "GOAL"))

abbrev pub check_app : App
check_app = with_rule (new_app (codes "check")) (required_word (codes "FILE"))

abbrev pub load_app : App
load_app =
    with_rule
    (with_rule (new_app (codes "load")) (number_word (codes "SEED") 0 most_seed))
    (number_word (codes "SIZE") 1 most_size)

-- The program with its subcommands.
abbrev pub commands_app : App
commands_app =
    with_subcommand (with_subcommand (with_subcommand (new_app (codes "plt")) run_app.top) check_app.top) load_app.top

-- It is run on words without the program's own name, and needs a subcommand.
abbrev pub nameless : App → App
nameless a = record a { top = record a.top { no_binary_name = true; subcommand_required = true } }

abbrev pub plt_app : App
plt_app = nameless commands_app

-- The number that a value is, where it is one of 64 bits.
abbrev pub number_of : Option (List ℕ) → Option ℕ
number_of None = None
number_of (Some t) =
    if is_unsigned_in 0 (2 ^ 64 - 1) t then Some (digits_value 10 (without_leading_plus t)) else None

-- The number, where it is one from `least` to `most`.
abbrev pub between : ℕ → ℕ → Option ℕ → Option ℕ
between least most None = None
between least most (Some n) = if nat_le least n && nat_le n most then Some n else None

abbrev pub words_by : Option (List (List ℕ)) → List Chars
words_by None = []
words_by (Some goals) = map chars goals

abbrev pub limits_by : Option ℕ → Option ℕ → Option ℕ → Option ℕ → Option Limits
limits_by (Some s) (Some i) (Some c) (Some h) =
    Some (record { inferences = i; cells = c; choices = h; solutions = s; stays = None })
limits_by _ _ _ _ = None

-- There is no command with too many words of goals.
abbrev pub unless_too_many : Command → Option Command
unless_too_many c = if nat_le (length c.words) most_goals then Some c else None

abbrev pub command_by : Option (List ℕ) → List Chars → Option Limits → Option ℕ → Option ℕ → Option Command
command_by (Some f) words (Some l) (Some w) (Some s) =
    unless_too_many (record { file = chars f; words = words; limits = l; workers = w; slots = s })
command_by _ _ _ _ _ = None

abbrev pub limits_in : List Row → Option Limits
limits_in rows =
    limits_by
    (number_of (one_of (codes "solutions") rows))
    (number_of (one_of (codes "inferences") rows))
    (number_of (one_of (codes "cells") rows))
    (number_of (one_of (codes "choices") rows))

abbrev pub workers_in : List Row → Option ℕ
workers_in rows = between 1 most_workers (number_of (one_of (codes "workers") rows))

abbrev pub slots_in : List Row → Option ℕ
slots_in rows = between least_slots most_slots (number_of (one_of (codes "atoms") rows))

-- The command `run` with these matches.
abbrev pub run_command : List Row → Option Command
run_command rows =
    command_by
    (first_of (codes "FILE") rows)
    (words_by (all_of (codes "GOAL") rows))
    (limits_in rows)
    (workers_in rows)
    (slots_in rows)

-- What `run` orders with these matches.
abbrev pub run_order : List Row → Option Order
run_order rows = option_map runs (run_command rows)

-- What `check` orders with these matches.
abbrev pub check_order : List Row → Option Order
check_order rows = option_map (λ f. checks (chars f)) (first_of (codes "FILE") rows)

-- What `load` orders with these matches.
abbrev pub loads_by : Option ℕ → Option ℕ → Option Order
loads_by (Some seed) (Some size) = Some (loads seed size)
loads_by _ _ = None

abbrev pub load_order : List Row → Option Order
load_order rows =
    loads_by
    (between 0 most_seed (number_of (one_of (codes "SEED") rows)))
    (between 1 most_size (number_of (one_of (codes "SIZE") rows)))

abbrev pub order_of : Option (List ℕ × List Row) → Option Order
order_of None = None
order_of (Some p) =
    if bytes_eq p.0 (codes "run")
    then run_order p.1
    else
    (if bytes_eq p.0 (codes "check")
    then check_order p.1
    else (if bytes_eq p.0 (codes "load") then load_order p.1 else None))

abbrev pub unless_refused : Kinds → Option Order → Option Order
unless_refused [] o = o
unless_refused (k ∷ ks) o = None

-- What these words order: what their matches give, where clap does not refuse them. Help is refused, as any other request that
-- is none of the three.
abbrev pub order : List Chars → Option Order
order words =
    let texts = map encode_utf8_all words in
    unless_refused (fault_of plt_app texts) (order_of (subcommand_of plt_app texts))

-- Lines

abbrev pub newline : Chars
newline = 10 ∷ []

-- Where the words order nothing.
abbrev pub usage_line : Chars
usage_line = codes "usage: plt run [OPTIONS] FILE [GOAL]... | plt check FILE | plt load SEED SIZE" ++ newline

-- Where a read of the file failed.
abbrev pub unread_line : Chars → Chars
unread_line name = codes "plt: cannot read " ++ (name ++ newline)
