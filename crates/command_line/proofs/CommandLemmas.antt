-- What the matches of a command line give.
use Rattle.std.proofs.Common.{inl, inr, ◌≡◌, ◌≤◌, ◌<◌, ◌^◌, ◌-◌, ℕ, Bool, true, false, List, [], ◌∷◌, Option, Some, None, refl, sym, ◌∙◌, ap, arith, codes, map, length, Bor}
use Rattle.std.specs.Prelude.{option_map}
use Rattle.std.proofs.lemmas.Bool.{le-leb, lt-leb}
use Rattle.std.specs.Prelude.{Result, Ok, Err}
use Rattle.std.specs.Str.Parse.{ParsesUnsigned}
use Rattle.std.specs.Str.{chars}
use Rattle.pl_term.specs.Tree.{Chars}
use Rattle.clap.specs.Words.{Row, all_of, first_of, one_of, one_text, rows_of, ReadsOne}
use Rattle.clap.specs.ValueTests.{is_unsigned_in}
use Rattle.clap.specs.Kinds.{Kinds, HasKind}
use Rattle.clap.specs.declared.error.Error.{Error}
use Rattle.clap.specs.declared.error.kind.ErrorKind.TheVariants.{OutOfMemory}
use Rattle.clap.specs.declared.builder.value_parser.ValueParser.TheVariants.{Unsigned}
use Rattle.clap.specs.declared.parser.matches.Found.{Found}
use Rattle.clap.proofs.ValueTestLemmas.{accepts-Accepts, Accepts-accepts}
use Rattle.clap.proofs.WalkLemmas.{one_text-rows}
use Rattle.pl_model.specs.Resolution.{Limits}
use Rattle.command_line.specs.CommandLine.{Command, Order, between, check_order, checks, command_by, load_order, loads_by, most_seed, most_size, run_order, runs, limits_in, number_of, run_command, unless_refused, most_goals, slots_in, unless_too_many, words_by, workers_in}

-- A number of 64 bits is read exactly where the text is one.
pub number_reads : (E : Type 0) (G : List ℕ → Result ℕ E → Type 0) (t : List ℕ) (r : Option ℕ) → ReadsOne G t r
    → ((u : List ℕ) (x : Result ℕ E) → G u x → ParsesUnsigned 64 10 u x) → r ≡ number_of (Some t)
number_reads E G t (Some v) read only =
    let parsed = only t (Ok v) read in
    let passes : is_unsigned_in 0 (2 ^ 64 - 1) t ≡ true =
    Accepts-accepts false (Unsigned 0 (2 ^ 64 - 1)) t (parsed.0.0, parsed.0.1, omega arith, omega arith) in
    rw passes (ap Some parsed.1)
number_reads E G t None read only = go (is_unsigned_in 0 (2 ^ 64 - 1) t) refl
  where
    go : (b : Bool) → is_unsigned_in 0 (2 ^ 64 - 1) t ≡ b → None ≡ number_of (Some t)
    go false e = rw e refl
    go true e =
        let a = accepts-Accepts false (Unsigned 0 (2 ^ 64 - 1)) t e in
        absurd (only t (Err read.0) read.1 (a.0, a.1))

-- The number that a typed getter gives.
pub number_by : (E : Type 0) (G : List ℕ → Result ℕ E → Type 0) (f : Found) (id : List ℕ) (r : Option ℕ)
    → (one_text f id ≡ None → r ≡ None)
    → ((t : List ℕ) → one_text f id ≡ Some t → ReadsOne G t r)
    → ((u : List ℕ) (x : Result ℕ E) → G u x → ParsesUnsigned 64 10 u x)
    → r ≡ number_of (one_of id (rows_of f))
number_by E G f id r none value only = go (one_text f id) refl ∙ ap number_of (one_text-rows f id)
  where
    go : (o : Option (List ℕ)) → one_text f id ≡ o → r ≡ number_of (one_text f id)
    go None e = none e ∙ ap number_of (sym e)
    go (Some t) e = number_reads E G t r (value t e) only ∙ ap number_of (sym e)

-- Words that are refused for another reason than out of memory order nothing.
pub refused_words : (kinds : Kinds) (e : Error) (c : Option Order) → HasKind kinds e → (e.kind ≡ OutOfMemory → ⊥) → unless_refused kinds c ≡ None
refused_words [] e c h other = elim h [
  | inl m ↦ absurd (other m)
  | inr a ↦ absurd a
]
refused_words (k ∷ ks) e c h other = refl

pub taken_words : (kinds : Kinds) (c : Option Order) → kinds ≡ [] → unless_refused kinds c ≡ c
taken_words [] c e = refl
taken_words (k ∷ ks) c e = cc

-- The texts of the words that were given.
pub texts_given : (ws : List (Bor (List ℕ))) → map chars (map (λ w. w.now) ws) ≡ map (λ w. chars w.now) ws
texts_given [] = refl
texts_given (w ∷ ws) = ap (λ rest. chars w.now ∷ rest) (texts_given ws)

-- A command with so many words of goals.
pub too_many : (c : Command) → most_goals < length c.words → unless_too_many c ≡ None
too_many c more = rw (lt-leb (length c.words) most_goals more) refl

pub few_goals : (c : Command) → length c.words ≤ most_goals → unless_too_many c ≡ Some c
few_goals c few = rw (le-leb (length c.words) most_goals few) refl

-- The command by its parts.
pub given_by : (rows : List Row) (f : Option (List ℕ)) (g : List Chars) (l : Option Limits) (w s : Option ℕ)
    → f ≡ first_of (codes "FILE") rows → g ≡ words_by (all_of (codes "GOAL") rows) → limits_in rows ≡ l → w ≡ workers_in rows → s ≡ slots_in rows
    → run_command rows ≡ command_by f g l w s
given_by rows f g l w s file goals limits workers slots =
    rw (file, goals, ← limits, workers, slots) refl

-- The order by what its matches give.
pub no_run : (rows : List Row) → run_command rows ≡ None → run_order rows ≡ None
no_run rows e = ap (option_map runs) e

pub a_run : (rows : List Row) (c : Command) → run_command rows ≡ Some c → run_order rows ≡ Some (runs c)
a_run rows c e = ap (option_map runs) e

pub checks_it : (rows : List Row) (f : Option (List ℕ)) → f ≡ first_of (codes "FILE") rows
    → check_order rows ≡ option_map (λ t. checks (chars t)) f
checks_it rows f e = ap (option_map (λ t. checks (chars t))) (sym e)

pub loads_it : (rows : List Row) (seed size : Option ℕ)
    → seed ≡ between 0 most_seed (number_of (one_of (codes "SEED") rows))
    → size ≡ between 1 most_size (number_of (one_of (codes "SIZE") rows))
    → load_order rows ≡ loads_by seed size
loads_it rows seed size s n = rw (s, n) refl

-- The name of what `load` runs, as its text is read.
pub load_text : chars (codes "load") ≡ codes "load"
unfolding chars
load_text = refl
