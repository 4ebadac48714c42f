-- Options of thread_create/3.
use Rattle.std.specs.Prelude.{◌≡◌, ℕ, Bool, true, false, List, ◌∷◌, ◌++◌, map, Option, Some, None, IsSome, IfSome}
use Rattle.std.specs.Option.{option_map}
use Rattle.std.specs.List.{All}
use Rattle.pl_term.specs.Tree.{Chars, Tree, comp, none}
use Rattle.pl_model.specs.SharedBuiltins as shared
use Rattle.pl_model.specs.SharedBuiltins.{with_option, wrong_option}
use Rattle.atom_api.specs.Names.{Names}
use Rattle.term_store.specs.declared.words.Place.{Place}
use Rattle.term_store.specs.Contents.{Contents, Holds}
use Rattle.world_api.specs.Texts.{text_of}
use Rattle.world_builtins.specs.Naming.{IsHeldAt}
use Rattle.world_builtins.specs.Spelling.{reads}
use Rattle.shared_builtins.specs.declared.faults.Fault.{Fault}
use Rattle.shared_builtins.specs.declared.options.Options.{Options}
use Rattle.shared_builtins.specs.declared.options.ThreadOption.{ThreadOption}
use Rattle.shared_builtins.specs.declared.options.ThreadOption.TheVariants.{Alias, Plain, Wrong}
use Rattle.shared_builtins.specs.Faults.{IsFaultHeld, IsFaultIn, fault_term}

-- Terms of one argument.
abbrev pub is_single : Tree → Bool
is_single (comp f t none) = true
is_single _ = false

abbrev pub IsSingle : Names → Contents → Place → Option (ℕ × Place) → Type 0
IsSingle m s p None = is_single (reads m s p) ≡ false
IsSingle m s p (Some one) = (reads m s p ≡ comp (text_of m one.0) (reads m s one.1) none) × (IsSome (m one.0) × IsHeldAt m s one.1)

abbrev pub IsSingleIn : Contents → Option (ℕ × Place) → Type 0
IsSingleIn s None = Unit {0}
IsSingleIn s (Some one) = Holds s one.1

-- What an option does to those after it.
abbrev pub applied : Names → Contents → ThreadOption → shared.Options → shared.Options
applied m s (Alias a) o = record o { aliases = text_of m a ∷ o.aliases }
applied m s Plain o = o
applied m s (Wrong f) o = wrong_option (fault_term m s f)

abbrev pub IsOptionHeld : Names → Contents → ThreadOption → Type 0
IsOptionHeld m s (Alias a) = IsSome (m a)
IsOptionHeld m s Plain = Unit {0}
IsOptionHeld m s (Wrong f) = IsFaultHeld m s f

abbrev pub IsOptionIn : Contents → ThreadOption → Type 0
IsOptionIn s (Wrong f) = IsFaultIn s f
IsOptionIn s _ = Unit {0}

pub record AreOptions (m : Names) (s : Contents) (ps : List Place) (o : Options) : Type 0 where
  pub options : let r : shared.Options = record { aliases = map (text_of m) o.aliases.items; error = option_map (fault_term m s) o.fault } in
      shared.options_of (map (reads m s) ps) ≡ r
  pub held : All (λ a. IsSome (m a)) o.aliases.items
  pub fault_held : IfSome o.fault (IsFaultHeld m s)

-- The options, read.
abbrev pub options_read : Names → Contents → Options → shared.Options
options_read m s o = record { aliases = map (text_of m) o.aliases.items; error = option_map (fault_term m s) o.fault }

abbrev pub AreOptionsHeld : Names → Contents → Options → Type 0
AreOptionsHeld m s o = All (λ a. IsSome (m a)) o.aliases.items × IfSome o.fault (IsFaultHeld m s)

-- The options with these aliases in front of theirs.
abbrev pub with_aliases : List Chars → shared.Options → shared.Options
with_aliases xs o = record o { aliases = xs ++ o.aliases }

-- After a step: the others follow, or there is an error.
abbrev pub taken : Names → Contents → List Chars → Option Fault → shared.Options → shared.Options
taken m s xs None o = with_aliases xs o
taken m s xs (Some f) o = with_aliases xs (wrong_option (fault_term m s f))
