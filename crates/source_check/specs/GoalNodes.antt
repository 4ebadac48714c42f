-- What the nodes of a directive say in prefix order: which goal it is, and what this goal changes of what follows.
use Rattle.std.specs.Prelude.{ℕ, List, [], ◌∷◌, Bool, false, ◌&&◌, ◌||◌, ◌==◌, nat_lt, Option, Some, None, pos, bytes_eq, codes, if◌then◌else◌}
use Rattle.std.specs.Option.{option_map}
use Rattle.pl_term.specs.Tree.{Chars}
use Rattle.pl_term.specs.declared.node.Node.{Node}
use Rattle.pl_term.specs.declared.node.Node.TheVariants.{Int, Atom, Comp}
use Rattle.pl_model.specs.declared.grammar.Quotes.{Quotes}
use Rattle.pl_model.specs.declared.operators.Kind.{Kind}
use Rattle.pl_model.specs.Flags.{quotes_of}
use Rattle.pl_model.specs.OperatorTable.{highest_priority}
use Rattle.pl_model.specs.Service.{operators_error}
use Rattle.pl_model.specs.SharedBuiltins.{specifier_named}
use Rattle.source_check.specs.Listings.{Checking, with_table}

-- What a directive changes: operators of these names are put into the table, unless one of them is refused; or texts in
-- double quotes are read so from now on; or nothing.
pub data Effect : Type 0 where
  puts : ℕ → Kind → List Chars → Effect
  sets : Quotes → Effect
  leaves : Effect

abbrev pub after : Effect → Checking → Checking
after (puts p k fs) c = record c { operators = with_table p k fs c.operators (operators_error c.operators p k fs) }
after (sets q) c = record c { quotes = q }
after leaves c = c

abbrev pub is_arrow : Chars → Bool
is_arrow f = bytes_eq f (codes ":-") || bytes_eq f (codes "?-")

-- The nodes of the goal of a directive, whose own nodes these are.
abbrev pub goal_nodes : List Node → Option (List Node)
goal_nodes (Comp f k ∷ ns) = if (k == 1) && is_arrow f then Some ns else None
goal_nodes _ = None

-- The priority that a node is, if it is one.
abbrev pub priority_in : Node → Option ℕ
priority_in (Int (pos n)) = if nat_lt highest_priority n then None else Some n
priority_in _ = None

abbrev pub specifier_in : Node → Option Kind
specifier_in (Atom k) = specifier_named k
specifier_in _ = None

-- The first element of a list that begins with these two nodes, if it is an atom.
abbrev pub element_in : Node → Node → Option Chars
element_in (Comp f k) (Atom a) = if (k == 2) && bytes_eq f (codes ".") then Some a else None
element_in _ _ = None

abbrev pub is_empty_list : Node → Bool
is_empty_list (Atom a) = bytes_eq a (codes "[]")
is_empty_list _ = false

-- The atoms in the list with these nodes, if it is a list of atoms.
abbrev pub with_listed : Option Chars → Option (List Chars) → Option (List Chars)
with_listed None fs = None
with_listed (Some a) fs = option_map (λ gs. a ∷ gs) fs

abbrev pub listed : List Node → Option (List Chars)
listed [] = None
listed (n ∷ []) = if is_empty_list n then Some [] else None
listed (n ∷ (m ∷ ns)) = with_listed (element_in n m) (listed ns)

-- The names that the term with these nodes gives: an atom is one.
abbrev pub names_in : List Node → Option (List Chars)
names_in (Atom a ∷ ns) = Some (a ∷ [])
names_in ns = listed ns

abbrev pub operators_by : Option ℕ → Option Kind → Option (List Chars) → Effect
operators_by (Some p) (Some k) (Some fs) = puts p k fs
operators_by _ _ _ = leaves

abbrev pub operators_in : List Node → Effect
operators_in (n ∷ (m ∷ ns)) = operators_by (priority_in n) (specifier_in m) (names_in ns)
operators_in _ = leaves

-- The value of the flag `double_quotes` that two nodes say.
abbrev pub quotes_in : Node → Node → Option Quotes
quotes_in (Atom f) (Atom v) = if bytes_eq f (codes "double_quotes") then quotes_of v else None
quotes_in _ _ = None

abbrev pub flag_by : Option Quotes → Effect
flag_by (Some q) = sets q
flag_by None = leaves

abbrev pub flag_in : List Node → Effect
flag_in (n ∷ (m ∷ ns)) = flag_by (quotes_in n m)
flag_in _ = leaves

abbrev pub effect_named : Chars → ℕ → List Node → Effect
effect_named f k ns =
    if k == 3 then (if bytes_eq f (codes "op") then operators_in ns else leaves)
    else if k == 2 then (if bytes_eq f (codes "set_prolog_flag") then flag_in ns else leaves)
    else leaves

-- What the goal with these nodes changes.
abbrev pub effect_in : List Node → Effect
effect_in (Comp f k ∷ ns) = effect_named f k ns
effect_in _ = leaves
