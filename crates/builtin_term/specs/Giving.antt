-- What the predicates that make terms and take them apart give.
use Rattle.std.specs.Prelude.{ℕ, ◌≡◌, zero, List, map, ◌*◌, length}
use Rattle.pl_term.specs.Tree.{Trees, var}
use Rattle.pl_model.specs.History.{Proc}
use Rattle.pl_model.specs.BuiltinRows.{Row as Defined}
use Rattle.atom_api.specs.Names.{Names}
use Rattle.term_store.specs.Contents.{Contents, Holds, term_at, upwards}
use Rattle.builtin_rows.specs.declared.row.Row.{Row}
use Rattle.builtin_rows.specs.Given.{given}
use Rattle.builtin_rows.specs.Rows.{IsRow, Makes}
use Rattle.std.specs.List.{All}
use Rattle.term_store.specs.declared.words.Place.{Place}
use Rattle.pl_model.specs.Terms.{list_term}
use Rattle.pl_model.specs.TermBuiltins.{makes, two}
use Rattle.world_builtins.specs.Spelling.{reads}

-- The store was `s` and is `t`, and the row of places stands for what the predicate `p` gives by this row of the definition,
-- whatever its arguments are, where `next` is the next number of a variable and `m` are the atoms that are held.
abbrev pub IsGiven : Contents → ℕ → Proc → Defined → Names → Contents → Row → Type 0
IsGiven s next p row m t r = (ts : Trees) → IsRow s next ts (given p ts next s.used s.budget row) m t r

-- At these places stand new variables, `count` of them, with the numbers from `next` on.
pub record IsFresh (s : Contents) (next count : ℕ) (t : Contents) (ps : List Place) : Type 0 where
  pub makes : Makes s next count zero t
  pub inside : All (Holds t) ps
  pub stand : map (term_at t) ps ≡ map var (upwards next count)

-- The row in which the list of the terms at these places is made.
abbrev pub list_row : Names → Contents → Place → List Place → Defined
list_row m s first items = makes (two (reads m s first) (list_term (map (reads m s) items))) (3 * length items)
