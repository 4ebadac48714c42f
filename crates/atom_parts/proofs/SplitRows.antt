-- Answers of atom_concat/3 by lines of its table.
use Rattle.std.proofs.Common.{◌≡◌, ℕ, suc, ◌-◌, ◌≤◌, true, List, [], ◌∷◌, length, take, drop, Option, Some, None, refl, sym, ap, ap₂, subst, ◌∙◌, arith}
use Rattle.std.specs.List.{All, Contains}
use Rattle.std.proofs.lemmas.List.Elements.{All-cons, All-head, All-nil, All-tail}
use Rattle.pl_term.specs.Tree.{Chars, Trees}
use Rattle.pl_model.specs.BuiltinRows.{Answer, unifying}
use Rattle.pl_model.specs.Checks.{text_of_atom}
use Rattle.pl_model.specs.TermBuiltins.{three}
use Rattle.atom_api.specs.Names.{Names}
use Rattle.term_store.specs.declared.words.Place.{Place}
use Rattle.term_store.specs.Contents.{Contents, Holds}
use Rattle.world_api.specs.Asked.{texts_in_all}
use Rattle.world_api.specs.Gains.{Gains}
use Rattle.world_builtins.specs.Naming.{IsHeldAt}
use Rattle.world_builtins.specs.Spelling.{reads}
use Rattle.builtin_rows.specs.declared.row.Row.{Row}
use Rattle.builtin_rows.specs.declared.row.Row.TheVariants.{Fails}
use Rattle.builtin_rows.specs.Rows.{IsLine}
use Rattle.atom_parts.specs.declared.columns.Column.{Column}
use Rattle.atom_parts.specs.declared.columns.Value.{Value}
use Rattle.atom_parts.specs.declared.columns.Value.TheVariants.{Part}
use Rattle.atom_parts.specs.declared.columns.Wanted.TheVariants.{Is}
use Rattle.atom_parts.specs.declared.splits.Splits.{Splits}
use Rattle.atom_parts.specs.Columns.{does_unify, value_tree, values_of, wanted_tree}
use Rattle.atom_parts.specs.Following.{IsFollowing}
use Rattle.atom_parts.specs.Lined.{AreSplits, AsksFromLine, IsFromLine, three_at}
use Rattle.atom_parts.specs.Splits.{IsNextSplit, split_columns, split_line, split_wanted, splits_of}
use Rattle.atom_parts.specs.Tables.{AreGiven, IsLined, IsShort}
use Rattle.atom_parts.proofs.ColumnLaws.{wanted_there}
use Rattle.atom_parts.proofs.LineLaws.{line_asks, line_of, lined_row, part_short}
use Rattle.atom_parts.proofs.SplitLaws.{follows, line_columns, line_met, split_at_place, split_values}

-- What is wanted are the arguments.
pub splits_are : (m : Names) (s : Contents) (first second whole : Place) (text : Chars) (w : Splits) → AreSplits m s first second whole text w
    → three_at m s first second whole ≡ split_wanted text w
splits_are m s first second whole text w is =
    ap₂ (λ a b. three a b (reads m s whole)) is.first_is is.second_is
    ∙ ap (three (wanted_tree text w.first) (wanted_tree text w.second)) is.whole_is

pub whole_split : (m : Names) (s : Contents) (first second whole : Place) (text : Chars) (w : Splits) → AreSplits m s first second whole text w
    → text_of_atom (reads m s whole) ≡ take w.length text
whole_split m s first second whole text w is = ap text_of_atom is.whole_is

module _ (text : Chars) (w : Splits) (within : w.length ≤ length text) where
  next_follows : (k : ℕ) (o : Option ℕ) → IsNextSplit text w k o → IsFollowing (split_wanted text w) (splits_of (take w.length text)) k o
  next_follows k None is = is.next
  next_follows k (Some j) is =
      follows (split_wanted text w) (splits_of (take w.length text)) k j (split_line (take w.length text) j) is.next
      (line_met (split_wanted text w) (splits_of (take w.length text)) j (split_line (take w.length text) j)
      (split_at_place text w within j is.splits.0) (sym (line_columns text w within j is.splits.0) ∙ is.splits.1))

  pub split_lined : (from k next : ℕ) (o : Option ℕ) → IsNextSplit text w from (Some k) → next ≡ suc k → IsNextSplit text w next o
      → IsLine (split_wanted text w) (splits_of (take w.length text)) from (values_of text (split_columns w k)) o
  split_lined from k next o is e after =
      subst (λ (vs : Trees). IsLine (split_wanted text w) (splits_of (take w.length text)) from vs o) (sym (split_values text w within k is.splits.0))
      (line_of (split_wanted text w) (splits_of (take w.length text)) from (suc k) (split_line (take w.length text) k).terms o is.next
      (subst (λ j. IsFollowing (split_wanted text w) (splits_of (take w.length text)) j o) e (next_follows next o after)))

-- The columns have what their arguments are.
pub split_given : (m : Names) (s : Contents) (first second whole : Place) (text : Chars) (w : Splits) (k : ℕ) → AreSplits m s first second whole text w
    → Holds s first → Holds s second → Holds s whole → IsHeldAt m s first → IsHeldAt m s second → IsHeldAt m s whole
    → does_unify text (split_columns w k) ≡ true → AreGiven m s text (split_columns w k) (first ∷ (second ∷ (whole ∷ [])))
split_given m s first second whole text w k is hf hs hw mf ms mw met =
    let P : Column → Type 0 = λ (c : Column). (v : Value) → c.wanted ≡ Is v → value_tree text v ≡ value_tree text c.value in
    let a : Column = record { wanted = w.first; value = Part 0 k } in
    let b : Column = record { wanted = w.second; value = Part k (w.length - k) } in
    let c : Column = record { wanted = Is (Part 0 w.length); value = Part 0 w.length } in
    let all : All P (a ∷ (b ∷ (c ∷ []))) = wanted_there text (split_columns w k) met in
    let rest = All-tail P a (b ∷ (c ∷ [])) all in
    let last = All-tail P b (c ∷ []) rest in (
      record { inside = hf; held = mf; wanted = is.first_is; there = All-head P a (b ∷ (c ∷ [])) all },
      (
        record { inside = hs; held = ms; wanted = is.second_is; there = All-head P b (c ∷ []) rest },
        (record { inside = hw; held = mw; wanted = is.whole_is; there = All-head P c [] last }, tt),
      ),
    )

pub split_short : (m : Names) (s : Contents) (first second whole : Place) (text : Chars) (w : Splits) (k : ℕ) → AreSplits m s first second whole text w → k ≤ w.length
    → All (IsShort text) (split_columns w k)
split_short m s first second whole text w k is le =
    let P : Column → Type 0 = IsShort text in
    let a : Column = record { wanted = w.first; value = Part 0 k } in
    let b : Column = record { wanted = w.second; value = Part k (w.length - k) } in
    let c : Column = record { wanted = Is (Part 0 w.length); value = Part 0 w.length } in
    All-cons P a (b ∷ (c ∷ [])) (part_short text w.length 0 k (omega (arith, le)) is.short)
    (All-cons P b (c ∷ []) (part_short text w.length k (w.length - k) (omega (arith, le)) is.short)
    (All-cons P c [] is.short (All-nil P)))

-- The row of a line.
module _ (m : Names) (s : Contents) (first second whole : Place) (text : Chars) (w : Splits) (line : ℕ) (is : AreSplits m s first second whole text w) where
  abbrev arguments : Trees
  arguments = three_at m s first second whole

  abbrev lines : List Answer
  lines = splits_of (text_of_atom (reads m s whole))

  at_arguments : (P : Trees → List Answer → Type 0) → P (split_wanted text w) (splits_of (take w.length text)) → P arguments lines
  at_arguments P h =
      subst (λ (ts : Trees). P ts lines) (sym (splits_are m s first second whole text w is))
      (subst (λ (cs : Chars). P (split_wanted text w) (splits_of cs)) (sym (whole_split m s first second whole text w is)) h)

  pub split_stands : (n : Names) (k next : ℕ) (o : Option ℕ) (cs : List Column) (r : Row) → Holds s first → Holds s second → Holds s whole
      → IsHeldAt m s first → IsHeldAt m s second → IsHeldAt m s whole → IsNextSplit text w line (Some k) → next ≡ suc k → IsNextSplit text w next o
      → cs ≡ split_columns w k → IsLined m n text cs (first ∷ (second ∷ (whole ∷ []))) o r → IsFromLine s arguments lines line n r
  split_stands n k next o cs r hf hs hw mf ms mw found e after same lined =
      at_arguments (λ ts xs. IsFromLine s ts xs line n r)
      (lined_row m n s text (split_columns w k) (first ∷ (second ∷ (whole ∷ []))) o r (split_wanted text w) (splits_of (take w.length text)) line
      (subst (λ (l : List Column). IsLined m n text l (first ∷ (second ∷ (whole ∷ []))) o r) same lined)
      (split_given m s first second whole text w k is hf hs hw mf ms mw found.splits.1)
      (split_lined text w is.within line k next o found e after))

  pub split_asks : (k next : ℕ) (o : Option ℕ) (cs : List Column) (old new : Option (List Chars)) → IsNextSplit text w line (Some k) → next ≡ suc k → IsNextSplit text w next o
      → cs ≡ split_columns w k → Gains (Contains (texts_in_all (values_of text cs))) old new → AsksFromLine arguments lines line old new
  split_asks k next o cs old new found e after same gains =
      at_arguments (λ ts xs. AsksFromLine ts xs line old new)
      (line_asks (split_wanted text w) (splits_of (take w.length text)) line (values_of text (split_columns w k)) o old new
      (split_lined text w is.within line k next o found e after)
      (subst (λ (l : List Column). Gains (Contains (texts_in_all (values_of text l))) old new) same gains))

  pub split_none : (n : Names) → IsNextSplit text w line None → IsFromLine s arguments lines line n Fails
  split_none n none k = (at_arguments (λ ts xs. unifying ts (drop line xs) ≡ []) none.next, refl)
